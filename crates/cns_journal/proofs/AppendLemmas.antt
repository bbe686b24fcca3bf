-- What each of the two writes of a commit may leave.
use Rattle.std.proofs.Common.{◌≡◌, ◌⊎◌, inl, inr, ℕ, ◌+◌, ◌≤◌, List, [], ◌∷◌, ◌++◌, length, get_or, take, drop, refl, sym, ◌∙◌, ap, subst, arith, length-drop, length-append, append_assoc}
use Rattle.std.proofs.lemmas.Bool.{cases_eq}
use Rattle.std.proofs.lemmas.List.{append-nil, take_at, drop_at, get_or_at, get_or_default, get_or-drop, length-take, drop_more, drop-drop}
use Rattle.cns_journal.specs.Disk.{overwritten, Torn, Only}
use Rattle.std.specs.Int.{to_be_bytes, w32}
use Rattle.std.proofs.lemmas.Nat.{from_be_bytes-to_be_bytes_4}
use Rattle.cns_journal.specs.Layout.{journal_of, size_of, payload_length, first_payload, behind, closed_record, HasWithOrWithout, IsSettled}
use Rattle.cns_journal.proofs.LayoutLemmas.{Counts, byte-same, counts-shut, front-same, journal-more, journal-none, journal-behind, journal-closed, first-of-drop, size-append}

-- a record's bytes behind this gate, and what stands behind them
abbrev pub tail_of : ℕ → List ℕ → List ℕ → List ℕ
tail_of gate p junk = gate ∷ (closed_record p ++ junk)

module _ (gate : ℕ) (p junk : List ℕ) (small : length p ≤ 1048576) where
  abbrev tail : List ℕ
  tail = tail_of gate p junk

  -- the record, and then the closed gate
  abbrev front : List ℕ
  front = gate ∷ (to_be_bytes w32 (length p) ++ p)

  tail-is : tail ≡ front ++ 0 ∷ junk
  tail-is = ap (λ (l : List ℕ). gate ∷ (to_be_bytes w32 (length p) ++ l)) (append_assoc p (0 ∷ []) junk)

  -- the length of the record is the payload's
  pub size-tail : payload_length tail ≡ length p
  size-tail = omega (arith, from_be_bytes-to_be_bytes_4 (length p) (omega arith))

  -- all of it is a gate, the record, the next gate and what stands behind
  pub length-tail : length tail ≡ 6 + length p + length junk
  length-tail = ap length tail-is ∙ omega (arith, length-append p (0 ∷ junk))

  -- behind the record stands the closed gate
  pub behind-tail : behind tail ≡ 0 ∷ junk
  behind-tail = ap (λ (k : ℕ). drop (5 + k) tail) size-tail ∙ ap (drop (5 + length p)) tail-is ∙ drop_at front (0 ∷ junk) (5 + length p) (omega arith)

  -- the gate behind the record
  pub closed-tail : get_or tail (5 + length p) 1 ≡ 0
  closed-tail = ap (λ (l : List ℕ). get_or l (5 + length p) 1) tail-is ∙ get_or_at front 0 junk 1 (5 + length p) (omega arith)

  -- the record counts where its gate is open
  pub counts-tail : gate ≡ 165 → Counts tail
  counts-tail opened = record { gate = opened; allowed = omega (arith, size-tail); whole = omega (arith, size-tail, length-tail) }

  -- and is the only one then
  tail-open : gate ≡ 165 → journal_of tail ≡ p ∷ []
  tail-open opened =
      let first : first_payload tail ≡ p = ap (λ (k : ℕ). take k (drop 5 tail)) size-tail ∙ ap (take (length p)) (append_assoc p (0 ∷ []) junk) ∙ take_at p (0 ∷ junk) (length p) refl in
      journal-more tail (counts-tail opened) ∙ (λ i. first i ∷ journal_of (behind-tail i))

-- what a write leaves is the file that it found, or one that is no shorter, and the same before the place of the write and behind it
pub by_torn : (P : List ℕ → Type 0) (at n : ℕ) (old image : List ℕ)
    → ((c : List ℕ) → length old ≤ length c → take at c ≡ take at old → drop (at + n) c ≡ drop (at + n) old → P c) → (image ≡ old) ⊎ Torn at n old image → P image
by_torn P at n old image holds (inl is) = subst P (sym is) (holds old (omega arith) refl refl)
by_torn P at n old image holds (inr torn) = holds image torn.no_shorter torn.before torn.after

-- a record is put behind the closed gate of a file
module _ {f : List ℕ} {images : List ℕ → Type 0} {end : ℕ} (s : IsSettled f images end) (p : List ℕ) {block : List ℕ} (block_is : block ≡ closed_record p) (small : length p ≤ 1048576) where
  -- a file that is the same up to the closed gate
  pub shut-gate : (image : List ℕ) → take (end + 1) image ≡ take (end + 1) f → get_or image end 0 ≡ 0
  shut-gate image same = byte-same (end + 1) end image f same (omega arith) ∙ get_or_default f end 0 1 s.inside ∙ s.closed

  -- what a crash leaves of the write has the records of the file
  pub stage-leaves : (image : List ℕ) → (image ≡ f) ⊎ Torn (end + 1) (length block) f image → journal_of image ≡ journal_of f
  stage-leaves image = by_torn (λ (c : List ℕ). journal_of c ≡ journal_of f) (end + 1) (length block) f image (λ c long same rest.
      journal-closed f c end s.end_is (omega (arith, s.inside, long)) (front-same end (end + 1) c f (omega arith) same) (λ opened. omega (arith, opened, shut-gate c same)))

  -- what stands behind the bytes that were written
  abbrev pub junk : List ℕ
  junk = drop (end + 1 + length block) f

  module _ {g : List ℕ} (written : g ≡ overwritten f (end + 1) block) where
    length-front : length (take (end + 1) f) ≡ end + 1
    length-front = omega (arith, length-take (end + 1) f, s.inside)

    staged-is : g ≡ take (end + 1) f ++ (block ++ junk)
    staged-is = written ∙ append_assoc (take (end + 1) f) block junk

    -- the file once they are written: its length, and what stands up to the gate
    pub length-staged : length g ≡ end + 6 + length p + length junk
    length-staged = ap length staged-is ∙ omega (arith, length-append (take (end + 1) f) (block ++ junk), length-front, length-append block junk, ap length block_is, length-append p (0 ∷ []))

    pub staged-front : take end g ≡ take end f
    staged-front = front-same end (end + 1) g f (omega arith) (ap (take (end + 1)) staged-is ∙ take_at (take (end + 1) f) (block ++ junk) (end + 1) length-front)

    -- what stands from the gate on, in a file that is the same behind it
    pub staged-tail : (image : List ℕ) → length g ≤ length image → drop (end + 1) image ≡ drop (end + 1) g → drop end image ≡ tail_of (get_or image end 0) p junk
    staged-tail image long rest = drop_more image end 0 (omega (arith, long, length-staged)) ∙ ap (λ (l : List ℕ). get_or image end 0 ∷ l) (rest
        ∙ ap (drop (end + 1)) staged-is ∙ drop_at (take (end + 1) f) (block ++ junk) (end + 1) length-front ∙ ap (λ (l : List ℕ). l ++ junk) block_is)

    -- the records of such a file, by its gate
    at-gate : (image : List ℕ) → length g ≤ length image → take end image ≡ take end g → drop (end + 1) image ≡ drop (end + 1) g
        → journal_of image ≡ journal_of f ++ journal_of (tail_of (get_or image end 0) p junk)
    at-gate image long same rest = journal-behind f image end s.end_is (omega (arith, long, length-staged)) (same ∙ staged-front)
        ∙ ap (λ (l : List ℕ). journal_of f ++ journal_of l) (staged-tail image long rest)

    -- what a crash leaves of the gate that is opened then has the record, or has it not
    pub gate-leaves : (image : List ℕ) → (image ≡ g) ⊎ Torn end 1 g image → HasWithOrWithout (journal_of f) p image
    gate-leaves image = by_torn (HasWithOrWithout (journal_of f) p) end 1 g image (λ c long same rest.
        let gate : ℕ = get_or c end 0 in elim (cases_eq gate 165) [
          | inl opened ↦ inr (at-gate c long same rest ∙ ap (λ (l : List (List ℕ)). journal_of f ++ l) (tail-open gate p junk small opened))
          | inr shut ↦ inl (at-gate c long same rest ∙ ap (λ (l : List (List ℕ)). journal_of f ++ l) (journal-none (tail_of gate p junk) (counts-shut (tail_of gate p junk) shut)) ∙ append-nil (journal_of f))
        ])

    -- the gate is within the file
    pub gate-fits : end ≤ length g
    gate-fits = omega (arith, length-staged)

    -- both writes done, the record is in
    module _ {h : List ℕ} (opened : h ≡ overwritten g end (165 ∷ [])) where
      -- what stands up to the gate, and from there on
      opened-is : h ≡ take end g ++ 165 ∷ drop (end + 1) g
      opened-is = opened ∙ append_assoc (take end g) (165 ∷ []) (drop (end + 1) g)

      length-opened : length h ≡ length g
      length-opened = ap length opened-is ∙ omega (arith, length-append (take end g) (165 ∷ drop (end + 1) g), length-take end g, length-drop (end + 1) g, length-staged)

      length-start : length (take end g) ≡ end
      length-start = omega (arith, length-take end g, length-staged)

      opened-from : drop end h ≡ 165 ∷ drop (end + 1) g
      opened-from = ap (drop end) opened-is ∙ drop_at (take end g) (165 ∷ drop (end + 1) g) end length-start

      opened-tail : drop end h ≡ tail_of 165 p junk
      opened-tail =
          let gate = sym (first-of-drop end h) ∙ ap (λ (l : List ℕ). get_or l 0 0) opened-from in
          staged-tail h (omega (arith, length-opened)) (sym (drop-drop 1 end h) ∙ ap (drop 1) opened-from) ∙ ap (λ (x : ℕ). tail_of x p junk) gate

      -- the file has its records and the new one
      journal-opened : journal_of h ≡ journal_of f ++ p ∷ []
      journal-opened = journal-behind f h end s.end_is (omega (arith, length-opened, length-staged)) (ap (take end) opened-is ∙ take_at (take end g) (165 ∷ drop (end + 1) g) end length-start ∙ staged-front)
          ∙ ap (λ (l : List ℕ). journal_of f ++ journal_of l) opened-tail ∙ ap (λ (l : List (List ℕ)). journal_of f ++ l) (tail-open 165 p junk small refl)

      -- so it is settled at the end of that one
      pub both-done : (left : List ℕ → Type 0) → Only h left → IsSettled h left (end + 5 + length p) × (journal_of h ≡ journal_of f ++ p ∷ [])
      both-done left only = (
        record {
          end_is = omega (arith, ap size_of journal-opened, size-append (journal_of f) (p ∷ []), s.end_is);
          inside = omega (arith, length-opened, length-staged);
          closed = ap (λ (k : ℕ). get_or h k 1) (omega arith) ∙ sym (get_or-drop end h (5 + length p) 1) ∙ ap (λ (l : List ℕ). get_or l (5 + length p) 1) opened-tail ∙ closed-tail 165 p junk small;
          durable = only;
        },
        journal-opened,
      )

-- what stands below the place of a write stays
pub front-stays : (f c : List ℕ) (end at n : ℕ) → end ≤ at → (c ≡ f) ⊎ Torn at n f c → take end c ≡ take end f
front-stays f c end at n le = by_torn (λ (x : List ℕ). take end x ≡ take end f) at n f c (λ x long same rest. front-same end at x f le same)

-- the records below the end of a settled file
pub below-end : {f : List ℕ} (c : List ℕ) {images : List ℕ → Type 0} {end : ℕ} → IsSettled f images end → take end c ≡ take end f → journal_of (take end c ++ 0 ∷ []) ≡ journal_of f
below-end {f} c {end = end} s same =
    let front : length (take end c) ≡ end = ap length same ∙ omega (arith, length-take end f, s.inside) in
    journal-closed f (take end c ++ 0 ∷ []) end s.end_is (omega (arith, length-append (take end c) (0 ∷ []), front)) (take_at (take end c) (0 ∷ []) end front ∙ same)
    (λ opened. omega (arith, opened, get_or_at (take end c) 0 [] 0 end front))
