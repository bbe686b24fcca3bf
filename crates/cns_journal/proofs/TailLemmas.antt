-- What stands behind the records of a file that a crash leaves.
use Rattle.std.proofs.Common.{◌≡◌, ◌⊎◌, inl, inr, ⊎_elim, ℕ, ◌+◌, ◌<◌, ◌≤◌, Bool, true, false, List, [], ◌∷◌, length, get_or, take, drop, refl, sym, ◌∙◌, ap, subst, arith, length-drop, length-append}
use Rattle.std.proofs.lemmas.Bool.{cases_eq}
use Rattle.std.proofs.lemmas.Bool.Decides.{nat_tests}
use Rattle.std.proofs.lemmas.List.{drop-drop, length-take, take-take, take_all}
use Rattle.cns_journal.specs.Disk.{EachImage, OnlyReads, Shortened, Torn, overwritten}
use Rattle.cns_journal.specs.Layout.{IsSettled, behind, closed_record, counts, first_payload, journal_of, payload_length, size_of}
use Rattle.cns_journal.specs.Tail.{DoesNoDamage, IsUndamaged, behind_records, end_of, is_crash}
use Rattle.cns_journal.proofs.AppendLemmas.{behind-tail, by_torn, closed-tail, counts-tail, junk, length-staged, length-tail, shut-gate, size-tail, staged-front, staged-tail, tail_of}
use Rattle.cns_journal.proofs.CloseLemmas.{end_within}
use Rattle.cns_journal.proofs.LayoutLemmas.{Counts, counts-short, counts-shut, first-of-drop, front-same, journal-behind, journal-more, length-part, records-false, size-append}
use Rattle.cns_journal.proofs.Moments.{runs_on}

-- what a crash leaves there is short
length-crash : (tail : List ℕ) → is_crash tail ≡ true → length tail ≤ 1048582
length-crash tail is = grind (arith, nat_tests)

-- bytes of which none count are all behind the records
undamaged-none : (tail : List ℕ) → counts tail ≡ false → is_crash tail ≡ true → IsUndamaged tail
undamaged-none tail none crash = ap (λ ps. is_crash (drop (size_of ps) tail)) (records-false (length tail) tail none) ∙ crash

-- what stands behind the records, record by record
behind-more : (file : List ℕ) → Counts file → behind_records file ≡ behind_records (behind file)
behind-more file c =
    let part = length-part file (payload_length file) c.whole in
    let size : size_of (journal_of file) ≡ 5 + length (first_payload file) + size_of (journal_of (behind file)) = ap size_of (journal-more file c) in
    ap (λ k. drop k file) (omega arith) ∙ sym (drop-drop (size_of (journal_of (behind file))) (5 + payload_length file) file)

-- at most a gate
few-tail : (tail : List ℕ) → length tail ≤ 1 → IsUndamaged tail
few-tail tail few = undamaged-none tail (counts-short tail (omega arith)) (grind (arith, nat_tests))

-- a closed gate, and few bytes behind it
shut-tail : (tail : List ℕ) → get_or tail 0 0 ≡ 0 → 0 < length tail → length tail ≤ 1048582 → IsUndamaged tail
shut-tail tail closed some few = undamaged-none tail (counts-shut tail (λ e. omega arith)) (grind (arith, nat_tests))

-- a gate that is not open, a record behind it with a closed gate behind that, and few bytes
crash-opened : (tail : List ℕ) → (get_or tail 0 0 ≡ 165 → ⊥) → payload_length tail ≤ 1048576 → 5 + payload_length tail < length tail
    → get_or tail (5 + payload_length tail) 1 ≡ 0 → length tail ≤ 1048582 → is_crash tail ≡ true
crash-opened tail shut small whole closed few = grind (arith, nat_tests)

-- any gate, a record behind it with a closed gate behind that, and few bytes
gate-tail : (gate : ℕ) (p junk : List ℕ) → length p ≤ 1048576 → 6 + length p + length junk ≤ 1048582 → IsUndamaged (tail_of gate p junk)
gate-tail gate p junk small few =
    let tail : List ℕ = tail_of gate p junk in
    let size = size-tail gate p junk small in
    let long = length-tail gate p junk small in
    elim (cases_eq gate 165) [
      | inl opened ↦ ap is_crash (behind-more tail (counts-tail gate p junk small opened))
          ∙ subst IsUndamaged (sym (behind-tail gate p junk small)) (shut-tail (0 ∷ junk) refl (omega arith) (omega arith))
      | inr shut ↦ undamaged-none tail (counts-shut tail shut)
          (crash-opened tail shut (omega arith) (omega arith) (rw size (closed-tail gate p junk small)) (omega arith))
    ]

module _ (file : List ℕ) (undamaged : IsUndamaged file) {end : ℕ} (end_is : end ≡ end_of file) where
  -- the file ends not far behind its records
  short : length file ≤ end + 1048582
  short = omega (arith, end_is, length-drop (end_of file) file, length-crash (behind_records file) undamaged)

  -- a file that has the same records before their end, and a byte there
  undamaged-same : (image : List ℕ) → end < length image → take end image ≡ take end file → IsUndamaged (drop end image) → IsUndamaged image
  undamaged-same image inside same tail_undamaged =
      let tail : List ℕ = drop end image in
      let size : end_of image ≡ end + end_of tail = ap size_of (journal-behind file image end end_is inside same) ∙ omega (arith, end_is, size-append (journal_of file) (journal_of tail)) in
      ap is_crash (ap (λ k. drop k image) size ∙ sym (drop-drop (end_of tail) end image)) ∙ tail_undamaged

  -- the records, and at most a gate
  one-byte : (image : List ℕ) → end < length image → length image ≤ end + 1 → take end image ≡ take end file → IsUndamaged image
  one-byte image inside few same = undamaged-same image inside same (few-tail (drop end image) (omega (arith, few, length-drop end image)))

  -- what a crash leaves of a cut behind the gate at the end of the records
  pub cut-undamaged : end < length file → (image : List ℕ) → Shortened (end + 1) file image → IsUndamaged image
  cut-undamaged inside image (inl is) = subst IsUndamaged (sym is) undamaged
  cut-undamaged inside image (inr is) =
      let long : length image ≡ end + 1 = ap length is ∙ omega (arith, length-take (end + 1) file) in
      one-byte image (omega arith) (omega arith) (ap (take end) is ∙ take-take end (end + 1) file (omega arith))

  -- what a crash leaves of a gate that is closed there, where nothing stands behind it
  pub short-undamaged : length file ≤ end + 1 → (image : List ℕ) → (image ≡ file) ⊎ Torn end 1 file image → IsUndamaged image
  short-undamaged few image (inl is) = subst IsUndamaged (sym is) undamaged
  short-undamaged few image (inr torn) =
      let within = end_within file end_is in
      let low = torn.no_shorter in
      let high = torn.no_longer in
      elim (cases_eq (length image) end) [
        | inl at_end ↦ subst IsUndamaged (sym (sym (take_all end image (omega arith)) ∙ torn.before ∙ take_all end file (omega arith))) undamaged
        | inr behind ↦ one-byte image (omega arith) (omega arith) torn.before
      ]

module _ {file : List ℕ} {images : List ℕ → Type 0} {end : ℕ} (settled : IsSettled file images end) (undamaged : IsUndamaged file)
    (payload : List ℕ) {block : List ℕ} (block_is : block ≡ closed_record payload) (small : length payload ≤ 1048576) where
  -- the bytes of a record behind its gate
  length-block : length block ≡ 5 + length payload
  length-block = ap length block_is ∙ omega (arith, length-append payload (0 ∷ []))

  -- what a crash leaves of a record that is put behind the closed gate
  pub record-undamaged : (image : List ℕ) → (image ≡ file) ⊎ Torn (end + 1) (length block) file image → IsUndamaged image
  record-undamaged image (inl is) = subst IsUndamaged (sym is) undamaged
  record-undamaged image (inr torn) =
      let low = torn.no_shorter in
      let high = torn.no_longer in
      let all = short file undamaged settled.end_is in
      let inside = settled.inside in
      let less = length-block in
      let long = length-drop end image in
      undamaged-same file undamaged settled.end_is image (omega arith) (front-same end (end + 1) image file (omega arith) torn.before)
      (shut-tail (drop end image) (first-of-drop end image ∙ shut-gate settled payload block_is small image torn.before) (omega arith) (omega arith))

  -- and of the gate that is opened then
  pub gate-undamaged : {seen : List ℕ} → seen ≡ overwritten file (end + 1) block → (image : List ℕ) → (image ≡ seen) ⊎ Torn end 1 seen image → IsUndamaged image
  gate-undamaged {seen} written image =
      let all = short file undamaged settled.end_is in
      let size = length-staged settled payload block_is small written in
      let rest : List ℕ = junk settled payload block_is small in
      by_torn IsUndamaged end 1 seen image (λ c long same behind.
      undamaged-same file undamaged settled.end_is c (omega arith) (same ∙ staged-front settled payload block_is small written)
      (subst IsUndamaged (sym (staged-tail settled payload block_is small written c long behind))
      (gate-tail (get_or c end 0) payload rest small (omega (arith, all, size, length-drop (end + 1 + length block) file, length-block)))))

-- calls of a disk, where since a moment there has been no other
module _ {D : Type 0} {honest : D → Bool} (seen : D → List ℕ) {images : D → List ℕ → Type 0} {moment : D → ℕ} {left_since : D → ℕ → List ℕ → Type 0}
    (only_now : (disk : D) (image : List ℕ) → honest disk ≡ true → left_since disk (moment disk) image → images disk image)
    {old read : D} (sure : honest old ≡ true) (reads : OnlyReads seen images moment left_since old read) (whole : EachImage (images old) IsUndamaged) where
  -- reading does no damage
  pub reads-undamaged : DoesNoDamage images moment left_since old read
  reads-undamaged = record {
    any_moment = record {
      later = reads.later;
      each = λ image left. ⊎_elim (λ past. whole image (only_now old image sure past)) (whole image) (reads.before (moment old) image (omega arith) left);
      before = λ t image le left. ⊎_elim inl (λ here. inr (whole image here)) (reads.before t image le left);
    };
    after = λ image now. whole image (reads.fewer image now);
  }

  -- nor does what does none to the file as it was read
  pub closed-undamaged : {closed : D} → images read (seen read) → (IsUndamaged (seen read) → DoesNoDamage images moment left_since read closed) → DoesNoDamage images moment left_since old closed
  closed-undamaged is_image closes = let second = closes (whole (seen read) (reads.fewer (seen read) is_image)) in
      record { any_moment = runs_on reads-undamaged.any_moment second.any_moment; after = second.after }
