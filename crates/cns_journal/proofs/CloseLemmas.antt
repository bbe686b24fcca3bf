-- What cutting the file behind its records, and closing the gate there, may leave.
use Rattle.std.proofs.Common.{◌≡◌, ◌⊎◌, inl, inr, ℕ, zero, suc, ◌+◌, ◌<◌, ◌≤◌, List, [], ◌∷◌, ◌++◌, length, get_or, take, drop, Some, None, sym, ◌∙◌, ap, arith, length-drop, length-append, append_assoc}
use Rattle.std.specs.Prelude.{slice_get}
use Rattle.std.proofs.lemmas.List.{append-nil, take_at, take_all, drop_all, get_or_at, length-take, take-take}
use Rattle.std.proofs.lemmas.Bool.{cases_eq}
use Rattle.std.proofs.lemmas.Option.{gets, get_or_from_slice_get, slice_get_within}
use Rattle.cns_journal.specs.Disk.{overwritten, Only, Shortened, Torn}
use Rattle.cns_journal.specs.Layout.{payload_length, counts, first_records, journal_of, size_of, behind, IsSettled}
use Rattle.cns_journal.proofs.LayoutLemmas.{by_bool, counts-short, counts-true, front-same, journal-behind, journal-none, length-part, records-true, records-false}

-- the records stand within the file
size-first : (n : ℕ) (bytes : List ℕ) → size_of (first_records n bytes) ≤ length bytes
size-first zero bytes = omega arith
size-first (suc n) bytes = by_bool (counts bytes)
    (λ e. let w = (counts-true bytes e).whole in
    rw (records-true n bytes e) (omega (arith, size-first n (behind bytes), length-drop (5 + payload_length bytes) bytes, length-part bytes (payload_length bytes) w, w)))
    (λ e. rw (records-false (suc n) bytes e) (omega arith))

pub size-within : (file : List ℕ) → size_of (journal_of file) ≤ length file
size-within file = size-first (length file) file

module _ (file : List ℕ) {end : ℕ} (end_is : end ≡ size_of (journal_of file)) where
  -- so does their end
  pub end_within : end ≤ length file
  end_within = omega (arith, end_is, size-within file)

  -- a file that is the same up to the end, and has a byte there and few behind it
  same_records : (image : List ℕ) → take end image ≡ take end file → end < length image → length image ≤ end + 5 → journal_of image ≡ journal_of file
  same_records image same inside few = journal-behind file image end end_is inside same
      ∙ ap (λ ps. journal_of file ++ ps) (journal-none (drop end image) (counts-short (drop end image) (omega (arith, few, length-drop end image)))) ∙ append-nil (journal_of file)

  -- the file is cut behind the gate
  pub shortened_same : (image : List ℕ) → end < length file → Shortened (end + 1) file image → (journal_of image ≡ journal_of file) × (take end image ≡ take end file)
  shortened_same image inside (inl is) = (ap journal_of is, ap (take end) is)
  shortened_same image inside (inr is) = let l : length image ≡ end + 1 = ap length is ∙ omega (arith, length-take (end + 1) file) in
      let same : take end image ≡ take end file = ap (take end) is ∙ front-same end (end + 1) (take (end + 1) file) file (omega arith) (take-take (end + 1) (end + 1) file (omega arith)) in
      (same_records image same (omega arith) (omega arith), same)

  -- one byte is written at the end, with nothing behind it
  pub torn_same : (image : List ℕ) → length file ≤ end + 1 → (image ≡ file) ⊎ Torn end 1 file image → (journal_of image ≡ journal_of file) × (take end image ≡ take end file)
  torn_same image few (inl is) = (ap journal_of is, ap (take end) is)
  torn_same image few (inr torn) = let w = end_within in let low = torn.no_shorter in let high = torn.no_longer in elim (cases_eq (length image) end) [
    | inl at_end ↦ (ap journal_of (sym (take_all end image (omega arith)) ∙ torn.before ∙ take_all end file (omega arith)), torn.before)
    | inr behind ↦ (same_records image torn.before (omega arith) (omega arith), torn.before)
  ]

  -- the closed gate at the end, with nothing behind it
  pub closed_settled : (images : List ℕ → Type 0) (closed : List ℕ) → length file ≤ end + 1 → closed ≡ overwritten file end (0 ∷ []) → Only closed images
      → IsSettled closed images end × (journal_of closed ≡ journal_of file) × (take end closed ≡ take end file)
  closed_settled images closed few is only = let w = end_within in let t : length (take end file) ≡ end = omega (arith, length-take end file) in
      let whole : closed ≡ take end file ++ 0 ∷ [] = is ∙ append_assoc (take end file) (0 ∷ []) (drop (end + 1) file) ∙ ap (λ l. take end file ++ 0 ∷ l) (drop_all (end + 1) file few) in
      let long : length closed ≡ end + 1 = ap length whole ∙ omega (arith, length-append (take end file) (0 ∷ [])) in
      let front : take end closed ≡ take end file = ap (take end) whole ∙ take_at (take end file) (0 ∷ []) end t in
      let same : journal_of closed ≡ journal_of file = same_records closed front (omega arith) (omega arith) in
      (record { end_is = end_is ∙ ap size_of (sym same); inside = omega arith; closed = ap (λ l. get_or l end 1) whole ∙ get_or_at (take end file) 0 [] 1 end t; durable = only }, same, front)

-- what is known of the file once it is cut behind the gate
pub cut_same : (file : List ℕ) {end : ℕ} → end ≡ size_of (journal_of file) → (cut : List ℕ) → end < length file → cut ≡ take (end + 1) file
    → (end ≡ size_of (journal_of cut)) × (length cut ≤ end + 1) × (journal_of cut ≡ journal_of file) × (take end cut ≡ take end file)
cut_same file {end} end_is cut inside is = let same = shortened_same file end_is cut inside (inr is) in
    (end_is ∙ ap size_of (sym same.0), omega (arith, ap length is, length-take (end + 1) file), same.0, same.1)

-- a byte stands at the end of the file
pub inside_by : (file : List ℕ) (end : ℕ) {gate : _} {byte : ℕ} → gate ≡ slice_get file end → gate ≡ Some byte → end < length file
inside_by file end is some = slice_get_within file end _ (sym is ∙ some)

-- no byte stands at the end of the file
pub few_by : (file : List ℕ) (end : ℕ) {gate : _} → gate ≡ slice_get file end → gate ≡ None → length file ≤ end + 1
few_by file end is none = grind (arith, gets)

-- a gate that is closed already
pub settled_by : {file : List ℕ} {images : List ℕ → Type 0} {end : ℕ} {gate : _} {byte : ℕ} → Only file images → end ≡ size_of (journal_of file) → gate ≡ slice_get file end
    → gate ≡ Some byte → byte ≡ 0 → IsSettled file images end
settled_by {file} {end = end} {byte = byte} only end_is is some zero_is =
    record { end_is = end_is; inside = inside_by file end is some; closed = get_or_from_slice_get file end byte 1 (sym is ∙ some) ∙ zero_is; durable = only }
