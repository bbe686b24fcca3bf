-- What the records of a file read so far leave of it.
use Rattle.std.proofs.Common.{◌≡◌, ℕ, ◌+◌, ◌-◌, ◌*◌, ◌<◌, ◌≤◌, true, false, List, [], ◌∷◌, ◌++◌, length, drop, map, sym, ◌∙◌, ap, subst, arith, append_assoc, length-append, length-drop}
use Rattle.std.proofs.lemmas.List.{append-nil, drop-drop, map-append}
use Rattle.cns_journal.specs.Layout.{payload_length, counts, first_payload, behind, journal_of, size_of}
use Rattle.cns_journal.proofs.LayoutLemmas.{counts-true, journal-more, length-part, records-false}
use Rattle.cns_journal.specs.Tail.{behind_records, end_of}

-- the rest of a file behind some records
pub record IsRest (file rest : List ℕ) (records : ℕ) : Type 0 where
  -- each record takes five bytes at least
  pub within : 5 * records + length rest ≤ length file
  pub stands : rest ≡ drop (length file - length rest) file
  pub size : (length file - length rest) + size_of (journal_of rest) ≡ size_of (journal_of file)
  pub count : records + length (journal_of rest) ≡ length (journal_of file)

pub whole_rest : (file : List ℕ) → IsRest file file 0
whole_rest file = let none : length file - length file ≡ 0 = omega arith in record {
  within = omega arith;
  stands = ap (λ k. drop k file) (sym none);
  size = omega arith;
  count = omega arith;
}

pub next_rest : (file rest next : List ℕ) (records : ℕ) → IsRest file rest records → counts rest ≡ true → next ≡ behind rest → IsRest file next (records + 1)
next_rest file rest next records so_far whole is =
    let c = counts-true rest whole in
    let w = c.whole in
    let n = so_far.within in
    let l : length next ≡ length rest - (5 + payload_length rest) = ap (λ (l : List ℕ). length l) is ∙ length-drop (5 + payload_length rest) rest in
    let more : journal_of rest ≡ first_payload rest ∷ journal_of next = journal-more rest c ∙ ap (λ l. first_payload rest ∷ journal_of l) (sym is) in
    let part = length-part rest (payload_length rest) w in
    let size : size_of (journal_of rest) ≡ 5 + length (first_payload rest) + size_of (journal_of next) = ap size_of more in
    let count : length (journal_of rest) ≡ length (first_payload rest ∷ journal_of next) = ap (λ (l : List (List ℕ)). length l) more in
    record {
      within = omega arith;
      stands = is ∙ ap (λ l. drop (5 + payload_length rest) l) so_far.stands ∙ drop-drop (5 + payload_length rest) (length file - length rest) file ∙ ap (λ k. drop k file) (omega arith);
      size = omega (arith, so_far.size);
      count = omega (arith, so_far.count);
    }

-- no record is left
pub record IsEnd (file rest : List ℕ) (records : ℕ) : Type 0 where
  pub records_are : records ≡ length (journal_of file)
  pub end_is : length file - length rest ≡ end_of file
  pub rest_is : rest ≡ behind_records file

pub last_rest : (file rest : List ℕ) (records : ℕ) → IsRest file rest records → counts rest ≡ false → IsEnd file rest records
last_rest file rest records so_far none =
    let empty : journal_of rest ≡ [] = records-false (length rest) rest none in
    let size : size_of (journal_of rest) ≡ 0 = ap size_of empty in
    let count : length (journal_of rest) ≡ 0 = ap (λ (l : List (List ℕ)). length l) empty in
    let end_is : length file - length rest ≡ end_of file = omega (arith, so_far.size) in
    record {
      records_are = omega (arith, so_far.count);
      end_is = end_is;
      rest_is = so_far.stands ∙ ap (λ k. drop k file) end_is;
    }

pub rest_shrinks : (rest next : List ℕ) → counts rest ≡ true → next ≡ behind rest → length next < length rest
rest_shrinks rest next whole is =
    let w = (counts-true rest whole).whole in
    let l : length next ≡ length rest - (5 + payload_length rest) = ap (λ (l : List ℕ). length l) is ∙ length-drop (5 + payload_length rest) rest in
    omega arith

-- the payloads read so far, and what they leave of the file
pub record AreRead {V : Type 0} (bytes : V → List ℕ) (file rest : List ℕ) (payloads : List V) : Type 0 where
  pub left : IsRest file rest (length payloads)
  pub so_far : map bytes payloads ++ journal_of rest ≡ journal_of file

pub none_read : {V : Type 0} (bytes : V → List ℕ) (file : List ℕ) (payloads : List V) → payloads ≡ [] → AreRead bytes file file payloads
none_read bytes file payloads is = record {
  left = subst (λ (l : List _). IsRest file file (length l)) (sym is) (whole_rest file);
  so_far = ap (λ l. map bytes l ++ journal_of file) is;
}

pub one_read : {V : Type 0} (bytes : V → List ℕ) (file rest next : List ℕ) (payloads more : List V) (payload : V) → AreRead bytes file rest payloads
    → counts rest ≡ true → bytes payload ≡ first_payload rest → next ≡ behind rest → more ≡ payloads ++ payload ∷ [] → AreRead bytes file next more
one_read bytes file rest next payloads more payload so_far whole payload_is next_is more_is =
    let long : length more ≡ length payloads + 1 = ap (λ (l : List _). length l) more_is ∙ length-append payloads (payload ∷ []) in
    record {
      left = subst (IsRest file next) (sym long) (next_rest file rest next (length payloads) so_far.left whole next_is);
      so_far = ap (λ l. map bytes l ++ journal_of next) more_is
          ∙ ap (λ l. l ++ journal_of next) (map-append bytes payloads (payload ∷ []))
          ∙ append_assoc (map bytes payloads) (bytes payload ∷ []) (journal_of next)
          ∙ ap (λ l. map bytes payloads ++ l) ((λ i. payload_is i ∷ journal_of (next_is i)) ∙ sym (journal-more rest (counts-true rest whole)))
          ∙ so_far.so_far;
    }

pub all_read : {V : Type 0} (bytes : V → List ℕ) (file rest : List ℕ) (payloads : List V) → AreRead bytes file rest payloads → counts rest ≡ false → map bytes payloads ≡ journal_of file
all_read bytes file rest payloads so_far none =
    sym (append-nil (map bytes payloads)) ∙ ap (λ l. map bytes payloads ++ l) (sym (records-false (length rest) rest none)) ∙ so_far.so_far
