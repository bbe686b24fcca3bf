-- What reading the records of a file one after another gives.
use Rattle.std.proofs.Common.{◌≡◌, inr, ⊎_elim, ℕ, zero, suc, Option, map, length-append, ◌+◌, ◌<◌, ◌≤◌, true, false, List, [], ◌∷◌, ◌++◌, length, get_or, take, drop, refl, sym, ◌∙◌, ap, arith, append_assoc}
use Rattle.std.proofs.lemmas.List.{append-nil, map_push, drop-drop, length-drop}
use Rattle.std.specs.Prelude.{slice_get}
use Rattle.cns_journal.specs.Disk.{OnlyReads}
use Rattle.cns_journal.specs.Layout.{payload_length, counts, first_payload, journal_of, size_of}
use Rattle.cns_journal.proofs.LayoutLemmas.{counts-of, counts-true, journal-more, journal-none, length-part, size-append}

-- a header, with the payload that stands behind it
pub is_next : (file : List ℕ) (at left gate size : ℕ) (payload : List ℕ) → at + left ≡ length file → gate ≡ get_or (drop at file) 0 0 → size ≡ payload_length (drop at file)
    → gate ≡ 165 → size ≤ 1048576 → 5 + size < left → payload ≡ take size (drop (at + 5) file)
    → (counts (drop at file) ≡ true) × (payload ≡ first_payload (drop at file))
is_next file at left gate size payload left_is gate_is size_is opened small whole payload_is = (
  counts-of (drop at file) (record { gate = sym gate_is ∙ opened; allowed = omega arith; whole = omega (arith, whole, size_is, length-drop at file) }),
  payload_is ∙ ap (λ k. take k (drop (at + 5) file)) size_is ∙ ap (take (payload_length (drop at file))) (sym (drop-drop 5 at file)),
)

-- the first byte from a place on, where there is one, is the one at it
slice_get-drop : (n : ℕ) (xs : List ℕ) → slice_get (drop n xs) 0 ≡ slice_get xs n
slice_get-drop zero xs = refl
slice_get-drop (suc n) [] = refl
slice_get-drop (suc n) (x ∷ xs) = slice_get-drop n xs

-- payloads that were read of a file, up to this end
module _ {V : Type 0} (bytes : V → List ℕ) (file seen : List ℕ) (same : seen ≡ file) (payloads : List V) (end : ℕ) (so_far : map bytes payloads ++ journal_of (drop end file) ≡ journal_of file) where
  -- one record more was read
  pub so_far_more : (more : List V) (payload : V) (taken : ℕ) → more ≡ payloads ++ payload ∷ [] → taken ≡ length (bytes payload)
      → (counts (drop end seen) ≡ true) × (bytes payload ≡ first_payload (drop end seen)) → map bytes more ++ journal_of (drop (end + (5 + taken)) file) ≡ journal_of file
  so_far_more more payload taken is taken_is next =
      let rest : List ℕ = drop end file in
      let c = counts-true rest (rw same at next.0) in
      let part : bytes payload ≡ first_payload rest = rw same at next.1 in
      let size : taken ≡ payload_length rest = taken_is ∙ ap length part ∙ length-part rest (payload_length rest) c.whole in
      rw (is, map_push bytes payloads payload, append_assoc, size, ← drop-drop (5 + payload_length rest) end file, part, ← journal-more rest c) so_far

  -- the last one was read
  pub all_read : (gate : Option ℕ) → size_of (map bytes payloads) ≡ end → (counts (drop end seen) ≡ false) × (gate ≡ slice_get (drop end seen) 0)
      → (map bytes payloads ≡ journal_of file) × (end ≡ size_of (journal_of file)) × (gate ≡ slice_get file end)
  all_read gate size next =
      let all : map bytes payloads ≡ journal_of file = sym (append-nil (map bytes payloads)) ∙ ap (λ l. map bytes payloads ++ l) (sym (journal-none (drop end file) (rw same at next.0))) ∙ so_far in
      (all, sym size ∙ ap size_of all, (rw same at next.1) ∙ slice_get-drop end file)

-- where the records end
pub size_more : {V : Type 0} (bytes : V → List ℕ) (payloads more : List V) (payload : V) (end taken : ℕ) → more ≡ payloads ++ payload ∷ [] → taken ≡ length (bytes payload)
    → size_of (map bytes payloads) ≡ end → size_of (map bytes more) ≡ end + (5 + taken)
size_more bytes payloads more payload end taken is taken_is size = rw (is, map_push bytes payloads payload) (omega (arith, size-append (map bytes payloads) (bytes payload ∷ []), size, taken_is))

-- no more of them than bytes
pub count_more : {V : Type 0} (payloads more : List V) (payload : V) (end taken : ℕ) → more ≡ payloads ++ payload ∷ [] → length payloads ≤ end → length more ≤ end + (5 + taken)
count_more payloads more payload end taken is count = omega (arith, ap (λ (l : List _). length l) is, length-append payloads (payload ∷ []))

module _ {D : Type 0} {seen : D → List ℕ} {images : D → List ℕ → Type 0} {moment : D → ℕ} {left_since : D → ℕ → List ℕ → Type 0} where
  -- calls that read, one after another
  pub reads_on : {old mid new : D} → OnlyReads seen images moment left_since old mid → OnlyReads seen images moment left_since mid new → OnlyReads seen images moment left_since old new
  reads_on first second = record {
    same = second.same ∙ first.same;
    fewer = λ image here. first.fewer image (second.fewer image here);
    later = omega (arith, first.later, second.later);
    before = λ t image le left. ⊎_elim (first.before t image le) (λ h. inr (first.fewer image h)) (second.before t image (omega (arith, le, first.later)) left);
  }
