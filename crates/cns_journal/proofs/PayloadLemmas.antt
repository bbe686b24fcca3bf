-- What a list of payloads in one list of bytes becomes where one is added, and where they are read one after another.
use Rattle.std.proofs.Common.{◌≡◌, ℕ, suc, ◌≤◌, List, [], ◌∷◌, ◌++◌, length, take, drop, refl, sym, ◌∙◌, ap, subst, arith, length-append}
use Rattle.std.proofs.lemmas.List.{take-append-le, drop-append-le}
use Rattle.std.proofs.Math.Seq.{take-length, drop-length}
use Rattle.cns_journal.specs.Payloads.{AreAll, pieces}

-- a payload is added at the end
pub pieces_more : (lengths bytes payload : List ℕ) → AreAll lengths bytes → pieces (lengths ++ length payload ∷ []) (bytes ++ payload) ≡ pieces lengths bytes ++ payload ∷ []
pieces_more [] bytes payload all = ap (λ (b : List ℕ). take (length payload) (b ++ payload) ∷ []) all ∙ ap (λ (b : List ℕ). b ∷ []) (take-length payload)
pieces_more (n ∷ lengths) bytes payload all =
    rw (take-append-le n bytes payload all.0) (rw (drop-append-le n bytes payload all.0)
    (ap (λ (rest : List (List ℕ)). take n bytes ∷ rest) (pieces_more lengths (drop n bytes) payload all.1)))

-- the lengths are still those of all bytes
pub all_more : (lengths bytes payload : List ℕ) → AreAll lengths bytes → AreAll (lengths ++ length payload ∷ []) (bytes ++ payload)
all_more [] bytes payload all = subst (λ (b : List ℕ). (length payload ≤ length (b ++ payload)) × (drop (length payload) (b ++ payload) ≡ [])) (sym all) (omega arith, drop-length payload)
all_more (n ∷ lengths) bytes payload all = (
  omega (arith, all.0, length-append bytes payload),
  subst (λ (b : List ℕ). AreAll (lengths ++ length payload ∷ []) b) (sym (drop-append-le n bytes payload all.0)) (all_more lengths (drop n bytes) payload all.1),
)

-- there are as many payloads as lengths
pub length-pieces : (lengths bytes : List ℕ) → length (pieces lengths bytes) ≡ length lengths
length-pieces [] bytes = refl
length-pieces (n ∷ lengths) bytes = ap suc (length-pieces lengths (drop n bytes))

-- the payloads that were read, and those that are left
pub record AreRead (read : List (List ℕ)) (lengths rest : List ℕ) (payloads : List (List ℕ)) : Type 0 where
  pub so_far : read ++ pieces lengths rest ≡ payloads
  pub all : AreAll lengths rest
