-- Dealing a group to its workers in turn loses nobody.
use Rattle.std.proofs.Common.{◌≡◌, ℕ, zero, suc, ◌+◌, ◌-◌, ◌<◌, ◌≤◌, List, [], ◌∷◌, ◌++◌, length, get_or, sym, refl, ap, ◌∙◌, arith, append_assoc, length-append}
use Rattle.std.specs.Prelude.{IsPermutation}
use Rattle.std.proofs.Math.Nat.{le_refl}
use Rattle.std.proofs.lemmas.List.{append-nil}
use Rattle.std.proofs.lemmas.List.Sums.{sum_by-append, sum_by-cons}
use Rattle.std.proofs.lemmas.List.Sorted.{IsPermutation-append_comm, IsPermutation-cons, IsPermutation-refl, IsPermutation-trans, length_permutation, sum_by-IsPermutation}
use Rattle.cns_allocate.specs.Serving.{every, places_of, asked_in_plan}
use Rattle.cns_allocate.specs.declared.planned.Planned.{Planned}

-- the first of the places of which each comes after `gap` others, and the later ones
every-step : (gap k n : ℕ) (ps : List Planned) (d : Planned) → k < length ps → n ≡ gap + 1 → every gap k ps ≡ get_or ps k d ∷ every gap (k + n) ps
every-step gap k n [] d below is = absurd (omega arith)
every-step gap zero n (p ∷ ps) d below is = let next : suc gap ≡ zero + n = omega arith in ap (λ (j : ℕ). p ∷ every gap j (p ∷ ps)) next
every-step gap (suc k) n (p ∷ ps) d below is =
    let next : suc (k + n) ≡ suc k + n = omega arith in
    every-step gap k n ps d (omega arith) is ∙ ap (λ (j : ℕ). get_or ps k d ∷ every gap j (p ∷ ps)) next

-- a worker's places of a group are the one at which p stands and the later ones
pub record IsPlaceStep (workers place : ℕ) (group : List Planned) (p : Planned) : Type 0 where
  pub places : places_of workers place group ≡ p ∷ places_of workers (place + workers) group
  pub shares : asked_in_plan (places_of workers place group) ≡ p.asked + asked_in_plan (places_of workers (place + workers) group)
  pub calls : length (places_of workers place group) ≡ suc (length (places_of workers (place + workers) group))

pub place-step : (workers place : ℕ) (group : List Planned) (p : Planned) → 0 < workers → place < length group → p ≡ get_or group place p → IsPlaceStep workers place group p
place-step workers place group p some below is =
    let later : List Planned = places_of workers (place + workers) group in
    let places : places_of workers place group ≡ p ∷ later =
    every-step (workers - 1) place workers group p below (omega arith) ∙ ap (λ (q : Planned). q ∷ later) (sym is) in
    record { places = places; shares = ap asked_in_plan places ∙ sum_by-cons (λ (q : Planned). q.asked) p later; calls = ap length places }

-- past the group there are none
pub every-past : (gap k : ℕ) (ps : List Planned) → length ps ≤ k → every gap k ps ≡ []
every-past gap k [] past = refl
every-past gap zero (p ∷ ps) past = absurd (omega arith)
every-past gap (suc k) (p ∷ ps) past = every-past gap k ps (omega arith)

-- a worker has at most all the places
pub every-most : (gap k : ℕ) (ps : List Planned) → length (every gap k ps) ≤ length ps
every-most gap k [] = omega arith
every-most gap zero (p ∷ ps) = let rest = every-most gap gap ps in omega (arith, rest)
every-most gap (suc k) (p ∷ ps) = let rest = every-most gap k ps in omega (arith, rest)

-- what the first k workers have, one after another
abbrev pub lists_of : (ℕ → List Planned) → ℕ → List Planned
lists_of places zero = []
lists_of places (suc k) = lists_of places k ++ places k

-- the places of the first k workers
abbrev pub dealt : ℕ → ℕ → List Planned → List Planned
dealt gap k ps = lists_of (λ i. every gap i ps) k

dealt-none : (gap k : ℕ) → dealt gap k [] ≡ []
dealt-none gap zero = refl
dealt-none gap (suc k) = append-nil (dealt gap k []) ∙ dealt-none gap k

-- the first worker has the first place, and the others go on with the rest
dealt-cons : (gap k : ℕ) (p : Planned) (ps : List Planned) → dealt gap (suc k) (p ∷ ps) ≡ p ∷ (every gap gap ps ++ dealt gap k ps)
dealt-cons gap zero p ps = sym (ap (λ (l : List Planned). p ∷ l) (append-nil (every gap gap ps)))
dealt-cons gap (suc k) p ps =
    ap (λ (l : List Planned). l ++ every gap k ps) (dealt-cons gap k p ps)
    ∙ ap (λ (l : List Planned). p ∷ l) (append_assoc (every gap gap ps) (dealt gap k ps) (every gap k ps))

-- all the workers together have the whole group
pub dealt-all : (gap : ℕ) (ps : List Planned) → IsPermutation (dealt gap (suc gap) ps) ps
dealt-all gap [] = rw (dealt-none gap (suc gap)) (IsPermutation-refl [])
dealt-all gap (p ∷ ps) =
    rw (dealt-cons gap gap p ps)
    (IsPermutation-cons p (every gap gap ps ++ dealt gap gap ps) ps
    (IsPermutation-trans (every gap gap ps ++ dealt gap gap ps) (dealt gap (suc gap) ps) ps (IsPermutation-append_comm (every gap gap ps) (dealt gap gap ps)) (dealt-all gap ps)))

-- what adds up over lists, in whatever order
module _ (f : List Planned → ℕ) (append : (ps qs : List Planned) → f (ps ++ qs) ≡ f ps + f qs) (reordered : (ps qs : List Planned) → IsPermutation ps qs → f qs ≡ f ps) where
  -- the places of the first workers have at most what those of more workers have
  dealt_more : (gap k n m : ℕ) (ps : List Planned) → m ≡ n + k → f (dealt gap k ps) ≤ f (dealt gap m ps)
  dealt_more gap k zero m ps is = let same : m ≡ k = omega arith in rw same (le_refl (f (dealt gap k ps)))
  dealt_more gap k (suc n) zero ps is = absurd (omega arith)
  dealt_more gap k (suc n) (suc m) ps is = omega (arith, dealt_more gap k n m ps (omega arith), append (dealt gap m ps) (every gap m ps))

  -- so those of one worker more have at most what is left of the group
  dealt_next : (gap k : ℕ) (ps : List Planned) → k ≤ gap → f (dealt gap k ps) + f (every gap k ps) ≤ f ps
  dealt_next gap k ps le =
      omega (
        arith,
        append (dealt gap k ps) (every gap k ps),
        dealt_more gap (suc k) (gap - k) (suc gap) ps (omega arith),
        reordered (dealt gap (suc gap) ps) ps (dealt-all gap ps),
      )

pub asked_in_plan-append : (ps qs : List Planned) → asked_in_plan (ps ++ qs) ≡ asked_in_plan ps + asked_in_plan qs
asked_in_plan-append ps qs = sum_by-append (λ (p : Planned). p.asked) ps qs

pub shares-next : (gap k : ℕ) (ps : List Planned) → k ≤ gap → asked_in_plan (dealt gap k ps) + asked_in_plan (every gap k ps) ≤ asked_in_plan ps
shares-next = dealt_next asked_in_plan asked_in_plan-append (sum_by-IsPermutation (λ (p : Planned). p.asked))

pub length-next : (gap k : ℕ) (ps : List Planned) → k ≤ gap → length (dealt gap k ps) + length (every gap k ps) ≤ length ps
length-next = dealt_next (λ (l : List Planned). length l) (λ ps qs. length-append ps qs) (λ ps qs same. length_permutation ps qs same)
