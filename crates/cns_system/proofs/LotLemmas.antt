-- A lot as it is stored, as it is opened and after one more ticket.
use Rattle.std.proofs.Common.{◌≡◌, ◌≤◌, ◌+◌, ℕ, List, ◌∷◌, length, arith}
use Rattle.std.specs.Prelude.{All, IsPermutation}
use Rattle.std.proofs.lemmas.List.Elements.{All-head}
use Rattle.std.proofs.lemmas.List.Sorted.{All-permutation, IsPermutation-sym, length_permutation, sum_by-IsPermutation}
use Rattle.std.proofs.lemmas.List.Sums.{sum_by-cons}
use Rattle.cns_pool.specs.Pool.{Pooled, after_reserve, new_pool}
use Rattle.cns_movements.specs.Asked.{IsAsked}
use Rattle.cns_allocate.specs.Plan.{IsPlan}
use Rattle.cns_allocate.specs.Served.{turn_of, without}
use Rattle.cns_allocate.specs.declared.planned.Planned.{Planned}
use Rattle.cns_allocate.specs.declared.turns.Turn.TheVariants.{Next}
use Rattle.cns_allocate.proofs.TurnLemmas.{IsPlan-without, find-without, turn-parts}
use Rattle.cns_system.specs.Lot.{planned_sum}
use Rattle.cns_system.specs.Entry.{IsEntry}

-- the shares of those who wait, and how many they are, before and after one of them draws its ticket
pub record HasTurn (left : List Planned) (member asked : ℕ) : Type 0 where
  pub some : 1 ≤ asked
  pub shares : asked + planned_sum (without member left) ≡ planned_sum left
  pub count : length (without member left) + 1 ≡ length left

pub turn-has : (left : List Planned) (member asked : ℕ) → IsPlan left → turn_of left member ≡ Next asked → HasTurn left member asked
turn-has left member asked is next =
    let rest : List Planned = without member left in
    let turn = turn-parts left member asked next in
    let same : IsPermutation (turn.planned ∷ rest) left = find-without member left turn.planned (is.once member) turn.found in
    let asks : All (λ (p : Planned). IsAsked p.asked) (turn.planned ∷ rest) =
    All-permutation (λ (p : Planned). IsAsked p.asked) left (turn.planned ∷ rest) (IsPermutation-sym (turn.planned ∷ rest) left same) is.asked in
    let one : IsAsked turn.planned.asked = All-head (λ (p : Planned). IsAsked p.asked) turn.planned rest asks in
    record {
      some = let from = one.from in omega (arith, turn.shares);
      shares =
          omega (
            arith,
            turn.shares,
            sum_by-IsPermutation (λ (p : Planned). p.asked) (turn.planned ∷ rest) left same,
            sum_by-cons (λ (p : Planned). p.asked) turn.planned rest,
          );
      count = omega (arith, length_permutation (turn.planned ∷ rest) left same);
    }

-- a lot as it is opened, and as it has ended
pub IsEntry_new : (plan left : List Planned) (pool : Pooled) → IsPlan plan → left ≡ plan → pool ≡ new_pool (planned_sum plan) 0 (length plan) → IsEntry left pool
IsEntry_new plan left pool is is_left is_pool =
    rw (is_pool, is_left) (record { plan = is; budget = omega arith; calls = omega arith })

-- a lot whose pool has drawn the next ticket of a member whose turn it was
pub IsEntry_drawn : (before left : List Planned) (old pool : Pooled) (member asked : ℕ) → IsEntry before old → turn_of before member ≡ Next asked
    → left ≡ without member before → pool ≡ after_reserve old member asked → IsEntry left pool
IsEntry_drawn before left old pool member asked is next is_left is_pool =
    let turn : HasTurn before member asked = turn-has before member asked is.plan next in
    rw (is_pool, is_left) (record {
      plan = IsPlan-without member before is.plan;
      budget = let budget = is.budget in let shares = turn.shares in omega arith;
      calls = let calls = is.calls in let count = turn.count in omega arith;
    })
