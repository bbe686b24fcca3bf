-- The position of a holding, and the holdings that are named.
use Rattle.std.proofs.Common.{◌≡◌, ◌+◌, ◌-◌, ℕ, Option, Some, Bool, true, false, cond, refl, subst, arith}
use Rattle.std.specs.Map.{keys_of, lookup}
use Rattle.std.specs.Prelude.{◌&&◌, ◌==◌, List, ℤ, pos, negsuc, ◌-ℤ◌, IsSome}
use Rattle.std.proofs.lemmas.Bool.{eqb-true}
use Rattle.std.proofs.lemmas.Int.{ints}
use Rattle.cns_ids.specs.Holding.{holding_at, holding_eq}
use Rattle.cns_ids.specs.Member.{IsMember}
use Rattle.cns_ids.specs.declared.holding.Holding.{Holding}
use Rattle.cns_ids.proofs.HoldingLemmas.{Puts}
use Rattle.cns_netting.proofs.HoldingLemmas.{equal_holdings}
use Rattle.cns_netting.specs.History.{credit_part, debit_part}
use Rattle.cns_netting.specs.Positions.{IsFrontOf}
use Rattle.cns_netting.specs.declared.positions.Position.{Position}

-- positions once one is put at a member's holding in an issue; what was named keeps its place
pub record IsPut (member issue : ℕ) (w : Position) (old new : List (Holding × Position)) : Type 0 where
  pub puts : Puts member issue w (λ k. lookup (holding_eq k) old) (λ k. lookup (holding_eq k) new)
  pub names : IsFrontOf (keys_of old) (keys_of new)

module _ {V : Type 0} (member issue : ℕ) (w : V) (old new : Holding → Option V) (puts : Puts member issue w old new) where
  -- what is named is a member's holding, once a value is put at a member's
  pub put_members : IsMember member → ((k : Holding) → IsSome (old k) → IsMember k.member) → (k : Holding) → IsSome (new k) → IsMember k.member
  put_members is are k some = by (holding_eq (holding_at issue member) k) refl (puts k)
    where
      by : (b : Bool) → holding_eq (holding_at issue member) k ≡ b → new k ≡ cond b (Some w) (old k) → IsMember k.member
      by true e put = subst (λ (q : Holding). IsMember q.member) (equal_holdings (holding_at issue member) k e) is
      by false e put = are k (subst IsSome put some)

  -- what holds of each look-up before and after: it holds where the value is put, and of each that stays
  pub put_there : (P : Bool → Option V → Option V → Type 0) → P true (old (holding_at issue member)) (Some w) → ((o : Option V) → P false o o)
      → (m i : ℕ) → P ((member == m) && (issue == i)) (old (holding_at i m)) (new (holding_at i m))
  put_there P there stays m i = by (member == m) refl (issue == i) refl (puts (holding_at i m))
    where
      by : (a : Bool) → (member == m) ≡ a → (b : Bool) → (issue == i) ≡ b → new (holding_at i m) ≡ cond (b && a) (Some w) (old (holding_at i m))
          → P (a && b) (old (holding_at i m)) (new (holding_at i m))
      by true e true f is = rw (is, ← eqb-true member m e, ← eqb-true issue i f) there
      by true e false f is = rw is (stays (old (holding_at i m)))
      by false e true f is = rw is (stays (old (holding_at i m)))
      by false e false f is = rw is (stays (old (holding_at i m)))

-- a position is above 0 or below it, and not both
pub one_part : (z : ℤ) → credit_part z - debit_part z ≡ credit_part z
one_part (pos n) = omega arith
one_part (negsuc n) = omega arith

pub other_part : (z : ℤ) → debit_part z - credit_part z ≡ debit_part z
other_part (pos n) = omega arith
other_part (negsuc n) = omega arith

-- a position by what it has above 0 and below 0
pub by_parts : (z : ℤ) (c d : ℕ) → credit_part z + d ≡ debit_part z + c → z ≡ pos c -ℤ pos d
by_parts (pos n) c d e = omega (arith, ints, e)
by_parts (negsuc n) c d e = omega (arith, ints, e)
