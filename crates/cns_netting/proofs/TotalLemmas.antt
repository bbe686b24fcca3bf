-- The totals of an issue, as positions in it change.
use Rattle.std.proofs.Common.{◌≡◌, ◌≤◌, ◌+◌, ◌-◌, ◌*◌, ◌^◌, ℕ, nat_eq, zero, suc, Option, Some, Bool, true, false, refl, sym, ap, ◌∙◌, arith, inl, inr}
use Rattle.std.specs.Prelude.{◌&&◌, ◌==◌, IsSome, List, if◌then◌else◌}
use Rattle.std.specs.HashMap.{HashMap, get}
use Rattle.std.proofs.lemmas.Bool.{cases_eq, eq-eqb, eqb-true}
use Rattle.cns_ids.specs.Member.{IsMember}
use Rattle.cns_ids.specs.declared.holding.Holding.{Holding}
use Rattle.cns_netting.specs.History.{credit_part, debit_part, long_up_to, short_up_to}
use Rattle.cns_netting.specs.Positions.{Adds, ArePositionsOf, credit_among, debit_among, no_shares, position_among, shares_only_at, StayNear}
use Rattle.cns_netting.specs.Totals.{AreTotalsOf, CanCount, longs_at, longs_in, Recounts, shorts_at, shorts_in, total}
use Rattle.cns_netting.specs.declared.entry.NetEntry.{NetEntry}
use Rattle.cns_netting.specs.declared.positions.Position.{Position}
use Rattle.cns_netting.specs.declared.totals.Totals.{Totals}
use Rattle.cns_netting.proofs.AddLemmas.{near_there}
use Rattle.cns_ids.proofs.ListLemmas.{PutsAt, put_holds}
use Rattle.cns_netting.proofs.BalanceLemmas.{total-one, total-plus, total-same}
use Rattle.cns_netting.proofs.PositionLemmas.{one_part, other_part}

-- ---- sums over the members 1 to n

-- a member's number is at most the sum of all
total-part : (n m : ℕ) (f : ℕ → ℕ) → 1 ≤ m → m ≤ n → f m ≤ total n f
unfolding total
total-part zero m f from to = absurd (omega arith)
total-part (suc n) m f from to =
    elim (cases_eq m (suc n)) [
      | inl e ↦ omega (arith, ap f e)
      | inr ne ↦ omega (arith, total-part n m f from (omega arith))
    ]

-- numbers that are at most 3 * 10^18 sum to at most n times that
total-most : (n : ℕ) (f : ℕ → ℕ) → ((k : ℕ) → f k ≤ 3 * 10 ^ 18) → total n f ≤ 3 * 10 ^ 18 * n
unfolding total
total-most zero f each = omega arith
total-most (suc n) f each = omega (arith, each (suc n), total-most n f each)

-- where one member's number changes, its new one takes the place of the old one in the sum
total-changed : (n m : ℕ) (f g : ℕ → ℕ) → 1 ≤ m → m ≤ n → ((k : ℕ) → (m == k) ≡ false → g k ≡ f k) → total n g + f m ≡ total n f + g m
total-changed n m f g from to same =
    let both : ℕ → ℕ = λ k. g k + (if m == k then f m else 0) in
    let gone = total-plus n g (λ k. if m == k then f m else 0) both (λ k. refl) in
    let come = total-plus n f (λ k. if m == k then g m else 0) both (λ k. by k (m == k) refl) in
    omega (arith, gone, come, total-one n m (f m) from to, total-one n m (g m) from to)
  where
    by : (k : ℕ) (b : Bool) → (m == k) ≡ b → g k + (if b then f m else 0) ≡ f k + (if b then g m else 0)
    by k true e = let place = eqb-true m k e in omega (arith, ap f place, ap g place)
    by k false e = omega (arith, same k e)

-- ---- a position that is counted anew

away : (a b : Bool) (q : ℕ) → a ≡ false → (if a && b then q else 0) ≡ 0
away a b q e = Prim.rw e refl

elsewhere : (a b : Bool) (q : ℕ) → b ≡ false → (if a && b then q else 0) ≡ 0
elsewhere true b q e = Prim.rw e refl
elsewhere false b q e = refl

there : (a b : Bool) (q : ℕ) → a ≡ true → b ≡ true → (if a && b then q else 0) ≡ q
there a b q e f = Prim.rw (e, f) refl

-- what one side of a member has above the other
abbrev above : (ℕ → ℕ) → (ℕ → ℕ) → ℕ → ℕ
above more less m = more m - less m

-- the sum of what one side has above the other in an issue i, after a member's position in an issue changed by `up` and by `down`
counted : (member issue i up down was is old new : ℕ) (more less more_then less_then : ℕ → ℕ) → IsMember member
    → ((m : ℕ) → more_then m + (less m + shares_only_at member issue down m i) ≡ less_then m + (more m + shares_only_at member issue up m i))
    → (issue ≡ i → was ≡ more member - less member)
    → (issue ≡ i → is ≡ (more member + up) - (less member + down))
    → new + (if issue == i then was else 0) ≡ old + (if issue == i then is else 0)
    → old ≡ total 9999 (above more less) → new ≡ total 9999 (above more_then less_then)
counted member issue i up down was is old new more less more_then less_then range moves before after moved sum = by (issue == i) refl moved
  where
    by : (b : Bool) → (issue == i) ≡ b → new + (if b then was else 0) ≡ old + (if b then is else 0) → new ≡ total 9999 (above more_then less_then)
    by true e change =
        let f : ℕ → ℕ = above more less in
        let g : ℕ → ℕ = above more_then less_then in
        let same : issue ≡ i = eqb-true issue i e in
        let mine : (member == member) ≡ true = eq-eqb member member refl in
        let others : (k : ℕ) → (member == k) ≡ false → g k ≡ f k =
        λ k apart. omega (arith, moves k, away (member == k) (issue == i) up apart, away (member == k) (issue == i) down apart) in
        omega (
          arith,
          total-changed 9999 member f g range.from range.to others,
          sum,
          change,
          before same,
          after same,
          moves member,
          there (member == member) (issue == i) up mine e,
          there (member == member) (issue == i) down mine e,
        )
    by false e change =
        let f : ℕ → ℕ = above more less in
        let g : ℕ → ℕ = above more_then less_then in
        let others : (k : ℕ) → g k ≡ f k = λ k. omega (arith, moves k, elsewhere (member == k) (issue == i) up e, elsewhere (member == k) (issue == i) down e) in
        omega (arith, change, sum, total-same 9999 g f others)

-- a number of each look-up changes where totals are put alone
put_part : (part : Option Totals → ℕ) (issue : ℕ) (w : Totals) (less more : ℕ) (old new : ℕ → Option Totals) → PutsAt issue w old new → part (Some w) + less ≡ part (old issue) + more
    → (i : ℕ) → part (new i) + (if issue == i then less else 0) ≡ part (old i) + (if issue == i then more else 0)
put_part part issue w less more old new puts moved =
    put_holds (λ b was now. part now + (if b then less else 0) ≡ part was + (if b then more else 0)) issue w old new puts moved (λ o. refl)

module _ {T : Type 0} where
  -- so a position is counted anew
  pub recounts_put : (issue : ℕ) (was is : Position) (w : Totals) (totals next : HashMap ℕ Totals T) → PutsAt issue w (get nat_eq totals) (get nat_eq next)
      → w.longs + credit_part was.shares ≡ longs_in totals issue + credit_part is.shares
      → w.shorts + debit_part was.shares ≡ shorts_in totals issue + debit_part is.shares → Recounts issue was is totals next
  recounts_put issue was is w totals next puts longs shorts = record {
    longs = put_part longs_at issue w (credit_part was.shares) (credit_part is.shares) (get nat_eq totals) (get nat_eq next) puts longs;
    shorts = put_part shorts_at issue w (debit_part was.shares) (debit_part is.shares) (get nat_eq totals) (get nat_eq next) puts shorts;
    issues = put_holds (λ b was is. IsSome was → IsSome is) issue w (get nat_eq totals) (get nat_eq next) puts (λ some. refl) (λ o some. some);
  }

module _ {T : Type 0} {positions : List (Holding × Position)} {totals : HashMap ℕ Totals T} (member issue credit debit : ℕ) (was is : Position) (range : IsMember member)
    (found : was ≡ position_among positions member issue) (moves : credit_part is.shares + (debit_part was.shares + debit) ≡ debit_part is.shares + (credit_part was.shares + credit))
    (are : AreTotalsOf totals positions) where
  -- a position that stays near 0 may be counted anew: an issue's totals are at least the position, and at most 9999 such as are allowed
  pub can_count : StayNear (shares_only_at member issue credit) (shares_only_at member issue debit) positions → CanCount (longs_in totals issue) (shorts_in totals issue) was is
  can_count near =
      let had = ap (λ (p : Position). credit_part p.shares) found in
      let owed = ap (λ (p : Position). debit_part p.shares) found in
      let above : ℕ → ℕ = λ m. credit_among positions m issue - debit_among positions m issue in
      let below : ℕ → ℕ = λ m. debit_among positions m issue - credit_among positions m issue in
      let fits = near_there member issue credit debit near found in
      record {
        longs = omega (arith, had, owed, one_part was.shares, are.longs issue, total-part 9999 member above range.from range.to);
        shorts = omega (arith, had, owed, other_part was.shares, are.shorts issue, total-part 9999 member below range.from range.to);
        more_longs = omega (arith, fits.0, moves, one_part is.shares, are.longs issue, total-most 9999 above (λ m. omega (arith, near.long m issue)));
        more_shorts = omega (arith, fits.1, moves, other_part is.shares, are.shorts issue, total-most 9999 below (λ m. omega (arith, near.short m issue)));
      }

  -- the totals after a position changed, and was counted anew
  pub totals_added : {after : List (Holding × Position)} {next : HashMap ℕ Totals T} → Adds (shares_only_at member issue credit) (shares_only_at member issue debit) positions after
      → Recounts issue was is totals next → AreTotalsOf next after
  totals_added {after} {next} adds counts =
      let had = ap (λ (p : Position). credit_part p.shares) found in
      let owed = ap (λ (p : Position). debit_part p.shares) found in
      record {
        longs = λ i. counted member issue i credit debit (credit_part was.shares) (credit_part is.shares) (longs_in totals i) (longs_in next i)
            (λ m. credit_among positions m i) (λ m. debit_among positions m i) (λ m. credit_among after m i) (λ m. debit_among after m i) range (λ m. adds.balance m i)
            (λ e. omega (arith, had, owed, one_part was.shares, ap (credit_among positions member) e, ap (debit_among positions member) e))
            (λ e. omega (arith, had, owed, moves, one_part is.shares, ap (credit_among positions member) e, ap (debit_among positions member) e))
            (counts.longs i) (are.longs i);
        shorts = λ i. counted member issue i debit credit (debit_part was.shares) (debit_part is.shares) (shorts_in totals i) (shorts_in next i)
            (λ m. debit_among positions m i) (λ m. credit_among positions m i) (λ m. debit_among after m i) (λ m. credit_among after m i) range (λ m. sym (adds.balance m i))
            (λ e. omega (arith, had, owed, other_part was.shares, ap (credit_among positions member) e, ap (debit_among positions member) e))
            (λ e. omega (arith, had, owed, moves, other_part is.shares, ap (credit_among positions member) e, ap (debit_among positions member) e))
            (counts.shorts i) (are.shorts i);
      }

module _ {T : Type 0} where
  -- where nothing changes that counts
  pub totals_kept : {positions after : List (Holding × Position)} {totals next : HashMap ℕ Totals T} → Adds no_shares no_shares positions after
      → ((i : ℕ) → longs_in next i ≡ longs_in totals i) → ((i : ℕ) → shorts_in next i ≡ shorts_in totals i)
      → AreTotalsOf totals positions → AreTotalsOf next after
  totals_kept {positions} {after} adds longs shorts are = record {
    longs = λ i. longs i ∙ are.longs i
        ∙ total-same 9999 (λ m. credit_among positions m i - debit_among positions m i) (λ m. credit_among after m i - debit_among after m i) (λ m. omega (arith, adds.balance m i));
    shorts = λ i. shorts i ∙ are.shorts i
        ∙ total-same 9999 (λ m. debit_among positions m i - credit_among positions m i) (λ m. debit_among after m i - credit_among after m i) (λ m. omega (arith, adds.balance m i));
  }

-- by the positions of a history they are its longs and shorts
pub long_total : (n : ℕ) (positions : List (Holding × Position)) (h : List NetEntry) (issue : ℕ) → ArePositionsOf positions h
    → total n (λ m. credit_among positions m issue - debit_among positions m issue) ≡ long_up_to n h issue
unfolding total long_up_to
long_total zero positions h issue are = refl
long_total (suc n) positions h issue are = omega (arith, are.balance (suc n) issue, long_total n positions h issue are)

pub short_total : (n : ℕ) (positions : List (Holding × Position)) (h : List NetEntry) (issue : ℕ) → ArePositionsOf positions h
    → total n (λ m. debit_among positions m issue - credit_among positions m issue) ≡ short_up_to n h issue
unfolding total short_up_to
short_total zero positions h issue are = refl
short_total (suc n) positions h issue are = omega (arith, are.balance (suc n) issue, short_total n positions h issue are)
