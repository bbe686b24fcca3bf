-- The rows of an issue, by a look-up of each member.
use Rattle.std.proofs.Common.{◌≡◌, ◌≤◌, ◌<◌, ◌+◌, ℕ, zero, suc, List, Option, Some, None, Bool, true, false, refl, sym, ap, ◌∙◌, arith, subst}
use Rattle.std.specs.Prelude.{◌||◌, ◌==◌, filter, if◌then◌else◌, IsSome, sum_by}
use Rattle.std.specs.Map.{lookup}
use Rattle.std.specs.List.{AllByRecursion, IsDistinct, list_any}
use Rattle.std.proofs.lemmas.Bool.Decides.{nat_tests}
use Rattle.std.proofs.lemmas.Bool.{eqb-true}
use Rattle.std.proofs.lemmas.List.Sums.{sum_by-cons}
use Rattle.cns_ids.specs.Holding.{holding_at, holding_eq}
use Rattle.cns_ids.specs.Member.{IsMember}
use Rattle.cns_ids.specs.declared.holding.Holding.{Holding}
use Rattle.cns_netting.specs.Rows.{is_row_in, rows_of}
use Rattle.cns_netting.specs.Positions.{ArePositionsOf, holdings_up_to, in_issue, position_found, row_by, row_if, row_part}
use Rattle.cns_netting.specs.declared.entry.NetEntry.{NetEntry}
use Rattle.cns_netting.specs.declared.position.PositionRow.{PositionRow}
use Rattle.cns_netting.specs.declared.positions.Position.{Position}
use Rattle.cns_netting.proofs.RowLemmas.{sum_by_holdings}

-- the row by the position that a look-up found; that of no shares is none
pub looked_up : (issue : ℕ) (o : Option Position) (s : Position) (k : Holding) → s ≡ position_found o → row_if (Some issue) k (Some s) ≡ row_if (Some issue) k o
looked_up issue o s k is = ap (in_issue (Some issue) k) (ap (λ (p : Position). row_by k (Some p)) is ∙ by o)
  where
    by : (o : Option Position) → row_by k (Some (position_found o)) ≡ row_by k o
    by None = refl
    by (Some t) = refl

-- a sum over the members 1 to n, with one member more
pub member_more : (weight : Holding → ℕ) (n issue m part old new : ℕ) → m ≡ n + 1 → part ≡ weight (holding_at issue m) → new ≡ old + part
    → old ≡ sum_by weight (holdings_up_to n issue) → new ≡ sum_by weight (holdings_up_to (n + 1) issue)
unfolding holdings_up_to
member_more weight n issue m part old new is here grows before =
    let next : n + 1 ≡ suc n = omega arith in
    let part_is : part ≡ weight (holding_at issue (suc n)) = here ∙ ap (λ (k : ℕ). weight (holding_at issue k)) (is ∙ next) in
    rw next (omega (arith, grows, before, part_is, sum_by-cons weight (holding_at issue (suc n)) (holdings_up_to n issue)))

-- ---- the holdings of the members 1 to n

differ : (issue k m : ℕ) → m < k → holding_eq (holding_at issue k) (holding_at issue m) ≡ false
differ issue k m less = grind (arith, nat_tests)

later_apart : (n issue k : ℕ) → n < k → AllByRecursion (λ (q : Holding). holding_eq (holding_at issue k) q ≡ false) (holdings_up_to n issue)
unfolding holdings_up_to
later_apart zero issue k less = tt
later_apart (suc n) issue k less = (differ issue k (suc n) less, later_apart n issue k (omega (arith, less)))

distinct : (n issue : ℕ) → IsDistinct holding_eq (holdings_up_to n issue)
unfolding holdings_up_to IsDistinct
distinct zero issue = tt
distinct (suc n) issue = (later_apart n issue (suc n) (omega arith), distinct n issue)

there : (n issue m : ℕ) → 1 ≤ m → m ≤ n → list_any (holding_eq (holding_at issue m)) (holdings_up_to n issue) ≡ true
unfolding holdings_up_to
there zero issue m some most = absurd (omega (arith, some, most))
there (suc n) issue m some most = by (holding_eq (holding_at issue m) (holding_at issue (suc n))) refl (λ most. there n issue m some most)
  where
    below : holding_eq (holding_at issue m) (holding_at issue (suc n)) ≡ false → m ≤ n
    below e = grind (arith, nat_tests)

    by : (b : Bool) → holding_eq (holding_at issue m) (holding_at issue (suc n)) ≡ b → (m ≤ n → list_any (holding_eq (holding_at issue m)) (holdings_up_to n issue) ≡ true)
        → (b || list_any (holding_eq (holding_at issue m)) (holdings_up_to n issue)) ≡ true
    by true e rest = refl
    by false e rest = rest (below e)

-- ---- the rows

pub sum_by_members : (issue : ℕ) (positions : List (Holding × Position)) (h : List NetEntry) (f : PositionRow → ℕ) → ((k : Holding) → IsSome (lookup (holding_eq k) positions) → IsMember k.member)
    → ArePositionsOf positions h
    → sum_by (λ (k : Holding). row_part f (row_if (Some issue) k (lookup (holding_eq k) positions))) (holdings_up_to 9999 issue) ≡ sum_by f (filter (is_row_in issue) (rows_of h))
sum_by_members issue positions h f members are = sum_by_holdings (Some issue) positions h f (holdings_up_to 9999 issue) (distinct 9999 issue) are others
  where
    others : (q : Holding) → list_any (holding_eq q) (holdings_up_to 9999 issue) ≡ false → row_if (Some issue) q (lookup (holding_eq q) positions) ≡ None
    others q none = by (q.issue == issue) refl
      where
        nobody : q.issue ≡ issue → (o : Option Position) → lookup (holding_eq q) positions ≡ o → row_by q o ≡ None
        nobody is None e = refl
        nobody is (Some s) e =
            let one = members q (rw e refl) in
            let here : list_any (holding_eq (holding_at q.issue q.member)) (holdings_up_to 9999 issue) ≡ true =
            subst (λ (i : ℕ). list_any (holding_eq (holding_at i q.member)) (holdings_up_to 9999 issue) ≡ true) (sym is) (there 9999 issue q.member one.from one.to) in
            let no : true ≡ false = sym here ∙ none in cc

        by : (b : Bool) → (q.issue == issue) ≡ b → ◌≡◌ {A = Option PositionRow} (if b then row_by q (lookup (holding_eq q) positions) else None) None
        by true e = nobody (eqb-true q.issue issue e) (lookup (holding_eq q) positions) refl
        by false e = refl
