-- What is planned for a member is no more than it wants.
use Rattle.std.proofs.Common.{◌≡◌, ◌≤◌, ◌-◌, ℕ, List, None, Some, subst, arith}
use Rattle.std.specs.Prelude.{◌&&◌, ◌==◌, nat_lt, All, IfSome}
use Rattle.std.proofs.Math.Nat.{le_refl}
use Rattle.std.proofs.lemmas.Bool.{and_parts, cond_both, eqb-true}
use Rattle.cns_ids.proofs.ListLemmas.{All-filter_map}
use Rattle.cns_netting.specs.History.{credit, credit_part, debit}
use Rattle.cns_netting.specs.Rows.{rows_of}
use Rattle.cns_netting.specs.declared.entry.NetEntry.{NetEntry}
use Rattle.cns_netting.specs.declared.position.PositionRow.{PositionRow}
use Rattle.cns_movements.specs.Book.{Orders}
use Rattle.cns_movements.specs.Order.{open_sum}
use Rattle.cns_movements.specs.declared.order.MoveKind.TheVariants.{Delivery}
use Rattle.cns_covers.specs.Bounds.{want_in}
use Rattle.cns_covers.specs.declared.priorities.Prioritized.{Prioritized}
use Rattle.cns_covers.proofs.RowLemmas.{All-rows_of}
use Rattle.cns_allocate.specs.Plan.{plan_of, planned_of, want_of}
use Rattle.cns_allocate.specs.declared.planned.Planned.{Planned}
use Rattle.cns_allocate.proofs.PlanLemmas.{All-by_group, credit_part-difference, wanting}

-- a row is long of no more than its credit is above its debit
abbrev IsLongWithin : List NetEntry → PositionRow → Type 0
IsLongWithin h row = credit_part row.position ≤ credit h row.member row.issue - debit h row.member row.issue

planned_of-wants : (issue : ℕ) (h : List NetEntry) (book : Orders) (settings : List Prioritized) (were_long : List ℕ) (row : PositionRow)
    → IsLongWithin h row → IfSome (planned_of issue book settings were_long row) (λ (p : Planned). p.asked ≤ want_in h book p.member issue)
unfolding planned_of want_of
planned_of-wants issue h book settings were_long row most =
    let want : ℕ = credit_part row.position - open_sum book.orders book.replies Delivery row.member row.issue in
    cond_both ((row.issue == issue) && nat_lt 0 want) (Some _) None (λ o. IfSome o (λ (p : Planned). p.asked ≤ want_in h book p.member issue))
    (λ e.
    let same : row.issue ≡ issue = eqb-true row.issue issue (and_parts (row.issue == issue) (nat_lt 0 want) e).0 in
    let here : want ≤ want_in h book row.member row.issue = omega (arith, most) in
    subst (λ (i : ℕ). want ≤ want_in h book row.member i) same here) (λ e. tt)

-- those who want shares of an issue
pub wanting-wants : (issue : ℕ) (h : List NetEntry) (book : Orders) (settings : List Prioritized) (were_long : List ℕ)
    → All (λ (p : Planned). p.asked ≤ want_in h book p.member issue) (wanting issue h book settings were_long)
wanting-wants issue h book settings were_long =
    All-filter_map (planned_of issue book settings were_long) (IsLongWithin h) (λ (p : Planned). p.asked ≤ want_in h book p.member issue)
    (planned_of-wants issue h book settings were_long) (rows_of h)
    (All-rows_of (IsLongWithin h) h
    (λ k. rw (credit_part-difference (credit h k.member k.issue) (debit h k.member k.issue)) (le_refl (credit h k.member k.issue - debit h k.member k.issue))))

-- and by group, as its plan has them
pub plan_of-wants : (issue : ℕ) (h : List NetEntry) (book : Orders) (settings : List Prioritized) (were_long : List ℕ)
    → All (λ (p : Planned). p.asked ≤ want_in h book p.member issue) (plan_of issue h book settings were_long)
plan_of-wants issue h book settings were_long =
    All-by_group (λ (p : Planned). p.asked ≤ want_in h book p.member issue) (wanting issue h book settings were_long) (wanting-wants issue h book settings were_long)
