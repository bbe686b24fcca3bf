-- What a plan asks for in all.
use Rattle.std.proofs.Common.{◌≡◌, ◌≤◌, ◌+◌, ◌*◌, ℕ, List, [], ◌∷◌, Bool, true, false, cond, ap, refl, sym, arith}
use Rattle.std.specs.Prelude.{◌&&◌, ◌==◌, count_by, sum_by, if◌then◌else◌}
use Rattle.std.proofs.Math.Nat.{add-mul, mul-le-mul_right}
use Rattle.std.proofs.lemmas.Bool.{and_parts, eq-eqb, eqb-true}
use Rattle.std.proofs.lemmas.List.Elements.{All-weaker}
use Rattle.std.proofs.lemmas.List.Sums.{sum_by-cons, sum_by-le}
use Rattle.cns_ids.proofs.ListLemmas.{sum_by-most, sum_by-plus}
use Rattle.cns_trades.specs.declared.trade.Trade.{Trade}
use Rattle.cns_netting.specs.History.{bought, due, settled_credit, sold}
use Rattle.cns_netting.specs.Book.{IsBook}
use Rattle.cns_netting.specs.declared.entry.NetEntry.{NetEntry}
use Rattle.cns_movements.specs.Book.{Orders}
use Rattle.cns_covers.specs.Bounds.{want_in}
use Rattle.cns_covers.specs.declared.priorities.Prioritized.{Prioritized}
use Rattle.cns_covers.proofs.TotalLemmas.{sold_all}
use Rattle.cns_allocate.specs.Plan.{plan_of}
use Rattle.cns_allocate.specs.declared.planned.Planned.{Planned}
use Rattle.cns_allocate.proofs.PlanLemmas.{is_planned_as, sum_by-by_group, wanting, wanting-once}
use Rattle.cns_allocate.proofs.WantLemmas.{wanting-wants}

-- the shares of trades
abbrev shares_of : List Trade → ℕ
shares_of trades = sum_by (λ (t : Trade). t.quantity) trades

-- the shares that a trade brings a member in an issue
abbrev part_of : Trade → ℕ → ℕ → ℕ
part_of t member issue = if (t.buyer == member) && (t.issue == issue) then t.quantity else 0

-- a trade brings its shares to its buyer alone
parts_most : (t : Trade) (issue : ℕ) (ps : List Planned) → sum_by (λ (p : Planned). part_of t p.member issue) ps ≤ count_by (is_planned_as t.buyer) ps * t.quantity
parts_most t issue [] = omega arith
parts_most t issue (p ∷ ps) =
    let count : count_by (is_planned_as t.buyer) (p ∷ ps) ≡ cond (is_planned_as t.buyer p) 1 0 + count_by (is_planned_as t.buyer) ps =
    sum_by-cons (λ (q : Planned). cond (is_planned_as t.buyer q) 1 0) p ps in
    omega (
      arith,
      one ((t.buyer == p.member) && (t.issue == issue)) (is_planned_as t.buyer p) (λ e. same (and_parts (t.buyer == p.member) (t.issue == issue) e).0),
      sum_by-cons (λ (q : Planned). part_of t q.member issue) p ps,
      ap (λ (n : ℕ). n * t.quantity) count,
      add-mul (cond (is_planned_as t.buyer p) 1 0) (count_by (is_planned_as t.buyer) ps) t.quantity,
      parts_most t issue ps,
    )
  where
    one : (a b : Bool) → (a ≡ true → b ≡ true) → (if a then t.quantity else 0) ≤ cond b 1 0 * t.quantity
    one true true h = omega arith
    one true false h = let no = h refl in cc no
    one false true h = omega arith
    one false false h = omega arith

    same : (t.buyer == p.member) ≡ true → (p.member == t.buyer) ≡ true
    same e = eq-eqb p.member t.buyer (sym (eqb-true t.buyer p.member e))

-- members that are planned once each bought no more together than was traded
bought_by_all : (trades : List Trade) (issue : ℕ) (ps : List Planned) → ((member : ℕ) → count_by (is_planned_as member) ps ≤ 1)
    → sum_by (λ (p : Planned). bought trades p.member issue) ps ≤ shares_of trades
unfolding bought
bought_by_all [] issue ps once =
    let none : sum_by (λ (p : Planned). 0) ps ≤ 0 = omega (arith, sum_by-le (λ (p : Planned). 0) 0 ps (λ i d below. omega arith)) in none
bought_by_all (t ∷ trades) issue ps once =
    let parts =
    sum_by-plus (λ (p : Planned). part_of t p.member issue) (λ (p : Planned). bought trades p.member issue) (λ (p : Planned). bought (t ∷ trades) p.member issue)
    (λ p. sum_by-cons (λ (u : Trade). part_of u p.member issue) t trades) ps in
    let alone : count_by (is_planned_as t.buyer) ps * t.quantity ≤ 1 * t.quantity = mul-le-mul_right t.quantity (once t.buyer) in
    omega (arith, parts, parts_most t issue ps, alone, sum_by-cons (λ (u : Trade). u.quantity) t trades, bought_by_all trades issue ps once)

-- a plan asks for at most 10^18 shares in all, where settlements brought no member more than it sold
pub plan_of-total : (issue : ℕ) (h : List NetEntry) (book : Orders) (settings : List Prioritized) (were_long : List ℕ)
    → IsBook h → ((member issue : ℕ) → settled_credit h member issue ≤ sold (due h) member issue)
    → sum_by (λ (p : Planned). p.asked) (plan_of issue h book settings were_long) ≤ 1000000000000000000
plan_of-total issue h book settings were_long fits covered =
    let planned : List Planned = wanting issue h book settings were_long in
    let each =
    All-weaker (λ (p : Planned). p.asked ≤ want_in h book p.member issue) (λ (p : Planned). p.asked ≤ bought (due h) p.member issue)
    (λ p le. omega (arith, le, covered p.member issue)) planned (wanting-wants issue h book settings were_long) in
    omega (
      arith,
      sum_by-by_group (λ (p : Planned). p.asked) planned,
      sum_by-most (λ (p : Planned). p.asked) (λ (p : Planned). bought (due h) p.member issue) planned each,
      bought_by_all (due h) issue planned (wanting-once issue h book settings were_long),
      sold_all h fits,
    )
