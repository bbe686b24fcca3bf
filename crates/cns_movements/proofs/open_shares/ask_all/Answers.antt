use Rattle.std.proofs.Common.{◌≡◌, ◌≤◌, ◌∷◌, ap, length, arith, rules}
use Rattle.std.specs.Prelude.{◌&&◌, ◌==◌, List, sum_by}
use Rattle.std.proofs.lemmas.List.Sums.{sum_by-cons}
use borrow.Author.Tests.{tests}
use Rattle.cns_movements.specs.OpenShares.{asked_by}
use Rattle.cns_movements.specs.Order.{same_kind}
use Rattle.cns_movements.specs.declared.order.Ask.{Ask}
use Rattle.cns_movements.proofs.OpenLemmas.{asked_first, counted_le, nothing_asked}
use Rattle.cns_movements.proofs.open_shares.ask_all.Goals as goal

pub ask-requires-clause-small : goal.ask-requires-clause-small
ask-requires-clause-small c =
    let a = c.in-Some.first.now in
    let list : c.loop-first.left.now ≡ a ∷ c.in-Some.rest.now = search (rules, tests) in
    let asked : a.asked ≤ 1000000000000000000 = omega (arith, c.shares-asked.ensures.value, c.shares-asked.ensures.range.to) in
    omega (arith, c.loop-first.invariant.small a.kind a.member a.issue, ap (λ (l : List Ask). length l) list, asked)

pub loop-first-preserved : goal.loop-first-preserved
loop-first-preserved c =
    let a = c.in-Some.first.now in
    let rest = c.in-Some.rest.now in
    let before = c.loop-first.invariant in
    let list : c.loop-first.left.now ≡ a ∷ rest = search (rules, tests) in
    let asked : a.asked ≤ 1000000000000000000 = omega (arith, c.shares-asked.ensures.value, c.shares-asked.ensures.range.to) in
    let shorter = ap (λ (l : List Ask). length l) list in
    record {
      room = omega (arith, before.room, shorter, c.ask.ensures.left);
      left = omega (arith, before.left, shorter, c.ask.ensures.left);
      shares = λ k m i. omega (arith, before.shares k m i, c.ask.ensures.shares k m i, ap (asked_by k m i) list, asked_first k m i a rest);
      small = λ k m i. omega (arith, before.small k m i, shorter, c.ask.ensures.shares k m i, asked, counted_le (same_kind k a.kind && ((a.member == m) && (a.issue == i))) a.asked);
      most = omega (arith, before.most, shorter, asked, ap (sum_by (λ (x : Ask). x.asked)) list, sum_by-cons (λ (x : Ask). x.asked) a rest);
    }

pub returns-clause-shares : goal.returns-clause-shares
returns-clause-shares c = λ k m i. omega (arith, c.loop-first.invariant.shares k m i, nothing_asked k m i c.loop-first.left.now c.in_default.ensures.cases)
