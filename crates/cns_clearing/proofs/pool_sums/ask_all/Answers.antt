use Rattle.std.proofs.Common.{◌≡◌, ◌≤◌, ◌∷◌, ◌∙◌, arith, refl, rules, sym}
use Rattle.std.specs.Prelude.{◌==◌, if◌then◌else◌}
use Rattle.std.proofs.Math.Bool.{or-false}
use Rattle.std.proofs.lemmas.Bool.{eq-eqb}
use Rattle.std.proofs.lemmas.List.{nil_from_length}
use Rattle.std.proofs.lemmas.List.Sums.{sum_by-cons}
use borrow.Author.Tests.{tests}
use Rattle.cns_movements.specs.Order.{is_delivery}
use Rattle.cns_movements.specs.declared.order.Ask.{Ask}
use Rattle.cns_ids.proofs.ListLemmas.{at_most}
use Rattle.cns_clearing.specs.Pools.{asked_of_pool}
use Rattle.cns_clearing.specs.PoolSums.{asks_for}
use Rattle.cns_clearing.proofs.PoolSumLemmas.{ask_first, ask_named}
use Rattle.cns_clearing.proofs.pool_sums.ask_all.Goals as goal

pub loop-first-preserved : goal.loop-first-preserved
loop-first-preserved c =
    let a = c.in-Some.first.now in
    let rest = c.in-Some.rest.now in
    let list : c.loop-first.left.now ≡ a ∷ rest = search (rules, tests) in
    let before = rw list at c.loop-first.invariant in
    let asked : a.asked ≤ 1000000000000000000 = omega (arith, c.shares-asked.ensures.value, c.shares-asked.ensures.range.to) in
    let is : c.asked_of-asked_of_pool.result ≡ (if is_delivery a.kind then a.asked else 0) = rw c.shares-asked.ensures.value at c.asked_of-asked_of_pool.ensures in
    record {
      room = omega (arith, before.room, c.ask_next.ensures.left);
      last = c.ask_next.ensures.named a.issue ∙ rw (eq-eqb a.issue a.issue refl) refl;
      covered = λ i. c.ask_next.ensures.covered i ∙ before.covered i;
      delivered = λ i. c.ask_next.ensures.delivered i ∙ before.delivered i;
      out = λ i. omega (arith, before.out i, rw is at (c.ask_next.ensures.out i), ask_first a rest i);
      named = λ i. ask_named (a.issue == i) _ (asks_for i rest) _ (c.ask_next.ensures.named i) ∙ before.named i;
      small = λ i. omega (arith, before.small i, c.ask_next.ensures.out i, is, asked, at_most (a.issue == i) c.asked_of-asked_of_pool.result, at_most (is_delivery a.kind) a.asked);
      most = omega (arith, before.most, asked, sum_by-cons (λ (x : Ask). x.asked) a rest);
    }

pub returns-clause-out : goal.returns-clause-out
unfolding asked_of_pool
returns-clause-out c = λ i. omega (arith, rw (nil_from_length _ c.in_default.ensures.cases) at (c.loop-first.invariant.out i))

pub returns-clause-named : goal.returns-clause-named
returns-clause-named c = λ i. sym (or-false _) ∙ (rw (nil_from_length _ c.in_default.ensures.cases) at (c.loop-first.invariant.named i))
