use Rattle.std.proofs.Common.{ℕ, ◌+◌, ◌≤◌, ◌∙◌, rules, arith, refl, true, false, length, ap, sym, subst, []}
use Rattle.cns_allocate.specs.Serving.{FollowPlanByStart, Serves}
use Rattle.cns_allocate.proofs.FollowLemmas.{follow-none}
use Rattle.cns_allocate.proofs.ServingLemmas.{budget-after, calls-after, fault-follow, fault-part, fault-unmet, group-cut, group-served, group_count, group_within}
use Rattle.cns_allocate.proofs.serving.serve_groups.Goals as goal

pub loop-served-init : goal.loop-served-init
loop-served-init g c = record {
  within = omega arith;
  cell = c.requires.cell;
  given = refl;
  made = refl;
  budget = c.requires.budget;
  calls = omega (arith, c.requires.calls);
  sealed = refl;
  follow = subst (λ ts. FollowPlanByStart [] ts false) (sym c.requires.none) (follow-none [] false (λ i j d less below. absurd (omega arith)) (λ e. refl));
}

pub returns-in_err-serve_group-clause-fault : goal.returns-in_err-serve_group-clause-fault
returns-in_err-serve_group-clause-fault g c =
    let i = c.loop-served.invariant in
    let group = c.group_len.ensures in
    let draws = c.in_err-serve_group.ensures.fault in
    let follow =
    fault-follow c.args.plan.now c.loop-served.served c.group_len.result c.requires.plan c.loop-served-test.true group.some group.within group.group c.loop-served.seat
    c.serve_group.new.seat i.follow draws in
    let serves : Serves c.args.plan.now c.args.seat.now c.serve_group.new.seat true =
    record { cell = draws.cell ∙ i.cell ∙ sym c.requires.cell; out = omega (arith, draws.given, draws.made, i.given, i.made); follow = follow } in
    search (rules, serves)

pub returns-in_err-serve_group-clause-unmet : goal.returns-in_err-serve_group-clause-unmet
returns-in_err-serve_group-clause-unmet g c =
    let unmet = fault-unmet c.loop-served.seat c.serve_group.new.seat c.in_err-serve_group.ensures.fault ∙ c.loop-served.invariant.sealed in
    search (rules, unmet)

pub returns-in_err-serve_group-clause-part : goal.returns-in_err-serve_group-clause-part
returns-in_err-serve_group-clause-part g c =
    let part =
    fault-part c.args.plan.now c.loop-served.served c.loop-served.seat c.serve_group.new.seat c.loop-served-test.true c.loop-served.invariant.follow
    c.in_err-serve_group.ensures.fault in
    search (rules, part)

pub returns-then-tickets-served-clause-met : goal.returns-then-tickets-served-clause-met
returns-then-tickets-served-clause-met g c =
    let group = c.group_len.ensures in
    let count = group_count c.args.plan.now c.loop-served.served c.group_len.result c.requires.plan c.loop-served-test.true group.some group.within group.group in
    let within = group_within c.args.plan.now c.loop-served.served c.group_len.result c.requires.plan c.loop-served-test.true group.some group.within group.group in
    λ e. omega (arith, c.if-tickets-served.true, ap length c.tickets.ensures, count, within)

pub returns-then-tickets-served-clause-served : goal.returns-then-tickets-served-clause-served
returns-then-tickets-served-clause-served g c =
    let i = c.loop-served.invariant in
    let group = c.group_len.ensures in
    let drawn = c.in_ok-serve_group.ensures in
    let count = group_count c.args.plan.now c.loop-served.served c.group_len.result c.requires.plan c.loop-served-test.true group.some group.within group.group in
    let cut =
    group-cut c.args.plan.now c.loop-served.served c.group_len.result c.requires.plan c.loop-served-test.true group.some group.within group.group c.loop-served.seat
    c.serve_group.new.seat i.follow drawn.drawn drawn.ends (omega (arith, c.if-tickets-served.true, ap length c.tickets.ensures, count)) in
    record {
      cell = drawn.drawn.cell ∙ i.cell ∙ sym c.requires.cell;
      out = omega (arith, drawn.drawn.given, drawn.drawn.made, i.given, i.made);
      follow = cut.0;
    }

pub returns-then-tickets-served-clause-sealed : goal.returns-then-tickets-served-clause-sealed
returns-then-tickets-served-clause-sealed g c =
    let group = c.group_len.ensures in
    let drawn = c.in_ok-serve_group.ensures in
    let count = group_count c.args.plan.now c.loop-served.served c.group_len.result c.requires.plan c.loop-served-test.true group.some group.within group.group in
    (group-cut c.args.plan.now c.loop-served.served c.group_len.result c.requires.plan c.loop-served-test.true group.some group.within group.group c.loop-served.seat
    c.serve_group.new.seat c.loop-served.invariant.follow drawn.drawn drawn.ends (omega (arith, c.if-tickets-served.true, ap length c.tickets.ensures, count))).1

pub loop-served-preserved : goal.loop-served-preserved
loop-served-preserved g c =
    let i = c.loop-served.invariant in
    let plan = c.args.plan.now in
    let m : ℕ = c.loop-served.served in
    let n : ℕ = c.group_len.result in
    let group = c.group_len.ensures in
    let drawn = c.in_ok-serve_group.ensures in
    let count = group_count plan m n c.requires.plan c.loop-served-test.true group.some group.within group.group in
    let all : m + n ≤ length c.serve_group.new.seat.tickets = omega (arith, c.if-tickets-served.false, ap length c.tickets.ensures, count) in
    let served =
    group-served plan m n c.requires.plan c.loop-served-test.true group.some group.within group.group c.loop-served.seat c.serve_group.new.seat i.follow drawn.drawn
    drawn.ends all in
    rw count
    (record {
      within = group_within plan m n c.requires.plan c.loop-served-test.true group.some group.within group.group;
      cell = drawn.drawn.cell ∙ i.cell;
      given = drawn.drawn.given ∙ i.given;
      made = drawn.drawn.made ∙ i.made;
      budget =
          budget-after plan m n c.requires.plan c.loop-served-test.true group.some group.within group.group c.loop-served.seat c.serve_group.new.seat i.follow drawn.drawn
          drawn.ends i.budget;
      calls =
          calls-after plan m n c.requires.plan c.loop-served-test.true group.some group.within group.group c.loop-served.seat c.serve_group.new.seat i.follow drawn.drawn
          drawn.ends i.calls;
      sealed = served.1 ∙ i.sealed;
      follow = served.0;
    })
