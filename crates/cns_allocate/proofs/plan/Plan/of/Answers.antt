use Rattle.std.proofs.Common.{◌≡◌, sym, subst}
use Rattle.cns_allocate.specs.Plan.{IsPlan}
use Rattle.cns_allocate.proofs.PlanLemmas.{IsPlan-plan_of, groups_added, rows_in-fit, wanting, wanting-rows_in}
use Rattle.cns_allocate.proofs.plan.Plan.of.Goals as goal

pub planned_rows-requires : goal.planned_rows-requires
planned_rows-requires c = rw (c.deref.ensures.value, c.in_ok-rows.ensures) (rows_in-fit c.args.book.now.history c.args.issue c.requires.long)

pub invariant_of-result : goal.invariant_of-result
invariant_of-result c =
    let h = c.args.book.now.history in
    let book = c.args.orders.now.book in
    let settings = c.args.priorities.now.settings in
    let planned : c.in_ok-planned.planned.items ≡ wanting c.args.issue h book settings c.args.were_long.now =
    cc (c.in_ok-planned.ensures, c.in_ok-were_long.ensures, c.deref.ensures.value, c.in_ok-rows.ensures, wanting-rows_in c.args.issue h book settings c.args.were_long.now) in
    let all =
    groups_added c.args.issue h book settings c.args.were_long.now c.in_ok-planned.planned.items c.in_ok-list.list.items c.add_group.new.list.items
    c.add_group-2.new.list.items c.add_group-3.new.list.items planned c.in_ok-list.ensures.items (cc c.in_ok-add_group.ensures) (cc c.in_ok-add_group-2.ensures)
    (cc c.in_ok-add_group-3.ensures) in
    subst IsPlan (sym all) (IsPlan-plan_of c.args.issue h book settings c.args.were_long.now c.requires.long)

pub returns : goal.returns
returns c =
    let h = c.args.book.now.history in
    let book = c.args.orders.now.book in
    let settings = c.args.priorities.now.settings in
    let planned : c.in_ok-planned.planned.items ≡ wanting c.args.issue h book settings c.args.were_long.now =
    cc (c.in_ok-planned.ensures, c.in_ok-were_long.ensures, c.deref.ensures.value, c.in_ok-rows.ensures, wanting-rows_in c.args.issue h book settings c.args.were_long.now) in
    groups_added c.args.issue h book settings c.args.were_long.now c.in_ok-planned.planned.items c.in_ok-list.list.items c.add_group.new.list.items
    c.add_group-2.new.list.items c.add_group-3.new.list.items planned c.in_ok-list.ensures.items (cc c.in_ok-add_group.ensures) (cc c.in_ok-add_group-2.ensures)
    (cc c.in_ok-add_group-3.ensures)
