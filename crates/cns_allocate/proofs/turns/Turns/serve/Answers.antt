use Rattle.std.proofs.Common.{◌≡◌, ◌∙◌, Some, None, ap, drop, sym, subst}
use Rattle.std.specs.Prelude.{position}
use Rattle.cns_allocate.specs.Plan.{IsPlan}
use Rattle.cns_allocate.specs.Served.{without}
use Rattle.cns_allocate.proofs.PlanLemmas.{is_planned_as}
use Rattle.cns_allocate.proofs.TurnLemmas.{IsPlan-without, position-none, removed_first, removed_other}
use Rattle.cns_allocate.proofs.turns.Turns.serve.Goals as goal

pub invariant_of-self : goal.invariant_of-self
invariant_of-self c =
    let at = c.self.inside in
    let found : position (is_planned_as c.args.member) (drop at.start at.list.items) ≡ Some 0 = cc (c.self.view_is, c.as_slice.ensures, c.place_of.ensures.place, c.in-Some-eq0.is, c.in-Some-eq0.field-0-test) in
    let left = removed_first at.list.items at.start c.args.member c.self.invariant.1 found in
    (left.0, subst IsPlan (sym left.1) (IsPlan-without c.args.member (drop at.start at.list.items) c.self.invariant.1))

pub returns-in-Some-eq0 : goal.returns-in-Some-eq0
returns-in-Some-eq0 c =
    let at = c.self.inside in
    let found : position (is_planned_as c.args.member) (drop at.start at.list.items) ≡ Some 0 = cc (c.self.view_is, c.as_slice.ensures, c.place_of.ensures.place, c.in-Some-eq0.is, c.in-Some-eq0.field-0-test) in
    (removed_first at.list.items at.start c.args.member c.self.invariant.1 found).1 ∙ ap (without c.args.member) c.self.view_is

pub invariant_of-self-in-Some : goal.invariant_of-self-in-Some
invariant_of-self-in-Some c =
    let at = c.self.inside in
    let found : position (is_planned_as c.args.member) (drop at.start at.list.items) ≡ Some c.in-Some.place = cc (c.self.view_is, c.as_slice.ensures, c.place_of.ensures.place, c.in-Some.is) in
    let left = removed_other at.list.items at.start c.args.member c.in-Some.place c.self.invariant.0 c.self.invariant.1 found in
    rw (c.remove.ensures.items, left.1) (left.0, IsPlan-without c.args.member (drop at.start at.list.items) c.self.invariant.1)

pub returns-in-Some : goal.returns-in-Some
returns-in-Some c =
    let at = c.self.inside in
    let found : position (is_planned_as c.args.member) (drop at.start at.list.items) ≡ Some c.in-Some.place = cc (c.self.view_is, c.as_slice.ensures, c.place_of.ensures.place, c.in-Some.is) in
    let left = removed_other at.list.items at.start c.args.member c.in-Some.place c.self.invariant.0 c.self.invariant.1 found in
    ap (drop at.start) c.remove.ensures.items ∙ left.1 ∙ ap (without c.args.member) c.self.view_is

pub returns-in-None : goal.returns-in-None
returns-in-None c =
    let missing : position (is_planned_as c.args.member) c.args.self.now ≡ None = cc (c.as_slice.ensures, c.place_of.ensures.place, c.in-None.is) in
    sym (position-none (is_planned_as c.args.member) c.args.self.now missing)
