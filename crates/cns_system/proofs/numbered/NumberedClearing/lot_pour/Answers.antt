use Rattle.std.proofs.Common.{◌≡◌, Ok, ◌∙◌, sym, subst, refl, rules}
use Rattle.cns_records.specs.declared.refusal.Refusal.TheVariants as refusal
use Rattle.cns_records.proofs.CallLemmas.{unchanged}
use Rattle.cns_system.specs.Lots.{going_lot}
use Rattle.cns_system.specs.Numbered.{NumberedNode, numbered_pour}
use Rattle.cns_system.proofs.NumberedLemmas.{pour_down, pour_never, pour_none, pour_tied, poured_of}
use Rattle.cns_system.proofs.numbered.NumberedClearing.lot_pour.Goals as goal

pub returns-in_err-issue-clause-pour : goal.returns-in_err-issue-clause-pour
returns-in_err-issue-clause-pour g c =
    unchanged (numbered_pour c.args.number c.args.self.now.clear.log.down c.args.self.now.clear.log.records c.args.self.now.clear.lots c.args.self.now.lots) c.in_err-issue.field-0.0 _ c.args.self.now.clear.lots _
    (pour_none c.args.number _ _ _ c.args.self.now.lots c.in_err-issue.field-0.0 (search rules)) (search rules) (search rules)

pub returns-then-is_down-clause-pour : goal.returns-then-is_down-clause-pour
returns-then-is_down-clause-pour g c =
    let there = c.in_ok-issue.ensures in
    let going : going_lot c.args.self.now.lots c.args.number ≡ Ok there.0 = subst (λ (n : NumberedNode). going_lot n.lots c.args.number ≡ Ok there.0) c.self.view_is there.1 in
    unchanged (numbered_pour c.args.number c.args.self.now.clear.log.down c.args.self.now.clear.log.records c.args.self.now.clear.lots c.args.self.now.lots) refusal.Down _ c.args.self.now.clear.lots _
    (pour_down c.args.number _ _ _ c.args.self.now.lots there.0 going (search rules)) refl (search rules)

pub unreachable-requires : goal.unreachable-requires
unreachable-requires g c =
    let there = c.in_ok-issue.ensures in
    pour_never c.args.number c.self.inside.node c.self.inside.lots.lots there.0 c.lot_pour.new.self.lots c.in_default.field-0 c.self.invariant there.1 (sym c.is_down.ensures ∙ c.if-is_down.false)
    (rw there.2 at c.in_default.ensures.lots)

pub invariant_of-self : goal.invariant_of-self
invariant_of-self g c =
    let there = c.in_ok-issue.ensures in
    let left = poured_of c.args.number c.self.inside.node c.self.inside.lots.lots there.0 c.lot_pour.new.self.lots c.in-Ok.shares c.self.invariant there.1 (sym c.is_down.ensures ∙ c.if-is_down.false)
    (rw there.2 at c.in-Ok.ensures.lots) in
    pour_tied c.self.inside.node.log.records c.self.inside.node.lots c.lot_pour.new.self.lots c.self.inside.lots.lots there.0.issue c.self.invariant left.1

pub returns : goal.returns
returns g c =
    let there = c.in_ok-issue.ensures in
    let left = poured_of c.args.number c.self.inside.node c.self.inside.lots.lots there.0 c.lot_pour.new.self.lots c.in-Ok.shares c.self.invariant there.1 (sym c.is_down.ensures ∙ c.if-is_down.false)
    (rw there.2 at c.in-Ok.ensures.lots) in
    rw (← c.self.view_is) (record { pour = left.0; log = c.in-Ok.ensures.log; lots = refl })
