use Rattle.std.proofs.Common.{ap, inl, refl, subst, sym, ◌∙◌}
use Rattle.std.specs.Prelude.{◌≡◌, ◌||◌, Bool, IfOk}
use Rattle.cns_system.specs.Finish.{AreOfLot}
use Rattle.cns_system.specs.World.{World}
use Rattle.cns_system.proofs.FinishLemmas.{finish_goes, finish_told, released_gone, released_rest, released_system}
use Rattle.cns_system.proofs.floor.Floor.finish.Goals as goal
use Rattle.cns_system.proofs.floor.Floor.finish.Goals.{then-failed, else-failed}

pub enter-told-requires-clause-free : goal.enter-told-requires-clause-free
enter-told-requires-clause-free g c = released_gone c.args.lot c.in-Some.sealed c.args.self.now c.release.new.self c.in-Some.ensures.released

pub returns-after-failed-clause-ok : goal.returns-after-failed-clause-ok
returns-after-failed-clause-ok g c =
    let either : c.if-failed.enter ≡ (c.args.failed || c.in-Some.sealed) =
    elim c.if-failed.branch [
      | then-failed w ↦ w.enter-is ∙ w.if-failed.true ∙ ap (λ (t : Bool). t || c.in-Some.sealed) (sym w.if-failed.true)
      | else-failed w ↦ w.enter-is ∙ ap (λ (t : Bool). t || c.in-Some.sealed) (sym w.if-failed.false)
    ] in
    finish_told (λ told. told.items) c.args.lot c.args.tickets.now c.args.failed c.in-Some.sealed c.if-failed.enter c.enter-told.result c.args.self.now c.release.new.self c.enter-told.new.self.system
    c.in-Some.ensures.released either c.enter-told.ensures.ok

pub returns-after-failed-clause-tickets : goal.returns-after-failed-clause-tickets
returns-after-failed-clause-tickets g c =
    subst (λ (w : World). IfOk c.enter-told.result (λ told. AreOfLot c.args.lot w told.items))
    (released_system c.args.lot c.in-Some.sealed c.args.self.now c.release.new.self c.in-Some.ensures.released) c.enter-told.ensures.tickets

pub returns-after-failed-clause-strict : goal.returns-after-failed-clause-strict
returns-after-failed-clause-strict g c =
    (finish_goes (λ told. told.items) c.args.lot c.args.tickets.now c.in-Some.sealed c.if-failed.enter c.enter-told.result c.args.self.now c.release.new.self c.enter-told.new.self.system
    c.in-Some.ensures.released c.enter-told.ensures.ok c.enter-told.ensures.err).strict

pub returns-after-failed-clause-numbers : goal.returns-after-failed-clause-numbers
returns-after-failed-clause-numbers g c =
    (finish_goes (λ told. told.items) c.args.lot c.args.tickets.now c.in-Some.sealed c.if-failed.enter c.enter-told.result c.args.self.now c.release.new.self c.enter-told.new.self.system
    c.in-Some.ensures.released c.enter-told.ensures.ok c.enter-told.ensures.err).rises

pub returns-in-None-clause-busy : goal.returns-in-None-clause-busy
returns-in-None-clause-busy g c = released_rest c.args.lot c.release.result c.args.self.now c.release.new.self c.release.ensures.released

pub returns-in-None-clause-tickets : goal.returns-in-None-clause-tickets
returns-in-None-clause-tickets g c =
    subst (AreOfLot c.args.lot c.args.self.now.system) (sym c.new.ensures.items) (inl (refl, refl))
