use Rattle.std.proofs.Common.{List, Result, Ok, ap, refl, sym, ◌∙◌}
use Rattle.std.specs.Prelude.{IfErr}
use Rattle.cns_records.specs.declared.refusal.Refusal.{Refusal}
use Rattle.cns_system.specs.Finish.{IsNotEntered}
use Rattle.cns_system.specs.Lot.{LotState}
use Rattle.cns_system.specs.Lots.{ticket_call}
use Rattle.cns_system.specs.World.{World}
use Rattle.cns_system.specs.declared.event.Event.TheVariants as event
use Rattle.cns_system.proofs.FinishLemmas.{differs, draws_it, passed_on, same_as, stops, unlike}
use Rattle.cns_system.proofs.FloorLemmas.{unless_spared}
use Rattle.cns_system.proofs.floor.Floor.draw.Goals as goal

pub returns-in_err-next-clause-err : goal.returns-in_err-next-clause-err
returns-in_err-next-clause-err g c =
    let same = c.lots.ensures ∙ ap (λ (w : World). w.clear.lots) c.system.ensures.system in
    let lawful = c.system.ensures.lawful in
    passed_on (λ (r : Result (Unit {0}) Refusal). IfErr r (λ (s : Refusal). IsNotEntered c.args.lot c.args.ticket s c.args.self.now.system c.args.self.now.system)) c.from_residual.result
    c.in_err-next.field-0.0 c.from_residual.ensures.0 c.from_residual.ensures.1
    (stops c.args.lot c.args.ticket c.in_err-next.field-0.0 c.args.self.now.system
    (sym (c.in_err-next.ensures ∙ ap (λ (ls : List LotState). ticket_call c.args.lot c.args.ticket.member ls) same)) lawful.accord lawful.frames lawful.headline)

pub returns-then-ne-clause-err : goal.returns-then-ne-clause-err
returns-then-ne-clause-err g c =
    let same = c.lots.ensures ∙ ap (λ (w : World). w.clear.lots) c.system.ensures.system in
    differs c.args.lot c.args.ticket c.in_ok-next.next c.args.self.now.system (sym (c.in_ok-next.ensures ∙ ap (λ (ls : List LotState). ticket_call c.args.lot c.args.ticket.member ls) same))
    (unlike c.in_ok-next.next c.args.ticket (sym c.ne.ensures ∙ c.if-ne.true))

pub by_system-requires : goal.by_system-requires
by_system-requires g c = unless_spared (event.Reserve c.args.lot c.args.ticket.member) c.args.lot c.args.self.now c.args.self.now.busy refl refl c.requires

pub returns-clause-ok : goal.returns-clause-ok
returns-clause-ok g c =
    let same = c.lots.ensures ∙ ap (λ (w : World). w.clear.lots) c.system.ensures.system in
    let one = same_as c.in_ok-next.next c.args.ticket (sym c.ne.ensures ∙ c.if-ne.false) in
    let would = sym (c.in_ok-next.ensures ∙ ap (λ (ls : List LotState). ticket_call c.args.lot c.args.ticket.member ls) same) in
    draws_it c.args.lot c.args.ticket.member c.args.ticket c.by_system.result c.args.self.now.system c.by_system.new.self.system
    (would ∙ ap Ok one) c.by_system.ensures.0
