use Rattle.std.proofs.Common.{refl}
use Rattle.cns_system.specs.Happens.{judged}
use Rattle.cns_system.specs.declared.event.Event.TheVariants as event
use Rattle.cns_system.specs.declared.outcome.Outcome.TheVariants as outcomes
use Rattle.cns_system.proofs.CallComes.{node_comes}
use Rattle.cns_system.proofs.EventComes.{close_comes, look_asked_comes, look_poured_comes, open_comes, pour_comes, reserve_comes, seal_comes}
use Rattle.cns_system.proofs.LinkComes.{own_comes}
use Rattle.cns_system.proofs.pair.Pair.step.Goals as goal

pub returns-in-Trade : goal.returns-in-Trade
unfolding judged
returns-in-Trade g c =
    rw (c.in-Trade.is, ← c.self.view_is, c.of_trade.ensures)
    (node_comes (event.Trade c.in-Trade.trade) (λ _. outcomes.Accepted) _ c.take_trade.result _ c.take_trade.new.self (λ c. refl) refl (λ x. tt) refl
    c.take_trade.ensures.lots c.take_trade.ensures.clear)

pub returns-in-Exempt : goal.returns-in-Exempt
unfolding judged
returns-in-Exempt g c =
    rw (c.in-Exempt.is, ← c.self-in-Exempt.view_is, c.of_done.ensures)
    (node_comes (event.Exempt c.in-Exempt.member c.in-Exempt.issue c.in-Exempt.shares) (λ _. outcomes.Done) _ c.exempt.result _ c.exempt.new.self (λ c. refl) refl (λ x. tt) refl
    c.exempt.ensures.lots c.exempt.ensures.clear)

pub returns-in-Priority : goal.returns-in-Priority
unfolding judged
returns-in-Priority g c =
    rw (c.in-Priority.is, ← c.self-in-Priority.view_is, c.of_done-in-Priority.ensures)
    (node_comes (event.Priority c.in-Priority.member c.in-Priority.issue c.in-Priority.on) (λ _. outcomes.Done) _ c.priority.result _ c.priority.new.self (λ c. refl) refl (λ x. tt) refl
    c.priority.ensures.lots c.priority.ensures.clear)

pub returns-in-Cycle : goal.returns-in-Cycle
unfolding judged
returns-in-Cycle g c =
    rw (c.in-Cycle.is, ← c.self-in-Cycle.view_is, c.of_cycle.ensures)
    (node_comes (event.Cycle c.in-Cycle.id) outcomes.Cycled _ c.cycle.result _ c.cycle.new.self (λ c. refl) refl (λ x. tt) refl c.cycle.ensures.lots c.cycle.ensures.clear)

pub returns-in-LotOpen : goal.returns-in-LotOpen
returns-in-LotOpen g c =
    rw (c.in-LotOpen.is, ← c.self-in-LotOpen.view_is, c.of_lot_open.ensures)
    (open_comes _ c.lot_open.new.self c.in-LotOpen.issue c.lot_open.result c.lot_open.ensures)

pub returns-in-LotPour : goal.returns-in-LotPour
returns-in-LotPour g c =
    rw (c.in-LotPour.is, ← c.self-in-LotPour.view_is, c.of_lot_pour.ensures)
    (pour_comes _ c.lot_pour.new.self c.in-LotPour.lot c.lot_pour.result c.lot_pour.ensures.log c.lot_pour.ensures.lots c.lot_pour.ensures.pour)

pub returns-in-Reserve : goal.returns-in-Reserve
returns-in-Reserve g c =
    rw (c.in-Reserve.is, ← c.self-in-Reserve.view_is, c.of_reserve.ensures)
    (reserve_comes _ c.reserve.new.self c.in-Reserve.lot c.in-Reserve.member c.reserve.result c.reserve.ensures.clear c.reserve.ensures.lots)

pub returns-in-Seal : goal.returns-in-Seal
returns-in-Seal g c =
    rw (c.in-Seal.is, ← c.self-in-Seal.view_is, c.of_done-in-Seal.ensures)
    (seal_comes _ c.seal.new.self c.in-Seal.lot c.seal.result c.seal.ensures.clear c.seal.ensures.lots)

pub returns-in-LotClose : goal.returns-in-LotClose
returns-in-LotClose g c =
    rw (c.in-LotClose.is, ← c.self-in-LotClose.view_is, c.of_lot_close.ensures)
    (close_comes _ c.lot_close.new.self c.in-LotClose.lot c.lot_close.result c.lot_close.ensures)

pub returns-in-LookPoured : goal.returns-in-LookPoured
returns-in-LookPoured g c =
    rw (c.in-LookPoured.is, ← c.self-in-LookPoured.view_is, c.of_look_poured.ensures) (look_poured_comes _ c.in-LookPoured.lot c.look.result c.look.ensures)

pub returns-in-LookAsked : goal.returns-in-LookAsked
returns-in-LookAsked g c =
    rw (c.in-LookAsked.is, ← c.self-in-LookAsked.view_is, c.of_look_asked.ensures) (look_asked_comes _ c.in-LookAsked.lot c.look-in-LookAsked.result c.look-in-LookAsked.ensures)

pub returns-in-Own : goal.returns-in-Own
returns-in-Own g c =
    rw (c.in-Own.is, ← c.self-in-Own.view_is, c.of_own.ensures) (own_comes c.in-Own.instruction c.instruct.result _ c.instruct.new.self c.instruct.ensures)
