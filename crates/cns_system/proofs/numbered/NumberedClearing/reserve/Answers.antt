use Rattle.cns_system.proofs.NumberedLemmas.{reserve_tied}
use Rattle.cns_system.proofs.numbered.NumberedClearing.reserve.Goals as goal

pub invariant_of-self : goal.invariant_of-self
invariant_of-self g c =
    reserve_tied c.self.inside.node.lots c.args.number c.args.member c.reserve.result c.self.inside.lots.lots c.reserve.new.self.lots c.self.invariant c.reserve.ensures
