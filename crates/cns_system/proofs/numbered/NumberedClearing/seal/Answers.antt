use Rattle.cns_system.proofs.NumberedLemmas.{seal_tied}
use Rattle.cns_system.proofs.numbered.NumberedClearing.seal.Goals as goal

pub invariant_of-self : goal.invariant_of-self
invariant_of-self g c =
    seal_tied c.self.inside.node.lots c.args.number c.seal.result c.self.inside.lots.lots c.seal.new.self.lots c.self.invariant c.seal.ensures
