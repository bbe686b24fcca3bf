use Rattle.std.proofs.Common.{subst}
use Rattle.cns_system.specs.Headline.{IsAgreed}
use Rattle.cns_system.proofs.HeadlineLemmas.{agreed}
use Rattle.cns_system.proofs.system.System.agreed.Goals as goal

pub returns-clause-headline : goal.returns-clause-headline
returns-clause-headline g c = subst IsAgreed c.self.view_is (agreed c.self.inside.pair c.lawful.ensures.lawful c.lawful.ensures.balanced c.lawful.ensures.frames c.self.invariant)
