use Rattle.cns_system.proofs.AccordLemmas.{started}
use Rattle.cns_system.proofs.HeadlineLemmas.{agreed}
use Rattle.cns_system.proofs.system.System.open.Goals as goal

pub invariant_of-result : goal.invariant_of-result
invariant_of-result g c = started c.args.openings _ _ c.in_ok-pair.pair c.in_ok-pair.ensures.ok

pub returns-clause-accord : goal.returns-clause-accord
returns-clause-accord g c = started c.args.openings _ _ c.in_ok-pair.pair c.in_ok-pair.ensures.ok

pub returns-clause-headline : goal.returns-clause-headline
returns-clause-headline g c =
    agreed c.in_ok-pair.pair c.lawful.ensures.lawful c.lawful.ensures.balanced c.lawful.ensures.frames (started c.args.openings _ _ c.in_ok-pair.pair c.in_ok-pair.ensures.ok)
