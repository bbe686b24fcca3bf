use Rattle.cns_tally.proofs.TallyLemmas.{if_counted-appends}
use Rattle.cns_tally.proofs.tally.TallyWrite.write.Goals as goal

pub returns-clause-bytes : goal.returns-clause-bytes
returns-clause-bytes g c = if_counted-appends c.args.self.now.lines c.take.new.self _ _ _ c.in_ok-taken.ensures.bytes c.take.ensures
