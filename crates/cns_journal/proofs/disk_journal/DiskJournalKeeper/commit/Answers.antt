use Rattle.std.proofs.Common.{arith, ◌∙◌}
use Rattle.std.proofs.lemmas.Grind.{common_steps}
use Rattle.cns_journal.proofs.CrashLemmas.{commit-stays}
use Rattle.cns_journal.proofs.disk_journal.DiskJournalKeeper.commit.Goals as goal

pub returns-clause-call : goal.returns-clause-call
returns-clause-call g c honest = record {
  any_moment = grind (arith, common_steps);
  stays = commit-stays g.D.Disk.left_since g.met.D.Disk.counts_now c.args.payload.now c.add.result c.args.self.now c.add.new.self (c.add.ensures.honest ∙ honest)
      (c.add.ensures.keeps honest) c.add.ensures.leaves (c.add.ensures.any_moment honest) (c.add.ensures.durable honest) c.add.ensures.unchanged;
  no_damage = c.add.ensures.no_damage honest;
}
