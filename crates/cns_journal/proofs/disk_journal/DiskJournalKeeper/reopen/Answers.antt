use Rattle.std.proofs.Common.{rules, ◌∙◌}
use Rattle.cns_journal.specs.Keeper.{given_by}
use Rattle.cns_journal.proofs.CrashLemmas.{reopen-stays}
use Rattle.cns_journal.proofs.disk_journal.DiskJournalKeeper.reopen.Goals as goal

pub returns-clause-call : goal.returns-clause-call
returns-clause-call g c honest = record {
  any_moment = c.read_again.ensures.any_moment honest;
  stays = λ durable. reopen-stays g.D.Disk.left_since g.met.D.Disk.counts_now (given_by c.read_again.result) c.args.self.now c.read_again.new.self (c.read_again.ensures.honest ∙ honest)
      (c.read_again.ensures.keeps honest) (c.read_again.ensures.any_moment honest durable) (search rules);
  no_damage = c.read_again.ensures.no_damage honest;
}
