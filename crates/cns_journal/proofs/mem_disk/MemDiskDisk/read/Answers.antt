use Rattle.std.proofs.Common.{rules}
use Rattle.cns_journal.proofs.MemDiskLemmas.{fewer_idle}
use Rattle.cns_journal.proofs.mem_disk.MemDiskDisk.read.Goals as goal

pub returns-then-not-matches-clause-crash : goal.returns-then-not-matches-clause-crash
returns-then-not-matches-clause-crash c = fewer_idle c.args.self.now.steps c.refuse.new.self.steps (search rules)

pub returns-clause-crash : goal.returns-clause-crash
returns-clause-crash c = fewer_idle c.args.self.now.steps c.note_idle.new.self.steps (search rules)
