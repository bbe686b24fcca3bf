use Rattle.std.proofs.Common.{rules}
use Rattle.cns_journal.proofs.MemDiskLemmas.{fewer_idle}
use Rattle.cns_journal.proofs.mem_disk.MemDiskDisk.len.Goals as goal

pub returns-in-Runs-clause-crash : goal.returns-in-Runs-clause-crash
returns-in-Runs-clause-crash c = fewer_idle c.args.self.now.steps c.note_idle.new.self.steps (search rules)

pub returns-in_default-clause-crash : goal.returns-in_default-clause-crash
returns-in_default-clause-crash c = fewer_idle c.args.self.now.steps c.refuse.new.self.steps (search rules)
