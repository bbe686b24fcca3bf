use Rattle.cns_journal.proofs.CrashLemmas.{any_calls, any_calls_harmless}
use Rattle.cns_journal.proofs.disk_journal.outlasts_crashes.Goals as goal

pub returns-clause-records : goal.returns-clause-records
returns-clause-records g c = any_calls g.D.Disk.left_since g.met.D.Disk.only_now

pub returns-clause-no_damage : goal.returns-clause-no_damage
returns-clause-no_damage g c = any_calls_harmless g.D.Disk.left_since g.met.D.Disk.only_now
