use Rattle.std.proofs.Common.{rules, length}
use Rattle.cns_journal.specs.Disk.{Torn}
use Rattle.cns_journal.specs.MemDisk.{Calls, Writes, IsIdle}
use Rattle.cns_journal.proofs.MemCallLemmas.{idle_content}
use Rattle.cns_journal.proofs.MemDiskLemmas.{calls_write_crash, fewer_idle, follows_idle}
use Rattle.cns_journal.proofs.mem_disk.MemDiskDisk.write_at.Goals as goal

pub returns-then-matches-clause-crash : goal.returns-then-matches-clause-crash
returns-then-matches-clause-crash c within = follows_idle (Torn c.args.at (length c.args.bytes.now)) c.args.self.now.steps c.refuse.new.self.steps (search rules)

pub returns-in_default-written-clause-crash : goal.returns-in_default-written-clause-crash
returns-in_default-written-clause-crash c within = follows_idle (Torn c.args.at (length c.args.bytes.now)) c.args.self.now.steps c.refuse-in_default-written.new.self.steps (search rules)

pub returns-in_default-to_vec-clause-crash : goal.returns-in_default-to_vec-clause-crash
returns-in_default-to_vec-clause-crash c within = follows_idle (Torn c.args.at (length c.args.bytes.now)) c.args.self.now.steps c.refuse-in_default-to_vec.new.self.steps (search rules)

pub returns-clause-crash : goal.returns-clause-crash
returns-clause-crash c within =
    let called : Calls (Writes c.args.at c.args.bytes.now) c.change.result c.args.self.now c.change.new.self = search rules in
    calls_write_crash c.change.result _ _ c.args.at c.args.bytes.now called within

pub returns-then-matches-clause-outside : goal.returns-then-matches-clause-outside
returns-then-matches-clause-outside c past =
    let idle : IsIdle c.args.self.now.steps c.refuse.new.self.steps = search rules in
    record { fails = search rules; same = idle_content _ _ idle; fewer = fewer_idle _ _ idle }
