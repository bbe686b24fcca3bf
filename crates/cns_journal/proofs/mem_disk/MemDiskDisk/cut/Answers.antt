use Rattle.std.proofs.Common.{rules}
use Rattle.cns_journal.specs.Disk.{Shortened}
use Rattle.cns_journal.specs.MemDisk.{Calls, Cuts, IsIdle}
use Rattle.cns_journal.proofs.MemCallLemmas.{idle_content}
use Rattle.cns_journal.proofs.MemDiskLemmas.{calls_cut_crash, fewer_idle, follows_idle}
use Rattle.cns_journal.proofs.mem_disk.MemDiskDisk.cut.Goals as goal

pub returns-then-matches-clause-crash : goal.returns-then-matches-clause-crash
returns-then-matches-clause-crash c within = follows_idle (Shortened c.args.len) c.args.self.now.steps c.refuse.new.self.steps (search rules)

pub returns-in_default-to_vec-clause-crash : goal.returns-in_default-to_vec-clause-crash
returns-in_default-to_vec-clause-crash c within = follows_idle (Shortened c.args.len) c.args.self.now.steps c.refuse-in_default-to_vec.new.self.steps (search rules)

pub returns-clause-crash : goal.returns-clause-crash
returns-clause-crash c within =
    let called : Calls (Cuts c.args.len) c.change.result c.args.self.now c.change.new.self = search rules in
    calls_cut_crash c.change.result _ _ c.args.len called

pub returns-then-matches-clause-outside : goal.returns-then-matches-clause-outside
returns-then-matches-clause-outside c past =
    let idle : IsIdle c.args.self.now.steps c.refuse.new.self.steps = search rules in
    record { fails = search rules; same = idle_content _ _ idle; fewer = fewer_idle _ _ idle }
