use Rattle.std.proofs.Common.{rules, ◌≡◌, ◌++◌, ◌∷◌, [], ◌∙◌, ap}
use Rattle.cns_journal.specs.MemDisk.{MemState, Syncs}
use Rattle.cns_journal.proofs.MemCallLemmas.{did_noted}
use Rattle.cns_journal.proofs.MemDiskLemmas.{fewer_idle, fewer_synced}
use Rattle.cns_journal.proofs.PowerLemmas.{disk_noted}
use Rattle.cns_journal.proofs.mem_disk.MemDiskDisk.sync.Goals as goal

pub invariant_of-self-2 : goal.invariant_of-self-2
invariant_of-self-2 c = disk_noted _ c.self.inside.calls.items c.push_reserved.new.self.items Syncs c.self.inside.idle (search rules) c.self.invariant.file_is tt c.self.invariant.within

pub returns-in_default-clause-crash : goal.returns-in_default-clause-crash
returns-in_default-clause-crash c = fewer_idle c.args.self.now.steps c.refuse.new.self.steps (search rules)

pub returns-then-is_err-clause-crash : goal.returns-then-is_err-clause-crash
returns-then-is_err-clause-crash c = fewer_idle c.args.self.now.steps c.refuse-then-is_err.new.self.steps (search rules)

pub returns-clause-crash : goal.returns-clause-crash
returns-clause-crash c image here =
    let items : c.push_reserved.new.self.items ≡ c.self.inside.calls.items ++ record { step = Syncs; idle = c.self.inside.idle } ∷ [] = search rules in
    let steps = did_noted _ _ _ items ∙ ap (λ (d : MemState). Syncs ∷ d.steps) (c.self.view_is ∙ c.turn.ensures.leaves) in
    fewer_synced c.args.self.now.steps image (rw steps at here)
