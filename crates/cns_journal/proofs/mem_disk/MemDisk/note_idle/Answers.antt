use Rattle.std.proofs.Common.{rules, ◌∙◌, refl, sym, reverse, vec_items, ◌≤◌, ◌-◌, ◌^◌}
use Rattle.cns_journal.specs.MemCall.{steps_of}
use Rattle.cns_journal.proofs.MemCallLemmas.{idle_content, idle_noted}
use Rattle.cns_journal.proofs.PowerLemmas.{within_idle}
use Rattle.cns_journal.proofs.mem_disk.MemDisk.note_idle.Goals as goal

pub invariant_of-self : goal.invariant_of-self
invariant_of-self c =
    let fits : c.self.inside.idle ≤ 2 ^ 64 - 1 = search rules in
    let noted = idle_noted c.self.inside.idle c.saturating_add-self-inside.result (steps_of (reverse (vec_items c.self.inside.calls))) fits c.saturating_add-self-inside.ensures in
    record { file_is = c.self.invariant.file_is ∙ sym (idle_content _ _ noted); within = within_idle _ _ noted c.self.invariant.within }

pub returns : goal.returns
returns c =
    let fits : c.self.inside.idle ≤ 2 ^ 64 - 1 = search rules in
    let noted = idle_noted c.self.inside.idle c.saturating_add-self-inside.result (steps_of (reverse (vec_items c.self.inside.calls))) fits c.saturating_add-self-inside.ensures in
    rw (← c.self.view_is) (refl, noted)
