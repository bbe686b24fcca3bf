use Rattle.std.proofs.Common.{rules, ◌≡◌, ◌++◌, length, take, drop, ◌∙◌}
use Rattle.std.proofs.lemmas.List.{take_at}
use Rattle.std.specs.Prelude.{None}
use Rattle.cns_journal.specs.MemDisk.{IsFilled, content_of}
use Rattle.cns_journal.proofs.FillLemmas.{filled_whole, places_of}
use Rattle.cns_journal.proofs.PowerLemmas.{comes_back_image}
use Rattle.cns_journal.proofs.mem_disk.MemDisk.file_after.Goals as goal

pub returns-clause-filled : goal.returns-clause-filled
returns-clause-filled c =
    let same : c.in_ok-file.file.items ≡ content_of c.args.self.now.steps = search rules in
    let calls : c.as_slice-2.result.now ≡ c.self.inside.calls.items = search rules in
    let taken : c.as_mut_slice.result.now ≡ c.in_ok-file.file.items = search rules in
    let filled : IsFilled (places_of c.self.inside.calls.items) c.in-Some.byte c.in_ok-file.file.items c.fill_unsynced.new.file = rw (calls, taken) at c.fill_unsynced.ensures in
    let len : length c.in_ok-file.file.items ≡ c.in_ok-file.file.len = search rules in
    let whole : take c.in_ok-file.file.len (c.fill_unsynced.new.file ++ drop (length c.fill_unsynced.new.file) c.in_ok-file.file.items) ≡ c.fill_unsynced.new.file =
    take_at c.fill_unsynced.new.file _ c.in_ok-file.file.len (filled.same_length ∙ len) in
    rw (c.in-Some.is, whole, ← same, ← c.self.view_is) (filled_whole c.self.inside.idle c.self.inside.calls.items c.in-Some.byte c.in_ok-file.file.items c.fill_unsynced.new.file filled)

pub returns-in_default-clause-image : goal.returns-in_default-clause-image
returns-in_default-clause-image c =
    let same : c.in_ok-file.file.items ≡ content_of c.args.self.now.steps = search rules in
    comes_back_image None c.args.self.now.steps _ (rw (← c.self.view_is) c.self.invariant.within) same

pub returns-clause-image : goal.returns-clause-image
returns-clause-image c = comes_back_image c.args.fill c.args.self.now.steps _ (rw (← c.self.view_is) c.self.invariant.within) (returns-clause-filled c)
