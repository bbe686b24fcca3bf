use Rattle.std.proofs.Common.{◌≤◌, length, take}
use Rattle.cns_journal.proofs.FillLemmas.{IsLeft, places_of}
use Rattle.cns_journal.proofs.mem_disk.fill_unsynced.Given as goal

abbrev pub invariant-calls : goal.invariant-calls
invariant-calls l = record {
  within : l.left ≤ length l.calls;
  places : IsLeft l.byte (places_of l.calls) (places_of (take l.left l.calls)) l.fn.file l.file;
}

abbrev pub decreases-calls : goal.decreases-calls
decreases-calls l = l.left
