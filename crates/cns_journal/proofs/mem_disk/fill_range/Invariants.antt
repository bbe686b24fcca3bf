use Rattle.std.proofs.Common.{◌&&◌, nat_le, nat_lt}
use Rattle.cns_journal.specs.MemDisk.{IsFilled}
use Rattle.cns_journal.proofs.mem_disk.fill_range.Given as goal

abbrev pub invariant-loop-place : goal.invariant-loop-place
invariant-loop-place l = IsFilled (λ i. nat_le l.at i && nat_lt i l.place) l.byte l.fn.file l.file
