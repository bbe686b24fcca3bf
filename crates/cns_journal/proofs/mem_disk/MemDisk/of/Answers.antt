use Rattle.std.proofs.Common.{rules, ◌≡◌, ◌++◌, ◌∷◌, [], refl}
use Rattle.cns_journal.specs.MemDisk.{Starts}
use Rattle.cns_journal.proofs.MemCallLemmas.{did_noted}
use Rattle.cns_journal.proofs.PowerLemmas.{disk_noted}
use Rattle.cns_journal.proofs.mem_disk.MemDisk.of.Goals as goal

pub invariant_of-result : goal.invariant_of-result
invariant_of-result c = disk_noted c.in_ok-content.content.items [] c.push.new.self.items (Starts c.args.file.now) 0 (search rules) (search rules) tt tt

pub returns : goal.returns
returns c =
    let items : c.push.new.self.items ≡ [] ++ record { step = Starts c.args.file.now; idle = 0 } ∷ [] = search rules in
    rw (did_noted [] _ _ items) refl
