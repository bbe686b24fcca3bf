use Rattle.std.proofs.Common.{◌≡◌, ◌-◌, ◌<◌, ◌≤◌, length, take}
use Rattle.std.specs.Prelude.{All}
use Rattle.cns_allocate.specs.Group.{rank}
use Rattle.cns_allocate.specs.declared.planned.Planned.{Planned}
use Rattle.cns_allocate.proofs.serving.group_len.Given as goal

abbrev pub invariant-loop-len : goal.invariant-loop-len
invariant-loop-len l = record {
  some : 0 < l.len;
  within : l.len ≤ length l.planned;
  group : All (λ (p : Planned). rank p.group ≡ rank l.group) (take l.len l.planned);
}

abbrev pub decreases-loop-len : goal.decreases-loop-len
decreases-loop-len l = length l.planned - l.len
