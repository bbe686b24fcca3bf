-- The groups in which members are served (this project's own rule).
use Rattle.std.specs.Prelude.{ℕ, Bool, ◌==◌, if◌then◌else◌}
use Rattle.cns_allocate.specs.declared.group.Group.{Group}
use Rattle.cns_allocate.specs.declared.group.Group.TheVariants.{Priority, WasLong, Other}
use Rattle.cns_allocate.specs.declared.planned.Planned.{Planned}

-- the group of a member, by its priority and whether it was long directly after the cycle before the latest
abbrev pub group_of : Bool → Bool → Group
group_of priority was_long = if priority then Priority else if was_long then WasLong else Other

-- the place of a group: the first one is 0
abbrev pub rank : Group → ℕ
rank group = elim group [ Priority ↦ 0 | WasLong ↦ 1 | Other ↦ 2 ]

-- whether a member is planned in a group
abbrev pub is_in : Group → Planned → Bool
is_in group planned = rank planned.group == rank group
