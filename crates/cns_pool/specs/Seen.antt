-- What a seat has seen of its cell.
use Rattle.std.specs.Prelude.{max, false, ◌||◌}
pub use Rattle.cns_pool.specs.declared.seen.Seen.{Seen}

-- what a seat has seen before it looked
abbrev pub nothing_seen : Seen
nothing_seen = record { poured = 0; asked = 0; sealed = false }

-- what two seats have seen together
abbrev pub both_seen : Seen → Seen → Seen
both_seen one other = record { poured = max one.poured other.poured; asked = max one.asked other.asked; sealed = one.sealed || other.sealed }
