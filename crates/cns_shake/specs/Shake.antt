-- Draws: what the words of a generator let happen on the link before a pump (this project's own rule).
use Rattle.std.specs.Prelude.{ℕ, ◌+◌, ◌/◌, ◌%◌, ◌==◌, Option, Some, None, option_map, if◌then◌else◌}
use Rattle.rand_core.specs.Pcg32Seed.{pcg32_seed}
use Rattle.rand_pcg.specs.Pcg.{pcg32_of_seed}
use Rattle.cns_system.specs.declared.event.Event.{Event}
use Rattle.cns_system.specs.declared.event.Event.TheVariants as event
use Rattle.cns_system.specs.declared.system.Counts.{Counts}
-- a generator, and its next word with the generator after that
pub use Rattle.rand_pcg.specs.Lcg.{Lcg}
pub use Rattle.rand_pcg.specs.Pcg.{pcg32}

-- the generator that a number starts: the Pcg32 of the 16 bytes of seed that `seed_from_u64` makes of it
unfoldable pub generator_of : ℕ → Lcg
generator_of number = pcg32_of_seed (pcg32_seed 16 number)

-- of c things, which are numbered from 1, the one that b picks; none where there are none
abbrev pub picked_of : ℕ → ℕ → Option ℕ
picked_of c b = if c == 0 then None else Some (b % c + 1)

-- the event that the word d names beside these counts
unfoldable pub event_of : ℕ → Counts → Option Event
event_of d counts =
    let a = d % 4 in
    let b = d / 4 in
    if a == 0 then option_map event.Send (picked_of counts.orders b)
    else if a == 1 then option_map event.OrderIn (picked_of counts.order_packets b)
    else if a == 2 then option_map event.ReplyIn (picked_of counts.reply_packets b)
    else None
