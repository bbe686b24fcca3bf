-- Both nodes and the link with the cells of the lots that are being served, and what an event comes to beside them (this project's own
-- rules).
use Rattle.std.specs.Prelude.{◌≡◌, ℕ, ◌+◌, ◌<◌, ◌≤◌, ◌==◌, Bool, true, false, not, List, [], ◌∷◌, All, Option, Some, None, MatchOption, find, length, map, slice_get, if◌then◌else◌}
use Rattle.cns_pool.specs.FeederSeat.{TableId}
use Rattle.cns_records.specs.declared.refusal.Refusal.TheVariants as refusal
use Rattle.cns_clearing.specs.Pools.{lent_of}
use Rattle.cns_clearing.specs.declared.lot.Lot.{Lot}
use Rattle.cns_system.specs.Accord.{IsInAccord}
use Rattle.cns_system.specs.Headline.{IsAgreed}
use Rattle.cns_system.specs.Lot.{LotState}
use Rattle.cns_wire.specs.Packet.{at_number}
use Rattle.cns_system.specs.Numbered.{NumberedNode}
use Rattle.cns_system.specs.Run.{Occurs}
use Rattle.cns_system.specs.World.{AreFrames, World}
use Rattle.cns_system.specs.declared.event.Event.{Event}
use Rattle.cns_system.specs.declared.event.Event.TheVariants as event
use Rattle.cns_system.specs.declared.outcome.Outcome.{Outcome}
use Rattle.cns_system.specs.declared.outcome.Outcome.TheVariants as outcomes

-- a busy lot, which workers serve: its number, its cell, the shares poured into the cell and the seal of it, by the seat that feeds it, and the
-- asked shares that this seat has seen
pub record BusyLot : Type 0 where
  pub lot : ℕ
  pub cell : TableId
  pub poured : ℕ
  pub sealed : Bool
  pub asked : ℕ

-- both nodes and the link, and the busy lots
pub record FloorState : Type 0 where
  pub system : World
  pub busy : List BusyLot

-- ---- what holds between any two events

-- the cell is fed with just what is lent to the lot, which itself has no ticket and no seal
pub record IsCellFed (open_lots : List Lot) (b : BusyLot) (lot : LotState) : Type 0 where
  pub poured : b.poured ≡ lent_of open_lots lot.issue
  pub tickets : lot.tickets ≡ []
  pub unsealed : lot.sealed ≡ false

-- a busy lot beside the clearing node and its lots by number: its number was given, and it is fed while it has not ended
pub record IsBusy (node : NumberedNode) (b : BusyLot) : Type 0 where
  pub given : b.lot ≤ length node.lots
  pub fed : (lot : LotState) → at_number node.lots b.lot ≡ Some lot → lot.ended ≡ false → IsCellFed node.clear.lots b lot

-- busy lots stand by number, each once
abbrev pub AreByNumber : List BusyLot → Type 0
AreByNumber [] = Unit {0}
AreByNumber (b ∷ busy) = All (λ (c : BusyLot). b.lot < c.lot) busy × AreByNumber busy

pub record AreBusy (node : NumberedNode) (busy : List BusyLot) : Type 0 where
  pub each : All (IsBusy node) busy
  pub order : AreByNumber busy

-- where both keepers are honest, both nodes and the link are in accord and the headline holds; and the busy lots are busy, with what the
-- clearing node has lent to each in its cell
pub record IsLawfulFloor (f : FloorState) : Type 0 where
  pub accord : IsInAccord f.system
  pub frames : AreFrames f.system.order_packets f.system.reply_packets
  pub headline : IsAgreed f.system
  pub busy : AreBusy f.system.clear f.busy

-- lot numbers that were given stay given
abbrev pub NumbersRise : World → World → Type 0
NumbersRise old new = length old.clear.lots ≤ length new.clear.lots

-- ---- events

-- the busy lot of a number, where there is one
abbrev pub busy_at : List BusyLot → ℕ → Option BusyLot
busy_at busy number = find (λ (b : BusyLot). b.lot == number) busy

-- whether a lot was opened with the number and has not ended
abbrev pub has_not_ended : Option LotState → Bool
has_not_ended None = false
has_not_ended (Some lot) = not lot.ended

abbrev pub is_open : List LotState → ℕ → Bool
is_open lots number = has_not_ended (at_number lots number)

-- the busy lot of a number, where there is one and the lot has not ended
abbrev pub served_at : FloorState → ℕ → Option BusyLot
served_at f number = if is_open f.system.clear.lots number then busy_at f.busy number else None

-- the busy lots with a change of the one of a number
abbrev pub changed_at : (BusyLot → BusyLot) → ℕ → BusyLot → BusyLot
changed_at change number b = if b.lot == number then change b else b

abbrev pub with_busy : (BusyLot → BusyLot) → ℕ → List BusyLot → List BusyLot
with_busy change number busy = map (changed_at change number) busy

-- a busy lot into whose cell more shares were poured; one whose cell was sealed; and one whose feeder has seen so many asked shares
abbrev pub busy_with_pour : ℕ → BusyLot → BusyLot
busy_with_pour shares b = record b { poured = b.poured + shares }

abbrev pub busy_with_seal : BusyLot → BusyLot
busy_with_seal b = record b { sealed = true }

abbrev pub busy_with_look : ℕ → BusyLot → BusyLot
busy_with_look asked b = record b { asked = asked }

-- the busy lots after a pour came to this: what was poured into the lot is poured into its cell, where it is busy
abbrev pub busy_after_pour : Outcome → ℕ → List BusyLot → List BusyLot
busy_after_pour (outcomes.Poured shares) number busy = with_busy (busy_with_pour shares) number busy
busy_after_pour _ number busy = busy

-- the event happens to both nodes and the link, and the busy lots stay as they are
abbrev pub BySystem : Event → Outcome → FloorState → FloorState → Type 0
BySystem e outcome old new = Occurs e outcome old.system new.system × (new.busy ≡ old.busy)

-- this comes of an event at a busy lot that has not ended; at any other lot the event happens to both nodes and the link
abbrev pub ByCell : ℕ → (BusyLot → Type 0) → Event → Outcome → FloorState → FloorState → Type 0
ByCell number Answer e outcome old new = MatchOption (served_at old number) (BySystem e outcome old new) Answer

-- a busy lot refuses the event, also where it has ended
abbrev pub UnlessBusy : ℕ → Event → Outcome → FloorState → FloorState → Type 0
UnlessBusy number e outcome old new =
    MatchOption (busy_at old.busy number) (BySystem e outcome old new) (λ (b : BusyLot). (outcome ≡ outcomes.Refused refusal.LotBusy) × (new ≡ old))

-- a look at the asked shares of a busy lot shows them and the seal; they are no less than an earlier look showed, and the feeder has seen them then
pub record LooksAsked (number : ℕ) (b : BusyLot) (outcome : Outcome) (old new : FloorState) : Type 0 where
  pub asked : ℕ
  pub told : outcome ≡ outcomes.LookedAsked asked b.sealed
  pub least : b.asked ≤ asked
  pub seen : new ≡ record old { busy = with_busy (busy_with_look asked) number old.busy }

-- an event comes to this, and leaves so much
abbrev pub FloorStep : Event → Outcome → FloorState → FloorState → Type 0
FloorStep (event.Reserve lot member) outcome old new = UnlessBusy lot (event.Reserve lot member) outcome old new
FloorStep (event.LotClose lot) outcome old new = UnlessBusy lot (event.LotClose lot) outcome old new
FloorStep (event.LotPour lot) outcome old new = Occurs (event.LotPour lot) outcome old.system new.system × (new.busy ≡ busy_after_pour outcome lot old.busy)
FloorStep (event.LookPoured lot) outcome old new =
    ByCell lot (λ (b : BusyLot). (outcome ≡ outcomes.LookedPoured b.poured) × (new ≡ old)) (event.LookPoured lot) outcome old new
FloorStep (event.LookAsked lot) outcome old new =
    ByCell lot (λ (b : BusyLot). LooksAsked lot b outcome old new) (event.LookAsked lot) outcome old new
FloorStep (event.Seal lot) outcome old new =
    ByCell lot (λ (b : BusyLot). (outcome ≡ outcomes.Done) × (new ≡ record old { busy = with_busy busy_with_seal lot old.busy })) (event.Seal lot) outcome old new
FloorStep e outcome old new = BySystem e outcome old new

-- ---- places, and what an event may change

-- the place of a busy lot that is looked for, where there is one
abbrev pub IsBusyPlace : Option BusyLot → List BusyLot → Option ℕ → Type 0
IsBusyPlace found busy None = found ≡ None
IsBusyPlace found busy (Some place) = (b : BusyLot) × (found ≡ Some b) × (slice_get busy place ≡ Some b)

-- so many shares more may be poured into the cell of the busy lot of a number
abbrev pub PourFits : ℕ → ℕ → List BusyLot → Type 0
PourFits number shares busy = All (λ (b : BusyLot). b.lot ≡ number → b.poured + shares ≤ 1000000000000000000) busy

-- the lot that an event may change beside opening one and ending all
abbrev pub lot_changed : Event → Option ℕ
lot_changed (event.LotPour lot) = Some lot
lot_changed (event.Reserve lot member) = Some lot
lot_changed (event.Seal lot) = Some lot
lot_changed (event.LotClose lot) = Some lot
lot_changed _ = None

-- an event changes no busy lot, but one that has ended
abbrev pub SparesBusy : Event → FloorState → Type 0
SparesBusy e f = All (λ (b : BusyLot). lot_changed e ≡ Some b.lot → is_open f.system.clear.lots b.lot ≡ false) f.busy

-- an event is of the lot of a number
abbrev pub NamesLot : Event → ℕ → Type 0
NamesLot e number = lot_changed e ≡ Some number
