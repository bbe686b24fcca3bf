-- What is so of the lots by number where a draw, a seal or a close of one is told.
use Rattle.std.proofs.Common.{◌≡◌, ℕ, List, refl, subst, inl, inr}
use Rattle.cns_pool.specs.declared.ticket.Ticket.{Ticket}
use Rattle.cns_records.specs.declared.refusal.Refusal.TheVariants as refusal
use Rattle.cns_clearing.specs.declared.answer.Closed.{Closed}
use Rattle.cns_system.specs.Lot.{LotState, with_ticket}
use Rattle.cns_system.specs.Lots.{with_lot}
use Rattle.cns_system.specs.Scene.{Comes}
use Rattle.cns_system.specs.Shown.{Shown, shown_of}
use Rattle.cns_system.specs.World.{World}
use Rattle.cns_system.specs.declared.event.Event.TheVariants as event
use Rattle.cns_system.specs.declared.outcome.Outcome.{Outcome}
use Rattle.cns_system.specs.declared.outcome.Outcome.TheVariants as outcomes
use Rattle.cns_system.proofs.EventHolds.{close_holds, reserve_holds, seal_holds}
use Rattle.cns_system.proofs.HappensLemmas.{OrRefused, comes_told}
use Rattle.cns_system.proofs.LotsLemmas.{IsGoing}
use Rattle.cns_system.proofs.NumberedLemmas.{IsDrawn}
use Rattle.cns_system.proofs.RecordedLemmas.{IsClose}

-- ---- a ticket that is drawn

-- its lot had not ended, and the ticket was its next one for the member
pub record IsDraw (n member : ℕ) (t : Ticket) (lots new : List LotState) : Type 0 where
  pub lot : LotState
  pub at : IsGoing lots n lot
  pub drawn : IsDrawn lot member t
  pub new_is : new ≡ with_lot n (with_ticket t lot) lots

abbrev Draws : ℕ → ℕ → Shown → Outcome → Shown → Type 0
Draws n member w outcome left = (t : Ticket) × (outcome ≡ outcomes.Drawn t) × IsDraw n member t w.lots left.lots

pub drawn_of : (n member : ℕ) (t : Ticket) (old new : World) → Comes (event.Reserve n member) (outcomes.Drawn t) old new → IsDraw n member t old.clear.lots new.clear.lots
drawn_of n member t old new comes =
    by (comes_told (Draws n member) (event.Reserve n member) (outcomes.Drawn t) old new comes
    (λ d. reserve_holds (OrRefused (Draws n member) (shown_of old)) d (shown_of old) n member (λ lot u at drawn. inr (u, refl, record { lot = lot; at = at; drawn = drawn; new_is = refl }))))
  where
    by : OrRefused (Draws n member) (shown_of old) (outcomes.Drawn t) (shown_of new) → IsDraw n member t old.clear.lots new.clear.lots
    by (inl refuses) = absurd (cc (refuses.is))
    by (inr (u, told, draw)) = let same : u ≡ t = cc told in subst (λ (x : Ticket). IsDraw n member x old.clear.lots new.clear.lots) same draw

-- ---- a lot that is sealed

-- the lot had not ended
abbrev pub Seals : ℕ → Shown → Outcome → Shown → Type 0
Seals n w outcome left = (lot : LotState) × IsGoing w.lots n lot × (outcome ≡ outcomes.Done)

pub seals_by : (n : ℕ) (outcome : Outcome) (old new : World) → Comes (event.Seal n) outcome old new → OrRefused (Seals n) (shown_of old) outcome (shown_of new)
seals_by n outcome old new comes =
    comes_told (Seals n) (event.Seal n) outcome old new comes (λ d. seal_holds (OrRefused (Seals n) (shown_of old)) d (shown_of old) n (λ lot at. inr (lot, at, refl)))

-- ---- a lot that is closed

-- the lot was that of the number
abbrev pub Closes : ℕ → Shown → Outcome → Shown → Type 0
Closes n w outcome left = (done : Closed) × (outcome ≡ outcomes.Closed done) × IsClose n w.open_lots w.lots

pub closes_by : (n : ℕ) (outcome : Outcome) (old new : World) → Comes (event.LotClose n) outcome old new → OrRefused (Closes n) (shown_of old) outcome (shown_of new)
closes_by n outcome old new comes =
    comes_told (Closes n) (event.LotClose n) outcome old new comes
    (λ d. close_holds (OrRefused (Closes n) (shown_of old)) d (shown_of old) n
    (λ done close up. (inr (done, refl, close), inl (record { refusal = refusal.Device; is = refl; lots = refl; open_lots = refl }))))
