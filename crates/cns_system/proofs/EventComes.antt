-- Each event comes to what its call leaves.
use Rattle.std.proofs.Common.{◌≡◌, ◌∙◌, ℕ, List, Result, Ok, Err, refl, ap, inl, inr}
use Rattle.cns_ids.specs.Steps.{◌>>=◌}
use Rattle.cns_pool.specs.declared.ticket.Ticket.{Ticket}
use Rattle.cns_records.specs.Call.{CallLeaves, Changes, Grows}
use Rattle.cns_records.specs.Refusals.{commit_refusal}
use Rattle.cns_records.specs.declared.refusal.Refusal.{Refusal}
use Rattle.cns_records.specs.declared.refusal.Refusal.TheVariants as refusal
use Rattle.cns_clearing.specs.declared.answer.Closed.{Closed}
use Rattle.cns_clearing.specs.declared.lot.Lot.{Lot}
use Rattle.cns_system.specs.Happens.{Leaves as Left, judged, outcome_of}
use Rattle.cns_system.specs.Lot.{LotState, with_seal}
use Rattle.cns_system.specs.Lots.{change_call, reserve_call}
use Rattle.cns_system.specs.Numbered.{IsNumberedCommit, NumberedNode, having_lots, look_call, numbered_close, with_lot_ended, numbered_open, opening_call, numbered_pour}
use Rattle.cns_system.specs.Scene.{Comes}
use Rattle.cns_system.specs.Shown.{Shown, shown_of}
use Rattle.cns_system.specs.World.{World}
use Rattle.cns_system.specs.declared.entry.Look.{Look}
use Rattle.cns_system.specs.declared.event.Event.{Event}
use Rattle.cns_system.specs.declared.event.Event.TheVariants as event
use Rattle.cns_system.specs.declared.numbered.Opened.{Opened}
use Rattle.cns_system.specs.declared.outcome.Outcome.{Outcome}
use Rattle.cns_system.specs.declared.outcome.Outcome.TheVariants as outcomes
use Rattle.cns_system.proofs.CallComes.{clear_comes}
use Rattle.cns_system.proofs.ComesLemmas.{by_same, grows, not_grown, refused, tells}

-- ---- calls that commit nothing

-- a call that changes a part of the clearing node, and tells what it answers
module _ {X N : Type 0} (e : Event) (told : X → Outcome) (shown_with : N → Shown) (old : World) (n : NumberedNode) (before after : N) (log : n.clear.log ≡ old.clear.clear.log)
    (whole : after ≡ before → n ≡ old.clear) (shown_is : shown_of (record old { clear = n }) ≡ shown_with after) where
  pub changes_comes : (f : Result (X × N) Refusal) (result : Result X Refusal) → judged e (shown_of old) ≡ (f >>= λ xn. Ok (Left (told xn.0) (shown_with xn.1))) → Changes f result before after
      → Comes e (outcome_of told result) old (record old { clear = n })
  changes_comes (Err r) result is (answer, same) = rw answer (by_same e (outcomes.Refused r) old (record old { clear = n }) (rw (whole same) refl) (refused e old r is))
  changes_comes (Ok xn) result is (answer, left) =
      rw answer (tells e old (record old { clear = n }) (told xn.0) (shown_with xn.1) is (shown_is ∙ ap shown_with left) log refl)

module _ (old : World) (n : NumberedNode) where
  pub pour_comes : (number : ℕ) (result : Result ℕ Refusal) → n.clear.log ≡ old.clear.clear.log → n.lots ≡ old.clear.lots
      → Changes (numbered_pour number old.clear.clear.log.down old.clear.clear.log.records old.clear.clear.lots old.clear.lots) result old.clear.clear.lots n.clear.lots
      → Comes (event.LotPour number) (outcome_of (λ (shares : ℕ). outcomes.Poured shares) result) old (record old { clear = n })
  unfolding judged
  pour_comes number result log lots left =
      changes_comes (event.LotPour number) (λ (shares : ℕ). outcomes.Poured shares) (λ open_lots. record (shown_of old) { open_lots = open_lots }) old n old.clear.clear.lots n.clear.lots log
      (λ same. rw (log, same, lots) refl) (rw (log, lots) refl) _ result refl left

  pub reserve_comes : (number member : ℕ) (result : Result Ticket Refusal) → n.clear ≡ old.clear.clear → Changes (reserve_call number member old.clear.lots) result old.clear.lots n.lots
      → Comes (event.Reserve number member) (outcome_of (λ (t : Ticket). outcomes.Drawn t) result) old (record old { clear = n })
  unfolding judged
  reserve_comes number member result clear left =
      changes_comes (event.Reserve number member) (λ (t : Ticket). outcomes.Drawn t) (λ lots. record (shown_of old) { lots = lots }) old n old.clear.lots n.lots (ap (λ c. c.log) clear)
      (λ same. rw (clear, same) refl) (rw clear refl) _ result refl left

  pub seal_comes : (number : ℕ) (result : Result (Unit {0}) Refusal) → n.clear ≡ old.clear.clear → Changes (change_call with_seal number old.clear.lots) result old.clear.lots n.lots
      → Comes (event.Seal number) (outcome_of (λ _. outcomes.Done) result) old (record old { clear = n })
  unfolding judged
  seal_comes number result clear left =
      changes_comes (event.Seal number) (λ _. outcomes.Done) (λ lots. record (shown_of old) { lots = lots }) old n old.clear.lots n.lots (ap (λ c. c.log) clear)
      (λ same. rw (clear, same) refl) (rw clear refl) _ result refl left

  pub open_comes : (issue : ℕ) (result : Result Opened Refusal) → Grows refusal.OutOfMemory (opening_call issue old.clear) result old.clear n
      → Comes (event.LotOpen issue) (outcome_of (λ (lot : Opened). outcomes.LotOpened lot) result) old (record old { clear = n })
  unfolding judged
  open_comes issue result left =
      by (numbered_open issue old.clear.clear.log.down old.clear.clear.log.records old.clear.clear.lots old.clear.lots) refl left
    where
      by : (f : Result (Opened × (List Lot × List LotState)) Refusal) → numbered_open issue old.clear.clear.log.down old.clear.clear.log.records old.clear.clear.lots old.clear.lots ≡ f
          → Grows refusal.OutOfMemory (f >>= λ opened. Ok (opened.0, having_lots opened.1 old.clear)) result old.clear n
          → Comes (event.LotOpen issue) (outcome_of (λ (lot : Opened). outcomes.LotOpened lot) result) old (record old { clear = n })
      by (Err r) is (answer, same) = rw (answer, same) (refused (event.LotOpen issue) old r (rw is refl))
      by (Ok opened) is (inl (answer, same)) =
          rw (answer, same)
          (grows (event.LotOpen issue) old (record old { clear = having_lots opened.1 old.clear }) (λ c. refl) (outcomes.LotOpened opened.0)
          (record (shown_of old) { open_lots = opened.1.0; lots = opened.1.1 }) (rw is refl) refl refl refl)
      by (Ok opened) is (inr (answer, same)) =
          rw (answer, same)
          (not_grown (event.LotOpen issue) old (λ c. refl) (outcomes.LotOpened opened.0) (record (shown_of old) { open_lots = opened.1.0; lots = opened.1.1 }) (rw is refl))

  pub close_comes : (number : ℕ) (result : Result Closed Refusal)
      → CallLeaves commit_refusal (IsNumberedCommit (with_lot_ended number)) (numbered_close number old.clear.clear.log.down old.clear.clear.log.records old.clear.clear.lots old.clear.lots) result
      old.clear n
      → Comes (event.LotClose number) (outcome_of (λ (done : Closed). outcomes.Closed done) result) old (record old { clear = n })
  unfolding judged
  close_comes number result left =
      clear_comes (event.LotClose number) (λ (done : Closed). outcomes.Closed done) (with_lot_ended number) old n (λ c. refl) refl (λ x. tt) _ result refl left

-- ---- looks

module _ (w : World) where
  look_told : (e : Event) (number : ℕ) (told : Look → Outcome) (result : Result Look Refusal)
      → judged e (shown_of w) ≡ (look_call number w.clear.clear.lots w.clear.lots >>= λ look. Ok (Left (told look) (shown_of w))) → result ≡ look_call number w.clear.clear.lots w.clear.lots
      → Comes e (outcome_of told result) w w
  look_told e number told (Ok look) is answer = tells e w w (told look) (shown_of w) (is ∙ rw (← answer) refl) refl refl refl
  look_told e number told (Err r) is answer = refused e w r (is ∙ rw (← answer) refl)

  pub look_poured_comes : (number : ℕ) (result : Result Look Refusal) → result ≡ look_call number w.clear.clear.lots w.clear.lots
      → Comes (event.LookPoured number) (outcome_of (λ (look : Look). outcomes.LookedPoured look.poured) result) w w
  unfolding judged
  look_poured_comes number result answer = look_told (event.LookPoured number) number (λ (look : Look). outcomes.LookedPoured look.poured) result refl answer

  pub look_asked_comes : (number : ℕ) (result : Result Look Refusal) → result ≡ look_call number w.clear.clear.lots w.clear.lots
      → Comes (event.LookAsked number) (outcome_of (λ (look : Look). outcomes.LookedAsked look.asked look.sealed) result) w w
  unfolding judged
  look_asked_comes number result answer = look_told (event.LookAsked number) number (λ (look : Look). outcomes.LookedAsked look.asked look.sealed) result refl answer
