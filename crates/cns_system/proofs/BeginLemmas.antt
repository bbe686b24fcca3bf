-- What beginning a lot leaves.
use Rattle.std.proofs.Common.{◌≡◌, ◌∙◌, ◌≤◌, ◌<◌, ◌-◌, ◌+◌, ℕ, List, [], ◌∷◌, ◌++◌, length, Some, None, Result, Ok, Err, ap, sym, subst, refl, arith, inl, inr}
use Rattle.std.specs.Prelude.{All, IfErr, IfOk, Option, option_map, slice_get, unwrap_or}
use Rattle.cns_records.specs.Call.{Grows}
use Rattle.cns_records.specs.declared.refusal.Refusal.{Refusal}
use Rattle.cns_records.specs.declared.refusal.Refusal.TheVariants as refusal
use Rattle.cns_clearing.specs.Lots.{avail_in, plan_in}
use Rattle.cns_clearing.specs.Lots as node
use Rattle.cns_clearing.proofs.TotalLemmas.{avail_most}
use Rattle.cns_system.specs.Numbered.{AreTied, opening_call}
use Rattle.cns_system.specs.Scene.{Comes}
use Rattle.cns_system.specs.Shown.{Shown, shown_of}
use Rattle.cns_system.proofs.EventComes.{open_comes}
use Rattle.cns_system.proofs.FloorLemmas.{AreBacked, all_kept}
use Rattle.std.proofs.lemmas.List.{length-append}
use Rattle.std.proofs.lemmas.List.Elements.{All-head, All-nil, All-push, All-tail, All-weaker}
use Rattle.std.proofs.lemmas.Option.{same_Some}
use Rattle.cns_clearing.specs.Pools.{lent_of, lot_of}
use Rattle.cns_clearing.specs.declared.lot.Lot.{Lot}
use Rattle.cns_system.specs.Accord.{IsInAccord, StaysSound}
use Rattle.cns_system.specs.Begin.{IsBegun, IsNotBegun, new_busy}
use Rattle.cns_system.specs.Floor.{AreBusy, AreByNumber, BusyLot, FloorState, IsBusy, IsCellFed}
use Rattle.cns_system.specs.Headline.{IsAgreed}
use Rattle.cns_system.specs.Lot.{LotState, numbered_lot}
use Rattle.cns_system.specs.Run.{Occurs}
use Rattle.cns_system.specs.World.{AreFrames, World}
use Rattle.cns_system.specs.declared.event.Event.{Event}
use Rattle.cns_system.specs.declared.event.Event.TheVariants as event
use Rattle.cns_system.specs.declared.floor.Begun.{Begun}
use Rattle.cns_system.specs.declared.numbered.Opened.{Opened}
use Rattle.cns_system.specs.declared.outcome.Outcome.{Outcome}
use Rattle.cns_system.specs.declared.outcome.Outcome.TheVariants as outcomes
use Rattle.cns_system.proofs.EventHolds.{open_holds}
use Rattle.cns_system.proofs.EventKeeps.{step_keeps_lots}
use Rattle.cns_system.proofs.HappensLemmas.{OrRefused, comes_told}
use Rattle.cns_system.proofs.LotsLemmas.{with_new_lot}
use Rattle.cns_system.proofs.RunLemmas.{Goes, goes_step}
use Rattle.cns_system.proofs.TiedLemmas.{at_place, found_new}

-- an event is refused, and nothing changes
pub occurs_refused : (e : Event) (r : Refusal) (w : World) → Comes e (outcomes.Refused r) w w → StaysSound w e (outcomes.Refused r) → IsInAccord w → AreFrames w.order_packets w.reply_packets → IsAgreed w
    → Occurs e (outcomes.Refused r) w w
occurs_refused e r w comes sound accord frames agreed = record {
  comes = comes;
  sound = sound;
  accord = accord;
  frames = frames;
  agreed = agreed;
  strict = λ s. s;
}

pub refused_occurs : (issue : ℕ) (r : Refusal) (w : World) → Grows refusal.OutOfMemory (opening_call issue w.clear) (Err r) w.clear w.clear → IsInAccord w → AreFrames w.order_packets w.reply_packets → IsAgreed w
    → Occurs (event.LotOpen issue) (outcomes.Refused r) w w
refused_occurs issue r w h =
    occurs_refused (event.LotOpen issue) r w (open_comes w w.clear issue (Err r) h) (λ a b. tt)

-- what an opening tells, and leaves, where no lot of the issue is open
record OpensLot (issue : ℕ) (w : Shown) (outcome : Outcome) (left : Shown) : Type 0 where
  none : lot_of w.open_lots issue ≡ None
  told : outcome ≡ outcomes.LotOpened (record { number = length w.lots + 1; poured = avail_in w.clear.records issue; plan = plan_in w.clear.records issue })
  left_is : left ≡ with_new_lot (node.new_lot w.clear.records issue) w

-- an opening comes to it, or is refused
opens_by : (issue : ℕ) (outcome : Outcome) (old new : World) → Comes (event.LotOpen issue) outcome old new → OrRefused (OpensLot issue) (shown_of old) outcome (shown_of new)
opens_by issue outcome old new comes =
    comes_told (OpensLot issue) (event.LotOpen issue) outcome old new comes
    (λ d. open_holds (OrRefused (OpensLot issue) (shown_of old)) d (shown_of old) issue (λ none. inr (record { none = none; told = refl; left_is = refl })))

pub open_refused : (issue : ℕ) (outcome : Outcome) (old new : World) → Comes (event.LotOpen issue) outcome old new → ((opened : Opened) → outcome ≡ outcomes.LotOpened opened → ⊥)
    → (r : Refusal) × (outcome ≡ outcomes.Refused r)
open_refused issue outcome old new comes not = by (opens_by issue outcome old new comes)
  where
    by : OrRefused (OpensLot issue) (shown_of old) outcome (shown_of new) → (r : Refusal) × (outcome ≡ outcomes.Refused r)
    by (inl refuses) = (refuses.refusal, refuses.is)
    by (inr opens) = absurd (not _ opens.told)

-- no opening changes a busy lot
pub open_kept : (issue : ℕ) (outcome : Outcome) (old new : World) (busy items : List BusyLot) → items ≡ busy → AreTied old.clear.clear.lots old.clear.lots
    → Comes (event.LotOpen issue) outcome old new → AreBusy old.clear busy → AreBusy new.clear items
open_kept issue outcome old new busy items same tied h are =
    subst (AreBusy new.clear) (sym same)
    (let kept = step_keeps_lots (event.LotOpen issue) outcome old new h in all_kept None old new busy are kept.longer (kept.rest tied) (λ k d below some. let no = some in cc))

last_found : (lots : List LotState) (x : LotState) → slice_get (lots ++ x ∷ []) (length lots) ≡ Some x
last_found [] x = refl
last_found (y ∷ lots) x = last_found lots x

-- the lot that was opened: what it has, and where it stands
pub record IsNewest (issue : ℕ) (opened : Opened) (old new : World) : Type 0 where
  pub number : opened.number ≡ length old.clear.lots + 1
  pub plan : opened.plan ≡ plan_in old.clear.clear.log.records issue
  pub few : opened.poured ≤ 1000000000000000000
  pub lent : opened.poured ≡ lent_of new.clear.clear.lots issue
  pub lots : new.clear.lots ≡ old.clear.lots ++ numbered_lot issue (plan_in old.clear.clear.log.records issue) ∷ []

-- so it is of the lot of an opening
pub newest : (issue : ℕ) (opened : Opened) (old new : World) → AreBacked old → Comes (event.LotOpen issue) (outcomes.LotOpened opened) old new → IsNewest issue opened old new
newest issue opened old new backed comes = by (opens_by issue (outcomes.LotOpened opened) old new comes)
  where
    by : OrRefused (OpensLot issue) (shown_of old) (outcomes.LotOpened opened) (shown_of new) → IsNewest issue opened old new
    by (inl refuses) = absurd (cc (refuses.is))
    by (inr opens) =
        let lot : Lot = node.new_lot old.clear.clear.log.records issue in
        let is : opened ≡ record { number = length old.clear.lots + 1; poured = lot.poured; plan = lot.plan } = cc (opens.told) in
        let open_lots : new.clear.clear.lots ≡ old.clear.clear.lots ++ lot ∷ [] = ap (λ (w : Shown). w.open_lots) opens.left_is in
        let there : lot_of new.clear.clear.lots issue ≡ Some lot = ap (λ (ls : List Lot). lot_of ls issue) open_lots ∙ found_new old.clear.clear.lots lot issue refl opens.none in
        let poured : opened.poured ≡ lot.poured = ap (λ (o : Opened). o.poured) is in
        record {
          number = ap (λ (o : Opened). o.number) is;
          plan = ap (λ (o : Opened). o.plan) is;
          few = subst (λ (n : ℕ). n ≤ 1000000000000000000) (sym poured) (avail_most old.clear.clear.log.records issue backed.lawful backed.fits);
          lent = poured ∙ sym (ap (λ (o : Option Lot). unwrap_or (option_map (λ (l : Lot). l.poured) o) 0) there);
          lots = ap (λ (w : Shown). w.lots) opens.left_is;
        }

order_push : (busy : List BusyLot) (c : BusyLot) → AreByNumber busy → All (λ (b : BusyLot). b.lot < c.lot) busy → AreByNumber (busy ++ c ∷ [])
order_push [] c order below = (All-nil (λ (b : BusyLot). c.lot < b.lot), tt)
order_push (x ∷ busy) c order below =
    let P : BusyLot → Type 0 = λ b. b.lot < c.lot in (
      All-push (λ (b : BusyLot). x.lot < b.lot) busy c order.0 (All-head P x busy below),
      order_push busy c order.1 (All-tail P x busy below),
    )

-- the lot that was begun is busy, and the others are
pub begun_busy : (issue : ℕ) (opened : Opened) (begun : Begun) (old new : World) (busy : List BusyLot) → AreBacked old → AreTied old.clear.clear.lots old.clear.lots
    → Comes (event.LotOpen issue) (outcomes.LotOpened opened) old new → AreBusy old.clear busy → begun.lot ≡ opened.number → begun.poured ≡ opened.poured
    → AreBusy new.clear (busy ++ new_busy begun ∷ [])
begun_busy issue opened begun old new busy backed tied h are lot poured =
    let is = newest issue opened old new backed h in
    let x = numbered_lot issue (plan_in old.clear.clear.log.records issue) in
    let number : begun.lot ≡ length old.clear.lots + 1 = lot ∙ is.number in
    let len : length new.clear.lots ≡ length old.clear.lots + 1 = ap length is.lots ∙ length-append old.clear.lots (x ∷ []) in
    let here : begun.lot - 1 ≡ length old.clear.lots = omega (arith, number) in
    let fed : IsCellFed new.clear.clear.lots (new_busy begun) x = record { poured = poured ∙ is.lent; tickets = refl; unsealed = refl } in
    let one : IsBusy new.clear (new_busy begun) = record {
      given = omega (arith, number, len);
      fed = λ l found going.
          let at = at_place new.clear.lots begun.lot l found in
          let there : slice_get new.clear.lots (begun.lot - 1) ≡ Some x =
          ap (slice_get new.clear.lots) here ∙ ap (λ (lots : List LotState). slice_get lots (length old.clear.lots)) is.lots ∙ last_found old.clear.lots x in
          subst (IsCellFed new.clear.clear.lots (new_busy begun)) (same_Some x l (sym there ∙ at.1)) fed;
    } in
    let others = open_kept issue (outcomes.LotOpened opened) old new busy busy refl tied h are in
    record {
      each = All-push (IsBusy new.clear) busy (new_busy begun) others.each one;
      order =
          order_push busy (new_busy begun) are.order
          (All-weaker (IsBusy old.clear) (λ (b : BusyLot). b.lot < begun.lot) (λ b is. let given = is.given in omega (arith, given, number)) busy are.each);
    }

-- ---- what begins leaves, by its answer

pub begin_goes : (issue : ℕ) (result : Result Begun Outcome) (old new : FloorState) → IfOk result (λ (begun : Begun). IsBegun issue begun old new)
    → IfErr result (λ (outcome : Outcome). IsNotBegun issue outcome old new) → Goes old.system new.system
begin_goes issue (Ok begun) old new ok err = goes_step (event.LotOpen issue) _ old.system new.system ok.opened
begin_goes issue (Err outcome) old new ok err = goes_step (event.LotOpen issue) outcome old.system new.system err.0.0
