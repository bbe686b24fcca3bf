-- The lots by number: which one a number finds, and what a change of it leaves.
use Rattle.std.proofs.Common.{◌≡◌, ◌-◌, ℕ, List, [], ◌∷◌, ◌++◌, get_or, Option, Some, None, Result, Ok, Err, Bool, true, false, not, ap, subst, sym, refl, ◌∙◌}
use Rattle.std.specs.Prelude.{◌==◌, IfOk, slice_get, slice_set, if◌then◌else◌}
use Rattle.std.specs.Option.{ok_or}
use Rattle.std.proofs.lemmas.List.{set-get_or}
use Rattle.cns_ids.specs.Steps.{◌>>=◌, ◌>>◌, need}
use Rattle.std.proofs.lemmas.Option.{get_or_from_slice_get}
use Rattle.cns_pool.specs.declared.ticket.Ticket.{Ticket}
use Rattle.cns_records.specs.Call.{Changes}
use Rattle.cns_records.specs.declared.refusal.Refusal.{Refusal}
use Rattle.cns_records.specs.declared.refusal.Refusal.TheVariants as refusal
use Rattle.cns_records.proofs.CallLemmas.{changed, unchanged}
use Rattle.cns_clearing.specs.declared.lot.Lot.{Lot}
use Rattle.cns_system.specs.Lot.{LotState, numbered_lot, with_ticket}
use Rattle.cns_wire.specs.Packet.{at_number}
use Rattle.cns_system.specs.Lots.{HasLot, HasNone, change_call, draw_call, going_lot, turn_ticket, reserve_call, with_lot}
use Rattle.cns_system.specs.Shown.{Shown}

-- the lots once this one is opened
abbrev pub with_new_lot : Lot → Shown → Shown
with_new_lot lot w = record w { open_lots = w.open_lots ++ lot ∷ []; lots = w.lots ++ numbered_lot lot.issue lot.plan ∷ [] }

-- what holds of the ticket that a member draws of a lot, and of the lot then, holds of what is made of both
pub ok_drawn : {X : Type 0} (Q : X → Type 0) (member : ℕ) (lot : LotState) (made : Ticket × LotState → Result X Refusal)
    → ((t : Ticket) → turn_ticket lot member ≡ Ok t → IfOk (made (t, with_ticket t lot)) Q) → IfOk (draw_call member lot >>= made) Q
ok_drawn Q member lot made holds = by (turn_ticket lot member) refl
  where
    by : (t : Result Ticket Refusal) → turn_ticket lot member ≡ t → IfOk ((t >>= λ x. Ok (x, with_ticket x lot)) >>= made) Q
    by (Ok t) is = holds t is
    by (Err r) is = tt

-- ---- the lot of a number, which has not ended

-- it was opened with the number, and has not ended
pub record IsGoing (lots : List LotState) (number : ℕ) (lot : LotState) : Type 0 where
  pub found : at_number lots number ≡ Some lot
  pub going : lot.ended ≡ false

pub going_parts : (lots : List LotState) (number : ℕ) (lot : LotState) → going_lot lots number ≡ Ok lot → IsGoing lots number lot
going_parts lots number lot is = by (at_number lots number) refl is
  where
    of : (l : LotState) (ended : Bool) → at_number lots number ≡ Some l → l.ended ≡ ended → (need (not ended) refusal.StaleLot >> Ok l) ≡ Ok lot → IsGoing lots number lot
    of l true found going is = absurd (cc is)
    of l false found going is = let same : l ≡ lot = cc is in subst (IsGoing lots number) same (record { found = found; going = going })

    by : (o : Option LotState) → at_number lots number ≡ o → (ok_or o refusal.NoLot >>= λ l. need (not l.ended) refusal.StaleLot >> Ok l) ≡ Ok lot → IsGoing lots number lot
    by None found is = absurd (cc is)
    by (Some l) found is = of l l.ended found refl is

-- the lot of a number is the one in its place
pub in_place : (lots : List LotState) (number : ℕ) (l d : LotState) → at_number lots number ≡ Some l → get_or lots (number - 1) d ≡ l
in_place lots number l d found = by (number == 0) found
  where
    by : (b : Bool) → (if b then None else slice_get lots (number - 1)) ≡ Some l → get_or lots (number - 1) d ≡ l
    by true e = cc
    by false e = get_or_from_slice_get lots (number - 1) l d e

read_at : (lots items : List LotState) (number place : ℕ) (l d : LotState) → items ≡ lots → place ≡ number - 1 → at_number lots number ≡ Some l → get_or items place d ≡ l
read_at lots items number place l d same is_place found = rw (same, is_place) (in_place lots number l d found)

-- the lot that was read in the place of a number; what takes its place; and that it may stay there
pub record IsRead (lots items : List LotState) (number place : ℕ) (l : LotState) : Type 0 where
  pub is : going_lot lots number ≡ Ok l
  pub changes : (new : LotState) → slice_set items place new ≡ with_lot number new lots
  pub stays : slice_set items place l ≡ lots

pub lot-read : (lots items : List LotState) (number place : ℕ) (l : LotState) → items ≡ lots → HasLot lots number (λ (k : LotState). place ≡ number - 1)
    → l ≡ get_or items place l → IsRead lots items number place l
lot-read lots items number place l same (lot, is, at) read =
    let going = going_parts lots number lot is in
    let here : get_or items place l ≡ lot = read_at lots items number place lot l same at going.found in
    let one : lot ≡ l = sym here ∙ sym read in
    record {
      is = is ∙ ap Ok one;
      changes = λ new. rw (same, at) refl;
      stays = ap (λ (k : LotState). slice_set items place k) read ∙ set-get_or items place l ∙ same;
    }

-- no lot of the number is changed
pub none_changed : (change : LotState → LotState) (lots : List LotState) (number : ℕ) (r : Refusal) (result : Result (Unit {0}) Refusal) → HasNone lots number r → result ≡ Err r
    → Changes (change_call change number lots) result lots lots
none_changed change lots number r result none answer = unchanged (change_call change number lots) r result lots lots (rw none refl) answer refl

-- a change of a lot in its place
pub change_leaves : (change : LotState → LotState) (lots items : List LotState) (number place : ℕ) (l new : LotState) → IsRead lots items number place l → new ≡ change l
    → Changes (change_call change number lots) (Ok tt) lots (slice_set items place new)
change_leaves change lots items number place l new read is =
    let call : change_call change number lots ≡ Ok (tt, with_lot number (change l) lots) = rw read.is refl in
    changed (change_call change number lots) tt (with_lot number (change l) lots) (Ok tt) lots (slice_set items place new) call refl
    (read.changes new ∙ ap (λ (k : LotState). with_lot number k lots) is)

-- a reserve of a lot in its place, and of no lot
pub none_reserved : (lots : List LotState) (number member : ℕ) (r : Refusal) (result : Result Ticket Refusal) → HasNone lots number r → result ≡ Err r
    → Changes (reserve_call number member lots) result lots lots
none_reserved lots number member r result none answer = unchanged (reserve_call number member lots) r result lots lots (rw none refl) answer refl

pub reserve_leaves : (lots items : List LotState) (number place member : ℕ) (result : Result Ticket Refusal) (l new : LotState) → IsRead lots items number place l
    → Changes (draw_call member l) result l new → Changes (reserve_call number member lots) result lots (slice_set items place new)
reserve_leaves lots items number place member result l new read draws = by (turn_ticket l member) refl draws
  where
    by : (t : Result Ticket Refusal) → turn_ticket l member ≡ t → Changes (draw_call member l) result l new → Changes (reserve_call number member lots) result lots (slice_set items place new)
    by (Err r) is h =
        let left : (result ≡ Err r) × (new ≡ l) = rw is at h in
        unchanged (reserve_call number member lots) r result lots (slice_set items place new) (rw (read.is, is) refl) left.0
        (ap (λ (k : LotState). slice_set items place k) left.1 ∙ read.stays)
    by (Ok t) is h =
        let left : (result ≡ Ok t) × (new ≡ with_ticket t l) = rw is at h in
        changed (reserve_call number member lots) t (with_lot number (with_ticket t l) lots) result lots (slice_set items place new) (rw (read.is, is) refl) left.0
        (read.changes new ∙ ap (λ (k : LotState). with_lot number k lots) left.1)
