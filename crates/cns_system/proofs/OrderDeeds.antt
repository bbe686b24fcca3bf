-- What an order, and an instruction, come to at the depository.
use Rattle.std.proofs.Common.{◌≡◌, Bool, true, false, List, Option, Some, None, Result, Ok, Err, refl}
use Rattle.std.specs.Prelude.{IfOk}
use Rattle.cns_ids.specs.Steps.{◌>>◌, need}
use Rattle.cns_trades.specs.declared.opening.Opening.{Opening}
use Rattle.cns_movements.specs.Order.{AgreesWith, agrees_with}
use Rattle.cns_movements.specs.declared.order.Order.{Order}
use Rattle.cns_movements.proofs.AgreeLemmas.{agrees_with-is}
use Rattle.cns_records.specs.Call.{Deed}
use Rattle.cns_records.specs.Call as call
use Rattle.cns_records.specs.declared.dep_record.DepRecord.{DepRecord}
use Rattle.cns_records.specs.declared.dep_record.DepRecord.TheVariants as dep
use Rattle.cns_records.specs.declared.instruction.Instruction.{Instruction}
use Rattle.cns_depository.specs.Answers.{executes, held_call, instruct_call, known_call, take_order_call, own_refused, reply_to}
use Rattle.cns_depository.specs.Stock.{executed_of, execution, instructed_of, instruction_of, movement, movement_of, own_refusal}
use Rattle.cns_depository.specs.declared.fault.Answer.{Answer}
use Rattle.cns_depository.specs.declared.fault.Answer.TheVariants as answer
use Rattle.cns_depository.specs.declared.fault.DepFault.TheVariants as fault
use Rattle.cns_depository.specs.declared.fault.Own.{Own}
use Rattle.cns_depository.specs.declared.fault.Own.TheVariants as done
use Rattle.cns_depository.specs.declared.fault.OwnFault.{OwnFault}
use Rattle.cns_depository.specs.declared.fault.OwnRefusal.{OwnRefusal}
use Rattle.cns_depository.specs.declared.movement.Movement.{Movement}

-- an order is answered with the reply that was kept of a movement of its number, which agrees with it; or it is new, and executed
abbrev pub IsOrderDeed : Order → Bool → List Opening → List DepRecord → Deed DepRecord Answer → Type 0
IsOrderDeed o down openings p (call.Tells a) =
    (known : Movement) × (movement_of (executed_of p) o.number ≡ Some known) × AgreesWith known.order o × (a ≡ answer.Again (reply_to known))
IsOrderDeed o down openings p (call.Commits e a) =
    (down ≡ false) × (movement_of (executed_of p) o.number ≡ None) × (e ≡ execution (movement openings p o)) × (a ≡ answer.Done (reply_to (movement openings p o)))

pub order_deeds : (o : Order) (down : Bool) (openings : List Opening) (p : List DepRecord) → IfOk (take_order_call o down openings p) (IsOrderDeed o down openings p)
unfolding take_order_call
order_deeds o true openings p = tt
order_deeds o false openings p = by (movement_of (executed_of p) o.number) refl
  where
    again : (known : Movement) (agrees : Bool) → movement_of (executed_of p) o.number ≡ Some known → agrees_with known.order o ≡ agrees
        → IfOk (need agrees fault.Conflict >> Ok (call.Tells (answer.Again (reply_to known)))) (IsOrderDeed o false openings p)
    again known true found is = (known, found, agrees_with-is known.order o is, refl)
    again known false found is = tt

    by : (found : Option Movement) → movement_of (executed_of p) o.number ≡ found
        → IfOk (elim found [ None ↦ Ok (executes (movement openings p o)) | Some known ↦ known_call o known ]) (IsOrderDeed o false openings p)
    by None found_is = (refl, found_is, refl, refl)
    by (Some known) found_is = again known (agrees_with known.order o) found_is refl

-- an instruction was carried out before; or it is carried out, and its record is that of the member's own instruction
abbrev pub IsOwnDeed : Instruction → Bool → Deed DepRecord Own → Type 0
IsOwnDeed i down (call.Tells o) = o ≡ done.Again
IsOwnDeed i down (call.Commits e o) = (down ≡ false) × (e ≡ dep.Own i) × (o ≡ done.Done)

pub own_deeds : (i : Instruction) (down : Bool) (openings : List Opening) (p : List DepRecord) → IfOk (instruct_call i down openings p) (IsOwnDeed i down)
unfolding instruct_call
own_deeds i true openings p = tt
own_deeds i false openings p = by (instruction_of (instructed_of p) i.member i.number) (own_refusal openings p i)
  where
    held : (first : Result (Unit {0}) OwnFault) → IfOk (first >> Ok (call.Tells done.Again)) (IsOwnDeed i false)
    held (Ok u) = refl
    held (Err f) = tt

    by : (found : Option Instruction) (why : Option OwnRefusal)
        → IfOk (elim found [
          | None ↦ elim why [ None ↦ Ok (call.Commits (dep.Own i) done.Done) | Some why ↦ Err (own_refused why) ]
          | Some held ↦ held_call i held
        ]) (IsOwnDeed i false)
    by None None = (refl, refl, refl)
    by None (Some why) = tt
    by (Some k) why = held _
