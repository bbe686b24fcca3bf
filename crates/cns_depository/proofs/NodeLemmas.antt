-- What the calls of a depository come to, in each case.
use Rattle.std.proofs.Common.{◌≡◌, Bool, true, false, List, Some, None, Ok, Err, refl}
use Rattle.cns_trades.specs.declared.opening.Opening.{Opening}
use Rattle.cns_movements.specs.declared.order.Order.{Order}
use Rattle.cns_records.specs.Call.{Commits}
use Rattle.cns_records.specs.declared.dep_record.DepRecord.{DepRecord}
use Rattle.cns_records.specs.declared.dep_record.DepRecord.TheVariants as entry
use Rattle.cns_records.specs.declared.instruction.Instruction.{Instruction}
use Rattle.cns_depository.specs.Answers.{executes, held_call, instruct_call, known_call, take_order_call, own_refused}
use Rattle.cns_depository.specs.Stock.{executed_of, instructed_of, instruction_of, movement, movement_of, own_refusal}
use Rattle.cns_depository.specs.declared.fault.DepFault.TheVariants.{Down}
use Rattle.cns_depository.specs.declared.fault.Own.TheVariants as done
use Rattle.cns_depository.specs.declared.fault.OwnFault.TheVariants as own
use Rattle.cns_depository.specs.declared.fault.OwnRefusal.{OwnRefusal}
use Rattle.cns_depository.specs.declared.movement.Movement.{Movement}

pub order_down : (o : Order) (down : Bool) (openings : List Opening) (p : List DepRecord) → down ≡ true → take_order_call o down openings p ≡ Err Down
unfolding take_order_call
order_down o down openings p is = rw is refl

pub order_new : (o : Order) (down : Bool) (openings : List Opening) (p : List DepRecord) → down ≡ false → movement_of (executed_of p) o.number ≡ None
    → take_order_call o down openings p ≡ Ok (executes (movement openings p o))
unfolding take_order_call
order_new o down openings p up none = rw (up, none) refl

pub order_known : (o : Order) (down : Bool) (openings : List Opening) (p : List DepRecord) (known : Movement) → down ≡ false → movement_of (executed_of p) o.number ≡ Some known
    → take_order_call o down openings p ≡ known_call o known
unfolding take_order_call
order_known o down openings p known up found = rw (up, found) refl

pub instruct_down : (i : Instruction) (down : Bool) (openings : List Opening) (p : List DepRecord) → down ≡ true → instruct_call i down openings p ≡ Err own.Down
unfolding instruct_call
instruct_down i down openings p is = rw is refl

pub instruct_held : (i : Instruction) (down : Bool) (openings : List Opening) (p : List DepRecord) (held : Instruction) → down ≡ false
    → instruction_of (instructed_of p) i.member i.number ≡ Some held → instruct_call i down openings p ≡ held_call i held
unfolding instruct_call
instruct_held i down openings p held up found = rw (up, found) refl

pub instruct_refused : (i : Instruction) (down : Bool) (openings : List Opening) (p : List DepRecord) (why : OwnRefusal) → down ≡ false
    → instruction_of (instructed_of p) i.member i.number ≡ None → own_refusal openings p i ≡ Some why → instruct_call i down openings p ≡ Err (own_refused why)
unfolding instruct_call
instruct_refused i down openings p why up none refused = rw (up, none, refused) refl

pub instruct_new : (i : Instruction) (down : Bool) (openings : List Opening) (p : List DepRecord) → down ≡ false → instruction_of (instructed_of p) i.member i.number ≡ None
    → own_refusal openings p i ≡ None → instruct_call i down openings p ≡ Ok (Commits (entry.Own i) done.Done)
unfolding instruct_call
instruct_new i down openings p up none fine = rw (up, none, fine) refl
