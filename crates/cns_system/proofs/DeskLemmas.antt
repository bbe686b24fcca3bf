-- What a desk did in a hold of its lock.
use Rattle.std.proofs.Common.{◌≡◌, ℕ, Bool, List, Result, Ok, Err, subst}
use Rattle.std.specs.Prelude.{IfErr, IfOk, is_some}
use Rattle.cns_pool.specs.declared.ticket.Ticket.{Ticket}
use Rattle.cns_system.specs.Begin.{IsBegun, IsNotBegun, opened_of}
use Rattle.cns_system.specs.Desk.{IsEnteredIn, IsNotOpenedIn, IsOpenedIn}
use Rattle.cns_system.specs.Finish.{AreOfLot, FinishGives}
use Rattle.cns_system.specs.Floor.{FloorState, IsLawfulFloor}
use Rattle.cns_system.specs.declared.desk.Drawn.{Drawn}
use Rattle.cns_system.specs.declared.floor.Begun.{Begun}
use Rattle.cns_system.specs.declared.outcome.Outcome.{Outcome}

pub opened_in : {E : Type 0} (issue : ℕ) (result : Result Begun E) (old new : FloorState) → IsLawfulFloor old → IsLawfulFloor new
    → IfOk result (λ (begun : Begun). IsBegun issue begun old new) → IfOk result (λ (begun : Begun). IsOpenedIn issue (opened_of begun))
opened_in issue (Ok begun) old new before after is = record { old = old; new = new; before = before; after = after; occurs = is.opened }
opened_in issue (Err e) old new before after is = is

pub not_opened_in : {V : Type 0} (issue : ℕ) (result : Result V Outcome) (old new : FloorState) → IsLawfulFloor old → IsLawfulFloor new
    → IfErr result (λ (outcome : Outcome). IsNotBegun issue outcome old new) → IfErr result (IsNotOpenedIn issue)
not_opened_in issue (Ok v) old new before after is = is
not_opened_in issue (Err outcome) old new before after is = (record { old = old; new = new; before = before; after = after; occurs = is.0.0 }, is.1)

pub entered_in : {V E : Type 0} (items : V → List Outcome) (lot : ℕ) (drawn : Drawn) (handed : List Ticket) (failed : Bool) (result : Result V E) (old new : FloorState)
    → handed ≡ drawn.seat.tickets → failed ≡ is_some drawn.cut → IsLawfulFloor old → IsLawfulFloor new
    → IfOk result (λ (v : V). FinishGives lot handed failed (items v) old new.system)
    → IfOk result (λ (v : V). AreOfLot lot old.system (items v)) → IfOk result (λ (v : V). IsEnteredIn lot drawn (items v))
entered_in items lot drawn handed failed (Ok v) old new same cut before after gives tickets = record {
  old = old;
  new = new;
  before = before;
  after = after;
  gives =
      subst (λ (ts : List Ticket). FinishGives lot ts (is_some drawn.cut) (items v) old new.system) same
      (subst (λ (b : Bool). FinishGives lot handed b (items v) old new.system) cut gives);
  tickets = tickets;
}
entered_in items lot drawn handed failed (Err e) old new same cut before after gives tickets = gives
