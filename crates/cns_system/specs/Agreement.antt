-- When the records of the two nodes agree (this project's own rule).
use Rattle.std.specs.Prelude.{◌≡◌, List, All, Some}
use Rattle.cns_movements.specs.Order.{AgreesWith, order_of}
use Rattle.cns_movements.specs.declared.order.MoveKind.TheVariants.{Delivery}
use Rattle.cns_movements.specs.declared.order.Order.{Order}
use Rattle.cns_movements.specs.declared.order.Reply.{Reply}
use Rattle.cns_records.specs.declared.clear_record.ClearRecord.{ClearRecord}
use Rattle.cns_records.specs.declared.dep_record.DepRecord.{DepRecord}
use Rattle.cns_clearing.specs.Books.{order_book_of}
use Rattle.cns_depository.specs.declared.movement.Movement.{Movement}
use Rattle.cns_depository.specs.Stock.{executed_of, movement_of}

-- an executed movement is that of the order of its number: they agree; and a delivery moved all that it asks for
abbrev pub IsOrdered : List Order → Movement → Type 0
IsOrdered orders m =
    ((o : Order) × (order_of orders m.order.number ≡ Some o) × AgreesWith m.order o) × (m.order.kind ≡ Delivery → m.moved ≡ m.order.asked)

-- what a reply tells is so: the movement of its number was executed, and moved so many shares
abbrev pub IsExecuted : List Movement → Reply → Type 0
IsExecuted movements r = (m : Movement) × (movement_of movements r.number ≡ Some m) × (m.moved ≡ r.moved)

-- the records of a clearing node and those of a depository agree
pub record Agree (c : List ClearRecord) (p : List DepRecord) : Type 0 where
  pub executed : All (IsOrdered (order_book_of c).orders) (executed_of p)
  pub confirmed : All (IsExecuted (executed_of p)) (order_book_of c).replies
