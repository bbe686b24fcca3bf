-- What the types of an order's fields, and of a reply's, promise.
use Rattle.std.specs.Prelude.{IfSome}
use Rattle.cns_ids.specs.Cusip.{IsCusip}
use Rattle.cns_ids.specs.Day.{IsDayNumber}
use Rattle.cns_ids.specs.Member.{IsMember}
use Rattle.cns_ids.specs.Shares.{IsShares}
use Rattle.cns_movements.specs.Asked.{IsAsked}
use Rattle.cns_movements.specs.Number.{IsMoveNo}
use Rattle.cns_movements.specs.declared.order.Order.{Order}
use Rattle.cns_movements.specs.declared.order.Reply.{Reply}

-- an order's fields are in their ranges
pub record IsOrderInRange (o : Order) : Type 0 where
  pub number : IsMoveNo o.number
  pub cycle : IfSome o.cycle (λ id. IsDayNumber id.day)
  pub member : IsMember o.member
  pub issue : IsCusip o.issue
  pub asked : IsAsked o.asked

-- a reply's fields are in their ranges
pub record IsReplyInRange (r : Reply) : Type 0 where
  pub number : IsMoveNo r.number
  pub moved : IsShares r.moved
