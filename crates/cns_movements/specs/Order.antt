-- What a list of movement orders and the list of their confirmations amount to (this project's own rules).
-- Confirmations stand newest first.
use Rattle.std.specs.Prelude.{◌≡◌, ℕ, suc, ◌≤◌, Bool, true, false, ◌&&◌, ◌==◌, List, [], ◌∷◌, Option, Some, None, is_some, unwrap_or, option_map, find, sum_by, codes, if◌then◌else◌}
use Rattle.std.specs.List.{filter_map}
use Rattle.cns_ids.specs.Cycle.{rank}
use Rattle.cns_ids.specs.declared.cycle.CycleId.{CycleId}
use Rattle.cns_movements.specs.declared.order.MoveKind.{MoveKind}
use Rattle.cns_movements.specs.declared.order.MoveKind.TheVariants.{Cover, Delivery}
use Rattle.cns_movements.specs.declared.order.Ask.{Ask}
use Rattle.cns_movements.specs.declared.order.Order.{Order}
use Rattle.cns_movements.specs.declared.order.Reply.{Reply}

-- a kind's name
abbrev pub kind_text : MoveKind → List ℕ
kind_text kind = elim kind [ Cover ↦ codes "COVER" | Delivery ↦ codes "DELIVERY" ]

-- whether a kind is a cover, a delivery, or the same as another
abbrev pub is_cover : MoveKind → Bool
is_cover kind = elim kind [ Cover ↦ true | Delivery ↦ false ]

abbrev pub is_delivery : MoveKind → Bool
is_delivery kind = elim kind [ Cover ↦ false | Delivery ↦ true ]

abbrev pub same_kind : MoveKind → MoveKind → Bool
same_kind kind other = elim kind [ Cover ↦ is_cover other | Delivery ↦ is_delivery other ]

-- an ask for these shares, where they are not 0
abbrev pub ask_for : MoveKind → ℕ → ℕ → ℕ → Option Ask
ask_for kind member issue shares = if shares == 0 then None else Some (record { kind = kind; member = member; issue = issue; asked = shares })

-- the order of this number, where there is one
abbrev pub order_of : List Order → ℕ → Option Order
order_of orders n = find (λ o. o.number == n) orders

-- the shares that the order of this number moved, where it is confirmed
abbrev pub moved_of : List Reply → ℕ → Option ℕ
moved_of replies n = option_map (λ (r : Reply). r.moved) (find (λ r. r.number == n) replies)

-- whether an order is of this kind, member and issue
abbrev pub is_of : MoveKind → ℕ → ℕ → Order → Bool
is_of kind member issue o = same_kind kind o.kind && ((o.member == member) && (o.issue == issue))

-- what an order asks for while it is not confirmed, and nothing from then on
abbrev pub open_part : List Reply → Order → ℕ
open_part replies o = if is_some (moved_of replies o.number) then 0 else o.asked

-- what a confirmed order moved, and nothing before
abbrev pub moved_part : List Reply → Order → ℕ
moved_part replies o = unwrap_or (moved_of replies o.number) 0

-- the shares asked by the unconfirmed orders of a kind, a member and an issue
unfoldable pub open_sum : List Order → List Reply → MoveKind → ℕ → ℕ → ℕ
open_sum orders replies kind member issue = sum_by (λ o. if is_of kind member issue o then open_part replies o else 0) orders

-- the shares moved by the confirmed orders of a kind, a member and an issue
unfoldable pub moved_sum : List Order → List Reply → MoveKind → ℕ → ℕ → ℕ
moved_sum orders replies kind member issue = sum_by (λ o. if is_of kind member issue o then moved_part replies o else 0) orders

-- the numbers of the orders that are not confirmed
abbrev pub unconfirmed_of : List Order → List Reply → List ℕ
unconfirmed_of orders replies = filter_map (λ o. if is_some (moved_of replies o.number) then None else Some o.number) orders

-- the order that has this number and cycle and asks for what the ask does
abbrev pub order_from : ℕ → Option CycleId → Ask → Order
order_from n cycle a = record { number = n; cycle = cycle; kind = a.kind; member = a.member; issue = a.issue; asked = a.asked }

-- an order without its cycle
abbrev pub without_cycle : Order → Order
without_cycle o = record o { cycle = None }

-- when two orders agree: all else that one says the other says too, and where both have a cycle, it is the same.
-- An order without a cycle agrees with two that have different ones: that two orders agree with one does not say that they agree with
-- each other.
pub record AgreesWith (a b : Order) : Type 0 where
  pub same : without_cycle a ≡ without_cycle b
  pub cycles : (x y : CycleId) → a.cycle ≡ Some x → b.cycle ≡ Some y → x ≡ y

-- the test of that: field by field
abbrev pub same_cycle : CycleId → CycleId → Bool
same_cycle x y = (x.day == y.day) && (rank x.kind == rank y.kind)

abbrev pub cycles_agree : Option CycleId → Option CycleId → Bool
cycles_agree (Some x) (Some y) = same_cycle x y
cycles_agree (Some x) None = true
cycles_agree None y = true

abbrev pub agrees_with : Order → Order → Bool
agrees_with a b =
    (a.number == b.number) && (same_kind a.kind b.kind && ((a.member == b.member) && ((a.issue == b.issue) && ((a.asked == b.asked) && cycles_agree a.cycle b.cycle))))

-- the asks as orders of this cycle with the numbers n, n + 1, and so on
abbrev pub numbered : ℕ → Option CycleId → List Ask → List Order
numbered n cycle [] = []
numbered n cycle (a ∷ asks) = order_from n cycle a ∷ numbered (suc n) cycle asks

-- the orders have the numbers n, n + 1, and so on
abbrev pub IsNumbered : ℕ → List Order → Type 0
IsNumbered n [] = Unit {0}
IsNumbered n (o ∷ orders) = (o.number ≡ n) × IsNumbered (suc n) orders

-- a confirmation is of an order, and not above what that asked for
pub record IsKnown (orders : List Order) (reply : Reply) : Type 0 where
  pub order : Order
  pub found : order_of orders reply.number ≡ Some order
  pub within : reply.moved ≤ order.asked

-- each confirmation is such a one
abbrev pub AreKnown : List Order → List Reply → Type 0
AreKnown orders [] = Unit {0}
AreKnown orders (r ∷ replies) = IsKnown orders r × AreKnown orders replies

-- no number is confirmed twice
abbrev pub AreConfirmedOnce : List Reply → Type 0
AreConfirmedOnce [] = Unit {0}
AreConfirmedOnce (r ∷ replies) = (moved_of replies r.number ≡ None) × AreConfirmedOnce replies
