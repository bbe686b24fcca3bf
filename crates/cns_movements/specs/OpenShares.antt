-- What the unconfirmed orders of each holding ask for, by look-up.
use Rattle.std.specs.Prelude.{◌≡◌, ℕ, ◌+◌, ◌*◌, ◌^◌, ◌≤◌, ◌&&◌, ◌==◌, List, [], ◌∷◌, length, Option, Some, None, sum_by, if◌then◌else◌}
use Rattle.std.specs.HashMap.{HashMap, get}
use Rattle.cns_ids.specs.Holding.{holding_at, holding_eq}
use Rattle.cns_ids.specs.declared.holding.Holding.{Holding}
use Rattle.cns_movements.specs.Book.{AreSettled, IsStored, Orders}
use Rattle.cns_movements.specs.Order.{open_sum, same_kind}
use Rattle.cns_movements.specs.declared.open_shares.OpenShares.{OpenShares}
use Rattle.cns_movements.specs.declared.order.Ask.{Ask}
use Rattle.cns_movements.specs.declared.order.MoveKind.{MoveKind}
use Rattle.cns_movements.specs.declared.order.MoveKind.TheVariants.{Cover, Delivery}
use Rattle.cns_movements.specs.declared.order.Order.{Order}

-- what those of a kind ask for
abbrev pub shares_of : MoveKind → OpenShares → ℕ
shares_of Cover s = s.covers
shares_of Delivery s = s.deliveries

-- the same of what is found for a holding: nothing where it has none
abbrev pub open_at : MoveKind → Option OpenShares → ℕ
open_at kind None = 0
open_at kind (Some s) = shares_of kind s

module _ {S : Type 0} where
  -- what the unconfirmed orders of a kind, a member and an issue ask for, by look-up
  abbrev pub open_in : HashMap Holding OpenShares S → MoveKind → ℕ → ℕ → ℕ
  open_in sums kind member issue = open_at kind (get holding_eq sums (holding_at issue member))

-- the shares that the asks of a kind, a member and an issue ask for
unfoldable pub asked_by : MoveKind → ℕ → ℕ → List Ask → ℕ
asked_by kind m i [] = 0
asked_by kind m i (a ∷ asks) = (if same_kind kind a.kind && ((a.member == m) && (a.issue == i)) then a.asked else 0) + asked_by kind m i asks

-- each sum is the one over the orders, which ask for at most 10^18 shares each
pub record AreOpenIn (shares : MoveKind → ℕ → ℕ → ℕ) (book : Orders) : Type 0 where
  pub sums : (kind : MoveKind) (member issue : ℕ) → shares kind member issue ≡ open_sum book.orders book.replies kind member issue
  pub most : sum_by (λ (o : Order). o.asked) book.orders ≤ 10 ^ 18 * length book.orders

-- a book with what each of its orders moved, how many of the first are all confirmed, and what the unconfirmed ones of each holding
-- ask for
pub record IsKept (book : Orders) (moved : List (Option ℕ)) (settled : ℕ) (shares : MoveKind → ℕ → ℕ → ℕ) : Type 0 where
  pub stored : IsStored book moved
  pub settled_first : AreSettled settled moved
  pub summed : AreOpenIn shares book
