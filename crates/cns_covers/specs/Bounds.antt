-- What holds of each history and the movements ordered for it, and keeps its positions small.
use Rattle.std.specs.Prelude.{◌≡◌, ℕ, ◌+◌, ◌-◌, ◌≤◌, ◌==◌, ℤ, pos, neg_ℤ, List, All, count_by}
use Rattle.cns_netting.specs.History.{bought, credit, debit, due, settled_credit, settled_debit, sold}
use Rattle.cns_netting.specs.declared.entry.NetEntry.{NetEntry}
use Rattle.cns_movements.specs.Order.{open_sum}
use Rattle.cns_movements.specs.Book.{Orders}
use Rattle.cns_movements.specs.declared.order.Ask.{Ask}
use Rattle.cns_movements.specs.declared.order.MoveKind.{MoveKind}
use Rattle.cns_movements.specs.declared.order.MoveKind.TheVariants.{Cover, Delivery}

-- the shares that a confirmed movement of a kind brings its member's position
abbrev pub amount_of : MoveKind → ℕ → ℤ
amount_of kind moved = elim kind [ Cover ↦ pos moved | Delivery ↦ neg_ℤ (pos moved) ]

-- the shares that a member is long of in an issue, less those of its open deliveries
abbrev pub want_in : List NetEntry → Orders → ℕ → ℕ → ℕ
want_in h book member issue = (credit h member issue - debit h member issue) - open_sum book.orders book.replies Delivery member issue

-- what covers credited to a member's position and still may credit is at most what it sold in due trades; what deliveries debited from it and still may debit
-- is at most what it bought
pub record AreBounded (h : List NetEntry) (book : Orders) : Type 0 where
  pub covered : (member issue : ℕ) → settled_credit h member issue + open_sum book.orders book.replies Cover member issue ≤ sold (due h) member issue
  pub delivered : (member issue : ℕ) → settled_debit h member issue + open_sum book.orders book.replies Delivery member issue ≤ bought (due h) member issue

-- these asks are deliveries of the issue to members that are long, each member once, none above what it wants
pub record AreDeliverable (h : List NetEntry) (book : Orders) (issue : ℕ) (asks : List Ask) : Type 0 where
  pub each : All (λ (a : Ask). (a.kind ≡ Delivery) × (a.issue ≡ issue) × (a.asked ≤ want_in h book a.member issue)) asks
  pub once : (member : ℕ) → count_by (λ (a : Ask). a.member == member) asks ≤ 1
