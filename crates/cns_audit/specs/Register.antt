-- Registers (this project's own rules).
use Rattle.std.specs.Prelude.{ℕ, ◌==◌, ℤ, pos, neg_ℤ, ◌+ℤ◌, List, [], ◌∷◌, ◌++◌, codes, if◌then◌else◌}
use Rattle.std.specs.Fmt.{decimal}
use Rattle.cns_movements.specs.declared.order.MoveKind.TheVariants.{Cover, Delivery}
use Rattle.cns_movements.specs.declared.order.MoveKind.{MoveKind}
use Rattle.cns_records.specs.declared.instruction.Sort.{Sort}
use Rattle.cns_records.specs.declared.instruction.Sort.TheVariants.{Deposit, Withdraw}
use Rattle.cns_audit.specs.declared.register.Amount.{Amount}

-- what the amounts of a register sum to
abbrev pub total_of : List Amount → ℤ
total_of [] = pos 0
total_of (first ∷ rest) = first.shares +ℤ total_of rest

-- what a confirmed movement adds to its member's position, and an executed one to its member's balance
abbrev pub position_change : MoveKind → ℕ → ℤ
position_change Cover moved = pos moved
position_change Delivery moved = neg_ℤ (pos moved)

abbrev pub balance_change : MoveKind → ℕ → ℤ
balance_change Cover moved = neg_ℤ (pos moved)
balance_change Delivery moved = pos moved

-- what a member's own instruction adds to its balance
abbrev pub own_change : Sort → ℕ → ℤ
own_change Deposit shares = pos shares
own_change Withdraw shares = neg_ℤ (pos shares)

-- what a due trade adds to the position of a member who is its buyer, or else its seller
abbrev pub due_change : ℕ → ℕ → ℕ → ℤ
due_change member buyer quantity = if member == buyer then pos quantity else neg_ℤ (pos quantity)

-- cover N asked SHARES, or delivery N asked SHARES
abbrev pub movement_word : MoveKind → List ℕ
movement_word = elim [ Cover ↦ codes "cover " | Delivery ↦ codes "delivery " ]

abbrev pub movement_text : MoveKind → ℕ → ℕ → List ℕ
movement_text kind number asked = movement_word kind ++ decimal number ++ codes " asked " ++ decimal asked
