-- When orders are refused (this project's own rule).
use Rattle.std.specs.Prelude.{ℕ, ◌+◌, ◌<◌, ◌≤◌, max, length}
use Rattle.cns_movements.specs.Book.{Orders, OrderRoom}
use Rattle.cns_movements.specs.declared.book.IssueFault.{IssueFault}
use Rattle.cns_movements.specs.declared.book.IssueFault.TheVariants.{NumbersSpent, OutOfMemory}

-- the numbers are enough for this many asks, and one number is left where there are none
abbrev pub NumbersSuffice : Orders → ℕ → Type 0
NumbersSuffice book count = length book.orders + max 1 count ≤ 1000000

-- the numbers are not enough
abbrev pub AreNumbersSpent : Orders → ℕ → Type 0
AreNumbersSpent book count = 1000000 < length book.orders + max 1 count

-- what is so where this many asks are refused: numbers come before memory, which is wanting only where room is missing
abbrev pub IsIssueRefused : IssueFault → OrderRoom → ℕ → Type 0
IsIssueRefused NumbersSpent old count = AreNumbersSpent old.book count
IsIssueRefused OutOfMemory old count = NumbersSuffice old.book count × (old.order_room < count)
