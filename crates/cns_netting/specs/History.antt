-- A book's history, the newest entry first, and the sums over it. What stands before an entry is the rest of the list.
use Rattle.std.specs.Prelude.{ℕ, zero, suc, ◌+◌, ◌-◌, ◌&&◌, ◌==◌, nat_le, Bool, false, ℤ, pos, negsuc, ◌-ℤ◌, List, [], ◌∷◌, ◌++◌, length, Option, Some, None, sum_by, if◌then◌else◌}
use Rattle.cns_trades.specs.declared.trade.Trade.{Trade}
use Rattle.cns_netting.specs.declared.entry.NetEntry.{NetEntry}
use Rattle.cns_netting.specs.declared.entry.NetEntry.TheVariants.{Accepted, Netted, Settled}

-- the accepted trades, the first one first
abbrev pub accepted : List NetEntry → List Trade
accepted [] = []
accepted (Accepted t ∷ h) = accepted h ++ t ∷ []
accepted (_ ∷ h) = accepted h

-- whether a settlement date is reached by the latest date of some nettings; none of them reaches it where there are none
abbrev pub is_reached : Option ℕ → ℕ → Bool
is_reached reached settle = elim reached [ None ↦ false | Some day ↦ nat_le settle day ]

-- the latest date of some nettings and one more
abbrev pub latest : Option ℕ → ℕ → Option ℕ
latest reached day = elim reached [ None ↦ Some day | Some other ↦ Some (if nat_le other day then day else other) ]

-- the trades of a history that a netting recorded after them has made due; `reached` is the latest date of the nettings
-- recorded after the whole list
abbrev pub due_since : Option ℕ → List NetEntry → List Trade
due_since reached [] = []
due_since reached (Accepted t ∷ h) = if is_reached reached t.settle then t ∷ due_since reached h else due_since reached h
due_since reached (Netted d ∷ h) = due_since (latest reached d) h
due_since reached (Settled m i z ∷ h) = due_since reached h

-- the due trades: a netting of a date on or after the settlement date is recorded after the trade
abbrev pub due : List NetEntry → List Trade
due h = due_since None h

-- the shares that a member bought in an issue by these trades, and that it sold
unfoldable pub bought : List Trade → ℕ → ℕ → ℕ
bought trades member issue = sum_by (λ (t : Trade). if (t.buyer == member) && (t.issue == issue) then t.quantity else 0) trades

unfoldable pub sold : List Trade → ℕ → ℕ → ℕ
sold trades member issue = sum_by (λ (t : Trade). if (t.seller == member) && (t.issue == issue) then t.quantity else 0) trades

-- what an amount credits, and what it debits: its size above 0, and below 0 (of what is settled, or of a position)
abbrev pub credit_part : ℤ → ℕ
credit_part amount = elim amount [ pos n ↦ n | negsuc n ↦ 0 ]

abbrev pub debit_part : ℤ → ℕ
debit_part amount = elim amount [ pos n ↦ 0 | negsuc n ↦ suc n ]

-- the shares that settlements credit to a member's position in an issue, which it delivered by confirmed covers; and those that they debit from it,
-- which it received by confirmed deliveries
unfoldable pub settled_credit : List NetEntry → ℕ → ℕ → ℕ
settled_credit [] member issue = 0
settled_credit (Settled m i z ∷ h) member issue = (if (m == member) && (i == issue) then credit_part z else 0) + settled_credit h member issue
settled_credit (_ ∷ h) member issue = settled_credit h member issue

unfoldable pub settled_debit : List NetEntry → ℕ → ℕ → ℕ
settled_debit [] member issue = 0
settled_debit (Settled m i z ∷ h) member issue = (if (m == member) && (i == issue) then debit_part z else 0) + settled_debit h member issue
settled_debit (_ ∷ h) member issue = settled_debit h member issue

-- the shares that stand for a member in an issue: bought by due trades, or credited by settlements
abbrev pub credit : List NetEntry → ℕ → ℕ → ℕ
credit h member issue = bought (due h) member issue + settled_credit h member issue

-- the shares that stand against it: sold by due trades, or debited by settlements
abbrev pub debit : List NetEntry → ℕ → ℕ → ℕ
debit h member issue = sold (due h) member issue + settled_debit h member issue

-- a member's position in an issue: above 0 it is to receive, below 0 to deliver
abbrev pub position_of : List NetEntry → ℕ → ℕ → ℤ
position_of h member issue = pos (credit h member issue) -ℤ pos (debit h member issue)

-- how many trades a netting of a date makes due
abbrev pub becoming_due : List NetEntry → ℕ → ℕ
becoming_due h day = length (due (Netted day ∷ h)) - length (due h)

-- the sum of the positions above 0 of the members 1 to n in an issue, and that of the sizes of those below 0
unfoldable pub long_up_to : ℕ → List NetEntry → ℕ → ℕ
long_up_to zero h issue = 0
long_up_to (suc n) h issue = long_up_to n h issue + (credit h (suc n) issue - debit h (suc n) issue)

unfoldable pub short_up_to : ℕ → List NetEntry → ℕ → ℕ
short_up_to zero h issue = 0
short_up_to (suc n) h issue = short_up_to n h issue + (debit h (suc n) issue - credit h (suc n) issue)

-- the shares of all long positions of an issue together, and those of all short ones: members have the numbers 1 to 9999
abbrev pub longs_of : List NetEntry → ℕ → ℕ
longs_of h issue = long_up_to 9999 h issue

abbrev pub shorts_of : List NetEntry → ℕ → ℕ
shorts_of h issue = short_up_to 9999 h issue
