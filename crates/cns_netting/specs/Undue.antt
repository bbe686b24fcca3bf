-- The trades of a history that are accepted and not due, and what a netting of a date takes from them.
use Rattle.std.specs.Ordering.{nat_cmp}
use Rattle.std.specs.declared.cmp.Ordering.{Ordering}
use Rattle.std.specs.Prelude.{ℕ, nat_le, List, [], ◌∷◌, Option, None, if◌then◌else◌}
use Rattle.cns_trades.specs.declared.trade.Trade.{Trade}
use Rattle.cns_netting.specs.History.{is_reached, latest}
use Rattle.cns_netting.specs.declared.entry.NetEntry.{NetEntry}
use Rattle.cns_netting.specs.declared.entry.NetEntry.TheVariants.{Accepted, Netted, Settled}
use Rattle.cns_netting.specs.declared.undue.Change.{Change}
use Rattle.cns_netting.specs.declared.undue.Change.TheVariants.{Add, TakeBack}
use Rattle.cns_netting.specs.declared.undue.Undue.{Undue}

-- the trades of a history that no netting recorded after them has made due; `reached` is the latest date of the nettings
-- recorded after the whole list
abbrev pub undue_since : Option ℕ → List NetEntry → List Trade
undue_since reached [] = []
undue_since reached (Accepted t ∷ h) = if is_reached reached t.settle then undue_since reached h else t ∷ undue_since reached h
undue_since reached (Netted d ∷ h) = undue_since (latest reached d) h
undue_since reached (Settled m i z ∷ h) = undue_since reached h

-- the trades that are not due
abbrev pub undue : List NetEntry → List Trade
undue h = undue_since None h

-- what netting needs of a trade
abbrev pub waiting_of : Trade → Undue
waiting_of t = record { settle = t.settle; buyer = t.buyer; seller = t.seller; issue = t.issue; quantity = t.quantity }

-- a number of each trade that settles by a day, and of each other one
abbrev pub if_settled : ℕ → (Undue → ℕ) → Undue → ℕ
if_settled day f t = if nat_le t.settle day then f t else 0

abbrev pub if_left : ℕ → (Undue → ℕ) → Undue → ℕ
if_left day f t = if nat_le t.settle day then 0 else f t

-- the order of trades by settlement, the later one first
abbrev pub earlier : Undue → Undue → Ordering
earlier a b = nat_cmp b.settle a.settle

-- the member that a trade brings shares, as it is added or taken back, and the one that it takes them from
abbrev pub receiving : Change → Undue → ℕ
receiving Add t = t.buyer
receiving TakeBack t = t.seller

abbrev pub delivering : Change → Undue → ℕ
delivering Add t = t.seller
delivering TakeBack t = t.buyer
