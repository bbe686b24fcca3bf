-- A list of accepted trades.
use Rattle.std.specs.Prelude.{ℕ, ◌&&◌, ◌==◌, Bool, List}
use Rattle.cns_trades.specs.Fields.{same_text}
use Rattle.cns_trades.specs.declared.list.Terms.{Terms}
use Rattle.cns_trades.specs.declared.trade.Trade.{Trade}

-- the accepted trades, the first one first, and for how many more there is room
pub record Listed : Type 0 where
  pub trades : List Trade
  pub room : ℕ

-- the trade of an entry: its id, and what is held under it
abbrev pub trade_in : List ℕ × Terms → Trade
trade_in e =
    record { id = e.0; settle = e.1.settle; buyer = e.1.buyer; seller = e.1.seller; issue = e.1.issue; quantity = e.1.quantity }

-- equal in all fields
abbrev pub same_trade : Trade → Trade → Bool
same_trade a b = same_text a.id b.id && (a.settle == b.settle) && (a.buyer == b.buyer)
    && (a.seller == b.seller) && (a.issue == b.issue) && (a.quantity == b.quantity)
