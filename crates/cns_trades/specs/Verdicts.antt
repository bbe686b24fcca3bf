-- The verdict on a trade, against the accepted ones (this project's own rule).
use Rattle.std.specs.Prelude.{ℕ, ◌==◌, nat_lt, List, length, Option, Some, None, find, if◌then◌else◌}
use Rattle.cns_trades.specs.Fields.{same_text}
use Rattle.cns_trades.specs.Listed.{same_trade}
use Rattle.cns_trades.specs.declared.trade.Trade.{Trade}
use Rattle.cns_trades.specs.declared.list.Verdict.{Verdict}
use Rattle.cns_trades.specs.declared.list.Verdict.TheVariants as verdicts

-- the accepted trade with this id
abbrev pub known : List ℕ → List Trade → Option Trade
known id ts = find (λ (t : Trade). same_text id t.id) ts

abbrev pub verdict_by : List Trade → Trade → Option Trade → Verdict
verdict_by held t (Some u) = if same_trade u t then verdicts.Same else verdicts.Conflict
verdict_by held t None = if nat_lt (length held) 1000000 then verdicts.New else verdicts.Full

-- the verdict on a trade: buyer and seller, then a known id, then the limit
abbrev pub verdict : List Trade → Trade → Verdict
verdict held t = if t.buyer == t.seller then verdicts.SameMember else verdict_by held t (known t.id held)
