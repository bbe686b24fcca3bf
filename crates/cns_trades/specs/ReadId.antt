-- Reading a trade id.
use Rattle.std.specs.Prelude.{ℕ, List, Result, Ok, Err, if◌then◌else◌}
use Rattle.cns_trades.specs.TradeId.{is_id_text}
use Rattle.cns_trades.specs.declared.id.BadId.{BadId}

abbrev pub read_id : List ℕ → Result (List ℕ) BadId
read_id t = if is_id_text t then Ok t else Err (record {})
