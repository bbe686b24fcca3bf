use Rattle.std.proofs.Common.{◌≡◌, take}
use Rattle.std.specs.List.{list_all}
use Rattle.cns_trades.specs.TradeId.{is_id_byte}
use Rattle.cns_trades.proofs.id.all_id_characters.Given as goal

abbrev pub invariant-loop-character : goal.invariant-loop-character
invariant-loop-character l = l.all ≡ list_all is_id_byte (take l.character-index l.text)
