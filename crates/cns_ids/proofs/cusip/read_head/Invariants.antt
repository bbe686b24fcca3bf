use Rattle.std.proofs.Common.{◌≡◌, ◌+◌, ◌*◌, ◌^◌, ◌<◌, ◌≤◌, drop}
use Rattle.cns_ids.specs.Cusip.{first_bad, sum_from}
use Rattle.cns_ids.specs.CusipNumber.{widened}
use Rattle.cns_ids.proofs.CusipLemmas.{joined}
use Rattle.cns_ids.proofs.cusip.read_head.Given as goal

abbrev pub invariant-loop-character : goal.invariant-loop-character
invariant-loop-character l = record {
  place : l.place ≡ l.character-index + 1;
  listed : first_bad l.place (drop l.character-index l.text) ≡ first_bad 1 l.text;
  sum : l.sum + sum_from l.place (drop l.character-index l.text) ≡ sum_from 1 l.text;
  small : l.sum ≤ 16 * l.character-index;
  number : joined (widened l.character-index l.number) (drop l.character-index l.text) ≡ joined 0 l.text;
  room : l.number < 128 ^ l.character-index;
}
