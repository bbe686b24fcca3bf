use Rattle.std.proofs.Common.{◌≡◌, take, true}
use Rattle.std.specs.List.{list_all}
use Rattle.cns_ids.specs.Number.{decimal_value, is_digit}
use Rattle.cns_ids.proofs.number.short_number.Given as goal

abbrev pub invariant-loop-digit : goal.invariant-loop-digit
invariant-loop-digit l = (list_all is_digit (take l.digit-index l.text) ≡ true) × (l.number ≡ decimal_value (take l.digit-index l.text))
