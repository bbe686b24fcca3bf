use Rattle.std.proofs.Common.{arith, refl}
use Rattle.std.proofs.lemmas.Bool.Decides.{nat_tests}
use Rattle.cns_tally.proofs.CountLemmas.{byte_cut, byte_kept}
use Rattle.cns_tally.proofs.lines.Lines.take_byte.Goals as goal

pub returns-then-not-is_full : goal.returns-then-not-is_full
returns-then-not-is_full c = λ text h. byte_kept _ _ text c.args.byte (grind (arith, nat_tests)) (grind (arith, nat_tests)) refl c.push.ensures.items h

pub returns-else-not-is_full : goal.returns-else-not-is_full
returns-else-not-is_full c = λ text h. byte_cut _ text c.args.byte (grind (arith, nat_tests)) (grind (arith, nat_tests)) h
