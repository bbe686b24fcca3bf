use Rattle.std.proofs.Common.{List, ℕ, IfOk, subst}
use Rattle.cns_check.specs.Repeats.{KeepsRepeats}
use Rattle.cns_check.specs.declared.repeat.Repeats.{Repeats}
use Rattle.cns_check.proofs.RepeatLemmas.{in_its_trades, in_no_sections}
use Rattle.cns_check.proofs.again.repeats.Goals as goal

pub returns-in-Some : goal.returns-in-Some
returns-in-Some c =
    let s = c.in-Some.sections in
    let same = in_its_trades c.args.text.now s.openings.now s.trades.now s.script.now c.in-Some.ensures in
    subst (λ (rows : List (ℕ × ℕ)). IfOk c.repeats_of_trades.result (λ (found : Repeats). KeepsRepeats found rows)) same c.repeats_of_trades.ensures

pub returns-in-None : goal.returns-in-None
returns-in-None c = subst (KeepsRepeats c.new.result) (in_no_sections c.args.text.now c.in-None.ensures) c.new.ensures
