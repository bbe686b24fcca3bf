use Rattle.std.proofs.Common.{subst}
use Rattle.std.proofs.lemmas.Result.{on_ok_weaker}
use Rattle.cns_check.specs.Kept.{IsOf}
use Rattle.cns_check.proofs.TextLemmas.{in_three}
use Rattle.cns_check.proofs.text.check_sections.Goals as goal

pub returns : goal.returns
returns c =
    let s = c.args.sections.now in
    on_ok_weaker c.check_script.result (λ adds before is.
    let openings = c.in_ok-check_rows.ensures before is in
    let trades = c.in_ok-check_rows-2.ensures _ openings in
    subst (IsOf c.check_script.new.found) (in_three before s.openings.now s.trades.now s.script.now) (adds _ trades)) c.check_script.ensures
