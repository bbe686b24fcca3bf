use Rattle.std.proofs.Common.{◌++◌, ◌∙◌, ap, subst}
use Rattle.std.proofs.lemmas.Result.{on_ok_weaker}
use Rattle.cns_check.specs.Kept.{IsOf}
use Rattle.cns_check.proofs.TextLemmas.{mended_parts}
use Rattle.cns_check.proofs.text.check_mended.Goals as goal

pub returns-in-Some : goal.returns-in-Some
returns-in-Some c =
    let s = c.in-Some.sections in
    let text = c.args.text.now in
    on_ok_weaker c.check_sections.result (λ adds before is.
    subst (IsOf c.check_sections.new.found) (ap (λ xs. before ++ xs) (mended_parts text _ s.openings.now s.trades.now s.script.now (c.as_slice.ensures.value ∙ c.in_ok-text.ensures) c.in-Some.ensures)) (adds before is)) c.check_sections.ensures
