use Rattle.std.proofs.Common.{append_assoc, subst}
use Rattle.std.proofs.lemmas.Result.{on_ok_weaker}
use Rattle.cns_check.specs.Findings.{in_heads, in_mended}
use Rattle.cns_check.specs.Kept.{IsOf}
use Rattle.cns_check.proofs.text.check_unparted.Goals as goal

pub returns : goal.returns
returns c =
    let text = c.args.text.now in
    on_ok_weaker c.check_mended.result (λ adds before is.
    subst (IsOf c.check_mended.new.found) (append_assoc before (in_heads text) (in_mended text)) (adds _ (c.in_ok-check_heads.ensures before is))) c.check_mended.ensures
