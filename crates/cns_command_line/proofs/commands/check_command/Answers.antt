use Rattle.std.proofs.Common.{◌≡◌, ◌∙◌, ap, codes}
use Rattle.std.proofs.lemmas.Result.{IfOk-weaker}
use Rattle.clap.specs.Words.{app_of, new_app}
use Rattle.clap.specs.Simple.{app_of_fields}
use Rattle.cns_command_line.specs.CommandLine.{with_source}
use Rattle.cns_command_line.proofs.CommandLineLemmas.{globals_of}
use Rattle.cns_command_line.proofs.commands.check_command.Goals as goal

pub returns : goal.returns
returns c =
    let told_is : app_of c.about.result ≡ new_app (codes "check") = ap app_of_fields c.about.ensures ∙ c.new.ensures.app in
    let helped_is : app_of c.after_help-check.result ≡ new_app (codes "check") = ap app_of_fields c.after_help-check.ensures ∙ told_is in
    let plain = ap globals_of c.after_help-check.ensures ∙ ap globals_of c.about.ensures ∙ c.new.ensures.local in
    IfOk-weaker c.with_source.result _ _ (λ r h. let with_files = h plain in (with_files.0 ∙ ap with_source helped_is, with_files.1)) c.with_source.ensures
