use Rattle.std.proofs.Common.{◌≡◌, ◌∙◌, ap₂, refl}
use Rattle.std.proofs.lemmas.Result.{IfOk-weaker}
use Rattle.clap.specs.Words.{app_of, with_rule}
use Rattle.cns_command_line.specs.CommandLine.{file_rule, openings_rule, trades_rule}
use Rattle.cns_command_line.proofs.CommandLineLemmas.{none_global}
use Rattle.cns_command_line.proofs.commands.with_source.Goals as goal

pub returns : goal.returns
returns c = IfOk-weaker c.arg-4.result _ _ (λ r h plain.
    let old = app_of c.args.command in
    let file_is : app_of c.in_ok-arg.field-0 ≡ with_rule old file_rule = c.in_ok-arg.ensures.shape c.file_argument.ensures.local ∙ ap₂ with_rule refl c.file_argument.ensures.rule in
    let openings_is : app_of c.in_ok-arg-2.field-0 ≡ with_rule (with_rule old file_rule) openings_rule =
    c.in_ok-arg-2.ensures.shape c.openings_option.ensures.local ∙ ap₂ with_rule file_is c.openings_option.ensures.rule in
    let trades_is : app_of c.in_ok-arg-3.field-0 ≡ with_rule (with_rule (with_rule old file_rule) openings_rule) trades_rule =
    c.in_ok-arg-3.ensures.shape c.trades_option.ensures.local ∙ ap₂ with_rule openings_is c.trades_option.ensures.rule in
    let file_free = none_global _ _ _ c.in_ok-arg.ensures plain c.file_argument.ensures.local in
    let openings_free = none_global _ _ _ c.in_ok-arg-2.ensures file_free c.openings_option.ensures.local in
    let trades_free = none_global _ _ _ c.in_ok-arg-3.ensures openings_free c.trades_option.ensures.local in
    (h.shape c.script_option.ensures.local ∙ ap₂ with_rule trades_is c.script_option.ensures.rule, none_global _ _ _ h trades_free c.script_option.ensures.local)) c.arg-4.ensures
