use Rattle.std.proofs.Common.{◌≡◌, ◌∙◌, ap, ap₂, codes}
use Rattle.std.proofs.lemmas.Result.{IfOk-weaker}
use Rattle.clap.specs.Words.{app_of, new_app, with_rule}
use Rattle.clap.specs.Simple.{app_of_fields}
use Rattle.cns_command_line.specs.CommandLine.{flag_rule, required_rule}
use Rattle.cns_command_line.proofs.CommandLineLemmas.{globals_of, none_global}
use Rattle.cns_command_line.proofs.commands.journal_command.Goals as goal

pub returns : goal.returns
returns c =
    let bare = new_app (codes "journal") in
    let told_is : app_of c.about.result ≡ bare = ap app_of_fields c.about.ensures ∙ c.new.ensures.app in
    let helped_is : app_of c.after_help.result ≡ bare = ap app_of_fields c.after_help.ensures ∙ told_is in
    let what_is : app_of c.in_ok-arg.field-0 ≡ with_rule bare (required_rule (codes "what")) =
    c.in_ok-arg.ensures.shape c.required_argument.ensures.local ∙ ap₂ with_rule helped_is c.required_argument.ensures.rule in
    let path_is : app_of c.in_ok-arg-2.field-0 ≡ with_rule (with_rule bare (required_rule (codes "what"))) (required_rule (codes "path")) =
    c.in_ok-arg-2.ensures.shape c.required_argument-2.ensures.local ∙ ap₂ with_rule what_is c.required_argument-2.ensures.rule in
    let csv_is : app_of c.in_ok-arg-3.field-0 ≡ with_rule (with_rule (with_rule bare (required_rule (codes "what"))) (required_rule (codes "path"))) (flag_rule (codes "csv")) =
    c.in_ok-arg-3.ensures.shape c.flag.ensures.local ∙ ap₂ with_rule path_is c.flag.ensures.rule in
    let verbose_is : app_of c.in_ok-arg-4.field-0
    ≡ with_rule (with_rule (with_rule (with_rule bare (required_rule (codes "what"))) (required_rule (codes "path"))) (flag_rule (codes "csv"))) (flag_rule (codes "verbose")) =
    c.in_ok-arg-4.ensures.shape c.flag-2.ensures.local ∙ ap₂ with_rule csv_is c.flag-2.ensures.rule in
    let plain = ap globals_of c.after_help.ensures ∙ ap globals_of c.about.ensures ∙ c.new.ensures.local in
    let what_free = none_global _ _ _ c.in_ok-arg.ensures plain c.required_argument.ensures.local in
    let path_free = none_global _ _ _ c.in_ok-arg-2.ensures what_free c.required_argument-2.ensures.local in
    let csv_free = none_global _ _ _ c.in_ok-arg-3.ensures path_free c.flag.ensures.local in
    let verbose_free = none_global _ _ _ c.in_ok-arg-4.ensures csv_free c.flag-2.ensures.local in
    IfOk-weaker c.arg-5.result _ _ (λ r h. (
      h.shape c.begins_option.ensures.local ∙ ap₂ with_rule verbose_is c.begins_option.ensures.rule,
      none_global _ _ _ h verbose_free c.begins_option.ensures.local,
    )) c.arg-5.ensures
