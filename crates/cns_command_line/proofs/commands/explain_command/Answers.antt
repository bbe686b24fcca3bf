use Rattle.std.proofs.Common.{◌≡◌, ◌∙◌, ap, ap₂, codes}
use Rattle.std.proofs.lemmas.Result.{IfOk-weaker}
use Rattle.clap.specs.Words.{app_of, new_app, with_rule}
use Rattle.clap.specs.Simple.{app_of_fields}
use Rattle.cns_command_line.specs.CommandLine.{required_rule}
use Rattle.cns_command_line.proofs.CommandLineLemmas.{globals_of, none_global}
use Rattle.cns_command_line.proofs.commands.explain_command.Goals as goal

pub returns : goal.returns
returns c =
    let bare = new_app (codes "explain") in
    let told_is : app_of c.about.result ≡ bare = ap app_of_fields c.about.ensures ∙ c.new.ensures.app in
    let helped_is : app_of c.after_help.result ≡ bare = ap app_of_fields c.after_help.ensures ∙ told_is in
    let folder_is : app_of c.in_ok-arg.field-0 ≡ with_rule bare (required_rule (codes "folder")) =
    c.in_ok-arg.ensures.shape c.required_argument.ensures.local ∙ ap₂ with_rule helped_is c.required_argument.ensures.rule in
    let member_is : app_of c.in_ok-arg-2.field-0 ≡ with_rule (with_rule bare (required_rule (codes "folder"))) (required_rule (codes "member")) =
    c.in_ok-arg-2.ensures.shape c.required_argument-2.ensures.local ∙ ap₂ with_rule folder_is c.required_argument-2.ensures.rule in
    let issue_is : app_of c.in_ok-arg-3.field-0
    ≡ with_rule (with_rule (with_rule bare (required_rule (codes "folder"))) (required_rule (codes "member"))) (required_rule (codes "issue")) =
    c.in_ok-arg-3.ensures.shape c.required_argument-3.ensures.local ∙ ap₂ with_rule member_is c.required_argument-3.ensures.rule in
    let plain = ap globals_of c.after_help.ensures ∙ ap globals_of c.about.ensures ∙ c.new.ensures.local in
    let folder_free = none_global _ _ _ c.in_ok-arg.ensures plain c.required_argument.ensures.local in
    let member_free = none_global _ _ _ c.in_ok-arg-2.ensures folder_free c.required_argument-2.ensures.local in
    let issue_free = none_global _ _ _ c.in_ok-arg-3.ensures member_free c.required_argument-3.ensures.local in
    IfOk-weaker c.arg-4.result _ _ (λ r h. (
      h.shape c.begins_option.ensures.local ∙ ap₂ with_rule issue_is c.begins_option.ensures.rule,
      none_global _ _ _ h issue_free c.begins_option.ensures.local,
    )) c.arg-4.ensures
