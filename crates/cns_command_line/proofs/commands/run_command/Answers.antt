use Rattle.std.proofs.Common.{◌≡◌, ◌∙◌, ap, ap₂, codes}
use Rattle.std.proofs.lemmas.Result.{IfOk-weaker}
use Rattle.clap.specs.Words.{app_of, new_app, with_rule}
use Rattle.clap.specs.Simple.{app_of_fields}
use Rattle.cns_command_line.specs.CommandLine.{flag_rule, journal_rule, progress_rule, shake_rule, strict_rule, with_source, workers_rule}
use Rattle.cns_command_line.proofs.CommandLineLemmas.{globals_of, none_global}
use Rattle.cns_command_line.proofs.commands.run_command.Goals as goal

pub returns : goal.returns
returns c =
    let run = new_app (codes "run") in
    let told_is : app_of c.about.result ≡ run = ap app_of_fields c.about.ensures ∙ c.new.ensures.app in
    let helped_is : app_of c.after_help.result ≡ run = ap app_of_fields c.after_help.ensures ∙ told_is in
    let served_is : app_of c.in_ok-arg.field-0 ≡ with_rule run workers_rule =
    c.in_ok-arg.ensures.shape c.workers_option.ensures.local ∙ ap₂ with_rule helped_is c.workers_option.ensures.rule in
    let shaken_is : app_of c.in_ok-arg-2.field-0 ≡ with_rule (with_rule run workers_rule) shake_rule =
    c.in_ok-arg-2.ensures.shape c.shake_option.ensures.local ∙ ap₂ with_rule served_is c.shake_option.ensures.rule in
    let kept_is : app_of c.in_ok-arg-3.field-0 ≡ with_rule (with_rule (with_rule run workers_rule) shake_rule) journal_rule =
    c.in_ok-arg-3.ensures.shape c.journal_option.ensures.local ∙ ap₂ with_rule shaken_is c.journal_option.ensures.rule in
    let strict_is : app_of c.in_ok-arg-4.field-0 ≡ with_rule (with_rule (with_rule (with_rule run workers_rule) shake_rule) journal_rule) strict_rule =
    c.in_ok-arg-4.ensures.shape c.strict_flag.ensures.local ∙ ap₂ with_rule kept_is c.strict_flag.ensures.rule in
    let progress_is : app_of c.in_ok-arg-5.field-0 ≡ with_rule (with_rule (with_rule (with_rule (with_rule run workers_rule) shake_rule) journal_rule) strict_rule) progress_rule =
    c.in_ok-arg-5.ensures.shape c.progress_flag.ensures.local ∙ ap₂ with_rule strict_is c.progress_flag.ensures.rule in
    let run_is : app_of c.in_ok-run.run'
    ≡ with_rule (with_rule (with_rule (with_rule (with_rule (with_rule run workers_rule) shake_rule) journal_rule) strict_rule) progress_rule) (flag_rule (codes "intact")) =
    c.in_ok-run.ensures.shape c.flag.ensures.local ∙ ap₂ with_rule progress_is c.flag.ensures.rule in
    let plain = ap globals_of c.after_help.ensures ∙ ap globals_of c.about.ensures ∙ c.new.ensures.local in
    let workers_free = none_global _ _ _ c.in_ok-arg.ensures plain c.workers_option.ensures.local in
    let shake_free = none_global _ _ _ c.in_ok-arg-2.ensures workers_free c.shake_option.ensures.local in
    let journal_free = none_global _ _ _ c.in_ok-arg-3.ensures shake_free c.journal_option.ensures.local in
    let strict_free = none_global _ _ _ c.in_ok-arg-4.ensures journal_free c.strict_flag.ensures.local in
    let progress_free = none_global _ _ _ c.in_ok-arg-5.ensures strict_free c.progress_flag.ensures.local in
    let intact_free = none_global _ _ _ c.in_ok-run.ensures progress_free c.flag.ensures.local in
    IfOk-weaker c.with_source.result _ _ (λ r h. let with_files = h intact_free in (with_files.0 ∙ ap with_source run_is, with_files.1)) c.with_source.ensures
