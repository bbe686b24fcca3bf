use Rattle.std.proofs.Common.{◌≡◌, ◌∙◌, ap, codes, true}
use Rattle.std.proofs.lemmas.Result.{IfOk-weaker}
use Rattle.clap.specs.Words.{app_of, new_app}
use Rattle.clap.specs.Simple.{on_top, app_of_fields}
use Rattle.cns_command_line.specs.CommandLine.{check_app, cusip_app, explain_app, journal_app, run_app, table_app}
use Rattle.cns_command_line.proofs.CommandLineLemmas.{added}
use Rattle.cns_command_line.proofs.commands.command.Goals as goal

pub returns : goal.returns
returns c =
    let about_is : app_of c.about.result ≡ new_app (codes "cnsd") = ap app_of_fields c.about.ensures ∙ c.new.ensures.app in
    let version_is : app_of c.version.result ≡ on_top (λ s. record s { has_version = true }) (new_app (codes "cnsd")) =
    ap app_of_fields c.version.ensures ∙ ap (on_top (λ s. record s { has_version = true })) about_is in
    let required_is : app_of c.subcommand_required.result ≡ on_top (λ s. record s { has_version = true; subcommand_required = true }) (new_app (codes "cnsd")) =
    ap app_of_fields c.subcommand_required.ensures ∙ ap (on_top (λ s. record s { subcommand_required = true })) version_is in
    let bare_is : app_of c.arg_required_else_help-bare.result
    ≡ on_top (λ s. record s { has_version = true; subcommand_required = true; arg_required_else_help = true }) (new_app (codes "cnsd")) =
    ap app_of_fields c.arg_required_else_help-bare.ensures ∙ ap (on_top (λ s. record s { arg_required_else_help = true })) required_is in
    let with_run = added _ _ _ run_app _ bare_is c.run_command.ensures c.in_ok-with_run.ensures in
    let with_check = added _ _ _ check_app _ with_run c.check_command.ensures c.in_ok-with_check.ensures in
    let with_table = added _ _ _ table_app _ with_check c.table_command.ensures c.in_ok-with_table.ensures in
    let with_journal = added _ _ _ journal_app _ with_table c.journal_command.ensures c.in_ok-with_journal.ensures in
    let with_explain = added _ _ _ explain_app _ with_journal c.explain_command.ensures c.in_ok-with_explain.ensures in
    IfOk-weaker c.with_subcommand-6.result _ _ (λ r h. added _ _ _ cusip_app _ with_explain c.cusip_command.ensures h) c.with_subcommand-6.ensures
