use Rattle.std.proofs.Common.{subst}
use Rattle.clap.specs.Words.{subcommand_rows_of}
use Rattle.std.specs.Prelude.{codes}
use Rattle.cns_command_line.specs.CommandLine.{AsksForCheck, IsSourceIn}
use Rattle.cns_command_line.proofs.CommandLineLemmas.{nothing_else}
use Rattle.cns_command_line.proofs.parse.check_request.Goals as goal

pub returns-in_default : goal.returns-in_default
unfolding AsksForCheck
returns-in_default c =
    subst (IsSourceIn (codes "check") (subcommand_rows_of c.args.matches.now)) (nothing_else c.in_ok-source.field-0 c.in_default.not-Some) c.in_ok-source.ensures

pub returns : goal.returns
unfolding AsksForCheck
returns c = subst (IsSourceIn (codes "check") (subcommand_rows_of c.args.matches.now)) c.in-Some.is c.in_ok-source.ensures
