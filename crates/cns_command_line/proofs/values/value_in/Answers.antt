use Rattle.std.proofs.Common.{rules, ◌∙◌, sym}
use Rattle.clap.specs.Words.{found_of, rows_of}
use Rattle.clap.proofs.WalkLemmas.{first_value-rows}
use Rattle.cns_command_line.proofs.CommandLineLemmas.{value_of_named}
use Rattle.cns_command_line.proofs.values.value_in.Goals as goal

pub returns : goal.returns
returns c =
    let found = found_of c.in_ok-subcommand_matches.field-0.now in
    c.get_str.ensures ∙ first_value-rows found c.args.id.now
    ∙ sym (value_of_named _ c.args.subcommand.now c.args.id.now _ (rows_of found) (search rules) c.in_ok-subcommand_matches.ensures.rows)
