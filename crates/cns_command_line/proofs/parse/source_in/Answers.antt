use Rattle.std.proofs.Common.{subst}
use Rattle.cns_command_line.specs.CommandLine.{IsSourceIn, IsSourceOf}
use Rattle.cns_command_line.proofs.parse.source_in.Goals as goal

pub returns : goal.returns
unfolding IsSourceIn
returns c =
    (c.in_ok-names.names, c.in_ok-names.ensures, subst (λ file. IsSourceOf file c.in_ok-names.names c.source_of.result) c.in_ok-file.ensures c.source_of.ensures)
