use Rattle.cns_command_line.specs.CommandLine.{AsksForExplanation}
use Rattle.cns_command_line.proofs.parse.explain_request.Goals as goal

pub returns : goal.returns
unfolding AsksForExplanation
returns c = (c.in_ok-folder_in.ensures, c.in_ok-required_in.ensures, c.in_ok-required_in-2.ensures)
