use Rattle.cns_command_line.specs.CommandLine.{AsksForTexts}
use Rattle.cns_command_line.proofs.parse.cusip_request.Goals as goal

pub returns : goal.returns
unfolding AsksForTexts
returns c = c.in_ok-texts.ensures
