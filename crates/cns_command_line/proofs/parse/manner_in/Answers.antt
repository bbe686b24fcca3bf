use Rattle.cns_command_line.specs.CommandLine.{IsMannerIn}
use Rattle.cns_command_line.proofs.parse.manner_in.Goals as goal

pub returns : goal.returns
unfolding IsMannerIn
returns c = (c.in_ok-owned_in.ensures, c.workers_in.ensures, c.shake_in.ensures, c.is_set.ensures, c.times_in.ensures, c.is_set-2.ensures)
