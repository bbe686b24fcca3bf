use Rattle.std.proofs.lemmas.Result.{IfOk-weaker}
use Rattle.cns_command_line.proofs.commands.with_subcommand.Goals as goal

pub returns : goal.returns
returns c = IfOk-weaker c.subcommand.result _ _ (λ r h. (c.in_ok-subcommand.field-0, c.in_ok-subcommand.was, h)) c.subcommand.ensures
