use Rattle.cns_batch.specs.Commands.{delivered, pumped}
use Rattle.cns_batch.proofs.ActLemmas.{followed_gives, runs_fault, runs_followed, stops_followed}
use Rattle.cns_batch.proofs.CommandLemmas.{after_send, not_sent}
use Rattle.cns_batch.proofs.runner.Runner.pump_one.Goals as goal

pub returns-in_err-packet : goal.returns-in_err-packet
unfolding pumped
returns-in_err-packet g c =
    runs_fault c.from_residual.result c.from_residual.ensures.0 (stops_followed (after_send delivered) (rw c.number-number.ensures.value at c.in_err-packet.ensures))

pub returns-in_default : goal.returns-in_default
unfolding pumped
returns-in_default g c =
    rw (c.number-number.ensures.value, not_sent delivered c.in_ok-packet.field-0 c.in_default.not-Sent) at (followed_gives (after_send delivered) c.in_ok-packet.ensures)

pub returns : goal.returns
unfolding pumped
returns g c = runs_followed (after_send delivered) _ _ (rw (c.number-number.ensures.value, c.in-Sent.is) at c.in_ok-packet.ensures) c.deliver.ensures
