use Rattle.std.proofs.Common.{rules, ap, ◌∙◌}
use Rattle.cns_wire.specs.Frame.{order_frame}
use Rattle.cns_wire.specs.ReadFrame.{read_frame_of}
use Rattle.cns_wire.proofs.FrameLemmas.{read_frame_of-order_frame}
use Rattle.cns_wire.proofs.write.write_order.Goals as goal

pub returns-clause-back : goal.returns-clause-back
unfolding order_frame
returns-clause-back c = ap read_frame_of (search rules) ∙ read_frame_of-order_frame c.args.order.now c.write_bytes.ensures.ranges
