use Rattle.std.proofs.Common.{rules, ap, ◌∙◌}
use Rattle.cns_wire.specs.Frame.{reply_frame}
use Rattle.cns_wire.specs.ReadFrame.{read_frame_of}
use Rattle.cns_wire.proofs.FrameLemmas.{read_frame_of-reply_frame}
use Rattle.cns_wire.proofs.write.write_reply.Goals as goal

pub returns-clause-back : goal.returns-clause-back
unfolding reply_frame
returns-clause-back c = ap read_frame_of (search rules) ∙ read_frame_of-reply_frame c.args.reply.now c.to_bytes.ensures.ranges
