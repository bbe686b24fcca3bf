use Rattle.std.proofs.Common.{refl}
use Rattle.cns_clearing.specs.Answers.{reply_call}
use Rattle.cns_system.proofs.NumberedLemmas.{call_tied}
use Rattle.cns_system.proofs.RecordedLemmas.{reply_records}
use Rattle.cns_system.proofs.numbered.NumberedClearing.take_reply.Goals as goal

pub invariant_of-self : goal.invariant_of-self
invariant_of-self g c =
    call_tied (reply_call c.args.reply.now c.self.inside.node.log.down c.self.inside.node.log.records) _ _ c.take_reply.result c.self.inside.node c.take_reply.new.self
    c.self.inside.lots.lots (λ r x is ls. rw (is.0) refl) (reply_records c.args.reply.now c.self.inside.node.log.down c.self.inside.node.log.records) c.self.invariant c.take_reply.ensures
