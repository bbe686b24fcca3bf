use Rattle.std.proofs.Common.{◌≡◌, refl}
use Rattle.cns_records.specs.declared.clear_record.ClearRecord.TheVariants.{Accept}
use Rattle.cns_clearing.specs.Answers.{trade_call}
use Rattle.cns_system.proofs.NumberedLemmas.{call_tied}
use Rattle.cns_system.proofs.RecordedLemmas.{trade_records}
use Rattle.cns_system.proofs.numbered.NumberedClearing.take_trade.Goals as goal

pub invariant_of-self : goal.invariant_of-self
invariant_of-self g c =
    call_tied (trade_call c.args.trade.now c.self.inside.node.log.down c.self.inside.node.log.records) (λ x. ⊥) (λ r x. r ≡ Accept c.args.trade.now) c.take_trade.result c.self.inside.node c.take_trade.new.self
    c.self.inside.lots.lots (λ r x is ls. rw is refl) (trade_records c.args.trade.now c.self.inside.node.log.down c.self.inside.node.log.records) c.self.invariant c.take_trade.ensures
