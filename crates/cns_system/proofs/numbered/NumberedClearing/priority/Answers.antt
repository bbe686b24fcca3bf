use Rattle.std.proofs.Common.{◌≡◌, refl}
use Rattle.cns_records.specs.declared.clear_record.ClearRecord.TheVariants.{Priority}
use Rattle.cns_clearing.specs.Answers.{setting_call}
use Rattle.cns_system.proofs.NumberedLemmas.{call_tied}
use Rattle.cns_system.proofs.RecordedLemmas.{setting_records}
use Rattle.cns_system.proofs.numbered.NumberedClearing.priority.Goals as goal

pub invariant_of-self : goal.invariant_of-self
invariant_of-self g c =
    call_tied (setting_call (Priority c.args.member c.args.issue c.args.on) c.self.inside.node.log.down) (λ x. ⊥) (λ r x. r ≡ Priority c.args.member c.args.issue c.args.on)
    c.priority.result c.self.inside.node c.priority.new.self
    c.self.inside.lots.lots (λ r x is ls. rw is refl) (setting_records (Priority c.args.member c.args.issue c.args.on) c.self.inside.node.log.down) c.self.invariant c.priority.ensures
