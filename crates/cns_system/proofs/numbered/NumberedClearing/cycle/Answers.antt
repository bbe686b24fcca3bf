use Rattle.std.proofs.Common.{◌≡◌, refl}
use Rattle.cns_records.specs.declared.clear_record.ClearRecord.TheVariants.{Cycle}
use Rattle.cns_clearing.specs.Answers.{cycle_call}
use Rattle.cns_system.proofs.NumberedLemmas.{call_tied}
use Rattle.cns_system.proofs.RecordedLemmas.{cycle_records}
use Rattle.cns_system.proofs.numbered.NumberedClearing.cycle.Goals as goal

pub invariant_of-self : goal.invariant_of-self
invariant_of-self g c =
    call_tied (cycle_call c.args.id c.self.inside.node.log.down c.self.inside.node.log.records c.self.inside.node.lots) (λ x. ⊥) (λ r x. r ≡ Cycle c.args.id) c.cycle.result c.self.inside.node c.cycle.new.self
    c.self.inside.lots.lots (λ r x is ls. rw is refl) (cycle_records c.args.id c.self.inside.node.log.down c.self.inside.node.log.records c.self.inside.node.lots) c.self.invariant c.cycle.ensures
