use Rattle.std.proofs.Common.{rules, ◌≡◌, ◌++◌, ◌∷◌, [], inr, ◌∙◌, refl, ap, vec_items}
use Rattle.cns_journal.specs.MemDisk.{MemState}
use Rattle.cns_journal.specs.MemCall.{step_of}
use Rattle.cns_journal.proofs.MemCallLemmas.{did_noted}
use Rattle.cns_journal.proofs.PowerLemmas.{disk_noted}
use Rattle.cns_journal.proofs.mem_disk.MemDisk.change.Goals as goal

pub invariant_of-self-then-fails : goal.invariant_of-self-then-fails
invariant_of-self-then-fails c = disk_noted (vec_items c.args.content) c.self.inside.calls.items c.push_reserved.new.self.items (step_of c.args.kind (vec_items c.args.bytes)) c.self.inside.idle
    (search rules) (rw (← c.self.view_is) at c.requires.content) (rw (← c.self.view_is) at c.requires.within) c.self.invariant.within

pub returns-then-fails-clause-err : goal.returns-then-fails-clause-err
returns-then-fails-clause-err c =
    let items : c.push_reserved.new.self.items ≡ c.self.inside.calls.items ++ record { step = step_of c.args.kind (vec_items c.args.bytes); idle = c.self.inside.idle } ∷ [] = search rules in
    inr (c.if-fails.true, ap (λ (d : MemState). d.steps) c.fault.ensures.same ∙ rw (← c.self.view_is) (did_noted _ _ _ items))

pub invariant_of-self-else-fails : goal.invariant_of-self-else-fails
invariant_of-self-else-fails c = disk_noted (vec_items c.args.content) c.self.inside.calls.items c.push_reserved.new.self.items (step_of c.args.kind (vec_items c.args.bytes)) c.self.inside.idle
    (search rules) (rw (← c.self.view_is) at c.requires.content) (rw (← c.self.view_is) at c.requires.within) c.self.invariant.within

pub returns-clause-ok : goal.returns-clause-ok
returns-clause-ok c =
    let items : c.push_reserved.new.self.items ≡ c.self.inside.calls.items ++ record { step = step_of c.args.kind (vec_items c.args.bytes); idle = c.self.inside.idle } ∷ [] = search rules in
    (c.if-fails.false, rw (← c.self.view_is, did_noted _ _ _ items) refl)
