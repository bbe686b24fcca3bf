use Rattle.std.proofs.Common.{rules, subst}
use Rattle.std.specs.BinaryHeap.{heap_items}
use Rattle.std.specs.List.Sorted.{IsPermutation}
use Rattle.std.specs.Prelude.{nat_lt}
use Rattle.std.proofs.lemmas.Fn.{filter_same}
use Rattle.cns_netting.specs.declared.undue.Undue.{Undue}
use Rattle.cns_netting.proofs.due.retain_later.Goals as goal

pub returns-clause-later : goal.returns-clause-later
returns-clause-later c =
    let filtered = c.retain.ensures.filtered in
    subst (λ ts. IsPermutation ts (heap_items c.retain.new.self))
    (filter_same _ (λ (t : Undue). nat_lt c.args.day t.settle) _ (λ t b f called. search rules) _ _ filtered.1) filtered.2
