use Rattle.std.proofs.Common.{ap}
use Rattle.std.specs.BinaryHeap.{heap_items}
use Rattle.cns_netting.proofs.AddLemmas.{adds_back, all_named, near_back}
use Rattle.cns_netting.proofs.KeptLemmas.{kept_back, kept_near, near_by, positions_netted}
use Rattle.cns_netting.proofs.book.NetBook.count_at.Goals as goal

pub add_due-requires : goal.add_due-requires
add_due-requires g c = rw c.as_slice-undue.ensures.value (record { named = c.self.invariant.named; near = near_by c.args.day (heap_items c.self.inside.undue) (kept_near c.self.invariant) })

pub add_due-requires-2 : goal.add_due-requires-2
add_due-requires-2 g c =
    let waiting = heap_items c.self.inside.undue in
    let adds = rw c.as_slice-undue.ensures.value at c.add_due.ensures.adds in
    rw c.as_slice-undue.ensures.value (record { named = all_named adds waiting c.self.invariant.named; near = near_back (near_by c.args.day waiting (kept_near c.self.invariant)) adds })

pub invariant_of-self : goal.invariant_of-self
invariant_of-self g c = kept_back c.self.invariant (adds_back c.add_due.ensures.adds c.add_due-2.ensures.adds)

pub returns-clause-count : goal.returns-clause-count
returns-clause-count g c =
    c.count_rows-count.ensures _ (positions_netted c.self.invariant (ap (λ b. b.history) c.self.view_is) (rw c.as_slice-undue.ensures.value at c.add_due.ensures.adds))
