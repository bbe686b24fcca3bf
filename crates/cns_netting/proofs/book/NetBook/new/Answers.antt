use Rattle.std.specs.BinaryHeap.{heap_items}
use Rattle.cns_netting.proofs.KeptLemmas.{kept_empty}
use Rattle.cns_netting.proofs.book.NetBook.new.Goals as goal

pub invariant_of-result : goal.invariant_of-result
invariant_of-result c = rw (c.new.ensures.items, c.new-2.ensures) (kept_empty c.new-3.result (heap_items c.new-4.result) c.new-3.ensures.empty c.new-4.ensures.items c.new-4.ensures.heap_order)
