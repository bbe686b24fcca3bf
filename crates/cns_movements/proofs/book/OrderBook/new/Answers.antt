use Rattle.std.proofs.Common.{refl, arith}
use Rattle.cns_movements.proofs.OpenLemmas.{open_none}
use Rattle.cns_movements.proofs.book.OrderBook.new.Goals as goal

pub invariant_of-result : goal.invariant_of-result
invariant_of-result c =
    Prim.rw (c.new.ensures.items, c.new-2.ensures.items, c.new-3.ensures.items)
    (record {
      stored = record { lawful = record { numbered = tt; few = omega arith; known = tt; once = tt }; moves = refl };
      settled_first = record { within = omega arith; all = λ k lt. absurd (omega arith) };
      summed = open_none _ (λ k m i. Prim.rw c.new-4.ensures.empty refl);
    })
