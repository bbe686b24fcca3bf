use Rattle.std.proofs.Common.{arith, ap, length}
use Rattle.std.proofs.lemmas.List.Sorted.{length_permutation}
use Rattle.cns_system.proofs.floor.Floor.enter.Goals as goal

pub enter_sorted-requires-clause-room : goal.enter_sorted-requires-clause-room
enter_sorted-requires-clause-room g c =
    let same = length_permutation c.args.tickets.now c.in_ok-sorted.sorted c.in_ok-sorted.ensures.same in
    let here = ap length c.as_slice.ensures in
    omega (arith, here, same, c.in_ok-told.ensures.capacity)
