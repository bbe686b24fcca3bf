use Rattle.std.proofs.Common.{◌<◌, ◌-◌, [], rules, arith, length, List, ap, sym, subst, ◌∙◌}
use Rattle.std.proofs.lemmas.List.{take_at}
use Rattle.std.proofs.lemmas.List.Sorted.{IsPermutation-refl}
use Rattle.cns_pool.specs.WorkerSeat.{WorkerState}
use Rattle.cns_allocate.specs.Serving.{HasJoined, HasSplit}
use Rattle.cns_allocate.proofs.DealLemmas.{dealt-all}
use Rattle.cns_allocate.proofs.SeatLemmas.{have-group, have-joined, have-nothing, room_for, seat-none}
use Rattle.cns_allocate.proofs.serving.serve_group.Goals as goal

pub returns-in_err-seats-clause-fault : goal.returns-in_err-seats-clause-fault
returns-in_err-seats-clause-fault g c = let none = seat-none c.args.seat.now in search (rules, none)

pub join_seats-requires-clause-room : goal.join_seats-requires-clause-room
join_seats-requires-clause-room g c =
    let split = c.split_seats.ensures.split in
    let parts = c.split_seats.new.seats.items in
    room_for c.args.seat.now c.split_seats.new.seat [] parts parts split (have-nothing c.args.seat.now c.split_seats.new.seat parts split)

pub returns-in-Err-clause-fault : goal.returns-in-Err-clause-fault
returns-in-Err-clause-fault g c =
    let split = c.split_seats.ensures.split in
    let parts = c.split_seats.new.seats.items in
    have-joined c.args.seat.now c.split_seats.new.seat c.join_seats.new.seat [] [] parts parts (IsPermutation-refl []) split
    (have-nothing c.args.seat.now c.split_seats.new.seat parts split) c.join_seats.ensures

pub join_seats-requires-2-clause-room : goal.join_seats-requires-2-clause-room
join_seats-requires-2-clause-room g c =
    let parts = c.as_mut_slice.result.now in
    let value = c.as_mut_slice.ensures.value in
    let some : 0 < length parts = omega (arith, c.in_default.ensures.count, ap length value, c.requires.workers) in
    let split = subst (λ (l : List WorkerState). HasSplit c.args.seat.now l c.split_seats.new.seat) (sym value) c.split_seats.ensures.split in
    let have = have-group c.args.seat.now c.split_seats.new.seat c.args.group.now parts c.draw_all.new.seats some c.draw_all.auto.seats split c.draw_all.ensures in
    rw (take_at c.draw_all.new.seats _ _ (c.draw_all.auto.seats ∙ c.as_mut_slice.ensures.len)) (room_for c.args.seat.now c.split_seats.new.seat _ parts c.draw_all.new.seats split have)

pub returns-clause-drawn : goal.returns-clause-drawn
returns-clause-drawn g c =
    let parts = c.as_mut_slice.result.now in
    let value = c.as_mut_slice.ensures.value in
    let some : 0 < length parts = omega (arith, c.in_default.ensures.count, ap length value, c.requires.workers) in
    let split = subst (λ (l : List WorkerState). HasSplit c.args.seat.now l c.split_seats.new.seat) (sym value) c.split_seats.ensures.split in
    let have = have-group c.args.seat.now c.split_seats.new.seat c.args.group.now parts c.draw_all.new.seats some c.draw_all.auto.seats split c.draw_all.ensures in
    let joined =
    subst (λ (l : List WorkerState). HasJoined c.split_seats.new.seat l c.join_seats-2.new.seat)
    (take_at c.draw_all.new.seats _ _ (c.draw_all.auto.seats ∙ c.as_mut_slice.ensures.len)) c.join_seats-2.ensures in
    have-joined c.args.seat.now c.split_seats.new.seat c.join_seats-2.new.seat _ c.args.group.now parts c.draw_all.new.seats (dealt-all (length parts - 1) c.args.group.now) split have
    joined
