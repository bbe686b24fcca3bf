use Rattle.std.proofs.Common.{◌≡◌, arith, ap, ◌∙◌, length, List, subst, sym, rules, vec_len}
use Rattle.std.proofs.lemmas.Iterator.Adapters.{YieldsList-from_vec}
use Rattle.std.proofs.lemmas.Iterator.Consumers.{YieldsList-end, YieldsList-so_far, YieldsList-turn}
use Rattle.std.proofs.lemmas.List.{map-id}
use Rattle.std.proofs.lemmas.List.Sums.{sum_by_push}
use Rattle.cns_pool.specs.WorkerSeat.{WorkerState, room_taken}
use Rattle.cns_allocate.specs.Serving.{HasJoined}
use Rattle.cns_allocate.proofs.SeatLemmas.{joined-more, room-left}
use Rattle.cns_allocate.proofs.seats.join_seats.Goals as goal

pub unreachable-requires : goal.unreachable-requires
unreachable-requires c =
    let gives = c.into_iter-other-iterator.ensures.into_iter_gives in
    let count : vec_len c.args.seats ≡ length c.args.seats.items = search rules in
    let all = YieldsList-from_vec {s = c.into_iter-other-iterator.result} c.args.seats.items gives.0 (gives.1 ∙ count) in
    let far = YieldsList-so_far all c.loop-other.yielded c.loop-other.other-iterator c.loop-other.yielded_by in
    let turn = YieldsList-turn all c.loop-other.yielded c.loop-other.other-iterator c.loop-other.yielded_by c.next.result c.next.new.self c.in-Some.other c.in-Some.is c.next.ensures.steps in
    let fits =
    room-left c.args.seats.items c.loop-other.yielded c.in-Some.other c.args.seat.now.room c.loop-other.seat.room far turn.0 turn.1 c.requires.room
    c.loop-other.invariant.room in
    omega (arith, fits, c.in_default.ensures.room)

pub loop-other-preserved : goal.loop-other-preserved
loop-other-preserved c =
    let joins = c.in-Ok.ensures.ok in
    record {
      next = tt;
      finite = tt;
      joined = joined-more c.args.seat.now c.loop-other.seat c.join.new.seat c.in-Some.other c.loop-other.yielded c.loop-other.invariant.joined joins;
      cell = ap (λ (s : WorkerState). s.cell) joins.after ∙ c.loop-other.invariant.cell;
      room =
          omega (
            arith,
            c.loop-other.invariant.room,
            ap (λ (s : WorkerState). s.room) joins.after,
            sum_by_push room_taken c.loop-other.yielded c.in-Some.other,
          );
    }

pub returns : goal.returns
returns c =
    let gives = c.into_iter-other-iterator.ensures.into_iter_gives in
    let count : vec_len c.args.seats ≡ length c.args.seats.items = search rules in
    let all = YieldsList-from_vec {s = c.into_iter-other-iterator.result} c.args.seats.items gives.0 (gives.1 ∙ count) in
    let end = YieldsList-end all c.loop-other.yielded c.loop-other.other-iterator c.loop-other.yielded_by c.next.result c.next.new.self c.in-None.is c.next.ensures.steps in
    subst (λ (seats : List WorkerState). HasJoined c.args.seat.now seats c.loop-other.seat) (sym (map-id c.loop-other.yielded) ∙ end.0) c.loop-other.invariant.joined
