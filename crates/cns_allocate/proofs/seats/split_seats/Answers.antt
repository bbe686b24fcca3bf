use Rattle.std.proofs.Common.{◌≡◌, ℕ, ◌-◌, ◌≤◌, ◌∷◌, [], arith, ap, ◌∙◌, length, length-append, subst}
use Rattle.cns_pool.specs.WorkerSeat.{EndWithin, WorkerState}
use Rattle.cns_ids.proofs.ListLemmas.{places_push}
use Rattle.cns_allocate.specs.Serving.{every, asked_in_plan}
use Rattle.cns_allocate.proofs.DealLemmas.{asked_in_plan-append}
use Rattle.cns_allocate.proofs.SeatLemmas.{left-budget, left-calls, parts-sum, split-more}
use Rattle.cns_allocate.proofs.seats.split_seats.Goals as goal

pub of-needs-requires-clause-budget : goal.of-needs-requires-clause-budget
of-needs-requires-clause-budget c =
    let i = c.loop-worker.invariant in
    omega (arith, left-budget c.args.seat.now c.loop-worker.seat c.loop-worker.seats.items (c.args.workers - 1) c.loop-worker.worker c.args.group.now i.split (omega arith) i.budgets c.requires.budget, c.budget.ensures)

pub split-requires-clause-budget : goal.split-requires-clause-budget
split-requires-clause-budget c =
    let i = c.loop-worker.invariant in
    let left = left-budget c.args.seat.now c.loop-worker.seat c.loop-worker.seats.items (c.args.workers - 1) c.loop-worker.worker c.args.group.now i.split (omega arith) i.budgets c.requires.budget in
    omega (arith, left, c.of-needs.ensures.shares)

pub split-requires-clause-calls : goal.split-requires-clause-calls
split-requires-clause-calls c =
    let i = c.loop-worker.invariant in
    let left = left-calls c.args.seat.now c.loop-worker.seat c.loop-worker.seats.items (c.args.workers - 1) c.loop-worker.worker c.args.group.now i.split (omega arith) i.counts c.requires.calls in
    omega (arith, left, c.of-needs.ensures.calls)

pub loop-worker-preserved : goal.loop-worker-preserved
loop-worker-preserved c =
    let i = c.loop-worker.invariant in
    let part : WorkerState = c.in_ok-part.part in
    let parts = c.loop-worker.seats.items in
    let gap : ℕ = c.args.workers - 1 in
    let k : ℕ = c.loop-worker.worker in
    let group = c.args.group.now in
    let is = c.in_ok-part.ensures.part in
    let budget : part.budget ≡ asked_in_plan (every gap k group) = ap (λ (s : WorkerState). s.budget) is ∙ c.of-needs.ensures.shares in
    let calls : part.calls ≡ length (every gap k group) = ap (λ (s : WorkerState). s.calls) is ∙ c.of-needs.ensures.calls in
    let fits : c.of-needs.result.shares ≤ c.loop-worker.seat.budget =
    omega (arith, c.of-needs.ensures.shares, left-budget c.args.seat.now c.loop-worker.seat parts gap k group i.split (omega arith) i.budgets c.requires.budget) in
    let lasts : c.of-needs.result.calls ≤ c.loop-worker.seat.calls =
    omega (arith, c.of-needs.ensures.calls, left-calls c.args.seat.now c.loop-worker.seat parts gap k group i.split (omega arith) i.counts c.requires.calls) in
    rw c.push_reserved.ensures.items
    (record {
      split =
          split-more c.args.seat.now c.loop-worker.seat c.split.new.seat part parts c.of-needs.result.shares c.of-needs.result.calls i.split fits lasts
          c.in_ok-part.ensures.rest is;
      count = omega (arith, i.count, length-append parts (part ∷ []));
      room = omega (arith, i.room, c.push_reserved.ensures.capacity);
      budgets = parts-sum asked_in_plan asked_in_plan-append (λ (s : WorkerState). s.budget) gap k group parts part i.budgets budget;
      counts = parts-sum (λ l. length l) (λ ps qs. length-append ps qs) (λ (s : WorkerState). s.calls) gap k group parts part i.counts calls;
      budget = places_push (λ j (s : WorkerState). asked_in_plan (every gap j group) ≤ s.budget) parts part k i.count i.budget (omega (arith, budget));
      calls = places_push (λ j (s : WorkerState). length (every gap j group) ≤ s.calls) parts part k i.count i.calls (omega (arith, calls));
      ends = λ some. subst (λ (s : WorkerState). EndWithin s.seen.asked s.tickets) i.split.rest c.in_ok-part.ensures.ends;
    })
