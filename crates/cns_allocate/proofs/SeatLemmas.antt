-- What seats have drawn, and what they have once they are joined.
use Rattle.std.proofs.Common.{◌≡◌, ℕ, zero, suc, ◌+◌, ◌-◌, ◌<◌, ◌≤◌, ◌⊎◌, inl, inr, Bool, true, List, [], ◌∷◌, ◌++◌, length, take, get_or, map, refl, sym, ap, ◌∙◌, arith, append_assoc, length-append, subst}
use Rattle.std.specs.Prelude.{◌||◌, All, IsPermutation, sum_by}
use Rattle.std.proofs.Math.Bool.{or-false, or-true, or_assoc, or_self}
use Rattle.std.proofs.lemmas.Bool.{cases_lt}
use Rattle.std.proofs.lemmas.List.{append-nil, map-id, take_all, take_more}
use Rattle.std.proofs.lemmas.List.Concat.{flat_map-append}
use Rattle.std.proofs.lemmas.List.Elements.{All-append, All-cons, All-nil, All-push, All-weaker}
use Rattle.std.proofs.lemmas.List.Folds.{list_any-append}
use Rattle.std.proofs.lemmas.List.Sorted.{length_permutation, sum_by-IsPermutation}
use Rattle.std.proofs.lemmas.List.Sums.{sum_by-append, sum_by-cons, sum_by_more_le, sum_by_push}
use Rattle.cns_pool.specs.declared.ticket.Ticket.{Ticket}
use Rattle.cns_pool.specs.WorkerSeat.{WorkerState, DrawsTicket, Joins, MeetsSeal, after_split, room_taken, split_off}
use Rattle.cns_allocate.specs.Served.{AreDrawnOf}
use Rattle.cns_allocate.specs.Serving.{HasDrawn, HasJoined, HasSplit, budgets_of, calls_of_workers, every, have_seen_seal, made_by, places_of, rooms_of, asked_in_plan, tickets_of}
use Rattle.cns_allocate.specs.declared.planned.Planned.{Planned}
use Rattle.cns_allocate.proofs.DealLemmas.{dealt, length-next, lists_of, shares-next}
use Rattle.cns_allocate.proofs.DrawnLemmas.{drawn-append, drawn-cons, drawn-most, drawn-none, drawn-permutation}

-- ---- one seat

-- it draws for nobody
pub seat-none : (seat : WorkerState) → HasDrawn seat [] seat
seat-none seat = record {
  cell = refl;
  given = refl;
  tickets = [];
  added = sym (append-nil seat.tickets);
  drawn = drawn-none [];
  after = All-nil (λ (t : Ticket). seat.seen.asked ≤ t.start);
  made = refl;
  used = omega arith;
  calls = omega arith;
  budget = omega arith;
  all = λ e. refl;
  met = λ less. absurd (omega (arith, less));
}

-- it meets the seal
pub seat-sealed : (old : WorkerState) (p : Planned) (ps : List Planned) (new : WorkerState) → 0 < old.calls → MeetsSeal old p.asked new → HasDrawn old (p ∷ ps) new
seat-sealed old p ps new some meets = record {
  cell = ap (λ (s : WorkerState). s.cell) meets.after;
  given = ap (λ (s : WorkerState). s.given) meets.after;
  tickets = [];
  added = ap (λ (s : WorkerState). s.tickets) meets.after ∙ sym (append-nil old.tickets);
  drawn = drawn-none (p ∷ ps);
  after = All-nil (λ (t : Ticket). old.seen.asked ≤ t.start);
  made = omega (arith, some, ap (λ (s : WorkerState). s.made) meets.after, ap (λ (s : WorkerState). s.calls) meets.after);
  used = omega (arith, ap (λ (s : WorkerState). s.calls) meets.after);
  calls = omega (arith, ap (λ (s : WorkerState). s.calls) meets.after);
  budget = omega (arith, ap (λ (s : WorkerState). s.budget) meets.after, sum_by-cons (λ (q : Planned). q.asked) p ps);
  all = λ e. absurd (omega (arith, e));
  met = λ less. ap (λ (s : WorkerState). s.seen.sealed) meets.after;
}

-- it draws a ticket, and goes on
pub seat-cons : (old : WorkerState) (p : Planned) (ps : List Planned) (ticket : Ticket) (then new : WorkerState) → 0 < old.calls
    → DrawsTicket old p.member p.asked then ticket → HasDrawn then ps new → HasDrawn old (p ∷ ps) new
seat-cons old p ps ticket then new some draws rest = record {
  cell = rest.cell ∙ ap (λ (s : WorkerState). s.cell) draws.after;
  given = rest.given ∙ ap (λ (s : WorkerState). s.given) draws.after;
  tickets = ticket ∷ rest.tickets;
  added =
      rest.added ∙ ap (λ (s : WorkerState). s.tickets ++ rest.tickets) draws.after ∙ append_assoc old.tickets (ticket ∷ []) rest.tickets;
  drawn = drawn-cons p ps ticket rest.tickets (draws.holder, draws.size) rest.drawn;
  after =
      All-cons (λ (t : Ticket). old.seen.asked ≤ t.start) ticket rest.tickets draws.start
      (All-weaker (λ (t : Ticket). then.seen.asked ≤ t.start) (λ (t : Ticket). old.seen.asked ≤ t.start)
      (λ t le. omega (arith, le, draws.start, ap (λ (s : WorkerState). s.seen.asked) draws.after)) rest.tickets rest.after);
  made = omega (arith, some, rest.made, calls_after, ap (λ (s : WorkerState). s.made) draws.after);
  used = omega (arith, some, rest.used, calls_after);
  calls = omega (arith, some, rest.calls, calls_after);
  budget =
      omega (arith, rest.budget, draws.size, ap (λ (s : WorkerState). s.budget) draws.after, sum_by-cons (λ (q : Planned). q.asked) p ps);
  all = λ e. rest.all (omega (arith, e)) ∙ ap (λ (s : WorkerState). s.seen.sealed) draws.after;
  met = λ less. rest.met (omega (arith, less));
}
  where
    calls_after : then.calls ≡ old.calls - 1
    calls_after = ap (λ (s : WorkerState). s.calls) draws.after

-- ---- several seats that were split off, and have drawn

-- what they have drawn together
pub record HaveDrawn (seat : WorkerState) (planned : List Planned) (parts others : List WorkerState) : Type 0 where
  pub drawn : AreDrawnOf planned (tickets_of others)
  pub after : All (λ (t : Ticket). seat.seen.asked ≤ t.start) (tickets_of others)
  pub made : made_by others + calls_of_workers others ≡ calls_of_workers parts
  pub used : length (tickets_of others) + calls_of_workers others ≤ calls_of_workers parts
  pub calls : calls_of_workers parts ≤ calls_of_workers others + length planned
  pub budget : budgets_of parts ≤ budgets_of others + asked_in_plan planned
  pub all : length (tickets_of others) ≡ length planned → (seat.seen.sealed || have_seen_seal others) ≡ seat.seen.sealed
  pub met : length (tickets_of others) < length planned → (seat.seen.sealed || have_seen_seal others) ≡ true

have-none : (seat : WorkerState) → HaveDrawn seat [] [] []
have-none seat = record {
  drawn = drawn-none [];
  after = All-nil (λ (t : Ticket). seat.seen.asked ≤ t.start);
  made = refl;
  used = omega arith;
  calls = omega arith;
  budget = omega arith;
  all = λ e. or-false seat.seen.sealed;
  met = λ less. absurd (omega (arith, less));
}

-- whether one of them has seen the seal, with one seat more
seal-push : (others : List WorkerState) (other : WorkerState) → have_seen_seal (others ++ other ∷ []) ≡ (have_seen_seal others || other.seen.sealed)
seal-push others other =
    list_any-append (λ (s : WorkerState). s.seen.sealed) others (other ∷ []) ∙ ap (λ (b : Bool). have_seen_seal others || b) (or-false other.seen.sealed)

tickets-push : (others : List WorkerState) (other : WorkerState) → tickets_of (others ++ other ∷ []) ≡ tickets_of others ++ other.tickets
tickets-push others other =
    flat_map-append (λ (s : WorkerState). s.tickets) others (other ∷ []) ∙ ap (λ (l : List Ticket). tickets_of others ++ l) (append-nil other.tickets)

-- one seat more
have-more : (seat : WorkerState) (ps qs : List Planned) (parts others : List WorkerState) (part other : WorkerState) → part ≡ split_off seat part.budget part.calls
    → HaveDrawn seat ps parts others → HasDrawn part qs other → HaveDrawn seat (ps ++ qs) (parts ++ part ∷ []) (others ++ other ∷ [])
have-more seat ps qs parts others part other split before last = record {
  drawn = subst (AreDrawnOf (ps ++ qs)) (sym all_tickets) (drawn-append ps qs (tickets_of others) last.tickets before.drawn last.drawn);
  after =
      subst (All (λ (t : Ticket). seat.seen.asked ≤ t.start)) (sym all_tickets)
      (All-append (λ (t : Ticket). seat.seen.asked ≤ t.start) (tickets_of others) last.tickets before.after
      (subst (λ (n : ℕ). All (λ (t : Ticket). n ≤ t.start) last.tickets) (ap (λ (s : WorkerState). s.seen.asked) split) last.after));
  made = omega (arith, before.made, last.made, made_none, pushed-made, pushed-calls, parts-calls);
  used = omega (arith, before.used, last.used, lengths, pushed-calls, parts-calls);
  calls = omega (arith, before.calls, last.calls, pushed-calls, parts-calls, length-append ps qs);
  budget =
      omega (
        arith,
        before.budget,
        last.budget,
        sum_by_push (λ (s : WorkerState). s.budget) others other,
        sum_by_push (λ (s : WorkerState). s.budget) parts part,
        sum_by-append (λ (p : Planned). p.asked) ps qs,
      );
  all =
      λ e.
      rw (any, before.all (omega (arith, e, lengths, most, last_most, planned)), last.all (omega (arith, e, lengths, most, last_most, planned)), seen)
      (or_self seat.seen.sealed);
  met = λ less. rw any (by (cases_lt (length (tickets_of others)) (length ps)) less);
}
  where
    no_tickets : part.tickets ≡ []
    no_tickets = ap (λ (s : WorkerState). s.tickets) split

    made_none : part.made ≡ 0
    made_none = ap (λ (s : WorkerState). s.made) split

    seen : part.seen.sealed ≡ seat.seen.sealed
    seen = ap (λ (s : WorkerState). s.seen.sealed) split

    its_tickets : other.tickets ≡ last.tickets
    its_tickets = last.added ∙ ap (λ (l : List Ticket). l ++ last.tickets) no_tickets

    all_tickets : tickets_of (others ++ other ∷ []) ≡ tickets_of others ++ last.tickets
    all_tickets = tickets-push others other ∙ ap (λ (l : List Ticket). tickets_of others ++ l) its_tickets

    lengths : length (tickets_of (others ++ other ∷ [])) ≡ length (tickets_of others) + length last.tickets
    lengths = ap length all_tickets ∙ length-append (tickets_of others) last.tickets

    planned : length (ps ++ qs) ≡ length ps + length qs
    planned = length-append ps qs

    most : length (tickets_of others) ≤ length ps
    most = drawn-most ps (tickets_of others) before.drawn

    last_most : length last.tickets ≤ length qs
    last_most = drawn-most qs last.tickets last.drawn

    pushed-made : made_by (others ++ other ∷ []) ≡ made_by others + other.made
    pushed-made = sum_by_push (λ (s : WorkerState). s.made) others other

    pushed-calls : calls_of_workers (others ++ other ∷ []) ≡ calls_of_workers others + other.calls
    pushed-calls = sum_by_push (λ (s : WorkerState). s.calls) others other

    parts-calls : calls_of_workers (parts ++ part ∷ []) ≡ calls_of_workers parts + part.calls
    parts-calls = sum_by_push (λ (s : WorkerState). s.calls) parts part

    any : (seat.seen.sealed || have_seen_seal (others ++ other ∷ [])) ≡ ((seat.seen.sealed || have_seen_seal others) || other.seen.sealed)
    any =
        ap (λ (b : Bool). seat.seen.sealed || b) (seal-push others other) ∙ sym (or_assoc seat.seen.sealed (have_seen_seal others) other.seen.sealed)

    by : (length (tickets_of others) < length ps) ⊎ (length ps ≤ length (tickets_of others)) → length (tickets_of (others ++ other ∷ [])) < length (ps ++ qs)
        → ((seat.seen.sealed || have_seen_seal others) || other.seen.sealed) ≡ true
    by (inl fewer) less = ap (λ (b : Bool). b || other.seen.sealed) (before.met fewer)
    by (inr whole) less =
        ap (λ (b : Bool). (seat.seen.sealed || have_seen_seal others) || b) (last.met (omega (arith, less, whole, lengths, last_most, planned)))
        ∙ or-true (seat.seen.sealed || have_seen_seal others)

-- as many seats as have drawn for these lists
have-each : (seat : WorkerState) (places : ℕ → List Planned) (parts others : List WorkerState) (k : ℕ) → k ≤ length parts → k ≤ length others
    → All (λ (part : WorkerState). part ≡ split_off seat part.budget part.calls) parts
    → ((i : ℕ) (d : WorkerState) → i < k → HasDrawn (get_or parts i d) (places i) (get_or others i d))
    → HaveDrawn seat (lists_of places k) (take k parts) (take k others)
have-each seat places parts others zero within within_others split draws = have-none seat
have-each seat places parts others (suc k) within within_others split draws =
    let next : suc k ≡ k + 1 = omega arith in
    let before = have-each seat places parts others k (omega arith) (omega arith) split (λ i d less. draws i d (omega arith)) in
    let more =
    have-more seat (lists_of places k) (places k) (take k parts) (take k others) (get_or parts k seat) (get_or others k seat) (split k seat (omega arith)) before
    (draws k seat (omega arith)) in
    rw (next, take_more parts k seat (omega arith), take_more others k seat (omega arith)) more

-- ---- seats that are split off

pub split-more : (old mid new part : WorkerState) (parts : List WorkerState) (budget calls : ℕ) → HasSplit old parts mid → budget ≤ mid.budget → calls ≤ mid.calls
    → new ≡ after_split mid budget calls → part ≡ split_off mid budget calls → HasSplit old (parts ++ part ∷ []) new
split-more old mid new part parts budget calls before fits lasts after is = record {
  each = All-push (λ (s : WorkerState). s ≡ split_off old s.budget s.calls) parts part before.each whole;
  budget = omega (arith, fits, before.budget, mid_budget, budgets);
  calls = omega (arith, lasts, before.calls, mid_calls, counts);
  rest =
      let left : mid.budget - budget ≡ old.budget - budgets_of (parts ++ part ∷ []) = omega (arith, mid_budget, budgets) in
      let more : mid.calls - calls ≡ old.calls - calls_of_workers (parts ++ part ∷ []) = omega (arith, mid_calls, counts) in
      let rooms : mid.room + calls ≡ old.room + calls_of_workers (parts ++ part ∷ []) = omega (arith, ap (λ (s : WorkerState). s.room) before.rest, counts) in
      after ∙ (λ i. record (before.rest i) { budget = left i; calls = more i; room = rooms i });
}
  where
    mid_budget : mid.budget ≡ old.budget - budgets_of parts
    mid_budget = ap (λ (s : WorkerState). s.budget) before.rest

    mid_calls : mid.calls ≡ old.calls - calls_of_workers parts
    mid_calls = ap (λ (s : WorkerState). s.calls) before.rest

    its_budget : part.budget ≡ budget
    its_budget = ap (λ (s : WorkerState). s.budget) is

    its_calls : part.calls ≡ calls
    its_calls = ap (λ (s : WorkerState). s.calls) is

    budgets : budgets_of (parts ++ part ∷ []) ≡ budgets_of parts + budget
    budgets = sum_by_push (λ (s : WorkerState). s.budget) parts part ∙ ap (λ (n : ℕ). budgets_of parts + n) its_budget

    counts : calls_of_workers (parts ++ part ∷ []) ≡ calls_of_workers parts + calls
    counts = sum_by_push (λ (s : WorkerState). s.calls) parts part ∙ ap (λ (n : ℕ). calls_of_workers parts + n) its_calls

    whole : part ≡ split_off old part.budget part.calls
    whole =
        is ∙ ap (λ (s : WorkerState). split_off s budget calls) before.rest ∙ (λ i. split_off old (sym its_budget i) (sym its_calls i))

-- what is left of a seat is enough for the next worker's places, where the whole was enough for the group
module _ (old rest : WorkerState) (parts : List WorkerState) (gap k : ℕ) (group : List Planned) (split : HasSplit old parts rest) (le : k ≤ gap) where
  pub left-budget : budgets_of parts ≡ asked_in_plan (dealt gap k group) → asked_in_plan group ≤ old.budget → asked_in_plan (every gap k group) ≤ rest.budget
  left-budget are enough = omega (arith, are, enough, ap (λ (s : WorkerState). s.budget) split.rest, shares-next gap k group le)

  pub left-calls : calls_of_workers parts ≡ length (dealt gap k group) → length group ≤ old.calls → length (every gap k group) ≤ rest.calls
  left-calls are enough = omega (arith, are, enough, ap (λ (s : WorkerState). s.calls) split.rest, length-next gap k group le)

-- what the parts have is what their lists come to, with one part more
pub parts-sum : (f : List Planned → ℕ) → ((ps qs : List Planned) → f (ps ++ qs) ≡ f ps + f qs) → (has : WorkerState → ℕ) (gap k : ℕ) (group : List Planned) (parts : List WorkerState) (part : WorkerState)
    → sum_by has parts ≡ f (dealt gap k group) → has part ≡ f (every gap k group) → sum_by has (parts ++ part ∷ []) ≡ f (dealt gap (k + 1) group)
parts-sum f append has gap k group parts part are is =
    let next : k + 1 ≡ suc k = omega arith in
    rw next (omega (arith, are, is, sum_by_push has parts part, append (dealt gap k group) (every gap k group)))

-- ---- seats that are joined

pub joined-more : (old mid new other : WorkerState) (others : List WorkerState) → HasJoined old others mid → Joins mid other new → HasJoined old (others ++ other ∷ []) new
joined-more old mid new other others before joins = record {
  cell = ap (λ (s : WorkerState). s.cell) joins.after ∙ before.cell;
  given = ap (λ (s : WorkerState). s.given) joins.after ∙ before.given;
  tickets =
      ap (λ (s : WorkerState). s.tickets) joins.after ∙ ap (λ (l : List Ticket). l ++ other.tickets) before.tickets
      ∙ append_assoc old.tickets (tickets_of others) other.tickets ∙ ap (λ (l : List Ticket). old.tickets ++ l) (sym (tickets-push others other));
  budget = omega (arith, ap (λ (s : WorkerState). s.budget) joins.after, before.budget, sum_by_push (λ (s : WorkerState). s.budget) others other);
  calls = omega (arith, ap (λ (s : WorkerState). s.calls) joins.after, before.calls, sum_by_push (λ (s : WorkerState). s.calls) others other);
  made = omega (arith, ap (λ (s : WorkerState). s.made) joins.after, before.made, sum_by_push (λ (s : WorkerState). s.made) others other);
  sealed =
      ap (λ (s : WorkerState). s.seen.sealed) joins.after ∙ ap (λ (b : Bool). b || other.seen.sealed) before.sealed
      ∙ or_assoc old.seen.sealed (have_seen_seal others) other.seen.sealed ∙ ap (λ (b : Bool). old.seen.sealed || b) (sym (seal-push others other));
}

-- there is room for one seat more while there is room for all
pub room-left : (seats joined : List WorkerState) (other : WorkerState) (start now : ℕ) → map (λ s. s) joined ≡ take (length joined) seats → length joined < length seats
    → other ≡ get_or seats (length joined) other → rooms_of seats ≤ start → start ≤ now + rooms_of joined → room_taken other ≤ now
room-left seats joined other start now far more is fits left =
    omega (
      arith,
      fits,
      left,
      ap rooms_of (sym (map-id joined) ∙ far),
      sum_by_more_le room_taken seats (length joined) other more,
      ap room_taken is,
    )

-- seats that have drawn are joined into the one that they were split off: it has drawn for these planned, in whatever order
pub have-joined : (seat rest new : WorkerState) (planned group : List Planned) (parts others : List WorkerState) → IsPermutation planned group → HasSplit seat parts rest
    → HaveDrawn seat planned parts others → HasJoined rest others new → HasDrawn seat group new
have-joined seat rest new planned group parts others same split have joined = record {
  cell = joined.cell ∙ ap (λ (s : WorkerState). s.cell) split.rest;
  given = joined.given ∙ ap (λ (s : WorkerState). s.given) split.rest;
  tickets = tickets_of others;
  added = joined.tickets ∙ ap (λ (s : WorkerState). s.tickets ++ tickets_of others) split.rest;
  drawn = drawn-permutation planned group (tickets_of others) same have.drawn;
  after = have.after;
  made = omega (arith, joined.made, joined.calls, have.made, split.calls, rest_calls, ap (λ (s : WorkerState). s.made) split.rest);
  used = omega (arith, joined.calls, have.used, split.calls, rest_calls);
  calls = omega (arith, joined.calls, have.calls, split.calls, rest_calls, long);
  budget =
      omega (
        arith,
        joined.budget,
        have.budget,
        split.budget,
        ap (λ (s : WorkerState). s.budget) split.rest,
        sum_by-IsPermutation (λ (p : Planned). p.asked) planned group same,
      );
  all = λ e. sealed ∙ have.all (e ∙ long);
  met = λ less. sealed ∙ have.met (omega (arith, less, long));
}
  where
    long : length group ≡ length planned
    long = length_permutation planned group same

    rest_calls : rest.calls ≡ seat.calls - calls_of_workers parts
    rest_calls = ap (λ (s : WorkerState). s.calls) split.rest

    sealed : new.seen.sealed ≡ (seat.seen.sealed || have_seen_seal others)
    sealed = joined.sealed ∙ ap (λ (s : WorkerState). s.seen.sealed || have_seen_seal others) split.rest

-- ---- a group

-- each of as many lists as there are seats
have-all : (seat rest : WorkerState) (places : ℕ → List Planned) (parts others : List WorkerState) (n : ℕ) → length parts ≡ n → length others ≡ n → HasSplit seat parts rest
    → ((i : ℕ) (d : WorkerState) → i < n → HasDrawn (get_or parts i d) (places i) (get_or others i d)) → HaveDrawn seat (lists_of places n) parts others
have-all seat rest places parts others n count others_count split draws =
    rw (← take_all n parts (omega arith), ← take_all n others (omega arith))
    (have-each seat places parts others n (omega arith) (omega arith) split.each draws)

-- seats that have each drawn for a worker's places of a group
pub have-group : (seat rest : WorkerState) (group : List Planned) (parts others : List WorkerState) → 0 < length parts → length others ≡ length parts → HasSplit seat parts rest
    → ((i : ℕ) (d : WorkerState) → i < length parts → HasDrawn (get_or parts i d) (places_of (length parts) i group) (get_or others i d))
    → HaveDrawn seat (dealt (length parts - 1) (suc (length parts - 1)) group) parts others
have-group seat rest group parts others some count split draws =
    let is : length parts ≡ suc (length parts - 1) = omega arith in
    have-all seat rest (λ i. places_of (length parts) i group) parts others (suc (length parts - 1)) is (count ∙ is) split (λ i d less. draws i d (omega (arith, less, is)))

-- seats that have not drawn
pub have-nothing : (seat rest : WorkerState) (parts : List WorkerState) → HasSplit seat parts rest → HaveDrawn seat [] parts parts
have-nothing seat rest parts split =
    subst (λ (l : List Planned). HaveDrawn seat l parts parts) (nothing (length parts))
    (have-all seat rest (λ i. []) parts parts (length parts) refl refl split (λ i d less. seat-none (get_or parts i d)))
  where
    nothing : (k : ℕ) → lists_of (λ i. []) k ≡ []
    nothing zero = refl
    nothing (suc k) = append-nil (lists_of (λ i. []) k) ∙ nothing k

-- there is room for the seats that have drawn
pub room_for : (seat rest : WorkerState) (planned : List Planned) (parts others : List WorkerState) → HasSplit seat parts rest → HaveDrawn seat planned parts others
    → rooms_of others ≤ rest.room
room_for seat rest planned parts others split have = omega (arith, rooms others, have.used, ap (λ (s : WorkerState). s.room) split.rest)
  where
    rooms : (seats : List WorkerState) → rooms_of seats ≡ calls_of_workers seats + length (tickets_of seats)
    rooms [] = refl
    rooms (s ∷ seats) =
        omega (
          arith,
          rooms seats,
          sum_by-cons room_taken s seats,
          sum_by-cons (λ (t : WorkerState). t.calls) s seats,
          length-append s.tickets (tickets_of seats),
        )
