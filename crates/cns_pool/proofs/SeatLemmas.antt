-- The data of a seat agree with its view again after each step.
use Rattle.std.proofs.Common.{◌≡◌, ℕ, ◌+◌, ◌-◌, ◌<◌, ◌≤◌, Bool, true, false, List, [], ◌∷◌, ◌++◌, length, max, sym, refl, ap, ◌∙◌, subst, arith, length-append, append-nil}
use Rattle.std.specs.Prelude.{◌||◌, cond}
use Rattle.std.proofs.lemmas.List.{map-append}
use Rattle.atomic_table.specs.Table.{Final, Seen as SeenBy}
use Rattle.cns_pool.specs.declared.ticket.Ticket.{Ticket}
use Rattle.cns_pool.specs.declared.pool.Asked.{Asked}
use Rattle.cns_pool.specs.declared.pool.TheConstants.{MAX_POOL}
use Rattle.cns_pool.specs.declared.view.View.{View}
use Rattle.cns_pool.specs.Tiles.{Tiles, size_sum}
use Rattle.cns_pool.specs.Pool.{asked_sum, interval_of, intervals_of, HaveShares}
use Rattle.cns_pool.specs.Seen.{both_seen}
use Rattle.cns_pool.specs.WorkerSeat.{WorkerState, calls_out, EndWithin, after_ticket, after_sealed, DrawsTicket, MeetsSeal, room_taken, after_join, Joins, ShowsAsked}
use Rattle.cns_pool.specs.FeederSeat.{FeederState}
use Rattle.cns_pool.specs.CellLaw.{calls_of}
use Rattle.cns_pool.specs.CellWords.{Token, KeepsCell, word_of, FindsAsked, FindsPoured, view_after_reserve, view_after_ticket, view_after_sealed, view_after_join, last_view, view_told}
use Rattle.cns_pool.specs.SeatData.{worker_view, feeder_view, IsWorker, IsFed}
use Rattle.cns_pool.proofs.PoolLemmas.{size_sum-intervals_of}
use Rattle.cns_pool.proofs.SplitLemmas.{Ended, closes}

-- tickets that end within a number end within a larger one
pub EndWithin-le : (m n : ℕ) (tickets : List Ticket) → m ≤ n → EndWithin m tickets → EndWithin n tickets
EndWithin-le m n [] le ends = tt
EndWithin-le m n (t ∷ tickets) le ends = let end = ends.1 in (ends.0, omega arith, EndWithin-le m n tickets le ends.2)

pub EndWithin-append : (n : ℕ) (tickets more : List Ticket) → EndWithin n tickets → EndWithin n more → EndWithin n (tickets ++ more)
EndWithin-append n [] more ends also = also
EndWithin-append n (t ∷ tickets) more ends also = (ends.0, ends.1, EndWithin-append n tickets more ends.2 also)

pub EndWithin-HaveShares : (n : ℕ) (tickets : List Ticket) → EndWithin n tickets → HaveShares tickets
EndWithin-HaveShares n [] ends = tt
EndWithin-HaveShares n (t ∷ tickets) ends = (ends.0, EndWithin-HaveShares n tickets ends.2)

-- the numbers of a seat
abbrev numbers : WorkerState → ℕ × ℕ × ℕ × ℕ × ℕ
numbers worker = (worker.budget, worker.calls, worker.made, worker.given, worker.room)

-- equal states, part by part
pub same_state : (new same : WorkerState) → new.cell ≡ same.cell → new.tickets ≡ same.tickets → numbers new ≡ numbers same → new.seen ≡ same.seen → new ≡ same
same_state new same cells lists counts sights = λ i. record {
  cell = cells i;
  tickets = lists i;
  budget = (counts i).0;
  calls = (counts i).1;
  made = (counts i).2;
  given = (counts i).3;
  room = (counts i).4;
  seen = sights i;
}

-- a seal that was seen is found
unsealed : (seen found : Bool) → (seen ≡ true → found ≡ true) → found ≡ false → seen ≡ false
unsealed true found finds open_ = sym (finds refl) ∙ open_
unsealed false found finds open_ = refl

-- the calls of a seat are all, where no call is out
all_calls : (worker : WorkerState) → worker.made + worker.calls ≤ worker.given → calls_out worker ≡ 0 → (worker_view worker).given ≡ calls_of (worker_view worker)
all_calls worker counts back = omega arith

-- a reserve; `asked` is what the word that it found holds
module _ (before after : Token) (worker : WorkerState) (capacity found shares : ℕ) (is : IsWorker before worker capacity) (finds : FindsAsked before.0 found) (step : after ≡ (view_after_reserve before.0 shares finds.asked, before.1))
    (asked : Asked) (reads : (held : Asked) → found ≡ word_of held → held.sum ≤ MAX_POOL → asked ≡ held) (call : 0 < worker.calls) where
  told : (finds : FindsAsked (worker_view worker) found) × (asked ≡ finds.asked) × (after ≡ (view_after_reserve (worker_view worker) shares finds.asked, []))
  told = subst (λ (t : Token). (finds : FindsAsked t.0 found) × (asked ≡ finds.asked) × (after ≡ (view_after_reserve t.0 shares finds.asked, t.1))) is.view
      (finds, reads finds.asked finds.word (let limit = finds.budget in omega arith), step)

  step_view : after ≡ (view_after_reserve (worker_view worker) shares asked, [])
  step_view = told.2 ∙ (λ i. (view_after_reserve (worker_view worker) shares (sym told.1 i), []))

  least : worker.seen.asked ≤ asked.sum
  least = let seen = told.0.least in omega (arith, ap (λ (a : Asked). a.sum) told.1)

  module _ (sealed : asked.sealed ≡ true) where
    -- the view after the seal was met
    sealed_view : after ≡ (worker_view (after_sealed worker shares (asked.sum + shares)), [])
    sealed_view = step_view ∙ (λ i. (cond (sealed i) (view_after_sealed (worker_view worker) shares asked.sum) (view_after_ticket (worker_view worker) shares asked.sum), []))

    is_sealed : (new : WorkerState) → new.cell ≡ worker.cell → new.tickets ≡ worker.tickets → numbers new ≡ numbers (after_sealed worker shares (asked.sum + shares)) → new.seen ≡ after.0.seen
        → new ≡ after_sealed worker shares (asked.sum + shares)
    is_sealed new cells lists counts sights = same_state new (after_sealed worker shares (asked.sum + shares)) cells lists counts (sights ∙ ap (λ (t : Token). t.0.seen) sealed_view)

    -- the seat after it met the seal
    pub IsWorker_sealed : (new : WorkerState) → new.cell ≡ worker.cell → new.tickets ≡ worker.tickets → numbers new ≡ numbers (after_sealed worker shares (asked.sum + shares)) → new.seen ≡ after.0.seen
        → IsWorker after new capacity
    IsWorker_sealed new cells lists counts sights = subst (λ w. IsWorker after w capacity) (sym (is_sealed new cells lists counts sights)) (record {
      view = sealed_view;
      counts = let within = is.counts in omega arith;
      fits = let fits = is.fits in omega arith;
      ends = EndWithin-le worker.seen.asked _ worker.tickets (omega (arith, least)) is.ends;
    })

    -- and what the reserve was
    pub MeetsSeal_told : (old new : WorkerState) → worker ≡ old → new.cell ≡ worker.cell → new.tickets ≡ worker.tickets → numbers new ≡ numbers (after_sealed worker shares (asked.sum + shares)) → new.seen ≡ after.0.seen
        → MeetsSeal old shares new
    MeetsSeal_told old new same cells lists counts sights = subst (λ w. MeetsSeal w shares new) same (record {
      asked = asked.sum + shares;
      least = omega (arith, least);
      after = is_sealed new cells lists counts sights;
    })

  module _ (open_ : asked.sealed ≡ false) (ticket : Ticket) (starts : ticket.start ≡ asked.sum) (size : ticket.asked ≡ shares) where
    -- the view after the ticket was drawn
    ticket_view : after ≡ (worker_view (after_ticket worker ticket), [])
    ticket_view = step_view
        ∙ (λ i. (cond (open_ i) (view_after_sealed (worker_view worker) shares asked.sum) (view_after_ticket (worker_view worker) shares asked.sum), []))
        ∙ (λ i. (view_after_ticket (worker_view worker) (sym size i) (sym starts i), []))
        ∙ (λ i. (record (worker_view (after_ticket worker ticket)) { intervals = sym (map-append interval_of worker.tickets (ticket ∷ [])) i }, []))

    is_drawn : (new : WorkerState) → new.cell ≡ worker.cell → new.tickets ≡ worker.tickets ++ ticket ∷ [] → numbers new ≡ numbers (after_ticket worker ticket) → new.seen ≡ after.0.seen
        → new ≡ after_ticket worker ticket
    is_drawn new cells lists counts sights = same_state new (after_ticket worker ticket) cells lists counts (sights ∙ ap (λ (t : Token). t.0.seen) ticket_view)

    ends_before : EndWithin ticket.start worker.tickets
    ends_before = EndWithin-le worker.seen.asked ticket.start worker.tickets (omega (arith, least)) is.ends

    -- the seat after it drew the ticket
    pub IsWorker_drawn : (new : WorkerState) (more : ℕ) → 1 ≤ ticket.asked → capacity ≤ more
        → new.cell ≡ worker.cell → new.tickets ≡ worker.tickets ++ ticket ∷ [] → numbers new ≡ numbers (after_ticket worker ticket) → new.seen ≡ after.0.seen
        → IsWorker after new more
    IsWorker_drawn new more some larger cells lists counts sights = subst (λ w. IsWorker after w more) (sym (is_drawn new cells lists counts sights)) (record {
      view = ticket_view;
      counts = let within = is.counts in omega arith;
      fits = let fits = is.fits in omega (arith, length-append worker.tickets (ticket ∷ []));
      ends = EndWithin-append _ worker.tickets (ticket ∷ []) (EndWithin-le ticket.start _ worker.tickets (omega arith) ends_before) (some, omega arith, tt);
    })

    -- and what the reserve was
    pub DrawsTicket_told : (old new : WorkerState) (member : ℕ) → worker ≡ old → ticket.member ≡ member
        → new.cell ≡ worker.cell → new.tickets ≡ worker.tickets ++ ticket ∷ [] → numbers new ≡ numbers (after_ticket worker ticket) → new.seen ≡ after.0.seen
        → DrawsTicket old member shares new ticket
    DrawsTicket_told old new member same holder cells lists counts sights = subst (λ w. DrawsTicket w member shares new ticket) same (record {
      holder = holder;
      size = size;
      start = omega (arith, least);
      ends = ends_before;
      alone = λ back. starts ∙ ap (λ (a : Asked). a.sum) told.1 ∙ told.0.exact refl (all_calls worker is.counts back) (ap (λ (a : Asked). a.sealed) (sym told.1) ∙ open_) ∙ size_sum-intervals_of worker.tickets;
      unsealed = unsealed worker.seen.sealed asked.sealed (λ saw. ap (λ (a : Asked). a.sealed) told.1 ∙ told.0.sealed saw) open_;
      after = is_drawn new cells lists counts sights;
    })

-- a look at the asked shares
module _ (before after : Token) (worker : WorkerState) (capacity found : ℕ) (is : IsWorker before worker capacity) (finds : FindsAsked before.0 found)
    (step : after ≡ (record before.0 { seen = record before.0.seen { asked = finds.asked.sum; sealed = finds.asked.sealed } }, before.1))
    (asked : Asked) (reads : (held : Asked) → found ≡ word_of held → held.sum ≤ MAX_POOL → asked ≡ held) where
  looked : (finds : FindsAsked (worker_view worker) found) × (asked ≡ finds.asked) × (after ≡ (record (worker_view worker) { seen = record worker.seen { asked = finds.asked.sum; sealed = finds.asked.sealed } }, []))
  looked = subst (λ (t : Token). (finds : FindsAsked t.0 found) × (asked ≡ finds.asked) × (after ≡ (record t.0 { seen = record t.0.seen { asked = finds.asked.sum; sealed = finds.asked.sealed } }, t.1))) is.view
      (finds, reads finds.asked finds.word (let limit = finds.budget in omega arith), step)

  looked_view : after ≡ (worker_view (record worker { seen = record worker.seen { asked = asked.sum; sealed = asked.sealed } }), [])
  looked_view = looked.2 ∙ (λ i. (worker_view (record worker { seen = record worker.seen { asked = (sym looked.1 i).sum; sealed = (sym looked.1 i).sealed } }), []))

  looked_ends : EndWithin asked.sum worker.tickets
  looked_ends = let least = looked.0.least in EndWithin-le worker.seen.asked asked.sum worker.tickets (omega (arith, ap (λ (a : Asked). a.sum) looked.1)) is.ends

  pub IsWorker_looked : (new : WorkerState) → new.cell ≡ worker.cell → new.tickets ≡ worker.tickets → numbers new ≡ numbers worker → new.seen ≡ after.0.seen → IsWorker after new capacity
  IsWorker_looked new cells lists counts sights = subst (λ w. IsWorker after w capacity)
      (sym (same_state new (record worker { seen = record worker.seen { asked = asked.sum; sealed = asked.sealed } }) cells lists counts (sights ∙ ap (λ (t : Token). t.0.seen) looked_view))) (record {
        view = looked_view;
        counts = is.counts;
        fits = is.fits;
        ends = looked_ends;
      })

  pub ShowsAsked_told : (old : WorkerState) → worker ≡ old → ShowsAsked old asked
  ShowsAsked_told old same = subst (λ w. ShowsAsked w asked) same (record {
    ends = looked_ends;
    exact = λ back open_. ap (λ (a : Asked). a.sum) looked.1 ∙ looked.0.exact refl (all_calls worker is.counts back) (ap (λ (a : Asked). a.sealed) (sym looked.1) ∙ open_) ∙ size_sum-intervals_of worker.tickets;
    least = λ back. let least = looked.0.all refl (all_calls worker is.counts back) in omega (arith, size_sum-intervals_of worker.tickets, ap (λ (a : Asked). a.sum) looked.1);
  })

-- a join, and the look after it
module _ (before other_token between after : Token) (worker other : WorkerState) (capacity other_capacity found : ℕ) (is : IsWorker before worker capacity) (also : IsWorker other_token other other_capacity)
    (joined : between ≡ (view_after_join before.0 other_token.0, before.1)) (finds : FindsPoured between.0 found) (step : after ≡ (record between.0 { seen = record between.0.seen { poured = found } }, between.1)) where
  both_told : FindsPoured (view_after_join (worker_view worker) (worker_view other)) found × (after ≡ (record (view_after_join (worker_view worker) (worker_view other)) { seen = record (both_seen worker.seen other.seen) { poured = found } }, []))
  both_told = subst (λ (t : Token). FindsPoured t.0 found × (after ≡ (record t.0 { seen = record t.0.seen { poured = found } }, t.1))) (joined ∙ (λ i. (view_after_join (is.view i).0 (also.view i).0, (is.view i).1))) (finds, step)

  join_view : after ≡ (worker_view (after_join worker other found), [])
  join_view = both_told.1 ∙ (λ i. (record (worker_view (after_join worker other found)) { intervals = sym (map-append interval_of worker.tickets other.tickets) i }, []))

  joined_ends : EndWithin (max worker.seen.asked other.seen.asked) (worker.tickets ++ other.tickets)
  joined_ends = EndWithin-append _ worker.tickets other.tickets (EndWithin-le worker.seen.asked _ worker.tickets (omega arith) is.ends) (EndWithin-le other.seen.asked _ other.tickets (omega arith) also.ends)

  module _ (new : WorkerState) (cells : new.cell ≡ worker.cell) (lists : new.tickets ≡ worker.tickets ++ other.tickets) (counts : numbers new ≡ numbers (after_join worker other found)) (sights : new.seen ≡ after.0.seen) where
    is_joined : new ≡ after_join worker other found
    is_joined = same_state new (after_join worker other found) cells lists counts (sights ∙ ap (λ (t : Token). t.0.seen) join_view)

    pub IsWorker_joined : (more : ℕ) → length worker.tickets + length other.tickets + (worker.calls + other.calls + (worker.room - room_taken other)) ≤ more → IsWorker after new more
    IsWorker_joined more fits = subst (λ w. IsWorker after w more) (sym is_joined) (record {
      view = join_view;
      counts = let within = both_told.0.calls refl in omega arith;
      fits = omega (arith, length-append worker.tickets other.tickets);
      ends = joined_ends;
    })

    pub Joins_told : (old given_other : WorkerState) → worker ≡ old → other ≡ given_other → Joins old given_other new
    Joins_told old given_other same same_other = subst (λ w. Joins w given_other new) same (subst (λ w. Joins worker w new) same_other (record {
      poured = found;
      least = let least = both_told.0.least in omega arith;
      other_least = let least = both_told.0.least in omega arith;
      after = is_joined;
      ends = subst (λ w. EndWithin w.seen.asked w.tickets) (sym is_joined) joined_ends;
    }))

-- a seat that was told what another one has seen
pub IsWorker_told : (before after : Token) (worker new : WorkerState) (capacity : ℕ) (note : View) → IsWorker before worker capacity → after ≡ (view_told before.0 note, before.1)
    → new.cell ≡ worker.cell → new.tickets ≡ worker.tickets → numbers new ≡ numbers worker → new.seen ≡ after.0.seen → IsWorker after new capacity
IsWorker_told before after worker new capacity note is told cells lists counts sights =
    let view : after ≡ (worker_view (record worker { seen = both_seen worker.seen note.seen }), []) = told ∙ (λ i. (view_told (is.view i).0 note, (is.view i).1)) in
    subst (λ w. IsWorker after w capacity) (sym (same_state new (record worker { seen = both_seen worker.seen note.seen }) cells lists counts (sights ∙ ap (λ (t : Token). t.0.seen) view))) (record {
      view = view;
      counts = is.counts;
      fits = is.fits;
      ends = EndWithin-le worker.seen.asked _ worker.tickets (omega arith) is.ends;
    })

-- the end of a cell, with its last two seats
module _ (before feeding last : Token) (worker : WorkerState) (feeder : FeederState) (capacity : ℕ) (is : IsWorker before worker capacity) (fed : IsFed feeding feeder)
    (joined : last ≡ (last_view before.0 feeding.0, before.1)) (words : List ℕ) (values : List (Unit {0})) (id : ℕ) (final : Final (SeenBy KeepsCell id last.0) words values) (back : calls_out worker ≡ 0) where
  pub ended : Ended (last_view (worker_view worker) (feeder_view feeder))
  ended = closes words values id (last_view (worker_view worker) (feeder_view feeder))
      (subst (λ (t : Token). Final (SeenBy KeepsCell id t.0) words values) (joined ∙ (λ i. (last_view (is.view i).0 (fed.view i).0, (is.view i).1))) final)
      refl refl (let counts = is.counts in omega arith)

  pub ended_tiles : Tiles (intervals_of worker.tickets)
  ended_tiles = subst Tiles (append-nil (intervals_of worker.tickets)) ended.tiles

  pub ended_poured : max feeder.seen.poured worker.seen.poured ≤ feeder.poured
  ended_poured = let most = ended.poured in omega arith

  pub ended_asked : feeder.sealed ≡ false → max feeder.seen.asked worker.seen.asked ≤ asked_sum worker.tickets
  ended_asked unsealed = omega (arith, ended.asked unsealed, ap size_sum (append-nil (intervals_of worker.tickets)), size_sum-intervals_of worker.tickets)

  pub ended_sealed : worker.seen.sealed ≡ true → feeder.sealed ≡ true
  ended_sealed saw = ended.sealed (ap (λ b. b || feeder.seen.sealed) saw)
