-- Tickets that serve the plan of a lot close it: their allocation may follow the records, and a record can hold it.
use Rattle.std.proofs.Common.{◌≡◌, ℕ, ◌+◌, ◌≤◌, Bool, false, List, [], ◌∷◌, length, arith, length-append, ◌∙◌, ap, sym}
use Rattle.std.specs.Prelude.{All, sum_by}
use Rattle.std.proofs.lemmas.List.Elements.{All-cons, All-head, All-nil, All-tail}
use Rattle.std.proofs.lemmas.List.Sums.{sum_by-cons}
use Rattle.cns_pool.specs.declared.ticket.Ticket.{Ticket}
use Rattle.cns_pool.specs.Pool.{asked_sum, intervals_of}
use Rattle.cns_pool.specs.Tiles.{AreChained}
use Rattle.cns_allocate.specs.Deliveries.{deliveries_of}
use Rattle.cns_movements.specs.declared.order.Ask.{Ask}
use Rattle.cns_allocate.specs.Served.{IsServed}
use Rattle.cns_allocate.specs.declared.planned.Planned.{Planned}
use Rattle.cns_allocate.proofs.ServedLemmas.{served_once, served_shares, served_sum, served_within}
use Rattle.cns_allocate.proofs.TotalLemmas.{plan_of-total}
use Rattle.cns_covers.specs.Bounds.{want_in}
use Rattle.cns_covers.proofs.BoundLemmas.{settled_most}
use Rattle.cns_records.specs.Clear.{AreWritable}
use Rattle.cns_records.specs.declared.allocation.Allocation.{Allocation}
use Rattle.cns_records.specs.declared.clear_record.ClearRecord.{ClearRecord}
use Rattle.cns_clearing.specs.Answers.{MayClose, closing_allocation, deliveries_by}
use Rattle.cns_clearing.specs.Books.{Books, IsAllocable, IsLawful, are_spent, books_of, deliveries_in, history_of, order_book_of, pool_tickets}
use Rattle.cns_clearing.specs.Closing.{AreRecordable, IsRecordable}
use Rattle.cns_clearing.specs.Lots.{IsAllocation, IsLot, longs_among}
use Rattle.cns_clearing.specs.Node.{ClearNode}
use Rattle.cns_clearing.specs.declared.lot.Lot.{Lot}
use Rattle.cns_clearing.proofs.BooksLemmas.{lawful_sound}
use Rattle.cns_clearing.proofs.DrawnLemmas.{tickets_drawn}
use Rattle.cns_clearing.proofs.LotLemmas.{found_issue}
use Rattle.cns_clearing.proofs.PlanLemmas.{lot_lawful, lot_plan, lot_pours, lot_wants, lot_writable}

-- tickets that serve the plan of a lot close it
pub allocation_lawful : (c : List ClearRecord) (lot : Lot) (tickets : List Ticket) (sealed : Bool) → IsLot c lot → IsServed lot.plan tickets sealed
    → IsAllocation c (closing_allocation lot tickets sealed)
allocation_lawful c lot tickets sealed is served = record { plan = lot.plan; lot = is; served = rw tickets_drawn served }

-- tickets that stand end to end, and ask for at most 10^18 shares together, can each be recorded
each_recordable : (n : ℕ) (tickets : List Ticket) → AreChained n (intervals_of tickets) → n + asked_sum tickets ≤ 1000000000000000000
    → All (λ (t : Ticket). (1 ≤ t.asked) × (t.asked ≤ 1000000000000000000)) tickets → All IsRecordable tickets
each_recordable n [] chained small shares = All-nil IsRecordable
each_recordable n (t ∷ tickets) chained small shares =
    let here = All-head (λ (u : Ticket). (1 ≤ u.asked) × (u.asked ≤ 1000000000000000000)) t tickets shares in
    let sum = sum_by-cons (λ (u : Ticket). u.asked) t tickets in
    let starts : t.start ≡ n = chained.0 in
    All-cons IsRecordable t tickets (record { start = omega (arith, starts, small, sum); from = here.0; to = here.1 })
    (each_recordable (n + t.asked) tickets chained.1 (omega (arith, small, sum)) (All-tail (λ (u : Ticket). (1 ≤ u.asked) × (u.asked ≤ 1000000000000000000)) t tickets shares))

module _ (c : List ClearRecord) (a : Allocation) (lawful : IsLawful c) (fits : AreWritable c) (closes : IsAllocation c a) where
  -- the allocation that closes a lot may follow, where there are numbers for its deliveries
  pub allocable : are_spent (order_book_of c) (length (deliveries_in a)) ≡ false → IsAllocable (books_of c) a
  allocable enough = record {
    order = omega (arith, closes.lot.opened, closes.lot.upto, length-append closes.lot.middle closes.lot.before);
    chained = closes.served.chained;
    once = served_once closes.plan (pool_tickets a.drawn) a.sealed (lot_plan c _ lawful fits closes.lot) closes.served;
    within = served_within closes.plan (pool_tickets a.drawn) a.sealed closes.served (λ m. want_in (history_of c) (order_book_of c) m a.issue) (lot_wants c _ lawful closes.lot);
    there = lot_pours c _ lawful closes.lot;
    numbers = enough;
  }

  -- its tickets ask for at most 10^18 shares together
  pub asked_small : asked_sum (pool_tickets a.drawn) ≤ 1000000000000000000
  asked_small =
      let b : Books = books_of closes.lot.before in
      let sound = lawful_sound closes.lot.before (lot_lawful c _ lawful closes.lot) (lot_writable c _ fits closes.lot) in
      let total = plan_of-total a.issue b.history b.orders b.priorities (longs_among a.issue b.previous) sound.netted (settled_most b.history b.orders sound.bounded) in
      let planned : sum_by (λ (p : Planned). p.asked) closes.plan ≤ 1000000000000000000 = rw closes.lot.plan total in
      omega (arith, served_sum closes.plan (pool_tickets a.drawn) a.sealed closes.served, planned)

  -- and a record can hold them
  pub recordable : AreRecordable (pool_tickets a.drawn)
  recordable =
      let plan = lot_plan c _ lawful fits closes.lot in
      record {
        each = each_recordable 0 (pool_tickets a.drawn) closes.served.chained (omega (arith, asked_small)) (served_shares closes.plan (pool_tickets a.drawn) a.sealed plan closes.served);
        once = served_once closes.plan (pool_tickets a.drawn) a.sealed plan closes.served;
      }

-- ---- its deliveries

-- the deliveries of the tickets are those of the allocation
pub close_asks : (node : ClearNode) (issue : ℕ) (tickets : List Ticket) (sealed : Bool) (lot : Lot) (poured : ℕ) (asks : List Ask) → MayClose node issue tickets sealed lot
    → poured ≡ lot.poured → asks ≡ deliveries_of issue poured tickets → asks ≡ deliveries_by lot tickets sealed
close_asks node issue tickets sealed lot poured asks closes count is = rw (tickets_drawn tickets, found_issue node.lots issue lot closes.found, ← count) is

-- whether the numbers suffice for them, of the records
pub close_spent : (c : List ClearRecord) (b : Books) (lot : Lot) (tickets : List Ticket) (sealed : Bool) (poured count : ℕ) (spent v : Bool) → b ≡ books_of c → poured ≡ lot.poured
    → ((issue : ℕ) → count ≡ length (deliveries_of issue poured tickets)) → spent ≡ are_spent b.orders count → spent ≡ v
    → are_spent (order_book_of c) (length (deliveries_by lot tickets sealed)) ≡ v
close_spent c b lot tickets sealed poured count spent v same is counted read e =
    rw (tickets_drawn tickets, ← is, ← counted lot.issue) (ap (λ (x : Books). are_spent x.orders count) (sym same) ∙ sym read ∙ e)
