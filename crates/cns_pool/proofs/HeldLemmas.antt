-- A cell that one thread uses stays a lawful pool.
use Rattle.std.proofs.Common.{◌≡◌, ℕ, ◌+◌, ◌-◌, ◌<◌, ◌≤◌, sym, refl, subst, arith}
use Rattle.cns_pool.specs.declared.ticket.Ticket.{Ticket}
use Rattle.cns_pool.specs.declared.ticket.Reserved.{Reserved}
use Rattle.cns_pool.specs.declared.ticket.Reserved.TheVariants.{Ticket as Drawn, Sealed}
use Rattle.cns_pool.specs.Pool.{asked_sum}
use Rattle.cns_pool.specs.Seen.{Seen}
use Rattle.cns_pool.specs.WorkerSeat.{TableId, WorkerState, after_ticket, after_sealed, Reserves}
use Rattle.cns_pool.specs.FeederSeat.{FeederState, feeder_seeing}
use Rattle.cns_pool.specs.Held.{IsHeld, pool_of}
use Rattle.cns_pool.proofs.PoolLemmas.{IsPool_drawn}

module _ (cell : TableId) (worker : WorkerState) (feeder : FeederState) (held : IsHeld cell worker feeder) (call : 0 < worker.calls) where
  -- one call was made of those that are left
  back_again : worker.given - (worker.made + 1 + (worker.calls - 1)) ≡ 0
  back_again = let back = held.back in omega arith

  held_drawn : (ticket : Ticket) → ticket.start ≡ asked_sum worker.tickets → 1 ≤ ticket.asked → ticket.asked ≤ worker.budget → IsHeld cell (after_ticket worker ticket) feeder
  held_drawn ticket starts some within = record {
    worker_cell = held.worker_cell;
    feeder_cell = held.feeder_cell;
    back = back_again;
    told = held.told;
    lawful = IsPool_drawn (pool_of worker feeder) ticket held.lawful starts some within;
  }

  held_sealed : (shares asked : ℕ) → IsHeld cell (after_sealed worker shares asked) feeder
  held_sealed shares asked = let lawful = held.lawful in record {
    worker_cell = held.worker_cell;
    feeder_cell = held.feeder_cell;
    back = back_again;
    told = λ _. refl;
    lawful = record { chained = lawful.chained; shares = lawful.shares; asked = let most = lawful.asked in omega arith; poured = lawful.poured };
  }

  held_reserved : (member shares : ℕ) → 1 ≤ shares → shares ≤ worker.budget → (new : WorkerState) (answer : Reserved) → Reserves worker member shares new answer → IsHeld cell new feeder
  held_reserved member shares some within new (Drawn ticket) draws =
      let size = draws.size in
      subst (λ w. IsHeld cell w feeder) (sym draws.after) (held_drawn ticket (draws.alone held.back) (omega arith) (omega arith))
  held_reserved member shares some within new Sealed meets = subst (λ w. IsHeld cell w feeder) (sym meets.after) (held_sealed shares meets.asked)

  -- a reserve, after which the feeder has seen something
  pub IsHeld_reserved : (member shares : ℕ) → 1 ≤ shares → shares ≤ worker.budget → (new same : WorkerState) (answer : Reserved) (after : FeederState) (seen : Seen) → Reserves worker member shares new answer
      → same ≡ new → after ≡ feeder_seeing feeder seen → IsHeld cell same after
  IsHeld_reserved member shares some within new same answer after seen reserves is_same is_after =
      let is = held_reserved member shares some within new answer reserves in
      subst (λ w. IsHeld cell w after) (sym is_same) (subst (λ f. IsHeld cell new f) (sym is_after) (record {
        worker_cell = is.worker_cell;
        feeder_cell = is.feeder_cell;
        back = is.back;
        told = is.told;
        lawful = let lawful = is.lawful in record {
          chained = lawful.chained;
          shares = lawful.shares;
          asked = lawful.asked;
          poured = lawful.poured;
        };
      }))
