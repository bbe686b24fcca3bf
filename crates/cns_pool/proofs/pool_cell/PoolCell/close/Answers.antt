use Rattle.std.proofs.Common.{◌≡◌, List, arith, sym, ap, ◌∙◌, subst}
use Rattle.cns_pool.specs.declared.ticket.Ticket.{Ticket}
use Rattle.cns_pool.specs.Tiles.{Tiles}
use Rattle.cns_pool.specs.Pool.{asked_sum, intervals_of}
use Rattle.cns_pool.specs.Replies.{AreDrawn}
use Rattle.cns_pool.specs.WorkerSeat.{WorkerState, calls_out}
use Rattle.cns_pool.specs.FeederSeat.{FeederState}
use Rattle.cns_pool.specs.CellWords.{Token}
use Rattle.cns_pool.specs.SeatData.{worker_of}
use Rattle.cns_pool.proofs.SplitLemmas.{feeder_joins}
use Rattle.cns_pool.proofs.ReplyLemmas.{Tiles-AreDrawn}
use Rattle.cns_pool.proofs.SeatLemmas.{EndWithin-HaveShares, ended_asked, ended_tiles, ended_poured, ended_sealed}
use Rattle.cns_pool.proofs.pool_cell.PoolCell.close.Goals as goal

pub join_seat-requires : goal.join_seat-requires
join_seat-requires c = (
  ap (λ (w : WorkerState). w.cell) c.worker.view_is ∙ c.requires.worker ∙ sym c.self.view_is,
  ap (λ (f : FeederState). f.cell) c.feeder.view_is ∙ c.requires.feeder ∙ sym c.self.view_is,
  ap (λ (t : Token). t.1) c.feeder.invariant.view,
  omega (arith, c.self.invariant.0),
  feeder_joins _ _ _ _ (ap (λ (t : Token). t.0.feeds) c.feeder.invariant.view),
)

-- the tickets that are given are the worker's
tickets_are : (c : goal.After-from_vec) → c.from_vec.result ≡ c.worker.inside.tickets.items
tickets_are c = c.from_vec.ensures

back : (c : goal.After-from_vec) → calls_out (worker_of c.worker.inside) ≡ 0
back c = ap calls_out c.worker.view_is ∙ c.requires.back

pub returns-clause-tiles : goal.returns-clause-tiles
returns-clause-tiles c =
    subst (λ (l : List Ticket). Tiles (intervals_of l)) (sym (tickets_are c)) (ended_tiles c.worker.inside.token.me c.feeder.inside.token.me c.join_seat.new.seat.me _ _ _ c.worker.invariant c.feeder.invariant c.join_seat.ensures.2 _ _ _ c.close_with.ensures.values.2 (back c))

pub returns-clause-drawn : goal.returns-clause-drawn
returns-clause-drawn c =
    subst AreDrawn (sym (tickets_are c)) (Tiles-AreDrawn c.worker.inside.tickets.items (EndWithin-HaveShares _ _ c.worker.invariant.ends)
    (ended_tiles c.worker.inside.token.me c.feeder.inside.token.me c.join_seat.new.seat.me _ _ _ c.worker.invariant c.feeder.invariant c.join_seat.ensures.2 _ _ _ c.close_with.ensures.values.2 (back c)))

pub returns-clause-seen : goal.returns-clause-seen
returns-clause-seen c =
    omega (
      arith,
      ap (λ (w : WorkerState). w.seen.poured) c.worker.view_is,
      ap (λ (f : FeederState). f.seen.poured) c.feeder.view_is,
      ended_poured c.worker.inside.token.me c.feeder.inside.token.me c.join_seat.new.seat.me _ _ _ c.worker.invariant c.feeder.invariant c.join_seat.ensures.2 _ _ _ c.close_with.ensures.values.2 (back c),
    )

pub returns-clause-seen_asked : goal.returns-clause-seen_asked
returns-clause-seen_asked c unsealed =
    omega (
      arith,
      ap (λ (w : WorkerState). w.seen.asked) c.worker.view_is,
      ap (λ (f : FeederState). f.seen.asked) c.feeder.view_is,
      ap asked_sum (tickets_are c),
      ended_asked c.worker.inside.token.me c.feeder.inside.token.me c.join_seat.new.seat.me _ _ _ c.worker.invariant c.feeder.invariant c.join_seat.ensures.2 _ _ _ c.close_with.ensures.values.2 (back c) unsealed,
    )

pub returns-clause-seal_seen : goal.returns-clause-seal_seen
returns-clause-seal_seen c saw =
    ended_sealed c.worker.inside.token.me c.feeder.inside.token.me c.join_seat.new.seat.me _ _ _ c.worker.invariant c.feeder.invariant c.join_seat.ensures.2 _ _ _ c.close_with.ensures.values.2 (back c)
    (ap (λ (w : WorkerState). w.seen.sealed) c.worker.view_is ∙ saw)
