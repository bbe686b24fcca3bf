use Rattle.std.proofs.Common.{arith, sym, ap, ◌∙◌}
use Rattle.cns_pool.specs.WorkerSeat.{WorkerState}
use Rattle.cns_pool.specs.FeederSeat.{FeederState}
use Rattle.cns_pool.proofs.SplitLemmas.{note_splits, told}
use Rattle.cns_pool.proofs.pool_cell.PoolCell.tell_feeder.Goals as goal

pub split_seat-note-requires : goal.split_seat-note-requires
split_seat-note-requires c = (ap (λ (w : WorkerState). w.cell) c.worker.view_is ∙ c.requires.worker ∙ sym c.self.view_is, omega (arith, c.self.invariant.0), note_splits _ _)

pub join_seat-requires : goal.join_seat-requires
join_seat-requires c =
    told _ _ _ _ _ _ c.worker.inside.token.me.0 _ (ap (λ (f : FeederState). f.cell) c.feeder.view_is ∙ c.requires.feeder ∙ sym c.self.view_is) (c.split_seat-note.ensures.3 ∙ ap (λ (w : WorkerState). w.cell) c.worker.view_is ∙ c.requires.worker ∙ sym c.self.view_is) c.self.invariant.0 c.split_seat-note.ensures.4
