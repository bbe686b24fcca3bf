use Rattle.std.proofs.Common.{◌≡◌, arith, sym, ap, ◌∙◌}
use Rattle.cns_pool.specs.FeederSeat.{FeederState}
use Rattle.cns_pool.specs.CellWords.{Token}
use Rattle.cns_pool.proofs.StepLemmas.{pours}
use Rattle.cns_pool.proofs.pool_cell.PoolCell.pour.Goals as goal

pub fetch_add-requires : goal.fetch_add-requires
fetch_add-requires c =
    let room : c.seat.inside.token.me.0.pour_room ≡ c.args.seat.now.pour_room = ap (λ (t : Token). t.0.pour_room) c.seat.invariant.view ∙ ap (λ (f : FeederState). f.pour_room) c.seat.view_is in
    (ap (λ (f : FeederState). f.cell) c.seat.view_is ∙ c.requires.cell ∙ sym c.self.view_is, omega (arith, c.self.invariant.0), pours _ _ _ _ (ap (λ (t : Token). t.0.feeds) c.seat.invariant.view) (omega (arith, room, c.requires.room)))
