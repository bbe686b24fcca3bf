use Rattle.std.proofs.Common.{◌≡◌, ◌+◌, ◌-◌, List, ◌++◌, length, arith, refl, sym, ap, ◌∙◌}
use Rattle.cns_pool.specs.declared.ticket.Ticket.{Ticket}
use Rattle.cns_pool.specs.WorkerSeat.{WorkerState}
use Rattle.cns_pool.proofs.SplitLemmas.{worker_joins}
use Rattle.cns_pool.proofs.StepLemmas.{looks_poured}
use Rattle.cns_pool.proofs.SeatLemmas.{IsWorker_joined, Joins_told}
use Rattle.cns_pool.proofs.pool_cell.PoolCell.join.Goals as goal

pub join_seat-requires : goal.join_seat-requires
join_seat-requires c = (
  ap (λ (w : WorkerState). w.cell) c.seat.view_is ∙ c.requires.cell ∙ sym c.self.view_is,
  ap (λ (w : WorkerState). w.cell) c.other.view_is ∙ c.requires.other_cell ∙ sym c.self.view_is,
  ap (λ t. t.1) c.other.invariant.view,
  omega (arith, c.self.invariant.0),
  worker_joins _ _ _ _,
)

pub load-seat-inside-requires : goal.load-seat-inside-requires
load-seat-inside-requires c = (
  c.join_seat.ensures.0 ∙ ap (λ (w : WorkerState). w.cell) c.seat.view_is ∙ c.requires.cell ∙ sym c.self.view_is,
  omega (arith, c.self.invariant.0),
  looks_poured _ _ _,
)

lists : (c : goal.After-drop-tickets) → c.append.new.self.items ≡ c.seat.inside.tickets.items ++ c.other.inside.tickets.items
lists c = c.in-Ok-append.ensures.items ∙ ap (λ (l : List Ticket). l ++ c.other.inside.tickets.items) c.in-Ok.ensures.same

pub invariant_of-seat-2 : goal.invariant_of-seat-2
invariant_of-seat-2 c =
    let told = c.load-seat-inside.ensures.2 in
    let room : c.saturating_sub-seat-inside.result ≡ c.seat.inside.room - (c.other.inside.calls + length c.other.inside.tickets.items) = omega (arith, c.saturating_sub-seat-inside.ensures, c.len.ensures) in
    IsWorker_joined c.seat.inside.token.me c.other.inside.token.me c.join_seat.new.seat.me c.load-seat-inside.new.seat.me _ _ _ _ c.load-seat-inside.result c.seat.invariant c.other.invariant c.join_seat.ensures.2 told.0 told.1
    _ (c.load-seat-inside.ensures.0 ∙ c.join_seat.ensures.0) (lists c) (λ i. (c.seat.inside.budget + c.other.inside.budget, c.seat.inside.calls + c.other.inside.calls, c.seat.inside.made + c.other.inside.made, c.seat.inside.given, room i)) refl
    _ (omega (arith, room, c.in-Ok-append.ensures.len, c.in-Ok-append.ensures.capacity, c.in-Ok.ensures.len, c.in-Ok.ensures.more, c.in-Ok.ensures.ok, c.len.ensures, c.seat.invariant.fits))

pub returns-clause-ok : goal.returns-clause-ok
returns-clause-ok c =
    let told = c.load-seat-inside.ensures.2 in
    let room : c.saturating_sub-seat-inside.result ≡ c.seat.inside.room - (c.other.inside.calls + length c.other.inside.tickets.items) = omega (arith, c.saturating_sub-seat-inside.ensures, c.len.ensures) in
    Joins_told c.seat.inside.token.me c.other.inside.token.me c.join_seat.new.seat.me c.load-seat-inside.new.seat.me _ _ _ _ c.load-seat-inside.result c.seat.invariant c.other.invariant c.join_seat.ensures.2 told.0 told.1
    _ (c.load-seat-inside.ensures.0 ∙ c.join_seat.ensures.0) (lists c) (λ i. (c.seat.inside.budget + c.other.inside.budget, c.seat.inside.calls + c.other.inside.calls, c.seat.inside.made + c.other.inside.made, c.seat.inside.given, room i)) refl
    _ _ c.seat.view_is c.other.view_is
