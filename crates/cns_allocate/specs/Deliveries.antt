-- The deliveries that tickets are granted (this project's own rule).
use Rattle.std.specs.Prelude.{ℕ, List}
use Rattle.std.specs.List.{filter_map}
use Rattle.cns_pool.specs.declared.ticket.Ticket.{Ticket}
use Rattle.cns_movements.specs.Order.{ask_for}
use Rattle.cns_movements.specs.declared.order.Ask.{Ask}
use Rattle.cns_movements.specs.declared.order.MoveKind.TheVariants.{Delivery}
use Rattle.cns_allocate.specs.Grants.{grant_of}

-- the deliveries of tickets, in their order: what each is granted of the shares poured, where that is not 0
abbrev pub deliveries_of : ℕ → ℕ → List Ticket → List Ask
deliveries_of issue poured tickets = filter_map (λ t. ask_for Delivery t.member issue (grant_of poured t)) tickets
