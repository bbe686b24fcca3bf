-- What tickets are granted (this project's own rule).
use Rattle.std.specs.Prelude.{ℕ, ◌-◌, min}
use Rattle.cns_pool.specs.declared.ticket.Ticket.{Ticket}

-- how many shares of a ticket lie below those poured
abbrev pub grant_of : ℕ → Ticket → ℕ
grant_of poured ticket = min ticket.asked (poured - ticket.start)
