use Rattle.std.proofs.Common.{◌≡◌, ℕ, ◌≤◌, List, Ok, sym}
use Rattle.std.specs.Prelude.{IsOk}
use Rattle.std.specs.Int.{w32}
use Rattle.std.proofs.lemmas.Bool.{le-leb}
use Rattle.cns_records.specs.Fields.{number_at}
use Rattle.cns_records.specs.Drawn.{tickets_at, tickets_read, drawn_of}
use Rattle.cns_records.specs.declared.drawn.Drawn.{Drawn}
use Rattle.cns_records.proofs.DrawnLaws.{tickets_there, tickets_all}
use Rattle.cns_records.proofs.fields.Fields.into_drawn.Goals as goal

pub take_tickets-requires-clause-there : goal.take_tickets-requires-clause-there
take_tickets-requires-clause-there c = tickets_there c.in_ok-count.field-0 c.take_u32.new.self (sym c.if-not-are_tickets.ensures)

given : (bytes rest next : List ℕ) (n : ℕ) (ts : List Drawn) → number_at w32 bytes ≡ Ok (n, rest) → n ≤ 9999 → IsOk (tickets_read n rest) → tickets_at n rest ≡ Ok (ts, next)
    → drawn_of bytes ≡ Ok ts
unfolding drawn_of
given bytes rest next n ts count le there tickets = rw (count, le-leb n 9999 le) (tickets_all n rest (ts, next) there tickets)

pub returns : goal.returns
returns c =
    rw c.new.ensures
    (given c.args.self c.take_u32.new.self c.take_tickets.new.self c.in_ok-count.field-0 c.in_ok-tickets.tickets.items
    c.in_ok-count.ensures c.if-count-gt-MAX_DRAWN.false (sym c.if-not-are_tickets.ensures) c.in_ok-tickets.ensures.reads)
