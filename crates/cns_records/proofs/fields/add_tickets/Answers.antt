use Rattle.std.proofs.Common.{◌≡◌, ℕ, List, [], ◌∷◌, ◌+◌, ◌++◌, ◌<◌, get_or, length, take, ap, ◌∙◌}
use Rattle.std.proofs.lemmas.List.{append_assoc, append-nil, take_more}
use Rattle.std.proofs.lemmas.List.Concat.{flat_map-append}
use Rattle.std.specs.List.{flat_map}
use Rattle.cns_records.specs.Drawn.{ticket_bytes}
use Rattle.cns_records.specs.declared.drawn.Drawn.{Drawn}
use Rattle.cns_records.proofs.fields.add_tickets.Goals as goal

one_more : (tickets : List Drawn) (i : ℕ) (t : Drawn) → i < length tickets → t ≡ get_or tickets i t
    → flat_map ticket_bytes (take (i + 1) tickets) ≡ flat_map ticket_bytes (take i tickets) ++ ticket_bytes t
one_more tickets i t lt is =
    ap (flat_map ticket_bytes) (take_more tickets i t lt) ∙ flat_map-append ticket_bytes (take i tickets) (get_or tickets i t ∷ [])
    ∙ rw (← is) (ap (λ l. flat_map ticket_bytes (take i tickets) ++ l) (append-nil (ticket_bytes t)))

added : (s front one all old new : List ℕ) → old ≡ s ++ front → new ≡ old ++ one → all ≡ front ++ one → new ≡ s ++ all
added s front one all old new e0 e1 is = rw (e1, e0, is) (append_assoc s front one)

pub loop-ticket-preserved : goal.loop-ticket-preserved
loop-ticket-preserved c =
    added c.args.bytes.now.items (flat_map ticket_bytes (take c.loop-ticket.ticket-index c.args.tickets.now)) (ticket_bytes c.ticket-item.result)
    _ c.loop-ticket.bytes.items _ c.loop-ticket.invariant c.in_ok-add_ticket.ensures
    (one_more c.args.tickets.now c.loop-ticket.ticket-index c.ticket-item.result c.loop-ticket-test.true c.ticket-item.is)
