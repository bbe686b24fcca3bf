-- The tickets of a pool as those of a record, and back.
use Rattle.std.proofs.Common.{◌≡◌, ◌≤◌, ◌+◌, ℕ, cond, List, [], ◌∷◌, length, map, take, refl, ap, arith}
use Rattle.std.specs.Prelude.{◌==◌, All, count_by}
use Rattle.std.proofs.lemmas.List.{take_all}
use Rattle.std.proofs.lemmas.List.Elements.{All-weaker}
use Rattle.std.proofs.lemmas.List.Folds.{fold-map}
use Rattle.cns_ids.proofs.ListLemmas.{pigeonhole}
use Rattle.cns_pool.specs.declared.ticket.Ticket.{Ticket}
use Rattle.cns_records.specs.Drawn.{IsTicketInRange}
use Rattle.cns_records.specs.declared.drawn.Drawn.{Drawn}
use Rattle.cns_clearing.specs.Answers.{recorded_ticket}
use Rattle.cns_clearing.specs.Books.{pool_tickets}
use Rattle.cns_clearing.specs.Closing.{AreApart}

-- the tickets of a record are those that were drawn
pub tickets_drawn : (tickets : List Ticket) → pool_tickets (map recorded_ticket tickets) ≡ tickets
tickets_drawn [] = refl
tickets_drawn (t ∷ tickets) = ap (λ ts. t ∷ ts) (tickets_drawn tickets)

-- a member has as many of both
drawn_times : (member : ℕ) (ts : List Ticket) → count_by (λ (d : Drawn). d.member == member) (map recorded_ticket ts) ≡ count_by (λ (t : Ticket). t.member == member) ts
drawn_times member ts = fold-map (λ (n : ℕ) (d : Drawn). n + cond (d.member == member) 1 0) recorded_ticket 0 ts

-- tickets of different members are not too many
pub drawn_few : (ts : List Ticket) (ds : List Drawn) (i : ℕ) → length ts ≤ i → ds ≡ map recorded_ticket (take i ts) → All IsTicketInRange ds → AreApart ts → length ds ≤ 9999
drawn_few ts ds i all same ranges apart =
    let once : (member : ℕ) → count_by (λ (d : Drawn). d.member == member) ds ≤ 1 = λ member. rw (same, take_all i ts all) (omega (arith, apart member, drawn_times member ts)) in
    pigeonhole (λ (d : Drawn). d.member) 9999 ds (All-weaker IsTicketInRange (λ (d : Drawn). (1 ≤ d.member) × (d.member ≤ 9999)) (λ d is. (is.member.from, is.member.to)) ds ranges) once
