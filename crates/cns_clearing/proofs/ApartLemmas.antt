-- Tickets that are tested one after another for a member that was seen before.
use Rattle.std.proofs.Common.{◌≡◌, ℕ, ◌+◌, ◌<◌, Bool, true, false, List, [], ◌∷◌, length, drop, get_or, slice_set, refl, sym, ap, ◌∙◌, arith}
use Rattle.std.specs.Prelude.{◌==◌, ◌&&◌, ◌||◌, not}
use Rattle.std.specs.List.{list_all}
use Rattle.std.proofs.lemmas.List.Sums.{list_all-from_AllPass}
use Rattle.cns_ids.proofs.ListLemmas.{drop_read, get_or-set}
use Rattle.cns_pool.specs.declared.ticket.Ticket.{Ticket}
use Rattle.cns_allocate.specs.Served.{has_ticket}
use Rattle.cns_clearing.specs.Closing.{is_apart}

-- whether the tickets are of members that were not seen, and different ones
abbrev pub is_apart_from : (ℕ → Bool) → List Ticket → Bool
is_apart_from seen ts = list_all (λ (t : Ticket). not (seen t.member)) ts && is_apart ts

-- none was seen
pub apart_from_none : (seen : ℕ → Bool) → ((member : ℕ) → seen member ≡ false) → (ts : List Ticket) → is_apart_from seen ts ≡ is_apart ts
apart_from_none seen none ts = rw (list_all-from_AllPass (λ (t : Ticket). not (seen t.member)) ts (λ k t below. ap not (none (get_or ts k t).member))) refl

-- the first one was not, and is from now on
all_later : (seen new : ℕ → Bool) (member : ℕ) → ((m : ℕ) → new m ≡ ((m == member) || seen m)) → (ts : List Ticket)
    → list_all (λ (t : Ticket). not (new t.member)) ts ≡ (not (has_ticket ts member) && list_all (λ (t : Ticket). not (seen t.member)) ts)
all_later seen new member more [] = refl
all_later seen new member more (t ∷ ts) = grind (arith, more t.member, all_later seen new member more ts)

-- so the tickets after it are told apart as all are
pub apart_from_next : (seen new : ℕ → Bool) (t : Ticket) (ts : List Ticket) → seen t.member ≡ false → ((m : ℕ) → new m ≡ ((m == t.member) || seen m))
    → is_apart_from new ts ≡ is_apart_from seen (t ∷ ts)
apart_from_next seen new t ts e more = grind (arith, all_later seen new t.member more ts)

-- one more ticket was tested, whose member was not seen before
pub apart_step : (tickets : List Ticket) (i : ℕ) (t : Ticket) (table : List Bool) (member : ℕ) → i < length tickets → t ≡ get_or tickets i t → member ≡ t.member → member < length table
    → get_or table member false ≡ false → is_apart_from (λ m. get_or table m false) (drop i tickets) ≡ is_apart tickets
    → is_apart_from (λ m. get_or (slice_set table member true) m false) (drop (i + 1) tickets) ≡ is_apart tickets
apart_step tickets i t table member in_list here is within fresh before =
    let seen : ℕ → Bool = λ m. get_or table m false in
    let new : ℕ → Bool = λ m. get_or (slice_set table member true) m false in
    let rest : List Ticket = drop (i + 1) tickets in
    let list : drop i tickets ≡ t ∷ rest = drop_read tickets i t in_list here in
    let fresh_one : seen t.member ≡ false = ap seen (sym is) ∙ fresh in
    let more : (m : ℕ) → new m ≡ ((m == t.member) || seen m) = λ m. grind (arith, is, get_or-set table member true false m within) in
    apart_from_next seen new t rest fresh_one more ∙ ap (is_apart_from seen) (sym list) ∙ before
