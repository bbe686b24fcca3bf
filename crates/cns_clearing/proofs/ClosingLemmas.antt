-- Tickets that are tested one after another.
use Rattle.std.proofs.Common.{◌≡◌, ◌+◌, ℕ, true, false, List, [], ◌∷◌, length, Decides, refl, sym, ◌∙◌, arith}
use Rattle.std.specs.Prelude.{◌==◌, not, cond, count_by}
use Rattle.std.proofs.lemmas.Bool.{and_parts, not-true}
use Rattle.std.proofs.lemmas.Bool.Decides.{Decides-and, Decides-eqb, nat_tests}
use Rattle.std.proofs.lemmas.List.Sums.{sum_by-cons}
use Rattle.cns_ids.proofs.ListLemmas.{count-none, count-some}
use Rattle.cns_pool.specs.Pool.{intervals_of}
use Rattle.cns_pool.specs.Tiles.{AreChained}
use Rattle.cns_pool.specs.declared.ticket.Ticket.{Ticket}
use Rattle.cns_allocate.specs.Deliveries.{deliveries_of}
use Rattle.cns_allocate.specs.Served.{has_ticket}
use Rattle.cns_movements.specs.declared.order.Ask.{Ask}
use Rattle.cns_records.specs.declared.allocation.Allocation.{Allocation}
use Rattle.cns_clearing.specs.Books.{Books, IsAllocable, are_spent, deliveries_in, pool_tickets}
use Rattle.cns_clearing.specs.Closing.{AreApart, MayFollow, is_apart, is_chained}

-- tickets that are found to stand end to end do, and all that do are found
chained : (n : ℕ) (ts : List Ticket) → Decides (is_chained n ts) (AreChained n (intervals_of ts))
chained n [] = (λ e. tt, λ h. refl)
chained n (t ∷ ts) = Decides-and (t.start == n) (is_chained (n + t.asked) ts) (Decides-eqb t.start n) (chained (n + t.asked) ts)

-- how many of the tickets a member has
abbrev times : ℕ → List Ticket → ℕ
times member ts = count_by (λ (t : Ticket). t.member == member) ts

-- it has one more of them with each ticket of its own
times-cons : (member : ℕ) (t : Ticket) (ts : List Ticket) → times member (t ∷ ts) ≡ cond (t.member == member) 1 0 + times member ts
times-cons member t ts = sum_by-cons (λ (u : Ticket). cond (u.member == member) 1 0) t ts

-- members that are found to be different are
apart_found : (ts : List Ticket) → is_apart ts ≡ true → AreApart ts
apart_found [] e member = omega arith
apart_found (t ∷ ts) e member =
    let both = and_parts (not (has_ticket ts t.member)) (is_apart ts) e in
    let none = count-none (λ (u : Ticket). u.member == t.member) ts (not-true (has_ticket ts t.member) both.0) in
    let rest = apart_found ts both.1 member in
    grind (arith, nat_tests, none, rest, times-cons member t ts)

-- and all that are different are found
apart_all : (ts : List Ticket) → AreApart ts → is_apart ts ≡ true
apart_all [] h = refl
apart_all (t ∷ ts) h =
    let rest = apart_all ts (λ member. omega (arith, h member, times-cons member t ts)) in
    grind (arith, nat_tests, rest, count-some (λ (u : Ticket). u.member == t.member) ts, h t.member, times-cons t.member t ts)

-- what an allocation that may follow shows to its tests
pub allocable_parts : (b : Books) (a : Allocation) (ts : List Ticket) → ts ≡ pool_tickets a.drawn → IsAllocable b a → MayFollow b a ts
allocable_parts b a ts same h =
    rw same (h.order, (chained 0 (pool_tickets a.drawn)).1 h.chained, apart_all (pool_tickets a.drawn) h.once, h.within, h.there)

-- one for whose deliveries there are no numbers may not follow
pub spent_allocable : (b : Books) (a : Allocation) (asks : List Ask) → asks ≡ deliveries_in a → are_spent b.orders (length asks) ≡ true → IsAllocable b a → ⊥
spent_allocable b a asks same spent h = let no : true ≡ false = sym (rw same at spent) ∙ h.numbers in absurd cc

-- what passes its tests may follow
pub follows_allocable : (b : Books) (a : Allocation) (ts : List Ticket) (asks : List Ask) → ts ≡ pool_tickets a.drawn → asks ≡ deliveries_in a → MayFollow b a ts
    → are_spent b.orders (length asks) ≡ false → IsAllocable b a
follows_allocable b a ts asks same same_asks follows spent =
    let h = rw same at follows in
    record {
      order = h.0;
      chained = (chained 0 (pool_tickets a.drawn)).0 h.1;
      once = apart_found (pool_tickets a.drawn) h.2;
      within = h.3;
      there = h.4;
      numbers = rw same_asks at spent;
    }

-- the deliveries of the tickets and shares of an allocation
pub asks_same : (a : Allocation) (ts : List Ticket) (poured : ℕ) → ts ≡ pool_tickets a.drawn → poured ≡ a.poured → deliveries_of a.issue poured ts ≡ deliveries_in a
asks_same a ts poured same is = rw (same, is) refl
