-- What the deliveries of tickets are of, one by one and together.
use Rattle.std.proofs.Common.{◌≡◌, ◌≤◌, ◌+◌, ℕ, suc, min, cond, List, [], ◌∷◌, length, Bool, true, false, not, Option, None, Some, ap, refl, arith, ◌∙◌}
use Rattle.std.specs.Prelude.{◌==◌, All, IfSome, count_by, filter, sum_by, if◌then◌else◌}
use Rattle.std.specs.List.{cons_option}
use Rattle.std.proofs.lemmas.Bool.{cond_both, eqb-true}
use Rattle.std.proofs.lemmas.List.Sums.{sum_by-cons}
use Rattle.cns_ids.proofs.ListLemmas.{All-filter_map, count_by-filter_map}
use Rattle.cns_pool.specs.declared.ticket.Ticket.{Ticket}
use Rattle.cns_pool.specs.Tiles.{AreChained, Tiles}
use Rattle.cns_pool.specs.Pool.{asked_sum, intervals_of}
use Rattle.cns_pool.proofs.TileLemmas.{AreChained-Tiles}
use Rattle.cns_movements.specs.Order.{ask_for}
use Rattle.cns_movements.specs.declared.order.Ask.{Ask}
use Rattle.cns_movements.specs.declared.order.MoveKind.TheVariants.{Delivery}
use Rattle.cns_allocate.specs.Deliveries.{deliveries_of}
use Rattle.cns_allocate.specs.Grants.{grant_of}
use Rattle.cns_allocate.proofs.GrantLemmas.{sum_by-grant_of}

-- the delivery of a ticket, where it is granted a share
abbrev pub delivery_ask : ℕ → ℕ → Ticket → Option Ask
delivery_ask issue poured t = ask_for Delivery t.member issue (grant_of poured t)

-- the delivery of a ticket that is granted a share
abbrev granted_ask : ℕ → ℕ → Ticket → Ask
granted_ask issue poured t = record { kind = Delivery; member = t.member; issue = issue; asked = grant_of poured t }

-- a ticket's delivery is of its grant
delivery_ask-sum : (issue poured : ℕ) (t : Ticket) (asks : List Ask)
    → sum_by (λ (a : Ask). a.asked) (cons_option (delivery_ask issue poured t) asks) ≡ grant_of poured t + sum_by (λ (a : Ask). a.asked) asks
delivery_ask-sum issue poured t asks = by (grant_of poured t == 0) refl
  where
    by : (b : Bool) → (grant_of poured t == 0) ≡ b
        → sum_by (λ (a : Ask). a.asked) (cons_option (if b then None else Some (granted_ask issue poured t)) asks) ≡ grant_of poured t + sum_by (λ (a : Ask). a.asked) asks
    by true e = let none = eqb-true (grant_of poured t) 0 e in omega (arith, none)
    by false e = sum_by-cons (λ (a : Ask). a.asked) (granted_ask issue poured t) asks

-- so deliveries are of the grants
deliveries-grants : (issue poured : ℕ) (ts : List Ticket) → sum_by (λ (a : Ask). a.asked) (deliveries_of issue poured ts) ≡ sum_by (grant_of poured) ts
deliveries-grants issue poured [] = refl
deliveries-grants issue poured (t ∷ ts) =
    omega (arith, delivery_ask-sum issue poured t (deliveries_of issue poured ts), sum_by-cons (grant_of poured) t ts, deliveries-grants issue poured ts)

-- those of tickets that tile are of all that was poured, up to all that was asked
pub deliveries-tiles : (issue poured : ℕ) (ts : List Ticket) → Tiles (intervals_of ts)
    → sum_by (λ (a : Ask). a.asked) (deliveries_of issue poured ts) ≡ min poured (asked_sum ts)
deliveries-tiles issue poured ts tiles = deliveries-grants issue poured ts ∙ sum_by-grant_of poured ts tiles

-- the same of tickets that stand end to end from 0
pub deliveries_sum : (issue poured : ℕ) (tickets : List Ticket) → AreChained 0 (intervals_of tickets)
    → sum_by (λ (a : Ask). a.asked) (deliveries_of issue poured tickets) ≡ min poured (asked_sum tickets)
deliveries_sum issue poured tickets chained = deliveries-tiles issue poured tickets (AreChained-Tiles (intervals_of tickets) chained)

-- a delivery of an issue that is of no more shares than its member's limit
abbrev pub IsDeliveryWithin : ℕ → (ℕ → ℕ) → Ask → Type 0
IsDeliveryWithin issue limit a = (a.kind ≡ Delivery) × (a.issue ≡ issue) × (a.asked ≤ limit a.member)

-- what holds of the delivery of a ticket's grant
delivery_ask-holds : (P : Ask → Type 0) (issue poured : ℕ) (t : Ticket) → P (granted_ask issue poured t) → IfSome (delivery_ask issue poured t) P
delivery_ask-holds P issue poured t holds = cond_both (grant_of poured t == 0) None (Some _) (λ o. IfSome o P) (λ e. tt) (λ e. holds)

-- each is of the issue, and within what limits the member's tickets
pub deliveries_within : (issue poured : ℕ) (tickets : List Ticket) (limit : ℕ → ℕ) → All (λ (t : Ticket). t.asked ≤ limit t.member) tickets
    → All (λ (a : Ask). (a.kind ≡ Delivery) × (a.issue ≡ issue) × (a.asked ≤ limit a.member)) (deliveries_of issue poured tickets)
deliveries_within issue poured tickets limit most =
    All-filter_map (delivery_ask issue poured) (λ (t : Ticket). t.asked ≤ limit t.member) (IsDeliveryWithin issue limit)
    (λ t le. delivery_ask-holds (IsDeliveryWithin issue limit) issue poured t (refl, refl, omega (arith, le))) tickets most

-- where each member has at most one ticket, it has at most one delivery
pub deliveries_once : (issue poured : ℕ) (tickets : List Ticket) → ((member : ℕ) → count_by (λ (t : Ticket). t.member == member) tickets ≤ 1)
    → (member : ℕ) → count_by (λ (a : Ask). a.member == member) (deliveries_of issue poured tickets) ≤ 1
deliveries_once issue poured tickets once member =
    omega (
      arith,
      count_by-filter_map (delivery_ask issue poured) (λ (t : Ticket). t.member == member) (λ (a : Ask). a.member == member)
          (λ t. delivery_ask-holds (λ (a : Ask). (a.member == member) ≡ true → (t.member == member) ≡ true) issue poured t (λ e. e)) tickets,
      once member,
    )

-- there is one for each ticket that is granted a share
pub deliveries_counted : (issue poured : ℕ) (tickets : List Ticket)
    → length (filter (λ (t : Ticket). not (grant_of poured t == 0)) tickets) ≡ length (deliveries_of issue poured tickets)
deliveries_counted issue poured [] = refl
deliveries_counted issue poured (t ∷ ts) = by (grant_of poured t == 0) (deliveries_counted issue poured ts)
  where
    granted : List Ticket
    granted = filter (λ (u : Ticket). not (grant_of poured u == 0)) ts

    by : (b : Bool) → length granted ≡ length (deliveries_of issue poured ts)
        → length (cond (not b) (t ∷ granted) granted) ≡ length (cons_option (if b then None else Some (granted_ask issue poured t)) (deliveries_of issue poured ts))
    by true rest = rest
    by false rest = ap suc rest
