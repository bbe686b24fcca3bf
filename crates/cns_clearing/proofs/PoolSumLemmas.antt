-- What the orders of each issue come to, as orders are issued and confirmed.
use Rattle.std.proofs.Common.{◌≡◌, ℕ, ◌+◌, ◌*◌, ◌^◌, ◌≤◌, Bool, true, false, List, [], ◌∷◌, length, length-append, Some, unwrap_or, refl, sym, ap, ◌∙◌, arith}
use Rattle.std.specs.Prelude.{◌==◌, ◌&&◌, ◌||◌, Option, None, is_some, sum_by, if◌then◌else◌}
use Rattle.std.proofs.Math.Path.{fun_ext}
use Rattle.std.proofs.lemmas.Bool.{eq-eqb}
use Rattle.std.proofs.lemmas.Option.{same_Some}
use Rattle.std.proofs.lemmas.List.Sums.{sum_by-append}
use Rattle.cns_ids.specs.declared.cycle.CycleId.{CycleId}
use Rattle.cns_movements.specs.Book.{IsOrderBook, Orders, with_asks, with_reply}
use Rattle.cns_movements.specs.Order.{is_cover, is_delivery, moved_part, open_part, order_of}
use Rattle.cns_movements.specs.declared.order.Ask.{Ask}
use Rattle.cns_movements.specs.declared.order.Order.{Order}
use Rattle.cns_movements.specs.declared.order.Reply.{Reply}
use Rattle.cns_movements.proofs.ConfirmLemmas.{IsTaken}
use Rattle.cns_movements.proofs.OpenLemmas.{numbered_asked}
use Rattle.cns_movements.proofs.OrderLemmas.{length-numbered, sum_le_found}
use Rattle.cns_movements.proofs.ReplyLemmas.{moved_with_reply, open_with_reply, parts_le_asked}
use Rattle.cns_clearing.specs.Pools.{asked_of_pool, covered_of, delivered_of, out_of}
use Rattle.cns_clearing.specs.PoolSums.{ArePools, AreSumsOf, asks_for, sums_at}
use Rattle.cns_clearing.specs.declared.pool_sums.PoolSums.{PoolSums}
use Rattle.cns_movements.proofs.BookLemmas.{with_asks_lawful, with_reply_lawful}
use Rattle.cns_ids.proofs.ListLemmas.{PutsAt, at_most, put_holds}
use Rattle.cns_clearing.specs.Books.{are_spent, books_of}
use Rattle.cns_clearing.proofs.BooksLemmas.{lawful_bounded, numbers_suffice}
use Rattle.cns_clearing.proofs.IssueLemmas.{named_ordered, order_named}
use Rattle.cns_clearing.proofs.PoolLemmas.{covered_ordered, delivered_ordered, out_ordered}

-- ---- as they are

-- of no orders there are none
pub pools_none : (pools : ℕ → Option PoolSums) (book : Orders) → book ≡ record { orders = []; replies = [] } → ((i : ℕ) → pools i ≡ None) → ArePools pools book
unfolding books_of covered_of delivered_of out_of
pools_none pools book none are = rw (none, fun_ext are) (record {
  sums = record { lawful = (lawful_bounded [] tt).ordered; covered = λ i. refl; delivered = λ i. refl; out = λ i. refl; asked = omega arith };
  named = λ i. refl;
})

-- they are kept with the book
pub pools_kept : (old new : ℕ → Option PoolSums) (book now : Orders) → ArePools old book → ((i : ℕ) → new i ≡ old i) → now ≡ book → ArePools new now
pools_kept old new book now are same is = rw (is, fun_ext same) are

-- ---- put anew at one issue

-- what is found for an issue, all 0 where it has none
pub sums_found : (found : Option PoolSums) (now : PoolSums) (entry : Option PoolSums) → now ≡ unwrap_or entry (record { covered = 0; delivered = 0; out = 0 }) → entry ≡ found → now ≡ sums_at found
sums_found None now entry value same = rw same at value
sums_found (Some sums) now entry value same = rw same at value

-- a part of the sums grows at that issue alone, where it is one that grows, and what is put has so much more of it
pub put_adds : (part : PoolSums → ℕ) (grows : Bool) (n issue : ℕ) (w : PoolSums) (old new : ℕ → Option PoolSums) → PutsAt issue w old new
    → part w ≡ part (sums_at (old issue)) + (if grows then n else 0) → (i : ℕ) → part (sums_at (new i)) ≡ part (sums_at (old i)) + (if grows && (issue == i) then n else 0)
put_adds part grows n issue w old new puts more =
    put_holds (λ b was now. part (sums_at now) ≡ part (sums_at was) + (if grows && b then n else 0)) issue w old new puts (grind arith) (λ o. grind arith)

-- and falls, where what is put has so much less
pub put_takes : (part : PoolSums → ℕ) (falls : Bool) (n issue : ℕ) (w : PoolSums) (old new : ℕ → Option PoolSums) → PutsAt issue w old new
    → part w + (if falls then n else 0) ≡ part (sums_at (old issue)) → (i : ℕ) → part (sums_at (new i)) + (if falls && (issue == i) then n else 0) ≡ part (sums_at (old i))
put_takes part falls n issue w old new puts less =
    put_holds (λ b was now. part (sums_at now) + (if falls && b then n else 0) ≡ part (sums_at was)) issue w old new puts (grind arith) (λ o. grind arith)

-- and stays, where what is put has as much of it
pub put_same : (part : PoolSums → ℕ) (issue : ℕ) (w : PoolSums) (old new : ℕ → Option PoolSums) → PutsAt issue w old new → part w ≡ part (sums_at (old issue))
    → (i : ℕ) → part (sums_at (new i)) ≡ part (sums_at (old i))
put_same part issue w old new puts same = put_holds (λ b was now. part (sums_at now) ≡ part (sums_at was)) issue w old new puts same (λ o. refl)

-- and the issue has sums from then on
pub put_named : (issue : ℕ) (w : PoolSums) (old new : ℕ → Option PoolSums) → PutsAt issue w old new → (i : ℕ) → is_some (new i) ≡ ((issue == i) || is_some (old i))
put_named issue w old new puts = put_holds (λ b was now. is_some now ≡ (b || is_some was)) issue w old new puts refl (λ o. refl)

-- ---- with more orders

-- an ask at the head of others
pub ask_first : (a : Ask) (asks : List Ask) (issue : ℕ) → asked_of_pool issue (a ∷ asks) ≡ (if a.issue == issue then (if is_delivery a.kind then a.asked else 0) else 0) + asked_of_pool issue asks
unfolding asked_of_pool
ask_first a asks issue = grind arith

-- an issue that an ask names is named by more
pub ask_named : (a s r some : Bool) → some ≡ (a || s) → (some || r) ≡ (s || (a || r))
ask_named a s r some e = grind arith

-- sums that grew by what the asks ask for are those with their orders
pub pools_ordered : (old new : ℕ → Option PoolSums) (book : Orders) (cycle : Option CycleId) (asks : List Ask) → ArePools old book → are_spent book (length asks) ≡ false
    → ((i : ℕ) → (sums_at (new i)).covered ≡ (sums_at (old i)).covered) → ((i : ℕ) → (sums_at (new i)).delivered ≡ (sums_at (old i)).delivered)
    → ((i : ℕ) → (sums_at (new i)).out ≡ (sums_at (old i)).out + asked_of_pool i asks) → ((i : ℕ) → is_some (new i) ≡ (is_some (old i) || asks_for i asks))
    → sum_by (λ (a : Ask). a.asked) asks ≤ 10 ^ 18 * length asks → ArePools new (with_asks book cycle asks)
pools_ordered old new book cycle asks are enough covered delivered out named most =
    let sums = are.sums in
    let next : ℕ = length book.orders + 1 in
    record {
      sums = record {
        lawful = with_asks_lawful book cycle asks sums.lawful (numbers_suffice book asks sums.lawful.few enough);
        covered = λ i. covered i ∙ sums.covered i ∙ sym (covered_ordered book cycle asks i sums.lawful);
        delivered = λ i. delivered i ∙ sums.delivered i ∙ sym (delivered_ordered book cycle asks i sums.lawful);
        out = λ i. omega (arith, out i, sums.out i, out_ordered book cycle asks i sums.lawful);
        asked = omega (arith, sums.asked, numbered_asked next cycle asks, length-numbered next cycle asks, sum_by-append, length-append {A = Order});
      };
      named = λ i. named i ∙ ap (λ b. b || asks_for i asks) (are.named i) ∙ sym (named_ordered book cycle asks i);
    }

-- ---- with one more confirmation

-- sums that changed by what the order moved are those with its confirmation
pub pools_confirmed : (old new : ℕ → Option PoolSums) (book : Orders) (r : Reply) (o : Order) → ArePools old book → IsTaken book r → order_of book.orders r.number ≡ Some o
    → ((i : ℕ) → (sums_at (new i)).covered ≡ (sums_at (old i)).covered + (if is_cover o.kind && (o.issue == i) then r.moved else 0))
    → ((i : ℕ) → (sums_at (new i)).delivered ≡ (sums_at (old i)).delivered + (if is_delivery o.kind && (o.issue == i) then r.moved else 0))
    → ((i : ℕ) → (sums_at (new i)).out + (if is_delivery o.kind && (o.issue == i) then o.asked else 0) ≡ (sums_at (old i)).out)
    → ((i : ℕ) → is_some (new i) ≡ ((o.issue == i) || is_some (old i))) → ArePools new (with_reply book r)
unfolding covered_of delivered_of out_of
pools_confirmed old new book r o are taken found covered delivered out named =
    let sums = are.sums in
    let within = rw (same_Some taken.order o (sym taken.found ∙ found)) at taken.within in
    let moved : (counted : Order → Bool) → _ = λ counted. moved_with_reply counted book.orders book.replies r o sums.lawful.numbered found taken.first in
    let still : (counted : Order → Bool) → _ = λ counted. open_with_reply counted book.orders book.replies r o sums.lawful.numbered found taken.first in
    record {
      sums = record {
        lawful = with_reply_lawful book r o sums.lawful found taken.first within;
        covered = λ i. omega (arith, covered i, sums.covered i, moved (λ x. is_cover x.kind && (x.issue == i)));
        delivered = λ i. omega (arith, delivered i, sums.delivered i, moved (λ x. is_delivery x.kind && (x.issue == i)));
        out = λ i. omega (arith, out i, sums.out i, still (λ x. is_delivery x.kind && (x.issue == i)));
        asked = sums.asked;
      };
      named = λ i. named i ∙ ap (λ b. (o.issue == i) || b) (are.named i) ∙ order_named book.orders r.number i o found;
    }

-- ---- that they fit

-- what is counted of each order is at most what it asks for
counted_most : (part : Order → ℕ) (counted : Order → Bool) (book : Orders) → IsOrderBook book → ((o : Order) → part o ≤ moved_part book.replies o + open_part book.replies o)
    → sum_by (λ (o : Order). if counted o then part o else 0) book.orders ≤ sum_by (λ (o : Order). o.asked) book.orders
counted_most part counted book lawful within =
    sum_le_found (λ (o : Order). if counted o then part o else 0) (λ (o : Order). o.asked) book.orders 1 lawful.numbered
    (λ o found. omega (arith, within o, parts_le_asked book.orders book.replies o lawful.known found, at_most (counted o) (part o)))

pub record AreSmall (sums : PoolSums) : Type 0 where
  pub covered : sums.covered ≤ 10 ^ 24
  pub delivered : sums.delivered ≤ 10 ^ 24
  pub out : sums.out ≤ 10 ^ 24

-- so no sum is above 10^24
pub sums_small : (sums : ℕ → PoolSums) (book : Orders) (i : ℕ) → AreSumsOf sums book → AreSmall (sums i)
unfolding covered_of delivered_of out_of
sums_small sums book i are =
    let lawful = are.lawful in
    record {
      covered = omega (arith, are.asked, lawful.few, are.covered i, counted_most (moved_part book.replies) (λ (o : Order). is_cover o.kind && (o.issue == i)) book lawful (λ o. omega arith));
      delivered = omega (arith, are.asked, lawful.few, are.delivered i, counted_most (moved_part book.replies) (λ (o : Order). is_delivery o.kind && (o.issue == i)) book lawful (λ o. omega arith));
      out = omega (arith, are.asked, lawful.few, are.out i, counted_most (open_part book.replies) (λ (o : Order). is_delivery o.kind && (o.issue == i)) book lawful (λ o. omega arith));
    }

-- an unconfirmed delivery is counted among those that are out
pub out_has : (sums : ℕ → PoolSums) (book : Orders) (r : Reply) (o : Order) → AreSumsOf sums book → IsTaken book r → order_of book.orders r.number ≡ Some o
    → is_delivery o.kind ≡ true → o.asked ≤ (sums o.issue).out
unfolding out_of
out_has sums book r o are taken found delivery =
    let with = open_with_reply (λ (x : Order). is_delivery x.kind && (x.issue == o.issue)) book.orders book.replies r o are.lawful.numbered found taken.first in
    let here : (if is_delivery o.kind && (o.issue == o.issue) then o.asked else 0) ≡ o.asked = rw (delivery, eq-eqb o.issue o.issue refl) refl in
    omega (arith, with, here, are.out o.issue)
