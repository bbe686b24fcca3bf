-- What keeps a book in order.
use Rattle.std.proofs.Common.{◌≡◌, ℕ, suc, zero, ◌+◌, ◌<◌, ◌≤◌, List, [], ◌∷◌, ◌++◌, cond, drop, get_or, length, map, set, Option, Some, None, sym, refl, ap, ◌∙◌, arith, length-append}
use borrow.Author.Count.{below_more}
use Rattle.std.specs.Prelude.{IsSome, is_some, slice_get, slice_set, option_map, replicate}
use Rattle.std.specs.List.{cons_option}
use Rattle.std.specs.Option.{option_flatten}
use Rattle.std.proofs.lemmas.Option.{slice_get-map}
use Rattle.std.proofs.lemmas.List.{map-append, length-map, length-set}
use Rattle.cns_ids.specs.declared.cycle.CycleId.{CycleId}
use Rattle.cns_movements.specs.declared.order.Order.{Order}
use Rattle.cns_movements.specs.declared.order.Ask.{Ask}
use Rattle.cns_movements.specs.declared.order.Reply.{Reply}
use Rattle.cns_movements.specs.Order.{order_of, moved_of, numbered, unconfirmed_of, IsNumbered, AreKnown}
use Rattle.cns_movements.specs.Book.{Orders, with_asks, with_reply, AreSettled, IsOrderBook, IsStored}
use Rattle.cns_movements.proofs.OrderLemmas.{order_of_number, order_of-slice_get, IsNumbered-append, IsNumbered-numbered, length-numbered}
use Rattle.cns_movements.proofs.ReplyLemmas.{moved_of_same, moved_of_other, moved_of_unknown, moved_of_above, AreKnown-append}

-- what the order of a number moved, by its look-up
moved_by_order : (os : List Order) (rs : List Reply) (n : ℕ) (x : Option Order) → order_of os n ≡ x → AreKnown os rs
    → option_flatten (option_map (λ (o : Order). moved_of rs o.number) x) ≡ moved_of rs n
moved_by_order os rs n None e known = sym (moved_of_unknown os rs n known e)
moved_by_order os rs n (Some o) e known = ap (moved_of rs) (order_of_number os n o e)

-- what stands beside the order of a number is what that moved
pub moved_at : (book : Orders) (ms : List (Option ℕ)) (n i : ℕ) → IsStored book ms → i + 1 ≡ n → option_flatten (slice_get ms i) ≡ moved_of book.replies n
moved_at book ms n i stored e =
    let os = book.orders in
    let rs = book.replies in
    ap (λ (l : List (Option ℕ)). option_flatten (slice_get l i)) stored.moves
    ∙ ap option_flatten (slice_get-map (λ (o : Order). moved_of rs o.number) os i)
    ∙ ap (λ (x : Option Order). option_flatten (option_map (λ (o : Order). moved_of rs o.number) x)) (sym (order_of-slice_get os 1 n i stored.lawful.numbered (omega arith)))
    ∙ moved_by_order os rs n (order_of os n) refl stored.lawful.known

-- there is one place beside each order
pub moves_length : (book : Orders) (ms : List (Option ℕ)) → IsStored book ms → length ms ≡ length book.orders
moves_length book ms stored = ap (λ (l : List (Option ℕ)). length l) stored.moves ∙ length-map book.orders (λ (o : Order). moved_of book.replies o.number)

-- a confirmation of a lower number changes nothing beside these orders
moves_same : (os : List Order) (rs : List Reply) (r : Reply) (k : ℕ) → IsNumbered k os → r.number < k
    → map (λ (o : Order). moved_of rs o.number) os ≡ map (λ (o : Order). moved_of (r ∷ rs) o.number) os
moves_same [] rs r k h below = refl
moves_same (x ∷ xs) rs r k h below =
    let here : moved_of rs x.number ≡ moved_of (r ∷ rs) x.number = sym (moved_of_other r rs x.number (λ e. let first = h.0 in omega arith)) in
    ap (λ (m : Option ℕ). m ∷ map (λ (o : Order). moved_of rs o.number) xs) here
    ∙ ap (λ (l : List (Option ℕ)). moved_of (r ∷ rs) x.number ∷ l) (moves_same xs rs r (suc k) h.1 (omega arith))

-- a confirmation changes what stands beside its own order
moves_set : (os : List Order) (rs : List Reply) (r : Reply) (k i : ℕ) → IsNumbered k os → r.number ≡ k + i
    → slice_set (map (λ (o : Order). moved_of rs o.number) os) i (Some r.moved) ≡ map (λ (o : Order). moved_of (r ∷ rs) o.number) os
moves_set [] rs r k i h e = refl
moves_set (x ∷ xs) rs r k zero h e =
    let here : Some r.moved ≡ moved_of (r ∷ rs) x.number = sym (moved_of_same r rs x.number (let first = h.0 in omega arith)) in
    ap (λ (m : Option ℕ). m ∷ map (λ (o : Order). moved_of rs o.number) xs) here
    ∙ ap (λ (l : List (Option ℕ)). moved_of (r ∷ rs) x.number ∷ l) (moves_same xs rs r (suc k) h.1 (omega arith))
moves_set (x ∷ xs) rs r k (suc i) h e =
    let here : moved_of rs x.number ≡ moved_of (r ∷ rs) x.number = sym (moved_of_other r rs x.number (λ z. let first = h.0 in omega arith)) in
    ap (λ (m : Option ℕ). m ∷ slice_set (map (λ (o : Order). moved_of rs o.number) xs) i (Some r.moved)) here
    ∙ ap (λ (l : List (Option ℕ)). moved_of (r ∷ rs) x.number ∷ l) (moves_set xs rs r (suc k) i h.1 (omega arith))

-- nothing is confirmed of new numbers
moves_none : (cycle : Option CycleId) (asks : List Ask) (rs : List Reply) (k : ℕ) → ((n : ℕ) → k ≤ n → moved_of rs n ≡ None)
    → map (λ (o : Order). moved_of rs o.number) (numbered k cycle asks) ≡ replicate (length asks) None
moves_none cycle [] rs k new = refl
moves_none cycle (a ∷ asks) rs k new =
    ap (λ (m : Option ℕ). m ∷ map (λ (o : Order). moved_of rs o.number) (numbered (suc k) cycle asks)) (new k (omega arith))
    ∙ ap (λ (l : List (Option ℕ)). None ∷ l) (moves_none cycle asks rs (suc k) (λ n le. new n (omega arith)))

-- a first confirmation of an order, not above what that asked for, keeps a book in order
pub with_reply_lawful : (book : Orders) (r : Reply) (o : Order) → IsOrderBook book
    → order_of book.orders r.number ≡ Some o → moved_of book.replies r.number ≡ None → r.moved ≤ o.asked → IsOrderBook (with_reply book r)
with_reply_lawful book r o lawful found first within = record {
  numbered = lawful.numbered;
  few = lawful.few;
  known = (record { order = o; found = found; within = within }, lawful.known);
  once = (first, lawful.once);
}

-- more orders under the next numbers keep a book in order
pub with_asks_lawful : (book : Orders) (cycle : Option CycleId) (asks : List Ask) → IsOrderBook book → length book.orders + length asks ≤ 1000000 → IsOrderBook (with_asks book cycle asks)
with_asks_lawful book cycle asks lawful fits =
    let os = book.orders in
    record {
      numbered = IsNumbered-append os (numbered (length os + 1) cycle asks) 1 (length os + 1) (omega arith) lawful.numbered (IsNumbered-numbered _ _ _);
      few = simp (length-append, length-numbered) fits;
      known = AreKnown-append os (numbered (length os + 1) cycle asks) book.replies lawful.known;
      once = lawful.once;
    }

-- the same with what each order moved beside it
pub stored_reply : (book : Orders) (ms : List (Option ℕ)) (r : Reply) (o : Order) (i : ℕ) → IsStored book ms → i + 1 ≡ r.number
    → order_of book.orders r.number ≡ Some o → moved_of book.replies r.number ≡ None → r.moved ≤ o.asked → IsStored (with_reply book r) (slice_set ms i (Some r.moved))
stored_reply book ms r o i stored e found first within = record {
  lawful = with_reply_lawful book r o stored.lawful found first within;
  moves =
      ap (λ (l : List (Option ℕ)). slice_set l i (Some r.moved)) stored.moves
      ∙ moves_set book.orders book.replies r 1 i stored.lawful.numbered (omega arith);
}

pub stored_asks : (book : Orders) (ms : List (Option ℕ)) (cycle : Option CycleId) (asks : List Ask) → IsStored book ms → length book.orders + length asks ≤ 1000000
    → IsStored (with_asks book cycle asks) (ms ++ replicate (length asks) None)
stored_asks book ms cycle asks stored fits =
    let os = book.orders in
    let rs = book.replies in
    let lawful = stored.lawful in
    let new : map (λ (o : Order). moved_of rs o.number) (numbered (length os + 1) cycle asks) ≡ replicate (length asks) None =
    moves_none cycle asks rs (length os + 1) (λ n le. moved_of_above os rs n lawful.numbered lawful.known (omega arith)) in
    record {
      lawful = with_asks_lawful book cycle asks lawful fits;
      moves =
          ap (λ (l : List (Option ℕ)). l ++ replicate (length asks) None) stored.moves
          ∙ ap (λ (l : List (Option ℕ)). map (λ (o : Order). moved_of rs o.number) os ++ l) (sym new)
          ∙ sym (map-append (λ (o : Order). moved_of rs o.number) os (numbered (length os + 1) cycle asks));
    }

-- ---- the first orders, which are all confirmed

-- a choice by something that is there
some_chosen : {A : Type 0} (m : Option ℕ) (a b : A) → IsSome m → cond (is_some m) a b ≡ a
some_chosen None a b h = absurd (cc h)
some_chosen (Some x) a b h = refl

-- where the first so many orders are confirmed, the unconfirmed ones are those of the rest
pub unconfirmed_behind : (os : List Order) (rs : List Reply) (n : ℕ) → n ≤ length os
    → ((k : ℕ) → k < n → IsSome (get_or (map (λ (o : Order). moved_of rs o.number) os) k None)) → unconfirmed_of (drop n os) rs ≡ unconfirmed_of os rs
unconfirmed_behind os rs zero le h = refl
unconfirmed_behind [] rs (suc n) le h = refl
unconfirmed_behind (o ∷ os) rs (suc n) le h =
    unconfirmed_behind os rs n (omega arith) (λ k lt. h (suc k) (omega arith))
    ∙ sym (ap (λ x. cons_option x (unconfirmed_of os rs)) (some_chosen (moved_of rs o.number) None (Some o.number) (h 0 (omega arith))))

-- one more confirmation leaves them confirmed
set_settled : (ms : List (Option ℕ)) (k i x : ℕ) → IsSome (get_or ms k None) → IsSome (get_or (set ms i (Some x)) k None)
set_settled [] k i x h = h
set_settled (m ∷ ms) zero zero x h = refl
set_settled (m ∷ ms) zero (suc i) x h = h
set_settled (m ∷ ms) (suc k) zero x h = h
set_settled (m ∷ ms) (suc k) (suc i) x h = set_settled ms k i x h

pub settled_by_reply : (n : ℕ) (ms : List (Option ℕ)) (i x : ℕ) → AreSettled n ms → AreSettled n (set ms i (Some x))
settled_by_reply n ms i x settled = record { within = simp length-set settled.within; all = λ k lt. set_settled ms k i x (settled.all k lt) }

-- and so do more orders
add_settled : (ms xs : List (Option ℕ)) (k : ℕ) → k < length ms → IsSome (get_or ms k None) → IsSome (get_or (ms ++ xs) k None)
add_settled [] xs k lt h = absurd (omega arith)
add_settled (m ∷ ms) xs zero lt h = h
add_settled (m ∷ ms) xs (suc k) lt h = add_settled ms xs k (omega arith) h

pub settled_by_asks : (n : ℕ) (ms xs : List (Option ℕ)) → AreSettled n ms → AreSettled n (ms ++ xs)
settled_by_asks n ms xs settled = record {
  within = simp length-append (omega (arith, settled.within));
  all = λ k lt. add_settled ms xs k (omega (arith, settled.within)) (settled.all k lt);
}

-- one more behind them is confirmed
pub settled_more : (n : ℕ) (ms : List (Option ℕ)) → AreSettled n ms → n < length ms → IsSome (get_or ms n None) → AreSettled (n + 1) ms
settled_more n ms settled lt here = record { within = omega arith; all = below_more (λ k. IsSome (get_or ms k None)) n settled.all here }
