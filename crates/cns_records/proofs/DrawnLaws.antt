-- The tickets of an allocation: what is read is what was written, and the other way round; and their order.
use Rattle.std.proofs.Common.{◌≡◌, ℕ, zero, suc, ◌*◌, ◌<◌, ◌≤◌, Bool, true, false, List, [], ◌∷◌, ◌++◌, length, add-one, Result, Ok, Err, refl, sym, ap, ap₂, subst, ◌∙◌, arith}
use Rattle.std.specs.Prelude.{nat_le, ◌==◌, ◌&&◌, IsOk, is_ok}
use Rattle.std.specs.Int.{w32, to_be_bytes}
use Rattle.std.specs.List.{All, AllAdjacentBelow, flat_map}
use Rattle.std.proofs.lemmas.Bool.{leb-true, le-leb, lt-leb}
use Rattle.std.proofs.lemmas.List.{append_assoc, append-nil}
use Rattle.std.proofs.lemmas.List.Sorted.{IsNonDecreasingBy-from_all_adjacent, all_adjacent_from_non_decreasing}
use Rattle.cns_records.specs.declared.bad_record.BadRecord.{BadRecord}
use Rattle.cns_records.specs.declared.drawn.Drawn.{Drawn}
use Rattle.cns_ids.specs.Steps.{◌>>=◌}
use Rattle.cns_records.specs.Fields.{bad, number_at, tested, tested_at, whole}
use Rattle.cns_records.specs.Drawn.{IsTicketInRange, AreTicketsInRange, IsByStart, starts_from, by_start, ticket_bytes, ticket_at, tickets_at, is_few, drawn_bytes, tickets_read, drawn_of}
use Rattle.cns_movements.proofs.BytesLemmas.{IsBytes}
use Rattle.cns_records.proofs.FieldLemmas.{bind_ok, ok_value, tested_ok, whole_ok, ok_is, Takes, IsField, step, chain, last, both_field, made_field, tested_field, number_field, wide32}
use Rattle.cns_records.proofs.FieldLaws.{member_field, shares_field, asked_field}

-- ---- a ticket

pub ticket_field : IsField ticket_at ticket_bytes IsTicketInRange
unfolding ticket_at
ticket_field =
    let fields = both_field member_field (both_field shares_field asked_field) in
    made_field fields _ (λ t. (t.member, (t.start, t.asked))) IsTicketInRange
    (λ t fits. (refl, record { member = fits.0; start = fits.1.0; asked = fits.1.1 })) (λ t is. (refl, (is.member, (is.start, is.asked))))

-- ---- tickets

all_cons : (t : Drawn) (ts : List Drawn) → IsTicketInRange t → All IsTicketInRange ts → All IsTicketInRange (t ∷ ts)
all_cons t ts h hs zero d lt = h
all_cons t ts h hs (suc k) d lt = hs k d (omega arith)

all_tail : (t : Drawn) (ts : List Drawn) → All IsTicketInRange (t ∷ ts) → All IsTicketInRange ts
all_tail t ts h k d lt = h (suc k) d (omega arith)

-- what so many tickets are read from
abbrev AreTaken : ℕ → List ℕ → List Drawn × List ℕ → Type 0
AreTaken n bytes x = Takes bytes (flat_map ticket_bytes x.0) x.1 × (length x.0 ≡ n) × All IsTicketInRange x.0

tickets_take : (n : ℕ) (bytes : List ℕ) (x : List Drawn × List ℕ) → IsBytes bytes → tickets_at n bytes ≡ Ok x → AreTaken n bytes x
unfolding tickets_at
tickets_take zero bytes x fits e = subst (AreTaken 0 bytes) (ok_is ([], bytes) x e) (record { parts = refl; rest_fits = fits }, refl, λ k d lt. absurd (omega arith))
tickets_take (suc n) bytes x fits e =
    let first = step ticket_field bytes _ x fits e in
    let others = bind_ok (tickets_at n first.rest) _ x first.then in
    let more = tickets_take n first.rest others.0 first.rest_fits others.1 in
    subst (AreTaken (suc n) bytes) (ok_is (first.value ∷ others.0.0, others.0.1) x others.2)
    (record { parts = chain (ticket_bytes first.value) first.parts more.0.parts; rest_fits = more.0.rest_fits }, ap suc more.1, all_cons first.value others.0.0 first.fits more.2)

tickets_again : (ts : List Drawn) (rest : List ℕ) → All IsTicketInRange ts → tickets_at (length ts) (flat_map ticket_bytes ts ++ rest) ≡ Ok (ts, rest)
unfolding tickets_at
tickets_again [] rest fits = refl
tickets_again (t ∷ ts) rest fits =
    let here : IsTicketInRange t = fits 0 t (omega arith) in
    let first : ticket_at (ticket_bytes t ++ (flat_map ticket_bytes ts ++ rest)) ≡ Ok (t, flat_map ticket_bytes ts ++ rest) = ticket_field.again t (flat_map ticket_bytes ts ++ rest) here in
    rw (first, tickets_again ts rest (all_tail t ts fits)) refl

-- how many bytes tickets have
pub tickets_length : (ts : List Drawn) → length (flat_map ticket_bytes ts) ≡ length ts * 18
tickets_length [] = refl
tickets_length (t ∷ ts) = omega (arith, tickets_length ts)

count_field : IsField (tested_at (number_at w32) is_few) (to_be_bytes w32) (λ n. n ≤ 9999)
count_field = tested_field (number_field wide32) is_few (λ n. n ≤ 9999) (λ n fits few. leb-true n 9999 few) (λ n few. (omega arith, le-leb n 9999 few))

-- ---- tickets that are read one by one

-- these tickets, and those that are read after them
abbrev pub after : List Drawn → Result (List Drawn × List ℕ) BadRecord → Result (List Drawn × List ℕ) BadRecord
after ts (Ok x) = Ok (ts ++ x.0, x.1)
after ts (Err e) = Err e

-- no ticket yet
pub after_none : (ts : List Drawn) (n m : ℕ) (bytes : List ℕ) → ts ≡ [] → m ≡ n → tickets_at n bytes ≡ after ts (tickets_at m bytes)
after_none ts n m bytes none is = rw (none, is) (same (tickets_at n bytes)) where
  same : (r : Result (List Drawn × List ℕ) BadRecord) → r ≡ after [] r
  same (Ok x) = refl
  same (Err e) = refl

after-cons : (ts : List Drawn) (t : Drawn) (r : Result (List Drawn × List ℕ) BadRecord) → after ts (r >>= λ others. Ok (t ∷ others.0, others.1)) ≡ after (ts ++ t ∷ []) r
after-cons ts t (Ok x) = ap (λ (us : List Drawn). Ok (us, x.1)) (sym (append_assoc ts (t ∷ []) x.0))
after-cons ts t (Err e) = refl

-- one more ticket
pub after_more : (ts : List Drawn) (n m : ℕ) (bytes : List ℕ) (t : Drawn) (rest : List ℕ) → n ≡ suc m → ticket_at bytes ≡ Ok (t, rest)
    → after ts (tickets_at n bytes) ≡ after (ts ++ t ∷ []) (tickets_at m rest)
unfolding tickets_at
after_more ts n m bytes t rest is e = rw (is, e) (after-cons ts t (tickets_at m rest))

-- a ticket that is not read
pub after_bad : (ts : List Drawn) (n m : ℕ) (bytes : List ℕ) (e : BadRecord) → n ≡ suc m → ticket_at bytes ≡ Err e → after ts (tickets_at n bytes) ≡ bad
unfolding tickets_at
after_bad ts n m bytes e is bad_is = rw (is, bad_is) refl

-- no more tickets
pub after_all : (ts : List Drawn) (n : ℕ) (bytes : List ℕ) → n ≡ 0 → after ts (tickets_at n bytes) ≡ Ok (ts, bytes)
unfolding tickets_at
after_all ts n bytes is = rw is (ap (λ (us : List Drawn). Ok (us, bytes)) (append-nil ts))

-- ---- the order of the tickets

abbrev starts_up : Drawn → Drawn → Type 0
starts_up t u = t.start ≤ u.start

-- the first ticket starts not below this
abbrev StartsAt : ℕ → List Drawn → Type 0
StartsAt low [] = Unit {0}
StartsAt low (t ∷ ts) = low ≤ t.start

pub both : (a b : Bool) → (a && b) ≡ true → (a ≡ true) × (b ≡ true)
both true true e = (refl, refl)
both true false e = absurd cc
both false b e = absurd cc

starts_at : (low : ℕ) (ts : List Drawn) → starts_from low ts ≡ true → StartsAt low ts
starts_at low [] e = tt
starts_at low (t ∷ ts) e = leb-true _ _ (both _ _ e).0

adjacent_cons : (t : Drawn) (ts : List Drawn) → StartsAt t.start ts → AllAdjacentBelow starts_up ts (length ts) → AllAdjacentBelow starts_up (t ∷ ts) (length (t ∷ ts))
adjacent_cons t [] first others k d lt = absurd (omega arith)
adjacent_cons t (u ∷ us) first others zero d lt = first
adjacent_cons t (u ∷ us) first others (suc k) d lt = let next = others k d (omega arith) in rw (add-one (suc k)) (rw (add-one k) at next)

adjacent : (low : ℕ) (ts : List Drawn) → starts_from low ts ≡ true → AllAdjacentBelow starts_up ts (length ts)
adjacent low [] e = λ k d lt. absurd (omega arith)
adjacent low (t ∷ ts) e = let b = both _ _ e in adjacent_cons t ts (starts_at t.start ts b.1) (adjacent t.start ts b.1)

adjacent_tail : (t : Drawn) (ts : List Drawn) → AllAdjacentBelow starts_up (t ∷ ts) (length (t ∷ ts)) → AllAdjacentBelow starts_up ts (length ts)
adjacent_tail t ts h k d lt = let next = h (suc k) d (omega arith) in rw (add-one k) (rw (add-one (suc k)) at next)

adjacent_first : (t : Drawn) (ts : List Drawn) → AllAdjacentBelow starts_up (t ∷ ts) (length (t ∷ ts)) → StartsAt t.start ts
adjacent_first t [] h = tt
adjacent_first t (u ∷ us) h = h 0 t (omega arith)

starts : (low : ℕ) (ts : List Drawn) → StartsAt low ts → AllAdjacentBelow starts_up ts (length ts) → starts_from low ts ≡ true
starts low [] first h = refl
starts low (t ∷ ts) first h = rw (le-leb low t.start first) (starts t.start ts (adjacent_first t ts h) (adjacent_tail t ts h))

starts_at_0 : (ts : List Drawn) → StartsAt 0 ts
starts_at_0 [] = tt
starts_at_0 (t ∷ ts) = omega arith

pub by_start-sound : (ts : List Drawn) → by_start ts ≡ true → IsByStart ts
by_start-sound ts e = IsNonDecreasingBy-from_all_adjacent (λ (t : Drawn). t.start) ts (adjacent 0 ts e)

pub by_start-complete : (ts : List Drawn) → IsByStart ts → by_start ts ≡ true
by_start-complete ts h = starts 0 ts (starts_at_0 ts) (all_adjacent_from_non_decreasing (λ (t : Drawn). t.start) ts h)

-- ---- the tickets that bytes are

-- what was read in front of the tickets that bytes are
tickets_front : (n : ℕ) (bytes : List ℕ) (ts : List Drawn) → tickets_read n bytes ≡ Ok ts → (tickets_at n bytes ≡ Ok (ts, [])) × (by_start ts ≡ true)
unfolding tickets_read
tickets_front n bytes ts e =
    let front = bind_ok (tickets_at n bytes) _ ts e in
    let listed = bind_ok (whole front.0.1 front.0.0) _ ts front.2 in
    let end = whole_ok front.0.1 front.0.0 listed.0 listed.1 in
    let sorted = tested_ok (by_start listed.0) listed.0 ts listed.2 in
    (front.1 ∙ ap₂ (λ (us : List Drawn) (rest : List ℕ). Ok (us, rest)) (end.1 ∙ sorted.1) end.0, subst (λ (us : List Drawn). by_start us ≡ true) sorted.1 sorted.0)

-- where the bytes are so many tickets, so many are in front
pub tickets_there : (n : ℕ) (bytes : List ℕ) → IsOk (tickets_read n bytes) → IsOk (tickets_at n bytes)
tickets_there n bytes there = let ts = ok_value (tickets_read n bytes) there in ap is_ok (tickets_front n bytes ts.0 ts.1).0

-- tickets by their starts and nothing after them are the tickets that bytes are
tickets_whole : (n : ℕ) (bytes : List ℕ) (ts : List Drawn) → tickets_at n bytes ≡ Ok (ts, []) → by_start ts ≡ true → tickets_read n bytes ≡ Ok ts
unfolding tickets_read
tickets_whole n bytes ts e sorted = rw (e, sorted) refl

pub drawn_takes : (bytes : List ℕ) (ts : List Drawn) → IsBytes bytes → drawn_of bytes ≡ Ok ts → (bytes ≡ drawn_bytes ts) × AreTicketsInRange ts × IsByStart ts
unfolding drawn_of
drawn_takes bytes ts fits e =
    let count = step count_field bytes (λ n. tickets_read n.0 n.1) ts fits e in
    let front = tickets_front count.value count.rest ts count.then in
    let taken = tickets_take count.value count.rest (ts, []) count.rest_fits front.0 in
    let parts : bytes ≡ drawn_bytes ts =
    chain (to_be_bytes w32 count.value) count.parts (last (flat_map ticket_bytes ts) taken.0.parts refl) ∙ ap (λ (n : ℕ). to_be_bytes w32 n ++ flat_map ticket_bytes ts) (sym taken.1) in
    let few : length ts ≤ 9999 = subst (λ (n : ℕ). n ≤ 9999) (sym taken.1) count.fits in
    (parts, record { few = few; each = taken.2 }, by_start-sound ts front.1)

pub drawn_again : (ts : List Drawn) → AreTicketsInRange ts → IsByStart ts → drawn_of (drawn_bytes ts) ≡ Ok ts
unfolding drawn_of
drawn_again ts fits sorted =
    let count = count_field.again (length ts) (flat_map ticket_bytes ts) fits.few in
    let front : tickets_at (length ts) (flat_map ticket_bytes ts) ≡ Ok (ts, []) = rw append-nil at (tickets_again ts [] fits.each) in
    rw count (tickets_whole (length ts) (flat_map ticket_bytes ts) ts front (by_start-complete ts sorted))

-- so many tickets that are read, where the bytes are so many tickets, are these
pub tickets_all : (n : ℕ) (bytes : List ℕ) (x : List Drawn × List ℕ) → IsOk (tickets_read n bytes) → tickets_at n bytes ≡ Ok x → tickets_read n bytes ≡ Ok x.0
tickets_all n bytes x there e =
    let ts = ok_value (tickets_read n bytes) there in
    let same = ok_is (ts.0, []) x (sym (tickets_front n bytes ts.0 ts.1).0 ∙ e) in
    ts.1 ∙ ap (λ (p : List Drawn × List ℕ). Ok p.0) same

-- ---- tickets that are tested one by one

-- the tickets that bytes are, so many of them, of which none starts below the one before it, and the first not below this
abbrev pub tickets_from : ℕ → ℕ → List ℕ → Result (List Drawn) BadRecord
tickets_from low n bytes = tickets_at n bytes >>= λ front. whole front.1 front.0 >>= λ tickets. tested (starts_from low tickets) tickets

-- no ticket yet
pub from_first : (n m : ℕ) (bytes rest : List ℕ) → m ≡ n → rest ≡ bytes → is_ok (tickets_read n bytes) ≡ is_ok (tickets_from 0 m rest)
unfolding tickets_read
from_first n m bytes rest is same = rw (is, same) refl

-- a value that passes two tests
two_tests : {A : Type 0} (first : Bool) (x : A) (second : A → Bool) → is_ok (tested first x >>= λ y. tested (second y) y) ≡ (first && second x)
two_tests true x second = one (second x) where
  one : (b : Bool) → is_ok (tested b x) ≡ b
  one true = refl
  one false = refl
two_tests false x second = refl

middle : (a b c : Bool) → (a && (b && c)) ≡ (b && (a && c))
middle true b c = refl
middle false true c = refl
middle false false c = refl

-- one ticket before others
abbrev with_first : Drawn → Result (List Drawn × List ℕ) BadRecord → Result (List Drawn × List ℕ) BadRecord
with_first t r = r >>= λ others. Ok (t ∷ others.0, others.1)

from-cons : (low : ℕ) (t : Drawn) (r : Result (List Drawn × List ℕ) BadRecord)
    → is_ok (with_first t r >>= λ front. whole front.1 front.0 >>= λ tickets. tested (starts_from low tickets) tickets)
    ≡ (nat_le low t.start && is_ok (r >>= λ front. whole front.1 front.0 >>= λ tickets. tested (starts_from t.start tickets) tickets))
from-cons low t (Ok x) =
    two_tests (length x.1 == 0) (t ∷ x.0) (starts_from low) ∙ middle (length x.1 == 0) (nat_le low t.start) (starts_from t.start x.0)
    ∙ ap (λ (b : Bool). nat_le low t.start && b) (sym (two_tests (length x.1 == 0) x.0 (starts_from t.start)))
from-cons low t (Err e) = never (nat_le low t.start) where
  never : (b : Bool) → false ≡ (b && false)
  never true = refl
  never false = refl

-- a ticket that starts below the one before it
pub from_low : (low n m : ℕ) (bytes : List ℕ) (t : Drawn) (rest : List ℕ) → n ≡ suc m → ticket_at bytes ≡ Ok (t, rest) → t.start < low
    → is_ok (tickets_from low n bytes) ≡ false
unfolding tickets_at
from_low low n m bytes t rest is e below = rw (is, e) (from-cons low t (tickets_at m rest) ∙ rw (lt-leb low t.start below) refl)

-- one more ticket
pub from_more : (low n m : ℕ) (bytes : List ℕ) (t : Drawn) (rest : List ℕ) → n ≡ suc m → ticket_at bytes ≡ Ok (t, rest) → low ≤ t.start
    → is_ok (tickets_from low n bytes) ≡ is_ok (tickets_from t.start m rest)
unfolding tickets_at
from_more low n m bytes t rest is e up = rw (is, e) (from-cons low t (tickets_at m rest) ∙ rw (le-leb low t.start up) refl)

-- a ticket that is not read
pub from_bad : (low n m : ℕ) (bytes : List ℕ) (e : BadRecord) → n ≡ suc m → ticket_at bytes ≡ Err e → is_ok (tickets_from low n bytes) ≡ false
unfolding tickets_at
from_bad low n m bytes e is bad_is = rw (is, bad_is) refl

-- no more tickets
pub from_all : (low n : ℕ) (bytes : List ℕ) → n ≡ 0 → is_ok (tickets_from low n bytes) ≡ (length bytes == 0)
unfolding tickets_at
from_all low n bytes is = rw is (two_tests (length bytes == 0) [] (starts_from low) ∙ always (length bytes == 0)) where
  always : (b : Bool) → (b && true) ≡ b
  always true = refl
  always false = refl
