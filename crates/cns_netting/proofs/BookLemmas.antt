-- What a book keeps as it grows.
use Rattle.std.proofs.Common.{◌≡◌, ◌≤◌, ◌<◌, ◌+◌, ◌*◌, ◌^◌, ℕ, List, [], ◌∷◌, length, length-append, Option, None, Bool, true, false, refl, arith}
use Rattle.std.specs.Prelude.{◌&&◌, ◌==◌, ℤ, pos, negsuc, ◌-ℤ◌, ◌+ℤ◌, sum_by, if◌then◌else◌}
use Rattle.std.proofs.lemmas.Int.{ints}
use Rattle.cns_ids.proofs.ListLemmas.{at_most, same_place}
use Rattle.cns_trades.specs.declared.trade.Trade.{Trade}
use Rattle.cns_netting.specs.History.{accepted, bought, credit, credit_part, debit, debit_part, due_since, position_of, settled_credit, settled_debit, sold}
use Rattle.cns_netting.specs.Positions.{bought_by, sold_by}
use Rattle.cns_netting.specs.Undue.{waiting_of, undue}
use Rattle.cns_netting.specs.Book.{AmountsFit, IsBook, AreSettlementsBounded, IsWithin, QuantitiesFit}
use Rattle.cns_netting.specs.declared.entry.NetEntry.{NetEntry}
use Rattle.cns_netting.specs.declared.entry.NetEntry.TheVariants.{Accepted, Netted, Settled}
use Rattle.cns_netting.proofs.TradeLemmas.{accepted-most}

bought_by-most : (m i : ℕ) (t : Trade) → bought_by m i (waiting_of t) ≤ t.quantity
bought_by-most m i t = at_most ((t.buyer == m) && (t.issue == i)) t.quantity

sold_by-most : (m i : ℕ) (t : Trade) → sold_by m i (waiting_of t) ≤ t.quantity
sold_by-most m i t = at_most ((t.seller == m) && (t.issue == i)) t.quantity

-- the shares that due trades bring a member are at most those of all accepted trades
pub bought-most : (reached : Option ℕ) (h : List NetEntry) (m i : ℕ) → QuantitiesFit h → bought (due_since reached h) m i ≤ length (accepted h) * 999999999999
unfolding bought
bought-most reached h m i fit = omega (arith, accepted-most (λ t. bought_by m i (waiting_of t)) (bought_by-most m i) reached h fit)

pub sold-most : (reached : Option ℕ) (h : List NetEntry) (m i : ℕ) → QuantitiesFit h → sold (due_since reached h) m i ≤ length (accepted h) * 999999999999
unfolding sold
sold-most reached h m i fit = omega (arith, accepted-most (λ t. sold_by m i (waiting_of t)) (sold_by-most m i) reached h fit)

pub book_empty : IsBook []
unfolding QuantitiesFit AmountsFit settled_credit settled_debit
book_empty = record { few = omega arith; quantities = tt; amounts = tt; settled = λ m i. record { in_most = omega arith; out_most = omega arith } }

pub book_accepted : (h : List NetEntry) (t : Trade) → IsBook h → length (accepted h) < 1000000 → t.quantity ≤ 999999999999 → IsBook (Accepted t ∷ h)
unfolding QuantitiesFit AmountsFit settled_credit settled_debit
book_accepted h t book few fits = record {
  few = omega (arith, few, length-append (accepted h) (t ∷ []));
  quantities = (fits, book.quantities);
  amounts = book.amounts;
  settled = λ m i. record { in_most = (book.settled m i).in_most; out_most = (book.settled m i).out_most };
}

pub book_netted : (h : List NetEntry) (d : ℕ) → IsBook h → IsBook (Netted d ∷ h)
unfolding QuantitiesFit AmountsFit settled_credit settled_debit
book_netted h d book = record {
  few = book.few;
  quantities = book.quantities;
  amounts = book.amounts;
  settled = λ m i. record { in_most = (book.settled m i).in_most; out_most = (book.settled m i).out_most };
}

pub record AreNear (c d : ℕ) : Type 0 where
  pub above : c ≤ d + 1000000000000000000
  pub below : d ≤ c + 1000000000000000000

pub record AreSettled (come gone : ℕ) : Type 0 where
  pub in_most : come ≤ gone + 2000000000000000000
  pub out_most : gone ≤ come + 2000000000000000000

-- a position within 10^18 of 0, by its two positions
pub sides_near : (c d : ℕ) → IsWithin (pos c -ℤ pos d) → AreNear c d
sides_near c d w = record { above = omega (arith, ints, w.high); below = omega (arith, ints, w.low) }

pub moved_near : (c d : ℕ) (z : ℤ) → IsWithin ((pos c -ℤ pos d) +ℤ z) → AreNear (c + credit_part z) (d + debit_part z)
moved_near c d (pos n) w = record { above = omega (arith, ints, w.high); below = omega (arith, ints, w.low) }
moved_near c d (negsuc n) w = record { above = omega (arith, ints, w.high); below = omega (arith, ints, w.low) }

parts_fit : (c d : ℕ) (z : ℤ) → AreNear c d → AreNear (c + credit_part z) (d + debit_part z)
    → (credit_part z ≤ 2000000000000000000) × (debit_part z ≤ 2000000000000000000)
parts_fit c d (pos n) a b = (omega (arith, a.below, b.above), omega arith)
parts_fit c d (negsuc n) a b = (omega arith, omega (arith, a.above, b.below))

-- a settlement that leaves the position within 10^18 of 0
pub book_settled : (h : List NetEntry) (m i : ℕ) (z : ℤ) → IsBook h → IsWithin (position_of h m i) → IsWithin (position_of h m i +ℤ z) → IsBook (Settled m i z ∷ h)
unfolding QuantitiesFit AmountsFit settled_credit settled_debit
book_settled h m i z book before after =
    let was = sides_near (credit h m i) (debit h m i) before in
    let is = moved_near (credit h m i) (debit h m i) z after in
    let buys = bought-most None h m i book.quantities in
    let sells = sold-most None h m i book.quantities in
    let fits = parts_fit (credit h m i) (debit h m i) z was is in
    record {
      few = book.few;
      quantities = book.quantities;
      amounts = (fits.0, fits.1, book.amounts);
      settled = λ k j. by k j ((m == k) && (i == j)) refl
          (record {
            in_most = omega (arith, was.above, was.below, is.above, is.below, buys, sells, book.few);
            out_most = omega (arith, was.above, was.below, is.above, is.below, buys, sells, book.few);
          });
    }
  where
    by : (k j : ℕ) (b : Bool) → ((m == k) && (i == j)) ≡ b → AreSettled (credit_part z + settled_credit h m i) (debit_part z + settled_debit h m i)
        → AreSettlementsBounded (Settled m i z ∷ h) k j
    by k j true e s =
        let same = same_place m k i j e in
        record {
          in_most = rw (e, ← same.0, ← same.1) s.in_most;
          out_most = rw (e, ← same.0, ← same.1) s.out_most;
        }
    by k j false e s = record {
      in_most = rw e (omega (arith, (book.settled k j).in_most));
      out_most = rw e (omega (arith, (book.settled k j).out_most));
    }

-- a position of a book stays within 3 * 10^18 of 0 while the trades become due that wait
pub long-most : (h : List NetEntry) (m i : ℕ) → IsBook h → credit h m i + sum_by (λ t. bought_by m i (waiting_of t)) (undue h) ≤ debit h m i + 3 * 10 ^ 18
unfolding bought
long-most h m i book = omega (arith, accepted-most (λ t. bought_by m i (waiting_of t)) (bought_by-most m i) None h book.quantities, (book.settled m i).in_most, book.few)

pub short-most : (h : List NetEntry) (m i : ℕ) → IsBook h → debit h m i + sum_by (λ t. sold_by m i (waiting_of t)) (undue h) ≤ credit h m i + 3 * 10 ^ 18
unfolding sold
short-most h m i book = omega (arith, accepted-most (λ t. sold_by m i (waiting_of t)) (sold_by-most m i) None h book.quantities, (book.settled m i).out_most, book.few)

-- nor does a position go further by the shares alone that come by a settlement, or by those alone that go
pub settled-near : (h : List NetEntry) (member issue : ℕ) (z : ℤ) (m i : ℕ) → IsBook h → IsWithin (position_of h member issue) → IsWithin (position_of h member issue +ℤ z)
    → (credit h m i + (if (member == m) && (issue == i) then credit_part z else 0) ≤ debit h m i + 3 * 10 ^ 18)
    × (debit h m i + (if (member == m) && (issue == i) then debit_part z else 0) ≤ credit h m i + 3 * 10 ^ 18)
settled-near h member issue z m i book before after =
    let was = sides_near (credit h member issue) (debit h member issue) before in
    let is = moved_near (credit h member issue) (debit h member issue) z after in
    let fits = parts_fit (credit h member issue) (debit h member issue) z was is in
    by ((member == m) && (issue == i)) refl (omega (arith, is.above, fits.1)) (omega (arith, is.below, fits.0))
  where
    by : (b : Bool) → ((member == m) && (issue == i)) ≡ b → credit h member issue + credit_part z ≤ debit h member issue + 3 * 10 ^ 18
        → debit h member issue + debit_part z ≤ credit h member issue + 3 * 10 ^ 18
        → (credit h m i + (if b then credit_part z else 0) ≤ debit h m i + 3 * 10 ^ 18) × (debit h m i + (if b then debit_part z else 0) ≤ credit h m i + 3 * 10 ^ 18)
    by true e above below = let same = same_place member m issue i e in rw (← same.0, ← same.1) (above, below)
    by false e above below = (omega (arith, long-most h m i book), omega (arith, short-most h m i book))
