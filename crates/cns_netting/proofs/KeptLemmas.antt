-- What a book keeps beside its history, as the history grows.
use Rattle.std.proofs.Common.{◌≡◌, ◌<◌, ◌+◌, ◌-◌, ℕ, List, [], ◌∷◌, length, None, refl, sym, ◌∙◌, arith, subst}
use Rattle.std.specs.Prelude.{All, ℤ, ◌+ℤ◌, sum_by}
use Rattle.std.specs.BinaryHeap.{IsHeap}
use Rattle.std.specs.HashMap.{HashMap}
use Rattle.std.specs.List.Sorted.{IsPermutation}
use Rattle.std.proofs.lemmas.List.Elements.{All-cons, All-nil, All-weaker}
use Rattle.std.proofs.lemmas.List.Recursion.{is_sum_by}
use Rattle.std.proofs.lemmas.List.Sorted.{All-permutation, sum_by_pushed}
use Rattle.std.proofs.lemmas.List.Sums.{sum_by-cons}
use Rattle.cns_trades.specs.declared.trade.Trade.{Trade}
use Rattle.cns_netting.specs.Book.{IsBook, IsKeptBook, IsWithin}
use Rattle.cns_netting.specs.History.{becoming_due, bought, credit_part, debit_part, due, longs_of, position_of, settled_credit, settled_debit, shorts_of, sold}
use Rattle.cns_netting.specs.Rows.{holdings_of, rows_of}
use Rattle.cns_netting.specs.Positions.{Adds, ArePositionsOf, bought_by, bought_in, brought_due, credit_among, debit_among, IsNamed, no_shares, shares_only_at, sold_by, sold_in, StayNear, taken_due}
use Rattle.cns_netting.specs.Totals.{AreTotalsOf, HasIssue, KeepIssues, longs_in, shorts_in}
use Rattle.cns_netting.specs.Undue.{earlier, if_left, if_settled, waiting_of, undue}
use Rattle.cns_netting.specs.declared.entry.NetEntry.{NetEntry}
use Rattle.cns_netting.specs.declared.entry.NetEntry.TheVariants.{Accepted, Netted, Settled}
use Rattle.cns_ids.specs.declared.holding.Holding.{Holding}
use Rattle.cns_netting.specs.declared.positions.Position.{Position}
use Rattle.cns_netting.specs.declared.totals.Totals.{Totals}
use Rattle.cns_netting.specs.declared.undue.Change.TheVariants.{Add}
use Rattle.cns_netting.specs.declared.undue.Undue.{Undue}
use Rattle.cns_netting.proofs.AddLemmas.{all_named}
use Rattle.cns_netting.proofs.BalanceLemmas.{total-nothing}
use Rattle.cns_netting.proofs.BookLemmas.{book_empty, long-most, settled-near, short-most}
use Rattle.cns_netting.proofs.QueueLemmas.{none-settled}
use Rattle.cns_netting.proofs.RowLemmas.{same_positions}
use Rattle.cns_netting.proofs.TotalLemmas.{long_total, short_total, totals_kept}
use Rattle.cns_netting.proofs.TradeLemmas.{due-netting, settled-left, undue-netting}

-- what may be added of all trades that wait may be added of those that settle by a day
pub near_by : (day : ℕ) (waiting : List Undue) {positions : List (Holding × Position)} → StayNear (bought_in waiting) (sold_in waiting) positions
    → StayNear (brought_due Add day waiting) (taken_due Add day waiting) positions
near_by day waiting near = record {
  long = λ m i. omega (arith, near.long m i, settled-left day (bought_by m i) waiting);
  short = λ m i. omega (arith, near.short m i, settled-left day (sold_by m i) waiting);
}

module _ {T : Type 0} where
  pub kept_empty : (totals : HashMap ℕ Totals T) (waiting : List Undue) → totals.entries ≡ [] → waiting ≡ [] → IsHeap earlier waiting → IsKeptBook [] [] totals waiting
  unfolding bought sold settled_credit settled_debit
  kept_empty totals waiting uncounted empty heap = record {
    book = book_empty;
    positions = record { balance = λ m i. refl };
    totals = record {
      longs = λ i. Prim.rw uncounted (sym (total-nothing 9999 (λ m. credit_among [] m i - debit_among [] m i) (λ m. refl)));
      shorts = λ i. Prim.rw uncounted (sym (total-nothing 9999 (λ m. debit_among [] m i - credit_among [] m i) (λ m. refl)));
    };
    undue = λ f. Prim.rw empty refl;
    named = Prim.rw empty (All-nil (IsNamed []));
    named_issues = Prim.rw empty (All-nil (HasIssue totals));
    heap = heap;
  }

  issues_stay : (totals next : HashMap ℕ Totals T) → KeepIssues totals next → (waiting : List Undue) → All (HasIssue totals) waiting → All (HasIssue next) waiting
  issues_stay totals next keep = All-weaker (HasIssue totals) (HasIssue next) (λ t one. keep _ one)

module _ {T : Type 0} {h : List NetEntry} {old : List (Holding × Position)} {totals : HashMap ℕ Totals T} {waiting : List Undue} (kept : IsKeptBook h old totals waiting) where
  -- positions that are what they were, as when what was added is taken back
  pub kept_back : {new : List (Holding × Position)} → Adds no_shares no_shares old new → IsKeptBook h new totals waiting
  kept_back adds = record {
    book = kept.book;
    positions = record { balance = λ m i. omega (arith, adds.balance m i, kept.positions.balance m i) };
    totals = totals_kept adds (λ i. refl) (λ i. refl) kept.totals;
    undue = kept.undue;
    named = all_named adds waiting kept.named;
    named_issues = kept.named_issues;
    heap = kept.heap;
  }

  pub kept_accepted : (t : Trade) {new : List (Holding × Position)} {next : HashMap ℕ Totals T} {queue : List Undue} → IsBook (Accepted t ∷ h) → Adds no_shares no_shares old new
      → ((i : ℕ) → longs_in next i ≡ longs_in totals i) → ((i : ℕ) → shorts_in next i ≡ shorts_in totals i) → KeepIssues totals next
      → IsNamed new (waiting_of t) → HasIssue next (waiting_of t) → IsPermutation (waiting_of t ∷ waiting) queue → IsHeap earlier queue → IsKeptBook (Accepted t ∷ h) new next queue
  unfolding settled_credit settled_debit
  kept_accepted t {new} {next} {queue} book adds longs shorts keep named issue perm heap = record {
    book = book;
    positions = record { balance = λ m i. omega (arith, adds.balance m i, kept.positions.balance m i) };
    totals = totals_kept adds longs shorts kept.totals;
    undue = λ f. omega (arith, sum_by_pushed f (waiting_of t) waiting queue perm, kept.undue f, sum_by-cons (λ s. f (waiting_of s)) t (undue h));
    named = All-permutation (IsNamed new) (waiting_of t ∷ waiting) queue perm (All-cons (IsNamed new) (waiting_of t) waiting named (all_named adds waiting kept.named));
    named_issues = All-permutation (HasIssue next) (waiting_of t ∷ waiting) queue perm (All-cons (HasIssue next) (waiting_of t) waiting issue (issues_stay totals next keep waiting kept.named_issues));
    heap = heap;
  }

  pub kept_settled : (member issue : ℕ) (z : ℤ) {new : List (Holding × Position)} {next : HashMap ℕ Totals T} → IsBook (Settled member issue z ∷ h)
      → Adds (shares_only_at member issue (credit_part z)) (shares_only_at member issue (debit_part z)) old new → AreTotalsOf next new → KeepIssues totals next
      → IsKeptBook (Settled member issue z ∷ h) new next waiting
  unfolding settled_credit settled_debit
  kept_settled member issue z {new} {next} book adds are keep = record {
    book = book;
    positions = record { balance = λ m i. omega (arith, adds.balance m i, kept.positions.balance m i) };
    totals = are;
    undue = kept.undue;
    named = all_named adds waiting kept.named;
    named_issues = issues_stay totals next keep waiting kept.named_issues;
    heap = kept.heap;
  }

  -- a number of the trades that are due after a netting, by those that waited
  due_then : (day : ℕ) (f : Undue → ℕ) → sum_by (λ t. f (waiting_of t)) (due (Netted day ∷ h)) ≡ sum_by (λ t. f (waiting_of t)) (due h) + sum_by (if_settled day f) waiting
  due_then day f = omega (arith, kept.undue (if_settled day f), due-netting f None day h)

  -- the positions as after a netting of a day
  pub positions_netted : {g : List NetEntry} → h ≡ g → {day : ℕ} {new : List (Holding × Position)} → Adds (brought_due Add day waiting) (taken_due Add day waiting) old new
      → ArePositionsOf new (Netted day ∷ g)
  unfolding bought sold settled_credit settled_debit
  positions_netted same {day} {new} adds = subst (λ l. ArePositionsOf new (Netted day ∷ l)) same (record {
    balance = λ m i. omega (arith, adds.balance m i, kept.positions.balance m i, due_then day (bought_by m i), due_then day (sold_by m i));
  })

  pub kept_netted : (day : ℕ) {new : List (Holding × Position)} {next : HashMap ℕ Totals T} {queue : List Undue} → IsBook (Netted day ∷ h)
      → ((f : Undue → ℕ) → sum_by f queue ≡ sum_by (if_left day f) waiting) → Adds (brought_due Add day waiting) (taken_due Add day waiting) old new
      → AreTotalsOf next new → All (IsNamed new) queue → All (HasIssue next) queue → IsHeap earlier queue → IsKeptBook (Netted day ∷ h) new next queue
  kept_netted day book left adds are named issues heap = record {
    book = book;
    positions = positions_netted refl adds;
    totals = are;
    undue = λ f. left f ∙ kept.undue (if_left day f) ∙ sym (undue-netting f None day h);
    named = named;
    named_issues = issues;
    heap = heap;
  }

  -- how many become due
  pub netted_count : (day : ℕ) → sum_by (if_settled day (λ (t : Undue). 1)) waiting ≡ becoming_due h day
  netted_count day = omega (arith, due_then day (λ t. 1), counted (due h), counted (due (Netted day ∷ h)))
    where
      counted : (ts : List Trade) → length ts ≡ sum_by (λ (t : Trade). 1) ts
      counted = is_sum_by (λ ts. length ts) (λ t. 1) refl (λ t ts. omega arith)

  -- nothing stands otherwise where all trades that wait settle later than the day of a netting
  pub rows_netted : {g : List NetEntry} → h ≡ g → {day : ℕ} → All (λ (t : Undue). day < t.settle) waiting → rows_of g ≡ rows_of (Netted day ∷ g)
  unfolding bought sold settled_credit settled_debit holdings_of
  rows_netted same {day} later = subst (λ l. rows_of l ≡ rows_of (Netted day ∷ l)) same
      (same_positions h (Netted day ∷ h) (holdings_of h) (λ m i. omega (arith, none (bought_by m i))) (λ m i. omega (arith, none (sold_by m i))))
    where
      none : (f : Undue → ℕ) → sum_by (λ t. f (waiting_of t)) (due (Netted day ∷ h)) ≡ sum_by (λ t. f (waiting_of t)) (due h)
      none f = omega (arith, due_then day f, none-settled day f waiting later)

  -- the positions of a book stay near 0, whichever of the trades that wait become due
  pub kept_near : StayNear (bought_in waiting) (sold_in waiting) old
  kept_near = record {
    long = λ m i. omega (arith, long-most h m i kept.book, kept.positions.balance m i, kept.undue (bought_by m i));
    short = λ m i. omega (arith, short-most h m i kept.book, kept.positions.balance m i, kept.undue (sold_by m i));
  }

  -- and by the shares alone that come by a settlement, or by those alone that go
  pub kept_settling : (member issue : ℕ) (z : ℤ) → IsWithin (position_of h member issue) → IsWithin (position_of h member issue +ℤ z)
      → StayNear (shares_only_at member issue (credit_part z)) (shares_only_at member issue (debit_part z)) old
  kept_settling member issue z before after = record {
    long = λ m i. omega (arith, (settled-near h member issue z m i kept.book before after).0, kept.positions.balance m i);
    short = λ m i. omega (arith, (settled-near h member issue z m i kept.book before after).1, kept.positions.balance m i);
  }

  -- the totals of an issue are the history's
  pub kept_longs : (issue : ℕ) → longs_in totals issue ≡ longs_of h issue
  kept_longs issue = kept.totals.longs issue ∙ long_total 9999 old h issue kept.positions

  pub kept_shorts : (issue : ℕ) → shorts_in totals issue ≡ shorts_of h issue
  kept_shorts issue = kept.totals.shorts issue ∙ short_total 9999 old h issue kept.positions
