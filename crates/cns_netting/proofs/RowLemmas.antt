-- The rows of a history by the positions of its holdings: rows in order that have their sums are those.
use Rattle.std.proofs.Common.{◌≡◌, ℕ, List, [], ◌∷◌, get_or, Option, Some, None, Bool, true, false, refl, sym, ap, ◌∙◌, ◌+◌, arith, subst, Less, Equal}
use Rattle.std.specs.Prelude.{◌||◌, ◌&&◌, ◌==◌, if◌then◌else◌, filter, is_some, sum_by}
use Rattle.std.specs.List.{cons_option, filter_map, IsDistinct, list_any}
use Rattle.std.specs.Map.{keys_of, lookup}
use Rattle.std.specs.BTreeSet.{insert_key}
use Rattle.std.proofs.lemmas.Bool.Decides.{nat_tests}
use Rattle.std.proofs.lemmas.Bool.{eq-eqb, or_parts}
use Rattle.std.proofs.lemmas.List.Sums.{sum_by-cons}
use Rattle.std.proofs.lemmas.Map.Made.{is_some-lookup}
use Rattle.std.proofs.lemmas.Map.Keys.{IsDistinct-from_apart, Less-from_sorted}
use Rattle.cns_netting.specs.History.{bought, credit, credit_part, debit, debit_part, due_since, is_reached, latest, position_of, settled_credit, settled_debit, sold}
use Rattle.cns_ids.specs.Holding.{holding_at, holding_cmp, holding_eq}
use Rattle.cns_netting.specs.Rows.{holdings_of, is_row_in, open_row, rows_of}
use Rattle.cns_netting.specs.Positions.{AreInOrder, ArePositionsOf, holding_of, in_issue, position_found, row_by, row_if, row_part, rows_if}
use Rattle.cns_netting.specs.declared.positions.Position.{Position}
use Rattle.cns_netting.specs.declared.entry.NetEntry.{NetEntry}
use Rattle.cns_netting.specs.declared.entry.NetEntry.TheVariants.{Accepted, Netted, Settled}
use Rattle.cns_ids.specs.declared.holding.Holding.{Holding}
use Rattle.cns_ids.proofs.ListLemmas.{AllPairs-filter_map, either_none, entries-sum, list_any-insert_key, same_sums}
use Rattle.cns_netting.specs.declared.position.PositionRow.{PositionRow}
use Rattle.cns_netting.proofs.HoldingLemmas.{AreAscending, equal_holdings, holding_eq_laws, holdings-ascending}
use Rattle.cns_netting.proofs.OrderLemmas.{AreRising, IsBefore, in_issue-holding, in_issue-none, same_rows}
use Rattle.cns_netting.proofs.PositionLemmas.{by_parts}
use Rattle.cns_netting.proofs.TradeLemmas.{bought-due, sold-due}

-- ---- which holdings a history names

there-inserted : (q k : Holding) (ks : List Holding) → list_any (holding_eq q) (insert_key holding_cmp ks k) ≡ (holding_eq q k || list_any (holding_eq q) ks)
there-inserted q k ks = list_any-insert_key holding_cmp (holding_eq q) k ks (λ x e. ap (holding_eq q) (equal_holdings k x (same x e)))
  where
    same : (x : Holding) → holding_cmp k x ≡ Equal → holding_eq k x ≡ true
    same x e = grind (arith, nat_tests)

-- what is not the place of a member in an issue gets nothing that goes there
not_here : (q : Holding) (i m n : ℕ) → holding_eq q (holding_at i m) ≡ false → ◌≡◌ {A = ℕ} (if (m == q.member) && (i == q.issue) then n else 0) 0
not_here q i m n e = grind (arith, nat_tests)

-- nothing stands for a holding that is not named, or against it
pub record IsBare (reached : Option ℕ) (h : List NetEntry) (q : Holding) : Type 0 where
  pub bought : bought (due_since reached h) q.member q.issue ≡ 0
  pub sold : sold (due_since reached h) q.member q.issue ≡ 0
  pub settled_credit : settled_credit h q.member q.issue ≡ 0
  pub settled_debit : settled_debit h q.member q.issue ≡ 0

bare : (reached : Option ℕ) (h : List NetEntry) (q : Holding) → list_any (holding_eq q) (holdings_of h) ≡ false → IsBare reached h q
unfolding holdings_of settled_credit settled_debit bought sold
bare reached [] q none = record { bought = refl; sold = refl; settled_credit = refl; settled_debit = refl }
bare reached (Netted d ∷ h) q none =
    let rest = bare (latest reached d) h q none in
    record { bought = rest.bought; sold = rest.sold; settled_credit = rest.settled_credit; settled_debit = rest.settled_debit }
bare reached (Settled m i z ∷ h) q none =
    let apart = or_parts _ _ (sym (there-inserted q (holding_at i m) (holdings_of h)) ∙ none) in
    let rest = bare reached h q apart.1 in
    record {
      bought = rest.bought;
      sold = rest.sold;
      settled_credit = omega (arith, not_here q i m (credit_part z) apart.0, rest.settled_credit);
      settled_debit = omega (arith, not_here q i m (debit_part z) apart.0, rest.settled_debit);
    }
bare reached (Accepted t ∷ h) q none =
    let with_buyer = insert_key holding_cmp (holdings_of h) (holding_at t.issue t.buyer) in
    let seller = or_parts _ _ (sym (there-inserted q (holding_at t.issue t.seller) with_buyer) ∙ none) in
    let buyer = or_parts _ _ (sym (there-inserted q (holding_at t.issue t.buyer) (holdings_of h)) ∙ seller.1) in
    let rest = bare reached h q buyer.1 in
    record {
      bought = omega (arith, bought-due (is_reached reached t.settle) t (due_since reached h) q.member q.issue, rest.bought, either_none (is_reached reached t.settle) (if (t.buyer == q.member) && (t.issue == q.issue) then t.quantity else 0) (not_here q t.issue t.buyer t.quantity buyer.0));
      sold = omega (arith, sold-due (is_reached reached t.settle) t (due_since reached h) q.member q.issue, rest.sold, either_none (is_reached reached t.settle) (if (t.seller == q.member) && (t.issue == q.issue) then t.quantity else 0) (not_here q t.issue t.seller t.quantity seller.0));
      settled_credit = rest.settled_credit;
      settled_debit = rest.settled_debit;
    }

-- a holding that is not named has no row
no_row : (h : List NetEntry) (q : Holding) → list_any (holding_eq q) (holdings_of h) ≡ false → open_row h q ≡ None
unfolding open_row
no_row h q none =
    let nothing = bare None h q none in
    let same : (credit h q.member q.issue == debit h q.member q.issue) ≡ true =
    eq-eqb (credit h q.member q.issue) (debit h q.member q.issue) (omega (arith, nothing.bought, nothing.sold, nothing.settled_credit, nothing.settled_debit)) in
    Prim.rw same refl

-- ---- the rows of holdings

apart : (ks : List Holding) → AreAscending ks → IsDistinct holding_eq ks
apart ks order = IsDistinct-from_apart holding_eq ks (λ i j d less below. differ (get_or ks i d) (get_or ks j d) (Less-from_sorted holding_cmp ks i j d order less below))
  where
    differ : (a b : Holding) → holding_cmp a b ≡ Less → holding_eq a b ≡ false
    differ a b e = grind (arith, nat_tests)

-- a row is its holding's
open_row-holding : (h : List NetEntry) (k : Holding) (row : PositionRow) → open_row h k ≡ Some row → holding_of row ≡ k
unfolding open_row
open_row-holding h k row e = by (credit h k.member k.issue == debit h k.member k.issue) e
  where
    by : (b : Bool) → (if b then None else Some (record { issue = k.issue; member = k.member; position = position_of h k.member k.issue })) ≡ Some row → holding_of row ≡ k
    by true g = cc g
    by false g = cc g

-- holdings have the same rows by two histories with the same positions
pub same_positions : (a b : List NetEntry) (ks : List Holding) → ((m i : ℕ) → credit a m i ≡ credit b m i) → ((m i : ℕ) → debit a m i ≡ debit b m i)
    → filter_map (open_row a) ks ≡ filter_map (open_row b) ks
unfolding open_row
same_positions a b ks credits debits = λ i. filter_map (λ k. one k i) ks
  where
    one : (k : Holding) → open_row a k ≡ open_row b k
    one k = Prim.rw (credits k.member k.issue, debits k.member k.issue) refl

-- the row of a holding, of an issue alone, where one is given
abbrev row_for : Option ℕ → List NetEntry → Holding → Option PositionRow
row_for issue h k = in_issue issue k (open_row h k)

rows_in_issue : (i : ℕ) (h : List NetEntry) (ks : List Holding) → filter_map (row_for (Some i) h) ks ≡ filter (is_row_in i) (filter_map (open_row h) ks)
rows_in_issue i h [] = refl
rows_in_issue i h (k ∷ ks) = by (k.issue == i) refl (open_row h k) refl (rows_in_issue i h ks)
  where
    kept : (row : PositionRow) (ys xs : List PositionRow) → is_row_in i row ≡ true → xs ≡ filter (is_row_in i) ys → row ∷ xs ≡ filter (is_row_in i) (row ∷ ys)
    kept row ys xs e rest = Prim.rw e (ap (λ l. row ∷ l) rest)

    left_out : (row : PositionRow) (ys xs : List PositionRow) → is_row_in i row ≡ false → xs ≡ filter (is_row_in i) ys → xs ≡ filter (is_row_in i) (row ∷ ys)
    left_out row ys xs e rest = Prim.rw e rest

    by : (b : Bool) → (k.issue == i) ≡ b → (o : Option PositionRow) → open_row h k ≡ o
        → filter_map (row_for (Some i) h) ks ≡ filter (is_row_in i) (filter_map (open_row h) ks)
        → cons_option (if b then o else None) (filter_map (row_for (Some i) h) ks) ≡ filter (is_row_in i) (cons_option o (filter_map (open_row h) ks))
    by true e None f rest = rest
    by true e (Some row) f rest = kept row (filter_map (open_row h) ks) _ (ap (λ (q : Holding). q.issue == i) (open_row-holding h k row f) ∙ e) rest
    by false e None f rest = rest
    by false e (Some row) f rest = left_out row (filter_map (open_row h) ks) _ (ap (λ (q : Holding). q.issue == i) (open_row-holding h k row f) ∙ e) rest

-- a holding's row by its positions is its row by the history
row_by-history : (positions : List (Holding × Position)) (h : List NetEntry) → ArePositionsOf positions h → (q : Holding) → row_by q (lookup (holding_eq q) positions) ≡ open_row h q
unfolding open_row
row_by-history positions h are q = by (lookup (holding_eq q) positions) (are.balance q.member q.issue)
  where
    same_test : (a b c d : ℕ) → a + d ≡ b + c → (a == b) ≡ (c == d)
    same_test a b c d e = grind (arith, nat_tests)

    by : (o : Option Position) → credit_part (position_found o).shares + debit h q.member q.issue ≡ debit_part (position_found o).shares + credit h q.member q.issue → row_by q o ≡ open_row h q
    by None e = Prim.rw (sym (same_test 0 0 (credit h q.member q.issue) (debit h q.member q.issue) e)) refl
    by (Some s) e = Prim.rw (
      same_test (credit_part s.shares) (debit_part s.shares) (credit h q.member q.issue) (debit h q.member q.issue) e,
      by_parts s.shares (credit h q.member q.issue) (debit h q.member q.issue) e,
    ) refl

-- the rows of holdings that rise do so
rows-rising : (rows : Holding → Option PositionRow) → ((k : Holding) (row : PositionRow) → rows k ≡ Some row → holding_of row ≡ k) → (ks : List Holding) → AreAscending ks → AreRising (filter_map rows ks)
rows-rising rows own ks order =
    AllPairs-filter_map (λ (k q : Holding). holding_cmp k q ≡ Less) IsBefore rows
    (λ k q row later first second less.
    subst (λ (p : Holding). holding_cmp p (holding_of later) ≡ Less) (sym (own k row first)) (subst (λ (p : Holding). holding_cmp k p ≡ Less) (sym (own q later second)) less))
    ks (λ i j d less below. Less-from_sorted holding_cmp ks i j d order less below)

rows_for : (issue : Option ℕ) (h : List NetEntry) → filter_map (row_for issue h) (holdings_of h) ≡ rows_if issue (rows_of h)
rows_for None h = refl
rows_for (Some i) h = rows_in_issue i h (holdings_of h)

-- those of a history do
pub rising : (h : List NetEntry) → AreRising (rows_of h)
rising h = rows-rising (open_row h) (open_row-holding h) (holdings_of h) (holdings-ascending h)

-- ---- sums over the rows

-- a sum over rows, by what there is of each that they are made of
pub filter_map-sum : {X : Type 0} (f : PositionRow → ℕ) (rows : X → Option PositionRow) (ks : List X) → sum_by f (filter_map rows ks) ≡ sum_by (λ k. row_part f (rows k)) ks
filter_map-sum f rows [] = refl
filter_map-sum f rows (k ∷ ks) = by (rows k) refl (filter_map-sum f rows ks)
  where
    by : (o : Option PositionRow) → rows k ≡ o → sum_by f (filter_map rows ks) ≡ sum_by (λ q. row_part f (rows q)) ks → sum_by f (cons_option o (filter_map rows ks)) ≡ sum_by (λ q. row_part f (rows q)) (k ∷ ks)
    by None e rest = omega (arith, sum_by-cons (λ q. row_part f (rows q)) k ks, rest, ap (row_part f) e)
    by (Some row) e rest = omega (arith, sum_by-cons f row (filter_map rows ks), sum_by-cons (λ q. row_part f (rows q)) k ks, rest, ap (row_part f) e)

-- a sum over the rows of some holdings is the one over those of the history, where no other holding has a row
pub sum_by_holdings : (issue : Option ℕ) (positions : List (Holding × Position)) (h : List NetEntry) (f : PositionRow → ℕ) (ks : List Holding) → IsDistinct holding_eq ks → ArePositionsOf positions h
    → ((q : Holding) → list_any (holding_eq q) ks ≡ false → row_if issue q (lookup (holding_eq q) positions) ≡ None)
    → sum_by (λ q. row_part f (row_if issue q (lookup (holding_eq q) positions))) ks ≡ sum_by f (rows_if issue (rows_of h))
sum_by_holdings issue positions h f ks distinct are others =
    (λ i. sum_by (λ q. row_part f (in_issue issue q (row_by-history positions h are q i))) ks)
    ∙ same_sums holding_eq_laws equal_holdings (λ q. row_part f (row_for issue h q)) ks (holdings_of h) distinct (apart (holdings_of h) (holdings-ascending h))
    (λ q none. ap (row_part f) (sym (ap (in_issue issue q) (row_by-history positions h are q)) ∙ others q none))
    (λ q none. ap (row_part f) (ap (in_issue issue q) (no_row h q none) ∙ in_issue-none issue q))
    ∙ sym (filter_map-sum f (row_for issue h) (holdings_of h)) ∙ ap (sum_by f) (rows_for issue h)

-- so is the one over the rows of all holdings that are named
pub sum_by_entries : (issue : Option ℕ) (positions : List (Holding × Position)) (h : List NetEntry) (f : PositionRow → ℕ) → IsDistinct holding_eq (keys_of positions) → ArePositionsOf positions h
    → sum_by (λ (e : Holding × Position). row_part f (row_if issue e.0 (Some e.1))) positions ≡ sum_by f (rows_if issue (rows_of h))
sum_by_entries issue positions h f unique are =
    entries-sum holding_eq_laws (λ q o. row_part f (row_if issue q o)) positions unique
    ∙ sum_by_holdings issue positions h f (keys_of positions) unique are
    (λ q none. ap (row_if issue q) (none_from_absent (lookup (holding_eq q) positions) (is_some-lookup (holding_eq q) positions ∙ none)) ∙ in_issue-none issue q)
  where
    none_from_absent : (o : Option Position) → is_some o ≡ false → o ≡ None
    none_from_absent None e = refl
    none_from_absent (Some s) e = cc e

-- rows in order that have the sums of those of a history are those
pub rows_by_sums : (issue : Option ℕ) (h : List NetEntry) (xs : List PositionRow) → ((f : PositionRow → ℕ) → sum_by f xs ≡ sum_by f (rows_if issue (rows_of h))) → AreInOrder xs
    → xs ≡ rows_if issue (rows_of h)
rows_by_sums issue h xs sums order =
    same_rows xs (rows_if issue (rows_of h)) order
    (subst AreRising (rows_for issue h) (rows-rising (row_for issue h) (λ k row. in_issue-holding issue k (open_row h k) row (open_row-holding h k row)) (holdings_of h) (holdings-ascending h))) sums
