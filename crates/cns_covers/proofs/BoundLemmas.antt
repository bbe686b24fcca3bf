-- The bounds hold as a history and its movements grow, and what follows from them.
use Rattle.std.proofs.Common.{◌≡◌, ◌≤◌, ◌+◌, ◌*◌, ℕ, zero, suc, List, [], ◌∷◌, length, Option, Some, None, Bool, true, false, cond, refl, ap, arith, Less}
use Rattle.std.specs.Prelude.{◌&&◌, ◌==◌, All, IfSome, count_by, ℤ, pos, negsuc, neg_ℤ, ◌-ℤ◌, ◌+ℤ◌, ◌≤ℤ◌, sum_by, if◌then◌else◌}
use Rattle.std.specs.List.{filter_map, cons_option}
use Rattle.std.proofs.Math.Nat.{add-mul, mul-le-mul_right}
use Rattle.std.proofs.lemmas.Bool.{and_from, cond_both, eq-eqb, eqb-true, false_from_ne_true}
use Rattle.std.proofs.lemmas.Cmp.{tied_itself}
use Rattle.std.proofs.lemmas.Int.{ints}
use Rattle.std.proofs.lemmas.List.Elements.{All-head, All-tail, All-weaker}
use Rattle.std.proofs.lemmas.List.Sums.{sum_by-cons}
use Rattle.std.proofs.lemmas.Map.Keys.{sorted_tail}
use Rattle.std.proofs.lemmas.Map.Views.{All-after_first}
use Rattle.cns_trades.specs.declared.trade.Trade.{Trade}
use Rattle.cns_netting.specs.History.{bought, credit, credit_part, debit, debit_part, due, due_since, is_reached, latest, position_of, settled_credit, settled_debit, sold}
use Rattle.cns_ids.specs.Holding.{holding_cmp}
use Rattle.cns_netting.specs.Rows.{holdings_of}
use Rattle.cns_netting.specs.Book.{IsBook, IsWithin}
use Rattle.cns_netting.specs.declared.entry.NetEntry.{NetEntry}
use Rattle.cns_netting.specs.declared.entry.NetEntry.TheVariants.{Accepted, Netted, Settled}
use Rattle.cns_ids.specs.declared.holding.Holding.{Holding}
use Rattle.cns_ids.proofs.ListLemmas.{All-filter_map, at_most, same_place, share_grows}
use Rattle.cns_netting.proofs.HoldingLemmas.{AreAscending, holding_order, holdings-ascending}
use Rattle.cns_netting.proofs.BookLemmas.{book_netted, bought-most, sold-most}
use Rattle.cns_netting.proofs.TradeLemmas.{Reaches, bought-due, reaches_latest, sold-due}
use Rattle.cns_ids.specs.declared.cycle.CycleId.{CycleId}
use Rattle.cns_movements.specs.Order.{ask_for, is_of, moved_of, numbered, open_sum, order_of, same_kind}
use Rattle.cns_movements.specs.Book.{IsOrderBook, Orders, with_asks, with_reply}
use Rattle.cns_movements.specs.declared.order.Ask.{Ask}
use Rattle.cns_movements.specs.declared.order.MoveKind.{MoveKind}
use Rattle.cns_movements.specs.declared.order.MoveKind.TheVariants.{Cover, Delivery}
use Rattle.cns_movements.specs.declared.order.Order.{Order}
use Rattle.cns_movements.specs.declared.order.Reply.{Reply}
use Rattle.cns_movements.specs.OpenShares.{asked_by}
use Rattle.cns_movements.proofs.AskLemmas.{asked_by-numbered, covers_leave_deliveries, deliveries_leave_covers, open_sum_asked}
use Rattle.cns_movements.proofs.ReplyLemmas.{nothing_either, open_sum-with_reply}
use Rattle.cns_covers.specs.Bounds.{AreBounded, AreDeliverable, amount_of, want_in}
use Rattle.cns_covers.specs.Covers.{ShortsFit, cover_of, covers_of}
use Rattle.cns_covers.specs.declared.exemptions.Exempted.{Exempted}
use Rattle.cns_covers.proofs.RowLemmas.{cover_ask}

-- with no entry and no order there is nothing to bound
pub bounded_empty : AreBounded [] (record { orders = []; replies = [] })
unfolding settled_credit settled_debit open_sum bought sold
bounded_empty = record { covered = λ m i. omega arith; delivered = λ m i. omega arith }

-- a trade that is accepted is not yet due
pub bounded_accepted : (h : List NetEntry) (book : Orders) (t : Trade) → AreBounded h book → AreBounded (Accepted t ∷ h) book
unfolding settled_credit settled_debit
bounded_accepted h book t bounded = record { covered = λ m i. bounded.covered m i; delivered = λ m i. bounded.delivered m i }

-- a sum over the trades that are due grows as more of them are
due_grows : (part : List Trade → ℕ) (share : Trade → ℕ) → ((b : Bool) (t : Trade) (ts : List Trade) → part (if b then t ∷ ts else ts) ≡ (if b then share t else 0) + part ts)
    → (a b : Option ℕ) → Reaches a b → (h : List NetEntry) → part (due_since a h) ≤ part (due_since b h)
unfolding Reaches
due_grows part share more_by a b more [] = omega arith
due_grows part share more_by a b more (Accepted t ∷ h) =
    let one = share_grows (is_reached a t.settle) (is_reached b t.settle) (share t) (more t.settle) in
    omega (arith, one, more_by (is_reached a t.settle) t (due_since a h), more_by (is_reached b t.settle) t (due_since b h), due_grows part share more_by a b more h)
due_grows part share more_by a b more (Netted d ∷ h) = due_grows part share more_by (latest a d) (latest b d) (reaches_latest a b d more) h
due_grows part share more_by a b more (Settled k j z ∷ h) = due_grows part share more_by a b more h

-- a netting makes no trade undue, so no member has sold less
pub sold-grows : (h : List NetEntry) (day m i : ℕ) → sold (due h) m i ≤ sold (due (Netted day ∷ h)) m i
unfolding Reaches
sold-grows h day m i =
    due_grows (λ ts. sold ts m i) (λ t. if (t.seller == m) && (t.issue == i) then t.quantity else 0) (λ b t ts. sold-due b t ts m i) None (Some day) (λ settle e. cc e) h

-- nor has one bought less
pub bought-grows : (h : List NetEntry) (day m i : ℕ) → bought (due h) m i ≤ bought (due (Netted day ∷ h)) m i
unfolding Reaches
bought-grows h day m i =
    due_grows (λ ts. bought ts m i) (λ t. if (t.buyer == m) && (t.issue == i) then t.quantity else 0) (λ b t ts. bought-due b t ts m i) None (Some day) (λ settle e. cc e) h

-- one holding more asks for its cover, in its own place
asked_by-ask_for : (m i member issue c : ℕ) (rest : List Ask)
    → asked_by Cover m i (cons_option (ask_for Cover member issue c) rest) ≡ (if (member == m) && (issue == i) then c else 0) + asked_by Cover m i rest
unfolding asked_by
asked_by-ask_for m i member issue c rest = by (c == 0) refl
  where
    nothing : (b : Bool) (n : ℕ) → c ≡ 0 → n ≡ (if b then c else 0) + n
    nothing true n e = omega arith
    nothing false n e = omega arith

    by : (none : Bool) → (c == 0) ≡ none
        → asked_by Cover m i (cons_option (if none then None else Some (record { kind = Cover; member = member; issue = issue; asked = c })) rest)
        ≡ (if (member == m) && (issue == i) then c else 0) + asked_by Cover m i rest
    by true e = nothing ((member == m) && (issue == i)) (asked_by Cover m i rest) (eqb-true c 0 e)
    by false e = refl

-- a holding that stands after another one is not of its member and issue
pub other_place : (k x : Holding) → holding_cmp k x ≡ Less → ((x.member == k.member) && (x.issue == k.issue)) ≡ false
other_place k x less =
    false_from_ne_true _
    (λ e.
    let same = same_place x.member k.member x.issue k.issue e in
    let members = same.0 in
    let issues = same.1 in
    let itself = tied_itself holding_order k in
    cc)

-- the covers of holdings of other places
asked_by-others : (h : List NetEntry) (book : Orders) (settings : List Exempted) (k : Holding) (ks : List Holding)
    → All (λ (q : Holding). holding_cmp k q ≡ Less) ks → asked_by Cover k.member k.issue (filter_map (cover_ask h book settings) ks) ≡ 0
unfolding asked_by
asked_by-others h book settings k [] apart = refl
asked_by-others h book settings k (x ∷ xs) apart =
    let rest = asked_by-others h book settings k xs (All-tail (λ (q : Holding). holding_cmp k q ≡ Less) x xs apart) in
    let here =
    rw (other_place k x (All-head (λ (q : Holding). holding_cmp k q ≡ Less) x xs apart))
    at (asked_by-ask_for k.member k.issue x.member x.issue (cover_of h book settings x.member x.issue) (filter_map (cover_ask h book settings) xs)) in
    omega (arith, here, rest)

-- the covers of a list of holdings, each there once
asked_by-covers : (h : List NetEntry) (book : Orders) (settings : List Exempted) (ks : List Holding) (m i : ℕ) → AreAscending ks
    → asked_by Cover m i (filter_map (cover_ask h book settings) ks) ≤ cover_of h book settings m i
unfolding asked_by
asked_by-covers h book settings [] m i up = omega arith
asked_by-covers h book settings (k ∷ ks) m i up = by ((k.member == m) && (k.issue == i)) refl (asked_by-covers h book settings ks m i (sorted_tail holding_cmp k ks up))
  where
    by : (b : Bool) → ((k.member == m) && (k.issue == i)) ≡ b → asked_by Cover m i (filter_map (cover_ask h book settings) ks) ≤ cover_of h book settings m i
        → asked_by Cover m i (filter_map (cover_ask h book settings) (k ∷ ks)) ≤ cover_of h book settings m i
    by true e rest =
        let same = same_place k.member m k.issue i e in
        let none = asked_by-others h book settings k ks (All-after_first holding_cmp k ks up) in
        let shares : ℕ = cover_of h book settings k.member k.issue in
        let here = asked_by-ask_for k.member k.issue k.member k.issue shares (filter_map (cover_ask h book settings) ks) in
        rw (← same.0, ← same.1) (omega (arith, here, none, at_most ((k.member == k.member) && (k.issue == k.issue)) shares))
    by false e rest =
        let here = rw e at (asked_by-ask_for m i k.member k.issue (cover_of h book settings k.member k.issue) (filter_map (cover_ask h book settings) ks)) in
        omega (arith, here, rest)

-- a cycle orders for a member in an issue no more than its cover
pub covers-sum : (h : List NetEntry) (book : Orders) (settings : List Exempted) (cycle : Option CycleId) (m i n : ℕ)
    → sum_by (λ (o : Order). if is_of Cover m i o then o.asked else 0) (numbered n cycle (covers_of h book settings)) ≤ cover_of h book settings m i
covers-sum h book settings cycle m i n =
    rw (asked_by-numbered Cover m i n cycle (covers_of h book settings)) (asked_by-covers h book settings (holdings_of h) m i (holdings-ascending h))

-- what a cycle orders are covers
pub covers_are_covers : (h : List NetEntry) (book : Orders) (settings : List Exempted) → All (λ (a : Ask). a.kind ≡ Cover) (covers_of h book settings)
covers_are_covers h book settings =
    All-filter_map (cover_ask h book settings) (λ (k : Holding). Unit {0}) (λ (a : Ask). a.kind ≡ Cover)
    (λ k u. cond_both (cover_of h book settings k.member k.issue == 0) None (Some _) (λ o. IfSome o (λ (a : Ask). a.kind ≡ Cover)) (λ e. tt) (λ e. refl)) (holdings_of h) (λ i d below. tt)

-- after a cycle the bounds hold: its cover is at most what the member sold less what covers brought and still may bring, since
-- deliveries took no more of its position than it bought
pub bounded_cycle : (h : List NetEntry) (book : Orders) (settings : List Exempted) (cycle : Option CycleId) (day : ℕ) → IsOrderBook book → AreBounded h book
    → AreBounded (Netted day ∷ h) (with_asks book cycle (covers_of (Netted day ∷ h) book settings))
unfolding settled_credit settled_debit
bounded_cycle h book settings cycle day lawful bounded =
    let next : ℕ = length book.orders + 1 in
    let asks : List Ask = covers_of (Netted day ∷ h) book settings in
    record {
      covered = λ m i.
          omega (
            arith,
            open_sum_asked book cycle asks Cover m i lawful,
            asked_by-numbered Cover m i next cycle asks,
            covers-sum (Netted day ∷ h) book settings cycle m i next,
            bounded.covered m i,
            bounded.delivered m i,
            sold-grows h day m i,
            bought-grows h day m i,
          );
      delivered = λ m i.
          omega (
            arith,
            covers_leave_deliveries book cycle asks m i lawful (covers_are_covers (Netted day ∷ h) book settings),
            bounded.delivered m i,
            bought-grows h day m i,
          );
    }

-- ---- deliveries

-- deliveries ask for a member at most what it wants, times the number of those that are to it
asked_by-counted : (h : List NetEntry) (book : Orders) (issue : ℕ) (asks : List Ask) (m i : ℕ)
    → All (λ (a : Ask). (a.kind ≡ Delivery) × (a.issue ≡ issue) × (a.asked ≤ want_in h book a.member issue)) asks
    → asked_by Delivery m i asks ≤ count_by (λ (a : Ask). a.member == m) asks * want_in h book m i
unfolding asked_by
asked_by-counted h book issue [] m i all = omega arith
asked_by-counted h book issue (a ∷ asks) m i all =
    let want : ℕ = want_in h book m i in
    let count : count_by (λ (b : Ask). b.member == m) (a ∷ asks) ≡ cond (a.member == m) 1 0 + count_by (λ (b : Ask). b.member == m) asks =
    sum_by-cons (λ (b : Ask). cond (b.member == m) 1 0) a asks in
    let here = All-head (λ (b : Ask). (b.kind ≡ Delivery) × (b.issue ≡ issue) × (b.asked ≤ want_in h book b.member issue)) a asks all in
    let rest = All-tail (λ (b : Ask). (b.kind ≡ Delivery) × (b.issue ≡ issue) × (b.asked ≤ want_in h book b.member issue)) a asks all in
    omega (
      arith,
      one (same_kind Delivery a.kind) (a.member == m) (a.issue == i) want (λ members issues. most here.1 here.2 (eqb-true a.member m members) (eqb-true a.issue i issues)),
      ap (λ (n : ℕ). n * want) count,
      add-mul (cond (a.member == m) 1 0) (count_by (λ (b : Ask). b.member == m) asks) want,
      asked_by-counted h book issue asks m i rest,
    )
  where
    one : (kind member its : Bool) (want : ℕ) → (member ≡ true → its ≡ true → a.asked ≤ want)
        → (if kind && (member && its) then a.asked else 0) ≤ cond member 1 0 * want
    one true true true want le = let most = le refl refl in omega arith
    one true true false want le = omega arith
    one true false its want le = omega arith
    one false true its want le = omega arith
    one false false its want le = omega arith

    most : a.issue ≡ issue → a.asked ≤ want_in h book a.member issue → a.member ≡ m → a.issue ≡ i → a.asked ≤ want_in h book m i
    most of_issue le members issues = rw (← members, ← issues, of_issue) le

-- deliveries of an issue ask for a member's shares in no issue above what it wants there
asked_by-deliverable : (h : List NetEntry) (book : Orders) (issue : ℕ) (asks : List Ask) (m i : ℕ) → AreDeliverable h book issue asks
    → asked_by Delivery m i asks ≤ want_in h book m i
asked_by-deliverable h book issue asks m i deliverable =
    let times : ℕ = count_by (λ (a : Ask). a.member == m) asks in
    let counted = asked_by-counted h book issue asks m i deliverable.each in
    let alone : times * want_in h book m i ≤ 1 * want_in h book m i = mul-le-mul_right (want_in h book m i) (deliverable.once m) in
    omega (arith, counted, alone)

-- after deliveries are ordered the bounds hold: one is at most what the member bought less what deliveries took of its position
-- and still may take, since covers brought no more than it sold
pub bounded_delivered : (h : List NetEntry) (book : Orders) (cycle : Option CycleId) (issue : ℕ) (asks : List Ask) → IsOrderBook book → AreBounded h book → AreDeliverable h book issue asks
    → AreBounded h (with_asks book cycle asks)
bounded_delivered h book cycle issue asks lawful bounded deliverable =
    let kinds =
    All-weaker (λ (a : Ask). (a.kind ≡ Delivery) × (a.issue ≡ issue) × (a.asked ≤ want_in h book a.member issue)) (λ (a : Ask). a.kind ≡ Delivery)
    (λ a its. its.0) asks deliverable.each in
    record {
      covered = λ m i. omega (arith, deliveries_leave_covers book cycle asks m i lawful kinds, bounded.covered m i);
      delivered = λ m i.
          omega (
            arith,
            open_sum_asked book cycle asks Delivery m i lawful,
            asked_by-deliverable h book issue asks m i deliverable,
            bounded.covered m i,
            bounded.delivered m i,
          );
    }

-- ---- confirmations

-- a confirmed delivery brings its member's position nothing, and takes from it what it moved
pub no_credit : (moved : ℕ) → credit_part (neg_ℤ (pos moved)) ≡ 0
no_credit zero = refl
no_credit (suc n) = refl

pub all_debit : (moved : ℕ) → debit_part (neg_ℤ (pos moved)) ≡ moved
all_debit zero = refl
all_debit (suc n) = refl

-- so what a confirmed order brings is that of a cover, and what it takes that of a delivery
pub credit_moved : (kind : MoveKind) (here : Bool) (moved : ℕ) → (if here then credit_part (amount_of kind moved) else 0) ≡ (if same_kind Cover kind && here then moved else 0)
credit_moved Cover here moved = refl
credit_moved Delivery here moved = nothing_either here (credit_part (neg_ℤ (pos moved))) (no_credit moved)

pub debit_moved : (kind : MoveKind) (here : Bool) (moved : ℕ) → (if here then debit_part (amount_of kind moved) else 0) ≡ (if same_kind Delivery kind && here then moved else 0)
debit_moved Cover here moved = nothing_either here 0 refl
debit_moved Delivery here moved = ap (λ n. if here then n else 0) (all_debit moved)

-- after a first confirmation of an order and the settlement of what it moved the bounds hold
pub bounded_confirmed : (h : List NetEntry) (book : Orders) (r : Reply) (o : Order) → IsOrderBook book → AreBounded h book
    → order_of book.orders r.number ≡ Some o → moved_of book.replies r.number ≡ None → r.moved ≤ o.asked
    → AreBounded (Settled o.member o.issue (amount_of o.kind r.moved) ∷ h) (with_reply book r)
unfolding settled_credit settled_debit
bounded_confirmed h book r o lawful bounded found first within = record {
  covered = λ m i.
      by (is_of Cover m i o) (settled_credit h m i) (open_sum book.orders (r ∷ book.replies) Cover m i) (open_sum book.orders book.replies Cover m i) (sold (due h) m i)
      (if (o.member == m) && (o.issue == i) then credit_part (amount_of o.kind r.moved) else 0)
      (credit_moved o.kind ((o.member == m) && (o.issue == i)) r.moved)
      (open_sum-with_reply book.orders book.replies r o Cover m i lawful.numbered found first) (bounded.covered m i);
  delivered = λ m i.
      by (is_of Delivery m i o) (settled_debit h m i) (open_sum book.orders (r ∷ book.replies) Delivery m i) (open_sum book.orders book.replies Delivery m i) (bought (due h) m i)
      (if (o.member == m) && (o.issue == i) then debit_part (amount_of o.kind r.moved) else 0)
      (debit_moved o.kind ((o.member == m) && (o.issue == i)) r.moved)
      (open_sum-with_reply book.orders book.replies r o Delivery m i lawful.numbered found first) (bounded.delivered m i);
}
  where
    by : (b : Bool) (come left before most more : ℕ) → more ≡ (if b then r.moved else 0) → left + (if b then o.asked else 0) ≡ before → come + before ≤ most
        → (more + come) + left ≤ most
    by true come left before most more is e le = omega arith
    by false come left before most more is e le = omega arith

-- the shares sold in due trades of a book
sold_most : (h : List NetEntry) (m i : ℕ) → IsBook h → sold (due h) m i ≤ 1000000000000000000
sold_most h m i book = omega (arith, sold-most None h m i book.quantities, book.few)

bought_most : (h : List NetEntry) (m i : ℕ) → IsBook h → bought (due h) m i ≤ 1000000000000000000
bought_most h m i book = omega (arith, bought-most None h m i book.quantities, book.few)

-- settlements brought no member more than it sold in due trades
pub settled_most : (h : List NetEntry) (book : Orders) → AreBounded h book → (m i : ℕ) → settled_credit h m i ≤ sold (due h) m i
settled_most h book bounded m i = omega (arith, bounded.covered m i)

pub bounded_shorts_netted : (h : List NetEntry) (book : Orders) (day : ℕ) → IsBook h → AreBounded h book → ShortsFit (Netted day ∷ h)
unfolding settled_credit settled_debit
bounded_shorts_netted h book day fits bounded =
    record { within = λ m i. omega (arith, sold_most (Netted day ∷ h) m i (book_netted h day fits), bounded.delivered m i, bought-grows h day m i) }

-- a position by its two sides
within_sides : (c d : ℕ) → d ≤ c + 1000000000000000000 → c ≤ d + 1000000000000000000 → IsWithin (pos c -ℤ pos d)
within_sides c d low high = record { low = omega (arith, ints); high = omega (arith, ints) }

-- each position is within 10^18 of 0
pub bounded_within : (h : List NetEntry) (book : Orders) (m i : ℕ) → IsBook h → AreBounded h book → IsWithin (position_of h m i)
bounded_within h book m i fits bounded =
    within_sides (credit h m i) (debit h m i)
    (omega (arith, sold_most h m i fits, bounded.delivered m i))
    (omega (arith, bought_most h m i fits, bounded.covered m i))

-- a position with an amount added, by its two sides
moved_sides : (c d : ℕ) (z : ℤ) → IsWithin (pos (credit_part z + c) -ℤ pos (debit_part z + d)) → IsWithin ((pos c -ℤ pos d) +ℤ z)
moved_sides c d (pos n) w = record { low = omega (arith, ints, w.low); high = omega (arith, ints, w.high) }
moved_sides c d (negsuc n) w = record { low = omega (arith, ints, w.low); high = omega (arith, ints, w.high) }

-- and stays so where a first confirmation moves what its order asked for or less
pub confirmed_within : (h : List NetEntry) (book : Orders) (r : Reply) (o : Order) → IsOrderBook book → AreBounded h book
    → order_of book.orders r.number ≡ Some o → moved_of book.replies r.number ≡ None → r.moved ≤ o.asked → IsBook h
    → IsWithin (position_of h o.member o.issue +ℤ amount_of o.kind r.moved)
unfolding settled_credit settled_debit
confirmed_within h book r o lawful bounded found first within fits =
    let z : ℤ = amount_of o.kind r.moved in
    let m : ℕ = o.member in
    let i : ℕ = o.issue in
    let same = and_from (m == m) (i == i) (eq-eqb m m refl) (eq-eqb i i refl) in
    let after = bounded_confirmed h book r o lawful bounded found first within in
    let come = rw same at (after.covered m i) in
    let gone = rw same at (after.delivered m i) in
    moved_sides (credit h m i) (debit h m i) z
    (within_sides (credit_part z + credit h m i) (debit_part z + debit h m i)
    (omega (arith, sold_most h m i fits, gone))
    (omega (arith, bought_most h m i fits, come)))

-- a member is never to deliver more than it sold in due trades, also once all open deliveries are filled, nor to receive more than
-- it bought, also once all open covers are filled
pub position_bounds : (h : List NetEntry) (book : Orders) (m i : ℕ) → AreBounded h book
    → (neg_ℤ (pos (sold (due h) m i)) ≤ℤ (position_of h m i -ℤ pos (open_sum book.orders book.replies Delivery m i)))
    × ((position_of h m i +ℤ pos (open_sum book.orders book.replies Cover m i)) ≤ℤ pos (bought (due h) m i))
position_bounds h book m i bounded =
    by (bought (due h) m i) (settled_credit h m i) (sold (due h) m i) (settled_debit h m i)
    (open_sum book.orders book.replies Cover m i) (open_sum book.orders book.replies Delivery m i) (bounded.covered m i) (bounded.delivered m i)
  where
    by : (b come s gone more less : ℕ) → come + more ≤ s → gone + less ≤ b
        → (neg_ℤ (pos s) ≤ℤ ((pos (b + come) -ℤ pos (s + gone)) -ℤ pos less)) × (((pos (b + come) -ℤ pos (s + gone)) +ℤ pos more) ≤ℤ pos b)
    by b come s gone more less covered delivered = (omega (arith, ints), omega (arith, ints))
