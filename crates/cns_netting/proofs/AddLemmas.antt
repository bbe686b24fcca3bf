-- Positions to which shares are added.
use Rattle.std.proofs.Common.{◌≡◌, ◌≤◌, ◌<◌, ◌+◌, ◌*◌, ◌^◌, ℕ, List, [], ◌++◌, length, get_or, take, refl, sym, ap, ◌∙◌, append_assoc, arith, subst}
use Rattle.std.specs.Prelude.{◌&&◌, ◌==◌, All, IsSome, if◌then◌else◌}
use Rattle.std.specs.List.{list_any}
use Rattle.std.specs.Map.{keys_of, lookup}
use Rattle.std.proofs.lemmas.Bool.{eq-eqb, or_left}
use Rattle.std.proofs.lemmas.List.{append-nil}
use Rattle.std.proofs.lemmas.List.Elements.{All-weaker}
use Rattle.std.proofs.lemmas.List.Folds.{list_any-append}
use Rattle.std.proofs.lemmas.List.Sums.{sum_by-take-le}
use Rattle.std.proofs.lemmas.Map.Made.{is_some-lookup}
use Rattle.cns_ids.specs.Holding.{holding_at, holding_eq}
use Rattle.cns_ids.specs.declared.holding.Holding.{Holding}
use Rattle.cns_ids.proofs.ListLemmas.{either_none}
use Rattle.cns_netting.specs.History.{credit_part, debit_part}
use Rattle.cns_netting.specs.Positions.{Adds, brought_by, brought_due, IsNamed, no_shares, position_found, position_among, shares_only_at, StayNear, taken_by, taken_due}
use Rattle.cns_netting.specs.Undue.{delivering, if_settled, receiving}
use Rattle.cns_netting.specs.declared.positions.Position.{Position}
use Rattle.cns_netting.specs.declared.undue.Change.{Change}
use Rattle.cns_netting.specs.declared.undue.Change.TheVariants.{Add, TakeBack}
use Rattle.cns_netting.specs.declared.undue.Undue.{Undue}
use Rattle.cns_netting.proofs.PositionLemmas.{IsPut, put_there}
use Rattle.cns_netting.proofs.QueueLemmas.{later_more, settled_more}

-- the part of a holding in what it has alone
whole : (member issue shares : ℕ) → shares_only_at member issue shares member issue ≡ shares
whole member issue shares = rw (eq-eqb member member refl, eq-eqb issue issue refl) refl

-- what is put at a holding alone adds to its position alone
pub put_adds : (member issue : ℕ) (was w : Position) (credit debit : ℕ) (old new : List (Holding × Position)) → IsPut member issue w old new → was ≡ position_among old member issue
    → credit_part w.shares + (debit_part was.shares + debit) ≡ debit_part w.shares + (credit_part was.shares + credit)
    → Adds (shares_only_at member issue credit) (shares_only_at member issue debit) old new
put_adds member issue was w credit debit old new put found moves = record {
  balance = put_there member issue w (λ k. lookup (holding_eq k) old) (λ k. lookup (holding_eq k) new) put.puts
      (λ b was is. credit_part (position_found is).shares + (debit_part (position_found was).shares + (if b then debit else 0))
      ≡ debit_part (position_found is).shares + (credit_part (position_found was).shares + (if b then credit else 0)))
      (subst (λ (p : Position). credit_part w.shares + (debit_part p.shares + debit) ≡ debit_part w.shares + (credit_part p.shares + credit)) found moves) (λ o. omega arith);
  names = put.names;
}

pub put_same : (member issue : ℕ) (w : Position) (old new : List (Holding × Position)) → IsPut member issue w old new → w ≡ position_among old member issue → Adds no_shares no_shares old new
put_same member issue w old new put found =
    let adds = put_adds member issue w w 0 0 old new put found (omega arith) in
    record { balance = λ m i. omega (arith, adds.balance m i, either_none ((member == m) && (issue == i)) 0 refl); names = adds.names }

-- what may be added to a member's position may be added to the one that was found
pub near_there : (member issue credit debit : ℕ) {positions : List (Holding × Position)} {was : Position} → StayNear (shares_only_at member issue credit) (shares_only_at member issue debit) positions
    → was ≡ position_among positions member issue
    → (credit_part was.shares + credit ≤ debit_part was.shares + 3 * 10 ^ 18) × (debit_part was.shares + debit ≤ credit_part was.shares + 3 * 10 ^ 18)
near_there member issue credit debit near found =
    let had = ap (λ (p : Position). credit_part p.shares) found in
    let owed = ap (λ (p : Position). debit_part p.shares) found in
    (omega (arith, near.long member issue, whole member issue credit, had, owed), omega (arith, near.short member issue, whole member issue debit, had, owed))

module _ {credit debit : ℕ → ℕ → ℕ} {old new : List (Holding × Position)} (adds : Adds credit debit old new) where
  -- what is named stays so
  pub still_named : (k : Holding) → IsSome (lookup (holding_eq k) old) → IsSome (lookup (holding_eq k) new)
  still_named k some =
      is_some-lookup (holding_eq k) new ∙ ap (list_any (holding_eq k)) adds.names.1 ∙ list_any-append (holding_eq k) (keys_of old) adds.names.0
      ∙ or_left _ _ (sym (is_some-lookup (holding_eq k) old) ∙ some)

  pub all_named : (trades : List Undue) → All (IsNamed old) trades → All (IsNamed new) trades
  all_named = All-weaker (IsNamed old) (IsNamed new) (λ t both. (still_named _ both.0, still_named _ both.1))

  -- what is added one after another is added together
  pub adds_then : {more less : ℕ → ℕ → ℕ} {last : List (Holding × Position)} → Adds more less new last → (up down : ℕ → ℕ → ℕ)
      → ((m i : ℕ) → up m i + (debit m i + less m i) ≡ down m i + (credit m i + more m i)) → Adds up down old last
  adds_then next up down same = record {
    balance = λ m i. omega (arith, adds.balance m i, next.balance m i, same m i);
    names = (adds.names.0 ++ next.names.0, next.names.1 ∙ ap (λ ks. ks ++ next.names.0) adds.names.1 ∙ append_assoc (keys_of old) adds.names.0 next.names.0);
  }

  -- what may be added before it may be added behind it
  near_after : {up down : ℕ → ℕ → ℕ} → StayNear up down old → (more less : ℕ → ℕ → ℕ)
      → ((m i : ℕ) → credit m i + more m i ≤ up m i + debit m i) → ((m i : ℕ) → debit m i + less m i ≤ down m i + credit m i) → StayNear more less new
  near_after near more less longs shorts = record {
    long = λ m i. omega (arith, near.long m i, adds.balance m i, longs m i);
    short = λ m i. omega (arith, near.short m i, adds.balance m i, shorts m i);
  }

-- where nothing is added
pub adds_none : {credit debit : ℕ → ℕ → ℕ} (positions : List (Holding × Position)) → ((m i : ℕ) → credit m i ≡ 0) → ((m i : ℕ) → debit m i ≡ 0) → Adds credit debit positions positions
adds_none positions credits debits = record {
  balance = λ m i. omega (arith, credits m i, debits m i);
  names = ([], sym (append-nil (keys_of positions)));
}

-- what was added may be taken back, and nothing is then added
pub near_back : {credit debit : ℕ → ℕ → ℕ} {old new : List (Holding × Position)} → StayNear credit debit old → Adds credit debit old new → StayNear debit credit new
near_back {credit} {debit} near adds = near_after adds near debit credit (λ m i. omega arith) (λ m i. omega arith)

pub adds_back : {credit debit : ℕ → ℕ → ℕ} {old mid new : List (Holding × Position)} → Adds credit debit old mid → Adds debit credit mid new → Adds no_shares no_shares old new
adds_back adds back = adds_then adds back no_shares no_shares (λ m i. omega arith)

-- both members of a trade have what is named, whichever way it is added
pub receiver_named : (change : Change) (t : Undue) (positions : List (Holding × Position)) → IsNamed positions t → IsSome (lookup (holding_eq (holding_at t.issue (receiving change t))) positions)
receiver_named Add t positions named = named.0
receiver_named TakeBack t positions named = named.1

pub deliverer_named : (change : Change) (t : Undue) (positions : List (Holding × Position)) → IsNamed positions t → IsSome (lookup (holding_eq (holding_at t.issue (delivering change t))) positions)
deliverer_named Add t positions named = named.1
deliverer_named TakeBack t positions named = named.0

-- shares that go from one member to another in an issue are added in two steps
module _ (to from issue shares : ℕ) {old : List (Holding × Position)} (near : StayNear (shares_only_at to issue shares) (shares_only_at from issue shares) old) where
  pub first_near : StayNear (shares_only_at to issue shares) (shares_only_at to issue 0) old
  first_near = record {
    long = near.long;
    short = λ m i. omega (arith, near.short m i, either_none ((to == m) && (issue == i)) 0 refl);
  }

  pub second_near : {mid : List (Holding × Position)} → Adds (shares_only_at to issue shares) (shares_only_at to issue 0) old mid → StayNear (shares_only_at from issue 0) (shares_only_at from issue shares) mid
  second_near first =
      near_after first near (shares_only_at from issue 0) (shares_only_at from issue shares)
      (λ m i. omega (arith, either_none ((from == m) && (issue == i)) 0 refl)) (λ m i. omega (arith, either_none ((to == m) && (issue == i)) 0 refl))

pub both_added : (to from issue shares : ℕ) {old mid new : List (Holding × Position)} → Adds (shares_only_at to issue shares) (shares_only_at to issue 0) old mid
    → Adds (shares_only_at from issue 0) (shares_only_at from issue shares) mid new → Adds (shares_only_at to issue shares) (shares_only_at from issue shares) old new
both_added to from issue shares first second =
    adds_then first second (shares_only_at to issue shares) (shares_only_at from issue shares)
    (λ m i. omega (arith, either_none ((to == m) && (issue == i)) 0 refl, either_none ((from == m) && (issue == i)) 0 refl))

-- ---- trades that settle by a day are added one after another

module _ (change : Change) (day : ℕ) (trades : List Undue) (n : ℕ) (t : Undue) (below : n < length trades) (is : t ≡ get_or trades n t) {old mid : List (Holding × Position)}
    (so_far : Adds (brought_due change day (take n trades)) (taken_due change day (take n trades)) old mid) where
  pub next_named : All (IsNamed old) trades → IsNamed mid t
  next_named named = subst (IsNamed mid) (sym is) (all_named so_far trades named n t below)

  pub next_near : t.settle ≤ day → StayNear (brought_due change day trades) (taken_due change day trades) old
      → StayNear (λ m i. brought_by change m i t) (λ m i. taken_by change m i t) mid
  next_near due near =
      near_after so_far near (λ m i. brought_by change m i t) (λ m i. taken_by change m i t)
      (λ m i. omega (arith, settled_more day (brought_by change m i) trades n t below is due, sum_by-take-le (if_settled day (brought_by change m i)) trades (n + 1)))
      (λ m i. omega (arith, settled_more day (taken_by change m i) trades n t below is due, sum_by-take-le (if_settled day (taken_by change m i)) trades (n + 1)))

  pub next_added : t.settle ≤ day → {new : List (Holding × Position)} → Adds (λ m i. brought_by change m i t) (λ m i. taken_by change m i t) mid new
      → Adds (brought_due change day (take (n + 1) trades)) (taken_due change day (take (n + 1) trades)) old new
  next_added due one =
      adds_then so_far one (brought_due change day (take (n + 1) trades)) (taken_due change day (take (n + 1) trades))
      (λ m i. omega (arith, settled_more day (brought_by change m i) trades n t below is due, settled_more day (taken_by change m i) trades n t below is due))

  pub next_later : day < t.settle → Adds (brought_due change day (take (n + 1) trades)) (taken_due change day (take (n + 1) trades)) old mid
  next_later later = record {
    balance = λ m i. omega (arith, so_far.balance m i, later_more day (brought_by change m i) trades n t below is later, later_more day (taken_by change m i) trades n t below is later);
    names = so_far.names;
  }
