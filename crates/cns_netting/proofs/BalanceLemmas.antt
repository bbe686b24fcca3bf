-- In each issue the positions of the members 1 to n balance: what is bought is sold.
use Rattle.std.proofs.Common.{◌≡◌, ◌≤◌, ◌<◌, ◌+◌, ℕ, zero, suc, List, [], ◌∷◌, Option, None, Bool, true, false, refl, arith, inl, inr}
use Rattle.std.specs.Prelude.{◌&&◌, ◌==◌, sum_by, if◌then◌else◌}
use Rattle.std.proofs.lemmas.Bool.{cases_eq, cases_lt, eq-eqb, ne_eqb}
use Rattle.std.proofs.lemmas.List.Sums.{sum_by-cons}
use Rattle.cns_ids.proofs.ListLemmas.{either-sum, either_none}
use Rattle.cns_trades.specs.declared.trade.Trade.{Trade}
use Rattle.cns_netting.specs.History.{bought, credit, debit, due, due_since, is_reached, latest, long_up_to, settled_credit, settled_debit, short_up_to, sold}
use Rattle.cns_netting.specs.declared.entry.NetEntry.{NetEntry}
use Rattle.cns_netting.specs.declared.entry.NetEntry.TheVariants.{Accepted, Netted, Settled}
use Rattle.cns_netting.specs.Positions.{bought_by, sold_by}
use Rattle.cns_netting.specs.Undue.{waiting_of}
unfoldable pub use Rattle.cns_netting.specs.Totals.{total}

-- ---- sums over the members 1 to n

pub total-same : (n : ℕ) (f g : ℕ → ℕ) → ((k : ℕ) → f k ≡ g k) → total n f ≡ total n g
unfolding total
total-same zero f g each = refl
total-same (suc n) f g each = omega (arith, each (suc n), total-same n f g each)

pub total-plus : (n : ℕ) (f g s : ℕ → ℕ) → ((k : ℕ) → s k ≡ f k + g k) → total n s ≡ total n f + total n g
unfolding total
total-plus zero f g s each = refl
total-plus (suc n) f g s each = omega (arith, each (suc n), total-plus n f g s each)

pub total-nothing : (n : ℕ) (f : ℕ → ℕ) → ((k : ℕ) → f k ≡ 0) → total n f ≡ 0
unfolding total
total-nothing zero f each = refl
total-nothing (suc n) f each = omega (arith, each (suc n), total-nothing n f each)

-- shares that are one member's alone are counted once where it is 1 to n, and never above that
total-above : (n m q : ℕ) → n < m → total n (λ k. if m == k then q else 0) ≡ 0
unfolding total
total-above zero m q above = refl
total-above (suc n) m q above = rw (ne_eqb m (suc n) (λ e. omega arith)) (omega (arith, total-above n m q (omega arith)))

pub total-one : (n m q : ℕ) → 1 ≤ m → m ≤ n → total n (λ k. if m == k then q else 0) ≡ q
unfolding total
total-one zero m q from to = absurd (omega arith)
total-one (suc n) m q from to =
    elim (cases_eq m (suc n)) [
      | inl e ↦ rw (eq-eqb m (suc n) e) (omega (arith, total-above n m q (omega arith)))
      | inr ne ↦ rw (ne_eqb m (suc n) ne) (omega (arith, total-one n m q from (omega arith)))
    ]

-- a number that only the members 1 to n have
pub record IsUpTo (n : ℕ) (f : ℕ → ℕ) : Type 0 where
  pub zeroth : f 0 ≡ 0
  pub above : (m : ℕ) → n < m → f m ≡ 0

-- a number that is at most such a one
pub upto_less : (n : ℕ) (f g : ℕ → ℕ) → ((k : ℕ) → f k ≤ g k) → IsUpTo n g → IsUpTo n f
upto_less n f g each upto = record {
  zeroth = let less = each 0 in let none = upto.zeroth in omega arith;
  above = λ m le. let less = each m in let none = upto.above m le in omega arith;
}

-- the part of a member in a sum over things that each have one
abbrev pub part_of : {X : Type 0} → (X → ℕ) → (X → ℕ) → List X → ℕ → ℕ
part_of who f xs m = sum_by (λ x. if who x == m then f x else 0) xs

-- a sum over things, of which only the members 1 to n have parts, is the sum of their parts
pub parts_total : {X : Type 0} (n : ℕ) (who f : X → ℕ) (xs : List X) → IsUpTo n (part_of who f xs) → total n (part_of who f xs) ≡ sum_by f xs
parts_total n who f [] upto = total-nothing n (part_of who f []) (λ k. refl)
parts_total n who f (x ∷ xs) upto =
    let cons : (k : ℕ) → part_of who f (x ∷ xs) k ≡ (if who x == k then f x else 0) + part_of who f xs k =
    λ k. sum_by-cons (λ y. if who y == k then f y else 0) x xs in
    let rest =
    parts_total n who f xs (record {
      zeroth = let is = cons 0 in let none = upto.zeroth in omega arith;
      above = λ m le. let is = cons m in let none = upto.above m le in omega arith;
    }) in
    let parts = total-plus n (λ k. if who x == k then f x else 0) (part_of who f xs) (part_of who f (x ∷ xs)) cons in
    omega (arith, parts, rest, sum_by-cons f x xs, here)
  where
    mine : (m : ℕ) → who x ≡ m → part_of who f (x ∷ xs) m ≡ 0 → f x ≡ 0
    mine m e none =
        let its : ◌≡◌ {A = ℕ} (if who x == m then f x else 0) (f x) = rw (eq-eqb (who x) m e) refl in
        omega (arith, sum_by-cons (λ y. if who y == m then f y else 0) x xs, its, none)

    nobody : f x ≡ 0 → total n (λ k. if who x == k then f x else 0) ≡ f x
    nobody none = omega (arith, none, total-nothing n (λ k. if who x == k then f x else 0) (λ k. either_none (who x == k) (f x) none))

    here : total n (λ k. if who x == k then f x else 0) ≡ f x
    here =
        elim (cases_eq (who x) 0) [
          | inl e ↦ nobody (mine 0 e upto.zeroth)
          | inr ne ↦
              elim (cases_lt n (who x)) [
                | inl less ↦ nobody (mine (who x) refl (upto.above (who x) less))
                | inr le ↦ total-one n (who x) (f x) (omega arith) le
              ]
        ]

-- ---- what is bought is sold

-- buyers and sellers are 1 to n
abbrev pub AreMembers : ℕ → List NetEntry → Type 0
AreMembers n [] = Unit {0}
AreMembers n (Accepted t ∷ h) = (1 ≤ t.buyer) × (t.buyer ≤ n) × (1 ≤ t.seller) × (t.seller ≤ n) × AreMembers n h
AreMembers n (Netted d ∷ h) = AreMembers n h
AreMembers n (Settled m i z ∷ h) = AreMembers n h

-- a number is not 1 to n
pub record IsNoMember (n m : ℕ) : Type 0 where
  pub not : 1 ≤ m → n < m

up_to : (n : ℕ) (f : ℕ → ℕ) → ((m : ℕ) → IsNoMember n m → f m ≡ 0) → IsUpTo n f
up_to n f none = record {
  zeroth = none 0 (record { not = λ le. absurd (omega arith) });
  above = λ m less. none m (record { not = λ le. less });
}

-- a number that no trade between the members 1 to n has sums to nothing
due_none : (n : ℕ) (f : Trade → ℕ) → ((t : Trade) → (1 ≤ t.buyer) × (t.buyer ≤ n) × (1 ≤ t.seller) × (t.seller ≤ n) → f t ≡ 0)
    → (reached : Option ℕ) (h : List NetEntry) → AreMembers n h → sum_by f (due_since reached h) ≡ 0
due_none n f none reached [] members = refl
due_none n f none reached (Accepted t ∷ h) members =
    omega (
      arith,
      either-sum f (is_reached reached t.settle) t (due_since reached h),
      either_none (is_reached reached t.settle) (f t) (none t (members.0, members.1, members.2, members.3)),
      due_none n f none reached h members.4,
    )
due_none n f none reached (Netted d ∷ h) members = due_none n f none (latest reached d) h members
due_none n f none reached (Settled k j z ∷ h) members = due_none n f none reached h members

party_none : (n m p : ℕ) (b : Bool) (q : ℕ) → IsNoMember n m → 1 ≤ p → p ≤ n → (if (p == m) && b then q else 0) ≡ 0
party_none n m p b q none from to = rw (ne_eqb p m (λ e. let not = none.not in omega arith)) refl

-- only the members 1 to n bought and sold
pub bought-members : (n i : ℕ) (h : List NetEntry) → AreMembers n h → IsUpTo n (λ m. bought (due h) m i)
unfolding bought
bought-members n i h members =
    up_to n _ (λ m none. due_none n (λ t. bought_by m i (waiting_of t)) (λ t among. party_none n m t.buyer (t.issue == i) t.quantity none among.0 among.1) None h members)

pub sold-members : (n i : ℕ) (h : List NetEntry) → AreMembers n h → IsUpTo n (λ m. sold (due h) m i)
unfolding sold
sold-members n i h members =
    up_to n _ (λ m none. due_none n (λ t. sold_by m i (waiting_of t)) (λ t among. party_none n m t.seller (t.issue == i) t.quantity none among.2 among.3) None h members)

-- the shares that a trade moves in an issue
traded : ℕ → Trade → ℕ
traded i t = if t.issue == i then t.quantity else 0

and_nested : (a b : Bool) (q : ℕ) → (if a && b then q else 0) ≡ (if a then (if b then q else 0) else 0)
and_nested true b q = refl
and_nested false b q = refl

bought-part : (ts : List Trade) (m i : ℕ) → bought ts m i ≡ part_of (λ (t : Trade). t.buyer) (traded i) ts m
unfolding bought traded
bought-part ts m i = simp and_nested

sold-part : (ts : List Trade) (m i : ℕ) → sold ts m i ≡ part_of (λ (t : Trade). t.seller) (traded i) ts m
unfolding sold traded
sold-part ts m i = simp and_nested

-- in each issue all members together bought what they sold
bought-sold : (n i : ℕ) (h : List NetEntry) → AreMembers n h → total n (λ m. bought (due h) m i) ≡ total n (λ m. sold (due h) m i)
bought-sold n i h members =
    let buys : (m : ℕ) → bought (due h) m i ≡ part_of (λ (t : Trade). t.buyer) (traded i) (due h) m = λ m. bought-part (due h) m i in
    let sells : (m : ℕ) → sold (due h) m i ≡ part_of (λ (t : Trade). t.seller) (traded i) (due h) m = λ m. sold-part (due h) m i in
    let b = parts_total n (λ (t : Trade). t.buyer) (traded i) (due h) (upto_less n _ _ (λ m. let is = buys m in omega arith) (bought-members n i h members)) in
    let s = parts_total n (λ (t : Trade). t.seller) (traded i) (due h) (upto_less n _ _ (λ m. let is = sells m in omega arith) (sold-members n i h members)) in
    omega (arith, total-same n _ _ buys, total-same n _ _ sells, b, s)

-- ---- the positions

-- longs and debits are shorts and credits
longs-shorts : (n i : ℕ) (h : List NetEntry)
    → long_up_to n h i + total n (λ m. debit h m i) ≡ short_up_to n h i + total n (λ m. credit h m i)
unfolding long_up_to short_up_to total
longs-shorts zero i h = refl
longs-shorts (suc n) i h = omega (arith, longs-shorts n i h)

-- in each issue longs and what settlements took are shorts and what settlements brought
pub longs_balance : (n i : ℕ) (h : List NetEntry) → AreMembers n h
    → long_up_to n h i + total n (λ m. settled_debit h m i) ≡ short_up_to n h i + total n (λ m. settled_credit h m i)
longs_balance n i h members =
    omega (
      arith,
      longs-shorts n i h,
      total-plus n (λ m. bought (due h) m i) (λ m. settled_credit h m i) (λ m. credit h m i) (λ k. refl),
      total-plus n (λ m. sold (due h) m i) (λ m. settled_debit h m i) (λ m. debit h m i) (λ k. refl),
      bought-sold n i h members,
    )
