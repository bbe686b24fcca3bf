-- Due and undue trades: a trade's part in the sums over them, the dates that nettings reach, and what a netting makes due.
use Rattle.std.proofs.Common.{◌≡◌, ◌≤◌, ◌+◌, ℕ, List, [], ◌∷◌, length, Option, Some, None, Bool, true, false, refl, sym, ◌∙◌, arith, ◌*◌, length-append, ap}
use Rattle.std.specs.Prelude.{◌&&◌, ◌||◌, ◌==◌, nat_le, if◌then◌else◌, sum_by}
use Rattle.std.proofs.Math.Bool.{or-false}
use Rattle.std.proofs.lemmas.Bool.Decides.{nat_tests}
use Rattle.std.proofs.lemmas.List.Sums.{sum_by-cons}
use Rattle.cns_ids.proofs.ListLemmas.{either-other, either-sum, other-sum}
use Rattle.cns_trades.specs.declared.trade.Trade.{Trade}
use Rattle.cns_netting.specs.History.{bought, due_since, is_reached, latest, sold, accepted}
use Rattle.cns_netting.specs.declared.entry.NetEntry.{NetEntry}
use Rattle.cns_netting.specs.declared.entry.NetEntry.TheVariants.{Accepted, Netted, Settled}
use Rattle.cns_netting.specs.Undue.{if_left, if_settled, waiting_of, undue_since}
use Rattle.cns_netting.specs.declared.undue.Undue.{Undue}
use Rattle.cns_netting.specs.Book.{QuantitiesFit}

pub bought-due : (b : Bool) (t : Trade) (ts : List Trade) (m i : ℕ)
    → bought (if b then t ∷ ts else ts) m i ≡ (if b then (if (t.buyer == m) && (t.issue == i) then t.quantity else 0) else 0) + bought ts m i
unfolding bought
bought-due b t ts m i = either-sum (λ s. if (s.buyer == m) && (s.issue == i) then s.quantity else 0) b t ts

pub sold-due : (b : Bool) (t : Trade) (ts : List Trade) (m i : ℕ)
    → sold (if b then t ∷ ts else ts) m i ≡ (if b then (if (t.seller == m) && (t.issue == i) then t.quantity else 0) else 0) + sold ts m i
unfolding sold
sold-due b t ts m i = either-sum (λ s. if (s.seller == m) && (s.issue == i) then s.quantity else 0) b t ts

-- a netting more reaches the dates up to its own, and those that were reached
pub is_reached-latest : (reached : Option ℕ) (day settle : ℕ) → is_reached (latest reached day) settle ≡ (nat_le settle day || is_reached reached settle)
is_reached-latest None day settle = sym (or-false (nat_le settle day))
is_reached-latest (Some other) day settle = grind (arith, nat_tests)

-- what one date reaches, the other one reaches too
unfoldable pub Reaches : Option ℕ → Option ℕ → Type 0
Reaches a b = (settle : ℕ) → is_reached a settle ≡ true → is_reached b settle ≡ true

pub reaches_latest : (a b : Option ℕ) (day : ℕ) → Reaches a b → Reaches (latest a day) (latest b day)
unfolding Reaches
reaches_latest a b day more settle h =
    rw (is_reached-latest b day settle) (by (nat_le settle day) (is_reached a settle) (is_reached b settle) (more settle) (sym (is_reached-latest a day settle) ∙ h))
  where
    by : (x y z : Bool) → (y ≡ true → z ≡ true) → (x || y) ≡ true → (x || z) ≡ true
    by true y z f e = refl
    by false y z f e = f e

-- of two dates the later one is the same, whichever comes first
latest-swap : (reached : Option ℕ) (a b : ℕ) → latest (latest reached a) b ≡ latest (latest reached b) a
latest-swap None a b = grind (arith, nat_tests)
latest-swap (Some c) a b = grind (arith, nat_tests)

-- what a netting of a date makes due are the undue trades that settle by it
pub due-netting : (f : Undue → ℕ) (reached : Option ℕ) (day : ℕ) (h : List NetEntry)
    → sum_by (λ t. f (waiting_of t)) (due_since (latest reached day) h) ≡ sum_by (λ t. f (waiting_of t)) (due_since reached h) + sum_by (λ t. if_settled day f (waiting_of t)) (undue_since reached h)
due-netting f reached day [] = refl
due-netting f reached day (Accepted t ∷ h) =
    let now = either-sum (λ s. f (waiting_of s)) (is_reached (latest reached day) t.settle) t (due_since (latest reached day) h) in
    let was = either-sum (λ s. f (waiting_of s)) (is_reached reached t.settle) t (due_since reached h) in
    let left = other-sum (λ s. if_settled day f (waiting_of s)) (is_reached reached t.settle) t (undue_since reached h) in
    omega (arith, now, was, left, due-netting f reached day h, one (is_reached (latest reached day) t.settle) (nat_le t.settle day) (is_reached reached t.settle) (f (waiting_of t)) (is_reached-latest reached day t.settle))
  where
    one : (a b c : Bool) (q : ℕ) → a ≡ (b || c) → (if a then q else 0) ≡ (if c then q else 0) + (if c then 0 else (if b then q else 0))
    one a true true q e = Prim.rw e (omega arith)
    one a true false q e = Prim.rw e (omega arith)
    one a false true q e = Prim.rw e (omega arith)
    one a false false q e = Prim.rw e refl
due-netting f reached day (Netted d ∷ h) = ap (λ r. sum_by (λ t. f (waiting_of t)) (due_since r h)) (latest-swap reached day d) ∙ due-netting f (latest reached d) day h
due-netting f reached day (Settled m i z ∷ h) = due-netting f reached day h

-- and the undue trades that settle later are left
pub undue-netting : (f : Undue → ℕ) (reached : Option ℕ) (day : ℕ) (h : List NetEntry)
    → sum_by (λ t. f (waiting_of t)) (undue_since (latest reached day) h) ≡ sum_by (λ t. if_left day f (waiting_of t)) (undue_since reached h)
undue-netting f reached day [] = refl
undue-netting f reached day (Accepted t ∷ h) =
    let now = other-sum (λ s. f (waiting_of s)) (is_reached (latest reached day) t.settle) t (undue_since (latest reached day) h) in
    let was = other-sum (λ s. if_left day f (waiting_of s)) (is_reached reached t.settle) t (undue_since reached h) in
    omega (arith, now, was, undue-netting f reached day h, one (is_reached (latest reached day) t.settle) (nat_le t.settle day) (is_reached reached t.settle) (f (waiting_of t)) (is_reached-latest reached day t.settle))
  where
    one : (a b c : Bool) (q : ℕ) → a ≡ (b || c) → (if a then 0 else q) ≡ (if c then 0 else (if b then 0 else q))
    one a true true q e = Prim.rw e refl
    one a true false q e = Prim.rw e refl
    one a false true q e = Prim.rw e refl
    one a false false q e = Prim.rw e refl
undue-netting f reached day (Netted d ∷ h) = ap (λ r. sum_by (λ t. f (waiting_of t)) (undue_since r h)) (latest-swap reached day d) ∙ undue-netting f (latest reached d) day h
undue-netting f reached day (Settled m i z ∷ h) = undue-netting f reached day h

-- a number of each trade that settles by a day, and of each other one, make the number of all
pub settled-left : (day : ℕ) (f : Undue → ℕ) (ts : List Undue) → sum_by (if_settled day f) ts + sum_by (if_left day f) ts ≡ sum_by f ts
settled-left day f [] = refl
settled-left day f (t ∷ ts) =
    omega (arith, sum_by-cons (if_settled day f) t ts, sum_by-cons (if_left day f) t ts, sum_by-cons f t ts, settled-left day f ts, either-other (nat_le t.settle day) (f t))

-- a number of each trade that is at most its shares sums, over the due trades and the undue ones, to at most all accepted shares
pub accepted-most : (f : Trade → ℕ) → ((t : Trade) → f t ≤ t.quantity) → (reached : Option ℕ) (h : List NetEntry) → QuantitiesFit h
    → sum_by f (due_since reached h) + sum_by f (undue_since reached h) ≤ length (accepted h) * 999999999999
unfolding QuantitiesFit
accepted-most f each reached [] fit = omega arith
accepted-most f each reached (Accepted t ∷ h) fit =
    let due = either-sum f (is_reached reached t.settle) t (due_since reached h) in
    let left = other-sum f (is_reached reached t.settle) t (undue_since reached h) in
    omega (arith, due, left, either-other (is_reached reached t.settle) (f t), each t, fit.0, accepted-most f each reached h fit.1, length-append (accepted h) (t ∷ []))
accepted-most f each reached (Netted d ∷ h) fit = accepted-most f each (latest reached d) h fit
accepted-most f each reached (Settled k j z ∷ h) fit = accepted-most f each reached h fit
