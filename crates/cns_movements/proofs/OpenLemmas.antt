-- What the unconfirmed orders of each holding ask for, as orders are issued and confirmed.
use Rattle.std.proofs.Common.{◌≡◌, ℕ, suc, ◌+◌, ◌*◌, ◌^◌, ◌≤◌, Bool, List, [], ◌∷◌, length, length-append, Option, Some, None, refl, ap, ◌∙◌, arith}
use Rattle.std.specs.Prelude.{◌&&◌, ◌==◌, sum_by, unwrap_or, if◌then◌else◌}
use Rattle.std.proofs.lemmas.Bool.{eq-eqb}
use Rattle.std.proofs.lemmas.List.Sums.{sum_by-append, sum_by-cons}
use Rattle.cns_ids.specs.Holding.{holding_at}
use Rattle.cns_ids.specs.declared.cycle.CycleId.{CycleId}
use Rattle.cns_ids.specs.declared.holding.Holding.{Holding}
use Rattle.cns_ids.proofs.HoldingLemmas.{Puts, put-adds, put-takes}
use Rattle.cns_movements.specs.Book.{IsOrderBook, Orders, with_asks, with_reply}
use Rattle.cns_movements.specs.OpenShares.{AreOpenIn, asked_by, open_at, shares_of}
use Rattle.cns_movements.specs.Order.{is_of, moved_of, numbered, open_part, open_sum, order_from, order_of, same_kind}
use Rattle.cns_movements.specs.declared.open_shares.OpenShares.{OpenShares}
use Rattle.cns_movements.specs.declared.order.Ask.{Ask}
use Rattle.cns_movements.specs.declared.order.MoveKind.{MoveKind}
use Rattle.cns_movements.specs.declared.order.MoveKind.TheVariants.{Cover, Delivery}
use Rattle.cns_movements.specs.declared.order.Order.{Order}
use Rattle.cns_movements.specs.declared.order.Reply.{Reply}
use Rattle.cns_movements.proofs.AskLemmas.{open_sum_asked}
use Rattle.cns_movements.proofs.OrderLemmas.{length-numbered, sum_le_found}
use Rattle.cns_movements.proofs.ReplyLemmas.{open_sum-with_reply, parts_le_asked}
use Rattle.cns_movements.proofs.AgreeLemmas.{same_kind-refl}

-- ---- look-ups

-- one test inside another is both of them
both : (a b : Bool) (n : ℕ) → (if a then (if b then n else 0) else 0) ≡ (if b && a then n else 0)
both a b n = grind arith

more : (k kind : MoveKind) (before w : OpenShares) (asked now : ℕ) → now ≡ shares_of kind before + asked → shares_of k w ≡ (if same_kind k kind then now else shares_of k before)
    → shares_of k w ≡ shares_of k before + (if same_kind k kind then asked else 0)
more k kind before w asked now sum is = grind arith

less : (k kind : MoveKind) (before w : OpenShares) (asked now : ℕ) → now + asked ≡ shares_of kind before → shares_of k w ≡ (if same_kind k kind then now else shares_of k before)
    → shares_of k w + (if same_kind k kind then asked else 0) ≡ shares_of k before
less k kind before w asked now sum is = grind arith

-- what is found for a holding: nothing where it has none
pub open_found : (found : Option OpenShares) (now : OpenShares) (entry : Option OpenShares) → now ≡ unwrap_or entry (record { covers = 0; deliveries = 0 }) → entry ≡ found
    → (k : MoveKind) → shares_of k now ≡ open_at k found
open_found found now entry value same k = ap (shares_of k) value ∙ ap (λ (o : Option OpenShares). shares_of k (unwrap_or o (record { covers = 0; deliveries = 0 }))) same ∙ by k found
  where
    by : (k : MoveKind) (o : Option OpenShares) → shares_of k (unwrap_or o (record { covers = 0; deliveries = 0 })) ≡ open_at k o
    by Cover None = refl
    by Delivery None = refl
    by k (Some shares) = refl

-- after what a holding's orders of a kind ask for grew there
pub shares_added : (kind : MoveKind) (member issue asked now : ℕ) (before w : OpenShares) (old new : Holding → Option OpenShares) → Puts member issue w old new
    → ((k : MoveKind) → shares_of k before ≡ open_at k (old (holding_at issue member))) → now ≡ shares_of kind before + asked
    → ((k : MoveKind) → shares_of k w ≡ (if same_kind k kind then now else shares_of k before))
    → (k : MoveKind) (m i : ℕ) → open_at k (new (holding_at i m)) ≡ open_at k (old (holding_at i m)) + (if same_kind k kind && ((member == m) && (issue == i)) then asked else 0)
shares_added kind member issue asked now before w old new puts was sum is k m i =
    let grown : open_at k (Some w) ≡ open_at k (old (holding_at issue member)) + (if same_kind k kind then asked else 0) =
    omega (arith, more k kind before w asked now sum (is k), was k) in
    let adds = put-adds (open_at k) member issue w (if same_kind k kind then asked else 0) old new puts grown m i in
    omega (arith, adds, both ((member == m) && (issue == i)) (same_kind k kind) asked)

-- and after it fell
pub shares_taken : (kind : MoveKind) (member issue asked now : ℕ) (before w : OpenShares) (old new : Holding → Option OpenShares) → Puts member issue w old new
    → ((k : MoveKind) → shares_of k before ≡ open_at k (old (holding_at issue member))) → now + asked ≡ shares_of kind before
    → ((k : MoveKind) → shares_of k w ≡ (if same_kind k kind then now else shares_of k before))
    → (k : MoveKind) (m i : ℕ) → open_at k (new (holding_at i m)) + (if same_kind k kind && ((member == m) && (issue == i)) then asked else 0) ≡ open_at k (old (holding_at i m))
shares_taken kind member issue asked now before w old new puts was sum is k m i =
    let fallen : open_at k (Some w) + (if same_kind k kind then asked else 0) ≡ open_at k (old (holding_at issue member)) =
    omega (arith, less k kind before w asked now sum (is k), was k) in
    let takes = put-takes (open_at k) member issue w (if same_kind k kind then asked else 0) old new puts fallen m i in
    omega (arith, takes, both ((member == m) && (issue == i)) (same_kind k kind) asked)

-- ---- asks in turn

pub asked_first : (k : MoveKind) (m i : ℕ) (a : Ask) (asks : List Ask)
    → asked_by k m i (a ∷ asks) ≡ (if same_kind k a.kind && ((a.member == m) && (a.issue == i)) then a.asked else 0) + asked_by k m i asks
unfolding asked_by
asked_first k m i a asks = refl

pub nothing_asked : (k : MoveKind) (m i : ℕ) (asks : List Ask) → length asks ≡ 0 → asked_by k m i asks ≡ 0
unfolding asked_by
nothing_asked k m i [] none = refl
nothing_asked k m i (a ∷ asks) none = absurd (omega arith)

-- a part that is counted is no more than the whole
pub counted_le : (b : Bool) (n : ℕ) → (if b then n else 0) ≤ n
counted_le b n = grind arith

-- ---- the sums of a book

pub open_none : (shares : MoveKind → ℕ → ℕ → ℕ) → ((k : MoveKind) (m i : ℕ) → shares k m i ≡ 0) → AreOpenIn shares (record { orders = []; replies = [] })
unfolding open_sum
open_none shares none = record { sums = none; most = omega arith }

pub open_kept : (old new : MoveKind → ℕ → ℕ → ℕ) (book : Orders) → AreOpenIn old book → ((k : MoveKind) (m i : ℕ) → new k m i ≡ old k m i) → AreOpenIn new book
open_kept old new book are same = record { sums = λ k m i. same k m i ∙ are.sums k m i; most = are.most }

-- new orders ask for what their asks do
pub numbered_asked : (n : ℕ) (cycle : Option CycleId) (asks : List Ask) → sum_by (λ (o : Order). o.asked) (numbered n cycle asks) ≡ sum_by (λ (a : Ask). a.asked) asks
numbered_asked n cycle [] = refl
numbered_asked n cycle (a ∷ asks) =
    let o : Order = order_from n cycle a in
    omega (arith, sum_by-cons (λ (x : Order). x.asked) o (numbered (suc n) cycle asks), sum_by-cons (λ (x : Ask). x.asked) a asks, numbered_asked (suc n) cycle asks)

pub open_ordered : (old new : MoveKind → ℕ → ℕ → ℕ) (book : Orders) (cycle : Option CycleId) (asks : List Ask) → IsOrderBook book → AreOpenIn old book
    → ((k : MoveKind) (m i : ℕ) → new k m i ≡ old k m i + asked_by k m i asks) → sum_by (λ (a : Ask). a.asked) asks ≤ 10 ^ 18 * length asks
    → AreOpenIn new (with_asks book cycle asks)
open_ordered old new book cycle asks lawful are adds most =
    let next : ℕ = length book.orders + 1 in
    record {
      sums = λ k m i. omega (arith, adds k m i, are.sums k m i, open_sum_asked book cycle asks k m i lawful);
      most = omega (
        arith,
        are.most,
        most,
        sum_by-append (λ (o : Order). o.asked) book.orders (numbered next cycle asks),
        numbered_asked next cycle asks,
        length-append book.orders (numbered next cycle asks),
        length-numbered next cycle asks,
      );
    }

pub open_confirmed : (old new : MoveKind → ℕ → ℕ → ℕ) (book : Orders) (r : Reply) (o : Order) → IsOrderBook book → AreOpenIn old book
    → order_of book.orders r.number ≡ Some o → moved_of book.replies r.number ≡ None
    → ((k : MoveKind) (m i : ℕ) → new k m i + (if is_of k m i o then o.asked else 0) ≡ old k m i)
    → AreOpenIn new (with_reply book r)
open_confirmed old new book r o lawful are found first takes = record {
  sums = λ k m i. omega (arith, takes k m i, are.sums k m i, open_sum-with_reply book.orders book.replies r o k m i lawful.numbered found first);
  most = are.most;
}

-- no more is open than all orders ask for
pub open_most : (shares : MoveKind → ℕ → ℕ → ℕ) (book : Orders) → IsOrderBook book → AreOpenIn shares book → (k : MoveKind) (m i : ℕ) → shares k m i ≤ 10 ^ 18 * length book.orders
unfolding open_sum
open_most shares book lawful are k m i =
    let each : (o : Order) → order_of book.orders o.number ≡ Some o → (if is_of k m i o then open_part book.replies o else 0) ≤ o.asked =
    λ o found. omega (arith, counted_le (is_of k m i o) (open_part book.replies o), parts_le_asked book.orders book.replies o lawful.known found) in
    omega (arith, are.sums k m i, are.most, sum_le_found (λ (o : Order). if is_of k m i o then open_part book.replies o else 0) (λ (o : Order). o.asked) book.orders 1 lawful.numbered each)

-- an unconfirmed order is counted among them
pub open_has : (shares : MoveKind → ℕ → ℕ → ℕ) (book : Orders) (r : Reply) (o : Order) → IsOrderBook book → AreOpenIn shares book
    → order_of book.orders r.number ≡ Some o → moved_of book.replies r.number ≡ None → o.asked ≤ shares o.kind o.member o.issue
open_has shares book r o lawful are found first =
    let with = open_sum-with_reply book.orders book.replies r o o.kind o.member o.issue lawful.numbered found first in
    let here : (if is_of o.kind o.member o.issue o then o.asked else 0) ≡ o.asked =
    rw (same_kind-refl o.kind, eq-eqb o.member o.member refl, eq-eqb o.issue o.issue refl) refl in
    omega (arith, with, here, are.sums o.kind o.member o.issue)
