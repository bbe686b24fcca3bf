-- In each issue longs less shorts are the shares that confirmed covers brought, less those that confirmed deliveries took.
use Rattle.std.proofs.Common.{◌≡◌, ◌≤◌, ◌+◌, ℕ, List, [], ◌∷◌, Option, Some, None, Bool, refl, ◌∙◌, arith}
use Rattle.std.specs.Prelude.{◌&&◌, ◌==◌, sum_by, if◌then◌else◌}
use Rattle.std.proofs.lemmas.List.Sums.{sum_by-cons}
use Rattle.cns_netting.specs.History.{bought, due, longs_of, settled_credit, settled_debit, shorts_of, sold}
use Rattle.cns_netting.specs.declared.entry.NetEntry.{NetEntry}
use Rattle.cns_netting.proofs.BalanceLemmas.{AreMembers, IsUpTo, bought-members, longs_balance, part_of, parts_total, sold-members, total, total-same, upto_less}
use Rattle.cns_movements.specs.Order.{moved_part, moved_sum, order_of, same_kind}
use Rattle.cns_movements.specs.declared.order.MoveKind.{MoveKind}
use Rattle.cns_movements.specs.declared.order.MoveKind.TheVariants.{Cover, Delivery}
use Rattle.cns_movements.specs.declared.order.Order.{Order}
use Rattle.cns_movements.specs.declared.order.Reply.{Reply}
use Rattle.cns_records.specs.Clear.{AreWritable}
use Rattle.cns_records.specs.declared.clear_record.ClearRecord.{ClearRecord}
use Rattle.cns_records.specs.declared.clear_record.ClearRecord.TheVariants.{Accept, Confirm}
use Rattle.cns_clearing.specs.Books.{Books, IsLawful, books_of, history_of, order_book_of, settled_by}
use Rattle.cns_clearing.specs.Pools.{covered_of, delivered_of, kind_part}
use Rattle.cns_clearing.proofs.BooksLemmas.{lawful_bounded}
use Rattle.cns_clearing.proofs.PositionLemmas.{lawful_moved}

-- a settlement is no trade
members_settled : (o : Option Order) (moved : ℕ) (h : List NetEntry) → AreMembers 9999 h → AreMembers 9999 (settled_by o moved h)
members_settled None moved h members = members
members_settled (Some o) moved h members = members

-- the trades of records are between members
writable_members : (c : List ClearRecord) → AreWritable c → AreMembers 9999 (history_of c)
unfolding books_of
writable_members [] fits = tt
writable_members (Accept t ∷ c) fits = (fits.0.0.buyer.from, fits.0.0.buyer.to, fits.0.0.seller.from, fits.0.0.seller.to, writable_members c fits.1)
writable_members (Confirm r ∷ c) fits = members_settled (order_of (order_book_of c).orders r.number) r.moved (history_of c) (writable_members c fits.1)
writable_members (_ ∷ c) fits = writable_members c fits.1

-- what orders of a kind moved for a member in an issue is its part of what they moved in the issue
pub member_part : (kind : MoveKind) (rs : List Reply) (orders : List Order) (member issue : ℕ)
    → moved_sum orders rs kind member issue ≡ part_of (λ (o : Order). o.member) (kind_part kind issue (moved_part rs)) orders member
unfolding moved_sum
member_part kind rs [] member issue = refl
member_part kind rs (o ∷ orders) member issue =
    omega (arith, by (same_kind kind o.kind) (o.member == member) (o.issue == issue), member_part kind rs orders member issue, sum_by-cons)
  where
    by : (its mine here : Bool) → (if mine then (if its && here then moved_part rs o else 0) else 0) ≡ (if its && (mine && here) then moved_part rs o else 0)
    by its mine here = grind arith

-- what was settled with the members either way is what the orders of a kind moved, where none but the members 1 to 9999 can have any
settled_total : (kind : MoveKind) (rs : List Reply) (orders : List Order) (issue : ℕ) (settled bound : ℕ → ℕ) → ((m : ℕ) → settled m ≡ moved_sum orders rs kind m issue)
    → ((m : ℕ) → settled m ≤ bound m) → IsUpTo 9999 bound → total 9999 settled ≡ sum_by (kind_part kind issue (moved_part rs)) orders
settled_total kind rs orders issue settled bound is most upto =
    let f = kind_part kind issue (moved_part rs) in
    let part : (m : ℕ) → settled m ≡ part_of (λ (o : Order). o.member) f orders m = λ m. is m ∙ member_part kind rs orders m issue in
    total-same 9999 _ _ part ∙ parts_total 9999 (λ (o : Order). o.member) f orders (upto_less 9999 _ bound (λ m. omega (arith, part m, most m)) upto)

-- in each issue longs less shorts are the shares that covers brought less those that deliveries took
pub balanced : (c : List ClearRecord) (issue : ℕ) → IsLawful c → AreWritable c
    → longs_of (history_of c) issue + delivered_of (order_book_of c) issue ≡ shorts_of (history_of c) issue + covered_of (order_book_of c) issue
unfolding covered_of delivered_of
balanced c issue lawful fits =
    let b : Books = books_of c in
    let bounded = (lawful_bounded c lawful).bounded in
    let members = writable_members c fits in
    let brought : total 9999 (λ m. settled_credit b.history m issue) ≡ covered_of b.orders issue =
    settled_total Cover b.orders.replies b.orders.orders issue (λ m. settled_credit b.history m issue) (λ m. sold (due b.history) m issue) (λ m. (lawful_moved c m issue lawful).brought)
    (λ m. omega (arith, bounded.covered m issue)) (sold-members 9999 issue b.history members) in
    let took : total 9999 (λ m. settled_debit b.history m issue) ≡ delivered_of b.orders issue =
    settled_total Delivery b.orders.replies b.orders.orders issue (λ m. settled_debit b.history m issue) (λ m. bought (due b.history) m issue) (λ m. (lawful_moved c m issue lawful).took)
    (λ m. omega (arith, bounded.delivered m issue)) (bought-members 9999 issue b.history members) in
    omega (arith, longs_balance 9999 issue b.history members, brought, took)
