-- Due trades, and positions now and after the latest two cycles, are those of the books.
use Rattle.std.proofs.Common.{◌≡◌, ℕ, List, [], ◌∷◌, Option, Some, None, refl, sym, ap, ◌∙◌, arith}
use Rattle.std.specs.Prelude.{◌&&◌, ◌==◌, ◌||◌, nat_le}
use Rattle.std.specs.List.{list_any}
use Rattle.cns_ids.specs.declared.cycle.CycleId.{CycleId}
use Rattle.cns_movements.specs.Book.{IsOrderBook, with_asks}
use Rattle.cns_netting.specs.History.{due, due_since, is_reached, latest, position_of, settled_credit, settled_debit}
use Rattle.cns_netting.specs.declared.entry.NetEntry.{NetEntry}
use Rattle.cns_netting.proofs.TradeLemmas.{is_reached-latest}
use Rattle.cns_movements.specs.Order.{is_of, moved_sum}
use Rattle.cns_movements.specs.declared.order.Ask.{Ask}
use Rattle.cns_movements.specs.declared.order.MoveKind.{MoveKind}
use Rattle.cns_movements.specs.declared.order.MoveKind.TheVariants.{Cover, Delivery}
use Rattle.cns_movements.specs.declared.order.Order.{Order}
use Rattle.cns_movements.proofs.ConfirmLemmas.{taken_from_done}
use Rattle.cns_movements.proofs.ReplyLemmas.{moved_sum-with_reply}
use Rattle.cns_covers.proofs.BoundLemmas.{credit_moved, debit_moved, position_bounds}
use Rattle.cns_records.specs.declared.clear_record.ClearRecord.{ClearRecord}
use Rattle.cns_records.specs.declared.clear_record.ClearRecord.TheVariants.{Accept, Cycle, Allocate, Confirm}
use Rattle.cns_clearing.specs.Books.{Books, Allows, IsLawful, books_of, covers_on, deliveries_in, history_of, settled_by, with_record}
use Rattle.cns_clearing.specs.Position.{IsBetween, due_before, due_in, is_cycle_from, position_in}
use Rattle.cns_clearing.proofs.BooksLemmas.{lawful_bounded}
use Rattle.cns_clearing.proofs.PoolLemmas.{moved_with_asks}

-- a settlement makes no trade due
due_settled : (reached : Option ℕ) (o : Option Order) (moved : ℕ) (h : List NetEntry) → due_since reached (settled_by o moved h) ≡ due_since reached h
due_settled reached None moved h = refl
due_settled reached (Some o) moved h = refl

-- the same dates are reached by nettings and by cycles
abbrev ReachAlike : Option ℕ → List ClearRecord → Type 0
ReachAlike reached later = (s : ℕ) → is_reached reached s ≡ list_any (is_cycle_from s) later

-- so the same trades are due
due_alike : (reached : Option ℕ) (later c : List ClearRecord) → ReachAlike reached later → due_since reached (history_of c) ≡ due_before later c
unfolding books_of
due_alike reached later [] alike = refl
due_alike reached later (Accept t ∷ c) alike =
    let rest = due_alike reached (Accept t ∷ later) c (λ s. alike s) in
    rw (alike t.settle, rest) refl
due_alike reached later (Cycle id ∷ c) alike =
    due_alike (latest reached id.day) (Cycle id ∷ later) c (λ s. is_reached-latest reached id.day s ∙ ap (λ b. nat_le s id.day || b) (alike s))
due_alike reached later (Confirm r ∷ c) alike = due_settled reached _ r.moved (history_of c) ∙ due_alike reached (Confirm r ∷ later) c (λ s. alike s)
due_alike reached later (r ∷ c) alike = due_alike reached (r ∷ later) c (λ s. alike s)

-- the due trades are those of the history
pub due_in_is : (c : List ClearRecord) → due (history_of c) ≡ due_in c
due_in_is c = due_alike None [] c (λ s. refl)

-- the settlements are what confirmed orders moved
pub record AreMoved (b : Books) (m i : ℕ) : Type 0 where
  pub brought : settled_credit b.history m i ≡ moved_sum b.orders.orders b.orders.replies Cover m i
  pub took : settled_debit b.history m i ≡ moved_sum b.orders.orders b.orders.replies Delivery m i

-- new orders have moved nothing
moved_ordered : (b : Books) (cycle : Option CycleId) (asks : List Ask) (kind : MoveKind) (m i : ℕ) → IsOrderBook b.orders
    → moved_sum (with_asks b.orders cycle asks).orders b.orders.replies kind m i ≡ moved_sum b.orders.orders b.orders.replies kind m i
unfolding moved_sum
moved_ordered b cycle asks kind m i ordered = moved_with_asks (is_of kind m i) b.orders cycle asks ordered

-- it stays so with each record that may follow
moved_more : (r : ClearRecord) (b : Books) (m i : ℕ) → IsOrderBook b.orders → Allows b r → AreMoved b m i → AreMoved (with_record r b) m i
unfolding settled_credit settled_debit
moved_more (Cycle id) b m i ordered allowed moved = record {
  brought = moved.brought ∙ sym (moved_ordered b (Some id) (covers_on b id.day) Cover m i ordered);
  took = moved.took ∙ sym (moved_ordered b (Some id) (covers_on b id.day) Delivery m i ordered);
}
moved_more (Allocate a) b m i ordered allowed moved = record {
  brought = moved.brought ∙ sym (moved_ordered b b.latest (deliveries_in a) Cover m i ordered);
  took = moved.took ∙ sym (moved_ordered b b.latest (deliveries_in a) Delivery m i ordered);
}
moved_more (Confirm r) b m i ordered allowed moved =
    let taken = taken_from_done b.orders r allowed in
    let o = taken.order in
    let here = (o.member == m) && (o.issue == i) in
    let by = moved_sum-with_reply b.orders.orders b.orders.replies r o in
    let covers = by Cover m i ordered.numbered taken.found taken.first in
    let deliveries = by Delivery m i ordered.numbered taken.found taken.first in
    record {
      brought = rw taken.found (omega (arith, covers, moved.brought, credit_moved o.kind here r.moved));
      took = rw taken.found (omega (arith, deliveries, moved.took, debit_moved o.kind here r.moved));
    }
moved_more _ b m i ordered allowed moved = record { brought = moved.brought; took = moved.took }

-- so it is of lawful records
pub lawful_moved : (c : List ClearRecord) (m i : ℕ) → IsLawful c → AreMoved (books_of c) m i
unfolding books_of settled_credit settled_debit moved_sum
lawful_moved [] m i lawful = record { brought = refl; took = refl }
lawful_moved (r ∷ c) m i lawful = moved_more r (books_of c) m i (lawful_bounded c lawful.1).ordered lawful.0 (lawful_moved c m i lawful.1)

-- the position of the books is that of the records
pub position_in_is : (c : List ClearRecord) (m i : ℕ) → IsLawful c → position_of (history_of c) m i ≡ position_in c m i
position_in_is c m i lawful =
    let moved = lawful_moved c m i lawful in
    rw (moved.brought, moved.took, due_in_is c) refl

-- the bounds of a position
pub position_between : (c : List ClearRecord) (m i : ℕ) → IsLawful c → IsBetween c m i (position_of (history_of c) m i)
position_between c m i lawful =
    let b = books_of c in
    let bounds = position_bounds b.history b.orders m i (lawful_bounded c lawful).bounded in
    record { low = rw (← due_in_is c) bounds.0; high = rw (← due_in_is c) bounds.1 }
