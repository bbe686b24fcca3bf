-- While no lot of an issue closes and no cycle runs, no member wants less of it.
use Rattle.std.proofs.Common.{◌≡◌, ℕ, ◌+◌, ◌-◌, ◌≤◌, Bool, true, false, List, [], ◌∷◌, ◌++◌, arith}
use Rattle.std.specs.Prelude.{◌==◌, ◌&&◌, if◌then◌else◌}
use Rattle.std.proofs.Math.Nat.{le_refl}
use Rattle.cns_netting.specs.History.{bought, credit_part, debit_part, due, settled_credit, settled_debit, sold}
use Rattle.cns_netting.specs.declared.entry.NetEntry.{NetEntry}
use Rattle.cns_netting.specs.declared.entry.NetEntry.TheVariants.{Settled}
use Rattle.cns_movements.specs.Book.{IsOrderBook, Orders, with_reply}
use Rattle.cns_movements.specs.Order.{open_sum, same_kind}
use Rattle.cns_movements.specs.declared.order.MoveKind.{MoveKind}
use Rattle.cns_movements.specs.declared.order.MoveKind.TheVariants.{Cover, Delivery}
use Rattle.cns_movements.specs.declared.order.Order.{Order}
use Rattle.cns_movements.specs.declared.order.Reply.{Reply}
use Rattle.cns_movements.proofs.AskLemmas.{others_leave_open}
use Rattle.cns_movements.proofs.ConfirmLemmas.{IsTaken, taken_from_done}
use Rattle.cns_movements.proofs.ReplyLemmas.{open_sum-with_reply}
use Rattle.cns_covers.specs.Bounds.{amount_of, want_in}
use Rattle.cns_covers.proofs.BoundLemmas.{all_debit, no_credit}
use Rattle.cns_records.specs.declared.clear_record.ClearRecord.{ClearRecord}
use Rattle.cns_records.specs.declared.clear_record.ClearRecord.TheVariants.{Cycle, Allocate, Confirm}
use Rattle.cns_clearing.specs.Books.{Books, Allows, IsLawful, books_of, deliveries_in, history_of, order_book_of, with_record}
use Rattle.cns_clearing.specs.Lots.{AreQuiet, IsQuiet}
use Rattle.cns_clearing.proofs.BooksLemmas.{lawful_bounded}
use Rattle.cns_clearing.proofs.PoolLemmas.{allocation_issue}

-- a confirmation leaves a member wanting no less: a cover brings it shares, and a delivery takes no more than it asked for
want_confirmed : (h : List NetEntry) (book : Orders) (r : Reply) (m i : ℕ) → IsOrderBook book → (taken : IsTaken book r)
    → want_in h book m i ≤ want_in (Settled taken.order.member taken.order.issue (amount_of taken.order.kind r.moved) ∷ h) (with_reply book r) m i
unfolding settled_credit settled_debit
want_confirmed h book r m i lawful taken =
    let o : Order = taken.order in
    by o.kind ((o.member == m) && (o.issue == i)) (bought (due h) m i) (sold (due h) m i) (settled_credit h m i) (settled_debit h m i)
    (open_sum book.orders (r ∷ book.replies) Delivery m i) (open_sum book.orders book.replies Delivery m i)
    (open_sum-with_reply book.orders book.replies r o Delivery m i lawful.numbered taken.found taken.first)
  where
    by : (kind : MoveKind) (here : Bool) (b s come gone after before : ℕ) → after + (if same_kind Delivery kind && here then taken.order.asked else 0) ≡ before
        → ((b + come) - (s + gone)) - before
        ≤ ((b + ((if here then credit_part (amount_of kind r.moved) else 0) + come)) - (s + ((if here then debit_part (amount_of kind r.moved) else 0) + gone))) - after
    by Cover true b s come gone after before e = omega (arith, e)
    by Cover false b s come gone after before e = omega (arith, e)
    by Delivery true b s come gone after before e = let within = taken.within in omega (arith, e, no_credit r.moved, all_debit r.moved)
    by Delivery false b s come gone after before e = omega (arith, e)

-- a record that is neither a cycle nor an allocation of the issue leaves each member wanting no less
want_more : (r : ClearRecord) (b : Books) (m i : ℕ) → IsOrderBook b.orders → Allows b r → IsQuiet i r
    → want_in b.history b.orders m i ≤ want_in (with_record r b).history (with_record r b).orders m i
unfolding settled_credit settled_debit
want_more (Cycle id) b m i ordered allowed quiet = absurd quiet
want_more (Allocate a) b m i ordered allowed quiet =
    omega (arith, others_leave_open b.orders b.latest (deliveries_in a) Delivery m i a.issue ordered quiet (allocation_issue b a allowed))
want_more (Confirm r) b m i ordered allowed quiet =
    let taken = taken_from_done b.orders r allowed in
    rw taken.found (want_confirmed b.history b.orders r m i ordered taken)
want_more _ b m i ordered allowed quiet = le_refl (want_in b.history b.orders m i)

-- while no lot of an issue closes and no cycle runs, each member wants no less of it
pub want_since : (later c : List ClearRecord) (member issue : ℕ) → IsLawful (later ++ c) → AreQuiet issue later
    → want_in (history_of c) (order_book_of c) member issue ≤ want_in (history_of (later ++ c)) (order_book_of (later ++ c)) member issue
unfolding books_of
want_since [] c member issue lawful quiet = omega arith
want_since (r ∷ later) c member issue lawful quiet =
    let b : Books = books_of (later ++ c) in
    let one = want_more r b member issue (lawful_bounded (later ++ c) lawful.1).ordered lawful.0 quiet.0 in
    omega (arith, want_since later c member issue lawful.1 quiet.1, one)
