use Rattle.std.proofs.Common.{◌≡◌, ◌∷◌, List, ap, false, rules, subst}
use Rattle.std.specs.BinaryHeap.{heap_items}
use Rattle.std.specs.Prelude.{IfOk}
use Rattle.std.proofs.lemmas.Result.{IfOk-weaker}
use Rattle.cns_netting.specs.Rows.{rows_of}
use Rattle.cns_netting.specs.declared.entry.NetEntry.TheVariants.{Netted}
use Rattle.cns_netting.specs.declared.position.PositionRow.{PositionRow}
use Rattle.cns_netting.proofs.KeptLemmas.{kept_near, near_by, positions_netted, rows_netted}
use Rattle.cns_netting.proofs.book.NetBook.rows_at.Goals as goal

pub add_due-requires : goal.add_due-requires
add_due-requires c =
    rw (c.as_slice.ensures.value, c.in_ok-after.ensures) (record { named = c.self.invariant.named; near = near_by c.args.day (heap_items c.self.inside.undue) (kept_near c.self.invariant) })

pub returns : goal.returns
returns c =
    let are = positions_netted c.self.invariant (ap (λ b. b.history) c.self.view_is) (rw (c.as_slice.ensures.value, c.in_ok-after.ensures) at c.add_due.ensures.adds) in
    IfOk-weaker c.rows_by.result _ (λ v. v.items ≡ rows_of (Netted c.args.day ∷ c.args.self.now.history)) (λ v rows. rows _ are) c.rows_by.ensures

pub returns-then-not-has_due : goal.returns-then-not-has_due
returns-then-not-has_due c =
    let none : c.has_due.result ≡ false = search rules in
    let same = rows_netted c.self.invariant (ap (λ b. b.history) c.self.view_is) {day = c.args.day} (c.has_due.ensures none) in
    subst (λ (l : List PositionRow). IfOk c.rows.result (λ v. v.items ≡ l)) same c.rows.ensures
