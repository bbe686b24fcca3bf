use Rattle.std.proofs.Common.{◌≡◌, ◌∷◌, List, ap, false, rules, subst}
use Rattle.std.specs.BinaryHeap.{heap_items}
use Rattle.std.specs.Prelude.{IfOk}
use Rattle.std.proofs.lemmas.Result.{IfOk-weaker}
use Rattle.cns_netting.specs.Rows.{rows_of}
use Rattle.cns_netting.specs.declared.entry.NetEntry.TheVariants.{Netted}
use Rattle.cns_netting.specs.declared.position.PositionRow.{PositionRow}
use Rattle.cns_netting.proofs.AddLemmas.{adds_back, all_named, near_back}
use Rattle.cns_netting.proofs.KeptLemmas.{kept_back, kept_near, near_by, positions_netted, rows_netted}
use Rattle.cns_netting.proofs.book.NetBook.rows_after.Goals as goal

pub add_due-requires : goal.add_due-requires
add_due-requires c = rw c.as_slice-undue.ensures.value (record { named = c.self.invariant.named; near = near_by c.args.day (heap_items c.self.inside.undue) (kept_near c.self.invariant) })

pub add_due-requires-2 : goal.add_due-requires-2
add_due-requires-2 c =
    let waiting = heap_items c.self.inside.undue in
    let adds = rw c.as_slice-undue.ensures.value at c.add_due.ensures.adds in
    rw c.as_slice-undue.ensures.value (record { named = all_named adds waiting c.self.invariant.named; near = near_back (near_by c.args.day waiting (kept_near c.self.invariant)) adds })

pub invariant_of-self : goal.invariant_of-self
invariant_of-self c = kept_back c.self.invariant (adds_back c.add_due.ensures.adds c.add_due-2.ensures.adds)

pub returns-clause-rows : goal.returns-clause-rows
returns-clause-rows c =
    let are = positions_netted c.self.invariant (ap (λ b. b.history) c.self.view_is) (rw c.as_slice-undue.ensures.value at c.add_due.ensures.adds) in
    IfOk-weaker c.rows-rows.result _ (λ v. v.items ≡ rows_of (Netted c.args.day ∷ c.args.self.now.history)) (λ v rows. rows _ are) c.rows-rows.ensures

pub returns-then-not-has_due-clause-rows : goal.returns-then-not-has_due-clause-rows
returns-then-not-has_due-clause-rows c =
    let none : c.has_due.result ≡ false = search rules in
    let same = rows_netted c.self.invariant (ap (λ b. b.history) c.self.view_is) {day = c.args.day} (c.has_due.ensures none) in
    subst (λ (l : List PositionRow). IfOk c.rows.result (λ v. v.items ≡ l)) same c.rows.ensures
