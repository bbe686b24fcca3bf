use Rattle.std.proofs.Common.{refl, subst}
use Rattle.std.specs.Prelude.{All}
use Rattle.std.proofs.lemmas.List.{take_all}
use Rattle.cns_system.specs.Agreement.{IsOrdered}
use Rattle.cns_system.proofs.AgreementLemmas.{OfRecord, all_next}
use Rattle.cns_system.proofs.agreement.are_ordered.Goals as goal

pub loop-record-preserved : goal.loop-record-preserved
loop-record-preserved c =
    all_next (OfRecord (IsOrdered c.args.orders.now.book.orders)) c.args.records.now c.loop-record.record-index c.record-item.result c.loop-record-test.true c.record-item.is
    c.loop-record.invariant (c.is_ordered.ensures.0 c.if-not-is_ordered.false)

pub returns : goal.returns
returns c =
    let all = subst (All (OfRecord (IsOrdered c.args.orders.now.book.orders))) (take_all c.loop-record.record-index c.args.records.now c.loop-record-test.false) c.loop-record.invariant in
    (λ e. all, λ held. refl)
