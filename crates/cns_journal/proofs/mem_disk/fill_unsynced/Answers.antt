use Rattle.std.proofs.Common.{rules, ◌≡◌, ◌+◌, ◌-◌, ◌<◌, ◌&&◌, nat_le, nat_lt, length, take, vec_items, ◌∙◌, sym, ap, subst, arith}
use Rattle.cns_journal.specs.MemDisk.{IsFilled}
use Rattle.cns_journal.specs.MemCall.{Noted, step_of}
use Rattle.cns_journal.proofs.FillLemmas.{last_cuts, last_writes, none_filled, places_of, some_filled}
use Rattle.cns_journal.proofs.mem_disk.fill_unsynced.Goals as goal

pub calls-preserved-in-Writes : goal.calls-preserved-in-Writes
calls-preserved-in-Writes c =
    let left : c.calls.left ≡ (c.calls.left - 1) + 1 = omega (arith, c.calls-test.true) in
    let less : c.calls.left - 1 < length c.args.calls.now = omega (arith, c.calls-test.true, c.calls.invariant.within) in
    let count : c.len.result ≡ length c.call.inside.bytes.items = search rules in
    let step = ap (λ (n : Noted). n.step) (sym c.call.view_is) ∙ ap (λ k. step_of k (vec_items c.call.inside.bytes)) c.in-Writes.is in
    let filled : IsFilled (λ i. nat_le c.in-Writes.at i && nat_lt i (c.in-Writes.at + length c.call.inside.bytes.items)) c.args.byte c.calls.file c.fill_range.new.file =
    subst (λ k. IsFilled (λ i. nat_le c.in-Writes.at i && nat_lt i (c.in-Writes.at + k)) c.args.byte c.calls.file c.fill_range.new.file) count c.fill_range.ensures in
    record {
      within = omega (arith, c.calls.invariant.within);
      places = some_filled c.args.byte (places_of c.args.calls.now) (places_of (take c.calls.left c.args.calls.now)) (λ i. nat_le c.in-Writes.at i && nat_lt i (c.in-Writes.at + length c.call.inside.bytes.items))
          (places_of (take (c.calls.left - 1) c.args.calls.now)) c.args.file.now c.calls.file c.fill_range.new.file c.calls.invariant.places filled
          (λ i. ap (λ k. places_of (take k c.args.calls.now) i) left ∙ last_writes c.args.calls.now (c.calls.left - 1) c.index-calls-left.result c.in-Writes.at c.call.inside.bytes.items less c.index-calls-left.is step i);
    }

pub calls-preserved : goal.calls-preserved
calls-preserved c =
    let left : c.calls.left ≡ (c.calls.left - 1) + 1 = omega (arith, c.calls-test.true) in
    let less : c.calls.left - 1 < length c.args.calls.now = omega (arith, c.calls-test.true, c.calls.invariant.within) in
    let step = ap (λ (n : Noted). n.step) (sym c.call.view_is) ∙ ap (λ k. step_of k (vec_items c.call.inside.bytes)) c.in-Cuts.is in
    record {
      within = omega (arith, c.calls.invariant.within);
      places = none_filled c.args.byte (places_of c.args.calls.now) (places_of (take c.calls.left c.args.calls.now)) (places_of (take (c.calls.left - 1) c.args.calls.now)) c.args.file.now c.calls.file c.calls.invariant.places
          (λ i. ap (λ k. places_of (take k c.args.calls.now) i) left ∙ last_cuts c.args.calls.now (c.calls.left - 1) c.index-calls-left.result c.in-Cuts.field-0 less c.index-calls-left.is step i);
    }
