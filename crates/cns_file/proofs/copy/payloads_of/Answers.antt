use Rattle.std.proofs.Common.{rules, ◌≡◌, ◌∙◌}
use Rattle.cns_file.proofs.ExtentLemmas.{one_read}
use Rattle.cns_file.proofs.copy.payloads_of.Goals as goal

pub records-preserved : goal.records-preserved
records-preserved c =
    let next = c.in-Some.ensures.some in
    let payload : c.in_ok-to_vec.field-0.items ≡ c.in-Some.record.payload.now = search rules in
    one_read _ _ _ _ _ _ _ c.records.invariant next.0 (payload ∙ next.1) next.2 c.in_ok-push.ensures.items
