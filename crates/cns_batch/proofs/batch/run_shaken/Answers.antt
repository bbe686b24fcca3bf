use Rattle.std.proofs.Common.{◌∙◌}
use Rattle.cns_batch.proofs.TextLemmas.{given_after, given_refused, kept_by, kept_unread, refused_by, refuses_other, within}
use Rattle.cns_batch.proofs.batch.run_shaken.Goals as goal

pub returns-in-Err-clause-leaves : goal.returns-in-Err-clause-leaves
returns-in-Err-clause-leaves g c = kept_unread c.in-Err.fault c.args.shake _ _ _ _ _ c.in-Err.ensures.kind c.in-Err.ensures.given

pub returns-in-Err-clause-given : goal.returns-in-Err-clause-given
returns-in-Err-clause-given g c = given_refused c.in-Err.fault _ _ c.in-Err.ensures.given

pub returns-in-Ok-read_parts-clause-leaves : goal.returns-in-Ok-read_parts-clause-leaves
returns-in-Ok-read_parts-clause-leaves g c =
    let bytes = c.in-Ok.bytes.items in
    let ran = rw c.as_slice.ensures.value at c.run_input.ensures in
    (bytes, c.in-Ok.ensures.text, kept_by c.run_input.result.result c.args.shake bytes _ _ _ _ _ _ _ (within bytes c.in-Ok.ensures.size ∙ c.in-Ok-read_parts.ensures) ran)

pub returns-in-Ok-read_parts-clause-given : goal.returns-in-Ok-read_parts-clause-given
returns-in-Ok-read_parts-clause-given g c =
    given_after c.in-Ok.bytes c.run_input.result.result _ _ (λ is. rw is at c.run_input.ensures) c.in-Ok.ensures.given

pub returns-in-Err-read_parts-clause-leaves : goal.returns-in-Err-read_parts-clause-leaves
returns-in-Err-read_parts-clause-leaves g c =
    let bytes = c.in-Ok.bytes.items in
    (bytes, c.in-Ok.ensures.text, refused_by c.in-Err-read_parts.fault c.args.shake bytes _ _ _ c.in-Ok.ensures.size c.in-Err-read_parts.ensures)

pub returns-in-Err-read_parts-clause-given : goal.returns-in-Err-read_parts-clause-given
returns-in-Err-read_parts-clause-given g c =
    given_after c.in-Ok.bytes _ _ _ (λ is. refuses_other c.in-Err-read_parts.fault _ c.in-Err-read_parts.ensures (cc is)) c.in-Ok.ensures.given
