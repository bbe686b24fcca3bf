use Rattle.std.proofs.Common.{ℕ, ◌-◌, List, Some, length, drop, sym, ap, ◌∙◌}
use Rattle.cns_input.proofs.SectionLemmas.{script_is_last}
use Rattle.cns_batch.proofs.batch.read_front.Goals as goal

pub overflow_sub-result : goal.overflow_sub-result
overflow_sub-result c = (script_is_last c.args.text.now _ _ _ (sym c.in-Some.ensures)).0

pub returns-clause-parts : goal.returns-clause-parts
returns-clause-parts c =
    let text = c.args.text.now in
    let parts = c.in-Some.sections in
    let last = (script_is_last text _ _ _ (sym c.in-Some.ensures)).1 in
    c.in_ok-rows.ensures text (drop (length text - length parts.script.now) text)
    (sym c.in-Some.ensures ∙ ap (λ (script : List ℕ). Some (parts.openings.now, parts.trades.now, script)) last)
