use Rattle.std.proofs.Common.{◌≡◌, ◌+◌, ◌<◌, ◌∙◌, sym, length, arith, length-drop}
use Rattle.std.proofs.lemmas.List.{take_rest}
use Rattle.cns_input.specs.Sections.{IsPassed}
use Rattle.cns_input.proofs.BracketLemmas.{pass_both}
use Rattle.cns_input.proofs.SectionLemmas.{found, passed}
use Rattle.cns_input.proofs.sections.split_at_head.Goals as goal

-- src/sections.rt:80:13
pub returns-then-is_head : goal.returns-then-is_head
returns-then-is_head c =
    let text = c.args.text.now in
    let head = c.args.head.now in
    let at = c.loop-place.at in
    let next = rw (take_rest text at) at (c.in-Some.ensures head c.requires) in
    let here : IsPassed head text (at + c.in-Some.place) = pass_both head text at c.in-Some.place c.loop-place.invariant.1 next.1 in
    let rest = c.split_at.ensures.back in
    let lt : at + c.in-Some.place < length text = omega (arith, next.0, length-drop at text) in
    let pos : 0 < length c.split_at.result.1.now = rw rest (omega (arith, length-drop (at + c.in-Some.place) text, lt)) in
    let line = rw c.line_size-size.ensures.size at c.split_at-in-Some.ensures.front in
    let after = rw c.line_size-size.ensures.size at c.split_at-in-Some.ensures.back in
    rw c.split_at.ensures.front (found head text _ _ _ (at + c.in-Some.place) _ lt rest pos line after (sym c.is_head.ensures ∙ c.if-is_head.true) (sym here))

-- src/sections.rt:75:5
pub loop-place-preserved : goal.loop-place-preserved
loop-place-preserved c =
    let text = c.args.text.now in
    let head = c.args.head.now in
    let at = c.loop-place.at in
    let next = rw (take_rest text at) at (c.in-Some.ensures head c.requires) in
    let here : IsPassed head text (at + c.in-Some.place) = pass_both head text at c.in-Some.place c.loop-place.invariant.1 next.1 in
    let rest = c.split_at.ensures.back in
    let lt : at + c.in-Some.place < length text = omega (arith, next.0, length-drop at text) in
    let len = length-drop (at + c.in-Some.place) text in
    let pos : 0 < length c.split_at.result.1.now = rw rest (omega (arith, len, lt)) in
    let within = rw rest at c.line_size-size.ensures.within in
    let front : length c.split_at.result.0.now ≡ at + c.in-Some.place = c.split_at.ensures.front_len in
    (omega (arith, within, len, lt, front), rw front (sym (passed head text _ _ (at + c.in-Some.place) _ _ rest pos c.line_size-size.ensures.size c.split_at-in-Some.ensures.front (sym c.is_head.ensures ∙ c.if-is_head.false) (sym here))))
