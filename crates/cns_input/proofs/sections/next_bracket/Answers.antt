use Rattle.std.proofs.Common.{◌≡◌, ◌+◌, ◌-◌, ◌≤◌, inl, inr, sym, ◌∙◌, arith, length, length-drop, drop}
use Rattle.std.specs.Prelude.{slice_index}
use Rattle.std.proofs.lemmas.Bool.{cases_eq}
use Rattle.std.proofs.lemmas.List.{get_or-drop, take_rest}
use Rattle.cns_input.proofs.BracketLemmas.{bracket_begins, bracket_inside, bracket_nowhere}
use Rattle.cns_input.proofs.sections.next_bracket.Goals as goal
use Rattle.cns_input.proofs.sections.next_bracket.Goals.{then-place-eq0-via-then-place-eq0, then-place-eq0-via-else-place-eq0+then-text-bracket-eq10}

-- src/sections.rt:62:13
pub returns-then-place-eq0 : goal.returns-then-place-eq0
returns-then-place-eq0 c =
    let text = c.args.text.now in
    let at = c.loop-place.at in
    let k = c.in-Some.place in
    let first = rw (take_rest text at) at c.in-Some.ensures in
    let starts : (j : _) → k ≡ j + 1 → slice_index (drop at text) j ≡ 10 = λ j is. elim c.then-place-eq0.branch [
      | then-place-eq0-via-then-place-eq0 w ↦ absurd (omega (arith, is, w.if-place-eq0.true))
      | then-place-eq0-via-else-place-eq0+then-text-bracket-eq10 w ↦
          let place : at + k - 1 ≡ at + j = omega (arith, is) in
          get_or-drop at text j 0 ∙ rw place at w.if-text-bracket-eq10.true
    ] in
    bracket_begins text at k c.loop-place.invariant.0 c.loop-place.invariant.1 first.0 starts

-- src/sections.rt:59:5
pub loop-place-preserved : goal.loop-place-preserved
loop-place-preserved c =
    let text = c.args.text.now in
    let at = c.loop-place.at in
    let k = c.in-Some.place in
    let first = rw (take_rest text at) at c.in-Some.ensures in
    let line = rw (take_rest text (at + k)) at c.line_size.ensures in
    let some : (k ≡ 0 → ⊥) = c.if-place-eq0.false in
    let is : k ≡ k - 1 + 1 = elim (cases_eq k 0) [ inl zero ↦ absurd (some zero) | inr more ↦ omega (arith, more) ] in
    let place : at + (k - 1) ≡ at + k - 1 = omega (arith, is) in
    let inside : slice_index (drop at text) (k - 1) ≡ 10 → ⊥ = λ ends. c.if-text-bracket-eq10.false (rw place at (sym (get_or-drop at text (k - 1) 0) ∙ ends)) in
    let within : c.line_size.result ≤ length text - (at + k) = omega (arith, line.within, length-drop (at + k) text) in
    let low = first.0.high in
    (omega (arith, within, low, length-drop at text, c.loop-place.invariant.0), λ head begins. rw line.size (bracket_inside text at k c.loop-place.invariant.0 c.loop-place.invariant.1 first.0 (k - 1) is inside head begins))

-- src/sections.rt:55:1
pub returns : goal.returns
returns c = bracket_nowhere c.args.text.now c.loop-place.at c.loop-place.invariant.1 (rw (take_rest c.args.text.now c.loop-place.at) at (c.in_default.ensures))
