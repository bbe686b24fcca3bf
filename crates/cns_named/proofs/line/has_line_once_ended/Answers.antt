use Rattle.std.specs.Prelude.{◌==◌}
use Rattle.std.proofs.Common.{◌≡◌, ◌∙◌, ◌∷◌, ◌||◌, [], ℕ, List, Bool, true, false, length, take, drop, refl, sym, ap, arith}
use Rattle.std.proofs.lemmas.Bool.{eqb-true}
use Rattle.cns_trades.specs.Fields.{same_text}
use Rattle.cns_input.specs.Sections.{line_size, line_text, raw_lines}
use Rattle.cns_named.specs.Named.{ended, has_line as has_line_in}
use Rattle.cns_named.proofs.MadeLemmas.{ended_first}
use Rattle.cns_named.proofs.line.has_line_once_ended.Goals as goal

-- by the first line
first : (wanted xs line after : List ℕ) (size : ℕ) (empty : Bool) → empty ≡ (length xs == 0) → empty ≡ false → size ≡ line_size xs → line ≡ take size xs → after ≡ drop size xs
    → has_line_in wanted (ended xs) ≡ (same_text (line_text (ended line)) wanted || has_line_in wanted (ended after))
first wanted [] line after size empty is some n l a = absurd (cc (sym is ∙ some))
first wanted (c ∷ cs) line after size empty is some n l a = ended_first wanted c cs ∙ rw (l, a, n) refl

none : (wanted xs : List ℕ) (empty : Bool) → empty ≡ (length xs == 0) → empty ≡ true → has_line_in wanted (ended xs) ≡ false
unfolding raw_lines
none wanted [] empty is e = refl
none wanted (c ∷ cs) empty is e = absurd (omega (arith, eqb-true (length (c ∷ cs)) 0 (sym is ∙ e)))

pub returns-then-eq : goal.returns-then-eq
returns-then-eq c =
    let wanted = c.args.wanted.now in
    let rest = c.loop-wanted.rest.now in
    let after = c.split_at.result.1.now in
    let step = first wanted rest c.split_at.result.0.now after c.line_size.result c.is_empty.result c.is_empty.ensures c.loop-wanted-test.true c.line_size.ensures.size c.split_at.ensures.front c.split_at.ensures.back in
    let is : same_text (line_text (ended c.split_at.result.0.now)) wanted ≡ true = sym (c.if-eq.ensures ∙ ap (λ t. same_text t wanted) c.text_once_ended.ensures) in
    sym (step ∙ ap (λ b. b || has_line_in wanted (ended after)) is) ∙ c.loop-wanted.invariant

pub loop-wanted-preserved : goal.loop-wanted-preserved
loop-wanted-preserved c =
    let wanted = c.args.wanted.now in
    let rest = c.loop-wanted.rest.now in
    let after = c.split_at.result.1.now in
    let step = first wanted rest c.split_at.result.0.now after c.line_size.result c.is_empty.result c.is_empty.ensures c.loop-wanted-test.true c.line_size.ensures.size c.split_at.ensures.front c.split_at.ensures.back in
    let is : same_text (line_text (ended c.split_at.result.0.now)) wanted ≡ false = sym (c.if-eq.ensures ∙ ap (λ t. same_text t wanted) c.text_once_ended.ensures) in
    sym (step ∙ ap (λ b. b || has_line_in wanted (ended after)) is) ∙ c.loop-wanted.invariant

pub returns : goal.returns
returns c = sym (none c.args.wanted.now c.loop-wanted.rest.now c.is_empty.result c.is_empty.ensures c.loop-wanted-test.false) ∙ c.loop-wanted.invariant
