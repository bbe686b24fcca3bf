use Rattle.std.proofs.Common.{◌≡◌, ◌++◌, [], ◌∙◌, ap, sym, subst, List}
use Rattle.std.specs.List.{cons_option, filter_map}
use Rattle.std.specs.Map.Iter.{deref_pair}
use Rattle.std.proofs.lemmas.List.{append_assoc, append-nil}
use Rattle.std.proofs.lemmas.Map.Iter.{rest_all, rest_more}
use Rattle.cns_trades.specs.declared.opening.Opening.{Opening}
use Rattle.cns_depository.specs.declared.place.Place.{Place}
use Rattle.cns_depository.specs.declared.ranges.Range.{Range}
use Rattle.cns_depository.specs.Ranges.{AreEnough, least_opening, standing}
use Rattle.cns_depository.proofs.LeastOpenings.{least_enough}
use Rattle.cns_depository.proofs.RowLemmas.{one_more}
use Rattle.cns_depository.proofs.ranges.OpeningRanges.least_openings.Goals as goal

pub loop-place-init : goal.loop-place-init
loop-place-init c =
    ap (λ (xs : List Opening). xs ++ filter_map least_opening c.into_iter-place-iterator.result) c.new-openings.ensures.items ∙ ap (filter_map least_opening) c.into_iter-place-iterator.ensures.into_iter_gives.0

pub loop-place-preserved : goal.loop-place-preserved
loop-place-preserved c =
    let held = c.loop-place.openings.items in
    let entry : Place × Range = (c.in-Some.place.now, c.in-Some.range.now) in
    let rest = filter_map least_opening c.next.new.self in
    let first = rest_more deref_pair c.loop-place.place-iterator c.next.new.self c.next.result (c.in-Some.place, c.in-Some.range) c.in-Some.is c.next.ensures.steps in
    ap (λ (xs : List Opening). xs ++ rest) c.in_ok-push_least.ensures ∙ append_assoc held (cons_option (least_opening entry) []) rest
    ∙ ap (λ (xs : List Opening). held ++ xs) (one_more (least_opening entry) rest ∙ ap (filter_map least_opening) (sym first)) ∙ c.loop-place.invariant

pub returns : goal.returns
returns c = λ p are openings of.
    let held = c.loop-place.openings.items in
    let none = rest_all deref_pair c.loop-place.place-iterator c.next.new.self c.next.result c.in-None.is c.next.ensures.steps in
    let all : held ≡ filter_map least_opening c.args.self.now.ranges.entries =
    sym (append-nil held) ∙ ap (λ (es : List (Place × Range)). held ++ filter_map least_opening es) (sym none) ∙ c.loop-place.invariant in
    let enough = least_enough c.args.self.now.ranges.entries p openings c.into_iter-place-iterator.ensures.into_iter_gives.4 are.ranges of in
    subst (λ (list : List Opening). AreEnough (standing list) openings p) (sym all) enough
