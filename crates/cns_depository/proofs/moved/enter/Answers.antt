use Rattle.std.proofs.Common.{◌+◌, ◌∙◌, ap, arith, rules}
use Rattle.std.specs.HashMap.{get}
use Rattle.std.specs.HashMap.Entry.{map_with_value}
use Rattle.cns_depository.specs.declared.moved.Moved.{Moved}
use Rattle.cns_depository.specs.Totals.{place_eq}
use Rattle.cns_depository.proofs.TotalLemmas.{moved_found, put_adds, put_same}
use Rattle.cns_depository.proofs.moved.enter.Goals as goal

pub entered_by-requires : goal.entered_by-requires
entered_by-requires c =
    let was = moved_found (get place_eq c.args.moved.now c.args.place.now) c.or_insert-sides.result.now _ c.or_insert-sides.ensures.value c.in-Ok.ensures.value in
    omega (arith, ap (λ (m : Moved). m.entered) was, c.requires.small)

pub returns-clause-entered : goal.returns-clause-entered
returns-clause-entered c =
    let was = moved_found (get place_eq c.args.moved.now c.args.place.now) c.or_insert-sides.result.now _ c.or_insert-sides.ensures.value c.in-Ok.ensures.value in
    let w = c.entered_by.result in
    let grows = ap (λ (m : Moved). m.entered) c.entered_by.ensures ∙ ap (λ (m : Moved). m.entered + c.args.shares) was in
    let adds = put_adds (λ (m : Moved). m.entered) c.args.place.now w c.args.shares (get place_eq c.args.moved.now) (get place_eq (map_with_value c.in-Ok.entry w)) (c.in-Ok.ensures.update.0 w).0 grows in
    λ q. search (rules, adds q)

pub returns-clause-left : goal.returns-clause-left
returns-clause-left c =
    let was = moved_found (get place_eq c.args.moved.now c.args.place.now) c.or_insert-sides.result.now _ c.or_insert-sides.ensures.value c.in-Ok.ensures.value in
    let w = c.entered_by.result in
    let stays = ap (λ (m : Moved). m.left) c.entered_by.ensures ∙ ap (λ (m : Moved). m.left) was in
    let same = put_same (λ (m : Moved). m.left) c.args.place.now w (get place_eq c.args.moved.now) (get place_eq (map_with_value c.in-Ok.entry w)) (c.in-Ok.ensures.update.0 w).0 stays in
    λ q. search (rules, same q)
