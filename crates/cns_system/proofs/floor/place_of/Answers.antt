use Rattle.std.proofs.Common.{◌≡◌, ◌∙◌, ap, length, refl, subst, sym}
use Rattle.std.specs.Prelude.{All}
use Rattle.std.proofs.lemmas.List.{take_all}
use Rattle.std.proofs.lemmas.List.Elements.{All-more, All-nil}
use Rattle.std.proofs.lemmas.Option.{slice_get_read}
use Rattle.cns_system.specs.Floor.{BusyLot}
use Rattle.cns_system.proofs.FloorLemmas.{first_found, none_found}
use Rattle.cns_system.proofs.floor.place_of.Goals as goal

pub loop-place-init : goal.loop-place-init
loop-place-init c = All-nil (λ (b : BusyLot). b.lot ≡ c.args.lot → ⊥)

pub loop-place-preserved : goal.loop-place-preserved
loop-place-preserved c =
    let x = c.index-busy-place.result in
    All-more (λ (b : BusyLot). b.lot ≡ c.args.lot → ⊥) c.args.busy.now c.loop-place.place x c.loop-place-test.true c.loop-place.invariant
    (λ e. c.if-lot.false (c.lot.ensures ∙ ap (λ (b : BusyLot). b.lot) c.index-busy-place.is ∙ e))

pub returns-then-lot : goal.returns-then-lot
returns-then-lot c =
    let x = c.index-busy-place.result in
    let there = slice_get_read c.args.busy.now (length c.args.busy.now) c.loop-place.place x refl c.loop-place-test.true c.index-busy-place.is in
    (x, first_found c.args.busy.now c.args.lot c.loop-place.place x c.loop-place.invariant there (sym c.lot.ensures ∙ c.if-lot.true), there)

pub returns : goal.returns
returns c =
    none_found c.args.busy.now c.args.lot
    (subst (λ bs. All (λ (b : BusyLot). b.lot ≡ c.args.lot → ⊥) bs) (take_all c.loop-place.place c.args.busy.now c.loop-place-test.false) c.loop-place.invariant)
