use Rattle.std.proofs.Common.{◌≡◌, ◌∙◌, None, ap, sym}
use Rattle.cns_system.specs.Floor.{busy_at, busy_with_pour}
use Rattle.cns_system.proofs.FloorLemmas.{all_stay, changed_in_place, fits_at, none_busy, read_busy}
use Rattle.cns_system.proofs.floor.pour_into.Goals as goal

pub pour-requires : goal.pour-requires
pour-requires c =
    fits_at c.args.lot c.args.shares c.in-Some.place c.args.busy.now.items c.index_mut-one.result.now c.requires.fits
    (read_busy c.args.busy.now.items c.as_slice.result.now c.args.lot c.in-Some.place c.index_mut-one.result.now c.as_slice.ensures.value c.in-Some.ensures c.index_mut-one.ensures.value)

pub returns-in-Some : goal.returns-in-Some
returns-in-Some c =
    changed_in_place (busy_with_pour c.args.shares) c.args.lot c.in-Some.place c.args.busy.now.items c.index_mut-one.result.now c.pour.new.self c.requires.order
    (read_busy c.args.busy.now.items c.as_slice.result.now c.args.lot c.in-Some.place c.index_mut-one.result.now c.as_slice.ensures.value c.in-Some.ensures c.index_mut-one.ensures.value)
    c.pour.ensures

pub returns-in-None : goal.returns-in-None
returns-in-None c =
    let none : busy_at c.args.busy.now.items c.args.lot ≡ None = ap (λ bs. busy_at bs c.args.lot) (sym c.as_slice.ensures.value) ∙ c.in-None.ensures in
    sym (all_stay (busy_with_pour c.args.shares) c.args.lot c.args.busy.now.items (none_busy c.args.busy.now.items c.args.lot none))
