use Rattle.std.proofs.Common.{◌≡◌, ◌<◌, ◌≤◌, ◌+◌, ◌∙◌, ap, arith, length, length-set, subst, sym}
use Rattle.std.proofs.lemmas.List.Elements.{All-nil}
use Rattle.cns_allocate.specs.Waiting.{ArePlaces}
use Rattle.cns_allocate.proofs.WaitingLemmas.{HasMember, first_few, members_more, no_places-are, placed_more, placed_whole, places_more}
use Rattle.cns_allocate.proofs.waiting.place_each.Goals as goal

pub loop-place-init : goal.loop-place-init
loop-place-init c = record {
  size = ap length c.requires.none;
  places_are = subst (ArePlaces c.args.plan.now) (sym c.requires.none) (no_places-are c.args.plan.now 10000);
  placed_all = All-nil _;
  members = All-nil HasMember;
}

pub overflow_cast-places : goal.overflow_cast-places
overflow_cast-places c =
    let few : c.loop-place.place ≤ 9999 = first_few c.args.plan.now c.loop-place.place c.requires.plan (omega arith) c.loop-place.invariant.members in
    omega arith

pub overflow_add-places : goal.overflow_add-places
overflow_add-places c =
    let few : c.loop-place.place ≤ 9999 = first_few c.args.plan.now c.loop-place.place c.requires.plan (omega arith) c.loop-place.invariant.members in
    omega arith

pub loop-place-preserved : goal.loop-place-preserved
loop-place-preserved c =
    let l = c.loop-place in
    let named : c.from.result ≡ c.index-plan-place.result.member = c.from.ensures ∙ c.number.ensures.value in
    let small : c.from.result < length l.places = omega (arith, c.number.ensures.value, c.number.ensures.range, l.invariant.size) in
    let range = c.number.ensures.range in
    record {
      size = length-set l.places c.from.result (l.place + 1) ∙ l.invariant.size;
      places_are = places_more c.args.plan.now l.places l.place c.from.result c.index-plan-place.result c.loop-place-test.true c.index-plan-place.is named small l.invariant.places_are;
      placed_all = placed_more c.args.plan.now l.places l.place c.from.result c.index-plan-place.result c.loop-place-test.true c.index-plan-place.is named small l.invariant.placed_all;
      members = members_more c.args.plan.now l.place c.index-plan-place.result c.loop-place-test.true c.index-plan-place.is (range.from, range.to) l.invariant.members;
    }

pub returns-clause-all : goal.returns-clause-all
returns-clause-all c = placed_whole c.args.plan.now c.loop-place.places c.loop-place.place c.loop-place-test.false c.loop-place.invariant.placed_all
