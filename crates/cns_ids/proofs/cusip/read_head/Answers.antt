use Rattle.std.proofs.Common.{◌≡◌, ◌+◌, ◌-◌, ◌*◌, ◌%◌, ◌<◌, ◌∙◌, ℕ, [], ap, arith, drop, get_or, is_some, refl, sym}
use Rattle.std.proofs.lemmas.List.{drop_all, drop_more, take_all}
use Rattle.cns_ids.specs.Cusip.{first_bad, share_at, sum_from, value_of}
use Rattle.cns_ids.specs.CusipNumber.{widened}
use Rattle.cns_ids.proofs.CusipLemmas.{first_bad-here, first_bad-step, joined, joined-end, joined-push, joined_eight, room-push, share_missing, share_there, sum_from-step, widened-push, widened-zero}
use Rattle.cns_ids.proofs.cusip.read_head.Goals as goal

pub loop-character-init : goal.loop-character-init
loop-character-init c = record {
  place = refl;
  listed = refl;
  sum = omega arith;
  small = omega arith;
  number = ap (λ (n : ℕ). joined n c.args.text.now) (widened-zero 0);
  room = omega arith;
}

pub returns-in_default : goal.returns-in_default
returns-in_default c =
    let text = c.args.text.now in
    let index = c.loop-character.character-index in
    let place = c.loop-character.place in
    let here = get_or text index 0 in
    let more = drop_more text index 0 c.loop-character-test.true in
    let unlisted = share_missing (is_some (value_of here)) (share_at place here) c.in_default.ensures.share in
    let early : place < 9 = omega (arith, c.loop-character.invariant.place, c.loop-character-test.true, c.requires) in
    record {
      place = place;
      first = sym c.loop-character.invariant.listed ∙ ap (first_bad place) more ∙ first_bad-here place here (drop (index + 1) text) early unlisted;
      told = refl;
    }

pub loop-character-preserved : goal.loop-character-preserved
loop-character-preserved c =
    let text = c.args.text.now in
    let index = c.loop-character.character-index in
    let place = c.loop-character.place in
    let held = c.loop-character.number in
    let kept = c.loop-character.invariant in
    let here = get_or text index 0 in
    let rest = drop (index + 1) text in
    let more = drop_more text index 0 c.loop-character-test.true in
    let there = share_there (is_some (value_of here)) c.in-Some.share (share_at place here) c.in-Some.ensures.share in
    let early : place < 9 = omega (arith, kept.place, c.loop-character-test.true, c.requires) in
    let sum = ap (sum_from place) more ∙ sum_from-step place here rest ∙ ap (λ (s : ℕ). s + sum_from (place + 1) rest) (sym there.1) in
    let push : widened (index + 1) (held * 128 + c.from.result) ≡ widened index held * 256 + here = rw c.from.ensures (widened-push index held here c.in-Some.ensures.ascii) in
    record {
      place = omega (arith, kept.place);
      listed = sym (first_bad-step place here rest early there.0) ∙ ap (first_bad place) (sym more) ∙ kept.listed;
      sum = omega (arith, kept.sum, sum, c.from-sum.ensures);
      small = omega (arith, kept.small, c.in-Some.ensures.small, c.from-sum.ensures);
      number = ap (λ (n : ℕ). joined n rest) push ∙ sym (joined-push (widened index held) here rest) ∙ ap (joined (widened index held)) (sym more) ∙ kept.number;
      room = rw c.from.ensures (room-push index held here kept.room c.in-Some.ensures.ascii);
    }

pub returns : goal.returns
unfolding first_bad sum_from
returns c =
    let text = c.args.text.now in
    let index = c.loop-character.character-index in
    let place = c.loop-character.place in
    let held = c.loop-character.number in
    let kept = c.loop-character.invariant in
    let eight : index ≡ 8 = omega (arith, c.requires, c.loop-character-test.false) in
    let none = drop_all index text (omega (arith, c.loop-character-test.false)) in
    let wide : joined (widened index held) [] ≡ joined 0 text = ap (joined (widened index held)) (sym none) ∙ kept.number in
    let room = rw eight at kept.room in
    let left : sum_from place (drop index text) ≡ 0 = ap (sum_from place) none in
    let total : c.loop-character.sum ≡ sum_from 1 text = omega (arith, kept.sum, left) in
    let whole = take_all 8 text (omega (arith, c.requires)) in
    record {
      listed = sym kept.listed ∙ ap (first_bad place) none;
      number = ap (λ (k : ℕ). widened k held) (sym eight) ∙ sym (joined-end (widened index held)) ∙ wide ∙ joined_eight text c.requires;
      small = omega (arith, room);
      digit = ap (λ (s : ℕ). (10 - s % 10) % 10) (total ∙ ap (sum_from 1) (sym whole));
    }
