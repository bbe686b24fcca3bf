use Rattle.std.proofs.Common.{◌≡◌, Some, true}
use Rattle.std.specs.Map.Iter.{deref}
use Rattle.std.proofs.lemmas.Map.Iter.{rest_all, rest_more}
use Rattle.cns_file.specs.Records.{payloads_left}
use Rattle.cns_audit.proofs.LeastLemmas.{taken_all, taken_next}
use Rattle.cns_audit.proofs.least.ranges_or_bad.Goals as goal
use Rattle.cns_audit.proofs.least.ranges_or_bad.Goals.{in-None, in-Some+in_ok-take_payload+in-None-2}

pub loop-payload-preserved : goal.loop-payload-preserved
loop-payload-preserved c = record {
  some = c.in_ok-take_payload.ensures.some;
  taken = λ p openings has are.
      let left = rest_more deref (payloads_left c.loop-payload.payload-iterator) (payloads_left c.next.new.self) c.next.result c.in-Some.payload c.in-Some.is c.next.ensures.steps in
      (taken_next p openings c.loop-payload.ranges c.take_payload.new.ranges c.in-Some.payload.now (payloads_left c.loop-payload.payload-iterator) (payloads_left c.next.new.self) c.in_ok-take_payload.field-0 are
      (c.loop-payload.invariant.taken p openings has are) left c.in_ok-take_payload.ensures.takes).0;
}

pub returns-in-Some-false : goal.returns-in-Some-false
returns-in-Some-false c = λ p openings has are.
    let left = rest_more deref (payloads_left c.loop-payload.payload-iterator) (payloads_left c.next.new.self) c.next.result c.in-Some.payload c.in-Some.is c.next.ensures.steps in
    let found : c.in_ok-take_payload.field-0 ≡ Some true =
    (taken_next p openings c.loop-payload.ranges c.take_payload.new.ranges c.in-Some.payload.now (payloads_left c.loop-payload.payload-iterator) (payloads_left c.next.new.self) c.in_ok-take_payload.field-0 are
    (c.loop-payload.invariant.taken p openings has are) left c.in_ok-take_payload.ensures.takes).1 in
    cc (found, c.in-Some-false.is, c.in-Some-false.field-0-test)

pub returns : goal.returns
returns c = λ p openings has are.
    let before = c.loop-payload.invariant.taken p openings has are in
    let now = payloads_left c.loop-payload.payload-iterator in
    let behind = payloads_left c.next.new.self in
    elim c.match-next.branch [
      | in-None w ↦ rw w.ranges-is (taken_all p c.loop-payload.ranges now (rest_all deref now behind c.next.result w.in-None.is c.next.ensures.steps) before)
      | in-Some+in_ok-take_payload+in-None-2 w ↦
          let left = rest_more deref now behind c.next.result w.in-Some.payload w.in-Some.is c.next.ensures.steps in
          let found : w.in_ok-take_payload.field-0 ≡ Some true =
          (taken_next p openings c.loop-payload.ranges w.take_payload.new.ranges w.in-Some.payload.now now behind w.in_ok-take_payload.field-0 are before left w.in_ok-take_payload.ensures.takes).1 in
          absurd (cc (found, w.in-None-2.is))
    ]
