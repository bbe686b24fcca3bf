use Rattle.std.proofs.Common.{◌≡◌, ◌+◌, None, length, length-append, refl, rules}
use Rattle.cns_records.specs.declared.refusal.Refusal.TheVariants as refusal
use Rattle.cns_records.proofs.CallLemmas.{grown, no_room, not_grown}
use Rattle.cns_clearing.specs.Lots.{avail_in, plan_in}
use Rattle.cns_clearing.specs.Pools.{lot_of}
use Rattle.cns_system.specs.Numbered.{opening_call}
use Rattle.cns_system.proofs.NumberedLemmas.{all_free, open_tied, opening_again, opening_down, opening_goes, opening_spent}
use Rattle.cns_system.proofs.numbered.NumberedClearing.lot_open.Goals as goal

pub returns-then-is_down : goal.returns-then-is_down
returns-then-is_down g c =
    not_grown refusal.OutOfMemory (opening_call c.args.issue c.args.self.now) refusal.Down _ c.args.self.now c.args.self.now (opening_down c.args.issue c.args.self.now (search rules)) refl refl

pub returns-then-is_some : goal.returns-then-is_some
returns-then-is_some g c =
    not_grown refusal.OutOfMemory (opening_call c.args.issue c.args.self.now) refusal.LotAlready _ c.args.self.now c.args.self.now
    (opening_again c.args.issue c.args.self.now (search rules) (search rules)) refl refl

pub invariant_of-self-2 : goal.invariant_of-self-2
invariant_of-self-2 g c =
    let none : lot_of c.self.inside.node.lots c.args.issue ≡ None = search rules in
    open_tied c.self.inside.node c.lot_open_with.new.self c.self.inside.lots.lots c.add.new.self.lots c.args.issue c.in_ok-plan.plan c.in_ok-lot.lot c.self.invariant none
    (search rules) c.in_ok-plan.ensures.plan c.in_ok-plan.ensures.lawful c.in_ok-lot.ensures.lot (search rules)

pub returns-then-len-ge-MAX_LOTS : goal.returns-then-len-ge-MAX_LOTS
returns-then-len-ge-MAX_LOTS g c =
    not_grown refusal.OutOfMemory (opening_call c.args.issue c.args.self.now) refusal.LotsSpent _ c.args.self.now c.args.self.now
    (opening_spent c.args.issue c.args.self.now (search rules) (search rules) (search rules)) refl refl

pub returns-in_err-plan : goal.returns-in_err-plan
returns-in_err-plan g c =
    no_room refusal.OutOfMemory (opening_call c.args.issue c.args.self.now) _ _ _ c.args.self.now _
    (opening_goes c.args.issue c.args.self.now (search rules) (search rules) (search rules)) (search rules) (search rules)

pub returns-in_err-answer : goal.returns-in_err-answer
returns-in_err-answer g c =
    no_room refusal.OutOfMemory (opening_call c.args.issue c.args.self.now) _ _ _ c.args.self.now _
    (opening_goes c.args.issue c.args.self.now (search rules) (search rules) (search rules)) (search rules) (search rules)

pub returns-in_err-lot : goal.returns-in_err-lot
returns-in_err-lot g c =
    no_room refusal.OutOfMemory (opening_call c.args.issue c.args.self.now) _ _ _ c.args.self.now _
    (opening_goes c.args.issue c.args.self.now (search rules) (search rules) (search rules)) (search rules) (search rules)

pub returns-in_err-lot_open_with : goal.returns-in_err-lot_open_with
returns-in_err-lot_open_with g c =
    no_room refusal.OutOfMemory (opening_call c.args.issue c.args.self.now) _ _ _ c.args.self.now _
    (opening_goes c.args.issue c.args.self.now (search rules) (search rules) (search rules)) (search rules) (search rules)

pub returns : goal.returns
returns g c =
    let number : c.add.result ≡ length c.args.self.now.lots + 1 = search (rules, length-append) in
    let poured : c.free-poured.result ≡ avail_in c.args.self.now.clear.log.records c.args.issue = search (rules, all_free) in
    let plan : c.in_ok-answer.answer ≡ plan_in c.args.self.now.clear.log.records c.args.issue = search rules in
    grown refusal.OutOfMemory (opening_call c.args.issue c.args.self.now) _ _ _ c.args.self.now _
    (opening_goes c.args.issue c.args.self.now (search rules) (search rules) (search rules)) (rw (number, poured, plan) refl) (search rules)
