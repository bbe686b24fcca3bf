use Rattle.std.proofs.Common.{◌∙◌, ap, sym, true, false}
use Rattle.std.specs.Option.{option_copied}
use Rattle.cns_allocate.proofs.TurnLemmas.{turn_some}
use Rattle.cns_allocate.proofs.turns.turn_among.Goals as goal

pub returns-in-Some-first : goal.returns-in-Some-first
returns-in-Some-first c waiting member is at found =
    turn_some waiting member c.in-Some-first.first.now c.in-Some.planned true is (sym (ap option_copied c.in-Some-first.is) ∙ at) (sym c.in-Some.is ∙ found)
    (sym c.is_before.ensures ∙ c.if-is_before.true)

pub returns-in_default-first : goal.returns-in_default-first
returns-in_default-first c waiting member is at found =
    turn_some waiting member c.in-Some-first.first.now c.in-Some.planned false is (sym (ap option_copied c.in-Some-first.is) ∙ at) (sym c.in-Some.is ∙ found)
    (sym c.is_before.ensures ∙ c.if-is_before.false)
