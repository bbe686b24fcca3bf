use Rattle.std.proofs.Common.{subst}
use Rattle.cns_system.specs.Accord.{StaysSound}
use Rattle.cns_system.specs.Headline.{AreStrict}
use Rattle.cns_system.proofs.EventKeeps.{step_keeps, step_strict}
use Rattle.cns_system.proofs.HeadlineLemmas.{agreed}
use Rattle.cns_system.proofs.SoundLemmas.{step_sound}
use Rattle.cns_system.proofs.system.System.step.Goals as goal

pub invariant_of-self : goal.invariant_of-self
invariant_of-self g c = step_keeps c.args.event c.step-outcome.result c.self.inside.pair c.step-outcome.new.self c.lawful.ensures.lawful c.step-outcome.ensures c.self.invariant

pub returns-clause-accord : goal.returns-clause-accord
returns-clause-accord g c = step_keeps c.args.event c.step-outcome.result c.self.inside.pair c.step-outcome.new.self c.lawful.ensures.lawful c.step-outcome.ensures c.self.invariant

pub returns-clause-sound : goal.returns-clause-sound
returns-clause-sound g c =
    subst (λ w. StaysSound w c.args.event c.step-outcome.result) c.self.view_is
    (step_sound c.args.event c.step-outcome.result c.self.inside.pair c.step-outcome.new.self c.step-outcome.ensures c.self.invariant)

pub returns-clause-headline : goal.returns-clause-headline
returns-clause-headline g c =
    agreed c.step-outcome.new.self c.lawful-2.ensures.lawful c.lawful-2.ensures.balanced c.lawful-2.ensures.frames
    (step_keeps c.args.event c.step-outcome.result c.self.inside.pair c.step-outcome.new.self c.lawful.ensures.lawful c.step-outcome.ensures c.self.invariant)

pub returns-clause-strict : goal.returns-clause-strict
returns-clause-strict g c =
    subst (λ w. AreStrict w → AreStrict c.step-outcome.new.self) c.self.view_is
    (step_strict c.args.event c.step-outcome.result c.self.inside.pair c.step-outcome.new.self c.lawful.ensures.lots c.lawful.ensures.tied c.step-outcome.ensures)
