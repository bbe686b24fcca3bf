use Rattle.std.proofs.Common.{◌∙◌, ◌++◌, ◌∷◌, [], take, ap, arith, subst, sym}
use Rattle.std.proofs.lemmas.List.{take_all, take_more}
use Rattle.cns_system.specs.Run.{Run}
use Rattle.cns_system.proofs.RunLemmas.{one_more}
use Rattle.cns_system.proofs.system.System.run.Goals as goal

pub loop-event-preserved : goal.loop-event-preserved
loop-event-preserved g c =
    let i = c.loop-event.event-index in
    let events = c.args.events.now in
    let more = take_more events i c.event-item.result c.loop-event-test.true ∙ ap (λ e. take i events ++ e ∷ []) (sym c.event-item.is) in
    let occurs = c.step-outcome.ensures in
    record {
      run =
          rw (more, c.push_reserved.ensures.items)
          (one_more (take i events) c.loop-event.outcomes.items c.event-item.result c.step-outcome.result c.args.self.now c.loop-event.self c.step-outcome.new.self c.loop-event.invariant.run
          (record { comes = occurs.comes; sound = occurs.sound; accord = occurs.accord; frames = occurs.frames; agreed = occurs.headline; strict = occurs.strict }));
      accord = occurs.accord;
      agreed = occurs.headline;
      strict = λ before. occurs.strict (c.loop-event.invariant.strict before);
      len = omega (arith, c.push_reserved.ensures.len, c.loop-event.invariant.len);
      room = omega (arith, c.push_reserved.ensures.capacity, c.loop-event.invariant.room);
    }

pub returns-clause-run : goal.returns-clause-run
returns-clause-run g c =
    subst (λ es. Run es c.loop-event.outcomes.items c.args.self.now c.loop-event.self)
    (take_all c.loop-event.event-index c.args.events.now c.loop-event-test.false) c.loop-event.invariant.run
