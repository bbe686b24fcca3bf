use Rattle.std.proofs.Common.{refl, subst}
use Rattle.std.specs.Prelude.{All}
use Rattle.std.proofs.lemmas.List.{take_all}
use Rattle.cns_depository.specs.Stock.{executed_of}
use Rattle.cns_system.specs.Agreement.{IsExecuted}
use Rattle.cns_system.proofs.AgreementLemmas.{all_here, all_next}
use Rattle.cns_system.proofs.agreement.are_executed.Goals as goal

pub returns-then-not-is_executed : goal.returns-then-not-is_executed
returns-then-not-is_executed g c = (
  λ e. cc e,
  λ all.
      let here = all_here (IsExecuted (executed_of c.args.depot.now.log.records)) c.args.replies.now c.loop-reply.reply-index c.reply-item.result c.loop-reply-test.true c.reply-item.is all in
      cc (c.is_executed.ensures.1 here, c.if-not-is_executed.true),
)

pub loop-reply-preserved : goal.loop-reply-preserved
loop-reply-preserved g c =
    all_next (IsExecuted (executed_of c.args.depot.now.log.records)) c.args.replies.now c.loop-reply.reply-index c.reply-item.result c.loop-reply-test.true c.reply-item.is
    c.loop-reply.invariant (c.is_executed.ensures.0 c.if-not-is_executed.false)

pub returns : goal.returns
returns g c =
    let all = subst (All (IsExecuted (executed_of c.args.depot.now.log.records))) (take_all c.loop-reply.reply-index c.args.replies.now c.loop-reply-test.false) c.loop-reply.invariant in
    (λ e. all, λ held. refl)
