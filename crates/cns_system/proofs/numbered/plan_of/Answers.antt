use Rattle.cns_system.proofs.NumberedLemmas.{lawful_plan, small_plan}
use Rattle.cns_system.proofs.numbered.plan_of.Goals as goal

pub returns-clause-small : goal.returns-clause-small
returns-clause-small g c =
    small_plan c.args.node.now.log.records c.args.issue c.book-book.result.now.history c.in_ok-plan.plan c.book-book.ensures.lawful c.book-book.ensures.history
    c.book-book.ensures.small c.in_ok-plan.ensures

pub returns-clause-lawful : goal.returns-clause-lawful
returns-clause-lawful g c =
    lawful_plan c.args.node.now.log.records c.args.issue c.book-book.result.now.history c.in_ok-plan.plan c.book-book.ensures.lawful c.book-book.ensures.history
    c.book-book.ensures.small c.in_ok-plan.ensures
