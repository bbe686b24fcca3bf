use Rattle.std.proofs.Common.{◌∙◌, ap, arith}
use Rattle.cns_file.specs.Tail.{tail_kind}
use Rattle.cns_file.proofs.ExtentLemmas.{last_rest, next_rest, rest_shrinks, whole_rest}
use Rattle.cns_file.proofs.extent.extent_of.Goals as goal

pub records-init : goal.records-init
records-init c = whole_rest _

pub overflow_add-records : goal.overflow_add-records
overflow_add-records c = omega (arith, c.records.invariant.within, rest_shrinks c.records.rest.now c.in-Some.record.behind.now c.in-Some.ensures.some.0 c.in-Some.ensures.some.2)

pub records-smaller : goal.records-smaller
records-smaller c = rest_shrinks _ _ c.in-Some.ensures.some.0 c.in-Some.ensures.some.2

pub records-preserved : goal.records-preserved
records-preserved c = next_rest _ _ _ _ c.records.invariant c.in-Some.ensures.some.0 c.in-Some.ensures.some.2

pub returns-clause-records : goal.returns-clause-records
returns-clause-records c = (last_rest _ _ _ c.records.invariant c.in_default.ensures.none).records_are

pub returns-clause-bytes : goal.returns-clause-bytes
returns-clause-bytes c = (last_rest _ _ _ c.records.invariant c.in_default.ensures.none).end_is

pub returns-clause-tail : goal.returns-clause-tail
returns-clause-tail c = c.tail_of.ensures ∙ ap tail_kind (last_rest _ _ _ c.records.invariant c.in_default.ensures.none).rest_is
