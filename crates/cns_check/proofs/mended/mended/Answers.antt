use Rattle.cns_check.proofs.MendedLemmas.{mended_all, mended_next}
use Rattle.cns_check.proofs.mended.mended.Goals as goal

pub loop-rest-preserved : goal.loop-rest-preserved
loop-rest-preserved c =
    mended_next c.loop-rest.out.items c.extend_from_slice.new.self.items c.args.text.now c.loop-rest.rest.now c.split_at.result.0.now c.split_at.result.1.now c.mended_line.result.now c.line_size.result c.is_empty.result
    c.is_empty.ensures c.loop-rest-test.true c.line_size.ensures.size c.split_at.ensures.front c.split_at.ensures.back c.mended_line.ensures c.in_ok-extend_from_slice.ensures.items c.loop-rest.invariant

pub returns : goal.returns
returns c = mended_all c.loop-rest.out.items c.args.text.now c.loop-rest.rest.now c.is_empty.result c.is_empty.ensures c.loop-rest-test.false c.loop-rest.invariant
