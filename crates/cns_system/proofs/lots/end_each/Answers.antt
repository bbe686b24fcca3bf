use Rattle.std.proofs.Common.{arith, length-set, ◌∙◌}
use Rattle.std.proofs.lemmas.List.Edits.{map_over_more}
use Rattle.cns_system.specs.Lot.{with_end}
use Rattle.cns_system.proofs.lots.end_each.Goals as goal

pub loop-index-preserved : goal.loop-index-preserved
loop-index-preserved c = record {
  ended = rw (c.end.ensures)
      (map_over_more with_end c.args.lots.now.items c.loop-index.lots.items c.loop-index.index c.index_mut-one.result.now (omega arith) c.loop-index.invariant.ended c.index_mut-one.ensures.value);
  len = length-set _ _ _ ∙ c.loop-index.invariant.len;
}
