use Rattle.std.proofs.Common.{rules, subst, sym}
use Rattle.cns_clearing.specs.Node.{ClearNode, IsOpened}
use Rattle.cns_system.specs.Agreement.{Agree}
use Rattle.cns_system.proofs.LinkComes.{no_frames}
use Rattle.cns_system.proofs.pair.Pair.open.Goals as goal

pub invariant_of-result : goal.invariant_of-result
invariant_of-result g c = rw (c.new-3.ensures.packets, c.new-4.ensures.packets) no_frames

pub returns-clause-ok : goal.returns-clause-ok
returns-clause-ok g c = record {
  clear_opens = subst (IsOpened (g.C.Keeper.state c.args.clear)) (sym c.new-2.ensures.clear) c.in-Ok.ensures.ok;
  depot_opens = c.in-Ok-open.ensures.ok;
  agree = subst (λ (n : ClearNode). Agree n.log.records c.in-Ok-open.node.log.records) (sym c.new-2.ensures.clear) (search rules);
  lots = c.new-2.ensures.lots;
  order_packets = c.new-3.ensures.packets;
  reply_packets = c.new-4.ensures.packets;
}
