use Rattle.std.proofs.Common.{rules}
use Rattle.cns_system.proofs.LinkComes.{no_order}
use Rattle.cns_system.proofs.pair.Pair.order_in.Goals as goal

pub returns-in_default : goal.returns-in_default
returns-in_default g c =
    no_order c.args.packet c.args.self.now (search rules)
