use Rattle.std.proofs.Common.{rules, ap, ◌∙◌}
use Rattle.cns_movements.specs.Fields.{order_bytes, read_order, version_of}
use Rattle.cns_movements.proofs.FieldLemmas.{read_order-order_bytes}
use Rattle.cns_movements.proofs.order.Order.write_bytes.Goals as goal

pub returns-clause-back : goal.returns-clause-back
unfolding order_bytes
returns-clause-back c =
    ap (read_order (version_of c.args.self.now) c.args.self.now.kind) (search rules)
    ∙ read_order-order_bytes c.args.self.now
    (record { number = c.number.ensures.range; cycle = c.write_cycle.ensures.real; member = c.number-2.ensures.range; issue = c.to_bytes.ensures.cusip; asked = c.shares.ensures.range })
