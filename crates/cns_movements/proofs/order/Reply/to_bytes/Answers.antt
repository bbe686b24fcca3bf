use Rattle.std.proofs.Common.{rules, ap, ◌∙◌}
use Rattle.cns_movements.specs.Fields.{reply_bytes, read_reply}
use Rattle.cns_movements.proofs.FieldLemmas.{read_reply-reply_bytes}
use Rattle.cns_movements.proofs.order.Reply.to_bytes.Goals as goal

pub returns-clause-back : goal.returns-clause-back
unfolding reply_bytes
returns-clause-back c =
    ap read_reply (search rules)
    ∙ read_reply-reply_bytes c.args.self.now (record { number = c.number-number.ensures.range; moved = c.count-moved.ensures.range })
