use Rattle.std.proofs.Common.{◌≡◌, Some, arith, rules}
use Rattle.cns_movements.specs.Fields.{read_reply}
use Rattle.cns_movements.specs.declared.order.Reply.{Reply}
use Rattle.cns_movements.proofs.FieldLemmas.{read_reply-spelled}
use Rattle.cns_movements.proofs.order.Reply.from_bytes.Goals as goal

pub returns-clause-spelled : goal.returns-clause-spelled
unfolding read_reply
returns-clause-spelled c =
    let reply : Reply = record { number = c.in_ok-new.field-0; moved = c.in_ok-new-2.field-0 } in
    let read : read_reply c.args.bytes.now ≡ Some reply = search rules in
    (read_reply-spelled c.args.bytes.now reply (omega arith) (λ i. grind arith) read).text
