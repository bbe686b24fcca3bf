use Rattle.std.proofs.Common.{◌≡◌, Some, rules}
use Rattle.cns_wire.specs.Packet.{at_number}
use Rattle.cns_system.specs.World.{reply_in_packet}
use Rattle.cns_system.proofs.LinkComes.{no_reply, reply_comes}
use Rattle.cns_system.proofs.pair.Pair.reply_in.Goals as goal

pub returns-in_default : goal.returns-in_default
returns-in_default g c =
    no_reply c.args.packet c.args.self.now (search rules)

pub returns : goal.returns
returns g c =
    let held : reply_in_packet (at_number c.self.inside.replies.packets c.args.packet) ≡ Some c.in-Some.reply = search rules in
    rw (← c.self.view_is, c.of_reply.ensures)
    (reply_comes c.args.packet c.in-Some.reply c.take_reply.result _ c.take_reply.new.self held c.take_reply.ensures.lots c.take_reply.ensures.clear)
