use Rattle.std.proofs.Common.{◌≡◌, ◌∙◌, ◌+◌, ◌++◌, ◌∷◌, [], length, List, ℕ, Ok, Err, ap, refl, sym, subst, rules}
use Rattle.cns_wire.specs.Frame.{reply_frame}
use Rattle.cns_depository.specs.declared.fault.Answer.TheVariants.{Again, Done}
use Rattle.cns_system.specs.Scene.{Comes}
use Rattle.cns_system.specs.World.{World}
use Rattle.cns_system.specs.declared.event.Event.TheVariants.{OrderIn}
use Rattle.cns_system.specs.declared.outcome.Outcome.TheVariants.{Refused}
use Rattle.cns_system.proofs.LinkComes.{order_comes, without_room}
use Rattle.cns_system.proofs.pair.Pair.take_order.Goals as goal

pub returns-then-is_err : goal.returns-then-is_err
returns-then-is_err g c =
    let same : c.put_room.new.self.packets ≡ c.self.inside.replies.packets = search rules in
    let world : List (List ℕ) → World = λ ps. record { clear = c.self.inside.clear; depot = c.self.inside.depot; order_packets = c.self.inside.orders.packets; reply_packets = ps } in
    let new_is : world c.put_room.new.self.packets ≡ c.args.self.now =
    ap world same ∙ c.self.view_is in
    λ packet held.
    subst (λ (w : World). Comes (OrderIn packet) (Refused c.refusal_without_room.result) c.args.self.now w) (sym new_is)
    (without_room packet c.args.order.now c.refusal_without_room.result c.args.self.now held (search rules))

pub returns-in-Ok-Done : goal.returns-in-Ok-Done
returns-in-Ok-Done g c =
    let are : c.put_reply-packet.new.replies.packets ≡ c.self.inside.replies.packets ++ reply_frame c.in-Ok-Done.reply ∷ [] = search rules in
    let number : c.put_reply-packet.result ≡ length c.self.inside.replies.packets + 1 = search rules in
    λ packet. rw (← c.self.view_is, number) (λ held.
    order_comes packet c.args.order.now _ (Ok (Done c.in-Ok-Done.reply)) c.take_order.new.self c.put_reply-packet.new.replies.packets held
    (rw (c.in-Ok-Done.is, c.in-Ok-Done.field-0-is) at c.take_order.ensures) (are, c.put_reply-packet.ensures.back))

pub returns-in-Ok-Again : goal.returns-in-Ok-Again
returns-in-Ok-Again g c =
    let are : c.put_reply-packet-in-Ok-Again.new.replies.packets ≡ c.self.inside.replies.packets ++ reply_frame c.in-Ok-Again.reply ∷ [] = search rules in
    let number : c.put_reply-packet-in-Ok-Again.result ≡ length c.self.inside.replies.packets + 1 = search rules in
    λ packet. rw (← c.self.view_is, number) (λ held.
    order_comes packet c.args.order.now _ (Ok (Again c.in-Ok-Again.reply)) c.take_order.new.self c.put_reply-packet-in-Ok-Again.new.replies.packets held
    (rw (c.in-Ok-Again.is, c.in-Ok-Again.field-0-is) at c.take_order.ensures) (are, c.put_reply-packet-in-Ok-Again.ensures.back))

pub returns-in-Err : goal.returns-in-Err
returns-in-Err g c =
    let same : c.put_room.new.self.packets ≡ c.self.inside.replies.packets = search rules in
    λ packet. rw (← c.self.view_is, c.from.ensures, same) (λ held.
    order_comes packet c.args.order.now _ (Err c.in-Err.fault) c.take_order.new.self _ held (rw (c.in-Err.is) at c.take_order.ensures) refl)
