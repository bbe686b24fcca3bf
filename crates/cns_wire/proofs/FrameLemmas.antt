-- Frames: what is written is read back.
use Rattle.std.proofs.Common.{◌≡◌, ℕ, ◌+◌, ◌≤◌, List, ◌++◌, length, length-append, Option, None, Some, refl, ap, ◌∙◌, arith, lit≤}
use Rattle.std.specs.Prelude.{Ok}
use Rattle.std.specs.Int.{to_be_bytes, w16, w64}
use Rattle.std.specs.Option.{ok_or}
use Rattle.cns_ids.specs.Cusip.{cusip_text}
use Rattle.cns_ids.specs.declared.cycle.CycleId.{CycleId}
use Rattle.cns_movements.specs.Fields.{cycle_part, order_bytes, order_size, read_order, read_reply, reply_bytes, version_of, version_with}
use Rattle.cns_movements.specs.Ranges.{IsOrderInRange, IsReplyInRange}
use Rattle.cns_movements.specs.declared.order.MoveKind.{MoveKind}
use Rattle.cns_movements.specs.declared.order.MoveKind.TheVariants.{Cover, Delivery}
use Rattle.cns_movements.specs.declared.order.Order.{Order}
use Rattle.cns_movements.specs.declared.order.Reply.{Reply}
use Rattle.cns_movements.specs.declared.version.Version.{Version}
use Rattle.cns_movements.specs.declared.version.Version.TheVariants.{One, Two}
use Rattle.cns_movements.proofs.FieldLemmas.{length-order_bytes, read_order-order_bytes, read_reply-reply_bytes}
use Rattle.cns_wire.specs.declared.frame.Frame.{Frame}
use Rattle.cns_wire.specs.declared.frame.Frame.TheVariants as frame
use Rattle.cns_wire.specs.declared.frame.FrameFault.TheVariants.{Field}
use Rattle.cns_wire.specs.Frame.{header, kind_byte, order_frame, reply_frame, frame_text, IsInRange}
use Rattle.cns_wire.specs.ReadFrame.{order_in, reply_in, as_order_frame, as_reply_frame, read_frame_of}

by_kind : (kind : MoveKind) (o : Order) → read_frame_of (header (version_of o) (kind_byte kind) ++ order_bytes o) ≡ as_order_frame (ok_or (read_order (version_of o) kind (order_bytes o)) Field)
unfolding read_frame_of order_in order_bytes
by_kind kind o = by kind o.cycle
  where
    fields : Option CycleId → List ℕ
    fields cycle = to_be_bytes w64 o.number ++ cycle_part cycle ++ to_be_bytes w16 o.member ++ cusip_text o.issue ++ to_be_bytes w64 o.asked

    by : (kind : MoveKind) (cycle : Option CycleId) → read_frame_of (header (version_with cycle) (kind_byte kind) ++ fields cycle)
        ≡ as_order_frame (ok_or (read_order (version_with cycle) kind (fields cycle)) Field)
    by Cover None = refl
    by Cover (Some id) = refl
    by Delivery None = refl
    by Delivery (Some id) = refl

-- an order's frame is read back as the order
pub read_frame_of-order_frame : (o : Order) → IsOrderInRange o → read_frame_of (order_frame o) ≡ Ok (frame.Order o)
unfolding order_frame
read_frame_of-order_frame o h = by_kind o.kind o ∙ ap (λ (r : Option Order). as_order_frame (ok_or r Field)) (read_order-order_bytes o h)

by_reply : (r : Reply) → read_frame_of (reply_frame r) ≡ as_reply_frame (ok_or (read_reply (reply_bytes r)) Field)
unfolding read_frame_of reply_frame reply_in reply_bytes
by_reply r = refl

-- a reply's frame is read back as the reply
pub read_frame_of-reply_frame : (r : Reply) → IsReplyInRange r → read_frame_of (reply_frame r) ≡ Ok (frame.Reply r)
read_frame_of-reply_frame r h = by_reply r ∙ ap (λ (x : Option Reply). as_reply_frame (ok_or x Field)) (read_reply-reply_bytes r h)

-- a frame's bytes are read back as the frame
pub read_frame_of-frame_text : (f : Frame) → IsInRange f → read_frame_of (frame_text f) ≡ Ok f
read_frame_of-frame_text (frame.Order o) h = read_frame_of-order_frame o h
read_frame_of-frame_text (frame.Reply r) h = read_frame_of-reply_frame r h

pub length-order_frame : (o : Order) → length (order_frame o) ≡ 4 + order_size (version_of o)
unfolding order_frame
length-order_frame o = omega (arith, length-append (header (version_of o) (kind_byte o.kind)) (order_bytes o), length-order_bytes o)

few_bytes : (version : Version) → order_size version ≤ 32
few_bytes One = lit≤ tt
few_bytes Two = lit≤ tt

pub order_frame_few : (o : Order) → length (order_frame o) ≤ 36
order_frame_few o = omega (arith, length-order_frame o, few_bytes (version_of o))

pub length-reply_frame : (r : Reply) → length (reply_frame r) ≡ 20
unfolding reply_frame reply_bytes
length-reply_frame r = refl
