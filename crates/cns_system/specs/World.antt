-- Both nodes and the link between them, as contracts see them.
use Rattle.std.specs.Prelude.{◌≡◌, ℕ, List, Option, Some, None, option_and_then, slice_get, Result, Ok, Err}
use Rattle.cns_movements.specs.declared.order.Order.{Order}
use Rattle.cns_movements.specs.declared.order.Reply.{Reply}
use Rattle.cns_wire.specs.Frame.{order_frame, reply_frame}
use Rattle.cns_wire.specs.ReadFrame.{read_frame_of}
use Rattle.cns_wire.specs.declared.frame.Frame.{Frame}
use Rattle.cns_wire.specs.declared.frame.Frame.TheVariants as frame
use Rattle.cns_wire.specs.declared.frame.FrameFault.{FrameFault}
use Rattle.cns_depository.specs.Node.{DepNode}
use Rattle.cns_system.specs.Numbered.{NumberedNode}

-- the clearing node with its lots by number, the depository, and the packets that were put on the link of orders and on that of
-- replies, the oldest first
pub record World : Type 0 where
  pub clear : NumberedNode
  pub depot : DepNode
  pub order_packets : List (List ℕ)
  pub reply_packets : List (List ℕ)

-- the order that a frame holds, and the reply that one holds
abbrev pub order_in_frame : Result Frame FrameFault → Option Order
order_in_frame (Ok (frame.Order o)) = Some o
order_in_frame (Ok (frame.Reply r)) = None
order_in_frame (Err fault) = None

abbrev pub reply_in_frame : Result Frame FrameFault → Option Reply
reply_in_frame (Ok (frame.Order o)) = None
reply_in_frame (Ok (frame.Reply r)) = Some r
reply_in_frame (Err fault) = None

-- the order that bytes spell, and the reply that they do
abbrev pub order_spelt : List ℕ → Option Order
order_spelt bytes = order_in_frame (read_frame_of bytes)

abbrev pub reply_spelt : List ℕ → Option Reply
reply_spelt bytes = reply_in_frame (read_frame_of bytes)

-- the order that a packet holds, and the reply that one holds
abbrev pub order_in_packet : Option (List ℕ) → Option Order
order_in_packet packet = option_and_then order_spelt packet

abbrev pub reply_in_packet : Option (List ℕ) → Option Reply
reply_in_packet packet = option_and_then reply_spelt packet

-- a packet is the frame of an order, and reads as it; or that of a reply
pub record IsOrderFrame (bytes : List ℕ) : Type 0 where
  pub order : Order
  pub frame : bytes ≡ order_frame order
  pub reads : order_spelt bytes ≡ Some order

pub record IsReplyFrame (bytes : List ℕ) : Type 0 where
  pub reply : Reply
  pub frame : bytes ≡ reply_frame reply
  pub reads : reply_spelt bytes ≡ Some reply

-- each packet on either link is one
pub record AreFrames (order_packets reply_packets : List (List ℕ)) : Type 0 where
  pub orders_are : (k : ℕ) (bytes : List ℕ) → slice_get order_packets k ≡ Some bytes → IsOrderFrame bytes
  pub replies_are : (k : ℕ) (bytes : List ℕ) → slice_get reply_packets k ≡ Some bytes → IsReplyFrame bytes
