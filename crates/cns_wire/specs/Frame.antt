-- The frames of orders and of replies, byte by byte (this project's own format).
use Rattle.std.specs.Prelude.{◌≡◌, ℕ, List, [], ◌∷◌, ◌++◌, codes}
use Rattle.cns_movements.specs.Fields.{order_bytes, reply_bytes, version_byte, version_of}
use Rattle.cns_movements.specs.Ranges.{IsOrderInRange, IsReplyInRange}
use Rattle.cns_movements.specs.declared.order.MoveKind.{MoveKind}
use Rattle.cns_movements.specs.declared.order.MoveKind.TheVariants.{Cover, Delivery}
use Rattle.cns_movements.specs.declared.order.Order.{Order}
use Rattle.cns_movements.specs.declared.order.Reply.{Reply}
use Rattle.cns_movements.specs.declared.version.Version.{Version}
use Rattle.cns_movements.specs.declared.version.Version.TheVariants.{One}
use Rattle.cns_wire.specs.declared.frame.Frame.{Frame}
use Rattle.cns_wire.specs.declared.frame.Frame.TheVariants as frame

-- the byte that stands for a kind of order
abbrev pub kind_byte : MoveKind → ℕ
kind_byte Cover = 1
kind_byte Delivery = 2

-- the magic bytes, the version and the kind
abbrev pub header : Version → ℕ → List ℕ
header version kind = codes "CD" ++ version_byte version ∷ kind ∷ []

-- an order: its version, its kind, and its other fields
unfoldable pub order_frame : Order → List ℕ
order_frame o = header (version_of o) (kind_byte o.kind) ++ order_bytes o

-- a reply: the first version, the kind 3, and its fields
unfoldable pub reply_frame : Reply → List ℕ
reply_frame r = header One 3 ++ reply_bytes r

-- the one spelling of a frame
abbrev pub frame_text : Frame → List ℕ
frame_text (frame.Order o) = order_frame o
frame_text (frame.Reply r) = reply_frame r

-- a frame's fields are in their ranges
abbrev pub IsInRange : Frame → Type 0
IsInRange (frame.Order o) = IsOrderInRange o
IsInRange (frame.Reply r) = IsReplyInRange r

-- bytes are the spelling of a frame whose fields are in their ranges
pub record IsFrame (bytes : List ℕ) (f : Frame) : Type 0 where
  pub text : frame_text f ≡ bytes
  pub in_range : IsInRange f
