-- Bytes as a frame, or their first fault (this project's own format).
use Rattle.std.specs.Prelude.{ℕ, ◌+◌, not, ◌==◌, nat_lt, List, drop, length, slice_index, codes, Option, Some, None, Result, Ok, Err, if◌then◌else◌}
use Rattle.std.specs.List.{starts_with}
use Rattle.std.specs.Option.{ok_or}
use Rattle.cns_ids.specs.Steps.{◌>>=◌}
use Rattle.cns_movements.specs.Fields.{order_size, read_order, read_reply, version_of_byte}
use Rattle.cns_movements.specs.declared.order.MoveKind.{MoveKind}
use Rattle.cns_movements.specs.declared.order.MoveKind.TheVariants.{Cover, Delivery}
use Rattle.cns_movements.specs.declared.order.Order.{Order}
use Rattle.cns_movements.specs.declared.order.Reply.{Reply}
use Rattle.cns_movements.specs.declared.version.Version.{Version}
use Rattle.cns_movements.specs.declared.version.Version.TheVariants.{One, Two}
use Rattle.cns_wire.specs.declared.frame.Frame.{Frame}
use Rattle.cns_wire.specs.declared.frame.Frame.TheVariants as frame
use Rattle.cns_wire.specs.declared.frame.FrameFault.{FrameFault}
use Rattle.cns_wire.specs.declared.frame.FrameFault.TheVariants.{Short, Magic, Kind, Long, Field}
use Rattle.cns_wire.specs.declared.frame.FrameFault.TheVariants as fault

-- the fields of a frame: the bytes after its header, which are just so many
abbrev pub fields_of : ℕ → List ℕ → Result (List ℕ) FrameFault
fields_of size bytes =
    if nat_lt (length bytes) (4 + size) then Err Short
    else if nat_lt (4 + size) (length bytes) then Err Long
    else Ok (drop 4 bytes)

-- the bytes of an order's frame as an order of this version and kind
unfoldable pub order_in : Version → MoveKind → List ℕ → Result Order FrameFault
order_in version kind bytes = fields_of (order_size version) bytes >>= λ fields. ok_or (read_order version kind fields) Field

-- the bytes of a reply's frame as a reply
unfoldable pub reply_in : List ℕ → Result Reply FrameFault
reply_in bytes = fields_of 16 bytes >>= λ fields. ok_or (read_reply fields) Field

-- what was read, as a frame
abbrev pub as_order_frame : Result Order FrameFault → Result Frame FrameFault
as_order_frame (Ok order) = Ok (frame.Order order)
as_order_frame (Err fault) = Err fault

abbrev pub as_reply_frame : Result Reply FrameFault → Result Frame FrameFault
as_reply_frame (Ok reply) = Ok (frame.Reply reply)
as_reply_frame (Err fault) = Err fault

-- bytes of this version as a reply's frame: there are none in the second version
abbrev pub reply_of : Version → List ℕ → Result Frame FrameFault
reply_of One bytes = as_reply_frame (reply_in bytes)
reply_of Two bytes = Err Kind

-- bytes of this version and kind as a frame
abbrev pub of_kind : Version → ℕ → List ℕ → Result Frame FrameFault
of_kind version kind bytes =
    if kind == 1 then as_order_frame (order_in version Cover bytes)
    else if kind == 2 then as_order_frame (order_in version Delivery bytes)
    else if kind == 3 then reply_of version bytes
    else Err Kind

abbrev pub of_version : Option Version → List ℕ → Result Frame FrameFault
of_version (Some version) bytes = of_kind version (slice_index bytes 3) bytes
of_version None bytes = Err fault.Version

-- the faults in their order: too few bytes for a header, the magic bytes, the version, the kind, the size, the fields
unfoldable pub read_frame_of : List ℕ → Result Frame FrameFault
read_frame_of bytes =
    if nat_lt (length bytes) 4 then Err Short
    else if not (starts_with ◌==◌ bytes (codes "CD")) then Err Magic
    else of_version (version_of_byte (slice_index bytes 2)) bytes
