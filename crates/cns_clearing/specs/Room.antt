-- The memory that one more record needs in the books.
use Rattle.std.specs.Prelude.{ℕ, ◌<◌, ◌≤◌}
use Rattle.cns_records.specs.declared.clear_record.ClearRecord.{ClearRecord}
use Rattle.cns_records.specs.declared.clear_record.ClearRecord.TheVariants.{Accept, Exempt, Priority, Cycle, Allocate, Confirm}
use Rattle.cns_clearing.specs.Books.{BooksRoom}

-- there is room for a record that makes so many orders
abbrev pub HasRoom : ClearRecord → ℕ → BooksRoom → Type 0
HasRoom (Accept t) count b = (0 < b.trade_room) × (0 < b.entry_room)
HasRoom (Exempt m i s) count b = 0 < b.exemption_room
HasRoom (Priority m i is_on) count b = 0 < b.priority_room
HasRoom (Cycle id) count b = (0 < b.entry_room) × (count ≤ b.order_room)
HasRoom (Allocate a) count b = count ≤ b.order_room
HasRoom (Confirm r) count b = (0 < b.entry_room) × (1 ≤ b.reply_room)
