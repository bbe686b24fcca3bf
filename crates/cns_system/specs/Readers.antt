-- What a system tells of itself between events, and what a planned failure leaves (this project's own rules).
use Rattle.std.specs.Prelude.{◌≡◌, ℕ, Bool, List, length, Result}
use Rattle.cns_movements.specs.Order.{unconfirmed_of}
use Rattle.cns_journal.specs.declared.keeper.NotPlanned.{NotPlanned}
use Rattle.cns_records.specs.declared.clear_record.ClearRecord.{ClearRecord}
use Rattle.cns_clearing.specs.Books.{order_book_of}
use Rattle.cns_clearing.specs.Node as clear
use Rattle.cns_depository.specs.Node as depot
use Rattle.cns_system.specs.Shown.{Shown}
use Rattle.cns_system.specs.World.{World}
use Rattle.cns_system.specs.declared.event.NodeName.{NodeName}
use Rattle.cns_system.specs.declared.event.NodeName.TheVariants as node
use Rattle.cns_system.specs.declared.system.Counts.{Counts}

-- the numbers of the orders that are not confirmed
abbrev pub unconfirmed : List ClearRecord → List ℕ
unconfirmed c = unconfirmed_of (order_book_of c).orders (order_book_of c).replies

-- how many orders the clearing node has, and how many packets were put on each link
abbrev pub counts_of : Shown → Counts
counts_of w = record { orders = length (order_book_of w.clear.records).orders; order_packets = length w.order_packets; reply_packets = length w.reply_packets }

-- the next commit of a node's keeper is planned to fail, and nothing else changes
abbrev pub PlanStep : NodeName → Bool → Result (Unit {0}) NotPlanned → World → World → Type 0
PlanStep node.Clear stands result old new =
    clear.NodePlanned stands result old.clear.clear new.clear.clear × (new.clear.lots ≡ old.clear.lots)
    × (new.depot ≡ old.depot) × (new.order_packets ≡ old.order_packets) × (new.reply_packets ≡ old.reply_packets)
PlanStep node.Depot stands result old new =
    depot.NodePlanned stands result old.depot new.depot
    × (new.clear ≡ old.clear) × (new.order_packets ≡ old.order_packets) × (new.reply_packets ≡ old.reply_packets)
