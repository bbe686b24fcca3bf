-- The headline: what is so of the two nodes and the link after any events, where both keepers are honest (this project's own rule).
use Rattle.std.specs.Prelude.{◌≡◌, ℕ, ◌+◌, ◌≤◌, ◌&&◌, Bool, true, ℤ, pos, ◌-ℤ◌, List, All, Some, is_some, slice_get, sum_by, if◌then◌else◌}
use Rattle.cns_trades.specs.declared.opening.Opening.{Opening}
use Rattle.cns_netting.specs.History.{bought, longs_of, position_of, shorts_of, sold}
use Rattle.cns_movements.specs.Order.{is_of, moved_of}
use Rattle.cns_movements.specs.declared.order.MoveKind.{MoveKind}
use Rattle.cns_movements.specs.declared.order.MoveKind.TheVariants.{Cover, Delivery}
use Rattle.cns_movements.specs.declared.order.Reply.{Reply}
use Rattle.cns_records.specs.declared.clear_record.ClearRecord.{ClearRecord}
use Rattle.cns_records.specs.declared.dep_record.DepRecord.{DepRecord}
use Rattle.cns_clearing.specs.Books.{IsLawful, confirmed_of, history_of, order_book_of}
use Rattle.cns_clearing.specs.Lots.{ClosesLot}
use Rattle.cns_clearing.specs.Pools.{avail_of, covered_of, delivered_of, free_of, lent_of, out_of}
use Rattle.cns_clearing.specs.Position.{due_in, position_in}
use Rattle.cns_clearing.specs.declared.lot.Lot.{Lot}
use Rattle.cns_depository.specs.Openings.{opening_shares}
use Rattle.cns_depository.specs.Stock.{IsLawfulDepot, executed_of, moved_in, moved_out}
use Rattle.cns_depository.specs.declared.account.Account.{Account}
use Rattle.cns_depository.specs.declared.account.Account.TheVariants.{Cns}
use Rattle.cns_depository.specs.declared.movement.Movement.{Movement}
use Rattle.cns_journal.specs.RecordLog.{IsLawfulLog}
use Rattle.cns_system.specs.Accord.{IsAsOrdered, IsOrderPacket, IsReplyPacket}
use Rattle.cns_system.specs.Agreement.{IsExecuted}
use Rattle.cns_system.specs.World.{World}

-- whether the depository's movement is one that both nodes hold: the clearing node has its confirmation
abbrev pub is_confirmed : List Reply → Movement → Bool
is_confirmed replies m = is_some (moved_of replies m.order.number)

-- the shares that the movements which both nodes hold moved, of a kind, a member and an issue
unfoldable pub confirmed_sum : List Movement → List Reply → MoveKind → ℕ → ℕ → ℕ
confirmed_sum movements replies kind member issue =
    sum_by (λ (m : Movement). if is_of kind member issue m.order && is_confirmed replies m then m.moved else 0) movements

-- a member's position in an issue as it is reckoned from both nodes: what it bought in due trades, with what confirmed covers
-- moved, less what it sold in them and what confirmed deliveries moved
abbrev pub reckoned : List ClearRecord → List Movement → ℕ → ℕ → ℤ
reckoned c movements member issue =
    pos (bought (due_in c) member issue + confirmed_sum movements (confirmed_of c) Cover member issue)
    -ℤ pos (sold (due_in c) member issue + confirmed_sum movements (confirmed_of c) Delivery member issue)

-- the shares of an issue in the pool, by the clearing node's records: those that are free, those that are set aside for its open lot, and those that open deliveries
-- ask for, sent or not. (The open lots only part the free from the lent: the sum is of the records.)
abbrev pub pool_shares : List ClearRecord → List Lot → ℕ → ℕ
pool_shares c lots issue = free_of (order_book_of c) lots issue + lent_of lots issue + out_of (order_book_of c) issue

-- the clearing node's records, which its journal has taken or read back (an undecided one is not among them, so this holds while a node is down too), and its open lots, the
-- depository's opening balances and its records likewise, and the packets that were put on the link of orders and on that of replies. A cover brings shares from a member's
-- account to the CNS account, a delivery takes them from there to a member's; a movement is confirmed once the clearing node has the depository's reply, and an order is open
-- until then
pub record Headline (c : List ClearRecord) (open_lots : List Lot) (openings : List Opening) (p : List DepRecord) (order_packets reply_packets : List (List ℕ)) : Type 0 where
  -- Same: each executed movement agrees with the order of its number at the clearing node, so kind, member, issue and quantity are the
  -- same in both nodes, and the cycle too where both have one; a delivery moved all that it asks for, and a cover no more than it. Each confirmed movement was
  -- executed, and moved just the shares that were confirmed.
  pub executed : All (IsAsOrdered (order_book_of c).orders) (executed_of p)
  pub confirmed : All (IsExecuted (executed_of p)) (confirmed_of c)
  -- Link: each packet of an order is the frame of the order that the clearing node has under that order's number, and each packet of a reply that of the
  -- reply to an executed movement.
  pub sent : (k : ℕ) (bytes : List ℕ) → slice_get order_packets k ≡ Some bytes → IsOrderPacket (order_book_of c).orders bytes
  pub answered : (k : ℕ) (bytes : List ℕ) → slice_get reply_packets k ≡ Some bytes → IsReplyPacket (executed_of p) bytes
  -- Lawful: each record of the clearing node may stand after those before it (that an allocation follows the plan and the groups of its lot is `AreStrict`).
  pub lawful : IsLawful c
  -- Stock: no number was executed twice, and each movement moved what was asked for, or all that the giving account then had where that is less; no instruction
  -- of a member was carried out twice; each deposit left the issue at 10^18 shares or fewer, and each withdrawal was of shares that the member then had; and no
  -- account gave more than its opening and what was moved into it.
  pub stock : IsLawfulDepot openings p
  pub given : (account : Account) (issue : ℕ) → moved_out p account issue ≤ opening_shares openings account issue + moved_in p account issue
  -- Netted: each position, which the clearing node reckons from its own records, is the one reckoned with the shares that the depository moved: what the member
  -- bought less what it sold in due trades, with confirmed covers added and confirmed deliveries taken off. There is one position: that of the netting history,
  -- by which the longs, the shorts and the reports go, is the same.
  pub netted : (member issue : ℕ) → position_in c member issue ≡ reckoned c (executed_of p) member issue
  pub one_position : (member issue : ℕ) → position_of (history_of c) member issue ≡ position_in c member issue
  -- Pool: in each issue the sum of all long positions is that of all short ones and the shares in the pool; the shares in the pool, with those that confirmed
  -- deliveries moved, are those that confirmed covers brought; and what confirmed deliveries moved, with what open ones ask for, is no more than executed covers
  -- brought to the CNS account, confirmed or not.
  pub pool : (issue : ℕ) → longs_of (history_of c) issue ≡ shorts_of (history_of c) issue + pool_shares c open_lots issue
  pub whole : (issue : ℕ) → pool_shares c open_lots issue + delivered_of (order_book_of c) issue ≡ covered_of (order_book_of c) issue
  pub backed : (issue : ℕ) → delivered_of (order_book_of c) issue + out_of (order_book_of c) issue ≤ moved_in p Cns issue
  -- Available: no difference is cut off at 0 in `avail_of` and `free_of`, which the pool is made of. What confirmed deliveries took, with what open ones ask
  -- for, is no more than confirmed covers brought, so what is available of an issue is just the rest of it; and no more is lent than that.
  pub available : (issue : ℕ) → delivered_of (order_book_of c) issue + out_of (order_book_of c) issue ≤ covered_of (order_book_of c) issue
  pub lent : (issue : ℕ) → lent_of open_lots issue ≤ avail_of (order_book_of c) issue

-- the headline of both nodes, where both keepers are honest. A keeper is what keeps a node's journal; it is honest where each reading that succeeds gives the records
-- that it acknowledged, in their order, and then at most the undecided one (`ReadingLeaves`). This is assumed, and no event changes it; `Occurs` promises the
-- headline after each event
abbrev pub IsAgreed : World → Type 0
IsAgreed w =
    w.clear.clear.log.honest ≡ true → w.depot.log.honest ≡ true
    → Headline w.clear.clear.log.records w.clear.clear.lots w.depot.openings w.depot.log.records w.order_packets w.reply_packets

-- what the clearing node alone knows of its sums: in each issue longs less shorts are the shares that confirmed covers brought, less
-- those that confirmed deliveries took; and what confirmed covers brought is free, lent or out, or confirmed deliveries took it. So it is between any two
-- events, whatever its keeper is
abbrev pub IsBalanced : World → Type 0
IsBalanced w =
    (issue : ℕ)
    → let c = w.clear.clear.log.records in
    (longs_of (history_of c) issue + delivered_of (order_book_of c) issue ≡ shorts_of (history_of c) issue + covered_of (order_book_of c) issue)
    × (pool_shares c w.clear.clear.lots issue + delivered_of (order_book_of c) issue ≡ covered_of (order_book_of c) issue)

-- where the clearing node's keeper is honest: each allocation that it has closed a lot that was as the records before it have it, by tickets that serve its plan, and
-- so does the undecided one, should it come back; and while the node is up no record is undecided. Each event keeps this; at an opening it is not tested of the
-- records that are read
abbrev pub AreStrict : World → Type 0
AreStrict w = w.clear.clear.log.honest ≡ true → IsLawfulLog ClosesLot w.clear.clear.log
