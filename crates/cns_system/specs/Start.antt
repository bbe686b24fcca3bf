-- What the opening of both nodes gives (this project's own rule).
use Rattle.std.specs.Prelude.{◌≡◌, ℕ, List, []}
use Rattle.cns_trades.specs.declared.opening.Opening.{Opening}
use Rattle.cns_journal.specs.RecordLog.{IsGivenUp}
use Rattle.cns_journal.specs.Keeper.{KeeperState}
use Rattle.cns_records.specs.Clear.{spelling}
use Rattle.cns_records.specs.Dep.{dep_spelling}
use Rattle.cns_clearing.specs.Node.{ClearNode, IsOpened, IsUnread}
use Rattle.cns_depository.specs.Node.{DepNode, IsOpened as IsDepotOpened, IsUnread as IsDepotUnread}
use Rattle.cns_system.specs.Agreement.{Agree}
use Rattle.cns_system.specs.World.{World}
use Rattle.cns_system.specs.declared.fault.StartFault.{StartFault}
use Rattle.cns_system.specs.declared.fault.StartFault.TheVariants as start

-- what is answered where both nodes are opened: both with nothing but their records
pub record IsStarted (openings : List Opening) (clear depot : KeeperState) (w : World) : Type 0 where
  pub clear_opens : IsOpened clear w.clear.clear
  pub depot_opens : IsDepotOpened openings depot w.depot
  pub agree : Agree w.clear.clear.log.records w.depot.log.records
  pub lots : w.clear.lots ≡ []
  pub order_packets : w.order_packets ≡ []
  pub reply_packets : w.reply_packets ≡ []

-- a node that was opened and gave its keeper up again
abbrev pub IsClearReturned : KeeperState → KeeperState → ClearNode → Type 0
IsClearReturned before after node = IsOpened before node × IsGivenUp spelling node.log after

abbrev pub IsDepotReturned : List Opening → KeeperState → KeeperState → DepNode → Type 0
IsDepotReturned openings before after node = IsDepotOpened openings before node × IsGivenUp dep_spelling node.log after

-- why both nodes are not opened, by what the keepers of the clearing node and of the depository give, and what is left of these; where a
-- payload is bad, these are all that its keeper gave
abbrev pub IsNotOpened : List Opening → StartFault → List (List ℕ) → KeeperState → KeeperState → KeeperState → KeeperState → Type 0
IsNotOpened openings (start.Clear fault) rejected clear depot clear' depot' = IsUnread fault rejected clear clear' × (depot' ≡ depot)
IsNotOpened openings (start.Depot fault) rejected clear depot clear' depot' =
    ((c : ClearNode) × IsClearReturned clear clear' c) × IsDepotUnread openings fault rejected depot depot'
IsNotOpened openings start.Disagree rejected clear depot clear' depot' =
    (c : ClearNode) × IsClearReturned clear clear' c
    × ((p : DepNode) × IsDepotReturned openings depot depot' p × (Agree c.log.records p.log.records → ⊥))
