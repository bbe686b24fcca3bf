-- The report (this project's own format).
use Rattle.std.specs.Prelude.{ℕ, List, ◌∷◌, ◌++◌, codes, Option, Some, None}
use Rattle.std.specs.Fmt.{decimal, signed_decimal}
use Rattle.std.specs.List.{flat_map}
use Rattle.cns_ids.specs.Cusip.{cusip_text}
use Rattle.cns_ids.specs.Cycle.{kind_text}
use Rattle.cns_ids.specs.Day.{day_text}
use Rattle.cns_ids.specs.Member.{member_text}
use Rattle.cns_ids.specs.declared.cycle.CycleId.{CycleId}
use Rattle.cns_netting.specs.declared.position.PositionRow.{PositionRow}
use Rattle.cns_clearing.specs.declared.pools.PoolRow.{PoolRow}
use Rattle.cns_depository.specs.declared.account.Account.{Account}
use Rattle.cns_depository.specs.declared.account.Account.TheVariants.{Cns, Member}
use Rattle.cns_depository.specs.declared.balances.BalanceRow.{BalanceRow}
use Rattle.cns_report.specs.Right.{right_20}

-- REPORT cycle none, or: REPORT cycle DATE KIND
unfoldable pub report_head : Option CycleId → List ℕ
report_head = elim [ None ↦ codes "REPORT cycle none\n" | Some cycle ↦ codes "REPORT cycle " ++ day_text cycle.day ++ 32 ∷ kind_text cycle.kind ++ codes "\n" ]

-- POS CUSIP MEMBER and the position, right in 20 places
unfoldable pub position_line : PositionRow → List ℕ
position_line row = codes "POS " ++ cusip_text row.issue ++ 32 ∷ member_text row.member ++ 32 ∷ right_20 (signed_decimal row.position) ++ codes "\n"

-- POOL CUSIP free Q lent Q out Q
unfoldable pub pool_line : PoolRow → List ℕ
pool_line row =
    codes "POOL " ++ cusip_text row.issue ++ codes " free " ++ decimal row.free ++ codes " lent " ++ decimal row.lent ++ codes " out " ++ decimal row.out ++ codes "\n"

unfoldable pub cycle_report_text : Option CycleId → List PositionRow → List PoolRow → List ℕ
cycle_report_text latest positions pools = report_head latest ++ flat_map position_line positions ++ flat_map pool_line pools

-- an account's four digits
abbrev pub account_text : Account → List ℕ
account_text = elim [ Cns ↦ codes "0000" | Member m ↦ member_text m ]

-- BAL CUSIP ACCOUNT and the balance, right in 20 places
unfoldable pub balance_line : BalanceRow → List ℕ
balance_line row = codes "BAL " ++ cusip_text row.issue ++ 32 ∷ account_text row.account ++ 32 ∷ right_20 (decimal row.shares) ++ codes "\n"
