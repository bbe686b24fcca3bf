-- Accounts, and which of them an order moves shares from and to; and the outside, from which deposits come and to which withdrawals go
-- (this project's own rule).
use Rattle.std.specs.Prelude.{Bool, true, false, ◌==◌}
use Rattle.cns_movements.specs.declared.order.MoveKind.TheVariants.{Cover, Delivery}
use Rattle.cns_movements.specs.declared.order.Order.{Order}
use Rattle.cns_depository.specs.declared.account.Account.{Account}
use Rattle.cns_depository.specs.declared.account.Account.TheVariants.{Cns, Member}
use Rattle.cns_depository.specs.declared.account.Side.{Side}
use Rattle.cns_depository.specs.declared.account.Side.TheVariants.{Outside, At}
use Rattle.cns_records.specs.declared.instruction.Instruction.{Instruction}
use Rattle.cns_records.specs.declared.instruction.Sort.TheVariants.{Deposit, Withdraw}

-- whether both are the same account
abbrev pub same_account : Account → Account → Bool
same_account Cns Cns = true
same_account Cns (Member m) = false
same_account (Member m) Cns = false
same_account (Member m) (Member n) = m == n

-- whether both are the same side of a transfer
abbrev pub same_side : Side → Side → Bool
same_side Outside Outside = true
same_side Outside (At a) = false
same_side (At a) Outside = false
same_side (At a) (At b) = same_account a b

-- the account that gives
abbrev pub giver : Order → Account
giver o = elim o.kind [ Cover ↦ Member o.member | Delivery ↦ Cns ]

-- the account that receives
abbrev pub receiver : Order → Account
receiver o = elim o.kind [ Cover ↦ Cns | Delivery ↦ Member o.member ]

-- the side that gives the shares of an instruction, and the one that receives them
abbrev pub own_giver : Instruction → Side
own_giver i = elim i.sort [ Deposit ↦ Outside | Withdraw ↦ At (Member i.member) ]

abbrev pub own_receiver : Instruction → Side
own_receiver i = elim i.sort [ Deposit ↦ At (Member i.member) | Withdraw ↦ Outside ]
