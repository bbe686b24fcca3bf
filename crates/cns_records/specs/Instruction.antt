-- A member's own instructions, and the fields of each as bytes (this project's own format).
use Rattle.std.specs.Prelude.{ℕ, Bool, true, false, ◌&&◌, ◌==◌, List, [], ◌∷◌, ◌++◌, codes}
use Rattle.std.specs.Int.{w16, w64, to_be_bytes}
use Rattle.cns_ids.specs.Cusip.{IsCusip, cusip_text}
use Rattle.cns_ids.specs.Member.{IsMember}
use Rattle.cns_movements.specs.Asked.{IsAsked}
use Rattle.cns_movements.specs.Number.{IsMoveNo}
use Rattle.cns_records.specs.Fields.{Reader, ◌&◌, made, one_of_at, member_at, move_no_at, issue_at, asked_at}
use Rattle.cns_records.specs.declared.instruction.Instruction.{Instruction}
use Rattle.cns_records.specs.declared.instruction.Sort.{Sort}
use Rattle.cns_records.specs.declared.instruction.Sort.TheVariants.{Deposit, Withdraw}

-- a sort's name
abbrev pub sort_text : Sort → List ℕ
sort_text sort = elim sort [ Deposit ↦ codes "deposit" | Withdraw ↦ codes "withdraw" ]

-- whether two sorts, and two instructions, are the same
abbrev pub same_sort : Sort → Sort → Bool
same_sort Deposit Deposit = true
same_sort Deposit Withdraw = false
same_sort Withdraw Deposit = false
same_sort Withdraw Withdraw = true

abbrev pub same_instruction : Instruction → Instruction → Bool
same_instruction a b = same_sort a.sort b.sort && ((a.member == b.member) && ((a.number == b.number) && ((a.issue == b.issue) && (a.shares == b.shares))))

-- a sort: 1 for a deposit, 2 for a withdrawal
abbrev pub sort_bytes : Sort → List ℕ
sort_bytes Deposit = 1 ∷ []
sort_bytes Withdraw = 2 ∷ []

unfoldable pub sort_at : Reader Sort
sort_at bytes = one_of_at 1 Deposit 2 Withdraw bytes

-- an instruction: its sort, and its member in 2 bytes, its number in 8, its CUSIP in 9 and its shares in 8
abbrev pub instruction_bytes : Instruction → List ℕ
instruction_bytes i = sort_bytes i.sort ++ (to_be_bytes w16 i.member ++ (to_be_bytes w64 i.number ++ (cusip_text i.issue ++ to_be_bytes w64 i.shares)))

unfoldable pub instruction_at : Reader Instruction
instruction_at bytes =
    made (sort_at & member_at & move_no_at & issue_at & asked_at)
    (λ x. record { sort = x.0; member = x.1.0; number = x.1.1.0; issue = x.1.1.1.0; shares = x.1.1.1.1 }) bytes

-- what the types of an instruction's fields promise
pub record IsInstructionInRange (i : Instruction) : Type 0 where
  pub member : IsMember i.member
  pub number : IsMoveNo i.number
  pub issue : IsCusip i.issue
  pub shares : IsAsked i.shares
