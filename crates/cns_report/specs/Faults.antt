-- The names of faults, as lines show them (this project's own format).
use Rattle.std.specs.Prelude.{ℕ, List, ◌++◌, codes}
use Rattle.std.specs.Fmt.{decimal}
use Rattle.cns_ids.specs.declared.cusip.CusipFault.{CusipFault}
use Rattle.cns_ids.specs.declared.cusip.CusipFault.TheVariants as cusip
use Rattle.cns_ids.specs.declared.number.ReadFault.{ReadFault}
use Rattle.cns_ids.specs.declared.number.ReadFault.TheVariants as number
use Rattle.cns_depository.specs.declared.openings.OpeningFault.{OpeningFault}
use Rattle.cns_depository.specs.declared.openings.OpeningFault.TheVariants as opening
use Rattle.cns_trades.specs.declared.fault.RowFault.{RowFault}
use Rattle.cns_trades.specs.declared.fault.RowFault.TheVariants as fault

abbrev pub read_fault_text : ReadFault → List ℕ
read_fault_text = elim [ number.BadNumber ↦ codes "BadNumber" | number.OutOfRange ↦ codes "OutOfRange" ]

abbrev pub cusip_fault_text : CusipFault → List ℕ
cusip_fault_text = elim [ cusip.Length ↦ codes "Length" | cusip.BadChar place ↦ codes "BadChar " ++ decimal place | cusip.CheckDigit want ↦ codes "CheckDigit " ++ decimal want ]

abbrev pub row_fault_text : RowFault → List ℕ
row_fault_text fault.Fields = codes "Fields"
row_fault_text fault.Id = codes "Id"
row_fault_text fault.Settle = codes "Settle BadDate"
row_fault_text (fault.Buyer e) = codes "Buyer " ++ read_fault_text e
row_fault_text (fault.Seller e) = codes "Seller " ++ read_fault_text e
row_fault_text (fault.Cusip e) = codes "Cusip " ++ cusip_fault_text e
row_fault_text (fault.Quantity e) = codes "Quantity " ++ read_fault_text e
row_fault_text (fault.Account e) = codes "Account " ++ read_fault_text e
row_fault_text (fault.Shares e) = codes "Shares " ++ read_fault_text e

abbrev pub opening_fault_text : OpeningFault → List ℕ
opening_fault_text = elim [ opening.Double ↦ codes "Double" | opening.IssueSum ↦ codes "IssueSum" | opening.OutOfMemory ↦ codes "OutOfMemory" ]
