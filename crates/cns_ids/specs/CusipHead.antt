-- The first eight characters of a CUSIP.
use Rattle.std.specs.Prelude.{◌≡◌, ℕ, ◌<◌, ◌^◌, List, Some, None}
use Rattle.std.specs.Int.{from_be_bytes, w64}
use Rattle.cns_ids.specs.Cusip.{check_digit, first_bad}
use Rattle.cns_ids.specs.CusipNumber.{widened}
use Rattle.cns_ids.specs.declared.cusip.CusipFault.{CusipFault}
use Rattle.cns_ids.specs.declared.cusip.CusipFault.TheVariants as fault
use Rattle.cns_ids.specs.declared.cusip.Head.{Head}

-- what eight listed characters are read as
pub record IsHead (text : List ℕ) (head : Head) : Type 0 where
  pub listed : first_bad 1 text ≡ None
  pub number : widened 8 head.number ≡ from_be_bytes w64 text
  pub small : head.number < 2 ^ 56
  pub digit : head.digit ≡ check_digit text

-- and the fault of others
pub record IsHeadFault (text : List ℕ) (found : CusipFault) : Type 0 where
  pub place : ℕ
  pub first : first_bad 1 text ≡ Some place
  pub told : found ≡ fault.BadChar place
