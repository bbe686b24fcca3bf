-- The openings of a depository: what its accounts hold at the start (this project's own rules).
use Rattle.std.specs.Prelude.{◌≡◌, ℕ, ◌+◌, ◌^◌, ◌≤◌, nat_lt, Bool, ◌&&◌, ◌==◌, List, [], ◌∷◌, ◌++◌, Option, Some, None, Result, Ok, Err, sum_by, if◌then◌else◌}
use Rattle.std.specs.List.{list_any}
use Rattle.cns_trades.specs.declared.opening.Opening.{Opening}
use Rattle.cns_depository.specs.declared.account.Account.{Account}
use Rattle.cns_depository.specs.declared.account.Account.TheVariants.{Cns, Member}
use Rattle.cns_depository.specs.declared.openings.OpeningFault.{OpeningFault}
use Rattle.cns_depository.specs.declared.openings.OpeningFault.TheVariants.{Double, IssueSum, OutOfMemory}

-- whether an opening is of this member and issue
abbrev pub is_opening_of : ℕ → ℕ → Opening → Bool
is_opening_of member issue o = (o.member == member) && (o.issue == issue)

-- the shares of all openings in an issue
unfoldable pub issue_sum : List Opening → ℕ → ℕ
issue_sum openings issue = sum_by (λ (o : Opening). if o.issue == issue then o.shares else 0) openings

-- the shares with which an account opens in an issue; the CNS account opens with none
abbrev pub opening_shares : List Opening → Account → ℕ → ℕ
opening_shares openings Cns issue = 0
opening_shares openings (Member m) issue = sum_by (λ (o : Opening). if is_opening_of m issue o then o.shares else 0) openings

-- why an opening is refused, where it is
abbrev pub opening_fault : List Opening → Opening → Option OpeningFault
opening_fault openings o =
    if list_any (is_opening_of o.member o.issue) openings then Some Double
    else if nat_lt (10 ^ 18) (issue_sum openings o.issue + o.shares) then Some IssueSum else None

-- what adding an opening leaves, by its answer: only an accepted one changes the list
abbrev pub OpeningLeaves : Opening → Result (Unit {0}) OpeningFault → List Opening → List Opening → Type 0
OpeningLeaves o (Ok _) old new = (opening_fault old o ≡ None) × (new ≡ old ++ o ∷ [])
OpeningLeaves o (Err Double) old new = (opening_fault old o ≡ Some Double) × (new ≡ old)
OpeningLeaves o (Err IssueSum) old new = (opening_fault old o ≡ Some IssueSum) × (new ≡ old)
OpeningLeaves o (Err OutOfMemory) old new = (opening_fault old o ≡ None) × (new ≡ old)

-- the openings of no issue pass 10^18 shares
abbrev pub DoIssuesFit : List Opening → Type 0
DoIssuesFit openings = (issue : ℕ) → issue_sum openings issue ≤ 10 ^ 18
