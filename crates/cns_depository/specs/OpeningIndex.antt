-- What an index of openings has (this project's own rule).
use Rattle.std.specs.Prelude.{◌≡◌, ℕ, List, Option, Some, None, map, unwrap_or, if◌then◌else◌}
use Rattle.std.specs.List.{list_any, IsDistinct}
use Rattle.cns_trades.specs.declared.opening.Opening.{Opening}
use Rattle.cns_depository.specs.declared.account.Account.TheVariants.{Member}
use Rattle.cns_ids.specs.Holding.{holding_at}
use Rattle.cns_ids.specs.declared.holding.Holding.{Holding}
use Rattle.cns_depository.specs.Openings.{is_opening_of, issue_sum, opening_shares, DoIssuesFit}
use Rattle.cns_depository.specs.Places.{opened_place}
use Rattle.cns_depository.specs.Totals.{place_eq}

-- the shares with which a member opens in an issue, where it has an opening there
abbrev pub opened_with : List Opening → ℕ → ℕ → Option ℕ
opened_with openings member issue =
    if list_any (is_opening_of member issue) openings then Some (opening_shares openings (Member member) issue) else None

-- the shares of each holding, of which no two openings are, and the sum of each issue
pub record IsIndex (openings : List Opening) (held : Holding → Option ℕ) (sums : ℕ → Option ℕ) : Type 0 where
  pub fits : DoIssuesFit openings
  pub places : IsDistinct place_eq (map opened_place openings)
  pub held_is : (member issue : ℕ) → held (holding_at issue member) ≡ opened_with openings member issue
  pub sum_is : (issue : ℕ) → unwrap_or (sums issue) 0 ≡ issue_sum openings issue
