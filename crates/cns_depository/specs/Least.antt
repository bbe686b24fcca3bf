-- The least openings with which records may stand (this project's own rules).
use Rattle.std.specs.Prelude.{ℕ, ◌-◌, max, List, [], ◌∷◌}
use Rattle.cns_records.specs.declared.dep_record.DepRecord.{DepRecord}
use Rattle.cns_depository.specs.declared.account.Account.{Account}
use Rattle.cns_depository.specs.Stock.{moved_in, moved_out}

-- with what an account must have opened at least in an issue: the most by which what these records, the newest first, moved out of it
-- had passed what they moved into it, after any of them
unfoldable pub least : List DepRecord → Account → ℕ → ℕ
least [] a issue = 0
least (e ∷ p) a issue = max (least p a issue) (moved_out (e ∷ p) a issue - moved_in (e ∷ p) a issue)
