-- The rows of a report (this project's own format).
use Rattle.std.specs.Prelude.{ℕ, ◌==◌, ◌&&◌, not, Bool, List, [], ◌∷◌, drop, length, slice_index, slice_range, codes, Option, Some, None, option_map, if◌then◌else◌}
use Rattle.std.specs.List.{position_from}
use Rattle.cns_table.specs.Text.{is_account, is_cusip, is_number, is_signed}
use Rattle.cns_words.specs.Words.{◌>>=◌, begins_with, line_words}
use Rattle.cns_table.specs.Words.{named}
use Rattle.cns_table.specs.declared.row.Row.{Row}
use Rattle.cns_table.specs.declared.row.RowKind.{RowKind}
use Rattle.cns_table.specs.declared.row.RowKind.TheVariants as kind

abbrev pub name_of : RowKind → List ℕ
name_of kind.Position = codes "POS"
name_of kind.Pool = codes "POOL"
name_of kind.Balance = codes "BAL"

-- what a row has in its columns: its name, the CUSIP, the account, what is free, lent and out, and the shares
abbrev pub texts_of : Row → List (List ℕ)
texts_of row = name_of row.kind ∷ row.cusip.now ∷ row.account.now ∷ row.free.now ∷ row.lent.now ∷ row.out.now ∷ row.shares.now ∷ []

-- what stands at the right of a text, behind spaces
unfoldable pub at_right : List ℕ → Option (List ℕ)
at_right text = option_map (λ place. drop place text) (position_from (λ c. not (c == 32)) 0 text)

-- the shares of a position may be negative
abbrev pub is_shares_of : RowKind → List ℕ → Bool
is_shares_of kind.Position text = is_signed text
is_shares_of kind.Pool text = is_number text
is_shares_of kind.Balance text = is_number text

-- three letters, a CUSIP, an account and twenty places more, with a space between each two
unfoldable pub has_account_form : List ℕ → Bool
has_account_form line =
    (length line == 39) && is_cusip (slice_range line 4 13) && (slice_index line 13 == 32) && is_account (slice_range line 14 18) && (slice_index line 18 == 32)

-- what a line of this form has in its columns
abbrev pub with_shares : RowKind → List ℕ → List ℕ → Option (List (List ℕ))
with_shares k line shares =
    if is_shares_of k shares then Some (name_of k ∷ slice_range line 4 13 ∷ slice_range line 14 18 ∷ [] ∷ [] ∷ [] ∷ shares ∷ []) else None

-- a position or a balance, with its shares right in 20 places
unfoldable pub account_columns : RowKind → List ℕ → Option (List (List ℕ))
account_columns k line = if has_account_form line then (do shares ← at_right (drop 19 line); with_shares k line shares) else None

-- a pool: four names, each with the word behind it
unfoldable pub pool_columns : List ℕ → Option (List (List ℕ))
pool_columns line = do
  (cusip, behind_cusip) ← named (codes "POOL") (line_words line)
  (free, behind_free) ← named (codes "free") behind_cusip
  (lent, behind_lent) ← named (codes "lent") behind_free
  (out, behind_out) ← named (codes "out") behind_lent
  if (length behind_out == 0) && is_cusip cusip && is_number free && is_number lent && is_number out then Some (codes "POOL" ∷ cusip ∷ [] ∷ free ∷ lent ∷ out ∷ [] ∷ []) else None

-- what the row that a line is has in its columns: POS CUSIP MEMBER Q, BAL CUSIP ACCOUNT Q or POOL CUSIP free Q lent Q out Q
unfoldable pub row_of : List ℕ → Option (List (List ℕ))
row_of line =
    if begins_with line (codes "POS ") then account_columns kind.Position line
    else if begins_with line (codes "BAL ") then account_columns kind.Balance line
    else pool_columns line
