-- What is found in the sections of a text.
use Rattle.std.proofs.Common.{◌≡◌, ℕ, List, ◌++◌, Some, refl, ap, ◌∙◌, append_assoc}
use Rattle.cns_trades.specs.Fields.{is_opening_header, is_trade_header}
use Rattle.cns_input.specs.Sections.{sections}
use Rattle.cns_check.specs.Findings.{in_mended, in_openings, in_script, in_section, in_sections, in_text, in_trades, records_of}
use Rattle.cns_check.specs.Mended.{mended}
use Rattle.cns_check.specs.declared.finding.Finding.{Finding}
use Rattle.cns_check.specs.declared.finding.Table.TheVariants as table

-- one after another
pub in_three : (before : List Finding) (o t s : List ℕ)
    → ((before ++ in_section table.Openings is_opening_header in_openings (records_of o)) ++ in_section table.Trades is_trade_header in_trades (records_of t)) ++ in_script s ≡ before ++ in_sections o t s
in_three before o t s =
    let openings = in_section table.Openings is_opening_header in_openings (records_of o) in
    let trades = in_section table.Trades is_trade_header in_trades (records_of t) in
    ap (λ xs. xs ++ in_script s) (append_assoc before openings trades) ∙ append_assoc before (openings ++ trades) (in_script s)

pub of_sections : (text o t s : List ℕ) → Some (o, t, s) ≡ sections text → in_sections o t s ≡ in_text text
of_sections text o t s is = rw (← is, in_text) refl

-- the sections of a text with its heads mended
pub mended_parts : (text made o t s : List ℕ) → made ≡ mended text → Some (o, t, s) ≡ sections made → in_sections o t s ≡ in_mended text
mended_parts text made o t s is parts = rw (← is, ← parts, in_mended) refl
