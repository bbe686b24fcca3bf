-- The rows of the table, line by line.
use Rattle.std.proofs.Common.{◌≡◌, ◌<◌, ℕ, List, [], ◌∷◌, ◌++◌, length, Option, Some, None, refl, sym, ap, ◌∙◌, append_assoc, subst}
use Rattle.std.specs.Prelude.{IfSome}
use Rattle.std.specs.Io.BufRead.{DropsThrough, drop_through, first_piece}
use Rattle.std.specs.Io.KnownBytes.{Appends, IsAtEnd}
use Rattle.std.specs.List.{flat_map}
use Rattle.csv.proofs.WriteFacts.{appends-more}
use Rattle.cns_table.specs.Place.{place_behind, line_told}
use Rattle.cns_table.specs.Run.{text_lines, rows_from}
use Rattle.cns_table.specs.Table.{adds, holds, row_line_at}
use Rattle.cns_table.specs.declared.place.Place.{Place}
use Rattle.cns_table.specs.declared.reports.Reports.{Reports}
use Rattle.cns_table.proofs.RunLemmas.{lines_step}

-- what is written of lines in memory, and what the lines that are left come to, is what all come to
pub lines_later : (place : Place) (all rest more line done : List ℕ) → text_lines rest ≡ line ∷ text_lines more
    → flat_map (row_line_at place) (text_lines all) ≡ done ++ flat_map (row_line_at place) (text_lines rest)
    → flat_map (row_line_at place) (text_lines all) ≡ (done ++ row_line_at place line) ++ flat_map (row_line_at place) (text_lines more)
lines_later place all rest more line done lines was =
    was ∙ ap (λ l. done ++ flat_map (row_line_at place) l) lines ∙ sym (append_assoc done (row_line_at place line) (flat_map (row_line_at place) (text_lines more)))

-- ---- a text that is known

-- what was written of it, and what the lines that are left come to, is what all come to
abbrev pub WroteAt : Reports → Place → List ℕ → Option (List ℕ) → Option (List ℕ) → Place → List ℕ → Option (List ℕ) → Option (List ℕ) → Type 0
WroteAt which start kept None left place held a b = Unit {0}
WroteAt which start kept (Some text) None place held a b = ⊥
WroteAt which start kept (Some text) (Some rest) place held a b =
    (done : List ℕ) × Appends a b done × (rows_from which start kept (text_lines text) ≡ done ++ rows_from which place held (text_lines rest))

some_same : (a b : List ℕ) → Some a ≡ Some b → a ≡ b
some_same a b e = cc e

rows_step : (which : Reports) (place : Place) (held line : List ℕ) (lines : List (List ℕ))
    → rows_from which place held (line ∷ lines) ≡ adds (line_told place line) which (place_behind place line) ++ rows_from which (place_behind place line) (holds (line_told place line) which held line) lines
unfolding rows_from
rows_step which place held line lines = refl

rows_end : (which : Reports) (place : Place) (held : List ℕ) → rows_from which place held [] ≡ flat_map (row_line_at place) (text_lines held)
unfolding rows_from
rows_end which place held = refl

-- the line that was read, and those behind it
rows_left : (which : Reports) (place new : Place) (held now rest line more : List ℕ) → line ≡ first_piece 10 rest → 0 < length rest → more ≡ drop_through 10 rest
    → new ≡ place_behind place line → now ≡ holds (line_told place line) which held line
    → rows_from which place held (text_lines rest) ≡ adds (line_told place line) which (place_behind place line) ++ rows_from which new now (text_lines more)
rows_left which place new held now rest line more is some drops to keeps =
    let lines : text_lines rest ≡ line ∷ text_lines more = lines_step rest some ∙ ap (λ l. l ∷ text_lines (drop_through 10 rest)) (sym is) ∙ ap (λ r. line ∷ text_lines r) (sym drops) in
    ap (rows_from which place held) lines ∙ rows_step which place held line (text_lines more)
    ∙ ap (λ p. adds (line_told place line) which (place_behind place line) ++ rows_from which p (holds (line_told place line) which held line) (text_lines more)) (sym to)
    ∙ ap (λ h. adds (line_told place line) which (place_behind place line) ++ rows_from which new h (text_lines more)) (sym keeps)

pub wrote_behind : (which : Reports) (start : Place) (kept : List ℕ) (known left next : Option (List ℕ)) (place new : Place) (held now line : List ℕ) (a b c : Option (List ℕ))
    → WroteAt which start kept known left place held a b
    → IfSome left (λ text. line ≡ first_piece 10 text) → IfSome left (λ text. 0 < length text) → DropsThrough left next 10
    → new ≡ place_behind place line → now ≡ holds (line_told place line) which held line → Appends b c (adds (line_told place line) which (place_behind place line))
    → WroteAt which start kept known next new now a c
wrote_behind which start kept None left next place new held now line a b c was is some drops to keeps more_rows = tt
wrote_behind which start kept (Some text) None next place new held now line a b c was is some drops to keeps more_rows = absurd was
wrote_behind which start kept (Some text) (Some rest) None place new held now line a b c was is some drops to keeps more_rows = absurd (cc drops)
wrote_behind which start kept (Some text) (Some rest) (Some more) place new held now line a b c was is some drops to keeps more_rows =
    let added : List ℕ = adds (line_told place line) which (place_behind place line) in
    let left = rows_left which place new held now rest line more is some (some_same more (drop_through 10 rest) drops) to keeps in (
      was.0 ++ added,
      appends-more a b c was.0 added was.1 more_rows,
      was.2 ∙ ap (λ l. was.0 ++ l) left ∙ sym (append_assoc was.0 added (rows_from which new now (text_lines more))),
    )

-- at the end of the text
pub wrote_all : (which : Reports) (start : Place) (kept : List ℕ) (known left : Option (List ℕ)) (place : Place) (held : List ℕ) (a b c : Option (List ℕ))
    → WroteAt which start kept known left place held a b → IsAtEnd left → Appends b c (flat_map (row_line_at place) (text_lines held))
    → IfSome known (λ text. Appends a c (rows_from which start kept (text_lines text)))
unfolding text_lines
wrote_all which start kept None left place held a b c was end last = tt
wrote_all which start kept (Some text) None place held a b c was end last = absurd was
wrote_all which start kept (Some text) (Some rest) place held a b c was end last =
    let none : rows_from which place held (text_lines rest) ≡ flat_map (row_line_at place) (text_lines held) = ap (λ r. rows_from which place held (text_lines r)) end ∙ rows_end which place held in
    subst (Appends a c) (sym (was.2 ∙ ap (λ l. was.0 ++ l) none)) (appends-more a b c was.0 _ was.1 last)
