-- What is kept of one more finding.
use Rattle.std.proofs.Common.{◌≡◌, ap₂, List, [], ◌∷◌, ◌++◌, refl, ap, sym, ◌∙◌, append_assoc, arith}
use Rattle.std.specs.Prelude.{nat_lt, if◌then◌else◌, ◌+◌}
use Rattle.cns_check.specs.declared.found.Findings.{Findings}
use Rattle.cns_check.specs.Kept.{CountsOne, IsOf, KeepsOne, first_after, first_of, how_many, is_part, part_of}
use Rattle.cns_check.specs.declared.finding.Finding.{Finding}
use Rattle.cns_check.specs.declared.finding.Part.{Part}
use Rattle.std.proofs.lemmas.List.Sums.{sum_by-append}
use Rattle.std.proofs.lemmas.List.{append-nil}

abbrev pub kept_one : List Finding → Finding → List Finding
kept_one before f = if nat_lt (how_many (part_of f) before) 1000 then f ∷ [] else []

pub first_after-one : (before fs : List Finding) (f : Finding) → first_after before (fs ++ f ∷ []) ≡ first_after before fs ++ kept_one (before ++ fs) f
unfolding first_after
first_after-one before [] f = rw (append-nil before, append-nil (kept_one before f)) refl
first_after-one before (x ∷ fs) f =
    let more = first_after-one (before ++ x ∷ []) fs f in
    rw (more, append_assoc before (x ∷ []) fs) (sym (append_assoc (kept_one before x) _ _))

pub first_of-one : (fs : List Finding) (f : Finding) → first_of (fs ++ f ∷ []) ≡ first_of fs ++ kept_one fs f
first_of-one fs f = first_after-one [] fs f

pub how_many-one : (p : Part) (fs : List Finding) (f : Finding) → how_many p (fs ++ f ∷ []) ≡ how_many p fs + (if is_part p (part_of f) then 1 else 0)
how_many-one p fs f = grind (sum_by-append, arith)

-- kept and counted, one more is of all
pub adds_one : (f : Finding) (old mid new : Findings) (all : List Finding) → KeepsOne f old mid → CountsOne (part_of f) mid new → IsOf old all → IsOf new (all ++ f ∷ [])
unfolding IsOf
adds_one f old mid new all keeps counts is = (
  counts.0 ∙ keeps.0 ∙ ap₂ (λ xs n. xs ++ (if nat_lt n 1000 then f ∷ [] else [])) is.0 (is.1 (part_of f)) ∙ sym (first_of-one all f),
  λ p. counts.1 p ∙ ap (λ n. n + (if is_part p (part_of f) then 1 else 0)) (keeps.1 p ∙ is.1 p) ∙ sym (how_many-one p all f),
)
