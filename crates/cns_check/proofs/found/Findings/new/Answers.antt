use Rattle.std.proofs.Common.{refl, rules}
use Rattle.cns_check.specs.Kept.{IsOf, first_after}
use Rattle.cns_check.specs.declared.finding.Part.TheVariants.{Heads, Openings, Trades, Script}
use Rattle.cns_check.proofs.found.Findings.new.Goals as goal

pub returns : goal.returns
unfolding IsOf first_after
returns c = (rw c.new.ensures.items refl, λ p. elim p [ Heads ↦ search rules | Openings ↦ search rules | Trades ↦ search rules | Script ↦ search rules ])
