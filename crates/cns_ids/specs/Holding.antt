-- A member's place in an issue (this project's own rule).
use Rattle.std.specs.Prelude.{ℕ, ◌+◌, ◌*◌, ◌^◌, Bool, ◌&&◌, ◌==◌}
use Rattle.std.specs.declared.cmp.Ordering.{Ordering}
use Rattle.std.specs.Ordering.{nat_cmp, on, then_cmp}
use Rattle.cns_ids.specs.CusipNumber.{narrowed}
use Rattle.cns_ids.specs.declared.holding.Holding.{Holding}

abbrev pub holding_at : ℕ → ℕ → Holding
holding_at issue member = record { issue = issue; member = member }

-- whether two holdings are the same
abbrev pub holding_eq : Holding → Holding → Bool
holding_eq a b = (a.issue == b.issue) && (a.member == b.member)

-- the order of holdings: by issue, then member
abbrev pub holding_cmp : Holding → Holding → Ordering
holding_cmp = then_cmp (on (λ (k : Holding). k.issue) nat_cmp) (on (λ (k : Holding). k.member) nat_cmp)

-- the issue, as it is held, and the member as one number
abbrev pub holding_word : Holding → ℕ
holding_word k = narrowed 9 k.issue * 2 ^ 64 + k.member
