-- When both nodes hold a movement (this project's own rule).
use Rattle.std.specs.Prelude.{◌≡◌, ℕ, Option, Some}
use Rattle.cns_movements.specs.declared.order.Order.{Order}

-- it was ordered, executed and confirmed, with one kind, member, issue and count of shares moved
abbrev pub IsHeldByBoth : Option Order → Option (Order × ℕ) → Option ℕ → Type 0
IsHeldByBoth (Some ordered) (Some executed) (Some confirmed) =
    (ordered.kind ≡ executed.0.kind) × (ordered.member ≡ executed.0.member) × (ordered.issue ≡ executed.0.issue) × (confirmed ≡ executed.1)
IsHeldByBoth _ _ _ = ⊥
