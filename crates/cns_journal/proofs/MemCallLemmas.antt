-- What the list of a disk's calls becomes where one is noted.
use Rattle.std.proofs.Common.{◌≡◌, inl, inr, ℕ, zero, suc, ◌+◌, ◌-◌, ◌^◌, ◌≤◌, List, [], ◌∷◌, ◌++◌, length, reverse, ap, arith, refl}
use Rattle.std.specs.Prelude.{min}
use Rattle.std.proofs.lemmas.Bool.{cases_eq}
use Rattle.std.proofs.lemmas.List.{reverse-append}
use Rattle.cns_journal.specs.MemDisk.{IsIdle, Step, content_of}
use Rattle.cns_journal.specs.MemCall.{Noted, idled, steps_of}

-- so many calls that did nothing are noted
many_idled : (n : ℕ) (steps : List Step) → n ≤ length (idled n steps)
many_idled zero steps = omega arith
many_idled (suc n) steps = omega (arith, many_idled n steps)

-- one more call did nothing, where the count stays at its end
pub idle_noted : (n m : ℕ) (steps : List Step) → n ≤ 2 ^ 64 - 1 → m ≡ min (n + 1) (2 ^ 64 - 1) → IsIdle (idled n steps) (idled m steps)
idle_noted n m steps fits is = elim (cases_eq n (2 ^ 64 - 1)) [
  | inl ended ↦ inr (omega (arith, many_idled n steps, ended), ap (λ k. idled k steps) (omega arith))
  | inr less ↦ let next : m ≡ suc n = omega arith in inl (ap (λ k. idled k steps) next)
]

-- a call that did nothing leaves the file
pub idle_content : (old new : List Step) → IsIdle old new → content_of new ≡ content_of old
idle_content old new (inl is) = ap content_of is
idle_content old new (inr same) = ap content_of same.1

-- a call that did something is noted
pub did_noted : (old new : List Noted) (noted : Noted) → new ≡ old ++ noted ∷ [] → steps_of (reverse new) ≡ noted.step ∷ idled noted.idle (steps_of (reverse old))
did_noted old new noted is = rw (is, reverse-append old (noted ∷ [])) refl
