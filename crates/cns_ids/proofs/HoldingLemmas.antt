-- What look-ups by holding find after a value is put at one.
use Rattle.std.proofs.Common.{◌≡◌, ◌+◌, ℕ, Option, Some, Bool, true, false, cond, refl, ap, ◌∙◌, arith}
use Rattle.std.specs.Prelude.{◌&&◌, ◌==◌, IsSome, if◌then◌else◌}
use Rattle.std.proofs.lemmas.Bool.{eqb-true}
use Rattle.cns_ids.specs.Holding.{holding_at, holding_eq}
use Rattle.cns_ids.specs.declared.holding.Holding.{Holding}

-- look-ups after w is put at a holding
abbrev pub Puts : {V : Type 0} → ℕ → ℕ → V → (Holding → Option V) → (Holding → Option V) → Type 0
Puts member issue w old new = (q : Holding) → new q ≡ cond (holding_eq (holding_at issue member) q) (Some w) (old q)

-- a number of each look-up grows by n there, and stays everywhere else
pub put-adds : {V : Type 0} (at : Option V → ℕ) (member issue : ℕ) (w : V) (n : ℕ) (old new : Holding → Option V)
    → Puts member issue w old new → at (Some w) ≡ at (old (holding_at issue member)) + n
    → (m i : ℕ) → at (new (holding_at i m)) ≡ at (old (holding_at i m)) + (if (member == m) && (issue == i) then n else 0)
put-adds at member issue w n old new puts more m i = by (member == m) refl (issue == i) refl (puts (holding_at i m))
  where
    here : member ≡ m → issue ≡ i → at (Some w) ≡ at (old (holding_at i m)) + n
    here e f = more ∙ ap (λ k. at (old (holding_at issue k)) + n) e ∙ ap (λ j. at (old (holding_at j m)) + n) f

    there : at (old (holding_at i m)) ≡ at (old (holding_at i m)) + 0
    there = omega arith

    by : (a : Bool) → (member == m) ≡ a → (b : Bool) → (issue == i) ≡ b → new (holding_at i m) ≡ cond (b && a) (Some w) (old (holding_at i m))
        → at (new (holding_at i m)) ≡ at (old (holding_at i m)) + (if a && b then n else 0)
    by true e true f is = ap at is ∙ here (eqb-true member m e) (eqb-true issue i f)
    by true e false f is = ap at is ∙ there
    by false e true f is = ap at is ∙ there
    by false e false f is = ap at is ∙ there

-- and nothing changes where w has the number that was there
pub put-same : {V : Type 0} (at : Option V → ℕ) (member issue : ℕ) (w : V) (old new : Holding → Option V)
    → Puts member issue w old new → at (Some w) ≡ at (old (holding_at issue member))
    → (m i : ℕ) → at (new (holding_at i m)) ≡ at (old (holding_at i m))
put-same at member issue w old new puts same m i =
    let adds = put-adds at member issue w 0 old new puts (omega (arith, same)) m i in
    omega (arith, adds, none ((member == m) && (issue == i)))
  where
    none : (b : Bool) → ◌≡◌ {A = ℕ} (if b then 0 else 0) 0
    none true = refl
    none false = refl

-- what was named stays so
pub put-named : {V : Type 0} (member issue : ℕ) (w : V) (old new : Holding → Option V) → Puts member issue w old new → (q : Holding) → IsSome (old q) → IsSome (new q)
put-named member issue w old new puts q some = by (holding_eq (holding_at issue member) q) (puts q)
  where
    by : (b : Bool) → new q ≡ cond b (Some w) (old q) → IsSome (new q)
    by true e = Prim.rw e refl
    by false e = Prim.rw e some

-- or it falls by n there
pub put-takes : {V : Type 0} (at : Option V → ℕ) (member issue : ℕ) (w : V) (n : ℕ) (old new : Holding → Option V)
    → Puts member issue w old new → at (Some w) + n ≡ at (old (holding_at issue member))
    → (m i : ℕ) → at (new (holding_at i m)) + (if (member == m) && (issue == i) then n else 0) ≡ at (old (holding_at i m))
put-takes at member issue w n old new puts less m i = by (member == m) refl (issue == i) refl (puts (holding_at i m))
  where
    here : member ≡ m → issue ≡ i → at (Some w) + n ≡ at (old (holding_at i m))
    here e f = less ∙ ap (λ k. at (old (holding_at issue k))) e ∙ ap (λ j. at (old (holding_at j m))) f

    there : at (old (holding_at i m)) + 0 ≡ at (old (holding_at i m))
    there = omega arith

    by : (a : Bool) → (member == m) ≡ a → (b : Bool) → (issue == i) ≡ b → new (holding_at i m) ≡ cond (b && a) (Some w) (old (holding_at i m))
        → at (new (holding_at i m)) + (if a && b then n else 0) ≡ at (old (holding_at i m))
    by true e true f is = ap (λ x. at x + n) is ∙ here (eqb-true member m e) (eqb-true issue i f)
    by true e false f is = ap (λ x. at x + 0) is ∙ there
    by false e true f is = ap (λ x. at x + 0) is ∙ there
    by false e false f is = ap (λ x. at x + 0) is ∙ there
