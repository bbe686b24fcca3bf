-- What the two tables of shares hold, byte by byte.
use Rattle.std.proofs.Common.{◌≡◌, ℕ, zero, suc, ◌<◌, Bool, true, false, cond, ◌&&◌, eqb, ltb, refl, ap, Option, Some, None, is_some, IfSome, if◌then◌else◌, arith}
use Rattle.std.specs.Prelude.{slice_index, ◌==◌}
use Rattle.std.proofs.lemmas.Bool.{and_parts, eqb-true, ltb-true, ne_eqb}
use Rattle.std.proofs.lemmas.Bool.Decides.{Decides-below_and}
use Rattle.cns_ids.specs.Cusip.{share_at, value_of}
use Rattle.cns_ids.specs.declared.cusip.TheConstants.{EVEN_SHARES, ODD_SHARES}

-- whether a table has a byte's share of a place, which is below 17, or 255 where the byte is not listed
has_share : ℕ → (ℕ → ℕ) → ℕ → Bool
has_share place shares c = cond (is_some (value_of c)) ((eqb (shares c) (share_at place c) && ltb (shares c) 17) && ltb c 128) (eqb (shares c) 255)

abbrev pub even_of : ℕ → ℕ
even_of c = slice_index EVEN_SHARES c

abbrev pub odd_of : ℕ → ℕ
odd_of c = slice_index ODD_SHARES c

-- whether it does so for each byte below another
have_shares : ℕ → (ℕ → ℕ) → ℕ → Bool
have_shares place shares zero = true
have_shares place shares (suc n) = has_share place shares n && have_shares place shares n

even_shares : have_shares 2 even_of 256 ≡ true
unfolding have_shares has_share value_of
even_shares = refl

odd_shares : have_shares 1 odd_of 256 ≡ true
unfolding have_shares has_share value_of
odd_shares = refl

-- what is read from a table of a byte
pub record IsShare (place c : ℕ) (share : Option ℕ) : Type 0 where
  pub value : share ≡ (if is_some (value_of c) then Some (share_at place c) else None)
  pub small : IfSome share (λ s. s < 17)
  pub ascii : IfSome share (λ s. c < 128)

abbrev pub read_from : (ℕ → ℕ) → ℕ → Option ℕ
read_from shares c = if shares c == 255 then None else Some (shares c)

one_share : (place : ℕ) (shares : ℕ → ℕ) (c : ℕ) → has_share place shares c ≡ true → IsShare place c (read_from shares c)
unfolding has_share
one_share place shares c h = by (is_some (value_of c)) refl h
  where
    by : (b : Bool) → is_some (value_of c) ≡ b → cond b ((eqb (shares c) (share_at place c) && ltb (shares c) 17) && ltb c 128) (eqb (shares c) 255) ≡ true
        → IsShare place c (read_from shares c)
    by true listed k =
        let parts = and_parts (eqb (shares c) (share_at place c) && ltb (shares c) 17) (ltb c 128) k in
        let both = and_parts (eqb (shares c) (share_at place c)) (ltb (shares c) 17) parts.0 in
        let is : shares c ≡ share_at place c = eqb-true _ _ both.0 in
        let small : shares c < 17 = ltb-true _ _ both.1 in
        let ascii : c < 128 = ltb-true _ _ parts.1 in
        let other : (shares c == 255) ≡ false = ne_eqb (shares c) 255 (λ e. omega (arith, small, e)) in
        record {
          value = rw (other, listed) (ap Some is);
          small = rw other small;
          ascii = rw other ascii;
        }
    by false unlisted k = record {
      value = rw (k, unlisted) refl;
      small = rw k tt;
      ascii = rw k tt;
    }

each_share : (place : ℕ) (shares : ℕ → ℕ) (n : ℕ) → have_shares place shares n ≡ true → (c : ℕ) → c < n → has_share place shares c ≡ true
unfolding have_shares
each_share place shares n h c lt =
    (Decides-below_and (has_share place shares) (λ k. has_share place shares k ≡ true) (have_shares place shares) (λ k. (λ e. e, λ e. e)) refl (λ m. refl) n).0 h c lt

pub even_share : (c : ℕ) → c < 256 → IsShare 2 c (read_from even_of c)
even_share c lt = one_share 2 even_of c (each_share 2 even_of 256 even_shares c lt)

pub odd_share : (c : ℕ) → c < 256 → IsShare 1 c (read_from odd_of c)
odd_share c lt = one_share 1 odd_of c (each_share 1 odd_of 256 odd_shares c lt)
