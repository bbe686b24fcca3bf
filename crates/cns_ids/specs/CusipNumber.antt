-- Numbers in base 128, as characters are held, and in base 256, as contracts see them.
use Rattle.std.proofs.Common.{◌≡◌, ℕ, zero, suc, ◌+◌, ◌*◌, ◌/◌, ◌%◌, refl, arith}

-- the number in base 256 whose lowest digits, so many, are those of a number in base 128
unfoldable pub widened : ℕ → ℕ → ℕ
widened zero n = n
widened (suc places) n = widened places (n / 128) * 256 + n % 128

-- the number in base 128 whose lowest digits, so many, are those of a number in base 256
unfoldable pub narrowed : ℕ → ℕ → ℕ
narrowed zero n = n
narrowed (suc places) n = narrowed places (n / 256) * 128 + n % 256

-- the second gives back what the first was given
pub narrowed-widened : (places n : ℕ) → narrowed places (widened places n) ≡ n
unfolding widened narrowed
narrowed-widened zero n = refl
narrowed-widened (suc places) n =
    let wide = widened places (n / 128) in
    let high : (wide * 256 + n % 128) / 256 ≡ wide = omega arith in
    let low : (wide * 256 + n % 128) % 256 ≡ n % 128 = omega arith in
    rw (high, low, narrowed-widened places (n / 128)) (omega arith)
