-- How an id is stored.
use Rattle.std.proofs.Common.{◌≡◌, ◌<◌, ◌≤◌, ℕ, List, [], ◌∷◌, ◌++◌, length, drop, Bool, true, false, refl, ap, sym, ◌∙◌, arith}
use Rattle.std.specs.Prelude.{◌+◌, ◌-◌, ◌&&◌, ◌||◌, min, nat_le, nat_lt, not, ◌==◌, replicate, slice_index, take}
use Rattle.std.specs.List.{list_all}
use Rattle.std.specs.Bool.{one_answer}
use Rattle.std.specs.Cmp.Lexicographic.{pointwise, bytes_decides}
use borrow.Author.Tests.{leb-true, ltb-false, ltb-true}
use Rattle.std.proofs.Math.ListN.{get_or-append}
use Rattle.std.proofs.Math.Seq.{get_or-append_right}
use Rattle.std.proofs.lemmas.Bool.Decides.{Decides-like}
use Rattle.std.proofs.lemmas.List.{get_or-drop}
use Rattle.std.proofs.lemmas.List.Folds.{list_all_at}
use Rattle.std.proofs.Math.Seq.{take-append_seam}
use Rattle.cns_trades.specs.TradeId.{IsId, IsStored, is_id_byte, size_in, stored}

-- an id has up to sixteen bytes
id_size : (t : List ℕ) → IsId t → length t ≤ 16
id_size t id = by (length t == 0) (nat_le (length t) 16) refl id
  where
    by : (a b : Bool) → nat_le (length t) 16 ≡ b → (not a && b && list_all is_id_byte t) ≡ true → length t ≤ 16
    by true b is e = cc e
    by false true is e = leb-true _ _ is
    by false false is e = cc e

id_bytes : (t : List ℕ) → IsId t → list_all is_id_byte t ≡ true
id_bytes t id = by (length t == 0) (nat_le (length t) 16) id
  where
    by : (a b : Bool) → (not a && b && list_all is_id_byte t) ≡ true → list_all is_id_byte t ≡ true
    by true b e = cc e
    by false true e = e
    by false false e = cc e

-- and each of them is more than 15
byte_large : (c : ℕ) → is_id_byte c ≡ true → 16 ≤ c
byte_large c h = by (nat_le 65 c) (nat_le c 90) (nat_le 48 c) refl refl h
  where
    by : (a b d : Bool) → nat_le 65 c ≡ a → nat_le 48 c ≡ d → ((a && b) || (d && nat_le c 57)) ≡ true → 16 ≤ c
    by true b d low is e = let l = leb-true 65 c low in omega (arith, l)
    by false b true low is e = let l = leb-true 48 c is in omega (arith, l)
    by false b false low is e = cc e

last_large : (t : List ℕ) → IsId t → length t ≡ 16 → 16 ≤ slice_index t 15
last_large t id full =
    let within : 15 < length t = omega (arith, full) in
    by (is_id_byte (slice_index t 15)) refl (list_all_at is_id_byte t 15 0 within)
  where
    by : (b : Bool) → is_id_byte (slice_index t 15) ≡ b → (is_id_byte (slice_index t 15) ≡ false → list_all is_id_byte t ≡ false) → 16 ≤ slice_index t 15
    by true is h = byte_large _ is
    by false is h = let no = h is in let all = id_bytes t id in cc (no, all)

-- the last byte tells the size
stored_size : (t : List ℕ) → IsId t → size_in (stored t) ≡ length t
stored_size t id = by (nat_lt (length t) 16) refl
  where
    pad : List ℕ
    pad = replicate 15 0 ++ length t ∷ []

    by : (b : Bool) → nat_lt (length t) 16 ≡ b → size_in (stored t) ≡ length t
    by true is =
        let few = ltb-true _ _ is in
        let behind : length t ≤ 15 = omega (arith, few) in
        let at = get_or-append_right t (drop (length t) pad) 15 0 behind in
        let last = get_or-drop (length t) pad (15 - length t) 0 in
        let place : length t + (15 - length t) ≡ 15 = omega (arith, few) in
        let is : slice_index (stored t) 15 ≡ length t = at ∙ last ∙ ap (λ i. slice_index pad i) place in
        ap (λ n. min 16 n) is ∙ omega (arith, few)
    by false is =
        let many = ltb-false _ _ is in
        let size = id_size t id in
        let full : length t ≡ 16 = omega (arith, many, size) in
        let within : 15 < length t = omega (arith, full) in
        let at = get_or-append t (drop (length t) pad) 0 15 within in
        let large = last_large t id full in
        let is : min 16 (slice_index t 15) ≡ length t = omega (arith, large, full) in
        ap (λ n. min 16 n) at ∙ is

pub is_stored : (text new : List ℕ) → new ≡ text → IsId text → IsStored (new ++ drop (length text) (replicate 15 0 ++ length text ∷ []))
is_stored text new e id =
    let size = stored_size text id in
    let front : take (length text) (stored text) ≡ text = take-append_seam text (drop (length text) (replicate 15 0 ++ length text ∷ [])) in
    rw e (record {
      rest = rw (size, front) refl;
      id = rw (size, front) id;
    })

-- the bytes give the text again
pub stored_front : (text new : List ℕ) → new ≡ text → IsId text → take (size_in (stored new)) (stored new) ≡ text
stored_front text new e id =
    let size = stored_size text id in
    let front : take (length text) (stored text) ≡ text = take-append_seam text (drop (length text) (replicate 15 0 ++ length text ∷ [])) in
    rw (e, size) front

-- ids are equal where all that is stored of them is
pub same_stored : (a b : List ℕ) → IsStored a → IsStored b → pointwise ◌==◌ a b ≡ pointwise ◌==◌ (take (size_in a) a) (take (size_in b) b)
same_stored a b held other =
    let id : List ℕ → List ℕ = λ bytes. take (size_in bytes) bytes in
    one_answer (pointwise ◌==◌ a b) (pointwise ◌==◌ (id a) (id b)) (bytes_decides a b)
    (Decides-like (pointwise ◌==◌ (id a) (id b)) (λ e. sym held.rest ∙ ap stored e ∙ other.rest) (ap id) (bytes_decides (id a) (id b)))
