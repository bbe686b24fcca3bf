-- What more bytes do to the lines of a text.
use Rattle.std.proofs.Common.{◌≡◌, ℕ, zero, suc, ◌+◌, Bool, true, false, cond, List, [], ◌∷◌, ◌++◌, length, take, get_or, refl, ap, ◌∙◌, arith, append-nil}
use Rattle.std.specs.List.{count_by, slice_split, onto_first}
use Rattle.std.proofs.Math.Seq.{take-append-add}
use Rattle.std.proofs.lemmas.List.{get_or-append-add}
use Rattle.std.proofs.lemmas.List.Sums.{sum_by-append}
use Rattle.std.proofs.lemmas.List.Splits.{length-slice_split}
use Rattle.cns_words.specs.Words.{is_lf}
use Rattle.cns_tally.specs.Counts.{begun_of, lines_of, pieces_of}

-- ---- the pieces

-- there is a first one
some_piece_step : (ends : Bool) (x : ℕ) (all : List (List ℕ)) (piece : List ℕ) (pieces : List (List ℕ)) → all ≡ piece ∷ pieces → (p : List ℕ) × (ps : List (List ℕ)) × (cond ends ([] ∷ all) (onto_first x all) ≡ p ∷ ps)
some_piece_step true x all piece pieces e = ([], all, refl)
some_piece_step false x all piece pieces e = (x ∷ piece, pieces, ap (onto_first x) e)

some_piece : (p : ℕ → Bool) (xs : List ℕ) → (piece : List ℕ) × (pieces : List (List ℕ)) × (slice_split p xs ≡ piece ∷ pieces)
some_piece p [] = ([], [], refl)
some_piece p (x ∷ xs) = let s = some_piece p xs in some_piece_step (p x) x (slice_split p xs) s.0 s.1 s.2

-- those of two lists with an element between at which the whole is cut
split-append_step : (ends : Bool) (x : ℕ) (piece : List ℕ) (pieces more : List (List ℕ)) →
    cond ends ([] ∷ ((piece ∷ pieces) ++ more)) (onto_first x ((piece ∷ pieces) ++ more)) ≡ cond ends ([] ∷ piece ∷ pieces) (onto_first x (piece ∷ pieces)) ++ more
split-append_step true x piece pieces more = refl
split-append_step false x piece pieces more = refl

slice_split-append : (p : ℕ → Bool) (xs : List ℕ) (y : ℕ) (ys : List ℕ) → p y ≡ true → slice_split p (xs ++ y ∷ ys) ≡ slice_split p xs ++ slice_split p ys
slice_split-append p [] y ys e = rw e refl
slice_split-append p (x ∷ xs) y ys e = let s = some_piece p xs in rw (slice_split-append p xs y ys e, s.2) (split-append_step (p x) x s.0 s.1 (slice_split p ys))

-- the lists with x put behind the last
abbrev onto_last : ℕ → List (List ℕ) → List (List ℕ)
onto_last x [] = (x ∷ []) ∷ []
onto_last x (piece ∷ []) = (piece ++ x ∷ []) ∷ []
onto_last x (piece ∷ next ∷ pieces) = piece ∷ onto_last x (next ∷ pieces)

-- one element more, at which nothing is cut, is put behind the last piece
split-push_step : (ends : Bool) (x y : ℕ) (piece : List ℕ) (pieces : List (List ℕ)) →
    cond ends ([] ∷ onto_last y (piece ∷ pieces)) (onto_first x (onto_last y (piece ∷ pieces))) ≡ onto_last y (cond ends ([] ∷ piece ∷ pieces) (onto_first x (piece ∷ pieces)))
split-push_step true x y piece pieces = refl
split-push_step false x y piece [] = refl
split-push_step false x y piece (next ∷ pieces) = refl

slice_split-push : (p : ℕ → Bool) (xs : List ℕ) (y : ℕ) → p y ≡ false → slice_split p (xs ++ y ∷ []) ≡ onto_last y (slice_split p xs)
slice_split-push p [] y e = rw e refl
slice_split-push p (x ∷ xs) y e = let s = some_piece p xs in rw (slice_split-push p xs y e, s.2) (split-push_step (p x) x y s.0 s.1)

-- ---- all of them but the last, and the last

front_and_last : (pieces : List (List ℕ)) (n : ℕ) → length pieces ≡ n + 1 → pieces ≡ take n pieces ++ get_or pieces n [] ∷ []
front_and_last [] n e = absurd (omega arith)
front_and_last (piece ∷ []) zero e = refl
front_and_last (piece ∷ next ∷ pieces) zero e = absurd (omega arith)
front_and_last (piece ∷ pieces) (suc n) e = ap (λ ps. piece ∷ ps) (front_and_last pieces n (omega arith))

take-onto_last : (x : ℕ) (pieces : List (List ℕ)) (n : ℕ) → length pieces ≡ n + 1 → take n (onto_last x pieces) ≡ take n pieces
take-onto_last x [] n e = absurd (omega arith)
take-onto_last x (piece ∷ []) zero e = refl
take-onto_last x (piece ∷ []) (suc n) e = absurd (omega arith)
take-onto_last x (piece ∷ next ∷ pieces) zero e = refl
take-onto_last x (piece ∷ next ∷ pieces) (suc n) e = ap (λ ps. piece ∷ ps) (take-onto_last x (next ∷ pieces) n (omega arith))

get_or-onto_last : (x : ℕ) (pieces : List (List ℕ)) (n : ℕ) → length pieces ≡ n + 1 → get_or (onto_last x pieces) n [] ≡ get_or pieces n [] ++ x ∷ []
get_or-onto_last x [] n e = absurd (omega arith)
get_or-onto_last x (piece ∷ []) zero e = refl
get_or-onto_last x (piece ∷ []) (suc n) e = absurd (omega arith)
get_or-onto_last x (piece ∷ next ∷ pieces) zero e = absurd (omega arith)
get_or-onto_last x (piece ∷ next ∷ pieces) (suc n) e = get_or-onto_last x (next ∷ pieces) n (omega arith)

-- ---- the lines

count_by-lf : (a b : List ℕ) → count_by is_lf (a ++ 10 ∷ b) ≡ length (pieces_of a) + count_by is_lf b
count_by-lf a b =
    rw (sum_by-append (λ c. cond (is_lf c) 1 0) a (10 ∷ b), sum_by-append (λ c. cond (is_lf c) 1 0) (10 ∷ []) b)
    (omega (arith, length-slice_split is_lf a))

count_by-other : (text : List ℕ) (c : ℕ) → is_lf c ≡ false → count_by is_lf (text ++ c ∷ []) ≡ count_by is_lf text
count_by-other text c other = rw (sum_by-append (λ b. cond (is_lf b) 1 0) text (c ∷ []), other) (omega arith)

-- behind an LF all begins anew
pub lines_of-append : (a b : List ℕ) → lines_of (a ++ 10 ∷ b) ≡ pieces_of a ++ lines_of b
lines_of-append a b = rw (slice_split-append is_lf a 10 b refl, count_by-lf a b) (take-append-add (pieces_of a) (pieces_of b) (count_by is_lf b))

pub begun_of-append : (a b : List ℕ) → begun_of (a ++ 10 ∷ b) ≡ begun_of b
begun_of-append a b = rw (slice_split-append is_lf a 10 b refl, count_by-lf a b) (get_or-append-add (pieces_of a) (pieces_of b) (count_by is_lf b) [])

-- an LF ends the line that has begun
pub lines_of-lf : (text : List ℕ) → lines_of (text ++ 10 ∷ []) ≡ lines_of text ++ begun_of text ∷ []
lines_of-lf text = lines_of-append text [] ∙ append-nil (pieces_of text) ∙ front_and_last (pieces_of text) (count_by is_lf text) (length-slice_split is_lf text)

pub begun_of-lf : (text : List ℕ) → begun_of (text ++ 10 ∷ []) ≡ []
begun_of-lf text = begun_of-append text []

-- another byte is put behind it
pub lines_of-other : (text : List ℕ) (c : ℕ) → is_lf c ≡ false → lines_of (text ++ c ∷ []) ≡ lines_of text
lines_of-other text c other =
    rw (slice_split-push is_lf text c other, count_by-other text c other) (take-onto_last c (pieces_of text) (count_by is_lf text) (length-slice_split is_lf text))

pub begun_of-other : (text : List ℕ) (c : ℕ) → is_lf c ≡ false → begun_of (text ++ c ∷ []) ≡ begun_of text ++ c ∷ []
begun_of-other text c other =
    rw (slice_split-push is_lf text c other, count_by-other text c other) (get_or-onto_last c (pieces_of text) (count_by is_lf text) (length-slice_split is_lf text))
