-- The words of a line, by the place of its first space.
use Rattle.std.proofs.Common.{Bor, ◌≡◌, ◌≤◌, ◌+◌, ◌-◌, ℕ, suc, List, [], ◌∷◌, length, take, drop, Option, Some, None, Bool, true, false, refl, sym, ap, arith, add-one}
use Rattle.std.specs.Prelude.{◌==◌, is_none, if◌then◌else◌}
use Rattle.std.specs.List.{onto_first, position_from}
use Rattle.std.proofs.lemmas.Bool.{ne_eqb}
use Rattle.cns_words.specs.Words.{words_behind, line_words}

-- where the first space stands, counted from k, two words part
abbrev IsPartedAt : ℕ → List ℕ → List (List ℕ) → Option ℕ → Type 0
IsPartedAt k line words None = words ≡ line ∷ []
IsPartedAt k line words (Some i) = (k ≤ i) × (words ≡ take (i - k) line ∷ line_words (drop (suc (i - k)) line))

some_same : (a b : ℕ) → Some a ≡ Some b → a ≡ b
some_same a b e = cc e

parted_from : (k : ℕ) (line : List ℕ) (o : Option ℕ) → position_from (λ c. c == 32) k line ≡ o → IsPartedAt k line (line_words line) o
unfolding line_words
parted_from k [] None h = refl
parted_from k [] (Some i) h = cc h
parted_from k (c ∷ cs) o h = by (c == 32) o h (parted_from (k + 1) cs o)
  where
    by : (b : Bool) (o : Option ℕ) → (if b then Some k else position_from (λ c. c == 32) (k + 1) cs) ≡ o
        → (position_from (λ c. c == 32) (k + 1) cs ≡ o → IsPartedAt (k + 1) cs (line_words cs) o)
        → IsPartedAt k (c ∷ cs) (if b then [] ∷ line_words cs else onto_first c (line_words cs)) o
    by true None h more = cc h
    by true (Some i) h more =
        let same : k ≡ i = some_same k i h in
        let none : i - k ≡ 0 = omega (arith, same) in
        (omega (arith, same), rw none refl)
    by false None h more = ap (onto_first c) (more h)
    by false (Some i) h more =
        let m = more h in
        let next : i - k ≡ suc (i - (k + 1)) = omega (arith, m.0) in
        (omega (arith, m.0), rw next (ap (onto_first c) m.1))

pub words_parted : (line : List ℕ) (i : ℕ) → position_from (λ c. c == 32) 0 line ≡ Some i → line_words line ≡ take i line ∷ line_words (drop (i + 1) line)
words_parted line i h = let all : i - 0 ≡ i = omega arith in rw (add-one i) (rw all at ((parted_from 0 line (Some i) h).1))

pub words_whole : (line : List ℕ) → position_from (λ c. c == 32) 0 line ≡ None → line_words line ≡ line ∷ []
words_whole line h = parted_from 0 line None h

-- there is a word in each text
pub has_word : (line : List ℕ) → (w : List ℕ) × (ws : List (List ℕ)) × (line_words line ≡ w ∷ ws)
has_word line = by (position_from (λ c. c == 32) 0 line) refl
  where
    by : (o : Option ℕ) → position_from (λ c. c == 32) 0 line ≡ o → (w : List ℕ) × (ws : List (List ℕ)) × (line_words line ≡ w ∷ ws)
    by None e = (line, [], words_whole line e)
    by (Some i) e = (take i line, line_words (drop (i + 1) line), words_parted line i e)

-- no word is behind the first where nothing is
pub behind_is_none : (rest : Option (Bor (List ℕ))) → is_none rest ≡ (length (words_behind rest) == 0)
behind_is_none None = refl
behind_is_none (Some rest) = let word = has_word rest.now in rw word.2 (sym (ne_eqb _ _ (λ e. omega (arith, e))))
