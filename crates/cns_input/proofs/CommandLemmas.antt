-- Commands that stand alone.
use Rattle.std.proofs.Common.{Bor, ◌≡◌, ℕ, List, Option, Some, None, refl, sym}
use Rattle.std.specs.Prelude.{IsSome}
use Rattle.cns_words.specs.Words.{words_behind}
use Rattle.cns_words.proofs.WordLemmas.{behind_is_none}
use Rattle.cns_input.specs.Script.{none}

-- a command that stands alone is none where others stand behind it
pub none_with_others : {R : Type 0} (made : R) (rest : Option (Bor (List ℕ))) → IsSome rest → none made (words_behind rest) ≡ None
none_with_others made None some = cc some
none_with_others made (Some words) some = rw (sym (behind_is_none (Some words))) refl
