-- Files by what they hold, and the text that they make.
use Rattle.std.proofs.Common.{◌≡◌, List, [], ◌∷◌, ◌++◌, ℕ, refl, ap, ◌∙◌, Bool, true, false, codes, map}
use Rattle.std.specs.Prelude.{◌||◌, not, Ok, Err}
use Rattle.std.specs.List.{list_any}
use Rattle.cns_named.specs.Named.{begins_otherwise, do_headers_agree, ended, first_line, has_line, rows_of_all, text_of_files}
use Rattle.cns_named.specs.declared.named.NamedFault.TheVariants as fault

pub any_of_mapped : {A B : Type 0} (f : A → B) (p : B → Bool) (xs : List A) → list_any (λ x. p (f x)) xs ≡ list_any p (map f xs)
any_of_mapped f p [] = refl
any_of_mapped f p (x ∷ xs) = ap (λ b. p (f x) || b) (any_of_mapped f p xs)

-- the first file's header is that of the others, where none of them begins otherwise
pub agree_by_first : {X : Type 0} (f : X → List ℕ) (files further : List X) (file : X) (any : Bool) → files ≡ file ∷ further
    → any ≡ list_any (λ x. begins_otherwise (first_line (f file)) (f x)) further → not any ≡ do_headers_agree (map f files)
agree_by_first f files further file any split is = rw split (ap not (is ∙ any_of_mapped f (begins_otherwise (first_line (f file))) further))

module _ (openings : List ℕ) (trades : List (List ℕ)) (script : List ℕ) where
  pub head_in_openings : has_line (codes "[trades]") (ended openings) ≡ true → text_of_files openings trades script ≡ Err fault.Head
  head_in_openings is = rw is refl

  pub head_in_trades : has_line (codes "[trades]") (ended openings) ≡ false → list_any (λ file. has_line (codes "[script]") (ended file)) trades ≡ true → text_of_files openings trades script ≡ Err fault.Head
  head_in_trades none is = rw (none, is) refl

  pub headers_differ : has_line (codes "[trades]") (ended openings) ≡ false → list_any (λ file. has_line (codes "[script]") (ended file)) trades ≡ false → do_headers_agree trades ≡ false
      → text_of_files openings trades script ≡ Err fault.Header
  headers_differ none nowhere differ = rw (none, nowhere, differ) refl

  pub text_is_made : has_line (codes "[trades]") (ended openings) ≡ false → list_any (λ file. has_line (codes "[script]") (ended file)) trades ≡ false → do_headers_agree trades ≡ true
      → text_of_files openings trades script ≡ Ok (codes "[openings]\n" ++ ended openings ++ codes "[trades]\n" ++ rows_of_all trades ++ codes "[script]\n" ++ script)
  text_is_made none nowhere agree = rw (none, nowhere, agree) refl
