-- Lines of lists, as they are put together.
use Rattle.std.proofs.Common.{◌≡◌, ◌≤◌, ◌-◌, ℕ, List, [], ◌∷◌, ◌++◌, length, replicate, ap, sym, ◌∙◌, arith, append_assoc}
use Rattle.std.proofs.lemmas.List.{take-append-le, take-replicate}
use borrow.Rule.Slice.PartMut.{post_of, put_mid, Post-is}
use Rattle.cns_report.specs.Right.{right_20}

-- a text that is written at the end of 20 spaces, which the end of the line follows
pub right_of : (text places : List ℕ) → places ≡ text → length text ≤ 20
    → put_mid (20 - length text) (20 - (20 - length text)) (replicate 20 32 ++ 10 ∷ []) places ≡ right_20 text ++ 10 ∷ []
right_of text places same short =
    let first = 20 - length text in
    let line : List ℕ = replicate 20 32 ++ 10 ∷ [] in
    ap (λ (front : List ℕ). front ++ (places ++ post_of first (20 - first) line)) (take-append-le first (replicate 20 32) (10 ∷ []) (omega arith) ∙ take-replicate first 20 32 (omega arith))
    ∙ ap (λ (behind : List ℕ). replicate first 32 ++ (places ++ behind)) (Post-is first 20 line (omega arith))
    ∙ ap (λ (text : List ℕ). replicate first 32 ++ (text ++ 10 ∷ [])) same
    ∙ sym (append_assoc (replicate first 32) text (10 ∷ []))
