-- What one byte more does to what the lines of a text come to.
use Rattle.std.proofs.Common.{◌≡◌, ℕ, ◌+◌, ◌-◌, ◌^◌, ◌<◌, ◌==◌, min, Bool, true, false, cond, Option, Some, None, List, [], ◌∷◌, ◌++◌, length, take, refl, sym, ap, ◌∙◌, arith, append-nil, length-append, length-take, subst}
use Rattle.std.proofs.lemmas.List.{take_all, take-append-le}
use Rattle.std.specs.List.{cons_option, count_by}
use Rattle.std.proofs.lemmas.List.Sums.{sum_by-append}
use Rattle.std.proofs.lemmas.List.Elements.{filter_map-append}
use Rattle.cns_tally.specs.Kinds.{kind_of}
use Rattle.cns_tally.specs.Counts.{HasCounted, begun_of, counts_of_kinds, front_of, capped_count, is_bad_line, is_device_failure, is_faulty_row, is_refused_event, is_refused_trade, kinds_of, lines_of}
use Rattle.cns_tally.specs.declared.kind.Kind.{Kind}
use Rattle.cns_tally.specs.declared.kind.Kind.TheVariants.{FaultyRow, BadLine, DeviceFailure, RefusedTrade, RefusedEvent}
use Rattle.cns_tally.specs.declared.lines.Lines.{Lines}
use Rattle.cns_tally.proofs.LineLemmas.{begun_of-lf, begun_of-other, lines_of-lf, lines_of-other}

-- ---- one kind more

count_by-snoc : (test : Kind → Bool) (kinds : List Kind) (kind : Kind) → count_by test (kinds ++ kind ∷ []) ≡ count_by test kinds + cond (test kind) 1 0
count_by-snoc test kinds kind = rw (sum_by-append (λ k. cond (test k) 1 0) kinds (kind ∷ [])) (omega arith)

how_many_more : (test : Kind → Bool) (kinds : List Kind) (kind : Kind) → test kind ≡ true → capped_count test (kinds ++ kind ∷ []) ≡ min (capped_count test kinds + 1) (2 ^ 64 - 1)
how_many_more test kinds kind is = rw (count_by-snoc test kinds kind, is) (omega arith)

how_many_same : (test : Kind → Bool) (kinds : List Kind) (kind : Kind) → test kind ≡ false → capped_count test (kinds ++ kind ∷ []) ≡ capped_count test kinds
how_many_same test kinds kind is_not = rw (count_by-snoc test kinds kind, is_not) (omega arith)

pub counts_of_kinds-faulty_row : (kinds : List Kind) → let counts = counts_of_kinds kinds in counts_of_kinds (kinds ++ FaultyRow ∷ []) ≡ record counts { faulty_rows = min (counts.faulty_rows + 1) (2 ^ 64 - 1) }
counts_of_kinds-faulty_row kinds =
    rw (how_many_more is_faulty_row kinds FaultyRow refl, how_many_same is_refused_trade kinds FaultyRow refl, how_many_same is_bad_line kinds FaultyRow refl, how_many_same is_refused_event kinds FaultyRow refl, how_many_same is_device_failure kinds FaultyRow refl) refl

pub counts_of_kinds-refused_trade : (kinds : List Kind) → let counts = counts_of_kinds kinds in counts_of_kinds (kinds ++ RefusedTrade ∷ []) ≡ record counts { refused_trades = min (counts.refused_trades + 1) (2 ^ 64 - 1) }
counts_of_kinds-refused_trade kinds =
    rw (how_many_same is_faulty_row kinds RefusedTrade refl, how_many_more is_refused_trade kinds RefusedTrade refl, how_many_same is_bad_line kinds RefusedTrade refl, how_many_same is_refused_event kinds RefusedTrade refl, how_many_same is_device_failure kinds RefusedTrade refl) refl

pub counts_of_kinds-bad_line : (kinds : List Kind) → let counts = counts_of_kinds kinds in counts_of_kinds (kinds ++ BadLine ∷ []) ≡ record counts { bad_lines = min (counts.bad_lines + 1) (2 ^ 64 - 1) }
counts_of_kinds-bad_line kinds =
    rw (how_many_same is_faulty_row kinds BadLine refl, how_many_same is_refused_trade kinds BadLine refl, how_many_more is_bad_line kinds BadLine refl, how_many_same is_refused_event kinds BadLine refl, how_many_same is_device_failure kinds BadLine refl) refl

pub counts_of_kinds-refused_event : (kinds : List Kind) → let counts = counts_of_kinds kinds in counts_of_kinds (kinds ++ RefusedEvent ∷ []) ≡ record counts { refused_events = min (counts.refused_events + 1) (2 ^ 64 - 1) }
counts_of_kinds-refused_event kinds =
    rw (how_many_same is_faulty_row kinds RefusedEvent refl, how_many_same is_refused_trade kinds RefusedEvent refl, how_many_same is_bad_line kinds RefusedEvent refl, how_many_more is_refused_event kinds RefusedEvent refl, how_many_same is_device_failure kinds RefusedEvent refl) refl

pub counts_of_kinds-device_failure : (kinds : List Kind) → let counts = counts_of_kinds kinds in counts_of_kinds (kinds ++ DeviceFailure ∷ []) ≡ record counts { device_failures = min (counts.device_failures + 1) (2 ^ 64 - 1) }
counts_of_kinds-device_failure kinds =
    rw (how_many_same is_faulty_row kinds DeviceFailure refl, how_many_same is_refused_trade kinds DeviceFailure refl, how_many_same is_bad_line kinds DeviceFailure refl, how_many_same is_refused_event kinds DeviceFailure refl, how_many_more is_device_failure kinds DeviceFailure refl) refl

-- ---- the kinds

kinds_of-ended : (text : List ℕ) (kind : Option Kind) → kind_of (front_of (begun_of text)) ≡ kind → kinds_of (text ++ 10 ∷ []) ≡ kinds_of text ++ cons_option kind []
kinds_of-ended text kind e =
    rw (lines_of-lf text, filter_map-append (λ line. kind_of (front_of line)) (lines_of text) (begun_of text ∷ []), e) refl

pub kinds_of-some : (text : List ℕ) (kind : Kind) → kind_of (front_of (begun_of text)) ≡ Some kind → kinds_of (text ++ 10 ∷ []) ≡ kinds_of text ++ kind ∷ []
kinds_of-some text kind e = kinds_of-ended text (Some kind) e

pub kinds_of-none : (text : List ℕ) → kind_of (front_of (begun_of text)) ≡ None → kinds_of (text ++ 10 ∷ []) ≡ kinds_of text
kinds_of-none text e = kinds_of-ended text None e ∙ append-nil (kinds_of text)

kinds_of-other : (text : List ℕ) (c : ℕ) → (c == 10) ≡ false → kinds_of (text ++ c ∷ []) ≡ kinds_of text
kinds_of-other text c e = rw (lines_of-other text c e) refl

-- ---- the front of a list that grows by one

take-kept : (n : ℕ) (xs : List ℕ) (c : ℕ) → length (take n xs) < n → take n (xs ++ c ∷ []) ≡ take n xs ++ c ∷ []
take-kept n xs c room =
    let short : length xs < n = omega (arith, length-take n xs) in
    rw (take_all n (xs ++ c ∷ []) (omega (arith, length-append xs (c ∷ []))), take_all n xs (omega arith)) refl

take-cut : (n : ℕ) (xs : List ℕ) (c : ℕ) → length (take n xs) ≡ n → take n (xs ++ c ∷ []) ≡ take n xs
take-cut n xs c full = take-append-le n xs (c ∷ []) (omega (arith, length-take n xs))

-- ---- a byte more

-- the end of a line that tells of something
pub ended_some : (old new : Lines) (text : List ℕ) (kind : Kind) →
    kind_of old.begun.items ≡ Some kind → ((kinds : List Kind) → old.counts ≡ counts_of_kinds kinds → new.counts ≡ counts_of_kinds (kinds ++ kind ∷ [])) → new.begun.items ≡ []
    → HasCounted old text → HasCounted new (text ++ 10 ∷ [])
ended_some old new text kind is counted cleared h = record {
  counts = counted (kinds_of text) h.counts ∙ ap counts_of_kinds (sym (kinds_of-some text kind (ap kind_of (sym h.begun) ∙ is)));
  begun = rw (begun_of-lf text) cleared;
}

-- the end of a line that tells of nothing
pub ended_none : (old new : Lines) (text : List ℕ) →
    kind_of old.begun.items ≡ None → new.counts ≡ old.counts → new.begun.items ≡ []
    → HasCounted old text → HasCounted new (text ++ 10 ∷ [])
ended_none old new text is same cleared h = record {
  counts = same ∙ h.counts ∙ ap counts_of_kinds (sym (kinds_of-none text (ap kind_of (sym h.begun) ∙ is)));
  begun = rw (begun_of-lf text) cleared;
}

-- a byte that no line ends by, where there is room for it
pub byte_kept : (old new : Lines) (text : List ℕ) (c : ℕ) →
    (c == 10) ≡ false → length old.begun.items < 64 → new.counts ≡ old.counts → new.begun.items ≡ old.begun.items ++ c ∷ []
    → HasCounted old text → HasCounted new (text ++ c ∷ [])
byte_kept old new text c other room same more h = record {
  counts = same ∙ h.counts ∙ ap counts_of_kinds (sym (kinds_of-other text c other));
  begun = rw (begun_of-other text c other) (more ∙ ap (λ xs. xs ++ c ∷ []) h.begun ∙ sym (take-kept 64 (begun_of text) c (subst (λ xs. length xs < 64) h.begun room)));
}

-- the same, where there is none
pub byte_cut : (lines : Lines) (text : List ℕ) (c : ℕ) →
    (c == 10) ≡ false → length lines.begun.items ≡ 64
    → HasCounted lines text → HasCounted lines (text ++ c ∷ [])
byte_cut lines text c other full h = record {
  counts = h.counts ∙ ap counts_of_kinds (sym (kinds_of-other text c other));
  begun = rw (begun_of-other text c other) (h.begun ∙ sym (take-cut 64 (begun_of text) c (ap length (sym h.begun) ∙ full)));
}
