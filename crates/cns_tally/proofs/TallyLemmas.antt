-- A write keeps what a tally is known to hold.
use Rattle.std.proofs.Common.{◌≡◌, ℕ, Bool, true, false, Option, Some, None, List, ◌++◌, refl, sym, subst, true≢false, if◌then◌else◌}
use Rattle.std.specs.Io.KnownBytes.{Appends}
use Rattle.std.specs.Bool.{Decides}
use Rattle.std.specs.Cmp.Lexicographic.{bytes_decides}
use Rattle.std.proofs.lemmas.Bool.Decides.{Decides-and, Decides-eqb, Decides-like}
use Rattle.cns_tally.specs.Counts.{HasCounted, begun_of, text_counts, front_of}
use Rattle.cns_tally.specs.Tally.{has_counted, if_counted, same_counts}
use Rattle.cns_tally.specs.declared.counts.Counts.{Counts}
use Rattle.cns_tally.specs.declared.lines.Lines.{Lines}

same_fields : (a b : Counts) →
    a.faulty_rows ≡ b.faulty_rows → a.refused_trades ≡ b.refused_trades → a.bad_lines ≡ b.bad_lines → a.refused_events ≡ b.refused_events → a.device_failures ≡ b.device_failures
    → a ≡ b
same_fields a b f t l e d =
    let made : ℕ → ℕ → ℕ → ℕ → ℕ → Counts =
    λ faulty trades lines events devices. record { faulty_rows = faulty; refused_trades = trades; bad_lines = lines; refused_events = events; device_failures = devices } in
    let same : made a.faulty_rows a.refused_trades a.bad_lines a.refused_events a.device_failures ≡ made b.faulty_rows b.refused_trades b.bad_lines b.refused_events b.device_failures =
    rw (f, t, l, e, d) refl in
    same

same_counts_decides : (a b : Counts) → Decides (same_counts a b) (a ≡ b)
same_counts_decides a b =
    Decides-like (same_counts a b) (λ e. same_fields a b e.0.0.0.0 e.0.0.0.1 e.0.0.1 e.0.1 e.1) (λ e. ((((cc, cc), cc), cc), cc))
    (Decides-and _ _ (Decides-and _ _ (Decides-and _ _ (Decides-and _ _
    (Decides-eqb a.faulty_rows b.faulty_rows) (Decides-eqb a.refused_trades b.refused_trades)) (Decides-eqb a.bad_lines b.bad_lines))
    (Decides-eqb a.refused_events b.refused_events)) (Decides-eqb a.device_failures b.device_failures))

has_counted_decides : (lines : Lines) (text : List ℕ) → Decides (has_counted lines text) (HasCounted lines text)
has_counted_decides lines text =
    Decides-like (has_counted lines text) (λ e. record { counts = e.0; begun = e.1 }) (λ h. (h.counts, h.begun))
    (Decides-and _ _ (same_counts_decides lines.counts (text_counts text)) (bytes_decides lines.begun.items (front_of (begun_of text))))

appends_if : (before after : Bool) (xs ys bytes : List ℕ) → ys ≡ xs ++ bytes → (before ≡ true → after ≡ true) → Appends (if before then Some xs else None) (if after then Some ys else None) bytes
appends_if false after xs ys bytes more e = tt
appends_if true true xs ys bytes more e = more
appends_if true false xs ys bytes more e = absurd (true≢false (sym (e refl)))

pub if_counted-appends : (old new : Lines) (a b : Option (List ℕ)) (bytes : List ℕ) →
    Appends a b bytes → ((text : List ℕ) → HasCounted old text → HasCounted new (text ++ bytes)) → Appends (if_counted old a) (if_counted new b) bytes
if_counted-appends old new None b bytes more step = tt
if_counted-appends old new (Some xs) None bytes more step = absurd more
if_counted-appends old new (Some xs) (Some ys) bytes more step =
    let now : HasCounted old xs → has_counted new ys ≡ true = λ h. (has_counted_decides new ys).1 (subst (HasCounted new) (sym more) (step xs h)) in
    appends_if (has_counted old xs) (has_counted new ys) xs ys bytes more (λ e. now ((has_counted_decides old xs).0 e))
