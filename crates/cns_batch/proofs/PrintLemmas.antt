-- What is written of texts that are told one after another.
use Rattle.std.proofs.Common.{◌≡◌, ◌<◌, ◌≤◌, ℕ, ◌+◌, min, get_or, List, [], ◌∷◌, ◌++◌, length, take, drop, Option, Some, None, Result, Ok, Err, refl, sym, ap, ◌∙◌, subst, append_assoc, arith, take-add}
use Rattle.std.proofs.Math.Seq.{take-append-add}
use Rattle.std.proofs.lemmas.List.{append-nil, drop_all, drop_more, take-append-le, take_min}
use Rattle.std.specs.Result.{IsErr}
use Rattle.std.specs.Io.KnownBytes.{Appends, Keeps}
use Rattle.std.specs.List.{flat_map}
use Rattle.cns_batch.specs.Runs.{BreaksOff, Output, Prints, Writes}

pub appends_nothing : (a : Option (List ℕ)) → Appends a a []
appends_nothing None = tt
appends_nothing (Some xs) = sym (append-nil xs)

appends_more : (a b d : Option (List ℕ)) (s t : List ℕ) → Appends a b s → Appends b d t → Appends a d (s ++ t)
appends_more None b d s t f g = tt
appends_more (Some xs) None d s t f g = absurd f
appends_more (Some xs) (Some ys) None s t f g = absurd g
appends_more (Some xs) (Some ys) (Some zs) s t f g = g ∙ ap (λ l. l ++ t) f ∙ append_assoc xs s t

-- one more part of a text is written
pub write_more : (a b d : Option (List ℕ)) (text : List ℕ) (k n : ℕ) → Appends a b (take k text) → Appends b d (take n (drop k text)) → Appends a d (take (k + n) text)
write_more a b d text k n f g = rw (take-add k n text) (appends_more a b d (take k text) (take n (drop k text)) f g)

pub writes_more : (p q r : Output) (s t : List ℕ) → Writes s p q → Writes t q r → Writes (s ++ t) p r
writes_more p q r s t (one, a, e) (two, b, f) = (
  one ++ two,
  appends_more p.sent q.sent r.sent one two a b,
  append_assoc one two r.held ∙ ap (λ l. one ++ l) f ∙ sym (append_assoc one q.held t) ∙ ap (λ l. l ++ t) e ∙ append_assoc p.held s t,
)

-- as much is at the front of a longer list
pub take_front : {A : Type 0} (n : ℕ) (xs ys : List A) → (m : ℕ) × (take m (xs ++ ys) ≡ take n xs)
take_front n xs ys = (min n (length xs), take-append-le (min n (length xs)) xs ys (omega arith) ∙ take_min n xs)

-- a text was told, and the next one breaks off
pub breaks_after : (p q : Output) (sent : Option (List ℕ)) (s t : List ℕ) → Writes s p q → BreaksOff t q sent → BreaksOff (s ++ t) p sent
breaks_after p q sent s t (part, a, e) (size, b) =
    let all : p.held ++ (s ++ t) ≡ part ++ (q.held ++ t) = sym (append_assoc p.held s t) ∙ ap (λ l. l ++ t) (sym e) ∙ append_assoc part q.held t in (
      length part + size,
      subst (λ l. Appends p.sent sent l) (sym (ap (take (length part + size)) all ∙ take-append-add part (q.held ++ t) size))
          (appends_more p.sent q.sent sent part (take size (q.held ++ t)) a b),
    )

-- the first of two texts breaks off
pub breaks_front : (p : Output) (sent : Option (List ℕ)) (s t : List ℕ) → BreaksOff s p sent → BreaksOff (s ++ t) p sent
breaks_front p sent s t (size, a) =
    let (more, same) = take_front size (p.held ++ s) t in (more, subst (λ l. Appends p.sent sent l) (sym (ap (take more) (sym (append_assoc p.held s t)) ∙ same)) a)

-- nothing of a text was written
pub breaks_here : (text : List ℕ) (p : Output) → BreaksOff text p p.sent
breaks_here text p = (0, appends_nothing p.sent)

pub prints_after : {E : Type 0} (result : Result (Unit {0}) E) (p q r : Output) (s t : List ℕ) → Writes s p q → Prints t result q r → Prints (s ++ t) result p r
prints_after (Ok u) p q r s t one two = writes_more p q r s t one two
prints_after (Err e) p q r s t one two = breaks_after p q r.sent s t one two

-- nothing is told
pub prints_nothing : (p : Output) → Writes [] p p
prints_nothing p = ([], appends_nothing p.sent, sym (append-nil p.held))

-- a call that answers a fault breaks off
pub prints_fault : {E : Type 0} (text : List ℕ) (result : Result (Unit {0}) E) (p q : Output) → IsErr result → BreaksOff text p q.sent → Prints text result p q
prints_fault text (Ok u) p q is breaks = absurd (cc is)
prints_fault text (Err e) p q is breaks = breaks

-- what is held is written
pub flush_writes : (p q : Output) → Appends p.sent q.sent p.held → q.held ≡ [] → Writes [] p q
flush_writes p q all none = (p.held, all, ap (λ l. p.held ++ l) none)

pub flush_breaks : (p : Output) (sent : Option (List ℕ)) (size : ℕ) → Appends p.sent sent (take size p.held) → BreaksOff [] p sent
flush_breaks p sent size part = (size, subst (λ l. Appends p.sent sent (take size l)) (sym (append-nil p.held)) part)

-- the writer keeps what it holds, and nothing is told
keeps_appends : (a b : Option (List ℕ)) → Keeps a b → Appends a b []
keeps_appends None b keeps = tt
keeps_appends (Some xs) None keeps = absurd keeps
keeps_appends (Some xs) (Some ys) keeps = keeps ∙ sym (append-nil xs)

pub prints_kept : {E : Type 0} (result : Result (Unit {0}) E) (p q : Output) → Keeps p.sent q.sent → q.held ≡ p.held → Prints [] result p q
prints_kept (Ok u) p q keeps same = ([], keeps_appends p.sent q.sent keeps, same ∙ sym (append-nil p.held))
prints_kept (Err e) p q keeps same = (0, keeps_appends p.sent q.sent keeps)

-- a text is held, and then written where much is held
holds : (text : List ℕ) (p q : Output) → q ≡ record p { held = p.held ++ text } → Writes text p q
holds text p q is = subst (λ q. Writes text p q) (sym is) ([], appends_nothing p.sent, refl)

pub prints_held : {E : Type 0} (text : List ℕ) (result : Result (Unit {0}) E) (p q r : Output) → q ≡ record p { held = p.held ++ text } → Prints [] result q r → Prints text result p r
prints_held text result p q r is flushed = subst (λ t. Prints t result p r) (append-nil text) (prints_after result p q r text [] (holds text p q is) flushed)

-- texts one after another, of which the last is told or breaks off
pub ruleset texts = (prints_fault, prints_after, writes_more, breaks_front, breaks_after, breaks_here)

-- ---- rows, one after another

-- what is left of a list begins with the next one
pub first_left : {A : Type 0} (xs : List A) (i : ℕ) (x : A) → i < length xs → x ≡ get_or xs i x → drop i xs ≡ x ∷ drop (i + 1) xs
first_left xs i x lt is = drop_more xs i x lt ∙ ap (λ y. y ∷ drop (i + 1) xs) (sym is)

-- the lines of the first so many rows were told
pub record AreTold {A : Type 0} (line : A → List ℕ) (rows : List A) (i : ℕ) (p q : Output) : Type 0 where
  pub told : List ℕ
  pub rest_is : told ++ flat_map line (drop i rows) ≡ flat_map line rows
  pub writes : Writes told p q

pub none_told : {A : Type 0} (line : A → List ℕ) (rows : List A) (p : Output) → AreTold line rows 0 p p
none_told line rows p = record { told = []; rest_is = refl; writes = prints_nothing p }

pub lines_left : {A : Type 0} (line : A → List ℕ) (rows : List A) (i : ℕ) (x : A) → i < length rows → x ≡ get_or rows i x
    → flat_map line (drop i rows) ≡ line x ++ flat_map line (drop (i + 1) rows)
lines_left line rows i x lt is = ap (flat_map line) (first_left rows i x lt is)

pub row_told : {A : Type 0} {line : A → List ℕ} {rows : List A} {i : ℕ} {x : A} {p q r : Output} → i < length rows → x ≡ get_or rows i x
    → AreTold line rows i p q → Writes (line x) q r → AreTold line rows (i + 1) p r
row_told {line = line} {rows = rows} {i = i} {x = x} {p = p} {q = q} {r = r} lt is so one = record {
  told = so.told ++ line x;
  rest_is = append_assoc so.told (line x) (flat_map line (drop (i + 1) rows)) ∙ ap (λ l. so.told ++ l) (sym (lines_left line rows i x lt is)) ∙ so.rest_is;
  writes = writes_more p q r so.told (line x) so.writes one;
}

pub all_told : {A : Type 0} {line : A → List ℕ} {rows : List A} {i : ℕ} {p q : Output} → length rows ≤ i → AreTold line rows i p q → Writes (flat_map line rows) p q
all_told {line = line} {rows = rows} {i = i} le so =
    let all : so.told ≡ flat_map line rows = sym (append-nil so.told) ∙ ap (λ l. so.told ++ flat_map line l) (sym (drop_all i rows le)) ∙ so.rest_is in rw (← all) so.writes
