-- What is told on a page of texts one after another, and where the page had no room for them.
use Rattle.std.proofs.Common.{◌≡◌, ◌<◌, ◌≤◌, ℕ, ◌+◌, get_or, List, [], ◌++◌, length, drop, Option, Result, Ok, Err, sym, ap, ◌∙◌, subst, arith, length-append}
use Rattle.std.specs.List.{flat_map}
use Rattle.cns_report.specs.Draft.{Written}
use Rattle.cns_batch.specs.declared.fault.OutputFault.{OutputFault}
use Rattle.cns_batch.specs.declared.fault.OutputFault.TheVariants as fault
use Rattle.std.specs.Result.{IfErr}
use Rattle.cns_batch.specs.Runs.{HasNoRoom, Prints, Puts, Writes, output}
use Rattle.cns_batch.proofs.PrintLemmas.{AreTold, all_told, breaks_front, breaks_here, lines_left, none_told, prints_after, prints_held, row_told}

-- a page that told a first text had no room for both where it has none for the second
no_room_after : (result : Result (Unit {0}) OutputFault) (p q : Written) (a b : Option (List ℕ)) (s t : List ℕ) → Writes s (output p a) (output q b) → p.room ≤ q.room
    → HasNoRoom t result q → HasNoRoom (s ++ t) result p
no_room_after (Ok u) p q a b s t wrote wide full = tt
no_room_after (Err fault.Write) p q a b s t wrote wide full = tt
no_room_after (Err fault.Memory) p q a b s t (part, appends, same) wide full =
    omega (arith, wide, full, length-append s t, length-append part q.text, length-append p.text s, ap (λ (l : List ℕ). length l) same)

pub puts_after : (result : Result (Unit {0}) OutputFault) (p q r : Written) (a b d : Option (List ℕ)) (s t : List ℕ) → Puts s (Ok tt) p q a b → Puts t result q r b d
    → Puts (s ++ t) result p r a d
puts_after result p q r a b d s t (one, wide, none) (two, wider, full) =
    (prints_after result (output p a) (output q b) (output r d) s t one two, omega (arith, wide, wider), no_room_after result p q a b s t one wide full)

no_room_front : (e : OutputFault) (p : Written) (s t : List ℕ) → HasNoRoom s (Err e) p → HasNoRoom (s ++ t) (Err e) p
no_room_front fault.Write p s t full = tt
no_room_front fault.Memory p s t full = omega (arith, full, length-append s t)

-- the first of two texts breaks off
pub puts_front : (e : OutputFault) (p q : Written) (a b : Option (List ℕ)) (s t : List ℕ) → Puts s (Err e) p q a b → Puts (s ++ t) (Err e) p q a b
puts_front e p q a b s t (one, wide, full) = (breaks_front (output p a) b s t one, wide, no_room_front e p s t full)

-- ---- rows, one after another

-- the lines of the first so many rows were told
pub record ArePut {A : Type 0} (line : A → List ℕ) (rows : List A) (i : ℕ) (p q : Written) (a b : Option (List ℕ)) : Type 0 where
  pub told : AreTold line rows i (output p a) (output q b)
  pub room : p.room ≤ q.room

pub none_put : {A : Type 0} (line : A → List ℕ) (rows : List A) (p : Written) (a : Option (List ℕ)) → ArePut line rows 0 p p a a
none_put line rows p a = record { told = none_told line rows (output p a); room = omega arith }

pub row_put : {A : Type 0} {line : A → List ℕ} {rows : List A} {i : ℕ} {x : A} {p q r : Written} {a b d : Option (List ℕ)} → i < length rows → x ≡ get_or rows i x
    → ArePut line rows i p q a b → Puts (line x) (Ok tt) q r b d → ArePut line rows (i + 1) p r a d
row_put lt is so one = record { told = row_told lt is so.told one.0; room = omega (arith, so.room, one.1) }

pub row_fails : {A : Type 0} {line : A → List ℕ} {rows : List A} {i : ℕ} {x : A} {p q : Written} {a b : Option (List ℕ)} (e : OutputFault) (r : Written) (d : Option (List ℕ)) → i < length rows
    → x ≡ get_or rows i x → ArePut line rows i p q a b → Puts (line x) (Err e) q r b d → Puts (flat_map line rows) (Err e) p r a d
row_fails {line = line} {rows = rows} {i = i} {x = x} {p = p} {q = q} {a = a} {b = b} e r d lt is so one =
    let rest = flat_map line (drop (i + 1) rows) in
    subst (λ l. Puts l (Err e) p r a d) (ap (λ l. so.told.told ++ l) (sym (lines_left line rows i x lt is)) ∙ so.told.rest_is)
    (puts_after (Err e) p q r a b d so.told.told (line x ++ rest) (so.told.writes, so.room, tt) (puts_front e q r b d (line x) rest one))

pub all_put : {A : Type 0} {line : A → List ℕ} {rows : List A} {i : ℕ} {p q : Written} {a b : Option (List ℕ)} → length rows ≤ i → ArePut line rows i p q a b
    → Puts (flat_map line rows) (Ok tt) p q a b
all_put le so = (all_told le so.told, so.room, tt)

-- ---- what was told is written

-- a call that fails at the writer alone
no_memory : (result : Result (Unit {0}) OutputFault) (text : List ℕ) (p : Written) → IfErr result (λ (e : OutputFault). e ≡ fault.Write) → HasNoRoom text result p
no_memory (Ok u) text p kind = tt
no_memory (Err fault.Write) text p kind = tt
no_memory (Err fault.Memory) text p kind = absurd (cc kind)

-- a text is held, and then written where much is held
pub puts_held : (result : Result (Unit {0}) OutputFault) (text : List ℕ) (p q r : Written) (a b : Option (List ℕ)) → q.text ≡ p.text ++ text → p.room ≤ q.room → q.room ≤ r.room
    → Prints [] result (output q a) (output r b) → IfErr result (λ (e : OutputFault). e ≡ fault.Write) → Puts text result p r a b
puts_held result text p q r a b is wide wider flushed kind = (
  prints_held text result (output p a) (output q a) (output r b) (ap (λ (l : List ℕ). output (record { text = l; room = q.room }) a) is) flushed,
  omega (arith, wide, wider),
  no_memory result text p kind,
)

-- a text is not held for want of memory
pub puts_none : (text : List ℕ) (p q : Written) (a : Option (List ℕ)) → p.room ≤ q.room → p.room < length p.text + length text → Puts text (Err fault.Memory) p q a a
puts_none text p q a wide full = (breaks_here text (output p a), wide, full)
