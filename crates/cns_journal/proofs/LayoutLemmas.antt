-- What bytes stand for, by their parts.
use Rattle.std.proofs.Common.{◌≡◌, ℕ, zero, suc, ◌+◌, ◌<◌, ◌≤◌, Bool, true, false, List, [], ◌∷◌, ◌++◌, length, get_or, take, drop, refl, sym, ◌∙◌, ap, subst, arith, length-drop}
use Rattle.std.specs.Prelude.{if◌then◌else◌}
use Rattle.std.proofs.lemmas.Bool.Decides.{nat_tests}
use Rattle.std.proofs.lemmas.List.{append-nil, get_or-take, get_or-drop, length-take, take-take, drop-take, drop-drop}
use Rattle.cns_journal.specs.Layout.{payload_length, counts, first_payload, behind, first_records, journal_of, size_of}

-- what follows in each case of a test
pub by_bool : {P : Type 0} (b : Bool) → (b ≡ true → P) → (b ≡ false → P) → P
by_bool true t f = t refl
by_bool false t f = f refl

pub record Counts (bytes : List ℕ) : Type 0 where
  pub gate : get_or bytes 0 0 ≡ 165
  pub allowed : payload_length bytes ≤ 1048576
  pub whole : 5 + payload_length bytes < length bytes

-- the test is true where a record counts, and nowhere else
pub counts-true : (bytes : List ℕ) → counts bytes ≡ true → Counts bytes
counts-true bytes e = record { gate = grind (arith, nat_tests); allowed = grind (arith, nat_tests); whole = grind (arith, nat_tests) }

pub counts-of : (bytes : List ℕ) → Counts bytes → counts bytes ≡ true
counts-of bytes c = grind (arith, nat_tests)

-- the first records, where one counts and where none does
pub records-true : (n : ℕ) (bytes : List ℕ) → counts bytes ≡ true → first_records (suc n) bytes ≡ first_payload bytes ∷ first_records n (behind bytes)
records-true n bytes e = ap (λ (b : Bool). if b then first_payload bytes ∷ first_records n (behind bytes) else []) e

pub records-false : (n : ℕ) (bytes : List ℕ) → counts bytes ≡ false → first_records n bytes ≡ []
records-false zero bytes e = refl
records-false (suc n) bytes e = ap (λ (b : Bool). if b then first_payload bytes ∷ first_records n (behind bytes) else []) e

-- bytes too few for a record do not count
pub counts-short : (bytes : List ℕ) → length bytes ≤ 5 → counts bytes ≡ false
counts-short bytes few = grind (arith, nat_tests)

-- any count of steps that suffices gives the same
pub records-fuel : (n m : ℕ) (bytes : List ℕ) → length bytes ≤ n → length bytes ≤ m → first_records n bytes ≡ first_records m bytes
records-fuel zero m bytes hn hm = sym (records-false m bytes (counts-short bytes (omega arith)))
records-fuel (suc n) zero bytes hn hm = records-false (suc n) bytes (counts-short bytes (omega arith))
records-fuel (suc n) (suc m) bytes hn hm = by_bool (counts bytes)
    (λ e. let c = (counts-true bytes e).whole in let l = length-drop (5 + payload_length bytes) bytes in
    records-true n bytes e ∙ ap (λ (l : List (List ℕ)). first_payload bytes ∷ l) (records-fuel n m (behind bytes) (omega arith) (omega arith)) ∙ sym (records-true m bytes e))
    (λ e. records-false (suc n) bytes e ∙ sym (records-false (suc m) bytes e))

-- one record and what stands behind it
pub journal-more : (bytes : List ℕ) → Counts bytes → journal_of bytes ≡ first_payload bytes ∷ journal_of (behind bytes)
journal-more bytes c = let w = c.whole in let l = length-drop (5 + payload_length bytes) bytes in
    records-fuel (length bytes) (suc (length bytes)) bytes (omega arith) (omega arith) ∙ records-true (length bytes) bytes (counts-of bytes c)
    ∙ ap (λ (l : List (List ℕ)). first_payload bytes ∷ l) (records-fuel (length bytes) (length (behind bytes)) (behind bytes) (omega arith) (omega arith))

-- behind a gate that is not open nothing counts
pub counts-shut : (bytes : List ℕ) → (get_or bytes 0 0 ≡ 165 → ⊥) → counts bytes ≡ false
counts-shut bytes shut = grind (arith, nat_tests)

-- where the first record does not count there is none
pub journal-none : (bytes : List ℕ) → counts bytes ≡ false → journal_of bytes ≡ []
journal-none bytes none = records-false (length bytes) bytes none

-- the payload of a record that is whole has its length
pub length-part : (f : List ℕ) (n : ℕ) → 5 + n < length f → length (take n (drop 5 f)) ≡ n
length-part f n h = omega (arith, length-take n (drop 5 f), length-drop 5 f)

-- the first byte from a place on is the one at it
pub first-of-drop : (n : ℕ) (c : List ℕ) → get_or (drop n c) 0 0 ≡ get_or c n 0
first-of-drop n c = get_or-drop n c 0 0 ∙ ap (λ (k : ℕ). get_or c k 0) (omega arith)

-- the front of a longer front
pub take-short : (m e : ℕ) (l : List ℕ) → m ≤ e → take m (take e l) ≡ take m l
take-short = take-take

-- files that are the same up to e are so up to m, and have the same bytes below e
pub front-same : (m e : ℕ) (c f : List ℕ) → m ≤ e → take e c ≡ take e f → take m c ≡ take m f
front-same m e c f h same = sym (take-take m e c h) ∙ ap (take m) same ∙ take-take m e f h

-- a byte of both
pub byte-same : (e i : ℕ) (c f : List ℕ) → take e c ≡ take e f → i < e → get_or c i 0 ≡ get_or f i 0
byte-same e i c f same h = sym (get_or-take e c i 0 h) ∙ ap (λ (l : List ℕ). get_or l i 0) same ∙ get_or-take e f i 0 h

-- a part of both
part-same : (n m e : ℕ) (c f : List ℕ) → n + m ≤ e → take e c ≡ take e f → take m (drop n c) ≡ take m (drop n f)
part-same n m e c f h same = sym (drop-take n m c) ∙ ap (drop n) (front-same (n + m) e c f h same) ∙ drop-take n m f

-- the length of the first record of both
size-same : (e : ℕ) (c f : List ℕ) → take e c ≡ take e f → 5 ≤ e → payload_length c ≡ payload_length f
size-same e c f same h = grind (arith, byte-same e 1 c f same, byte-same e 2 c f same, byte-same e 3 c f same, byte-same e 4 c f same)

-- The records of f stand before its end. A file that is the same there and has a byte at the end has them too, and then what stands from the end on.
pub journal-same : (ps : List (List ℕ)) (f c : List ℕ) → journal_of f ≡ ps → size_of ps < length c → take (size_of ps) c ≡ take (size_of ps) f → journal_of c ≡ ps ++ journal_of (drop (size_of ps) c)
journal-same [] f c is h same = refl
journal-same (p ∷ ps) f c is h same = by_bool (counts f) (λ e.
    let end : ℕ = 5 + length p + size_of ps in
    let cf = counts-true f e in
    let m = sym (journal-more f cf) ∙ is in
    let hp : first_payload f ≡ p = cc in
    let sf : payload_length f ≡ length p = sym (length-part f (payload_length f) cf.whole) ∙ ap length hp in
    let sc : payload_length c ≡ length p = size-same end c f same (omega arith) ∙ sf in
    let whole : Counts c = record { gate = byte-same end 0 c f same (omega arith) ∙ cf.gate; allowed = omega (arith, cf.allowed); whole = omega arith } in
    let l = length-drop (5 + payload_length c) c in
    let t : take (size_of ps) (behind c) ≡ take (size_of ps) (behind f) = rw (sc, sf) (part-same (5 + length p) (size_of ps) end c f (omega arith) same) in
    let q : first_payload c ≡ p = rw (sc, ← sf) (part-same 5 (payload_length f) end c f (omega arith) same ∙ hp) in
    let d : drop (size_of ps) (behind c) ≡ drop end c = drop-drop (size_of ps) (5 + payload_length c) c ∙ ap (λ (k : ℕ). drop k c) (omega arith) in
    let r = journal-same ps (behind f) (behind c) (cc) (omega arith) t in
    journal-more c whole ∙ (λ i. q i ∷ r i) ∙ ap (λ (l : List ℕ). (p ∷ ps) ++ journal_of l) d)
    (λ e. absurd (cc (records-false (length f) f e)))

-- the same where the end is a number that is known to be theirs
pub journal-behind : (f c : List ℕ) (end : ℕ) → end ≡ size_of (journal_of f) → end < length c → take end c ≡ take end f → journal_of c ≡ journal_of f ++ journal_of (drop end c)
journal-behind f c end is =
    subst (λ (e : ℕ). e < length c → take e c ≡ take e f → journal_of c ≡ journal_of f ++ journal_of (drop e c)) (sym is) (journal-same (journal_of f) f c refl)

-- behind a closed gate nothing counts
pub journal-closed : (f c : List ℕ) (end : ℕ) → end ≡ size_of (journal_of f) → end < length c → take end c ≡ take end f → (get_or c end 0 ≡ 165 → ⊥) → journal_of c ≡ journal_of f
journal-closed f c end is h same shut = journal-behind f c end is h same
    ∙ ap (λ (l : List (List ℕ)). journal_of f ++ l) (journal-none (drop end c) (counts-shut (drop end c) (λ e. shut (sym (first-of-drop end c) ∙ e)))) ∙ append-nil (journal_of f)

-- how many bytes the records of two lists take
pub size-append : (first second : List (List ℕ)) → size_of (first ++ second) ≡ size_of first + size_of second
size-append [] second = omega arith
size-append (payload ∷ rest) second = omega (arith, size-append rest second)
