-- What reads in turn do to known bytes.
use Rattle.std.proofs.Common.{◌≡◌, ◌≤◌, ◌<◌, ◌-◌, ℕ, List, [], ◌++◌, length, take, Option, Some, None, Result, Ok, Err, refl, sym, ap, ◌∙◌, subst, append_assoc, arith, length-append}
use Rattle.std.proofs.lemmas.List.{append-nil, length-take}
use Rattle.std.specs.Io.KnownBytes.{Consumes, IsAtEnd, Keeps}
use Rattle.cns_input.specs.Reading.{HasGiven, IsInput}
use Rattle.cns_input.specs.declared.fault.BatchFault.{BatchFault}
use Rattle.cns_input.specs.declared.fault.BatchFault.TheVariants as fault

-- all is read where no byte is left
pub read_end : (a b d : Option (List ℕ)) (t buf : List ℕ) (n : ℕ) → Consumes a b t → Consumes b d (take n buf) → (n ≡ 0 → 0 < length buf → IsAtEnd d) → n ≡ 0 → 0 < length buf
    → IsInput a t
read_end None b d t buf n f g e z pos = tt
read_end (Some xs) None d t buf n f g e z pos = absurd f
read_end (Some xs) (Some ys) None t buf n f g e z pos = absurd g
read_end (Some xs) (Some ys) (Some zs) t buf n f g e z pos =
    let last : ys ≡ zs = rw z at g in
    let none : zs ≡ [] = e z pos in
    sym (f ∙ rw (last, none) (append-nil t))

-- a read gave more bytes, and one that failed gave none
gave_more : (a b d : Option (List ℕ)) (s t : List ℕ) → Consumes a b s → Consumes b d t → Consumes a d (s ++ t)
gave_more None b d s t f g = tt
gave_more (Some xs) None d s t f g = absurd f
gave_more (Some xs) (Some ys) None s t f g = absurd g
gave_more (Some xs) (Some ys) (Some zs) s t f g = f ∙ ap (λ l. s ++ l) g ∙ sym (append_assoc s t zs)

gave_none : (a b d : Option (List ℕ)) (s : List ℕ) → Consumes a b s → Keeps b d → Consumes a d s
gave_none None b d s f same = tt
gave_none (Some xs) None d s f same = absurd f
gave_none (Some xs) (Some ys) None s f same = absurd same
gave_none (Some xs) (Some ys) (Some zs) s f same = f ∙ ap (λ l. s ++ l) (sym same)

-- no more bytes were given than may be, and the answer is another one than `TooLong`
given_within : {A : Type 0} (result : Result A BatchFault) (a b : Option (List ℕ)) (t : List ℕ) → (result ≡ Err fault.TooLong → ⊥) → Consumes a b t → length t ≤ 67108864
    → HasGiven result a b
given_within result a b t other took le = (t, took, (λ is. absurd (other is), λ more. absurd (omega (arith, le, more))))

-- at the end of the input, and where the reader failed
pub given_all : {A : Type 0} (text : A) (a b d : Option (List ℕ)) (t buf : List ℕ) (n : ℕ) → Consumes a b t → Consumes b d (take n buf) → n ≡ 0 → length t ≤ 67108864
    → HasGiven (Ok text) a d
given_all text a b d t buf n f g z le =
    let last : Consumes b d [] = rw z at g in
    given_within (Ok text) a d t (λ e. absurd (cc e)) (subst (λ l. Consumes a d l) (append-nil t) (gave_more a b d t [] f last)) le

pub given_failed : {A : Type 0} (a b d : Option (List ℕ)) (t : List ℕ) → Consumes a b t → Keeps b d → length t ≤ 67108864 → HasGiven {A = A} (Err fault.Read) a d
given_failed a b d t f same le = given_within (Err fault.Read) a d t (λ e. absurd (cc e)) (gave_none a b d t f same) le

-- where there is no memory for what the last read gave, and where it gave too much
pub given_unkept : {A : Type 0} (a b d : Option (List ℕ)) (t buf : List ℕ) (n : ℕ) → Consumes a b t → Consumes b d (take n buf) → length t ≤ 67108864 → n ≤ 67108864 - length t
    → HasGiven {A = A} (Err fault.Memory) a d
given_unkept a b d t buf n f g le more =
    given_within (Err fault.Memory) a d (t ++ take n buf) (λ e. absurd (cc e)) (gave_more a b d t (take n buf) f g)
    (omega (arith, length-append t (take n buf), length-take n buf, le, more))

pub given_too_many : {A : Type 0} (a b d : Option (List ℕ)) (t buf : List ℕ) (n : ℕ) → Consumes a b t → Consumes b d (take n buf) → n ≤ length buf → 67108864 - length t < n
    → HasGiven {A = A} (Err fault.TooLong) a d
given_too_many a b d t buf n f g le more =
    (t ++ take n buf, gave_more a b d t (take n buf) f g, (λ is. omega (arith, length-append t (take n buf), length-take n buf, le, more), λ more. refl))
