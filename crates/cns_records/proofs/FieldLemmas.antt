-- A field that is read is the field that was written, and what was written is read again.
use Rattle.std.proofs.Common.{◌≡◌, ℕ, suc, ◌^◌, ◌<◌, ◌≤◌, Bool, true, false, cond, ltb, List, [], ◌∷◌, ◌++◌, length, take, drop, Result, Ok, Err, refl, sym, ap, subst, ◌∙◌, arith, ◌⊎◌, inl, inr}
use Rattle.std.specs.Prelude.{◌==◌, IsOk}
use Rattle.std.specs.Int.{Width, w16, w32, w64, byte_len, from_be_bytes, to_be_bytes}
use Rattle.std.proofs.lemmas.Bool.{ltb-false, le-ltb, eqb-true}
use Rattle.std.proofs.lemmas.List.{take_at, drop_at, take-append-drop, length-append, length-take, nil_from_length, append_assoc, append-nil}
use Rattle.std.proofs.lemmas.Nat.{be_bytes_2, be_bytes_4, be_bytes_8, from_be_bytes-to_be_bytes_2, from_be_bytes-to_be_bytes_4, from_be_bytes-to_be_bytes_8}
use Rattle.cns_movements.proofs.BytesLemmas.{IsBytes, IsBytes-drop, IsBytes-take}
use Rattle.cns_records.specs.declared.bad_record.BadRecord.{BadRecord}
use Rattle.cns_ids.specs.Steps.{◌>>=◌}
use Rattle.cns_records.specs.Fields.{bad, Reader, ◌&◌, made, byte_at, number_at, text_at, tested, tested_at, whole, one_of, one_of_at}

-- ---- bytes

IsBytes-rest : (b : ℕ) (bytes : List ℕ) → IsBytes (b ∷ bytes) → IsBytes bytes
IsBytes-rest b bytes h i = h (suc i)

-- ---- steps of reading

pub bind_ok : {A B : Type 0} (r : Result A BadRecord) (f : A → Result B BadRecord) (y : B) → (r >>= f) ≡ Ok y → (x : A) × (r ≡ Ok x) × (f x ≡ Ok y)
bind_ok (Ok x) f y e = (x, refl, e)
bind_ok (Err d) f y e = absurd cc

-- what was read, where something was
pub ok_value : {A : Type 0} (r : Result A BadRecord) → IsOk r → (x : A) × (r ≡ Ok x)
ok_value (Ok x) ok = (x, refl)
ok_value (Err e) ok = absurd cc

pub tested_ok : {A : Type 0} (b : Bool) (x y : A) → tested b x ≡ Ok y → (b ≡ true) × (x ≡ y)
tested_ok true x y e = (refl, cc)
tested_ok false x y e = absurd cc

-- a test that did not fail
pub guard_ok : {A : Type 0} (b : Bool) (x y : A) → cond b (bad) (Ok x) ≡ Ok y → (b ≡ false) × (x ≡ y)
guard_ok true x y e = absurd cc
guard_ok false x y e = (refl, cc)

-- which way a test went
pub chosen : {A : Type 0} (b : Bool) (x y z : A) → cond b x y ≡ z → ((b ≡ true) × (x ≡ z)) ⊎ ((b ≡ false) × (y ≡ z))
chosen true x y z e = inl (refl, e)
chosen false x y z e = inr (refl, e)

abbrev pub done : {A : Type 0} → A → Result A BadRecord
done x = Ok x

pub ok_is : {A : Type 0} (x y : A) → done x ≡ done y → x ≡ y
ok_is x y e = cc

pub whole_ok : {A : Type 0} (rest : List ℕ) (x y : A) → whole rest x ≡ Ok y → (rest ≡ []) × (x ≡ y)
whole_ok rest x y e =
    let t = tested_ok (length rest == 0) x y e in
    (nil_from_length rest (eqb-true _ _ t.0), t.1)

-- what a reader took from the front
pub record Takes (bytes text rest : List ℕ) : Type 0 where
  pub parts : bytes ≡ text ++ rest
  pub rest_fits : IsBytes rest

-- a field: how it is read, how it is written, and which values it has
pub record IsField {A : Type 0} (read : Reader A) (bytes_of : A → List ℕ) (Fits : A → Type 0) : Type 0 where
  pub takes : (bytes : List ℕ) (x : A × List ℕ) → IsBytes bytes → read bytes ≡ Ok x → Takes bytes (bytes_of x.0) x.1 × Fits x.0
  pub again : (x : A) (rest : List ℕ) → Fits x → read (bytes_of x ++ rest) ≡ Ok (x, rest)

-- a field that was read, and what was read after it
pub record Step {A Y : Type 0} (bytes_of : A → List ℕ) (Fits : A → Type 0) (bytes : List ℕ) (next : A × List ℕ → Result Y BadRecord) (y : Y) : Type 0 where
  pub value : A
  pub rest : List ℕ
  pub parts : bytes ≡ bytes_of value ++ rest
  pub rest_fits : IsBytes rest
  pub fits : Fits value
  pub then : next (value, rest) ≡ Ok y

pub step : {A Y : Type 0} {read : Reader A} {bytes_of : A → List ℕ} {Fits : A → Type 0} → IsField read bytes_of Fits
    → (bytes : List ℕ) (next : A × List ℕ → Result Y BadRecord) (y : Y) → IsBytes bytes → (read bytes >>= next) ≡ Ok y → Step bytes_of Fits bytes next y
step {read = read} field bytes next y fits e =
    let b = bind_ok (read bytes) next y e in
    let t = field.takes bytes b.0 fits b.1 in
    record { value = b.0.0; rest = b.0.1; parts = t.0.parts; rest_fits = t.0.rest_fits; fits = t.1; then = b.2 }

-- one part after another
pub chain : (x : List ℕ) {a b c : List ℕ} → a ≡ x ++ b → b ≡ c → a ≡ x ++ c
chain x p q = p ∙ ap (λ (t : List ℕ). x ++ t) q

-- the last part
pub last : (x : List ℕ) {a b : List ℕ} → a ≡ x ++ b → b ≡ [] → a ≡ x
last x p q = chain x p q ∙ append-nil x

-- the last field that was written is read again
pub again_last : {A : Type 0} {read : Reader A} {bytes_of : A → List ℕ} {Fits : A → Type 0} → IsField read bytes_of Fits
    → (x : A) → Fits x → read (bytes_of x) ≡ Ok (x, [])
again_last {read = read} {bytes_of = bytes_of} field x fits = ap read (sym (append-nil (bytes_of x))) ∙ field.again x [] fits

-- ---- fields that are made of others

-- one field after another
pub both_field : {A B : Type 0} {read_a : Reader A} {read_b : Reader B} {bytes_a : A → List ℕ} {bytes_b : B → List ℕ} {FitsA : A → Type 0} {FitsB : B → Type 0}
    → IsField read_a bytes_a FitsA → IsField read_b bytes_b FitsB → IsField (read_a & read_b) (λ x. bytes_a x.0 ++ bytes_b x.1) (λ x. FitsA x.0 × FitsB x.1)
both_field {A} {B} {read_a} {read_b} {bytes_a} {bytes_b} {FitsA} {FitsB} first second = record { takes = takes; again = again } where
  takes : (bytes : List ℕ) (x : (A × B) × List ℕ) → IsBytes bytes → (read_a & read_b) bytes ≡ Ok x → Takes bytes (bytes_a x.0.0 ++ bytes_b x.0.1) x.1 × (FitsA x.0.0 × FitsB x.0.1)
  takes bytes x fits e =
      let a = step first bytes _ x fits e in
      let b = step second a.rest _ x a.rest_fits a.then in
      let parts : bytes ≡ (bytes_a a.value ++ bytes_b b.value) ++ b.rest = chain (bytes_a a.value) a.parts b.parts ∙ sym (append_assoc (bytes_a a.value) (bytes_b b.value) b.rest) in
      subst (λ (p : (A × B) × List ℕ). Takes bytes (bytes_a p.0.0 ++ bytes_b p.0.1) p.1 × (FitsA p.0.0 × FitsB p.0.1)) (ok_is ((a.value, b.value), b.rest) x b.then)
      (record { parts = parts; rest_fits = b.rest_fits }, (a.fits, b.fits))

  again : (x : A × B) (rest : List ℕ) → FitsA x.0 × FitsB x.1 → (read_a & read_b) ((bytes_a x.0 ++ bytes_b x.1) ++ rest) ≡ Ok (x, rest)
  again x rest fits = rw (append_assoc (bytes_a x.0) (bytes_b x.1) rest, first.again x.0 (bytes_b x.1 ++ rest) fits.0, second.again x.1 rest fits.1) refl

-- what is made of a field, whose parts it has
pub made_field : {A B : Type 0} {read : Reader A} {bytes_of : A → List ℕ} {Fits : A → Type 0} → IsField read bytes_of Fits → (make : A → B) (parts_of : B → A) (Is : B → Type 0)
    → ((x : A) → Fits x → (parts_of (make x) ≡ x) × Is (make x)) → ((y : B) → Is y → (make (parts_of y) ≡ y) × Fits (parts_of y)) → IsField (made read make) (λ y. bytes_of (parts_of y)) Is
made_field {A} {B} {read} {bytes_of} field make parts_of Is there back = record { takes = takes; again = again } where
  takes : (bytes : List ℕ) (y : B × List ℕ) → IsBytes bytes → made read make bytes ≡ Ok y → Takes bytes (bytes_of (parts_of y.0)) y.1 × Is y.0
  takes bytes y fits e =
      let x = step field bytes _ y fits e in
      let is = there x.value x.fits in
      subst (λ (p : B × List ℕ). Takes bytes (bytes_of (parts_of p.0)) p.1 × Is p.0) (ok_is (make x.value, x.rest) y x.then)
      (record { parts = x.parts ∙ ap (λ (v : A). bytes_of v ++ x.rest) (sym is.0); rest_fits = x.rest_fits }, is.1)

  again : (y : B) (rest : List ℕ) → Is y → made read make (bytes_of (parts_of y) ++ rest) ≡ Ok (y, rest)
  again y rest is = let b = back y is in rw (field.again (parts_of y) rest b.1, b.0) refl

-- a field that passes a test
pub tested_field : {A : Type 0} {read : Reader A} {bytes_of : A → List ℕ} {Fits : A → Type 0} → IsField read bytes_of Fits → (test : A → Bool) (Is : A → Type 0)
    → ((x : A) → Fits x → test x ≡ true → Is x) → ((x : A) → Is x → Fits x × (test x ≡ true)) → IsField (tested_at read test) bytes_of Is
tested_field {A} {read} {bytes_of} field test Is sound complete = record { takes = takes; again = again } where
  takes : (bytes : List ℕ) (x : A × List ℕ) → IsBytes bytes → tested_at read test bytes ≡ Ok x → Takes bytes (bytes_of x.0) x.1 × Is x.0
  takes bytes x fits e =
      let a = step field bytes (λ p. tested (test p.0) p) x fits e in
      let t = tested_ok (test a.value) (a.value, a.rest) x a.then in
      subst (λ (p : A × List ℕ). Takes bytes (bytes_of p.0) p.1 × Is p.0) t.1 (record { parts = a.parts; rest_fits = a.rest_fits }, sound a.value a.fits t.0)

  again : (x : A) (rest : List ℕ) → Is x → tested_at read test (bytes_of x ++ rest) ≡ Ok (x, rest)
  again x rest is = let c = complete x is in rw (field.again x rest c.0, c.1) refl

-- the same field, of which the same is said in other words
pub told_field : {A : Type 0} {read : Reader A} {bytes_of : A → List ℕ} {Fits Is : A → Type 0} → IsField read bytes_of Fits → ((x : A) → Fits x → Is x) → ((x : A) → Is x → Fits x) → IsField read bytes_of Is
told_field field there back = record {
  takes = λ bytes x fits e. let t = field.takes bytes x fits e in (t.0, there x.0 t.1);
  again = λ x rest is. field.again x rest (back x is);
}

-- the same field, whose bytes are told in other words
pub spelled_field : {A : Type 0} {read : Reader A} {bytes_of : A → List ℕ} {Fits : A → Type 0} → IsField read bytes_of Fits → (text_of : A → List ℕ) → ((x : A) → bytes_of x ≡ text_of x) → IsField read text_of Fits
spelled_field {read = read} field text_of same = record {
  takes = λ bytes x fits e. let t = field.takes bytes x fits e in (record { parts = t.0.parts ∙ ap (λ (text : List ℕ). text ++ x.1) (same x.0); rest_fits = t.0.rest_fits }, t.1);
  again = λ x rest fits. ap (λ (text : List ℕ). read (text ++ rest)) (sym (same x)) ∙ field.again x rest fits;
}

-- ---- a byte, a number, a text

pub byte_field : IsField byte_at (λ b. b ∷ []) (λ b. b < 256)
unfolding byte_at
byte_field = record { takes = takes; again = λ x rest fits. refl } where
  takes : (bytes : List ℕ) (x : ℕ × List ℕ) → IsBytes bytes → byte_at bytes ≡ Ok x → Takes bytes (x.0 ∷ []) x.1 × (x.0 < 256)
  takes [] x fits e = absurd cc
  takes (b ∷ bytes) x fits e =
      subst (λ (p : ℕ × List ℕ). Takes (b ∷ bytes) (p.0 ∷ []) p.1 × (p.0 < 256)) (ok_is (b, bytes) x e) (record { parts = refl; rest_fits = IsBytes-rest b bytes fits }, fits 0)

-- the numbers that so many bytes hold
pub record IsWide (w : Width) (limit : ℕ) : Type 0 where
  pub len : (n : ℕ) → length (to_be_bytes w n) ≡ byte_len w
  pub back : (bytes : List ℕ) → length bytes ≡ byte_len w → IsBytes bytes → to_be_bytes w (from_be_bytes w bytes) ≡ bytes
  pub again : (n : ℕ) → n < limit → from_be_bytes w (to_be_bytes w n) ≡ n
  pub below : (bytes : List ℕ) → IsBytes bytes → from_be_bytes w bytes < limit

pub wide16 : IsWide w16 (2 ^ 16)
wide16 = record {
  len = λ n. refl;
  back = λ bytes len fits. be_bytes_2 bytes _ len fits refl;
  again = λ n lt. from_be_bytes-to_be_bytes_2 n lt;
  below = λ bytes fits. omega (arith, fits 0, fits 1);
}

pub wide32 : IsWide w32 (2 ^ 32)
wide32 = record {
  len = λ n. refl;
  back = λ bytes len fits. be_bytes_4 bytes _ len fits refl;
  again = λ n lt. from_be_bytes-to_be_bytes_4 n lt;
  below = λ bytes fits. omega (arith, fits 0, fits 1, fits 2, fits 3);
}

pub wide64 : IsWide w64 (2 ^ 64)
wide64 = record {
  len = λ n. refl;
  back = λ bytes len fits. be_bytes_8 bytes _ len fits refl;
  again = λ n lt. from_be_bytes-to_be_bytes_8 n lt;
  below = λ bytes fits. omega (arith, fits 0, fits 1, fits 2, fits 3, fits 4, fits 5, fits 6, fits 7);
}

-- a text of this length
pub text_takes : (len : ℕ) (bytes : List ℕ) (x : List ℕ × List ℕ) → IsBytes bytes → text_at len bytes ≡ Ok x → Takes bytes x.0 x.1 × (length x.0 ≡ len) × IsBytes x.0
unfolding text_at
text_takes len bytes x fits e =
    let g = guard_ok (ltb (length bytes) len) (take len bytes, drop len bytes) x e in
    let long : len ≤ length bytes = ltb-false _ _ g.0 in
    subst (λ (p : List ℕ × List ℕ). Takes bytes p.0 p.1 × (length p.0 ≡ len) × IsBytes p.0) g.1
    (record { parts = sym (take-append-drop len bytes); rest_fits = IsBytes-drop len bytes fits }, omega (arith, length-take len bytes), IsBytes-take len bytes fits)

pub text_again : (len : ℕ) (text rest : List ℕ) → length text ≡ len → text_at len (text ++ rest) ≡ Ok (text, rest)
unfolding text_at
text_again len text rest is =
    let long : ltb (length (text ++ rest)) len ≡ false = le-ltb _ _ (omega (arith, length-append text rest, is)) in
    rw (long, take_at text rest len is, drop_at text rest len is) refl

pub number_field : {w : Width} {limit : ℕ} → IsWide w limit → IsField (number_at w) (to_be_bytes w) (λ n. n < limit)
unfolding number_at
number_field {w} {limit} wide = record { takes = takes; again = again } where
  takes : (bytes : List ℕ) (x : ℕ × List ℕ) → IsBytes bytes → number_at w bytes ≡ Ok x → Takes bytes (to_be_bytes w x.0) x.1 × (x.0 < limit)
  takes bytes x fits e =
      let text = bind_ok (text_at (byte_len w) bytes) _ x e in
      let t = text_takes (byte_len w) bytes text.0 fits text.1 in
      subst (λ (p : ℕ × List ℕ). Takes bytes (to_be_bytes w p.0) p.1 × (p.0 < limit)) (ok_is (from_be_bytes w text.0.0, text.0.1) x text.2)
      (record { parts = t.0.parts ∙ ap (λ (u : List ℕ). u ++ text.0.1) (sym (wide.back text.0.0 t.1 t.2)); rest_fits = t.0.rest_fits }, wide.below text.0.0 t.2)

  again : (n : ℕ) (rest : List ℕ) → n < limit → number_at w (to_be_bytes w n ++ rest) ≡ Ok (n, rest)
  again n rest lt = rw (text_again (byte_len w) (to_be_bytes w n) rest (wide.len n), wide.again n lt) refl

-- ---- one of two values

one_of_ok : {A : Type 0} (m : ℕ) (a : A) (n : ℕ) (b : A) (byte : ℕ × List ℕ) (x : A × List ℕ) → one_of m a n b byte ≡ Ok x
    → ((byte.0 ≡ m) × ((a, byte.1) ≡ x)) ⊎ ((byte.0 ≡ n) × ((b, byte.1) ≡ x))
one_of_ok m a n b byte x e = elim (chosen (byte.0 == m) (Ok (a, byte.1)) (cond (byte.0 == n) (Ok (b, byte.1)) bad) (Ok x) e) [
  | inl f ↦ inl (eqb-true _ _ f.0, ok_is (a, byte.1) x f.1)
  | inr f ↦ let t = tested_ok (byte.0 == n) (b, byte.1) x f.1 in inr (eqb-true _ _ t.0, t.1)
]

pub one_takes : {A : Type 0} (m : ℕ) (a : A) (n : ℕ) (b : A) (bytes_of : A → List ℕ) → bytes_of a ≡ m ∷ [] → bytes_of b ≡ n ∷ [] → (bytes : List ℕ) (x : A × List ℕ) → IsBytes bytes
    → (byte_at bytes >>= one_of m a n b) ≡ Ok x → Takes bytes (bytes_of x.0) x.1 × Unit {0}
one_takes {A} m a n b bytes_of of_a of_b bytes x fits e =
    let s = step byte_field bytes (one_of m a n b) x fits e in
    elim (one_of_ok m a n b (s.value, s.rest) x s.then) [
      | inl is ↦ subst (λ (p : A × List ℕ). Takes bytes (bytes_of p.0) p.1 × Unit {0}) is.1 (record { parts = s.parts ∙ ap (λ (k : ℕ). k ∷ s.rest) is.0 ∙ ap (λ (t : List ℕ). t ++ s.rest) (sym of_a); rest_fits = s.rest_fits }, tt)
      | inr is ↦ subst (λ (p : A × List ℕ). Takes bytes (bytes_of p.0) p.1 × Unit {0}) is.1 (record { parts = s.parts ∙ ap (λ (k : ℕ). k ∷ s.rest) is.0 ∙ ap (λ (t : List ℕ). t ++ s.rest) (sym of_b); rest_fits = s.rest_fits }, tt)
    ]

-- a type of two values
pub one_field : {A : Type 0} (m : ℕ) (a : A) (n : ℕ) (b : A) (bytes_of : A → List ℕ) → ((P : A → Type 0) → P a → P b → (x : A) → P x) → bytes_of a ≡ m ∷ [] → bytes_of b ≡ n ∷ []
    → ((rest : List ℕ) → one_of_at m a n b (bytes_of a ++ rest) ≡ Ok (a, rest)) → ((rest : List ℕ) → one_of_at m a n b (bytes_of b ++ rest) ≡ Ok (b, rest))
    → IsField (one_of_at m a n b) bytes_of (λ _. Unit {0})
one_field m a n b bytes_of either of_a of_b again_a again_b = record {
  takes = λ bytes x fits e. one_takes m a n b bytes_of of_a of_b bytes x fits e;
  again = λ x rest fits. either (λ y. one_of_at m a n b (bytes_of y ++ rest) ≡ Ok (y, rest)) (again_a rest) (again_b rest) x;
}
