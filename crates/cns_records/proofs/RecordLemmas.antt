-- A record whose payload is the version, its kind and its fields: what is read is spelled so, and what is spelled so is read.
use Rattle.std.proofs.Common.{◌≡◌, ℕ, suc, List, [], ◌∷◌, ◌++◌, Option, Some, None, Result, Ok, refl, sym, ap, subst, ◌∙◌, inl, inr}
use Rattle.std.specs.Prelude.{◌==◌, if◌then◌else◌}
use Rattle.std.proofs.lemmas.Bool.{eqb-true}
use Rattle.cns_movements.specs.Fields.{version_byte, version_of_byte}
use Rattle.cns_movements.specs.declared.version.Version.{Version}
use Rattle.cns_movements.proofs.BytesLemmas.{IsBytes}
use Rattle.cns_movements.proofs.FieldLemmas.{version_back, version_spelled}
use Rattle.cns_records.specs.declared.bad_record.BadRecord.{BadRecord}
use Rattle.cns_records.specs.Fields.{bad, Reader, made, whole_at, payload_of_version, payload_as}
use Rattle.cns_records.proofs.FieldLemmas.{bind_ok, chosen, whole_ok, ok_is, IsField, step, last, again_last}

-- the bytes after version and kind
abbrev pub after_kind : List ℕ → List ℕ
after_kind (version ∷ kind ∷ fields) = fields
after_kind _ = []

-- the bytes after this version and kind are those of the record, which has a payload
abbrev pub Spells : {R : Type 0} → (R → List ℕ) → (R → Type 0) → Version → ℕ → List ℕ → R → Type 0
Spells spelling HasPayload version kind fields r = (spelling r ≡ version_byte version ∷ kind ∷ fields) × HasPayload r

-- a kind of records: how its fields are read, and the record that is made of them
pub record IsKind {A R : Type 0} (spelling : R → List ℕ) (HasPayload : R → Type 0) (version : Version) (kind : ℕ) (read : Reader A) (make : A → R) : Type 0 where
  pub fields : IsField read (λ x. after_kind (spelling (make x))) (λ x. HasPayload (make x))
  pub spelled : (x : A) → HasPayload (make x) → spelling (make x) ≡ version_byte version ∷ kind ∷ after_kind (spelling (make x))

-- what is read of records of this kind is spelled so
pub record IsOfKind {R : Type 0} (spelling : R → List ℕ) (HasPayload : R → Type 0) (version : Version) (kind : ℕ) (read : Reader R) : Type 0 where
  pub takes : (bytes : List ℕ) (x : R × List ℕ) → IsBytes bytes → read bytes ≡ Ok x → (text : List ℕ) × (bytes ≡ text ++ x.1) × Spells spelling HasPayload version kind text x.0

pub of_kind : {A R : Type 0} {spelling : R → List ℕ} {HasPayload : R → Type 0} {version : Version} {kind : ℕ} {read : Reader A} {make : A → R} → IsKind spelling HasPayload version kind read make
    → IsOfKind spelling HasPayload version kind (made read make)
of_kind {R = R} {spelling = spelling} {HasPayload = HasPayload} {version = version} {kind = kind} {read = read} {make = make} is = record { takes = takes } where
  takes : (bytes : List ℕ) (x : R × List ℕ) → IsBytes bytes → made read make bytes ≡ Ok x → (text : List ℕ) × (bytes ≡ text ++ x.1) × Spells spelling HasPayload version kind text x.0
  takes bytes x fits e =
      let a = step is.fields bytes _ x fits e in
      subst (λ (p : R × List ℕ). (text : List ℕ) × (bytes ≡ text ++ p.1) × Spells spelling HasPayload version kind text p.0) (ok_is (make a.value, a.rest) x a.then)
      (after_kind (spelling (make a.value)), a.parts, (is.spelled a.value a.fits, a.fits))

-- records of no kind
pub no_kind : {R : Type 0} {spelling : R → List ℕ} {HasPayload : R → Type 0} {version : Version} {kind : ℕ} → IsOfKind spelling HasPayload version kind (λ bytes. bad)
no_kind = record { takes = λ bytes x fits e. absurd cc }

-- records of this kind, or of others
pub or_kind : {R : Type 0} {spelling : R → List ℕ} {HasPayload : R → Type 0} {version : Version} {kind : ℕ} {first others : Reader R} (n : ℕ) → IsOfKind spelling HasPayload version n first → IsOfKind spelling HasPayload version kind others
    → IsOfKind spelling HasPayload version kind (λ bytes. if kind == n then first bytes else others bytes)
or_kind {R = R} {spelling = spelling} {HasPayload = HasPayload} {version = version} {kind = kind} {first = first} {others = others} n one more = record { takes = takes } where
  takes : (bytes : List ℕ) (x : R × List ℕ) → IsBytes bytes → (if kind == n then first bytes else others bytes) ≡ Ok x
      → (text : List ℕ) × (bytes ≡ text ++ x.1) × Spells spelling HasPayload version kind text x.0
  takes bytes x fits e = elim (chosen (kind == n) (first bytes) (others bytes) (Ok x) e) [
    | inl f ↦ subst (λ (k : ℕ). (text : List ℕ) × (bytes ≡ text ++ x.1) × Spells spelling HasPayload version k text x.0) (sym (eqb-true kind n f.0)) (one.takes bytes x fits f.1)
    | inr f ↦ more.takes bytes x fits f.1
  ]

-- a record that is the whole of the bytes
pub whole_takes : {R : Type 0} {spelling : R → List ℕ} {HasPayload : R → Type 0} {version : Version} {kind : ℕ} {read : Reader R} → IsOfKind spelling HasPayload version kind read
    → (bytes : List ℕ) (r : R) → IsBytes bytes → whole_at read bytes ≡ Ok r → Spells spelling HasPayload version kind bytes r
whole_takes {spelling = spelling} {HasPayload = HasPayload} {version = version} {kind = kind} {read = read} is bytes r fits e =
    let x = bind_ok (read bytes) _ r e in
    let t = is.takes bytes x.0 fits x.1 in
    let end = whole_ok x.0.1 x.0.0 r x.2 in
    subst (Spells spelling HasPayload version kind bytes) end.1 (subst (λ (text : List ℕ). Spells spelling HasPayload version kind text x.0.0) (sym (last t.0 t.1 end.0)) t.2)

pub whole_again : {A R : Type 0} {spelling : R → List ℕ} {HasPayload : R → Type 0} {version : Version} {kind : ℕ} {read : Reader A} {make : A → R} → IsKind spelling HasPayload version kind read make
    → (x : A) → HasPayload (make x) → whole_at (made read make) (after_kind (spelling (make x))) ≡ Ok (make x)
whole_again is x fits = rw (again_last is.fields x fits) refl

-- a payload of this version is what the bytes of its kind are
pub payload_of : {R : Type 0} (of : Version → ℕ → List ℕ → Result R BadRecord) (version : Version) (kind : ℕ) (fields : List ℕ)
    → payload_as of (version_byte version ∷ kind ∷ fields) ≡ of version kind fields
payload_of of version kind fields = ap (λ (v : Option Version). payload_of_version of v kind fields) (version_back version)

-- bytes that are read as a record are its payload
pub payload_takes : {R : Type 0} (spelling : R → List ℕ) (HasPayload : R → Type 0) (of : Version → ℕ → List ℕ → Result R BadRecord)
    → ((version : Version) (kind : ℕ) (bytes : List ℕ) (r : R) → IsBytes bytes → of version kind bytes ≡ Ok r → Spells spelling HasPayload version kind bytes r)
    → (bytes : List ℕ) (r : R) → IsBytes bytes → payload_as of bytes ≡ Ok r → (spelling r ≡ bytes) × HasPayload r
payload_takes spelling HasPayload of takes [] r fits e = absurd cc
payload_takes spelling HasPayload of takes (v ∷ []) r fits e = absurd cc
payload_takes {R} spelling HasPayload of takes (v ∷ k ∷ bytes) r fits e = by (version_of_byte v) refl e
  where
    by : (version : Option Version) → version_of_byte v ≡ version → payload_of_version of version k bytes ≡ Ok r → (spelling r ≡ v ∷ k ∷ bytes) × HasPayload r
    by None is e = absurd cc
    by (Some version) is e =
        let s = takes version k bytes r (λ i. fits (suc (suc i))) e in
        (s.0 ∙ ap (λ (n : ℕ). n ∷ k ∷ bytes) (version_spelled v version is), s.1)
