-- Frames: what is read would be written as just the bytes that were read.
use Rattle.std.proofs.Common.{◌≡◌, ℕ, ◌+◌, Bool, true, false, cond, not, eqb, ltb, List, [], ◌∷◌, ◌++◌, length, take, drop, refl, arith, Option, Some, None}
use Rattle.std.specs.Prelude.{Result, Ok, Err, IfOk, codes, slice_index, ◌==◌}
use Rattle.std.specs.List.{starts_with}
use Rattle.std.specs.Option.{ok_or}
use Rattle.std.proofs.lemmas.Bool.{cond_both, and_parts, ltb-false, eqb-true, not-false}
use Rattle.std.proofs.lemmas.List.{length-drop, take-append-drop}
use Rattle.cns_ids.specs.Steps.{◌>>=◌}
use Rattle.cns_movements.specs.Fields.{order_bytes, order_size, read_order, read_reply, reply_bytes, version_byte, version_of, version_of_byte}
use Rattle.cns_movements.specs.declared.order.MoveKind.{MoveKind}
use Rattle.cns_movements.specs.declared.order.MoveKind.TheVariants.{Cover, Delivery}
use Rattle.cns_movements.specs.declared.order.Order.{Order}
use Rattle.cns_movements.specs.declared.order.Reply.{Reply}
use Rattle.cns_movements.specs.declared.version.Version.{Version}
use Rattle.cns_movements.specs.declared.version.Version.TheVariants.{One, Two}
use Rattle.cns_movements.proofs.BytesLemmas.{IsBytes, IsBytes-drop}
use Rattle.cns_movements.proofs.FieldLemmas.{read_order-spelled, read_reply-spelled, version_spelled}
use Rattle.cns_wire.specs.declared.frame.Frame.{Frame}
use Rattle.cns_wire.specs.declared.frame.Frame.TheVariants as frame
use Rattle.cns_wire.specs.declared.frame.FrameFault.{FrameFault}
use Rattle.cns_wire.specs.declared.frame.FrameFault.TheVariants.{Short, Long, Field}
use Rattle.cns_wire.specs.Frame.{header, kind_byte, order_frame, reply_frame, IsFrame}
use Rattle.cns_wire.specs.ReadFrame.{fields_of, of_kind, of_version, order_in, reply_in, reply_of, as_order_frame, as_reply_frame, read_frame_of}

-- ---- fields

-- fields that were read
record HasFields {A : Type 0} (size : ℕ) (bytes : List ℕ) (read : List ℕ → Option A) (x : A) : Type 0 where
  size_is : length (drop 4 bytes) ≡ size
  read_is : read (drop 4 bytes) ≡ Some x

taken : {A : Type 0} (r : Option A) (x : A) → ok_or r Field ≡ Ok x → r ≡ Some x
taken None x e = absurd cc
taken (Some y) x e = cc

fields_read : {A : Type 0} (size : ℕ) (bytes : List ℕ) (read : List ℕ → Option A) (x : A) → (fields_of size bytes >>= λ fields. ok_or (read fields) Field) ≡ Ok x → HasFields size bytes read x
fields_read {A} size bytes read x e = by (ltb (length bytes) (4 + size)) (ltb (4 + size) (length bytes)) refl refl e
  where
    by : (short long : Bool) → ltb (length bytes) (4 + size) ≡ short → ltb (4 + size) (length bytes) ≡ long
        → ((cond short (Err Short) (cond long (Err Long) (Ok (drop 4 bytes)))) >>= λ fields. ok_or (read fields) Field) ≡ Ok x → HasFields size bytes read x
    by true long s l e = absurd cc
    by false true s l e = absurd cc
    by false false s l e = record {
      size_is = omega (arith, length-drop 4 bytes, ltb-false (length bytes) (4 + size) s, ltb-false (4 + size) (length bytes) l);
      read_is = taken (read (drop 4 bytes)) x e;
    }

-- a header and what stands behind it
whole : (bytes header fields : List ℕ) → take 4 bytes ≡ header → fields ≡ drop 4 bytes → header ++ fields ≡ bytes
whole bytes header fields e f = rw (f, ← e) (take-append-drop 4 bytes)

order_spelled : (version : Version) (kind : MoveKind) (bytes : List ℕ) (o : Order) → IsBytes bytes → take 4 bytes ≡ header version (kind_byte kind) → order_in version kind bytes ≡ Ok o
    → IsFrame bytes (frame.Order o)
unfolding order_in order_frame
order_spelled version kind bytes o h head e =
    let f = fields_read (order_size version) bytes (read_order version kind) o e in
    let is = read_order-spelled version kind (drop 4 bytes) o f.size_is (IsBytes-drop 4 bytes h) f.read_is in
    record { text = whole bytes (header (version_of o) (kind_byte o.kind)) (order_bytes o) (rw (is.version_is, is.kind_is) head) is.text; in_range = is.in_range }

reply_spelled : (bytes : List ℕ) (r : Reply) → IsBytes bytes → take 4 bytes ≡ header One 3 → reply_in bytes ≡ Ok r → IsFrame bytes (frame.Reply r)
unfolding reply_in reply_frame
reply_spelled bytes r h head e =
    let f = fields_read 16 bytes read_reply r e in
    let is = read_reply-spelled (drop 4 bytes) r f.size_is (IsBytes-drop 4 bytes h) f.read_is in
    record { text = whole bytes (header One 3) (reply_bytes r) head is.text; in_range = is.in_range }

-- ---- frames

-- the first four bytes that were read
header_is : (bytes : List ℕ) (v : Version) (k : ℕ) → ltb (length bytes) 4 ≡ false → starts_with ◌==◌ bytes (codes "CD") ≡ true
    → version_byte v ≡ slice_index bytes 2 → (slice_index bytes 3 == k) ≡ true → take 4 bytes ≡ header v k
header_is [] v k long magic version kind = absurd cc
header_is (a ∷ []) v k long magic version kind = absurd cc
header_is (a ∷ b ∷ []) v k long magic version kind = absurd cc
header_is (a ∷ b ∷ w ∷ []) v k long magic version kind = absurd cc
header_is (a ∷ b ∷ w ∷ c ∷ rest) v k long magic version kind =
    let first = and_parts (eqb 67 a) _ magic in
    let second = and_parts (eqb 68 b) _ first.1 in
    rw (← eqb-true 67 a first.0, ← eqb-true 68 b second.0, version, eqb-true c k kind) refl

of_order : (bytes : List ℕ) (r : Result Order FrameFault) → ((o : Order) → r ≡ Ok o → IsFrame bytes (frame.Order o)) → IfOk (as_order_frame r) (IsFrame bytes)
of_order bytes (Ok o) h = h o refl
of_order bytes (Err fault) h = tt

of_reply : (bytes : List ℕ) (r : Result Reply FrameFault) → ((o : Reply) → r ≡ Ok o → IsFrame bytes (frame.Reply o)) → IfOk (as_reply_frame r) (IsFrame bytes)
of_reply bytes (Ok o) h = h o refl
of_reply bytes (Err fault) h = tt

-- what is read of bytes with a header is their frame
kind_spelled : (version : Version) (bytes : List ℕ) → IsBytes bytes → ((k : ℕ) → (slice_index bytes 3 == k) ≡ true → take 4 bytes ≡ header version k)
    → IfOk (of_kind version (slice_index bytes 3) bytes) (IsFrame bytes)
kind_spelled version bytes h head =
    let P = λ (r : Result Frame FrameFault). IfOk r (IsFrame bytes) in
    let kind = slice_index bytes 3 in
    cond_both (kind == 1) _ _ P
    (λ one. of_order bytes (order_in version Cover bytes) (λ o e. order_spelled version Cover bytes o h (head 1 one) e))
    (λ _. cond_both (kind == 2) _ _ P
    (λ two. of_order bytes (order_in version Delivery bytes) (λ o e. order_spelled version Delivery bytes o h (head 2 two) e))
    (λ _. cond_both (kind == 3) _ _ P
    (λ three. replies version (head 3 three))
    (λ _. tt)))
  where
    replies : (v : Version) → take 4 bytes ≡ header v 3 → IfOk (reply_of v bytes) (IsFrame bytes)
    replies One is = of_reply bytes (reply_in bytes) (λ o e. reply_spelled bytes o h is e)
    replies Two is = tt

-- what is read of bytes is the frame that they spell
pub read_frame_of-spelled : (bytes : List ℕ) → IsBytes bytes → IfOk (read_frame_of bytes) (IsFrame bytes)
unfolding read_frame_of
read_frame_of-spelled bytes h =
    let P = λ (r : Result Frame FrameFault). IfOk r (IsFrame bytes) in
    cond_both (ltb (length bytes) 4) _ _ P (λ _. tt)
    (λ long. cond_both (not (starts_with ◌==◌ bytes (codes "CD"))) _ _ P (λ _. tt)
    (λ magic. by (version_of_byte (slice_index bytes 2)) (λ v is. version_spelled (slice_index bytes 2) v is) long (not-false _ magic)))
  where
    by : (version : Option Version) → ((v : Version) → version ≡ Some v → version_byte v ≡ slice_index bytes 2) → ltb (length bytes) 4 ≡ false → starts_with ◌==◌ bytes (codes "CD") ≡ true
        → IfOk (of_version version bytes) (IsFrame bytes)
    by None spelled long magic = tt
    by (Some v) spelled long magic = kind_spelled v bytes h (λ k is. header_is bytes v k long magic (spelled v refl) is)
