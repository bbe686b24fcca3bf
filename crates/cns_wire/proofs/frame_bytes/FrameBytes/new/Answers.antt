use Rattle.std.proofs.Common.{◌≡◌, ℕ, List, ◌++◌, length, drop, refl, ap}
use Rattle.std.specs.Prelude.{replicate}
use Rattle.std.proofs.Math.Seq.{take-append_seam}
use Rattle.std.proofs.lemmas.List.{drop-replicate}
use Rattle.cns_wire.specs.Packet.{IsStored}
use Rattle.cns_wire.proofs.frame_bytes.FrameBytes.new.Goals as goal

stored : (text new : List ℕ) → new ≡ text → IsStored (length text) (new ++ drop (length text) (replicate 36 0))
stored text new e =
    let front = take-append_seam text (drop (length text) (replicate 36 0)) in
    rw e (record {
      size = ap length front;
      rest = rw (front, drop-replicate {X = ℕ} (length text) 36 0) refl;
    })

pub invariant_of-result : goal.invariant_of-result
invariant_of-result c = stored c.args.text.now c.copy_from_slice.new.self c.copy_from_slice.ensures.after
