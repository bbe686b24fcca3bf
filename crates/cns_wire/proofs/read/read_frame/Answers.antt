use Rattle.std.proofs.Common.{◌≡◌, ℕ, List, arith, sym, ap, ◌∙◌}
use Rattle.std.specs.Prelude.{Result, Ok, Err, IfOk}
use Rattle.cns_wire.specs.declared.frame.Frame.{Frame}
use Rattle.cns_wire.specs.declared.frame.FrameFault.{FrameFault}
use Rattle.cns_wire.specs.Frame.{frame_text, IsInRange, IsFrame}
use Rattle.cns_wire.specs.ReadFrame.{read_frame_of}
use Rattle.cns_wire.proofs.FrameLemmas.{read_frame_of-frame_text}
use Rattle.cns_movements.proofs.BytesLemmas.{IsBytes}
use Rattle.cns_wire.proofs.ReadLemmas.{read_frame_of-spelled}
use Rattle.cns_wire.proofs.read.read_frame.Goals as goal

-- what was read is the frame that the bytes spell
found : (bytes : List ℕ) (r : Result Frame FrameFault) → IsBytes bytes → r ≡ read_frame_of bytes → IfOk r (IsFrame bytes)
found bytes r h e = rw e (read_frame_of-spelled bytes h)

text_of : (bytes : List ℕ) (r : Result Frame FrameFault) → IfOk r (IsFrame bytes) → IfOk r (λ f. frame_text f ≡ bytes)
text_of bytes (Ok f) h = h.text
text_of bytes (Err fault) h = tt

range_of : (bytes : List ℕ) (r : Result Frame FrameFault) → IfOk r (IsFrame bytes) → IfOk r IsInRange
range_of bytes (Ok f) h = h.in_range
range_of bytes (Err fault) h = tt

pub returns-clause-spelled : goal.returns-clause-spelled
returns-clause-spelled c = text_of c.args.bytes.now _ (found c.args.bytes.now _ (λ i. omega (arith, c.type_inv.bytes i)) c.frame_in.ensures)

pub returns-clause-in_range : goal.returns-clause-in_range
returns-clause-in_range c = range_of c.args.bytes.now _ (found c.args.bytes.now _ (λ i. omega (arith, c.type_inv.bytes i)) c.frame_in.ensures)

pub returns-clause-only : goal.returns-clause-only
returns-clause-only c = λ f h. c.frame_in.ensures ∙ ap read_frame_of (sym h.text) ∙ read_frame_of-frame_text f h.in_range
