use Rattle.std.proofs.Common.{◌≡◌, ◌≤◌, ◌+◌, vec_len, length}
use Rattle.std.specs.Io.KnownBytes.{Consumes}
use Rattle.cns_input.proofs.input.read_input.Given as goal

abbrev pub invariant-loop-turn : goal.invariant-loop-turn
invariant-loop-turn g l = (Consumes (g.R.Read.remaining l.fn.reader) (g.R.Read.remaining l.reader) l.text.items) × (vec_len l.text ≤ 67108864) × (l.turn ≤ vec_len l.text) × (l.steps ≡ l.fn.steps + l.turn) × (length l.buf ≡ 8192)
