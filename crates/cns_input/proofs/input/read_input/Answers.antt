use Rattle.std.proofs.Common.{arith}
use Rattle.cns_input.proofs.ReadLemmas.{given_all, given_failed, given_too_many, given_unkept, read_end}
use Rattle.cns_input.proofs.input.read_input.Goals as goal

pub returns-in-Err-clause-given : goal.returns-in-Err-clause-given
returns-in-Err-clause-given g c = given_failed _ _ _ _ c.loop-turn.invariant.0 c.in-Err.ensures.bytes (omega (arith, c.loop-turn.invariant.1))

pub returns-then-n-eq0-clause-text : goal.returns-then-n-eq0-clause-text
returns-then-n-eq0-clause-text g c =
    let r = c.in-Ok.ensures.bytes in
    read_end _ _ _ _ _ _ c.loop-turn.invariant.0 r.0 r.1 c.if-n-eq0.true (omega (arith, c.read_once.auto.buf, c.loop-turn.invariant.4))

pub returns-then-n-eq0-clause-given : goal.returns-then-n-eq0-clause-given
returns-then-n-eq0-clause-given g c =
    given_all _ _ _ _ _ _ _ c.loop-turn.invariant.0 c.in-Ok.ensures.bytes.0 c.if-n-eq0.true (omega (arith, c.loop-turn.invariant.1))

pub returns-then-n-len-clause-given : goal.returns-then-n-len-clause-given
returns-then-n-len-clause-given g c =
    given_too_many _ _ _ _ _ _ c.loop-turn.invariant.0 c.in-Ok.ensures.bytes.0 c.in-Ok.ensures.bound (omega (arith, c.len.ensures, c.if-n-len.true))

pub returns-then-is_err-clause-given : goal.returns-then-is_err-clause-given
returns-then-is_err-clause-given g c =
    given_unkept _ _ _ _ _ _ c.loop-turn.invariant.0 c.in-Ok.ensures.bytes.0 (omega (arith, c.loop-turn.invariant.1)) (omega (arith, c.len.ensures, c.if-n-len.false))
