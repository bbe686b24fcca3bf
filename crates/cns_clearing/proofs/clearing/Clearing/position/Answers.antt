use Rattle.std.proofs.Common.{rules}
use Rattle.std.specs.Int.{w128}
use Rattle.std.proofs.lemmas.Int.{to_z-of_z}
use Rattle.cns_clearing.proofs.PositionLemmas.{position_between, position_in_is}
use Rattle.cns_clearing.proofs.clearing.Clearing.position.Goals as goal
use mir.Val.{SFits}

pub returns-clause-value : goal.returns-clause-value
returns-clause-value g c =
    let fits : SFits w128 c.position.result = search rules in
    let law = position_in_is c.args.self.now.log.records c.args.member c.args.issue c.books.ensures.lawful in
    rw (to_z-of_z w128 c.position.result fits, c.position.ensures.value, c.book.ensures, c.books.ensures.books) law

pub returns-clause-bounds : goal.returns-clause-bounds
returns-clause-bounds g c =
    let fits : SFits w128 c.position.result = search rules in
    let law = position_between c.args.self.now.log.records c.args.member c.args.issue c.books.ensures.lawful in
    rw (to_z-of_z w128 c.position.result fits, c.position.ensures.value, c.book.ensures, c.books.ensures.books) law
