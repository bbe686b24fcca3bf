use Rattle.std.proofs.Common.{◌≡◌, arith}
use Rattle.cns_depository.specs.declared.account.Account.TheVariants.{Member}
use Rattle.cns_depository.specs.Balances.{balance_row}
use Rattle.cns_depository.specs.Openings.{opening_shares}
use Rattle.cns_depository.specs.Stock.{balance_of}
use Rattle.cns_depository.proofs.balances.add_opening.Goals as goal

pub returns : goal.returns
unfolding balance_row
returns c = λ openings p are opens.
    let o = c.args.opening.now in
    let shares : c.from-opened.result ≡ opening_shares openings (Member o.member) o.issue = omega (arith, c.from-opened.ensures, c.count.ensures.value, opens) in
    let balance : c.balance_from-shares.result ≡ balance_of openings p (Member o.member) o.issue =
    c.balance_from-shares.ensures openings p are shares (omega (arith, c.from-opened.ensures, c.count.ensures.value, c.count.ensures.range)) in
    rw balance at c.add_row.ensures
