-- No account gives more than it has.
use Rattle.std.proofs.Common.{ℕ, ◌+◌, ◌-◌, ◌≤◌, ◌&&◌, List, [], ◌∷◌, eqb, arith, ap, ⊎_elim}
use Rattle.std.specs.Prelude.{sum_by}
use Rattle.std.proofs.lemmas.Bool.{and_parts, eqb-true, cases_Bool}
use Rattle.std.proofs.lemmas.List.Sums.{sum_by-cons}
use Rattle.cns_records.specs.declared.dep_record.DepRecord.{DepRecord}
use Rattle.cns_trades.specs.declared.opening.Opening.{Opening}
use Rattle.cns_depository.specs.declared.account.Account.{Account}
use Rattle.cns_depository.specs.declared.account.Side.TheVariants.{At}
use Rattle.cns_depository.specs.Account.{same_side}
use Rattle.cns_depository.specs.Openings.{opening_shares}
use Rattle.cns_depository.specs.Stock.{IsExecutable, IsLawfulDepot, balance_of, brought_to, moved_in, moved_out, part_in, part_out, taken_from, transfer_of}
use Rattle.cns_depository.proofs.MovementLemmas.{equal_sides, transfer_covered}

-- what a record takes out of an account is at most its balance before
part_out_le : (openings : List Opening) (p : List DepRecord) (e : DepRecord) (a : Account) (issue : ℕ) → IsExecutable openings p e
    → part_out (At a) issue (transfer_of e) ≤ balance_of openings p a issue
part_out_le openings p e a issue allowed =
    let t = transfer_of e in
    ⊎_elim (λ given.
    let both = and_parts (same_side t.giver (At a)) (eqb t.issue issue) given in
    let less = transfer_covered openings p e a allowed (equal_sides t.giver (At a) both.0) in
    let same = ap (λ (i : ℕ). balance_of openings p a i) (eqb-true t.issue issue both.1) in
    rw given (omega (arith, less, same)))
    (λ other. rw other (omega arith)) (cases_Bool (same_side t.giver (At a) && eqb t.issue issue))

-- what was moved out of an account was in it
pub moved_out_covered : (openings : List Opening) (p : List DepRecord) (a : Account) (issue : ℕ) → IsLawfulDepot openings p → moved_out p a issue ≤ opening_shares openings a issue + moved_in p a issue
unfolding brought_to taken_from balance_of
moved_out_covered openings [] a issue lawful = omega arith
moved_out_covered openings (e ∷ p) a issue lawful =
    let into : DepRecord → ℕ = λ e. part_in (At a) issue (transfer_of e) in
    let out : DepRecord → ℕ = λ e. part_out (At a) issue (transfer_of e) in
    let before : sum_by out p ≤ opening_shares openings a issue + sum_by into p = moved_out_covered openings p a issue lawful.1 in
    let part : out e ≤ (opening_shares openings a issue + sum_by into p) - sum_by out p = part_out_le openings p e a issue lawful.0 in
    omega (arith, sum_by-cons out e p, sum_by-cons into e p, before, part)
