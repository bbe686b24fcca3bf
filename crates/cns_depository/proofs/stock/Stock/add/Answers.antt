use Rattle.std.proofs.Common.{◌∙◌, ℕ, ap, sym, arith, Some}
use Rattle.std.specs.Prelude.{if◌then◌else◌}
use Rattle.std.specs.HashMap.{get}
use Rattle.cns_depository.specs.Totals.{key_eq, key_of}
use Rattle.cns_depository.proofs.TotalLemmas.{found_more}
use Rattle.cns_depository.proofs.stock.Stock.add.Goals as goal

pub add_transfer-requires-clause-sums : goal.add_transfer-requires-clause-sums
add_transfer-requires-clause-sums c = (c.requires.stock.0, c.requires.stock.1.sums)

pub returns : goal.returns
returns c = λ p are size.
    let e = c.args.entry.now in
    record {
      sums = c.add_transfer.ensures p are.sums (omega (arith, size, c.ranges.index.fits));
      found = found_more (get key_eq c.args.self.now.indices) _ p e are.found
          (λ k. c.note.ensures k ∙ ap (λ (i : ℕ). if key_eq (key_of e) k then Some i else get key_eq c.args.self.now.indices k) (sym size));
    }
