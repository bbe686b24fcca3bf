-- Some of those planned drew tickets.
use Rattle.std.proofs.Common.{◌≡◌, ◌+◌, ◌≤◌, List, [], ◌∷◌, ◌++◌, length, arith, length-append}
use Rattle.std.specs.Prelude.{IsPermutation}
use Rattle.std.proofs.lemmas.List.Sorted.{IsPermutation-append, IsPermutation-cons, IsPermutation-refl, IsPermutation-trans, length_permutation}
use Rattle.cns_ids.proofs.ListLemmas.{AllZip-append, AllZip-length, IsPermutation-between}
use Rattle.cns_pool.specs.declared.ticket.Ticket.{Ticket}
use Rattle.cns_allocate.specs.Served.{AreDrawnOf, IsDrawnBy}
use Rattle.cns_allocate.specs.declared.planned.Planned.{Planned}

-- nobody drew a ticket
abbrev pub drawn-none : (ps : List Planned) → AreDrawnOf ps []
drawn-none ps = record { drawers = []; others = ps; permutation = IsPermutation-refl ps; drawn = tt }

-- one more drew a ticket
abbrev pub drawn-cons : (p : Planned) (ps : List Planned) (t : Ticket) (ts : List Ticket) → IsDrawnBy t p → AreDrawnOf ps ts → AreDrawnOf (p ∷ ps) (t ∷ ts)
drawn-cons p ps t ts is before = record {
  drawers = p ∷ before.drawers;
  others = before.others;
  permutation = IsPermutation-cons p (before.drawers ++ before.others) ps before.permutation;
  drawn = (is, before.drawn);
}

-- tickets of two lists of those planned
pub drawn-append : (ps qs : List Planned) (ts us : List Ticket) → AreDrawnOf ps ts → AreDrawnOf qs us → AreDrawnOf (ps ++ qs) (ts ++ us)
drawn-append ps qs ts us first then = record {
  drawers = first.drawers ++ then.drawers;
  others = first.others ++ then.others;
  permutation =
      IsPermutation-trans ((first.drawers ++ then.drawers) ++ (first.others ++ then.others)) ((first.drawers ++ first.others) ++ (then.drawers ++ then.others)) (ps ++ qs)
      (IsPermutation-between first.drawers then.drawers first.others then.others)
      (IsPermutation-append (first.drawers ++ first.others) ps (then.drawers ++ then.others) qs first.permutation then.permutation);
  drawn = AllZip-append IsDrawnBy ts us first.drawers then.drawers first.drawn then.drawn;
}

-- the same in another order of those planned
abbrev pub drawn-permutation : (ps qs : List Planned) (ts : List Ticket) → IsPermutation ps qs → AreDrawnOf ps ts → AreDrawnOf qs ts
drawn-permutation ps qs ts same before = record {
  drawers = before.drawers;
  others = before.others;
  permutation = IsPermutation-trans (before.drawers ++ before.others) ps qs before.permutation same;
  drawn = before.drawn;
}

-- each of those planned drew a ticket or did not
pub drawn-count : (ps : List Planned) (ts : List Ticket) → (drawn : AreDrawnOf ps ts) → length ts + length drawn.others ≡ length ps
drawn-count ps ts drawn =
    omega (
      arith,
      length_permutation (drawn.drawers ++ drawn.others) ps drawn.permutation,
      length-append drawn.drawers drawn.others,
      AllZip-length IsDrawnBy ts drawn.drawers drawn.drawn,
    )

-- no more tickets than planned
pub drawn-most : (ps : List Planned) (ts : List Ticket) → AreDrawnOf ps ts → length ts ≤ length ps
drawn-most ps ts drawn = omega (arith, drawn-count ps ts drawn)
