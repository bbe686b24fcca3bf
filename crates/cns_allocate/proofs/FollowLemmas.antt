-- Tickets that follow a plan by start.
use Rattle.std.proofs.Common.{◌≡◌, ℕ, ◌≤◌, Bool, true, false, List, [], ◌∷◌, ◌++◌, length, get_or, refl, subst, ap, ◌∙◌, arith, append_assoc}
use Rattle.std.specs.Prelude.{nat_lt, All, AllPairs, IsPermutation, insert}
use Rattle.std.specs.List.{AllZip, prefix_len}
use Rattle.std.specs.List.Sorted.{IsNonDecreasingBy}
use Rattle.std.proofs.lemmas.Bool.{ltb-false, ltb-true}
use Rattle.std.proofs.lemmas.List.{append-nil, nil_from_length}
use Rattle.std.proofs.lemmas.List.Elements.{All-weaker}
use Rattle.std.proofs.lemmas.List.Sorted.{All-permutation, IsNonDecreasingBy-insert, IsPermutation-append, IsPermutation-append_left, IsPermutation-cons, IsPermutation-insert, IsPermutation-refl, IsPermutation-sym, IsPermutation-trans, length_permutation}
use Rattle.std.proofs.lemmas.List.Sums.{prefix_len-le-length, prefix_len_passes, prefix_len_stops}
use Rattle.cns_ids.proofs.ListLemmas.{AllPairs-append_by, AllZip-append, AllZip-insert, IsNonDecreasingBy-append}
use Rattle.cns_pool.specs.declared.ticket.Ticket.{Ticket}
use Rattle.cns_allocate.specs.Group.{rank}
use Rattle.cns_allocate.specs.Served.{AreDrawnOf, IsDrawnBy}
use Rattle.cns_allocate.specs.Serving.{FollowPlanByStart}
use Rattle.cns_allocate.specs.declared.planned.Planned.{Planned}
use Rattle.cns_allocate.proofs.DrawnLemmas.{drawn-count, drawn-none, drawn-permutation}
use Rattle.cns_allocate.proofs.PlanLemmas.{IsNoLater, one_group}

-- ---- tickets by start

-- tickets that some of the planned drew, by start
record AreByStart (planned : List Planned) (tickets : List Ticket) : Type 0 where
  sorted : List Ticket
  permutation : IsPermutation tickets sorted
  by_start : IsNonDecreasingBy (λ (t : Ticket). t.start) sorted
  by : AreDrawnOf planned sorted

-- one ticket more finds its place among them
put : (planned : List Planned) (ts : List Ticket) (p : Planned) (t : Ticket) → IsDrawnBy t p → AreByStart planned ts → AreByStart (p ∷ planned) (t ∷ ts)
put planned ts p t is before = record {
  sorted = insert sorted place t;
  permutation =
      IsPermutation-trans (t ∷ ts) (t ∷ sorted) (insert sorted place t) (IsPermutation-cons t ts sorted before.permutation) (IsPermutation-insert sorted place t);
  by_start =
      IsNonDecreasingBy-insert (λ (u : Ticket). u.start) sorted place t before.by_start within
      (λ k d below. omega (arith, ltb-true (get_or sorted k d).start t.start (prefix_len_passes is_earlier sorted k d below)))
      (λ k d from below. omega (
        arith,
        before.by_start place k d from below,
        ltb-false (get_or sorted place d).start t.start (prefix_len_stops is_earlier sorted d (omega arith)),
      ));
  by = record {
    drawers = insert drawers place p;
    others = others;
    permutation =
        IsPermutation-trans (insert drawers place p ++ others) (p ∷ (drawers ++ others)) (p ∷ planned)
        (IsPermutation-append_left others (insert drawers place p) (p ∷ drawers) (IsPermutation-sym (p ∷ drawers) (insert drawers place p) (IsPermutation-insert drawers place p)))
        (IsPermutation-cons p (drawers ++ others) planned before.by.permutation);
    drawn = AllZip-insert IsDrawnBy place t p sorted drawers within is before.by.drawn;
  };
}
  where
    sorted : List Ticket
    sorted = before.sorted

    drawers : List Planned
    drawers = before.by.drawers

    others : List Planned
    others = before.by.others

    is_earlier : Ticket → Bool
    is_earlier u = nat_lt u.start t.start

    place : ℕ
    place = prefix_len is_earlier sorted

    within : place ≤ length sorted
    within = prefix_len-le-length is_earlier sorted

-- all tickets do
sort : (ts : List Ticket) (ps others : List Planned) → AllZip IsDrawnBy ts ps → AreByStart (ps ++ others) ts
sort [] [] others drawn = record {
  sorted = [];
  permutation = IsPermutation-refl [];
  by_start = λ i j d le below. absurd (omega arith);
  by = drawn-none others;
}
sort [] (p ∷ ps) others drawn = absurd drawn
sort (t ∷ ts) [] others drawn = absurd drawn
sort (t ∷ ts) (p ∷ ps) others drawn = put (ps ++ others) ts p t drawn.0 (sort ts ps others drawn.1)

-- ---- groups

-- no ticket follows a plan that is sealed, and one of nobody
pub follow-none : (plan : List Planned) (sealed : Bool) → AllPairs IsNoLater plan → (sealed ≡ false → plan ≡ []) → FollowPlanByStart plan [] sealed
follow-none plan sealed groups whole = record {
  sorted = [];
  permutation = IsPermutation-refl [];
  by_start = λ i j d le below. absurd (omega arith);
  follows = record { drawn = drawn-none plan; groups = groups; whole = whole };
}

-- after the tickets of all those of earlier groups come those of the next group
pub follow-group : (n r : ℕ) (done group : List Planned) (ts us : List Ticket) (sealed : Bool) → All (λ (p : Planned). rank p.group ≤ r) done
    → All (λ (p : Planned). rank p.group ≡ r) group → FollowPlanByStart done ts false → All (λ (t : Ticket). t.start ≤ n) ts → AreDrawnOf group us
    → All (λ (t : Ticket). n ≤ t.start) us → (sealed ≡ false → length us ≡ length group) → FollowPlanByStart (done ++ group) (ts ++ us) sealed
follow-group n r done group ts us sealed upto same first before then after whole = record {
  sorted = first.sorted ++ now.sorted;
  permutation = IsPermutation-append ts first.sorted us now.sorted first.permutation now.permutation;
  by_start =
      IsNonDecreasingBy-append (λ (t : Ticket). t.start) n first.sorted now.sorted first.by_start (All-permutation (λ (t : Ticket). t.start ≤ n) ts first.sorted first.permutation before) now.by_start
      (All-permutation (λ (t : Ticket). n ≤ t.start) us now.sorted now.permutation after);
  follows = record {
    drawn = record {
      drawers = drawers ++ now.by.drawers;
      others = now.by.others;
      permutation = rw regrouped (IsPermutation-append drawers done rest group all_done rest_is);
      drawn = AllZip-append IsDrawnBy first.sorted now.sorted drawers now.by.drawers earlier.drawn now.by.drawn;
    };
    groups =
        rw regrouped
        (AllPairs-append_by (λ (p : Planned). rank p.group) r drawers rest (rw (← alone) first.follows.groups)
        (All-permutation (λ (p : Planned). rank p.group ≤ r) done drawers (IsPermutation-sym drawers done all_done) upto) (one_group r rest all_same)
        (All-weaker (λ (p : Planned). rank p.group ≡ r) (λ (p : Planned). r ≤ rank p.group) (λ p e. omega arith) rest all_same));
    whole = λ e. nil_from_length now.by.others (omega (arith, whole e, drawn-count group now.sorted now.by, length_permutation us now.sorted now.permutation));
  };
}
  where
    earlier : AreDrawnOf done first.sorted
    earlier = first.follows.drawn

    drawers : List Planned
    drawers = earlier.drawers

    -- all of them drew a ticket
    alone : drawers ++ earlier.others ≡ drawers
    alone = ap (λ (l : List Planned). drawers ++ l) (first.follows.whole refl) ∙ append-nil drawers

    all_done : IsPermutation drawers done
    all_done = subst (λ (l : List Planned). IsPermutation l done) alone earlier.permutation

    now : AreByStart group us
    now =
        let s = sort us then.drawers then.others then.drawn in
        record {
          sorted = s.sorted;
          permutation = s.permutation;
          by_start = s.by_start;
          by = drawn-permutation (then.drawers ++ then.others) group s.sorted then.permutation s.by;
        }

    rest : List Planned
    rest = now.by.drawers ++ now.by.others

    rest_is : IsPermutation rest group
    rest_is = now.by.permutation

    regrouped : (drawers ++ now.by.drawers) ++ now.by.others ≡ drawers ++ rest
    regrouped = append_assoc drawers now.by.drawers now.by.others

    all_same : All (λ (p : Planned). rank p.group ≡ r) rest
    all_same = All-permutation (λ (p : Planned). rank p.group ≡ r) group rest (IsPermutation-sym rest group rest_is) same

-- where later groups drew no ticket, the tickets follow the whole plan as those of a sealed lot
pub follow-rest : (r : ℕ) (done rest : List Planned) (ts : List Ticket) (sealed : Bool) → All (λ (p : Planned). rank p.group ≤ r) done
    → All (λ (p : Planned). r ≤ rank p.group) rest → AllPairs IsNoLater rest → FollowPlanByStart done ts sealed → FollowPlanByStart (done ++ rest) ts true
follow-rest r done rest ts sealed upto from pairs first =
    let by = first.follows.drawn in
    let order : List Planned = by.drawers ++ by.others in
    let regrouped = append_assoc by.drawers by.others rest in
    record {
      sorted = first.sorted;
      permutation = first.permutation;
      by_start = first.by_start;
      follows = record {
        drawn = record {
          drawers = by.drawers;
          others = by.others ++ rest;
          permutation = rw (← regrouped) (IsPermutation-append_left rest order done by.permutation);
          drawn = by.drawn;
        };
        groups =
            rw (← regrouped)
            (AllPairs-append_by (λ (p : Planned). rank p.group) r order rest first.follows.groups
            (All-permutation (λ (p : Planned). rank p.group ≤ r) done order (IsPermutation-sym order done by.permutation) upto) pairs from);
        whole = λ e. cc;
      };
    }
