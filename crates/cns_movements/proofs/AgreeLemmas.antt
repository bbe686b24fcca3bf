-- The test of whether two orders agree holds where they do, and nowhere else.
use Rattle.std.proofs.Common.{◌≡◌, true, false, Option, None, Some, refl, sym, ap, ◌∙◌, arith}
use Rattle.std.proofs.lemmas.Bool.{and_parts, eq-eqb, eqb-true, false_from_ne_true}
use Rattle.std.proofs.lemmas.Option.{none-some, same_Some}
use Rattle.cns_ids.specs.Cycle.{rank}
use Rattle.cns_ids.specs.declared.cycle.CycleId.{CycleId}
use Rattle.cns_ids.specs.declared.cycle.CycleKind.{CycleKind}
use Rattle.cns_movements.specs.Order.{AgreesWith, agrees_with, cycles_agree, same_cycle, same_kind}
use Rattle.cns_movements.specs.declared.order.MoveKind.{MoveKind}
use Rattle.cns_movements.specs.declared.order.Order.{Order}

pub same_kind-refl : (k : MoveKind) → same_kind k k ≡ true
same_kind-refl k = grind arith

same_kind-is : (a b : MoveKind) → same_kind a b ≡ true → a ≡ b
same_kind-is a b e = grind arith

-- ---- cycles

rank-is : (a b : CycleKind) → rank a ≡ rank b → a ≡ b
rank-is a b e = grind arith

same_cycle-refl : (x : CycleId) → same_cycle x x ≡ true
same_cycle-refl x = rw (eq-eqb x.day x.day refl, eq-eqb (rank x.kind) (rank x.kind) refl) refl

same_cycle-is : (x y : CycleId) → same_cycle x y ≡ true → x ≡ y
same_cycle-is x y e =
    let parts = and_parts _ _ e in
    rw (eqb-true x.day y.day parts.0, rank-is x.kind y.kind (eqb-true (rank x.kind) (rank y.kind) parts.1)) refl

-- cycles that both are there are the same
cycles_agree-is : (a b : Option CycleId) → cycles_agree a b ≡ true → (x y : CycleId) → a ≡ Some x → b ≡ Some y → x ≡ y
cycles_agree-is (Some u) (Some v) e x y is_x is_y = sym (same_Some u x is_x) ∙ same_cycle-is u v e ∙ same_Some v y is_y
cycles_agree-is (Some u) None e x y is_x is_y = absurd (none-some y is_y)
cycles_agree-is None b e x y is_x is_y = absurd (none-some x is_x)

cycles_agree-holds : (a b : Option CycleId) → ((x y : CycleId) → a ≡ Some x → b ≡ Some y → x ≡ y) → cycles_agree a b ≡ true
cycles_agree-holds (Some u) (Some v) same = ap (same_cycle u) (sym (same u v refl refl)) ∙ same_cycle-refl u
cycles_agree-holds (Some u) None same = refl
cycles_agree-holds None b same = refl

-- ---- orders

-- orders that agree have the same number, kind, member, issue and asked shares
pub record SameFields (a b : Order) : Type 0 where
  pub number : a.number ≡ b.number
  pub kind : a.kind ≡ b.kind
  pub member : a.member ≡ b.member
  pub issue : a.issue ≡ b.issue
  pub asked : a.asked ≡ b.asked

pub agree_fields : (a b : Order) → AgreesWith a b → SameFields a b
agree_fields a b agree = record {
  number = ap (λ (o : Order). o.number) agree.same;
  kind = ap (λ (o : Order). o.kind) agree.same;
  member = ap (λ (o : Order). o.member) agree.same;
  issue = ap (λ (o : Order). o.issue) agree.same;
  asked = ap (λ (o : Order). o.asked) agree.same;
}

-- orders that pass the test agree
pub agrees_with-is : (a b : Order) → agrees_with a b ≡ true → AgreesWith a b
agrees_with-is a b e =
    let one = and_parts _ _ e in
    let two = and_parts _ _ one.1 in
    let three = and_parts _ _ two.1 in
    let four = and_parts _ _ three.1 in
    let five = and_parts _ _ four.1 in
    record {
      same = rw (eqb-true a.number b.number one.0, same_kind-is a.kind b.kind two.0, eqb-true a.member b.member three.0, eqb-true a.issue b.issue four.0, eqb-true a.asked b.asked five.0) refl;
      cycles = cycles_agree-is a.cycle b.cycle five.1;
    }

-- orders that agree pass it
pub agrees_with-holds : (a b : Order) → AgreesWith a b → agrees_with a b ≡ true
agrees_with-holds a b agree =
    let f = agree_fields a b agree in
    rw (eq-eqb a.number b.number f.number, ap (same_kind a.kind) (sym f.kind) ∙ same_kind-refl a.kind, eq-eqb a.member b.member f.member, eq-eqb a.issue b.issue f.issue, eq-eqb a.asked b.asked f.asked)
    (cycles_agree-holds a.cycle b.cycle agree.cycles)

-- others do not
pub agrees_with-differ : (a b : Order) → (AgreesWith a b → ⊥) → agrees_with a b ≡ false
agrees_with-differ a b isnt = false_from_ne_true (agrees_with a b) (λ e. isnt (agrees_with-is a b e))

-- an order agrees with itself
pub agrees-refl : (o : Order) → AgreesWith o o
agrees-refl o = record { same = refl; cycles = λ x y is_x is_y. same_Some x y (sym is_x ∙ is_y) }
