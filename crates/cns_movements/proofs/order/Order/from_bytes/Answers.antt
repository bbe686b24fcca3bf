use Rattle.std.proofs.Common.{◌≡◌, ℕ, List, Option, Some, None, arith}
use Rattle.std.specs.Prelude.{IfSome}
use Rattle.cns_movements.specs.Fields.{order_bytes, version_of}
use Rattle.cns_movements.specs.Ranges.{IsOrderInRange}
use Rattle.cns_movements.specs.declared.order.MoveKind.{MoveKind}
use Rattle.cns_movements.specs.declared.order.Order.{Order}
use Rattle.cns_movements.specs.declared.version.Version.{Version}
use Rattle.cns_movements.proofs.FieldLemmas.{IsOrderIn, order_spelled}
use Rattle.cns_movements.proofs.order.Order.from_bytes.Goals as goal

text_of : (version : Version) (kind : MoveKind) (bytes : List ℕ) (r : Option Order) → IfSome r (IsOrderIn version kind bytes) → IfSome r (λ o. order_bytes o ≡ bytes)
text_of version kind bytes None is = tt
text_of version kind bytes (Some o) is = is.text

its_version : (version : Version) (kind : MoveKind) (bytes : List ℕ) (r : Option Order) → IfSome r (IsOrderIn version kind bytes) → IfSome r (λ o. version_of o ≡ version)
its_version version kind bytes None is = tt
its_version version kind bytes (Some o) is = is.version_is

ranges_of : (version : Version) (kind : MoveKind) (bytes : List ℕ) (r : Option Order) → IfSome r (IsOrderIn version kind bytes) → IfSome r IsOrderInRange
ranges_of version kind bytes None is = tt
ranges_of version kind bytes (Some o) is = is.in_range

pub returns-clause-spelled : goal.returns-clause-spelled
returns-clause-spelled c =
    text_of _ _ _ _ (order_spelled c.args.version c.args.kind c.args.bytes.now c.order_in.result c.requires (λ i. omega (arith, c.type_inv.bytes i)) c.order_in.ensures)

pub returns-clause-version : goal.returns-clause-version
returns-clause-version c =
    its_version _ _ _ _ (order_spelled c.args.version c.args.kind c.args.bytes.now c.order_in.result c.requires (λ i. omega (arith, c.type_inv.bytes i)) c.order_in.ensures)

pub returns-clause-ranges : goal.returns-clause-ranges
returns-clause-ranges c =
    ranges_of _ _ _ _ (order_spelled c.args.version c.args.kind c.args.bytes.now c.order_in.result c.requires (λ i. omega (arith, c.type_inv.bytes i)) c.order_in.ensures)
