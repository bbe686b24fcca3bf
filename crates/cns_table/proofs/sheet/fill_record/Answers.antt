use Rattle.std.proofs.Common.{[]}
use Rattle.std.proofs.lemmas.Result.{on_ok_weaker}
use Rattle.cns_table.specs.Sheet.{HasFields}
use Rattle.cns_table.proofs.sheet.fill_record.Goals as goal

pub returns : goal.returns
returns c =
    let none : HasFields c.clear.new.self [] = record { whole = c.clear.ensures.fields; none = c.clear.ensures.partial } in
    let three = c.in_ok-add-3.ensures _ (c.in_ok-add-2.ensures _ (c.in_ok-add.ensures _ none)) in
    let six = c.in_ok-add-6.ensures _ (c.in_ok-add-5.ensures _ (c.in_ok-add-4.ensures _ three)) in
    let nine = c.in_ok-add-9.ensures _ (c.in_ok-add-8.ensures _ (c.in_ok-add-7.ensures _ six)) in
    on_ok_weaker c.add-10.result (λ last.
    let all = (last _ nine).whole in
    cc (all, c.as_bytes.ensures.value, c.in_ok-fill_number.ensures, c.date.ensures, c.kind.ensures, c.name.ensures, c.as_slice.ensures.value, c.in_ok-fill_quoted.ensures, c.as_slice-2.ensures.value, c.in_ok-fill_quoted-2.ensures)) c.add-10.ensures
