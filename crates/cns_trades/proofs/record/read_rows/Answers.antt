use Rattle.std.proofs.Common.{Bor, List, ℕ, ◌+◌, ◌<◌, ◌∙◌, sym, refl, ap, inl, inr, Some, ◌∷◌, [], ◌++◌, length, length-append, arith}
use Rattle.std.proofs.lemmas.Result.{err_from_is_err_and}
use Rattle.csv.specs.Reading.{Reached, default_config, strip_bom}
use Rattle.csv.specs.Records.{fields_of}
use Rattle.csv.specs.declared.parser.State.TheVariants as st
use Rattle.csv.proofs.ReadFacts.{rows-end, rows-more}
use Rattle.cns_trades.specs.Records.{under_header}
use Rattle.cns_trades.proofs.AllRead.{all_read}
use Rattle.cns_trades.proofs.RowLemmas.{not_header, tells}
use Rattle.cns_trades.proofs.record.read_rows.Goals as goal

pub loop-record-init : goal.loop-record-init
unfolding Reached under_header
loop-record-init g c =
    let fr = c.from_reader-reader.ensures in
    let f = c.flexible.ensures in
    let e = c.has_headers.ensures in
    rw c.new-rows.ensures (
      rw (f, e) at fr.trim ∙ c.new.ensures.trim,
      inr (inr (rw (f, e) at fr.has_headers, fr.headers)),
      rw (f, e) at fr.config ∙ c.new.ensures.config,
      strip_bom c.args.text.now,
      fr.source,
      [],
      (sym fr.state, refl),
      refl,
      refl,
      rw f at fr.flexible,
    )

pub loop-record-preserved : goal.loop-record-preserved
loop-record-preserved g c =
    let inv = c.loop-record.invariant in
    let read = rw c.in-Ok-true.field-0-test at (c.in-Ok-true.ensures.reads inv.0 inv.1) in
    let f = fields_of c.read_byte_record.new.row in
    let m = rows-more (λ (s : Bor (List ℕ)). Some s.now) c.loop-record.reader c.read_byte_record.new.self f default_config st.StartRecord (strip_bom c.args.text.now) inv.3 inv.5 inv.2 inv.4 inv.6 read in
    let more = length-append inv.5 (f ∷ []) in
    let some : 0 < length (inv.5 ++ f ∷ []) = omega (arith, more) in
    let took = c.in_ok-take_record-in-Ok-true.ensures.ok inv.5 inv.7 inv.8 in
    (read.3 ∙ inv.0, inl (c.in-Ok-true.ensures.ready inv.0), read.2 ∙ inv.2, m.0, m.1, inv.5 ++ f ∷ [], m.2, some, took, c.in-Ok-true.ensures.flexible ∙ inv.9)

pub returns-in_err-take_record-in-Ok-true : goal.returns-in_err-take_record-in-Ok-true
returns-in_err-take_record-in-Ok-true g c =
    let p = err_from_is_err_and c.from_residual.result c.from_residual.ensures.1 in
    let inv = c.loop-record.invariant in
    let read = rw c.in-Ok-true.field-0-test at (c.in-Ok-true.ensures.reads inv.0 inv.1) in
    let f = fields_of c.read_byte_record.new.row in
    let m = rows-more (λ (s : Bor (List ℕ)). Some s.now) c.loop-record.reader c.read_byte_record.new.self f default_config st.StartRecord (strip_bom c.args.text.now) inv.3 inv.5 inv.2 inv.4 inv.6 read in
    record {
      exact = rw (p.1, p.2) (tells _ _ (λ e.
          let h = c.in_err-take_record-in-Ok-true.ensures.err e in
          let none = rw h.0 at inv.7 in
          not_header g.R.FromRecord.is_header g.R.FromRecord.row_at (strip_bom c.args.text.now) inv.5 f _ _ none h.1 m.2));
    }

pub returns-in-Ok-false : goal.returns-in-Ok-false
returns-in-Ok-false g c =
    let inv = c.loop-record.invariant in
    let read = rw c.in-Ok-false.field-0-test at (c.in-Ok-false.ensures.reads inv.0 inv.1) in
    let end = rows-end (λ (s : Bor (List ℕ)). Some s.now) c.loop-record.reader c.read_byte_record.new.self _ default_config inv.3 inv.2 inv.4 read in
    let xs = strip_bom c.args.text.now in
    let fits : length xs < length xs + 1 = omega arith in
    let all = all_read (length xs + 1) st.StartRecord xs inv.5 c.loop-record.reader.state inv.3 refl fits inv.6 end in
    record { exact = ap (under_header g.R.FromRecord.is_header g.R.FromRecord.row_at) all ∙ inv.8 }
