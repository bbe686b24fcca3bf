use Rattle.std.proofs.Common.{Bor, List, ℕ, ◌≡◌, ◌+◌, ◌<◌, ◌∙◌, sym, refl, inl, inr, Some, ◌∷◌, [], ◌++◌, length, length-append, arith, subst, drop}
use Rattle.csv.specs.Reading.{Reached, default_config, strip_bom}
use Rattle.csv.specs.Records.{fields_of}
use Rattle.csv.specs.declared.parser.State.TheVariants as st
use Rattle.csv.proofs.ReadFacts.{rows-end, rows-more}
use Rattle.cns_trades.proofs.AllRead.{all_read}
use Rattle.cns_trades.specs.Records.{Fields}
use Rattle.cns_check.specs.Repeats.{KeepsRepeats, repeats_of}
use Rattle.cns_check.proofs.again.repeats_of_trades.Goals as goal

pub loop-row-init : goal.loop-row-init
unfolding Reached
loop-row-init c =
    let fr = c.from_reader-reader.ensures in
    let f = c.flexible.ensures in
    let e = c.has_headers.ensures in (
      rw (f, e) at fr.trim ∙ c.new.ensures.trim,
      inr (inr (rw (f, e) at fr.has_headers, fr.headers)),
      rw (f, e) at fr.config ∙ c.new.ensures.config,
      strip_bom c.args.text.now,
      fr.source,
      [],
      (sym fr.state, refl),
      refl,
      c.new-seen.ensures,
    )

pub loop-row-preserved : goal.loop-row-preserved
loop-row-preserved c =
    let inv = c.loop-row.invariant in
    let read = rw c.in-Ok-true.field-0-test at (c.in-Ok-true.ensures.reads inv.0 inv.1) in
    let f = fields_of c.read_byte_record.new.row in
    let m = rows-more (λ (s : Bor (List ℕ)). Some s.now) c.loop-row.reader c.read_byte_record.new.self f default_config st.StartRecord (strip_bom c.args.text.now) inv.3 inv.5 inv.2 inv.4 inv.6 read in
    let size : c.loop-row.row + 1 ≡ length (inv.5 ++ f ∷ []) = omega (arith, length-append inv.5 (f ∷ []), inv.7) in
    (read.3 ∙ inv.0, inl (c.in-Ok-true.ensures.ready inv.0), read.2 ∙ inv.2, m.0, m.1, inv.5 ++ f ∷ [], m.2, size, c.in_ok-pass-in-Ok-true.ensures inv.5 inv.7 inv.8)

pub returns-in-Ok-false : goal.returns-in-Ok-false
returns-in-Ok-false c =
    let inv = c.loop-row.invariant in
    let read = rw c.in-Ok-false.field-0-test at (c.in-Ok-false.ensures.reads inv.0 inv.1) in
    let end = rows-end (λ (s : Bor (List ℕ)). Some s.now) c.loop-row.reader c.read_byte_record.new.self _ default_config inv.3 inv.2 inv.4 read in
    let xs = strip_bom c.args.text.now in
    let fits : length xs < length xs + 1 = omega arith in
    let all = all_read (length xs + 1) st.StartRecord xs inv.5 c.loop-row.reader.state inv.3 refl fits inv.6 end in
    subst (λ (rs : List Fields). KeepsRepeats c.loop-row.seen.repeats (repeats_of (drop 1 rs))) (sym all) inv.8.repeats
