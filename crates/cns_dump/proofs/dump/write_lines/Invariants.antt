use Rattle.std.proofs.Common.{◌≡◌}
use Rattle.std.specs.Prelude.{◌&&◌}
use Rattle.std.specs.List.{list_all}
use Rattle.cns_journal.specs.Layout.{journal_of}
use Rattle.cns_file.specs.Records.{payloads_left}
use Rattle.cns_dump.specs.Entry.{is_entry}
use Rattle.cns_dump.proofs.dump.write_lines.Given as goal

abbrev pub invariant-loop-payload : goal.invariant-loop-payload
invariant-loop-payload g l = (l.good && list_all is_entry (payloads_left l.payload-iterator)) ≡ list_all is_entry (journal_of l.file)
