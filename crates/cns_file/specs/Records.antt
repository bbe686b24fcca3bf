-- The records of a journal's file that are left (this project's own rules).
use Rattle.std.specs.Prelude.{ℕ, List}
use Rattle.cns_journal.specs.Layout.{journal_of}
use Rattle.cns_file.specs.declared.records.FileRecords.{FileRecords}

-- their payloads, the next one first
abbrev pub payloads_left : FileRecords → List (List ℕ)
payloads_left records = journal_of records.rest.now
