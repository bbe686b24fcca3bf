use Rattle.std.proofs.Common.{◌≡◌, ◌≤◌, ◌-◌, ◌++◌, true, length, drop, map, vec_items}
use Rattle.cns_journal.specs.Disk.{OnlyReads}
use Rattle.cns_journal.specs.Layout.{journal_of, size_of}
use Rattle.cns_journal.proofs.record_file.read_records.Given as goal

abbrev pub invariant-records : goal.invariant-records
invariant-records g l = record {
  within : l.end ≤ l.len;
  count : length l.payloads.items ≤ l.end;
  size : size_of (map vec_items l.payloads.items) ≡ l.end;
  honest : g.D.Disk.honest l.disk ≡ g.D.Disk.honest l.fn.disk;
  failures : g.D.Disk.failures l.disk ≡ g.D.Disk.failures l.fn.disk;
  reads : g.D.Disk.honest l.fn.disk ≡ true → OnlyReads g.D.Disk.seen g.D.Disk.images g.D.Disk.moment g.D.Disk.left_since l.fn.disk l.disk;
  len : g.D.Disk.honest l.fn.disk ≡ true → l.len ≡ length (g.D.Disk.seen l.fn.disk);
  so_far : g.D.Disk.honest l.fn.disk ≡ true → map vec_items l.payloads.items ++ journal_of (drop l.end (g.D.Disk.seen l.fn.disk)) ≡ journal_of (g.D.Disk.seen l.fn.disk);
}

abbrev pub decreases-records : goal.decreases-records
decreases-records g l = l.len - l.end
