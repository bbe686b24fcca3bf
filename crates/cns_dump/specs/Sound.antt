-- Whether all of a journal's file is what a journal leaves (this project's own rule).
use Rattle.std.specs.Prelude.{ℕ, Bool, true, false, ◌&&◌, List}
use Rattle.std.specs.List.{list_all}
use Rattle.cns_journal.specs.Layout.{journal_of}
use Rattle.cns_journal.specs.Tail.{behind_records}
use Rattle.cns_file.specs.Tail.{tail_kind}
use Rattle.cns_file.specs.declared.tail.Tail.{Tail}
use Rattle.cns_file.specs.declared.tail.Tail.TheVariants.{Nothing, Crash, Damage}
use Rattle.cns_dump.specs.Entry.{is_entry}

abbrev pub is_no_damage : Tail → Bool
is_no_damage = elim [ Nothing ↦ true | Crash ↦ true | Damage ↦ false ]

-- each payload is a record of either node, and no damage follows the last one
abbrev pub is_sound : List ℕ → Bool
is_sound file = list_all is_entry (journal_of file) && is_no_damage (tail_kind (behind_records file))
