use Rattle.cns_batch_tests.proofs.pace.a_run_is_written_at_its_pace.Given as goal

abbrev pub ghosts-desk : goal.ghosts-desk
ghosts-desk g a = record { name = a.blank.name; parts = a.blank.parts }
