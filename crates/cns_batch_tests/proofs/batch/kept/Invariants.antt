use Rattle.cns_batch_tests.proofs.batch.kept.Given as goal

abbrev pub ghosts-kept_by : goal.ghosts-kept_by
ghosts-kept_by c a = record { name = a.blank.name; parts = a.blank.parts }
