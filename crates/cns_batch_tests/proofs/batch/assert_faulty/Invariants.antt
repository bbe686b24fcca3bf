use Rattle.cns_batch_tests.proofs.batch.assert_faulty.Given as goal

abbrev pub ghosts-batch : goal.ghosts-batch
ghosts-batch g a = record { name = a.blank.name; parts = a.blank.parts }
