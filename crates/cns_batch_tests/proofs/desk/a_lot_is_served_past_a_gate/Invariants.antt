use Rattle.cns_batch_tests.proofs.desk.a_lot_is_served_past_a_gate.Given as goal

abbrev pub ghosts-desk : goal.ghosts-desk
ghosts-desk g a = record { name = a.blank.name; parts = a.blank.parts }
