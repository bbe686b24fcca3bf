use Rattle.cnsd.proofs.serve.Given as goal

abbrev pub ghosts-run_source : goal.ghosts-run_source
ghosts-run_source g a = record { name = a.blank.name; parts = a.blank.parts }

abbrev pub ghosts-check_source : goal.ghosts-check_source
ghosts-check_source g a = record { name = a.blank.name; parts = a.blank.parts }

abbrev pub ghosts-check_texts : goal.ghosts-check_texts
ghosts-check_texts g a = record { name = a.blank.name; parts = a.blank.parts }
