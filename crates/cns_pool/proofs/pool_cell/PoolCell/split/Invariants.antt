use Rattle.cns_pool.proofs.pool_cell.PoolCell.split.Given as goal

abbrev pub ghosts-part_off : goal.ghosts-part_off
ghosts-part_off a = record { budget = a.budget; calls = a.calls }
