use Rattle.cns_clearing.proofs.clearing.Clearing.lot_plan.Goals as goal

pub returns : goal.returns
returns g c = rw c.books.ensures.books at c.plan.ensures
