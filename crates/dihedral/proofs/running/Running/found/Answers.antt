use Rattle.dihedral.proofs.running.Running.found.Goals as goal

pub in_lowest_terms-requires : goal.in_lowest_terms-requires
in_lowest_terms-requires c = (c.self.invariant c.in_ok-found.found c.in_ok-found.was).least
