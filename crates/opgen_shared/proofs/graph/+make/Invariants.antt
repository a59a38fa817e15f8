use Rattle.opgen_shared.proofs.graph.+make.Given as goal

abbrev pub decreases-make : goal.decreases-make
decreases-make l = l.weight
