use Rattle.pool_trials.proofs.pool_at_edges.+fill.Given as goal

abbrev pub decreases-fill : goal.decreases-fill
decreases-fill l = l.left
