use Rattle.pool_trials.proofs.pool_at_edges.+free_after.Given as goal

abbrev pub decreases-free_after : goal.decreases-free_after
decreases-free_after l = l.left
