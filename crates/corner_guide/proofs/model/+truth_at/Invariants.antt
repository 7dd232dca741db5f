use Rattle.corner_guide.proofs.model.+truth_at.Given as goal

-- names within names are looked into down to a depth
abbrev pub decreases-truth_at : goal.decreases-truth_at
decreases-truth_at g l = l.depth
