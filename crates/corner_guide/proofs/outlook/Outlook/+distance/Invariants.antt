use Rattle.corner_guide.proofs.outlook.Outlook.+distance.Given as goal

-- names within names are looked into down to a depth
abbrev pub decreases-distance : goal.decreases-distance
decreases-distance g l = l.depth
