use Rattle.corner_guide.proofs.outlook.Outlook.+holds.Given as goal

-- names within names are looked into down to a depth
abbrev pub decreases-holds : goal.decreases-holds
decreases-holds g l = l.depth
