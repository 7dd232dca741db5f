use Rattle.std.proofs.Common.{refl}
use Rattle.learned_clause.specs.Trails.{entries}
use Rattle.learned_clause.proofs.ResolutionLaws.{level_resolved}
use Rattle.learned_clause.proofs.StepLaws.{level_law, whole_trail}
use Rattle.learned_clause.proofs.cutting.set_level.Goals as goal

pub returns-clause-walk : goal.returns-clause-walk
returns-clause-walk c =
    let marks = c.args.marks.now in
    level_law (entries c.args.trail.now) marks (record { on = marks.on; ranks = marks.ranks; level = c.last_decision-level.result; lowest = c.lowest-marks.result }) c.args.last c.last_decision-level.result c.lowest-marks.result (whole_trail c.args.trail.now marks.on c.args.last c.requires) c.last_decision-level.ensures c.lowest-marks.ensures refl refl refl refl

pub returns-clause-resolved : goal.returns-clause-resolved
returns-clause-resolved c atoms known lits trail are =
    let marks = c.args.marks.now in
    level_resolved atoms known (entries c.args.trail.now) lits marks (record { on = marks.on; ranks = marks.ranks; level = c.last_decision-level.result; lowest = c.lowest-marks.result }) c.args.last c.last_decision-level.result trail are (whole_trail c.args.trail.now marks.on c.args.last c.requires) c.last_decision-level.ensures refl refl
