use Rattle.std.proofs.Common.{sym, ◌∙◌, ap}
use Rattle.weighing.specs.Claim.{outcome}
use Rattle.claims.specs.Subjects.{in_run}
use Rattle.run_rows.specs.Runs.{flow_count}
use Rattle.question_text.specs.Conditions.{condition_of}
use Rattle.question_text.specs.Expressions.{condition_claim}
use Rattle.question_text.proofs.ExampleLimits.{cmp_condition}
use Rattle.question_text.proofs.truth.+conditions.Goals as goal

pub holds-returns-in-Cmp : goal.holds-returns-in-Cmp
holds-returns-in-Cmp t c =
    c.comparison.ensures
    ∙ sym (ap (λ q. outcome c.args.at.now.last (condition_claim (in_run c.args.run.now) (flow_count c.args.run.now 0) c.args.at.now (condition_of q))) c.in-Cmp.is
    ∙ ap (λ x. outcome c.args.at.now.last (condition_claim (in_run c.args.run.now) (flow_count c.args.run.now 0) c.args.at.now x))
    (cmp_condition c.in-Cmp.left c.in-Cmp.rel c.in-Cmp.right))
