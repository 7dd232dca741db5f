use Rattle.std.proofs.Common.{sym, ◌∙◌, ap}
use Rattle.weighing.specs.Claim.{outcome}
use Rattle.claims.specs.Subjects.{in_run}
use Rattle.ctrl_types.specs.Tests.{test_of}
use Rattle.ctrl_meaning.specs.Guards.{test_claim}
use Rattle.ctrl_meaning.proofs.ExampleFits.{cmp_test}
use Rattle.ctrl_meaning.proofs.gates.+guards.Goals as goal

pub gate_holds-returns-in-Cmp : goal.gate_holds-returns-in-Cmp
gate_holds-returns-in-Cmp t c =
    c.comparison.ensures
    ∙ sym (ap (λ g. outcome c.args.at.now.row (test_claim (in_run c.args.run.now) c.args.at.now (test_of g))) c.in-Cmp.is
    ∙ ap (λ x. outcome c.args.at.now.row (test_claim (in_run c.args.run.now) c.args.at.now x)) (cmp_test c.in-Cmp.left c.in-Cmp.rel c.in-Cmp.right))
