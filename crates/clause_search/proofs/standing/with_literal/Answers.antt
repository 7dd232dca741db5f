use Rattle.std.proofs.Common.{Bool, Some, subst}
use Rattle.clause_form.specs.Journals.{literals}
use Rattle.clause_search.specs.Tables.{Gives}
use Rattle.clause_search.proofs.StandingLaws.{false_last, true_more}
use Rattle.clause_search.proofs.standing.with_literal.Goals as goal

pub returns-in-Some-true : goal.returns-in-Some-true
returns-in-Some-true c front s =
    true_more (literals c.args.trail.now.entries) front c.args.lit (subst (λ (b : Bool). Gives (literals c.args.trail.now.entries) c.args.lit (Some b)) c.in-Some-true.field-0-test c.in-Some-true.ensures.gives)

pub returns-in-Some-false : goal.returns-in-Some-false
returns-in-Some-false c front s =
    false_last c.args.trail.now.atoms (literals c.args.trail.now.entries) front c.args.lit c.args.before c.in-Some-false.ensures.once (subst (λ (b : Bool). Gives (literals c.args.trail.now.entries) c.args.lit (Some b)) c.in-Some-false.field-0-test c.in-Some-false.ensures.gives) s

pub returns-in-None : goal.returns-in-None
returns-in-None c front s = c.with_free.ensures c.args.trail.now.atoms (literals c.args.trail.now.entries) front c.in-None.ensures.once c.in-None.ensures.gives s
