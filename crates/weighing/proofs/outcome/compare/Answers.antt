use Rattle.std.proofs.Common.{◌≡◌, sym, ◌∙◌, ap, subst}
use Rattle.weighing.specs.Claim.{compare, outcome}
use Rattle.weighing.specs.Overflow.{Answers}
use Rattle.weighing.specs.Weight.{Weight}
use Rattle.weighing.specs.Weighed.{related, weighed_from}
use Rattle.weighing.proofs.Claims.{outcome_answers}
use Rattle.weighing.proofs.outcome.compare.Goals as goal

pub returns-clause-means : goal.returns-clause-means
returns-clause-means c =
    let is : c.stands.result ≡ outcome c.args.row (compare c.args.terms.now c.args.rel) =
    c.stands.ensures.exact
    ∙ ap (λ (w : Weight). related c.args.rel w.sum)
    (c.plus_all.ensures.exact ∙ ap (λ (w : Weight). weighed_from w c.args.terms.now) c.new.ensures) in
    subst (Answers c.args.row (compare c.args.terms.now c.args.rel)) (sym is)
    (outcome_answers c.args.row (compare c.args.terms.now c.args.rel))
