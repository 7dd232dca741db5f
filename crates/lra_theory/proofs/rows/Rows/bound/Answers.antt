use Rattle.std.proofs.Common.{◌≡◌, Some, sym, rules, arith}
use Rattle.std.proofs.lemmas.Grind.{common_steps}
use Rattle.lra_theory.specs.Literals.{bound_of}
use Rattle.lra_theory.proofs.GivenLaws.{bound-good}
use Rattle.lra_theory.proofs.rows.Rows.bound.Goals as goal

pub returns-in-Some-Row-clause-good : goal.returns-in-Some-Row-clause-good
returns-in-Some-Row-clause-good c =
    let e : Some c.bound_if.result ≡ bound_of c.args.self.now c.args.lit = first_of (search rules, grind (arith, common_steps)) in
    bound-good c.args.self.now c.requires c.args.lit c.bound_if.result (sym e)
