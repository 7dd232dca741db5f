use Rattle.std.proofs.Common.{false, get_or}
use Rattle.farkas_cert.specs.declared.literals.Lit.{Lit}
use Rattle.clause_search.specs.Answers.{truth_in}
use Rattle.corner_guide.proofs.TruthLaws.{has_true_at, literal_true}
use Rattle.corner_guide.proofs.model.has_true.Goals as goal

pub returns-then-truth_in-lit : goal.returns-then-truth_in-lit
returns-then-truth_in-lit c =
    let none : Lit = record { atom = 0; positive = false } in
    λ is. has_true_at (truth_in c.args.truths.now) c.args.clause.now c.loop-lit.lit-index none c.loop-lit-test.true
    (literal_true (truth_in c.args.truths.now) (get_or c.args.clause.now c.loop-lit.lit-index none) c.truth_in.result c.truth_in.ensures c.if-truth_in-lit.true)
