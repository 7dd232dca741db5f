use Rattle.std.proofs.Common.{List, Result, ap, ◌∙◌}
use Rattle.std.proofs.lemmas.Result.{err_from_is_err_and}
use Rattle.farkas_cert.specs.declared.literals.Lit.{Lit}
use Rattle.clause_form.specs.declared.clauses.What.{What}
use Rattle.clause_form.specs.declared.keys.Connective.TheVariants.{And, Or}
use Rattle.clause_form.specs.Answers.{build_of}
use Rattle.clause_form.specs.Building.{Build, and_then, literals, named}
use Rattle.clause_form.proofs.LiteralLaws.{literal-All, literal-Any, fails_after, gives_as}
use Rattle.clause_form.proofs.building.Builder.+literals.Goals as goal

pub literal-returns-in_ok-lits-in-All-clause-answer : goal.literal-returns-in_ok-lits-in-All-clause-answer
literal-returns-in_ok-lits-in-All-clause-answer t c =
    gives_as (λ (l : Lit). (build_of c.named.new.self, l)) c.named.result _ _
    (literal-All c.args.formula.now c.in-All.parts (build_of c.args.self.now) c.in-All.is
    ∙ ap (λ (r : Result (Build × List Lit) What). and_then r (λ q. named q.0 And q.1)) c.in_ok-lits-in-All.ensures.answer)
    c.named.ensures.answer

pub literal-returns-in_ok-lits-in-Any-clause-answer : goal.literal-returns-in_ok-lits-in-Any-clause-answer
literal-returns-in_ok-lits-in-Any-clause-answer t c =
    gives_as (λ (l : Lit). (build_of c.named-in-Any.new.self, l)) c.named-in-Any.result _ _
    (literal-Any c.args.formula.now c.in-Any.parts (build_of c.args.self.now) c.in-Any.is
    ∙ ap (λ (r : Result (Build × List Lit) What). and_then r (λ q. named q.0 Or q.1)) c.in_ok-lits-in-Any.ensures.answer)
    c.named-in-Any.ensures.answer

pub literal-returns-in_err-lits-in-All-clause-answer : goal.literal-returns-in_err-lits-in-All-clause-answer
literal-returns-in_err-lits-in-All-clause-answer t c =
    let p = err_from_is_err_and c.from_residual-in_err-lits-in-All.result c.from_residual-in_err-lits-in-All.ensures.1 in
    rw (p.1, p.2)
    (fails_after _ (literals _ (build_of c.args.self.now)) (λ q. named q.0 And q.1) _
    (literal-All c.args.formula.now c.in-All.parts (build_of c.args.self.now) c.in-All.is) c.in_err-lits-in-All.ensures.answer)

pub literal-returns-in_err-lits-in-Any-clause-answer : goal.literal-returns-in_err-lits-in-Any-clause-answer
literal-returns-in_err-lits-in-Any-clause-answer t c =
    let p = err_from_is_err_and c.from_residual-in_err-lits-in-Any.result c.from_residual-in_err-lits-in-Any.ensures.1 in
    rw (p.1, p.2)
    (fails_after _ (literals _ (build_of c.args.self.now)) (λ q. named q.0 Or q.1) _
    (literal-Any c.args.formula.now c.in-Any.parts (build_of c.args.self.now) c.in-Any.is) c.in_err-lits-in-Any.ensures.answer)
