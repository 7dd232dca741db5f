use Rattle.std.proofs.Common.{◌≡◌, ℕ, nat_lt, false, ◌&&◌, List, ◌∷◌, map, sym, ◌∙◌, ap}
use Rattle.farkas_cert.specs.Literals.{negation}
use Rattle.farkas_cert.specs.declared.literals.Lit.{Lit}
use Rattle.cert_check.specs.Causes.{truth_on, is_free}
use Rattle.cert_check.specs.Tables.{Assumed}
use Rattle.cert_check.proofs.PathLaws.{cut_more, may_law, names_step, names_fault}
use Rattle.cert_check.proofs.paths.Path.assume_negations.Goals as goal

pub returns-then-not-may_assume-clause-answer : goal.returns-then-not-may_assume-clause-answer
returns-then-not-may_assume-clause-answer c =
    sym (names_fault c.args.self.now.atoms c.args.clause.now c.loop-i.self.lits c.from_end-lit.result c.loop-i.i c.loop-i-test.true c.from_end-lit.ensures c.loop-i.invariant.1 c.loop-i.invariant.2 (ap (λ (n : ℕ). nat_lt c.from_end-lit.result.atom n && is_free (truth_on c.loop-i.self.lits c.from_end-lit.result.atom)) (sym c.loop-i.invariant.0) ∙ sym c.may_assume.ensures ∙ c.if-not-may_assume.true))

pub assume-requires-clause-in_range : goal.assume-requires-clause-in_range
assume-requires-clause-in_range c =
    (may_law c.from_end-lit.result c.negated.result c.loop-i.self c.may_assume.result c.may_assume.ensures c.if-not-may_assume.false c.negated.ensures).0

pub assume-requires-clause-free : goal.assume-requires-clause-free
assume-requires-clause-free c =
    (may_law c.from_end-lit.result c.negated.result c.loop-i.self c.may_assume.result c.may_assume.ensures c.if-not-may_assume.false c.negated.ensures).1

pub loop-i-preserved : goal.loop-i-preserved
loop-i-preserved c = (
  ap (λ (p : Assumed). p.atoms) c.in_ok-assume.ensures ∙ c.loop-i.invariant.0,
  ap (λ (p : Assumed). p.lits) c.in_ok-assume.ensures ∙ ap (λ (l : Lit). l ∷ c.loop-i.self.lits) c.negated.ensures ∙ ap (λ (ls : List Lit). negation c.from_end-lit.result ∷ ls) c.loop-i.invariant.1 ∙ sym (ap (map negation) (cut_more c.args.clause.now c.from_end-lit.result c.loop-i.i c.loop-i-test.true c.from_end-lit.ensures)),
  names_step c.args.self.now.atoms c.args.clause.now c.loop-i.self.lits c.from_end-lit.result c.loop-i.i c.loop-i-test.true c.from_end-lit.ensures c.loop-i.invariant.1 c.loop-i.invariant.2 ∙ ap (λ (n : ℕ). nat_lt c.from_end-lit.result.atom n && is_free (truth_on c.loop-i.self.lits c.from_end-lit.result.atom)) (sym c.loop-i.invariant.0) ∙ sym c.may_assume.ensures ∙ c.if-not-may_assume.false,
)
