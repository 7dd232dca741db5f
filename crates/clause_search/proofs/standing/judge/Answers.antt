use Rattle.std.proofs.Common.{List, ◌+◌, sym, subst, take}
use Rattle.std.proofs.lemmas.List.{take_all, take_more}
use Rattle.farkas_cert.specs.declared.literals.Lit.{Lit}
use Rattle.clause_form.specs.Journals.{literals}
use Rattle.clause_search.specs.declared.standing.Standing.TheVariants.{Satisfied}
use Rattle.clause_search.specs.Standings.{StandsAs}
use Rattle.clause_search.proofs.StandingLaws.{true_of_front}
use Rattle.clause_search.proofs.standing.judge.Goals as goal

pub returns-in-Satisfied : goal.returns-in-Satisfied
returns-in-Satisfied c =
    true_of_front (literals c.args.trail.now.entries) c.args.clause.now (c.loop-lit.lit-index + 1) (subst (λ (ls : List Lit). StandsAs (literals c.args.trail.now.entries) ls Satisfied) (sym (take_more c.args.clause.now c.loop-lit.lit-index _ c.loop-lit-test.true)) (c.in-Satisfied.ensures (take c.loop-lit.lit-index c.args.clause.now) c.loop-lit.invariant))

pub loop-lit-preserved : goal.loop-lit-preserved
loop-lit-preserved c =
    subst (λ (ls : List Lit). StandsAs (literals c.args.trail.now.entries) ls c.with_literal-standing.result) (sym (take_more c.args.clause.now c.loop-lit.lit-index _ c.loop-lit-test.true)) (c.with_literal-standing.ensures (take c.loop-lit.lit-index c.args.clause.now) c.loop-lit.invariant)

pub returns : goal.returns
returns c = subst (λ (ls : List Lit). StandsAs (literals c.args.trail.now.entries) ls c.loop-lit.standing) (take_all c.loop-lit.lit-index c.args.clause.now c.loop-lit-test.false) c.loop-lit.invariant
