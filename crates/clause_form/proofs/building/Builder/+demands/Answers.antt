use Rattle.clause_form.specs.Answers.{build_of}
use Rattle.clause_form.proofs.LiteralLaws.{demanded-All-each, demanded-All-one, demanded-Any-each, demanded-Any-one, gives_as}
use Rattle.clause_form.proofs.building.Builder.+demands.Goals as goal

pub demand-returns-then-sign-clause-answer : goal.demand-returns-then-sign-clause-answer
demand-returns-then-sign-clause-answer t c =
    gives_as (λ (u : Unit {0}). build_of c.demand_each.new.self) c.demand_each.result _ _
    (demanded-All-each c.args.formula.now c.in-All.parts (build_of c.args.self.now) c.args.sign c.in-All.is c.if-sign.true)
    c.demand_each.ensures.answer

pub demand-returns-else-sign-clause-answer : goal.demand-returns-else-sign-clause-answer
demand-returns-else-sign-clause-answer t c =
    gives_as (λ (u : Unit {0}). build_of c.demand_one.new.self) c.demand_one.result _ _
    (demanded-All-one c.args.formula.now c.in-All.parts (build_of c.args.self.now) c.args.sign c.in-All.is c.if-sign.false)
    c.demand_one.ensures.answer

pub demand-returns-then-sign-2-clause-answer : goal.demand-returns-then-sign-2-clause-answer
demand-returns-then-sign-2-clause-answer t c =
    gives_as (λ (u : Unit {0}). build_of c.demand_one-then-sign-2.new.self) c.demand_one-then-sign-2.result _ _
    (demanded-Any-one c.args.formula.now c.in-Any.parts (build_of c.args.self.now) c.args.sign c.in-Any.is c.if-sign-2.true)
    c.demand_one-then-sign-2.ensures.answer

pub demand-returns-else-sign-2-clause-answer : goal.demand-returns-else-sign-2-clause-answer
demand-returns-else-sign-2-clause-answer t c =
    gives_as (λ (u : Unit {0}). build_of c.demand_each-else-sign-2.new.self) c.demand_each-else-sign-2.result _ _
    (demanded-Any-each c.args.formula.now c.in-Any.parts (build_of c.args.self.now) c.args.sign c.in-Any.is c.if-sign-2.false)
    c.demand_each-else-sign-2.ensures.answer
