use Rattle.std.proofs.Common.{rules, map, sym, ap, subst, ◌∙◌, Ok}
use Rattle.std.proofs.lemmas.Result.{err_from_is_err_and}
use Rattle.condition_syntax.specs.declared.conditions.Cond.{Cond}
use Rattle.condition_syntax.specs.declared.conditions.Cond.TheViews.{the_lemmas}
use Rattle.condition_syntax.specs.Trees.{Condition, condition_of}
use Rattle.condition_syntax.proofs.TreeLaws.{condition_of-And, condition_of-Or}
use Rattle.ctrl_types.specs.Tests.{Test, test_of}
use Rattle.ctrl_types.specs.Resolving.{Halts, gate_by}
use Rattle.ctrl_types.proofs.TreeLaws.{test_of-And, test_of-Or, all_gives, any_gives, all_halts, any_halts, parts_of_And, parts_of_Or}
use Rattle.ctrl_types.proofs.guards.+guards.Goals as goal

pub gate-gates-requires : goal.gate-gates-requires
gate-gates-requires t c =
    let readable = parts_of_And c.args.condition.now c.in-And.parts c.in-And.is c.requires.condition_in in
    search (rules, the_lemmas, readable)

pub gate-gates-requires-in-Or : goal.gate-gates-requires-in-Or
gate-gates-requires-in-Or t c =
    let readable = parts_of_Or c.args.condition.now c.in-Or.parts c.in-Or.is c.requires.condition_in in
    search (rules, the_lemmas, readable)

pub gate-returns-in_ok-gates-in-And-clause-exact : goal.gate-returns-in_ok-gates-in-And-clause-exact
gate-returns-in_ok-gates-in-And-clause-exact t c =
    ap (λ (x : Cond). gate_by c.args.scope.now.states.now (condition_of x) c.args.seen.now) c.in-And.is
    ∙ ap (λ (x : Condition). gate_by c.args.scope.now.states.now x c.args.seen.now) (condition_of-And c.in-And.parts)
    ∙ all_gives c.args.scope.now.states.now (map condition_of c.in-And.parts.items) c.args.seen.now c.gates.new.seen (map test_of c.in_ok-gates-in-And.field-0.items) c.in_ok-gates-in-And.ensures.exact
    ∙ ap (λ (x : Test). Ok (x, c.gates.new.seen)) (sym (test_of-And c.in_ok-gates-in-And.field-0))

pub gate-returns-in_ok-gates-in-Or-clause-exact : goal.gate-returns-in_ok-gates-in-Or-clause-exact
gate-returns-in_ok-gates-in-Or-clause-exact t c =
    ap (λ (x : Cond). gate_by c.args.scope.now.states.now (condition_of x) c.args.seen.now) c.in-Or.is
    ∙ ap (λ (x : Condition). gate_by c.args.scope.now.states.now x c.args.seen.now) (condition_of-Or c.in-Or.parts)
    ∙ any_gives c.args.scope.now.states.now (map condition_of c.in-Or.parts.items) c.args.seen.now c.gates-in-Or.new.seen (map test_of c.in_ok-gates-in-Or.field-0.items) c.in_ok-gates-in-Or.ensures.exact
    ∙ ap (λ (x : Test). Ok (x, c.gates-in-Or.new.seen)) (sym (test_of-Or c.in_ok-gates-in-Or.field-0))

pub gate-returns-in_err-gates-in-And-clause-exact : goal.gate-returns-in_err-gates-in-And-clause-exact
gate-returns-in_err-gates-in-And-clause-exact t c =
    let p = err_from_is_err_and c.from_residual-in_err-gates-in-And.result c.from_residual-in_err-gates-in-And.ensures.1 in
    rw (p.1, p.2)
    (subst (λ (x : Condition). Halts c.in_err-gates-in-And.field-0.0 (gate_by c.args.scope.now.states.now x c.args.seen.now)) (sym (ap condition_of c.in-And.is ∙ condition_of-And c.in-And.parts))
    (all_halts c.args.scope.now.states.now (map condition_of c.in-And.parts.items) c.args.seen.now c.in_err-gates-in-And.field-0.0 c.in_err-gates-in-And.ensures.exact))

pub gate-returns-in_err-gates-in-Or-clause-exact : goal.gate-returns-in_err-gates-in-Or-clause-exact
gate-returns-in_err-gates-in-Or-clause-exact t c =
    let p = err_from_is_err_and c.from_residual-in_err-gates-in-Or.result c.from_residual-in_err-gates-in-Or.ensures.1 in
    rw (p.1, p.2)
    (subst (λ (x : Condition). Halts c.in_err-gates-in-Or.field-0.0 (gate_by c.args.scope.now.states.now x c.args.seen.now)) (sym (ap condition_of c.in-Or.is ∙ condition_of-Or c.in-Or.parts))
    (any_halts c.args.scope.now.states.now (map condition_of c.in-Or.parts.items) c.args.seen.now c.in_err-gates-in-Or.field-0.0 c.in_err-gates-in-Or.ensures.exact))
