use Rattle.std.proofs.Common.{◌≡◌, ◌∙◌, sym, subst, ◌+◌, arith, Ok}
use Rattle.std.proofs.lemmas.Result.{err_from_is_err_and}
use Rattle.weighing.specs.First.{below, first}
use Rattle.weighing.proofs.Events.{first-map, first_more, first_stops}
use Rattle.trace_replay.specs.Replaying.{found, opens}
use Rattle.trace_replay.proofs.fitted.FittedRun.examine_openings.Goals as goal

pub returns-in_err-examine_opening : goal.returns-in_err-examine_opening
returns-in_err-examine_opening c =
    let p = err_from_is_err_and c.from_residual.result c.from_residual.ensures.1 in
    rw (p.1, p.2) (sym (first-map (found c.args.self.controller.now c.args.self.question.now c.args.self.run.now) (λ k. opens (k + 1)) (below c.args.self.question.now.setting.flows)
    ∙ first_stops (λ k. found c.args.self.controller.now c.args.self.question.now c.args.self.run.now (opens (k + 1))) _ c.loop-index.index c.args.self.question.now.setting.flows
    c.loop-index.invariant (sym c.examine_opening.ensures ∙ c.in_err-examine_opening.was) (omega arith)))

pub loop-index-preserved : goal.loop-index-preserved
loop-index-preserved c =
    first_more (λ k. found c.args.self.controller.now c.args.self.question.now c.args.self.run.now (opens (k + 1))) c.loop-index.index
    c.loop-index.invariant (sym c.examine_opening.ensures ∙ c.in_ok-examine_opening.was)

pub returns : goal.returns
returns c =
    let all : c.loop-index.index ≡ c.args.self.question.now.setting.flows = omega arith in
    sym (first-map (found c.args.self.controller.now c.args.self.question.now c.args.self.run.now) (λ k. opens (k + 1)) (below c.args.self.question.now.setting.flows)
    ∙ subst (λ n. first (λ k. found c.args.self.controller.now c.args.self.question.now c.args.self.run.now (opens (k + 1))) (below n) ≡ Ok tt) all c.loop-index.invariant)
