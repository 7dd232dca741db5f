use Rattle.std.proofs.Common.{◌≡◌, ℕ, ◌-◌, Bool, Result, length, sym, ◌∙◌, ap, subst}
use Rattle.whole.specs.declared.answers.Stuck.{Stuck}
use Rattle.weighing.specs.Claim.{both_outcomes, not_outcome, outcome}
use Rattle.claims.specs.Subjects.{in_run}
use Rattle.run_rows.specs.Runs.{flow_count}
use Rattle.run_rows.specs.declared.rows.Run.{Run}
use Rattle.question_text.specs.declared.names.Rows.{Rows}
use Rattle.question_text.specs.declared.questions.Question.{Question}
use Rattle.question_text.specs.Conditions.{condition_of}
use Rattle.question_text.specs.Expressions.{CanWeigh, condition_claim}
use Rattle.question_text.specs.Violation.{assumptions, violation, violation_claim}
use Rattle.question_text.proofs.Readiness.{ready}
use Rattle.question_text.proofs.violation.examine.Goals as goal

abbrev rows : Question → ℕ → Rows
rows q n = record { opening = n - 1 - q.setting.steps; last = n - 1 }

-- the assumptions, and then that the requirement is false
comes_to : (q : Question) (r : Run) (n : ℕ) (assumed required denied result : Result Bool Stuck) → n ≡ length r.rows
    → assumed ≡ outcome (n - 1) (condition_claim (in_run r) (flow_count r 0) (rows q n) (assumptions q))
    → required ≡ outcome (n - 1) (condition_claim (in_run r) (flow_count r 0) (rows q n) (condition_of q.require))
    → denied ≡ not_outcome required → result ≡ both_outcomes assumed denied → result ≡ violation q r
unfolding violation
comes_to q r n assumed required denied result same one two turned is =
    is ∙ ap (both_outcomes assumed) turned
    ∙ ap (λ x. both_outcomes x (not_outcome required)) one
    ∙ ap (λ y. both_outcomes (outcome (n - 1) (condition_claim (in_run r) (flow_count r 0) (rows q n) (assumptions q))) (not_outcome y)) two
    ∙ ap (λ m. outcome (m - 1) (violation_claim (in_run r) (flow_count r 0) (rows q m) q)) same

pub returns : goal.returns
returns c =
    comes_to c.args.question.now c.args.run.now c.row_count-last.result c.all_assumed-assumed.result c.holds-required.result c.not.result c.both.result
    c.row_count-last.ensures c.all_assumed-assumed.ensures c.holds-required.ensures c.not.ensures.exact c.both.ensures.exact

pub all_assumed-assumed-requires-clause-can : goal.all_assumed-assumed-requires-clause-can
all_assumed-assumed-requires-clause-can c =
    subst (λ n. CanWeigh c.args.run.now (record { opening = n - 1 - c.args.question.now.setting.steps; last = n - 1 }) (assumptions c.args.question.now))
    (sym c.row_count-last.ensures) (ready c.args.question.now c.args.run.now c.requires).assumes_in

pub holds-required-requires-clause-can : goal.holds-required-requires-clause-can
holds-required-requires-clause-can c =
    subst (λ n. CanWeigh c.args.run.now (record { opening = n - 1 - c.args.question.now.setting.steps; last = n - 1 })
    (condition_of c.args.question.now.require))
    (sym c.row_count-last.ensures) (ready c.args.question.now c.args.run.now c.requires).require_in
