use Rattle.unroll.proofs.QuestionReady.{question_can}
use Rattle.unroll_tests.proofs.problem_tests.problem.Goals as goal

-- what was read is within the limits of a question
pub unroll-requires-clause-question_in : goal.unroll-requires-clause-question_in
unroll-requires-clause-question_in c = question_can _ _ c.in-Ok-read.ensures.limits
