use Rattle.unroll.proofs.QuestionReady.{question_can}
use Rattle.bench_unroll.proofs.unrolled.Goals as goal

pub unroll-requires-clause-question_in : goal.unroll-requires-clause-question_in
unroll-requires-clause-question_in c = question_can _ _ c.requires.question_in
