-- What a question means, over all whole numbers.
-- The values of a comparison stand in units of 1 / (over * scale), in which each is whole; the scale is the least common
-- multiple of the comparison's denominators.
use Rattle.std.specs.Prelude.{ℕ, ℤ, pos, ◌+ℤ◌, ◌*ℤ◌, List, [], ◌∷◌, All}
use Rattle.run_rows.specs.Runs.{flow_count}
use Rattle.claims.specs.Subjects.{in_run}
use Rattle.whole.specs.declared.answers.Stuck.{Stuck}
use Rattle.weighing.specs.Overflow.{IsFirstOverflow as IsFirstOverflowIn, NothingOverflows as NothingOverflowsIn}
use Rattle.run_rows.specs.declared.rows.Run.{Run}
use Rattle.claim_values.specs.Values.{Compares, number}
use Rattle.condition_tree.specs.Trees.{Truth}
use Rattle.question_text.specs.Conditions.{Condition, Comparison, compares, condition_of}
use Rattle.question_text.specs.Expressions.{scale_of_two}
use Rattle.question_text.specs.NameMeanings.{amount}
use Rattle.question_text.specs.Violation.{rows_of, violation_claim}
use Rattle.question_text.specs.declared.names.Rows.{Rows}
use Rattle.question_text.specs.declared.conditions.QCond.{QCond}
use Rattle.question_text.specs.declared.conditions.QTerm.{QTerm}
use Rattle.question_text.specs.declared.questions.Question.{Question}

-- the value of an expression: the sum of its coefficients times what its names stand for
abbrev pub value : Run → Rows → ℕ → List QTerm → ℤ
value r at scale [] = pos 0
value r at scale (t ∷ terms) = (number scale t.coef *ℤ amount r at t.of) +ℤ value r at scale terms

abbrev pub ComparisonHolds : Run → Rows → Comparison → Type 0
ComparisonHolds r at (compares left rel right) =
    Compares rel (value r at (scale_of_two left right) left.terms) (value r at (scale_of_two left right) right.terms)

-- a condition is true as its comparisons and connectives say
abbrev pub IsTrueIn : Run → Rows → Condition → Type 0
IsTrueIn r at c = Truth (ComparisonHolds r at) c

abbrev pub HoldsIn : Question → Run → QCond → Type 0
HoldsIn q r c = IsTrueIn r (rows_of q r) (condition_of c)

-- every assumption is true of the run, and the requirement is false
pub record Violates (q : Question) (r : Run) : Type 0 where
  pub assumed : All (HoldsIn q r) q.assumes
  pub broken : HoldsIn q r q.require → ⊥

-- no product and no sum overflows, of the assumptions and of the requirement
abbrev pub NothingOverflows : Question → Run → Type 0
NothingOverflows q r = NothingOverflowsIn (violation_claim (in_run r) (flow_count r 0) (rows_of q r) q)

-- the first product or sum that overflows, of the comparisons of the assumptions and then of the requirement
abbrev pub IsFirstOverflow : Question → Run → Stuck → Type 0
IsFirstOverflow q r stuck = IsFirstOverflowIn (rows_of q r).last (violation_claim (in_run r) (flow_count r 0) (rows_of q r) q) stuck
