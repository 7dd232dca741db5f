-- A question whose names are in range can be written over the columns of its runs.
use Rattle.std.proofs.Common.{ℕ, suc, ◌+◌, ◌≤◌, List, [], ◌∷◌, get_or, length, map, sym, subst, arith}
use Rattle.std.specs.Prelude.{All}
use Rattle.std.proofs.lemmas.List.Elements.{All-cons, All-nil}
use Rattle.condition_tree.proofs.Trees.{each_leaf_gives}
use Rattle.path_server.specs.Shapes.{shape_of}
use Rattle.path_server.specs.declared.settings.Setting.{Setting}
use Rattle.question_text.specs.Claims.{CanUnroll, IsSide, is_named, named_terms, rows_for}
use Rattle.question_text.specs.Claims as asked
use Rattle.question_text.specs.Conditions.{Comparison, Condition, Sides, compares, condition_of, conjunction}
use Rattle.question_text.specs.Limits.{IsComparison, IsCondition, IsQuestion, IsTerm}
use Rattle.question_text.specs.declared.conditions.Of.{Of}
use Rattle.question_text.specs.declared.conditions.Of.TheVariants.{One, Credit, W, A, S, L, X}
use Rattle.question_text.specs.declared.conditions.QCond.{QCond}
use Rattle.question_text.specs.declared.conditions.QLin.{QLin}
use Rattle.question_text.specs.declared.conditions.QTerm.{QTerm}
use Rattle.question_text.specs.declared.questions.Question.{Question}
use Rattle.question_text.proofs.QuestionColumns.{name_in}
use Rattle.run_rows.specs.declared.shapes.Shape.{Shape}
use Rattle.unroll.specs.QuestionFormulas.{IsShapeFor}
use Rattle.unroll.specs.QuestionLimits.{CanAdd, CanBuild, CanCompare}

side_can : (s : Setting) (states delay_max : ℕ) (lin : QLin) → IsSide states s lin → CanAdd (shape_of s states delay_max) (rows_for (shape_of s states delay_max)) lin
side_can s states delay_max lin is = record {
  terms_to = is.terms_to;
  terms_in = λ k d inside. record {
    coef_in = (is.terms_in k d inside).coef_in;
    of_in = name_in s states delay_max (let t : QTerm = get_or lin.terms k d in t.of) (is.terms_in k d inside).name_in;
  };
}

pub condition_can : (s : Setting) (states delay_max : ℕ) (c : Condition) → asked.CanTake states s c → CanBuild (shape_of s states delay_max) (rows_for (shape_of s states delay_max)) c
condition_can s states delay_max c can = each_leaf_gives (Sides (asked.CanCompare states s)) (Sides (CanCompare (shape_of s states delay_max) (rows_for (shape_of s states delay_max)))) c by can
  where
    by : (l : Comparison) → Sides (asked.CanCompare states s) l → Sides (CanCompare (shape_of s states delay_max) (rows_for (shape_of s states delay_max))) l
    by (compares left rel right) each =
        record { left_in = side_can s states delay_max left each.left_in; right_in = side_can s states delay_max right each.right_in; scale_to = each.scale_to }

-- a condition over the shape that the question is asked of
pub asked_can : (q : Question) (shape : Shape) (c : QCond) → (fit : IsShapeFor q shape) → asked.CanTake fit.in_shape.states q.setting (condition_of c)
    → CanBuild shape (rows_for shape) (condition_of c)
asked_can q shape c fit can =
    subst (λ s. CanBuild s (rows_for s) (condition_of c)) (sym fit.in_shape.is)
    (condition_can q.setting fit.in_shape.states fit.in_shape.delay_max (condition_of c) can)

-- a question that its text is held to can be unrolled

one_more_name : (of : Of) (m n : ℕ) → m ≤ n → is_named of + m ≤ suc n
one_more_name One m n most = omega arith
one_more_name Credit m n most = omega arith
one_more_name (W t) m n most = omega arith
one_more_name (A f t) m n most = omega arith
one_more_name (S f t) m n most = omega arith
one_more_name (L f t) m n most = omega arith
one_more_name (X j f t) m n most = omega arith

some_names : (ts : List QTerm) → named_terms ts ≤ length ts
some_names [] = omega arith
some_names (t ∷ ts) = one_more_name t.of (named_terms ts) (length ts) (some_names ts)

side_in : (states : ℕ) (s : Setting) (lin : QLin) → length lin.terms ≤ 16 → All (IsTerm states s) lin.terms → IsSide states s lin
side_in states s lin few each = record { terms_to = omega arith; named_to = (let names = some_names lin.terms in omega arith); terms_in = each }

condition_in : (states : ℕ) (s : Setting) (c : Condition) → IsCondition states s c → asked.CanTake states s c
condition_in states s c is = each_leaf_gives (Sides (IsComparison states s)) (Sides (asked.CanCompare states s)) c by is
  where
    by : (l : Comparison) → Sides (IsComparison states s) l → Sides (asked.CanCompare states s) l
    by (compares left rel right) each =
        record { left_in = side_in states s left each.left_to each.left_in; right_in = side_in states s right each.right_to each.right_in; scale_to = each.scale_to }

each_assumed : (states : ℕ) (s : Setting) (cs : List QCond) → IsCondition states s (conjunction (map condition_of cs)) → All (λ c. asked.CanTake states s (condition_of c)) cs
each_assumed states s [] is = All-nil (λ (c : QCond). asked.CanTake states s (condition_of c))
each_assumed states s (c ∷ cs) is =
    All-cons (λ (d : QCond). asked.CanTake states s (condition_of d)) c cs (condition_in states s (condition_of c) is.0) (each_assumed states s cs is.1)

pub question_can : (states : ℕ) (q : Question) → IsQuestion states q → CanUnroll states q
question_can states q is = record {
  setting_in = is.setting_in;
  assumes_in = each_assumed states q.setting q.assumes is.assumes_in;
  require_in = condition_in states q.setting (condition_of q.require) is.require_in;
}
