-- The formulas of a question whose names are in range can be turned into clauses.
use Rattle.std.proofs.Common.{◌≡◌, ℕ, zero, suc, ◌+◌, ◌*◌, ◌≤◌, ◌^◌, ℤ, unsigned_abs, List, [], ◌∷◌, ◌++◌, length, length-append, map, sym, subst, refl, arith}
use Rattle.std.specs.Prelude.{All}
use Rattle.std.proofs.lemmas.List.Elements.{All-append, All-cons, All-head, All-map, All-nil, All-tail, All-weaker}
use Rattle.condition_tree.specs.Trees.{EachLeaf, opposite}
use Rattle.weighing.specs.Scaled.{scaled}
use Rattle.weighing.specs.declared.scales.Side.{Side}
use Rattle.weighing.specs.declared.scales.Side.TheVariants.{Left, Right}
use Rattle.claims.specs.Subjects.{Part, Subject, Symbolic, constant, entry, each_flow, of_arrivals, of_losses, of_service, part}
use Rattle.run_rows.specs.Columns.{entries_of}
use Rattle.run_rows.specs.declared.shapes.Shape.{Shape}
use Rattle.path_server.specs.Shapes.{shape_of}
use Rattle.path_server.specs.declared.settings.Setting.{Setting}
use Rattle.question_text.specs.Claims.{CanCompare, CanTake as CanTakeCondition, CanUnroll, IsSide, assumed_claim, is_named, named_terms, question_claims, rows_for}
use Rattle.question_text.specs.Conditions.{Comparison, Condition, Sides, compares, condition_of}
use Rattle.question_text.specs.Expressions.{condition_claim, leaf_claim, lin_terms, scale_of_two, term_terms}
use Rattle.question_text.specs.Limits.{IsTerm}
use Rattle.question_text.specs.NameMeanings.{flow_terms, of_terms, row_at}
use Rattle.question_text.specs.declared.conditions.Of.{Of}
use Rattle.question_text.specs.declared.conditions.Of.TheVariants.{One, Credit, W, A, S, L, X}
use Rattle.question_text.specs.declared.conditions.QCond.{QCond}
use Rattle.question_text.specs.declared.conditions.QLin.{QLin}
use Rattle.question_text.specs.declared.conditions.QTerm.{QTerm}
use Rattle.question_text.specs.declared.names.Rows.{Rows}
use Rattle.question_text.specs.declared.questions.Question.{Question}
use Rattle.question_text.proofs.QuestionColumns.{question_over}
use Rattle.clause_form.specs.Formulas.{CanTake, EachComparison}
use Rattle.unroll.specs.ClaimFormulas.{claim_formulas}
use Rattle.unroll.specs.QuestionFormulas.{IsShapeFor}
use Rattle.unroll.specs.Sizes.{IsSmall, IsSmallPart, counted_with, entries_in}
use Rattle.unroll.proofs.FlowSizes.{all_over, all_small}
use Rattle.unroll.proofs.LinSizes.{each_with, scaled_size}
use Rattle.unroll.proofs.RuleSizes.{IsShort, each_flow_short, none_short, one_more, some_entries}
use Rattle.unroll.proofs.SizeLaws.{formulas_take}

-- at most n small parts, m of them of entries
record AreNamed (m n : ℕ) (ps : List Part) : Type 0 where
  entries : entries_in ps ≤ m
  count : length ps ≤ n
  sizes : All IsSmallPart ps

counted_front : (of : Subject) (m n : ℕ) → counted_with of m + n ≡ counted_with of (m + n)
counted_front constant m n = refl
counted_front (entry e) m n = omega arith

counted_same : (of : Subject) (m n : ℕ) → m ≡ n → counted_with of m ≡ counted_with of n
counted_same constant m n same = same
counted_same (entry e) m n same = omega arith

entries-append : (ps qs : List Part) → entries_in (ps ++ qs) ≡ entries_in ps + entries_in qs
entries-append [] qs = omega arith
entries-append (p ∷ ps) qs =
    let rest = counted_same p.of (entries_in (ps ++ qs)) (entries_in ps + entries_in qs) (entries-append ps qs) in
    let front = counted_front p.of (entries_in ps) (entries_in qs) in omega (arith, rest, front)

both_named : (a b c d : ℕ) (ps qs : List Part) → AreNamed a b ps → AreNamed c d qs → AreNamed (a + c) (b + d) (ps ++ qs)
both_named a b c d ps qs one two = record {
  entries = omega (arith, entries-append ps qs, one.entries, two.entries);
  count = omega (arith, length-append ps qs, one.count, two.count);
  sizes = All-append IsSmallPart ps qs one.sizes two.sizes;
}

short_named : (m : ℕ) (ps : List Part) → m ≤ 4 → IsShort m ps → AreNamed 4 4 ps
short_named m ps few short =
    record { entries = omega (arith, some_entries ps, short.count); count = omega (arith, short.count); sizes = short.sizes }

one_part : (k : ℤ) (of : Subject) → unsigned_abs k ≤ 10 ^ 13 → IsShort 1 (part k of ∷ [])
one_part k of small = one_more 0 k of [] small none_short

flow_named : (n : ℕ) (k : ℤ) (of : ℕ → Subject) (f : ℕ) → n ≤ 4 → unsigned_abs k ≤ 10 ^ 13 → AreNamed 4 4 (flow_terms part k of n f)
flow_named n k of zero few small =
    short_named (n * 1) (each_flow (λ g. part k (of g) ∷ []) n) (omega arith) (each_flow_short 1 (λ g. part k (of g) ∷ []) n (λ g. one_part k (of g) small))
flow_named n k of (suc f) few small = short_named 1 (part k (of (suc f)) ∷ []) (omega arith) (one_part k (of (suc f)) small)

of_named : (n : ℕ) (at : Rows) (k : ℤ) (of : Of) → n ≤ 4 → unsigned_abs k ≤ 10 ^ 13 → AreNamed (is_named of * 4) 4 (of_terms part n at k of)
of_named n at k One few small =
    let one = one_part k constant small in record { entries = omega arith; count = omega arith; sizes = one.sizes }
of_named n at k Credit few small = short_named 1 _ (omega arith) (one_part k _ small)
of_named n at k (W t) few small = short_named 1 _ (omega arith) (one_part k _ small)
of_named n at k (A f t) few small = flow_named n k (of_arrivals (row_at at t)) f few small
of_named n at k (S f t) few small = flow_named n k (of_service (row_at at t)) f few small
of_named n at k (L f t) few small = flow_named n k (of_losses (row_at at t)) f few small
of_named n at k (X j f t) few small = short_named 1 _ (omega arith) (one_part k _ small)

lin_named : (n : ℕ) (at : Rows) (side : Side) (states m : ℕ) (s : Setting) (ts : List QTerm) → n ≤ 4 → m ≤ 1000000 → All (IsTerm states s) ts
    → AreNamed (named_terms ts * 4) (length ts * 4) (lin_terms part n at side m ts)
lin_named n at side states m s [] few small each = record { entries = omega arith; count = omega arith; sizes = All-nil IsSmallPart }
lin_named n at side states m s (t ∷ ts) few small each =
    let here = of_named n at (scaled side m t.coef) t.of few (scaled_size side m t.coef (All-head (IsTerm states s) t ts each).coef_in small) in
    let both = both_named (is_named t.of * 4) 4 (named_terms ts * 4) (length ts * 4) (term_terms part n at side m t) (lin_terms part n at side m ts) here
    (lin_named n at side states m s ts few small (All-tail (IsTerm states s) t ts each)) in
    record { entries = omega (arith, both.entries); count = omega (arith, both.count); sizes = both.sizes }

side_named : (n : ℕ) (at : Rows) (side : Side) (states m : ℕ) (s : Setting) (lin : QLin) → n ≤ 4 → m ≤ 1000000 → IsSide states s lin
    → AreNamed 64 68 (lin_terms part n at side m lin.terms)
side_named n at side states m s lin few small is =
    let named = lin_named n at side states m s lin.terms few small is.terms_in in
    let names = is.named_to in
    let all = is.terms_to in
    record { entries = omega (arith, named.entries, names); count = omega (arith, named.count, all); sizes = named.sizes }

comparison_small : (n : ℕ) (at : Rows) (states : ℕ) (s : Setting) (l : Comparison) → n ≤ 4 → Sides (CanCompare states s) l → IsSmall (leaf_claim part n at l)
comparison_small n at states s (compares left rel right) few can =
    let m : ℕ = scale_of_two left right in
    let both = both_named 64 68 64 68 (lin_terms part n at Left m left.terms) (lin_terms part n at Right m right.terms)
    (side_named n at Left states m s left few can.scale_to can.left_in) (side_named n at Right states m s right few can.scale_to can.right_in) in
    record { entries = both.entries; count = omega (arith, both.count); sizes = both.sizes }

condition_small : (n : ℕ) (at : Rows) (states : ℕ) (s : Setting) (c : Condition) → n ≤ 4 → CanTakeCondition states s c → EachLeaf IsSmall (condition_claim part n at c)
condition_small n at states s c few can =
    each_with (Sides (CanCompare states s)) IsSmall (leaf_claim part n at) (λ l is. comparison_small n at states s l few is) c can

claims_small : (q : Question) (states n : ℕ) (at : Rows) → n ≤ 4 → CanUnroll states q → All (EachLeaf IsSmall) (question_claims part n at q)
claims_small q states n at few can =
    let P : Symbolic → Type 0 = EachLeaf IsSmall in
    let claim : QCond → Symbolic = assumed_claim part n at in
    All-append P (map claim q.assumes) (opposite (claim q.require) ∷ [])
    (All-map P claim q.assumes
    (All-weaker (λ c. CanTakeCondition states q.setting (condition_of c)) (λ c. P (claim c)) (λ c. condition_small n at states q.setting (condition_of c) few) q.assumes can.assumes_in))
    (All-cons P (opposite (claim q.require)) [] (condition_small n at states q.setting (condition_of q.require) few can.require_in) (All-nil P))

-- the formulas of the question can be turned into clauses
pub question_takes : (q : Question) (shape : Shape) → IsShapeFor q shape
    → EachComparison (CanTake (length (entries_of shape))) (claim_formulas shape (question_claims part shape.flows (rows_for shape) q))
question_takes q shape fit =
    subst (λ s. EachComparison (CanTake (length (entries_of s))) (claim_formulas s (question_claims part s.flows (rows_for s) q))) (sym fit.in_shape.is)
    (formulas_take (given fit) (claims fit)
    (all_over (given fit) (claims fit) (question_over q fit.in_shape.states fit.in_shape.delay_max fit.question_in))
    (all_small (claims fit) (claims_small q fit.in_shape.states q.setting.flows (rows_for (given fit)) fit.question_in.setting_in.flows_to fit.question_in)))
  where
    given : IsShapeFor q shape → Shape
    given fit = shape_of q.setting fit.in_shape.states fit.in_shape.delay_max

    claims : IsShapeFor q shape → List Symbolic
    claims fit = question_claims part q.setting.flows (rows_for (given fit)) q
