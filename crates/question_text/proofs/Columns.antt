-- A question's claims over columns: those by any terms are the written claims with these terms, and name entries of the
-- shape alone.
use Rattle.std.proofs.Common.{◌≡◌, ℕ, zero, suc, ◌+◌, ◌<◌, ◌≤◌, arith, ℤ, List, [], ◌∷◌, ◌++◌, map, refl, ◌∙◌, ap}
use Rattle.std.specs.Prelude.{All}
use Rattle.std.proofs.lemmas.List.{map-append}
use Rattle.condition_tree.specs.Trees.{EachLeaf, all_of, opposite}
use Rattle.weighing.specs.Claim.{Claims, Compared}
use Rattle.weighing.specs.Scaled.{scaled}
use Rattle.weighing.specs.declared.scales.Side.{Side}
use Rattle.weighing.specs.declared.scales.Side.TheVariants.{Left, Right}
use Rattle.run_rows.specs.Columns.{HasFlow, rows_of as row_count}
use Rattle.run_rows.specs.Runs.{state_count}
use Rattle.run_rows.specs.declared.shapes.Shape.{Shape}
use Rattle.claims.specs.Subjects.{Part, Subject, constant, made, of_arrivals, of_losses, of_service, part, with_terms}
use Rattle.claims.specs.Columns.{EachIn, IsIn, IsOver}
use Rattle.claims.proofs.Made.{both_in, each_flow_in, map-each_flow}
use Rattle.claims.proofs.Leaves.{flat_map_in, flat_map_made, leaves_made, leaves_over, remade}
use Rattle.question_text.specs.Conditions.{Comparison, Condition, compares, condition_of}
use Rattle.question_text.specs.Expressions.{comparison_claim, condition_claim, leaf_claim, lin_terms, scale_of_two, term_terms}
use Rattle.question_text.specs.NameMeanings.{flow_terms, of_terms, row_at}
use Rattle.question_text.specs.Violation.{assumptions, violation_claim}
use Rattle.question_text.specs.declared.names.Rows.{Rows}
use Rattle.question_text.specs.declared.conditions.Of.{Of}
use Rattle.question_text.specs.declared.conditions.Of.TheVariants.{One, Credit, W, A, S, L, X}
use Rattle.question_text.specs.declared.conditions.QLin.{QLin}
use Rattle.question_text.specs.declared.conditions.QTerm.{QTerm}
use Rattle.question_text.specs.declared.questions.Question.{Question}

-- ---- by any terms

flow_made : {T : Type 0} (term : ℤ → Subject → T) (k : ℤ) (of : ℕ → Subject) (n f : ℕ) → map (made term) (flow_terms part k of n f) ≡ flow_terms term k of n f
flow_made term k of n zero = map-each_flow (made term) (λ f. part k (of f) ∷ []) n
flow_made term k of n (suc f) = refl

of_made : {T : Type 0} (term : ℤ → Subject → T) (n : ℕ) (at : Rows) (k : ℤ) (of : Of) → map (made term) (of_terms part n at k of) ≡ of_terms term n at k of
of_made term n at k One = refl
of_made term n at k Credit = refl
of_made term n at k (W t) = refl
of_made term n at k (A f t) = flow_made term k (of_arrivals (row_at at t)) n f
of_made term n at k (S f t) = flow_made term k (of_service (row_at at t)) n f
of_made term n at k (L f t) = flow_made term k (of_losses (row_at at t)) n f
of_made term n at k (X j f t) = refl

lin_made : {T : Type 0} (term : ℤ → Subject → T) (n : ℕ) (at : Rows) (side : Side) (scale : ℕ) (ts : List QTerm)
    → map (made term) (lin_terms part n at side scale ts) ≡ lin_terms term n at side scale ts
lin_made term n at side scale ts =
    flat_map_made term (term_terms part n at side scale) (term_terms term n at side scale) (λ t. of_made term n at (scaled side scale t.coef) t.of) ts

leaf_made : {T : Type 0} (term : ℤ → Subject → T) (n : ℕ) (at : Rows) (l : Comparison) → remade term (leaf_claim part n at l) ≡ leaf_claim term n at l
leaf_made {T} term n at (compares left rel right) =
    let m : ℕ = scale_of_two left right in
    ap (λ ts. let c : Compared T = record { terms = ts; rel = rel } in c)
    (map-append (made term) (lin_terms part n at Left m left.terms) (lin_terms part n at Right m right.terms)
    ∙ ap (λ ts. ts ++ map (made term) (lin_terms part n at Right m right.terms)) (lin_made term n at Left m left.terms)
    ∙ ap (λ ts. lin_terms term n at Left m left.terms ++ ts) (lin_made term n at Right m right.terms))

pub condition_made : {T : Type 0} (term : ℤ → Subject → T) (n : ℕ) (at : Rows) (c : Condition)
    → with_terms (made term) (condition_claim part n at c) ≡ condition_claim term n at c
condition_made term n at c = leaves_made term (leaf_claim part n at) (leaf_claim term n at) (leaf_made term n at) c

-- ---- over the shape

-- the shape has what a name stands for
pub record HasCount (s : Shape) (at : Rows) (f t : ℕ) : Type 0 where
  pub flow_to : f ≤ s.flows
  pub row_in : row_at at t < row_count s

abbrev pub HasOf : Shape → Rows → Of → Type 0
HasOf s at One = Unit {0}
HasOf s at Credit = Unit {0}
HasOf s at (W t) = row_at at t < row_count s
HasOf s at (A f t) = HasCount s at f t
HasOf s at (S f t) = HasCount s at f t
HasOf s at (L f t) = HasCount s at f t
HasOf s at (X j f t) = HasFlow s (row_at at t) f × (j < state_count s (row_at at t))

flow_in : (s : Shape) (k : ℤ) (of : ℕ → Subject) (f : ℕ) → f ≤ s.flows → ((g : ℕ) → 1 ≤ g → g ≤ s.flows → IsIn s (of g)) → EachIn s (flow_terms part k of s.flows f)
flow_in s k of zero to each = each_flow_in s (λ f. part k (of f) ∷ []) s.flows (λ g from most. (each g from most, tt))
flow_in s k of (suc f) to each = (each (suc f) (some f) to, tt)
  where
    some : (f : ℕ) → 1 ≤ suc f
    some f = omega arith

has_flow : (s : Shape) (i f : ℕ) → i < row_count s → 1 ≤ f → f ≤ s.flows → HasFlow s i f
has_flow s i f row from to = record { row_in = row; flow_from = from; flow_to = to }

of_in : (s : Shape) (at : Rows) (k : ℤ) (of : Of) → HasOf s at of → EachIn s (of_terms part s.flows at k of)
of_in s at k One has = (tt, tt)
of_in s at k Credit has = (tt, tt)
of_in s at k (W t) has = (has, tt)
of_in s at k (A f t) has = flow_in s k (of_arrivals (row_at at t)) f has.flow_to (λ g from to. has_flow s (row_at at t) g has.row_in from to)
of_in s at k (S f t) has = flow_in s k (of_service (row_at at t)) f has.flow_to (λ g from to. has_flow s (row_at at t) g has.row_in from to)
of_in s at k (L f t) has = flow_in s k (of_losses (row_at at t)) f has.flow_to (λ g from to. has_flow s (row_at at t) g has.row_in from to)
of_in s at k (X j f t) has = (has, tt)

abbrev pub AreOf : Shape → Rows → List QTerm → Type 0
AreOf s at ts = All (λ (t : QTerm). HasOf s at t.of) ts

abbrev pub ComparisonIn : Shape → Rows → Comparison → Type 0
ComparisonIn s at (compares left rel right) = AreOf s at left.terms × AreOf s at right.terms

lin_in : (s : Shape) (at : Rows) (side : Side) (scale : ℕ) (ts : List QTerm) → AreOf s at ts → EachIn s (lin_terms part s.flows at side scale ts)
lin_in s at side scale ts are =
    flat_map_in s (λ (t : QTerm). HasOf s at t.of) (term_terms part s.flows at side scale) (λ t has. of_in s at (scaled side scale t.coef) t.of has) ts are

leaf_in : (s : Shape) (at : Rows) (l : Comparison) → ComparisonIn s at l → EachIn s (leaf_claim part s.flows at l).terms
leaf_in s at (compares left rel right) are =
    let m : ℕ = scale_of_two left right in
    both_in s (lin_terms part s.flows at Left m left.terms) (lin_terms part s.flows at Right m right.terms)
    (lin_in s at Left m left.terms are.0) (lin_in s at Right m right.terms are.1)

pub condition_over : (s : Shape) (at : Rows) (c : Condition) → EachLeaf (ComparisonIn s at) c → IsOver s (condition_claim part s.flows at c)
condition_over s at c are = leaves_over s (ComparisonIn s at) (leaf_claim part s.flows at) (leaf_in s at) c are
