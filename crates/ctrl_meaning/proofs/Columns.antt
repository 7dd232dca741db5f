-- A controller's claims over columns: those by any terms are the written claims with these terms, and name entries of the
-- shape alone.
use Rattle.std.proofs.Common.{◌≡◌, ℕ, ◌-◌, ◌<◌, ◌≤◌, ℤ, pos, neg_ℤ, Option, Some, None, List, ◌∷◌, ◌++◌, map, refl, ◌∙◌, ap, arith}
use Rattle.std.specs.Prelude.{All}
use Rattle.std.proofs.lemmas.List.{map-append}
use Rattle.condition_tree.specs.Trees.{EachLeaf}
use Rattle.weighing.specs.Claim.{Compared, all_claims, compare}
use Rattle.weighing.specs.Scaled.{scaled}
use Rattle.weighing.specs.declared.scales.Side.{Side}
use Rattle.weighing.specs.declared.scales.Side.TheVariants.{Left, Right}
use Rattle.weighing.specs.declared.weighings.Rel5.TheVariants.{Equal}
use Rattle.run_rows.specs.Columns.{HasFlow, rows_of}
use Rattle.run_rows.specs.Runs.{state_count}
use Rattle.run_rows.specs.declared.shapes.Shape.{Shape}
use Rattle.claims.specs.Subjects.{Subject, constant, made, of_arrivals, of_service, of_state, part, with_terms}
use Rattle.claims.specs.Columns.{EachIn, IsOver}
use Rattle.claims.proofs.Made.{both_in}
use Rattle.claims.proofs.Leaves.{flat_map_in, flat_map_made, leaves_made, leaves_over, remade}
use Rattle.ctrl_types.specs.Limits.{IsSource}
use Rattle.ctrl_types.specs.Tests.{Leaf, Test, compares, delayed}
use Rattle.ctrl_types.specs.declared.controllers.State.{State}
use Rattle.ctrl_types.specs.declared.expressions.Lin.{Lin}
use Rattle.ctrl_types.specs.declared.expressions.LinTerm.{LinTerm}
use Rattle.ctrl_types.specs.declared.expressions.Source.{Source}
use Rattle.ctrl_types.specs.declared.expressions.Source.TheVariants.{One, State as StateSource, Acked, Lost}
use Rattle.ctrl_meaning.specs.Expressions.{lin_terms, scale_of_two, scale_with, source_terms, term_terms}
use Rattle.ctrl_meaning.specs.Guards.{leaf_claim, test_claim}
use Rattle.ctrl_meaning.specs.Opening.{range_claims}
use Rattle.ctrl_meaning.specs.Readings.{losses_heard}
use Rattle.ctrl_meaning.specs.Sends.{growth_terms, paced_claim, rate_terms, send_claim, unpaced_claim, window_terms}
use Rattle.ctrl_meaning.specs.Steps.{set_claim}
use Rattle.ctrl_meaning.specs.declared.readings.ReadPoint.{ReadPoint}

-- ---- by any terms

source_made : {T : Type 0} (term : ℤ → Subject → T) (at : ReadPoint) (k : ℤ) (of : Source) → map (made term) (source_terms part at k of) ≡ source_terms term at k of
source_made term at k One = refl
source_made term at k (StateSource j) = refl
source_made term at k Acked = refl
source_made term at k Lost = refl

lin_made : {T : Type 0} (term : ℤ → Subject → T) (at : ReadPoint) (side : Side) (scale : ℕ) (ts : List LinTerm)
    → map (made term) (lin_terms part at side scale ts) ≡ lin_terms term at side scale ts
lin_made term at side scale ts =
    flat_map_made term (term_terms part at side scale) (term_terms term at side scale) (λ t. source_made term at (scaled side scale t.coef) t.of) ts

leaf_made : {T : Type 0} (term : ℤ → Subject → T) (at : ReadPoint) (l : Leaf Lin ℕ) → remade term (leaf_claim part at l) ≡ leaf_claim term at l
leaf_made {T} term at (compares left rel right) =
    let m : ℕ = scale_of_two left right in
    ap (λ ts. let c : Compared T = record { terms = ts; rel = rel } in c)
    (map-append (made term) (lin_terms part at Left m left.terms) (lin_terms part at Right m right.terms)
    ∙ ap (λ ts. ts ++ map (made term) (lin_terms part at Right m right.terms)) (lin_made term at Left m left.terms)
    ∙ ap (λ ts. lin_terms term at Left m left.terms ++ ts) (lin_made term at Right m right.terms))
leaf_made term at (delayed k) = refl

pub test_made : {T : Type 0} (term : ℤ → Subject → T) (at : ReadPoint) (t : Test) → with_terms (made term) (test_claim part at t) ≡ test_claim term at t
test_made term at t = leaves_made term (leaf_claim part at) (leaf_claim term at) (leaf_made term at) t

pub set_made : {T : Type 0} (term : ℤ → Subject → T) (at : ReadPoint) (j : ℕ) (o : Option Lin) → with_terms (made term) (set_claim part at j o) ≡ set_claim term at j o
set_made term at j None = refl
set_made term at j (Some lin) =
    let m : ℕ = scale_with 1 lin.terms in
    ap (λ ts. compare (term (pos m) (of_state at.row at.flow j) ∷ ts) Equal) (lin_made term at Right m lin.terms)

window_made : {T : Type 0} (term : ℤ → Subject → T) (at : ReadPoint) (window : Lin) → map (made term) (window_terms part at window) ≡ window_terms term at window
window_made term at window =
    let m : ℕ = scale_with 1 window.terms in
    ap (λ ts. term (pos m) (of_arrivals at.row at.flow) ∷ term (neg_ℤ (pos m)) (of_service at.heard at.flow) ∷ term (neg_ℤ (pos m)) (losses_heard at) ∷ ts)
    (lin_made term at Right m window.terms)

rate_made : {T : Type 0} (term : ℤ → Subject → T) (at : ReadPoint) (rate : Lin) → map (made term) (rate_terms part at rate) ≡ rate_terms term at rate
rate_made term at rate =
    let m : ℕ = scale_with 1 rate.terms in
    ap (λ ts. term (pos m) (of_arrivals at.row at.flow) ∷ term (neg_ℤ (pos m)) (of_arrivals (at.row - 1) at.flow) ∷ ts) (lin_made term at Right m rate.terms)

pub send_made : {T : Type 0} (term : ℤ → Subject → T) (at : ReadPoint) (window : Lin) (rate : Option Lin)
    → with_terms (made term) (send_claim part at window rate) ≡ send_claim term at window rate
send_made term at window None = ap (unpaced_claim (growth_terms term at)) (window_made term at window)
send_made term at window (Some rate) =
    ap (λ ts. paced_claim (growth_terms term at) ts (map (made term) (rate_terms part at rate))) (window_made term at window)
    ∙ ap (paced_claim (growth_terms term at) (window_terms term at window)) (rate_made term at rate)

-- ---- over the shape

-- the shape has the rows and the flow
pub record IsReadingOf (s : Shape) (at : ReadPoint) : Type 0 where
  pub row_in : at.row < rows_of s
  pub states_in : at.states < rows_of s
  pub heard_in : at.heard < rows_of s
  pub flow_from : 1 ≤ at.flow
  pub flow_to : at.flow ≤ s.flows

flow_on : (s : Shape) (at : ReadPoint) (i : ℕ) → IsReadingOf s at → i < rows_of s → HasFlow s i at.flow
flow_on s at i is row = record { row_in = row; flow_from = is.flow_from; flow_to = is.flow_to }

row_back : (s : Shape) (i d : ℕ) → i < rows_of s → i - d < rows_of s
row_back s i d row = omega arith

-- each term's source is one that the shape has
abbrev pub AreSources : Shape → ReadPoint → List LinTerm → Type 0
AreSources s at ts = All (λ (t : LinTerm). IsSource (state_count s at.states) t.of) ts

source_in : (s : Shape) (at : ReadPoint) (k : ℤ) (of : Source) → IsReadingOf s at → IsSource (state_count s at.states) of → EachIn s (source_terms part at k of)
source_in s at k One is of_in = (tt, tt)
source_in s at k (StateSource j) is of_in = ((flow_on s at at.states is is.states_in, of_in), tt)
source_in s at k Acked is of_in = (flow_on s at at.heard is is.heard_in, (flow_on s at (at.heard - 1) is (row_back s at.heard 1 is.heard_in), tt))
source_in s at k Lost is of_in = (flow_on s at at.heard is is.heard_in, (flow_on s at (at.heard - 1) is (row_back s at.heard 1 is.heard_in), tt))

lin_in : (s : Shape) (at : ReadPoint) (side : Side) (scale : ℕ) (ts : List LinTerm) → IsReadingOf s at → AreSources s at ts → EachIn s (lin_terms part at side scale ts)
lin_in s at side scale ts is sources =
    flat_map_in s (λ (t : LinTerm). IsSource (state_count s at.states) t.of) (term_terms part at side scale)
    (λ t of_in. source_in s at (scaled side scale t.coef) t.of is of_in) ts sources

-- a leaf's sources are the shape's
abbrev pub LeafIn : Shape → ReadPoint → Leaf Lin ℕ → Type 0
LeafIn s at (compares left rel right) = AreSources s at left.terms × AreSources s at right.terms
LeafIn s at (delayed k) = Unit {0}

leaf_in : (s : Shape) (at : ReadPoint) → IsReadingOf s at → (l : Leaf Lin ℕ) → LeafIn s at l → EachIn s (leaf_claim part at l).terms
leaf_in s at is (compares left rel right) sources =
    let m : ℕ = scale_of_two left right in
    both_in s (lin_terms part at Left m left.terms) (lin_terms part at Right m right.terms)
    (lin_in s at Left m left.terms is sources.0) (lin_in s at Right m right.terms is sources.1)
leaf_in s at is (delayed k) _ =
    let then = flow_on s at (at.heard - k) is (row_back s at.heard k is.heard_in) in
    (then, (then, (flow_on s at at.heard is is.heard_in, tt)))

pub test_over : (s : Shape) (at : ReadPoint) (t : Test) → IsReadingOf s at → EachLeaf (LeafIn s at) t → IsOver s (test_claim part at t)
test_over s at t is sources = leaves_over s (LeafIn s at) (leaf_claim part at) (leaf_in s at is) t sources

abbrev pub OptionIn : Shape → ReadPoint → Option Lin → Type 0
OptionIn s at None = Unit {0}
OptionIn s at (Some lin) = AreSources s at lin.terms

pub set_over : (s : Shape) (at : ReadPoint) (j : ℕ) (o : Option Lin) → IsReadingOf s at → j < state_count s at.row → j < state_count s at.states
    → OptionIn s at o → IsOver s (set_claim part at j o)
set_over s at j None is here before sources =
    ((flow_on s at at.row is is.row_in, here), ((flow_on s at at.states is is.states_in, before), tt))
set_over s at j (Some lin) is here before sources =
    let m : ℕ = scale_with 1 lin.terms in
    ((flow_on s at at.row is is.row_in, here), lin_in s at Right m lin.terms is sources)

growth_in : (s : Shape) (at : ReadPoint) → IsReadingOf s at → EachIn s (growth_terms part at)
growth_in s at is = (flow_on s at at.row is is.row_in, (flow_on s at (at.row - 1) is (row_back s at.row 1 is.row_in), tt))

window_in : (s : Shape) (at : ReadPoint) (window : Lin) → IsReadingOf s at → AreSources s at window.terms → EachIn s (window_terms part at window)
window_in s at window is sources =
    let m : ℕ = scale_with 1 window.terms in
    let heard = flow_on s at at.heard is is.heard_in in
    (flow_on s at at.row is is.row_in, (heard, (heard, lin_in s at Right m window.terms is sources)))

rate_in : (s : Shape) (at : ReadPoint) (rate : Lin) → IsReadingOf s at → AreSources s at rate.terms → EachIn s (rate_terms part at rate)
rate_in s at rate is sources =
    let m : ℕ = scale_with 1 rate.terms in
    (flow_on s at at.row is is.row_in, (flow_on s at (at.row - 1) is (row_back s at.row 1 is.row_in), lin_in s at Right m rate.terms is sources))

pub send_over : (s : Shape) (at : ReadPoint) (window : Lin) (rate : Option Lin) → IsReadingOf s at → AreSources s at window.terms → OptionIn s at rate
    → IsOver s (send_claim part at window rate)
send_over s at window None is sources _ =
    let growth = growth_in s at is in
    let allowed = window_in s at window is sources in (growth, (allowed, (growth, allowed)))
send_over s at window (Some rate) is sources others =
    let growth = growth_in s at is in
    let allowed = window_in s at window is sources in
    let paced = rate_in s at rate is others in
    ((growth, allowed), ((growth, paced), ((growth, allowed), (growth, paced))))

pub range_over : (s : Shape) (st : State) (row flow j : ℕ) → HasFlow s row flow → j < state_count s row
    → IsOver s (all_claims (range_claims part st (of_state row flow j) constant))
range_over s st row flow j has among = (((has, among), (tt, tt)), ((has, among), (tt, tt)))
