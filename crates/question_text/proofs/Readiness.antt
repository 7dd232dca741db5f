-- A question within its limits can be weighed on each run that it can be asked of.
use Rattle.std.proofs.Common.{◌≡◌, ℕ, ◌+◌, ◌-◌, ◌<◌, ◌≤◌, false, List, get_or, length, if◌then◌else◌, ◌∙◌, ap, arith}
use Rattle.std.specs.Prelude.{All, nat_lt}
use Rattle.std.proofs.lemmas.Bool.Decides.{nat_tests}
use Rattle.run_rows.specs.Runs.{IsRun, Shaped, flow_count, flow_of, no_flow, state_count}
use Rattle.run_rows.specs.declared.rows.Run.{Run}
use Rattle.run_rows.specs.declared.shapes.Shape.{Shape}
use Rattle.path_server.specs.Shapes.{shape_of}
use Rattle.path_server.specs.declared.settings.Setting.{Setting}
use Rattle.condition_tree.proofs.Trees.{each_leaf_gives}
use Rattle.question_text.specs.Conditions.{Condition, Comparison, Sides, compares, condition_of}
use Rattle.question_text.specs.Expressions.{CanCompare, CanTake, CanWeigh}
use Rattle.question_text.specs.Limits.{CanAsk, IsComparison, IsCondition, IsName, IsTerm}
use Rattle.question_text.specs.NameMeanings.{IsOf, row_at}
use Rattle.question_text.specs.Violation.{assumptions, rows_of}
use Rattle.question_text.specs.declared.names.Rows.{Rows}
use Rattle.question_text.specs.declared.conditions.Of.{Of}
use Rattle.question_text.specs.declared.conditions.Of.TheVariants.{One, Credit, W, A, S, L, X}
use Rattle.question_text.specs.declared.conditions.QLin.{QLin}
use Rattle.question_text.specs.declared.conditions.QTerm.{QTerm}
use Rattle.question_text.specs.declared.questions.Question.{Question}

not_less : (a b : ℕ) → b ≤ a → nat_lt a b ≡ false
not_less a b most = grind (arith, nat_tests, most)

-- on the opening row and later each flow has the shape's states
states_there : (shape : Shape) (r : Run) (i f : ℕ) → Shaped shape r → 1 ≤ f → f ≤ shape.flows → shape.h ≤ i → i < length r.rows
    → length (flow_of r i f).x ≡ shape.states
states_there shape r i f fits from to later inside =
    let row = fits.each_row i inside in
    row.each_flow (f - 1) no_flow (let count = row.flow_count in omega arith) ∙ ap (λ b. if b then 0 else shape.states) (not_less i shape.h later)

-- the rows, flows and states that a question may name stand in the run
record Standing (states : ℕ) (s : Setting) (r : Run) (at : Rows) : Type 0 where
  rows : (t : ℕ) → t ≤ s.steps → row_at at t < length r.rows
  flows : flow_count r 0 ≡ s.flows
  states_at : (f t : ℕ) → 1 ≤ f → f ≤ s.flows → t ≤ s.steps → length (flow_of r (row_at at t) f).x ≡ states

at_most : (f n m : ℕ) → f ≤ n → m ≡ n → f ≤ m
at_most f n m most same = omega arith

below : (j n m : ℕ) → j < n → m ≡ n → j < m
below j n m less same = omega arith

name_ready : (states : ℕ) (s : Setting) (r : Run) (at : Rows) (of : Of) → Standing states s r at → IsName states s of → IsOf r at of
name_ready states s r at One stand is = tt
name_ready states s r at Credit stand is = tt
name_ready states s r at (W t) stand is = stand.rows t is
name_ready states s r at (A f t) stand is =
    record { flow_to = at_most f s.flows (flow_count r 0) is.flow_to stand.flows; row_in = stand.rows t is.step_to }
name_ready states s r at (S f t) stand is =
    record { flow_to = at_most f s.flows (flow_count r 0) is.flow_to stand.flows; row_in = stand.rows t is.step_to }
name_ready states s r at (L f t) stand is =
    record { flow_to = at_most f s.flows (flow_count r 0) is.flow_to stand.flows; row_in = stand.rows t is.step_to }
name_ready states s r at (X j f t) stand is = record {
  flow_from = is.flow_from;
  flow_to = at_most f s.flows (flow_count r 0) is.flow_to stand.flows;
  row_in = stand.rows t is.step_to;
  state_in = below j states (length (flow_of r (row_at at t) f).x) is.state_in (stand.states_at f t is.flow_from is.flow_to is.step_to);
}

terms_ready : (states : ℕ) (s : Setting) (r : Run) (at : Rows) (ts : List QTerm) → Standing states s r at → All (IsTerm states s) ts
    → All (CanTake r at) ts
terms_ready states s r at ts stand each = λ k d inside. record {
  coef_in = (each k d inside).coef_in;
  of_in = name_ready states s r at (get_or ts k d).of stand (each k d inside).name_in;
}

comparison_ready : (states : ℕ) (s : Setting) (r : Run) (at : Rows) (left right : QLin) → Standing states s r at
    → IsComparison states s left right → CanCompare r at left right
comparison_ready states s r at left right stand is = record {
  left_in = terms_ready states s r at left.terms stand is.left_in;
  right_in = terms_ready states s r at right.terms stand is.right_in;
  scale_to = is.scale_to;
}

condition_ready : (states : ℕ) (s : Setting) (r : Run) (at : Rows) (c : Condition) → Standing states s r at
    → IsCondition states s c → CanWeigh r at c
condition_ready states s r at c stand is = each_leaf_gives (Sides (IsComparison states s)) (Sides (CanCompare r at)) c by is
  where
    by : (l : Comparison) → Sides (IsComparison states s) l → Sides (CanCompare r at) l
    by (compares left rel right) each = comparison_ready states s r at left right stand each

standing : (q : Question) (r : Run) (ask : CanAsk q r) → Standing ask.states q.setting r (rows_of q r)
standing q r ask =
    let shape = shape_of q.setting ask.states ask.delay_max in
    let count = ask.run_in.shaped.row_count in
    record {
      rows = λ t to. omega arith;
      flows = (ask.run_in.shaped.each_row 0 (omega arith)).flow_count;
      states_at = λ f t from most to.
          states_there shape r (row_at (rows_of q r) t) f ask.run_in.shaped from most (omega arith) (omega arith);
    }

-- what the weighing of a question takes
pub record IsReady (q : Question) (r : Run) : Type 0 where
  pub run_in : IsRun r
  pub rows_from : q.setting.steps + 1 ≤ length r.rows
  pub rows_to : length r.rows ≤ 64
  pub assumes_in : CanWeigh r (rows_of q r) (assumptions q)
  pub require_in : CanWeigh r (rows_of q r) (condition_of q.require)

pub ready : (q : Question) (r : Run) → CanAsk q r → IsReady q r
ready q r ask =
    let set = ask.question_in.setting_in in
    let count = ask.run_in.shaped.row_count in
    record {
      run_in = record {
        shape = shape_of q.setting ask.states ask.delay_max;
        within = record {
          flows_from = set.flows_from;
          flows_to = set.flows_to;
          states_to = ask.states_to;
          h_from = let a = set.rtt_from in omega arith;
          h_to = let a = set.rtt_to in let b = ask.delay_to in omega arith;
          t_from = set.steps_from;
          t_to = set.steps_to;
        };
        fits = ask.run_in;
      };
      rows_from = omega arith;
      rows_to = let a = set.rtt_to in let b = ask.delay_to in let d = set.steps_to in omega arith;
      assumes_in = condition_ready ask.states q.setting r (rows_of q r) (assumptions q) (standing q r ask) ask.question_in.assumes_in;
      require_in = condition_ready ask.states q.setting r (rows_of q r) (condition_of q.require) (standing q r ask) ask.question_in.require_in;
    }
