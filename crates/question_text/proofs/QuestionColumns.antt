-- A question's claims hold in a run exactly where it violates the question, and over columns exactly where the run of these
-- columns does.
use Rattle.std.proofs.Common.{◌≡◌, ℕ, ◌+◌, ◌-◌, ◌<◌, ◌≤◌, ℤ, pos, ◌≤ℤ◌, List, [], ◌∷◌, ◌++◌, get_or, length, map, sym, ◌∙◌, ap, subst, arith}
use Rattle.std.specs.Prelude.{All}
use Rattle.std.proofs.lemmas.List.Elements.{All-append, All-cons, All-head, All-map, All-nil, All-weaker}
use Rattle.condition_tree.specs.Trees.{opposite}
use Rattle.condition_tree.proofs.Trees.{each_leaf_gives}
use Rattle.claims.specs.Subjects.{Part, Subject, Symbolic, at, in_run, made, part, with_terms, with_values}
use Rattle.claims.specs.Columns.{IsOver, column_value, run_of}
use Rattle.claims.proofs.Made.{claim_made, claim_read}
use Rattle.weighing.specs.Claim.{Claim, Holds}
use Rattle.run_rows.specs.Columns.{rows_of as row_count, value_at}
use Rattle.run_rows.specs.Runs.{Shaped, flow_count, state_count}
use Rattle.run_rows.specs.declared.rows.Run.{Run}
use Rattle.run_rows.specs.declared.shapes.Shape.{Shape}
use Rattle.run_rows.proofs.EntryPlaces.{state_count_after}
use Rattle.path_server.proofs.RuleLaws.{Means}
use Rattle.path_server.specs.Shapes.{shape_of}
use Rattle.path_server.specs.declared.settings.Setting.{Setting}
use Rattle.claim_values.proofs.ClaimLists.{both_halves, each_of_map, joined_made, maps_agree, maps_made}
use Rattle.claim_values.proofs.MadeShape.{made_shape}
use Rattle.question_text.specs.Claims.{CanCompare, CanTake, CanUnroll, assumed_claim, question_claims, rows_for}
use Rattle.question_text.specs.Conditions.{Comparison, Condition, Sides, compares, condition_of}
use Rattle.question_text.specs.Expressions.{condition_claim}
use Rattle.question_text.specs.Limits.{IsName, IsTerm}
use Rattle.question_text.specs.Meaning.{HoldsIn, Violates}
use Rattle.question_text.specs.NameMeanings.{row_at}
use Rattle.question_text.specs.Violation.{rows_of}
use Rattle.question_text.specs.declared.names.Rows.{Rows}
use Rattle.question_text.specs.declared.conditions.Of.{Of}
use Rattle.question_text.specs.declared.conditions.Of.TheVariants.{One, Credit, W, A, S, L, X}
use Rattle.question_text.specs.declared.conditions.QCond.{QCond}
use Rattle.question_text.specs.declared.conditions.QLin.{QLin}
use Rattle.question_text.specs.declared.conditions.QTerm.{QTerm}
use Rattle.question_text.specs.declared.questions.Question.{Question}
use Rattle.question_text.proofs.Columns.{AreOf, ComparisonIn, HasOf, condition_made, condition_over}
use Rattle.question_text.proofs.Laws.{condition_means}

-- ---- in a run

-- the claims hold exactly where the run violates the question
pub question_means : (q : Question) (r : Run) → Means (All Holds (question_claims (in_run r) (flow_count r 0) (rows_of q r) q)) (Violates q r)
question_means q r = (there, back)
  where
    claim : QCond → Claim
    claim c = assumed_claim (in_run r) (flow_count r 0) (rows_of q r) c

    there : All Holds (question_claims (in_run r) (flow_count r 0) (rows_of q r) q) → Violates q r
    there h =
        let halves = both_halves Holds (map claim q.assumes) (opposite (claim q.require) ∷ []) h in
        record {
          assumed = All-weaker (λ c. Holds (claim c)) (HoldsIn q r) (λ c. (condition_means r (rows_of q r) (condition_of c)).0) q.assumes
              (each_of_map Holds claim q.assumes halves.0);
          broken = λ p. (All-head Holds (opposite (claim q.require)) [] halves.1) ((condition_means r (rows_of q r) (condition_of q.require)).1 p);
        }

    back : Violates q r → All Holds (question_claims (in_run r) (flow_count r 0) (rows_of q r) q)
    back v =
        All-append Holds (map claim q.assumes) (opposite (claim q.require) ∷ [])
        (All-map Holds claim q.assumes
        (All-weaker (HoldsIn q r) (λ c. Holds (claim c)) (λ c. (condition_means r (rows_of q r) (condition_of c)).1) q.assumes v.assumed))
        (All-cons Holds (opposite (claim q.require)) [] (λ h. v.broken ((condition_means r (rows_of q r) (condition_of q.require)).0 h)) (All-nil Holds))

-- ---- by any terms

pub question_made : {T : Type 0} (term : ℤ → Subject → T) (n : ℕ) (at : Rows) (q : Question)
    → map (with_terms (made term)) (question_claims part n at q) ≡ question_claims term n at q
question_made term n at q =
    joined_made (with_terms (made term)) (map (assumed_claim part n at) q.assumes) (opposite (assumed_claim part n at q.require) ∷ []) _ _
    (maps_made (with_terms (made term)) (assumed_claim part n at) (assumed_claim term n at) (λ c. condition_made term n at (condition_of c)) q.assumes)
    (ap (λ d. opposite d ∷ []) (condition_made term n at (condition_of q.require)))

-- ---- over the shape

-- the shape of the setting's runs, with so many states
abbrev pub shape_with : Question → ℕ → ℕ → Shape
shape_with q states delay_max = shape_of q.setting states delay_max

pub name_in : (s : Setting) (states delay_max : ℕ) (of : Of) → IsName states s of → HasOf (shape_of s states delay_max) (rows_for (shape_of s states delay_max)) of
name_in s states delay_max One is = tt
name_in s states delay_max Credit is = tt
name_in s states delay_max (W t) is = omega arith
name_in s states delay_max (A f t) is = record { flow_to = is.flow_to; row_in = let to = is.step_to in omega arith }
name_in s states delay_max (S f t) is = record { flow_to = is.flow_to; row_in = let to = is.step_to in omega arith }
name_in s states delay_max (L f t) is = record { flow_to = is.flow_to; row_in = let to = is.step_to in omega arith }
name_in s states delay_max (X j f t) is =
    let shape : Shape = shape_of s states delay_max in
    let count = state_count_after shape (row_at (rows_for shape) t) (omega arith) in
    let among = is.state_in in
    let to = is.step_to in
    (record { row_in = omega arith; flow_from = is.flow_from; flow_to = is.flow_to }, omega (arith, count, among))

names_in : (s : Setting) (states delay_max : ℕ) (ts : List QTerm) → All (IsTerm states s) ts → AreOf (shape_of s states delay_max) (rows_for (shape_of s states delay_max)) ts
names_in s states delay_max ts each = λ k d inside. name_in s states delay_max (let t : QTerm = get_or ts k d in t.of) (each k d inside).name_in

condition_in : (s : Setting) (states delay_max : ℕ) (c : Condition) → CanTake states s c
    → IsOver (shape_of s states delay_max) (condition_claim part s.flows (rows_for (shape_of s states delay_max)) c)
condition_in s states delay_max c can =
    condition_over (shape_of s states delay_max) (rows_for (shape_of s states delay_max)) c
    (each_leaf_gives (Sides (CanCompare states s)) (ComparisonIn (shape_of s states delay_max) (rows_for (shape_of s states delay_max))) c by can)
  where
    by : (l : Comparison) → Sides (CanCompare states s) l → ComparisonIn (shape_of s states delay_max) (rows_for (shape_of s states delay_max)) l
    by (compares left rel right) each =
        (names_in s states delay_max left.terms each.left_in.terms_in, names_in s states delay_max right.terms each.right_in.terms_in)

-- the claims name entries of the shape alone
pub question_over : (q : Question) (states delay_max : ℕ) → CanUnroll states q
    → All (IsOver (shape_with q states delay_max)) (question_claims part q.setting.flows (rows_for (shape_with q states delay_max)) q)
question_over q states delay_max can =
    let s : Shape = shape_with q states delay_max in
    let claim : QCond → Symbolic = assumed_claim part q.setting.flows (rows_for s) in
    All-append (IsOver s) (map claim q.assumes) (opposite (claim q.require) ∷ [])
    (All-map (IsOver s) claim q.assumes
    (All-weaker (λ c. CanTake states q.setting (condition_of c)) (λ c. IsOver s (claim c)) (λ c. condition_in q.setting states delay_max (condition_of c)) q.assumes can.assumes_in))
    (All-cons (IsOver s) (opposite (claim q.require)) [] (condition_in q.setting states delay_max (condition_of q.require) can.require_in) (All-nil (IsOver s)))

-- ---- over columns

same_rows : (a b c d : ℕ) → a ≡ c → b ≡ d → (let x : Rows = record { opening = a; last = b } in x) ≡ record { opening = c; last = d }
same_rows a b c d one two =
    ap (λ n. let x : Rows = record { opening = n; last = b } in x) one ∙ ap (λ n. let x : Rows = record { opening = c; last = n } in x) two

-- a run of the shape has its steps on the shape's rows
pub rows_are_for : (q : Question) (states delay_max : ℕ) (r : Run) → Shaped (shape_with q states delay_max) r → rows_of q r ≡ rows_for (shape_with q states delay_max)
rows_are_for q states delay_max r shaped = let rows = shaped.row_count in same_rows _ _ _ _ (omega (arith, rows)) (omega (arith, rows))

pub flows_are_for : (q : Question) (states delay_max : ℕ) (r : Run) → Shaped (shape_with q states delay_max) r → flow_count r 0 ≡ q.setting.flows
flows_are_for q states delay_max r shaped = let rows = shaped.row_count in (shaped.each_row 0 (omega (arith, rows))).flow_count

-- where the written claims are those of the run, they hold exactly where it violates the question
question_says : (q : Question) (states delay_max : ℕ) (r : Run) (v : Subject → ℤ) → CanUnroll states q → Shaped (shape_with q states delay_max) r
    → ((d : Symbolic) → IsOver (shape_with q states delay_max) d → at r d ≡ with_values v d)
    → Means (All Holds (map (with_values v) (question_claims part q.setting.flows (rows_for (shape_with q states delay_max)) q))) (Violates q r)
question_says q states delay_max r v can shaped same =
    let s : Shape = shape_with q states delay_max in
    let claims : List Symbolic = question_claims part q.setting.flows (rows_for s) q in
    let law = question_means q r in
    let written : question_claims (in_run r) (flow_count r 0) (rows_of q r) q ≡ map (with_values v) claims =
    ap (λ n. question_claims (in_run r) n (rows_of q r) q) (flows_are_for q states delay_max r shaped)
    ∙ ap (λ rows. question_claims (in_run r) q.setting.flows rows q) (rows_are_for q states delay_max r shaped)
    ∙ sym (question_made (in_run r) q.setting.flows (rows_for s) q)
    ∙ maps_agree (IsOver s) (at r) (with_values v) same claims (question_over q states delay_max can) in
    (λ h. law.0 (subst (All Holds) (sym written) h), λ h. subst (All Holds) written (law.1 h))

-- of the run that is made of columns
pub question_meets : (q : Question) (states delay_max : ℕ) (value : ℕ → ℤ) (den : ℤ) → CanUnroll states q → pos 1 ≤ℤ den
    → Means (All Holds (map (with_values (column_value (shape_with q states delay_max) value den)) (question_claims part q.setting.flows (rows_for (shape_with q states delay_max)) q)))
    (Violates q (run_of (shape_with q states delay_max) value den))
question_meets q states delay_max value den can some =
    let s : Shape = shape_with q states delay_max in
    question_says q states delay_max (run_of s value den) (column_value s value den) can (made_shape s value den some) (λ d over. claim_made s value den d over)

-- of a run, at the values of its columns
pub question_read : (q : Question) (states delay_max : ℕ) (r : Run) → CanUnroll states q → Shaped (shape_with q states delay_max) r
    → Means (All Holds (map (with_values (column_value (shape_with q states delay_max) (value_at (shape_with q states delay_max) r) r.over)) (question_claims part q.setting.flows (rows_for (shape_with q states delay_max)) q)))
    (Violates q r)
question_read q states delay_max r can shaped =
    let s : Shape = shape_with q states delay_max in
    question_says q states delay_max r (column_value s (value_at s r) r.over) can shaped (λ d over. claim_read s r d over)
