-- What is claimed of a run, what it means, and which weighing stops it.
use Rattle.run_rows.specs.Runs.{flow_count}
use Rattle.claims.specs.Subjects.{in_run}
use Rattle.std.proofs.Common.{◌≡◌, ℕ, zero, suc, ℤ, pos, neg_ℤ, ◌+ℤ◌, ◌-ℤ◌, ◌*ℤ◌, ◌⊎◌, inl, inr, Bool, true, false, Result, Ok, Err, List, [], ◌∷◌, map, refl, sym, ◌∙◌, ap, arith}
use Rattle.std.specs.Prelude.{All}
use Rattle.std.proofs.lemmas.Int.{ints}
use Rattle.std.proofs.lemmas.List.Elements.{All-nil, All-cons, All-head, All-tail}
use Rattle.whole.specs.declared.answers.Stuck.{Stuck}
use Rattle.whole.proofs.Integers.{neg_ℤ-*ℤ}
use Rattle.weighing.specs.Claim.{Holds, total}
use Rattle.weighing.specs.Overflow.{Answers}
use Rattle.weighing.specs.Weighed.{times}
use Rattle.weighing.specs.declared.scales.Side.TheVariants.{Left, Right}
use Rattle.weighing.specs.declared.weighings.Rel5.{Rel5}
use Rattle.weighing.proofs.Claims.{outcome_answers}
use Rattle.run_rows.specs.declared.rows.Run.{Run}
use Rattle.path_server.proofs.RuleLaws.{Means}
use Rattle.path_server.proofs.Totals.{total-append, total-each_flow}
use Rattle.claim_values.specs.Values.{Compares, number}
use Rattle.claim_values.proofs.ClaimLists.{both_mean, either_means}
use Rattle.claim_values.proofs.ValueLaws.{stands_means}
use Rattle.question_text.specs.Conditions.{Condition, always, never, leaf, compares, opposite, end_of_all, all_of, end_of_any, any_of, condition_of, conjunction}
use Rattle.question_text.specs.Expressions.{comparison_claim, comparison_terms, condition_claim, lin_terms, scale_of_two, term_terms}
use Rattle.question_text.specs.Meaning.{IsFirstOverflow, IsTrueIn, NothingOverflows, Violates, value}
use Rattle.question_text.specs.NameMeanings.{amount, flow_amount, flow_terms, of_terms}
use Rattle.question_text.specs.Violation.{assumptions, rows_of, violation, violation_claim}
use Rattle.question_text.specs.declared.names.Rows.{Rows}
use Rattle.question_text.specs.declared.conditions.Of.{Of}
use Rattle.question_text.specs.declared.conditions.Of.TheVariants.{One, Credit, W, A, S, L, X}
use Rattle.question_text.specs.declared.conditions.QLin.{QLin}
use Rattle.question_text.specs.declared.conditions.QCond.{QCond}
use Rattle.question_text.specs.declared.conditions.QTerm.{QTerm}
use Rattle.question_text.specs.declared.questions.Question.{Question}

plus_none : (x : ℤ) → x +ℤ pos 0 ≡ x
plus_none x = omega (arith, ints)

-- a term is its factor times what its name stands for
flow_total : (k : ℤ) (entry : ℕ → ℤ) (n f : ℕ) → total (flow_terms times k entry n f) ≡ k *ℤ flow_amount entry n f
flow_total k entry n zero = total-each_flow k entry n
flow_total k entry n (suc f) = plus_none _

of_total : (r : Run) (at : Rows) (k : ℤ) (of : Of) → total (of_terms (in_run r) (flow_count r 0) at k of) ≡ k *ℤ amount r at of
of_total r at k One = plus_none _
of_total r at k Credit = plus_none _
of_total r at k (W t) = plus_none _
of_total r at k (A f t) = flow_total k _ _ f
of_total r at k (S f t) = flow_total k _ _ f
of_total r at k (L f t) = flow_total k _ _ f
of_total r at k (X j f t) = plus_none _

left_total : (r : Run) (at : Rows) (m : ℕ) (ts : List QTerm) → total (lin_terms (in_run r) (flow_count r 0) at Left m ts) ≡ value r at m ts
left_total r at m [] = refl
left_total r at m (t ∷ ts) =
    total-append (term_terms (in_run r) (flow_count r 0) at Left m t) (lin_terms (in_run r) (flow_count r 0) at Left m ts)
    ∙ ap (λ z. z +ℤ total (lin_terms (in_run r) (flow_count r 0) at Left m ts)) (of_total r at (number m t.coef) t.of)
    ∙ ap (λ z. (number m t.coef *ℤ amount r at t.of) +ℤ z) (left_total r at m ts)

turned_sum : (k a h l v : ℤ) → h ≡ neg_ℤ k *ℤ a → neg_ℤ k *ℤ a ≡ neg_ℤ (k *ℤ a) → l ≡ neg_ℤ v → h +ℤ l ≡ neg_ℤ ((k *ℤ a) +ℤ v)
turned_sum k a h l v one two three = omega (arith, ints)

right_total : (r : Run) (at : Rows) (m : ℕ) (ts : List QTerm) → total (lin_terms (in_run r) (flow_count r 0) at Right m ts) ≡ neg_ℤ (value r at m ts)
right_total r at m [] = omega (arith, ints)
right_total r at m (t ∷ ts) =
    let k : ℤ = number m t.coef in
    total-append (term_terms (in_run r) (flow_count r 0) at Right m t) (lin_terms (in_run r) (flow_count r 0) at Right m ts)
    ∙ turned_sum k (amount r at t.of) (total (term_terms (in_run r) (flow_count r 0) at Right m t)) (total (lin_terms (in_run r) (flow_count r 0) at Right m ts)) (value r at m ts)
    (of_total r at (neg_ℤ k) t.of) (neg_ℤ-*ℤ k (amount r at t.of)) (right_total r at m ts)

difference : (t l s x y : ℤ) → t ≡ l +ℤ s → l ≡ x → s ≡ neg_ℤ y → pos 1 *ℤ t ≡ x -ℤ y
difference t l s x y whole one two = omega (arith, ints)

comparison_means : (r : Run) (at : Rows) (left : QLin) (rel : Rel5) (right : QLin)
    → Means (Holds (leaf (comparison_claim (in_run r) (flow_count r 0) at left rel right)))
    (Compares rel (value r at (scale_of_two left right) left.terms) (value r at (scale_of_two left right) right.terms))
comparison_means r at left rel right =
    let m : ℕ = scale_of_two left right in
    stands_means rel (pos 1) (total (comparison_terms (in_run r) (flow_count r 0) at left right)) (value r at m left.terms) (value r at m right.terms)
    (omega (arith, ints))
    (difference (total (comparison_terms (in_run r) (flow_count r 0) at left right)) (total (lin_terms (in_run r) (flow_count r 0) at Left m left.terms)) (total (lin_terms (in_run r) (flow_count r 0) at Right m right.terms))
    (value r at m left.terms) (value r at m right.terms)
    (total-append (lin_terms (in_run r) (flow_count r 0) at Left m left.terms) (lin_terms (in_run r) (flow_count r 0) at Right m right.terms))
    (left_total r at m left.terms) (right_total r at m right.terms))

-- a condition's claim holds exactly where the condition is true
pub condition_means : (r : Run) (at : Rows) (c : Condition) → Means (Holds (condition_claim (in_run r) (flow_count r 0) at c)) (IsTrueIn r at c)
condition_means r at always = (λ h. tt, λ h. tt)
condition_means r at never = (λ h. h, λ h. h)
condition_means r at (leaf (compares left rel right)) = comparison_means r at left rel right
condition_means r at (opposite c) = let inner = condition_means r at c in (λ h p. h (inner.1 p), λ h p. h (inner.0 p))
condition_means r at end_of_all = (λ h. tt, λ h. tt)
condition_means r at (all_of c rest) =
    both_mean (Holds (condition_claim (in_run r) (flow_count r 0) at c)) (IsTrueIn r at c) (Holds (condition_claim (in_run r) (flow_count r 0) at rest)) (IsTrueIn r at rest)
    (condition_means r at c) (condition_means r at rest)
condition_means r at end_of_any = (λ h. h, λ h. h)
condition_means r at (any_of c rest) =
    either_means (Holds (condition_claim (in_run r) (flow_count r 0) at c)) (IsTrueIn r at c) (Holds (condition_claim (in_run r) (flow_count r 0) at rest)) (IsTrueIn r at rest)
    (condition_means r at c) (condition_means r at rest)

-- a conjunction is true exactly where each of its parts is
each_true : (r : Run) (at : Rows) (cs : List QCond) → IsTrueIn r at (conjunction (map condition_of cs))
    → All (λ c. IsTrueIn r at (condition_of c)) cs
each_true r at [] holds = All-nil (λ (c : QCond). IsTrueIn r at (condition_of c))
each_true r at (c ∷ cs) holds =
    let P : QCond → Type 0 = λ a. IsTrueIn r at (condition_of a) in All-cons P c cs holds.0 (each_true r at cs holds.1)

all_true : (r : Run) (at : Rows) (cs : List QCond) → All (λ c. IsTrueIn r at (condition_of c)) cs
    → IsTrueIn r at (conjunction (map condition_of cs))
all_true r at [] each = tt
all_true r at (c ∷ cs) each =
    let P : QCond → Type 0 = λ a. IsTrueIn r at (condition_of a) in (All-head P c cs each, all_true r at cs (All-tail P c cs each))

violation_means : (q : Question) (r : Run) → Means (Holds (violation_claim (in_run r) (flow_count r 0) (rows_of q r) q)) (Violates q r)
violation_means q r =
    let at : Rows = rows_of q r in
    let assumed = condition_means r at (assumptions q) in
    let required = condition_means r at (condition_of q.require) in (
      λ h. record { assumed = each_true r at q.assumes (assumed.0 h.0); broken = λ p. h.1 (required.1 p) },
      λ v. (assumed.1 (all_true r at q.assumes v.assumed), λ p. v.broken (required.0 p)),
    )

-- what is answered is whether the run violates the question, or the first operation that overflows
module _ (q : Question) (r : Run) where
  says : Answers (rows_of q r).last (violation_claim (in_run r) (flow_count r 0) (rows_of q r) q) (violation q r)
  unfolding violation
  says = outcome_answers (rows_of q r).last (violation_claim (in_run r) (flow_count r 0) (rows_of q r) q)

  pub violated_law : violation q r ≡ Ok true → NothingOverflows q r × Violates q r
  violated_law is = let both = says.holds.0 is in (both.0, (violation_means q r).0 both.1)

  pub violated_again : NothingOverflows q r → Violates q r → violation q r ≡ Ok true
  violated_again small violates = says.holds.1 (small, (violation_means q r).1 violates)

  pub kept_law : violation q r ≡ Ok false → NothingOverflows q r × (Violates q r → ⊥)
  kept_law is = let both = says.fails.0 is in (both.0, λ violates. both.1 ((violation_means q r).1 violates))

  pub kept_again : NothingOverflows q r → (Violates q r → ⊥) → violation q r ≡ Ok false
  kept_again small keeps = says.fails.1 (small, λ holds. keeps ((violation_means q r).0 holds))

  pub stuck_law : (stuck : Stuck) → violation q r ≡ Err stuck → IsFirstOverflow q r stuck
  stuck_law stuck = (says.stuck stuck).0

  pub stuck_again : (stuck : Stuck) → IsFirstOverflow q r stuck → violation q r ≡ Err stuck
  stuck_again stuck = (says.stuck stuck).1

  -- a violation is never found to be none, and the other way round, whatever overflows
  pub violated_found : (answer : Result Bool Stuck) → answer ≡ violation q r → Violates q r
      → (answer ≡ Ok true) ⊎ ((stuck : Stuck) × (answer ≡ Err stuck))
  violated_found (Ok true) is violates = inl refl
  violated_found (Ok false) is violates = absurd ((kept_law (sym is)).1 violates)
  violated_found (Err stuck) is violates = inr (stuck, refl)

  pub kept_found : (answer : Result Bool Stuck) → answer ≡ violation q r → (Violates q r → ⊥)
      → (answer ≡ Ok false) ⊎ ((stuck : Stuck) × (answer ≡ Err stuck))
  kept_found (Ok true) is keeps = absurd (keeps (violated_law (sym is)).1)
  kept_found (Ok false) is keeps = inl refl
  kept_found (Err stuck) is keeps = inr (stuck, refl)
