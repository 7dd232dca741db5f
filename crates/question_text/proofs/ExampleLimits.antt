-- The small question is within the limits.
use Rattle.std.proofs.Common.{◌≡◌, ℕ, ◌≤◌, ℤ, pos, [], ◌∷◌, refl, sym, ◌∙◌, ap, subst, arith}
use Rattle.std.specs.Prelude.{All}
use Rattle.std.proofs.lemmas.Int.{ints}
use Rattle.std.proofs.lemmas.List.Elements.{All-nil, All-cons}
use Rattle.whole.specs.Numbers.{gcd_of, lcm_of}
use Rattle.weighing.specs.declared.weighings.Rel5.{Rel5}
use Rattle.weighing.specs.declared.weighings.Rel5.TheVariants.{AtMost, Equal}
use Rattle.run_rows.specs.Runs.{Fits}
use Rattle.run_rows.specs.declared.rows.Run.{Run}
use Rattle.path_server.specs.Limits.{IsSetting}
use Rattle.path_server.specs.Shapes.{shape_of}
use Rattle.question_text.specs.Conditions.{Condition, comparison, condition_of, condition_step}
use Rattle.question_text.specs.Example.{plain, question, setting, single}
use Rattle.question_text.specs.Expressions.{scale_of_two}
use Rattle.question_text.specs.Limits.{CanAsk, IsComparison, IsCondition, IsName, IsQuestion, IsTerm}
use Rattle.question_text.specs.declared.conditions.Of.{Of}
use Rattle.question_text.specs.declared.conditions.Of.TheVariants.{One, A, X}
use Rattle.question_text.specs.declared.conditions.QLin.{QLin}
use Rattle.question_text.specs.declared.conditions.QCond.TheFolds.{fold-roll-QCond}
use Rattle.question_text.specs.declared.conditions.QCond.TheOpen.{QCond-F}
use Rattle.question_text.specs.declared.conditions.QCond.TheVariants.{Cmp, rolls-Cmp}
use Rattle.question_text.specs.declared.questions.Question.{Question}

one_of : {X : Type 0} (P : X → Type 0) (x : X) → P x → All P (x ∷ [])
one_of P x here = All-cons P x [] here (All-nil P)

pub cmp_condition : (left : QLin) (rel : Rel5) (right : QLin) → condition_of (Cmp left rel right) ≡ comparison left rel right
cmp_condition left rel right =
    ap condition_of (sym (rolls-Cmp left rel right)) ∙ fold-roll-QCond Condition condition_step (QCond-F.Cmp left rel right)

term_in : (n : ℕ) (of : Of) → n ≤ 5 → IsName 1 setting of → All (IsTerm 1 setting) (single (pos n) of).terms
term_in n of few name = one_of (IsTerm 1 setting) (record { coef = plain (pos n); of = of }) (record {
  coef_in = record { num_to = omega arith; den_from = omega (arith, ints); den_to = omega (arith, ints) };
  name_in = name;
})

scale_is : (n m : ℤ) (of om : Of) → scale_of_two (single n of) (single m om) ≡ 1
unfolding lcm_of gcd_of
scale_is n m of om = refl

comparison_in : (n m : ℕ) (of om : Of) → n ≤ 5 → m ≤ 5 → IsName 1 setting of → IsName 1 setting om
    → IsComparison 1 setting (single (pos n) of) (single (pos m) om)
comparison_in n m of om few few' name name' = record {
  left_to = omega arith;
  right_to = omega arith;
  left_in = term_in n of few name;
  right_in = term_in m om few' name';
  scale_to = let one = scale_is (pos n) (pos m) of om in omega (arith, one);
}

condition_in : (n m : ℕ) (of om : Of) (rel : Rel5) → n ≤ 5 → m ≤ 5 → IsName 1 setting of → IsName 1 setting om
    → IsCondition 1 setting (condition_of (Cmp (single (pos n) of) rel (single (pos m) om)))
condition_in n m of om rel few few' name name' =
    subst (IsCondition 1 setting) (sym (cmp_condition (single (pos n) of) rel (single (pos m) om)))
    (comparison_in n m of om few few' name name')

setting_in : IsSetting setting
setting_in = record {
  flows_from = omega arith;
  flows_to = omega arith;
  steps_from = omega arith;
  steps_to = omega arith;
  rtt_from = omega arith;
  rtt_to = omega arith;
  path = record {
    rate = record { num_from = omega (arith, ints); num_to = omega (arith, ints); den_from = omega (arith, ints); den_to = omega (arith, ints) };
    rate_from = omega (arith, ints);
    jitter_to = omega arith;
    buffer = tt;
  };
  budget_from = omega arith;
  budget_to = omega arith;
}

pub question_in : IsQuestion 1 question
question_in = record {
  setting_in = setting_in;
  assumes_to = omega arith;
  assumes_in = (
    condition_in 1 5 (A 0 0) One Equal (omega arith) (omega arith) (record { flow_to = omega arith; step_to = omega arith }) tt,
    tt,
  );
  require_in = condition_in 1 1 (X 0 1 1) One AtMost (omega arith) (omega arith)
      (record { state_in = omega arith; flow_from = omega arith; flow_to = omega arith; step_to = omega arith }) tt;
}

-- and it can be asked of each run that fits its shape
pub can_ask : (q : Question) (r : Run) → q ≡ question → Fits (shape_of setting 1 0) r → CanAsk q r
can_ask q r same fits =
    subst (λ e. CanAsk e r) (sym same)
    (record { states = 1; delay_max = 0; states_to = omega arith; delay_to = omega arith; question_in = question_in; run_in = fits })
