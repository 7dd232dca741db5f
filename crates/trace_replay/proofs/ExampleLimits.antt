-- The small controller and its question are within the limits.
use Rattle.std.proofs.Common.{◌≡◌, ◌≤◌, pos, [], length, refl, sym, ◌∙◌, ap, subst, arith}
use Rattle.std.specs.Prelude.{All}
use Rattle.std.specs.Int.{◌∣◌}
use Rattle.std.proofs.lemmas.Int.{ints}
use Rattle.std.proofs.lemmas.List.Elements.{All-nil}
use Rattle.std.proofs.Math.Nat.{one-dvd}
use Rattle.weighing.specs.Scaled.{IsNum, den_of}
use Rattle.weighing.specs.declared.scales.Num.{Num}
use Rattle.ctrl_types.specs.Limits.{IsController, IsLin, IsRule, IsSource, LinsAre, NumsAre, OptionalLin, RuleLins}
use Rattle.ctrl_types.specs.Tests.{EachDelay, EachExpr, test_of, comparisons}
use Rattle.ctrl_types.specs.declared.controllers.Controller.{Controller}
use Rattle.ctrl_types.specs.declared.controllers.Rule.{Rule}
use Rattle.ctrl_types.specs.declared.controllers.State.{State}
use Rattle.ctrl_types.specs.declared.expressions.Lin.{Lin}
use Rattle.ctrl_types.specs.declared.expressions.LinTerm.{LinTerm}
use Rattle.ctrl_types.specs.declared.expressions.Source.TheVariants.{One}
use Rattle.ctrl_types.specs.declared.gates.Gate.TheVariants.{True}
use Rattle.ctrl_meaning.specs.Example.{plain, setting}
use Rattle.ctrl_meaning.proofs.ExampleFits.{one_of, setting_in, true_test}
use Rattle.question_text.specs.Conditions.{Condition, condition_of, condition_step, never}
use Rattle.question_text.specs.Limits.{IsCondition, IsQuestion}
use Rattle.question_text.specs.declared.conditions.QCond.TheFolds.{fold-roll-QCond}
use Rattle.question_text.specs.declared.conditions.QCond.TheOpen.{QCond-F}
use Rattle.question_text.specs.declared.conditions.QCond.TheVariants.{False, rolls-False}
use Rattle.question_text.specs.declared.questions.Question.{Question}
use Rattle.trace_replay.specs.Example.{controller, question}

abbrev rule : Rule
rule = record { guard = True; sets = [] }

abbrev term : LinTerm
term = record { coef = plain (pos 2); of = One }

lins_are : (Q : Lin → Type 0) → Q controller.window → LinsAre Q controller
lins_are Q window = record {
  rules = one_of (RuleLins Q) rule (record { guard = subst (EachExpr Q) (sym true_test) tt; sets = All-nil (OptionalLin Q) });
  window = window;
  rate = tt;
}

nums_are : (P : Num → Type 0) → P (plain (pos 2)) → NumsAre P controller
nums_are P two = record {
  states = All-nil (λ (s : State). P s.lo × P s.hi);
  lins = lins_are (λ l. All (λ (t : LinTerm). P t.coef) l.terms) (one_of (λ (t : LinTerm). P t.coef) term two);
}

controller_in : IsController controller
controller_in = record {
  states_to = omega arith;
  rules_from = omega arith;
  rules_to = omega arith;
  otherwise = true_test;
  each_rule = one_of (IsRule 0) rule (record { comparisons_to = subst (λ t. comparisons t ≤ 16) (sym true_test) (omega arith); places = refl });
  each_lin = lins_are (IsLin 0) (record { terms_to = omega arith; sources = one_of (λ (t : LinTerm). IsSource 0 t.of) term tt });
  each_num = nums_are IsNum (record { num_to = omega arith; den_from = omega (arith, ints); den_to = omega (arith, ints) });
  den_from = omega (arith, ints);
  den_to = omega (arith, ints);
  den_common = nums_are (λ n. den_of n ∣ 1) (one-dvd 1);
  den_least = λ m divides. one-dvd m;
  delay_to = omega arith;
  delay_reached = one_of (λ (r : Rule). EachDelay (λ k. k ≤ 0) (test_of r.guard)) rule (subst (EachDelay (λ k. k ≤ 0)) (sym true_test) tt);
  delay_least = λ m within. omega arith;
}

false_condition : condition_of False ≡ never
false_condition = ap condition_of (sym rolls-False) ∙ fold-roll-QCond Condition condition_step QCond-F.False

question_in : IsQuestion 0 question
question_in = record {
  setting_in = setting_in;
  assumes_to = omega arith;
  assumes_in = tt;
  require_in = subst (IsCondition 0 setting) (sym false_condition) tt;
}

-- and so are those that are made to be the same
pub made_controller_in : (c : Controller) → c ≡ controller → IsController c
made_controller_in c same = subst IsController (sym same) controller_in

pub made_question_in : (c : Controller) (q : Question) → c ≡ controller → q ≡ question → IsQuestion (length c.states) q
made_question_in c q c_is q_is =
    subst (λ e. IsQuestion (length e.states) q) (sym c_is) (subst (IsQuestion 0) (sym q_is) question_in)
