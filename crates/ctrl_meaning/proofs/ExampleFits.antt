-- The small controller is within the limits, and its runs fit it.
use Rattle.std.proofs.Common.{◌≡◌, ℕ, zero, suc, ◌<◌, ◌≤◌, ℤ, pos, None, Some, List, [], ◌∷◌, length, refl, sym, ◌∙◌, ap, subst, arith}
use Rattle.std.specs.Prelude.{All, if◌then◌else◌, nat_lt}
use Rattle.std.specs.Int.{◌∣◌}
use Rattle.std.proofs.lemmas.Int.{ints}
use Rattle.std.proofs.lemmas.List.Elements.{All-nil, All-cons}
use Rattle.std.proofs.Math.Nat.{one-dvd}
use Rattle.weighing.specs.Scaled.{IsNum, den_of}
use Rattle.weighing.specs.declared.scales.Num.{Num}
use Rattle.weighing.specs.declared.weighings.Rel5.{Rel5}
use Rattle.weighing.specs.declared.weighings.Rel5.TheVariants.{AtLeast}
use Rattle.run_rows.proofs.Shaped as shaped
use Rattle.path_server.specs.Shapes.{shape_of}
use Rattle.run_rows.specs.Runs.{FlowFits, IsEntry, RowFits, row_of}
use Rattle.run_rows.specs.declared.rows.Run.{Run}
use Rattle.path_server.specs.Limits.{IsSetting}
use Rattle.path_server.specs.declared.settings.Setting.{Setting}
use Rattle.ctrl_types.specs.Limits.{DelaysAre, IsController, IsLin, IsRule, IsSource, LinsAre, NumsAre, OptionalLin, RuleLins}
use Rattle.ctrl_types.specs.Tests.{EachExpr, EachDelay, Test, test_of, always, comparison, comparisons, test_step}
use Rattle.ctrl_types.specs.declared.controllers.Controller.{Controller}
use Rattle.ctrl_types.specs.declared.controllers.Kind.TheVariants.{Amount}
use Rattle.ctrl_types.specs.declared.controllers.Rule.{Rule}
use Rattle.ctrl_types.specs.declared.controllers.State.{State}
use Rattle.ctrl_types.specs.declared.expressions.Lin.{Lin}
use Rattle.ctrl_types.specs.declared.expressions.LinTerm.{LinTerm}
use Rattle.ctrl_types.specs.declared.expressions.Source.{Source}
use Rattle.ctrl_types.specs.declared.expressions.Source.TheVariants.{One, State as StateSource, Acked}
use Rattle.ctrl_types.specs.declared.gates.Gate.TheFolds.{fold-roll-Gate}
use Rattle.ctrl_types.specs.declared.gates.Gate.TheOpen.{Gate-F}
use Rattle.ctrl_types.specs.declared.gates.Gate.TheVariants.{True, Cmp, rolls-True, rolls-Cmp}
use Rattle.ctrl_meaning.specs.Example.{controller, one_flow, otherwise, plain, run, setting, single, when_heard}
use Rattle.ctrl_meaning.specs.Limits.{FitsBoth, IsControlled}
use Rattle.claim_values.proofs.Sums.{entry_is, given}

pub one_of : {X : Type 0} (P : X → Type 0) (x : X) → P x → All P (x ∷ [])
one_of P x here = All-cons P x [] here (All-nil P)

pub true_test : test_of True ≡ always
true_test = ap test_of (sym rolls-True) ∙ fold-roll-Gate Test test_step Gate-F.True

pub cmp_test : (left : Lin) (rel : Rel5) (right : Lin) → test_of (Cmp left rel right) ≡ comparison left rel right
cmp_test left rel right =
    ap test_of (sym (rolls-Cmp left rel right)) ∙ fold-roll-Gate Test test_step (Gate-F.Cmp left rel right)

each_rule : (P : Rule → Type 0) → P (when_heard (pos 3)) → P (when_heard (pos 4)) → P otherwise → All P controller.rules
each_rule P one two three =
    All-cons P (when_heard (pos 3)) (when_heard (pos 4) ∷ otherwise ∷ []) one
    (All-cons P (when_heard (pos 4)) (otherwise ∷ []) two (one_of P otherwise three))

heard_lins : (Q : Lin → Type 0) (value : ℤ) → Q (single (pos 1) Acked) → Q (single (pos 0) One) → Q (single value One) → RuleLins Q (when_heard value)
heard_lins Q value acked none set = record {
  guard = subst (EachExpr Q) (sym (cmp_test (single (pos 1) Acked) AtLeast (single (pos 0) One))) (acked, none);
  sets = one_of (OptionalLin Q) (Some (single value One)) set;
}

otherwise_lins : (Q : Lin → Type 0) → RuleLins Q otherwise
otherwise_lins Q = record { guard = subst (EachExpr Q) (sym true_test) tt; sets = one_of (OptionalLin Q) None tt }

lins_are : (Q : Lin → Type 0) → Q (single (pos 1) Acked) → Q (single (pos 0) One) → Q (single (pos 3) One) → Q (single (pos 4) One)
    → Q (single (pos 1) (StateSource 0)) → LinsAre Q controller
lins_are Q acked none three four window = record {
  rules = each_rule (RuleLins Q) (heard_lins Q (pos 3) acked none three) (heard_lins Q (pos 4) acked none four) (otherwise_lins Q);
  window = window;
  rate = tt;
}

is_lin : (n : ℤ) (of : Source) → IsSource 1 of → IsLin 1 (single n of)
is_lin n of source = record {
  terms_to = omega arith;
  sources = one_of (λ (t : LinTerm). IsSource 1 t.of) (record { coef = plain n; of = of }) source;
}

nums_are : (P : Num → Type 0) → ((k : ℕ) → k ≤ 4 → P (plain (pos k))) → NumsAre P controller
nums_are P small =
    let lin : (k : ℕ) (of : Source) → k ≤ 4 → All (λ (t : LinTerm). P t.coef) (single (pos k) of).terms =
    λ k of few. one_of (λ (t : LinTerm). P t.coef) (record { coef = plain (pos k); of = of }) (small k few) in
    record {
      states = one_of (λ (s : State). P s.lo × P s.hi) (record { name = 99 ∷ 119 ∷ 110 ∷ 100 ∷ []; kind = Amount; lo = plain (pos 2); hi = plain (pos 2) })
          (small 2 (omega arith), small 2 (omega arith));
      lins = lins_are (λ l. All (λ (t : LinTerm). P t.coef) l.terms) (lin 1 Acked (omega arith)) (lin 0 One (omega arith)) (lin 3 One (omega arith))
          (lin 4 One (omega arith)) (lin 1 (StateSource 0) (omega arith));
    }

delays_are : (P : ℕ → Type 0) → DelaysAre P controller
delays_are P =
    let heard : (value : ℤ) → EachDelay P (test_of (when_heard value).guard) =
    λ value. subst (EachDelay P) (sym (cmp_test (single (pos 1) Acked) AtLeast (single (pos 0) One))) tt in
    each_rule (λ (r : Rule). EachDelay P (test_of r.guard)) (heard (pos 3)) (heard (pos 4)) (subst (EachDelay P) (sym true_test) tt)

heard_rule : (value : ℤ) → IsRule 1 (when_heard value)
heard_rule value = record {
  comparisons_to = subst (λ t. comparisons t ≤ 16) (sym (cmp_test (single (pos 1) Acked) AtLeast (single (pos 0) One))) (omega arith);
  places = refl;
}

pub controller_in : IsController controller
controller_in = record {
  states_to = omega arith;
  rules_from = omega arith;
  rules_to = omega arith;
  otherwise = true_test;
  each_rule = each_rule (IsRule 1) (heard_rule (pos 3)) (heard_rule (pos 4))
      (record { comparisons_to = subst (λ t. comparisons t ≤ 16) (sym true_test) (omega arith); places = refl });
  each_lin = lins_are (IsLin 1) (is_lin (pos 1) Acked tt) (is_lin (pos 0) One tt) (is_lin (pos 3) One tt) (is_lin (pos 4) One tt)
      (is_lin (pos 1) (StateSource 0) (omega arith));
  each_num = nums_are IsNum (λ k few. record { num_to = omega arith; den_from = omega (arith, ints); den_to = omega (arith, ints) });
  den_from = omega (arith, ints);
  den_to = omega (arith, ints);
  den_common = nums_are (λ n. den_of n ∣ 1) (λ k few. one-dvd 1);
  den_least = λ m divides. one-dvd m;
  delay_to = omega arith;
  delay_reached = delays_are (λ k. k ≤ 0);
  delay_least = λ m within. omega arith;
}

pub setting_in : IsSetting setting
setting_in = record {
  flows_from = omega arith;
  flows_to = omega arith;
  steps_from = omega arith;
  steps_to = omega arith;
  rtt_from = omega arith;
  rtt_to = omega arith;
  path = record {
    rate = record { num_from = omega (arith, ints); num_to = omega (arith, ints); den_from = omega (arith, ints); den_to = omega (arith, ints) };
    rate_from = omega (arith, ints);
    jitter_to = omega arith;
    buffer = tt;
  };
  budget_from = omega arith;
  budget_to = omega arith;
}

row_fits : (a s : ℤ) (x : List ℤ) (n : ℕ) → IsEntry a → IsEntry s → length x ≡ n → All IsEntry x → RowFits 1 n (one_flow a s x)
row_fits a s x n a_in s_in count each =
    shaped.row_fits 1 n (one_flow a s x) (omega arith) refl
    (one_of (FlowFits n) (record { a = a; s = s; l = pos 0; x = x })
    (record { shaped = count; bounded = record { a_in = a_in; s_in = s_in; l_in = omega arith; x_in = each } }))

pub run_in : (opens a x : ℤ) → IsEntry opens → IsEntry a → IsEntry x → FitsBoth controller setting (run opens a x)
run_in opens a x opens_in a_in x_in =
    shaped.run_fits (shape_of setting 1 0) (run opens a x) (omega (arith, ints)) (omega arith) (omega arith) refl row
  where
    row : (i : ℕ) → i < 4 → RowFits 1 (if nat_lt i 2 then 0 else 1) (row_of (run opens a x) i)
    row zero inside = row_fits (pos 2) (pos 0) [] 0 (omega arith) (omega arith) refl (All-nil IsEntry)
    row (suc zero) inside = row_fits (pos 2) (pos 1) [] 0 (omega arith) (omega arith) refl (All-nil IsEntry)
    row (suc (suc zero)) inside = row_fits (pos 3) (pos 2) (opens ∷ []) 1 (omega arith) (omega arith) refl (one_of IsEntry opens opens_in)
    row (suc (suc (suc zero))) inside = row_fits a (pos 3) (x ∷ []) 1 a_in (omega arith) refl (one_of IsEntry x x_in)
    row (suc (suc (suc (suc i)))) inside = absurd (omega arith)

pub row_in : IsControlled controller setting 3
row_in = record { after_opening = omega arith; within = omega arith }

-- and so are those that are made to be the same
pub made_controller_in : (c : Controller) → c ≡ controller → IsController c
made_controller_in c same = subst IsController (sym same) controller_in

given_in : (z : ℤ) → IsEntry z → IsEntry (given z)
given_in z small = rw (entry_is z z small refl) small

pub made_run_in : (c : Controller) (s : Setting) (r : Run) (opens a x : ℤ) → c ≡ controller → s ≡ setting
    → r ≡ run (given opens) (given a) (given x) → IsEntry opens → IsEntry a → IsEntry x → FitsBoth c s r
made_run_in c s r opens a x c_is s_is r_is opens_in a_in x_in =
    subst (λ e. FitsBoth e s r) (sym c_is)
    (subst (λ e. FitsBoth controller e r) (sym s_is)
    (subst (FitsBoth controller setting) (sym r_is)
    (run_in (given opens) (given a) (given x) (given_in opens opens_in) (given_in a a_in) (given_in x x_in))))
