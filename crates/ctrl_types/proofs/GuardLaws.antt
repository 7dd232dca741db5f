-- A guard that is resolved, and what is asked of its rule.
use Rattle.std.proofs.Common.{◌≡◌, ℕ, Bool, true, false, ◌||◌, Option, Some, List, [], ◌++◌, refl, sym, ap, subst, ◌∙◌}
use Rattle.weighing.specs.declared.scales.Num.{Num}
use Rattle.weighing.specs.declared.weighings.Rel5.{Rel5}
use Rattle.condition_syntax.specs.Trees as conditions
use Rattle.condition_syntax.specs.Trees.{Condition}
use Rattle.condition_syntax.specs.declared.expressions.Expr.{Expr}
use Rattle.ctrl_syntax.specs.declared.syntax.StateLine.{StateLine}
use Rattle.ctrl_types.specs.declared.breaches.Breach.TheVariants.{Unknown}
use Rattle.ctrl_types.specs.declared.expressions.Lin.{Lin}
use Rattle.ctrl_types.specs.declared.surveys.Survey.{Survey}
use Rattle.ctrl_types.specs.Tests as tests
use Rattle.ctrl_types.specs.Tests.{Test}
use Rattle.ctrl_types.specs.Names.{lin_of, has_unknown}
use Rattle.ctrl_types.specs.Denominators.{with_numbers}
use Rattle.ctrl_types.specs.Resolved as resolved
use Rattle.ctrl_types.specs.Resolved.{Means, greatest_delay}
use Rattle.ctrl_types.specs.Resolving.{demand, gate_by, comparison_by, lin_numbers, with_comparison, with_delay, with_lin}
use Rattle.ctrl_types.specs.Statements.{any_comparison, any_delay, condition_numbers, coefs, is_unfit, mixed_sides, unknown_sides, rows_of}
use Rattle.ctrl_types.proofs.EndAlike.{Agrees, fine, agrees_then, agrees_map, agrees_wanted, demand-or}
use Rattle.ctrl_types.proofs.DenominatorLaws.{numbers-append}
use Rattle.ctrl_types.proofs.NameLaws.{unknown_is, lin_is_found, found_numbers, sides_mix}

-- what a condition comes to, behind what came before
pub record IsSeen (states : List StateLine) (c : Condition) (s : Survey) (t : Test × Survey) : Type 0 where
  pub means : Means states c t.0
  pub mixed : t.1.mixed ≡ (s.mixed || any_comparison (mixed_sides states) c)
  pub unfit : t.1.unfit ≡ (s.unfit || any_delay is_unfit c)
  pub delay_max : t.1.delay_max ≡ greatest_delay s.delay_max c
  pub den : t.1.den ≡ with_numbers s.den (condition_numbers c)

or_false : (b : Bool) → b ≡ (b || false)
or_false true = refl
or_false false = refl

or_assoc : (a b c : Bool) → ((a || b) || c) ≡ (a || (b || c))
or_assoc true b c = refl
or_assoc false b c = refl

no_numbers : (s : Option ℕ) → s ≡ with_numbers s []
unfolding with_numbers
no_numbers s = refl

-- nothing is added
nothing_seen : (states : List StateLine) (c : Condition) (t : Test) (s : Survey) → Means states c t
    → any_comparison (mixed_sides states) c ≡ false → any_delay is_unfit c ≡ false → greatest_delay s.delay_max c ≡ s.delay_max → condition_numbers c ≡ []
    → IsSeen states c s (t, s)
nothing_seen states c t s means mixed unfit delays numbers = record {
  means = means;
  mixed = or_false s.mixed ∙ ap (λ b. s.mixed || b) (sym mixed);
  unfit = or_false s.unfit ∙ ap (λ b. s.unfit || b) (sym unfit);
  delay_max = sym delays;
  den = no_numbers s.den ∙ ap (with_numbers s.den) (sym numbers);
}

-- a part, and then the others
both_mixed : (states : List StateLine) (c rest : Condition) (s : Survey) (t u : Test × Survey) → IsSeen states c s t → IsSeen states rest t.1 u
    → u.1.mixed ≡ (s.mixed || (any_comparison (mixed_sides states) c || any_comparison (mixed_sides states) rest))
both_mixed states c rest s t u one two =
    two.mixed ∙ ap (λ b. b || any_comparison (mixed_sides states) rest) one.mixed ∙ or_assoc s.mixed (any_comparison (mixed_sides states) c) (any_comparison (mixed_sides states) rest)

both_unfit : (states : List StateLine) (c rest : Condition) (s : Survey) (t u : Test × Survey) → IsSeen states c s t → IsSeen states rest t.1 u
    → u.1.unfit ≡ (s.unfit || (any_delay is_unfit c || any_delay is_unfit rest))
both_unfit states c rest s t u one two =
    two.unfit ∙ ap (λ b. b || any_delay is_unfit rest) one.unfit ∙ or_assoc s.unfit (any_delay is_unfit c) (any_delay is_unfit rest)

both_den : (states : List StateLine) (c rest : Condition) (s : Survey) (t u : Test × Survey) → IsSeen states c s t → IsSeen states rest t.1 u
    → u.1.den ≡ with_numbers s.den (condition_numbers c ++ condition_numbers rest)
both_den states c rest s t u one two =
    two.den ∙ ap (λ d. with_numbers d (condition_numbers rest)) one.den ∙ sym (numbers-append s.den (condition_numbers c) (condition_numbers rest))

comparison_agrees : (states : List StateLine) (left right : Expr) (rel : Rel5) (s : Survey)
    → Agrees (IsSeen states (conditions.comparison left rel right) s) (comparison_by states left rel right s) (demand (unknown_sides states left right) Unknown)
unfolding comparison_by unknown_sides with_comparison with_lin
comparison_agrees states left right rel s =
    subst (Agrees (IsSeen states (conditions.comparison left rel right) s) (comparison_by states left rel right s))
    (sym (demand-or (has_unknown states true left.terms) (has_unknown states true right.terms) Unknown))
    (agrees_then (agrees_wanted (lin_of states true left) (has_unknown states true left.terms) Unknown (unknown_is states true left))
    (λ x one. agrees_map (agrees_wanted (lin_of states true right) (has_unknown states true right.terms) Unknown (unknown_is states true right))
    (λ y two. fine (tests.comparison x rel y, with_comparison states x y s) (seen x y one.0 two.0))))
  where
    seen : (x y : Lin) → lin_of states true left ≡ Some x → lin_of states true right ≡ Some y
        → IsSeen states (conditions.comparison left rel right) s (tests.comparison x rel y, with_comparison states x y s)
    seen x y one two =
        let lefts = lin_is_found states true left x one in
        let rights = lin_is_found states true right y two in
        record {
          means = resolved.comparison rel one two;
          mixed = ap (λ b. s.mixed || b) (sides_mix states left right x y lefts rights);
          unfit = or_false s.unfit;
          delay_max = refl;
          den = ap (λ (ns : List Num). with_numbers (with_numbers s.den ns) (lin_numbers y)) (found_numbers lefts)
              ∙ ap (λ (ns : List Num). with_numbers (with_numbers s.den (coefs left.terms)) ns) (found_numbers rights)
              ∙ sym (numbers-append s.den (coefs left.terms) (coefs right.terms));
        }

delay_seen : (states : List StateLine) (q : Num) (s : Survey) → IsSeen states (conditions.delay q) s (tests.delay (rows_of q), with_delay q s)
unfolding with_delay
delay_seen states q s = record {
  means = resolved.delay q;
  mixed = or_false s.mixed;
  unfit = refl;
  delay_max = refl;
  den = no_numbers s.den;
}

pub gate_agrees : (states : List StateLine) (c : Condition) (s : Survey) → Agrees (IsSeen states c s) (gate_by states c s) (demand (any_comparison (unknown_sides states) c) Unknown)
unfolding gate_by
gate_agrees states conditions.always s = fine (tests.always, s) (nothing_seen states conditions.always tests.always s resolved.always refl refl refl refl)
gate_agrees states conditions.never s = fine (tests.never, s) (nothing_seen states conditions.never tests.never s resolved.never refl refl refl refl)
gate_agrees states (conditions.leaf (conditions.compares left rel right)) s = comparison_agrees states left right rel s
gate_agrees states (conditions.leaf (conditions.delayed q)) s = fine (tests.delay (rows_of q), with_delay q s) (delay_seen states q s)
gate_agrees states (conditions.opposite c) s =
    agrees_map (gate_agrees states c s)
    (λ t seen. fine (tests.opposite t.0, t.1) (record { means = resolved.opposite seen.means; mixed = seen.mixed; unfit = seen.unfit; delay_max = seen.delay_max; den = seen.den }))
gate_agrees states conditions.end_of_all s = fine (tests.end_of_all, s) (nothing_seen states conditions.end_of_all tests.end_of_all s resolved.end_of_all refl refl refl refl)
gate_agrees states (conditions.all_of c rest) s =
    subst (Agrees (IsSeen states (conditions.all_of c rest) s) (gate_by states (conditions.all_of c rest) s))
    (sym (demand-or (any_comparison (unknown_sides states) c) (any_comparison (unknown_sides states) rest) Unknown))
    (agrees_then (gate_agrees states c s) (λ t one. agrees_map (gate_agrees states rest t.1)
    (λ u two. fine (tests.all_of t.0 u.0, u.1) (record {
      means = resolved.all_of one.means two.means;
      mixed = both_mixed states c rest s t u one two;
      unfit = both_unfit states c rest s t u one two;
      delay_max = two.delay_max ∙ ap (λ k. greatest_delay k rest) one.delay_max;
      den = both_den states c rest s t u one two;
    }))))
gate_agrees states conditions.end_of_any s = fine (tests.end_of_any, s) (nothing_seen states conditions.end_of_any tests.end_of_any s resolved.end_of_any refl refl refl refl)
gate_agrees states (conditions.any_of c rest) s =
    subst (Agrees (IsSeen states (conditions.any_of c rest) s) (gate_by states (conditions.any_of c rest) s))
    (sym (demand-or (any_comparison (unknown_sides states) c) (any_comparison (unknown_sides states) rest) Unknown))
    (agrees_then (gate_agrees states c s) (λ t one. agrees_map (gate_agrees states rest t.1)
    (λ u two. fine (tests.any_of t.0 u.0, u.1) (record {
      means = resolved.any_of one.means two.means;
      mixed = both_mixed states c rest s t u one two;
      unfit = both_unfit states c rest s t u one two;
      delay_max = two.delay_max ∙ ap (λ k. greatest_delay k rest) one.delay_max;
      den = both_den states c rest s t u one two;
    }))))
