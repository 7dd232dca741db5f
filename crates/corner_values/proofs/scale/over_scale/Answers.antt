use Rattle.std.proofs.Common.{pos, ◌≤ℤ◌, map, unsigned_abs, to_z, of_z, FitsSigned, rules, inl, inr, sym, ap, subst, ◌∙◌}
use Rattle.std.specs.Int.{w128}
use Rattle.std.proofs.lemmas.Int.{to_z-of_z}
use Rattle.tableau.proofs.OperationLaws.{if_stuck}
use Rattle.simplex.proofs.BoundLaws.{if_ok, on_ok}
use Rattle.corner_values.specs.Scale.{numerators}
use Rattle.corner_values.specs.Faults.{IsStuckNumerator, IsStuckScaling}
use Rattle.corner_values.proofs.EpsilonLaws.{if_err}
use Rattle.corner_values.proofs.WholeLaws.{size_is}
use Rattle.corner_values.proofs.FaultLaws.{scaling_kept}
use Rattle.corner_values.proofs.scale.over_scale.Goals as goal

pub returns-in-Ok-clause-exact : goal.returns-in-Ok-clause-exact
returns-in-Ok-clause-exact g c =
    let ps = map g.F.OrderedField.pair c.args.numbers.now in
    let o : FitsSigned w128 c.in-Ok.over = search rules in
    let z = to_z-of_z w128 c.in-Ok.over o in
    if_ok c.over_number.result (λ v h. record {
      scale = unsigned_abs c.in-Ok.over;
      is_scale = c.in-Ok.ensures.exact;
      over_is = h.0 ∙ z ∙ size_is c.in-Ok.over c.in-Ok.ensures.positive;
      values_are = h.1 ∙ ap (λ k. numerators (unsigned_abs k) ps) z;
    }) c.over_number.ensures.exact

pub returns-in-Ok-clause-positive : goal.returns-in-Ok-clause-positive
returns-in-Ok-clause-positive g c =
    let o : FitsSigned w128 c.in-Ok.over = search rules in
    let z = to_z-of_z w128 c.in-Ok.over o in
    if_ok c.over_number.result (λ v h. subst (λ k. pos 1 ≤ℤ k) (sym (h.0 ∙ z)) c.in-Ok.ensures.positive) c.over_number.ensures.exact

pub returns-in-Ok-clause-kept : goal.returns-in-Ok-clause-kept
returns-in-Ok-clause-kept g c =
    let ps = map g.F.OrderedField.pair c.args.numbers.now in
    let o : FitsSigned w128 c.in-Ok.over = search rules in
    let z = to_z-of_z w128 c.in-Ok.over o in
    on_ok c.over_number.result (λ kept s. scaling_kept ps (unsigned_abs c.in-Ok.over) s c.in-Ok.ensures.exact (c.in-Ok.ensures.kept s) (subst (λ k. IsStuckNumerator ps (unsigned_abs k) s → ⊥) z (kept s))) c.over_number.ensures.kept

pub returns-in-Ok-clause-stuck : goal.returns-in-Ok-clause-stuck
returns-in-Ok-clause-stuck g c =
    let ps = map g.F.OrderedField.pair c.args.numbers.now in
    let o : FitsSigned w128 c.in-Ok.over = search rules in
    let z = to_z-of_z w128 c.in-Ok.over o in
    if_err c.over_number.result (λ fault h. if_stuck fault (IsStuckNumerator ps (unsigned_abs (to_z w128 (of_z w128 c.in-Ok.over)))) (IsStuckScaling ps) (λ s x. inr (unsigned_abs c.in-Ok.over, (c.in-Ok.ensures.exact, subst (λ k. IsStuckNumerator ps (unsigned_abs k) s) z x))) h) c.over_number.ensures.stuck

pub returns-in-Err-clause-stuck : goal.returns-in-Err-clause-stuck
returns-in-Err-clause-stuck g c = inl c.in-Err.ensures.stuck
