use Rattle.std.proofs.Common.{◌+◌, pos, refl, sym, ap, subst, ◌∙◌}
use Rattle.ordered_field.specs.Rational.{whole, ◌*ℚ◌, neg_ℚ}
use Rattle.field_rows.specs.Rows.{coefficient}
use Rattle.field_rows.proofs.PivotLaws.{quotients_solve}
use Rattle.field_rows.proofs.MergeLaws.{Merging-init, Merging-more, Merging-end, Merged, rests_shorter}
use Rattle.field_rows.proofs.OperationLaws.{IsQuotientAt, IsQuotientAt-by, IsQuotientAt-quiet, IsWideQuotient-by}
use Rattle.field_rows.proofs.FrontLaws.{IsRowOfOne, row_of_one, front_dividend}
use Rattle.field_rows.proofs.pivot.solve.Goals as goal

pub inverse-factor-requires : goal.inverse-factor-requires
inverse-factor-requires g c = λ none. c.requires.solvable (sym c.coefficient.ensures ∙ none)

pub loop-at-init : goal.loop-at-init
loop-at-init g c =
    let value = g.F.OrderedField.value in
    let place : IsRowOfOne value c.args.basic (neg_ℚ (whole (pos 1))) c.as_slice-right.result.now =
    subst (IsRowOfOne value c.args.basic (neg_ℚ (whole (pos 1)))) (sym c.as_slice-right.ensures.value) (row_of_one value c.args.basic c.neg.result _ _ _ c.ranges.basic.fits c.new-place.ensures.items (c.neg.ensures ∙ ap neg_ℚ c.one.ensures) c.in_ok-append.ensures) in
    record {
      inverts = ap (λ v. value c.inverse-factor.result *ℚ v) (sym c.coefficient.ensures) ∙ c.inverse-factor.ensures;
      walk = (0, Merging-init value _ _ _ _ _ _ c.clear.ensures.items c.requires.row place.is_row (λ v. refl) place.same);
    }

pub returns-in-Err-clause-wide : goal.returns-in-Err-clause-wide
returns-in-Err-clause-wide g c =
    let value = g.F.OrderedField.value in
    let row = coefficient value c.args.row.now in
    let divided = front_dividend value _ c.args.basic c.args.variable row _ _ _ _ c.in-Some.at c.split-number.result.0 c.split-minus.result.0 c.other_than.result c.loop-at.invariant.walk.1 (sym c.in-Some.ensures) c.split-number.ensures.number c.split-minus.ensures.number c.other_than.ensures in
    IsWideQuotient-by _ value c.args.basic c.args.variable row c.in-Some.at _ _ _ divided c.loop-at.invariant.inverts c.in-Err.ensures.wide

pub loop-at-smaller : goal.loop-at-smaller
loop-at-smaller g c =
    rests_shorter c.in-Some.at _ _ _ _ (sym c.in-Some.ensures) c.split-number.ensures.rest c.split-minus.ensures.rest

pub loop-at-preserved : goal.loop-at-preserved
loop-at-preserved g c =
    let value = g.F.OrderedField.value in
    let row = coefficient value c.args.row.now in
    let b = c.args.basic in
    let o = c.args.variable in
    let limit = g.F.OrderedField.LIMIT in
    let inverts = c.loop-at.invariant.inverts in
    let divided = front_dividend value _ b o row _ _ _ _ c.in-Some.at c.split-number.result.0 c.split-minus.result.0 c.other_than.result c.loop-at.invariant.walk.1 (sym c.in-Some.ensures) c.split-number.ensures.number c.split-minus.ensures.number c.other_than.ensures in
    let now = IsQuotientAt-by limit b o row c.in-Some.at (value c.in-Ok.entry) _ (value c.inverse-factor.result) divided inverts c.in-Ok.ensures.exact c.in-Ok.ensures.kept in
    record {
      inverts = inverts;
      walk = (c.in-Some.at + 1, Merging-more value _ _ _ _ _ _ _ c.in-Some.at c.in-Ok.entry _ _ _ c.loop-at.invariant.walk.1 (sym c.in-Some.ensures) (λ u none no_minus. IsQuotientAt-quiet limit b o row u (value c.inverse-factor.result) g.met.F.OrderedField.limits.0 inverts none no_minus) now c.in_ok-append-in-Ok.ensures c.split-number.ensures.rest c.split-minus.ensures.rest);
    }

merged : (g : _) (c : goal.After-drop-place-2 g) → Merged g.F.OrderedField.value (IsQuotientAt g.F.OrderedField.LIMIT c.args.basic c.args.variable (coefficient g.F.OrderedField.value c.args.row.now)) c.loop-at.solved.items
merged g c =
    Merging-end g.F.OrderedField.value _ _ _ _ _ _ _ c.loop-at.invariant.walk.1 (sym c.next.ensures ∙ c.in_default.is) (λ u none no_minus. IsQuotientAt-quiet g.F.OrderedField.LIMIT c.args.basic c.args.variable (coefficient g.F.OrderedField.value c.args.row.now) u (g.F.OrderedField.value c.inverse-factor.result) g.met.F.OrderedField.limits.0 c.loop-at.invariant.inverts none no_minus)

pub returns-clause-row : goal.returns-clause-row
returns-clause-row g c = (merged g c).is_row

pub returns-clause-quotients : goal.returns-clause-quotients
returns-clause-quotients g c = λ k. ((merged g c).done k).0

pub returns-clause-solved : goal.returns-clause-solved
returns-clause-solved g c = λ n basic_in variable_in.
    quotients_solve n c.args.basic c.args.variable _ _ basic_in variable_in c.requires.outside c.requires.solvable (λ k. ((merged g c).done k).0)

pub returns-clause-kept : goal.returns-clause-kept
returns-clause-kept g c = λ wide. ((merged g c).done wide.0).1 wide.1
