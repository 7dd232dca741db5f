use Rattle.std.proofs.Common.{◌+◌, refl, sym, subst, ◌∙◌}
use Rattle.field_rows.specs.Rows.{coefficient}
use Rattle.field_rows.specs.Zeros.{ZeroFits}
use Rattle.field_rows.proofs.PivotLaws.{substituted_follows}
use Rattle.field_rows.proofs.ZeroLaws.{zero_fits, zero_itself_fits}
use Rattle.field_rows.proofs.MergeLaws.{Merging-init, Merging-more, Merging-end, Merging-front, Merged, rests_shorter}
use Rattle.field_rows.proofs.OperationLaws.{IsEntryAt, IsEntryAt-by, IsEntryAt-quiet, IsWideEntry-by}
use Rattle.field_rows.proofs.FrontLaws.{front_without}
use Rattle.field_rows.proofs.pivot.substitute.Goals as goal

pub loop-at-init : goal.loop-at-init
loop-at-init g c =
    record {
      factor = c.coefficient-factor.ensures;
      walk = (0, Merging-init g.F.OrderedField.value _ _ _ _ _ _ c.clear.ensures.items c.requires.row c.requires.solved (λ v. refl) (λ v. refl));
    }

pub returns-in-Err-clause-wide : goal.returns-in-Err-clause-wide
returns-in-Err-clause-wide g c =
    let value = g.F.OrderedField.value in
    let row = coefficient value c.args.row.now in
    let solved = coefficient value c.args.solved.now in
    let fronts = Merging-front value _ row solved _ _ _ _ c.in-Some.at _ _ c.loop-at.invariant.walk.1 (sym c.in-Some.ensures) c.split-number.ensures.number c.split-added.ensures.number in
    IsWideEntry-by _ value c.args.variable solved row c.in-Some.at _ _ _ _ (front_without value c.args.variable c.in-Some.at row _ c.other_than.result fronts.left c.other_than.ensures) c.loop-at.invariant.factor fronts.right c.in-Err.ensures.wide

pub loop-at-smaller : goal.loop-at-smaller
loop-at-smaller g c =
    rests_shorter c.in-Some.at _ _ _ _ (sym c.in-Some.ensures) c.split-number.ensures.rest c.split-added.ensures.rest

pub loop-at-preserved : goal.loop-at-preserved
loop-at-preserved g c =
    let value = g.F.OrderedField.value in
    let met = g.met.F.OrderedField in
    let limit = g.F.OrderedField.LIMIT in
    let o = c.args.variable in
    let row = coefficient value c.args.row.now in
    let solved = coefficient value c.args.solved.now in
    let factor = c.coefficient-factor.result in
    let fits = subst (ZeroFits limit) c.loop-at.invariant.factor (zero_fits limit (g.F.OrderedField.pair factor) (value factor) met.limits.0 (met.meaning factor) (met.within factor)) in
    let fronts = Merging-front value _ row solved _ _ _ _ c.in-Some.at _ _ c.loop-at.invariant.walk.1 (sym c.in-Some.ensures) c.split-number.ensures.number c.split-added.ensures.number in
    let now = IsEntryAt-by limit o solved row c.in-Some.at (value c.in-Ok.entry) _ (value factor) _ (front_without value o c.in-Some.at row _ c.other_than.result fronts.left c.other_than.ensures) c.loop-at.invariant.factor fronts.right c.in-Ok.ensures.exact c.in-Ok.ensures.kept in
    record {
      factor = c.loop-at.invariant.factor;
      walk = (c.in-Some.at + 1, Merging-more value _ _ _ _ _ _ _ c.in-Some.at c.in-Ok.entry _ _ _ c.loop-at.invariant.walk.1 (sym c.in-Some.ensures) (λ u none none_added. IsEntryAt-quiet limit o solved row u (zero_itself_fits limit met.limits.0) fits none none_added) now c.in_ok-append-in-Ok.ensures c.split-number.ensures.rest c.split-added.ensures.rest);
    }

merged : (g : _) (c : goal.In_default g) → Merged g.F.OrderedField.value (IsEntryAt g.F.OrderedField.LIMIT c.args.variable (coefficient g.F.OrderedField.value c.args.solved.now) (coefficient g.F.OrderedField.value c.args.row.now)) c.loop-at.followed.items
merged g c =
    let value = g.F.OrderedField.value in
    let met = g.met.F.OrderedField in
    let limit = g.F.OrderedField.LIMIT in
    let row = coefficient value c.args.row.now in
    let solved = coefficient value c.args.solved.now in
    let factor = c.coefficient-factor.result in
    let fits = subst (ZeroFits limit) c.loop-at.invariant.factor (zero_fits limit (g.F.OrderedField.pair factor) (value factor) met.limits.0 (met.meaning factor) (met.within factor)) in
    Merging-end value _ _ _ _ _ _ _ c.loop-at.invariant.walk.1 (sym c.next.ensures ∙ c.in_default.is) (λ u none none_added. IsEntryAt-quiet limit c.args.variable solved row u (zero_itself_fits limit met.limits.0) fits none none_added)

pub returns-clause-row : goal.returns-clause-row
returns-clause-row g c = (merged g c).is_row

pub returns-clause-substituted : goal.returns-clause-substituted
returns-clause-substituted g c = λ k. ((merged g c).done k).0

pub returns-clause-follows : goal.returns-clause-follows
returns-clause-follows g c = λ n inside.
    substituted_follows n c.args.variable _ _ _ inside (λ k. ((merged g c).done k).0)

pub returns-clause-kept : goal.returns-clause-kept
returns-clause-kept g c = λ wide. ((merged g c).done wide.0).1 wide.1
