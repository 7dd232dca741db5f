use Rattle.std.proofs.Common.{◌≡◌, ℕ, ◌+◌, pos, refl, sym, subst, ◌∙◌, ◌⊎◌, inl, inr}
use Rattle.ordered_field.specs.Rational.{ℚ, whole}
use Rattle.field_rows.specs.Rows.{coefficient, put}
use Rattle.field_rows.proofs.SumLaws.{put-here, put-elsewhere, same_or_apart}
use Rattle.field_rows.proofs.MergeLaws.{Merging-init, Merging-more, Merging-end, Merged, rests_shorter}
use Rattle.field_rows.proofs.OperationLaws.{one_at}
use Rattle.field_rows.proofs.FrontLaws.{IsRowOfOne, row_of_one, front_put}
use Rattle.field_rows.proofs.change.put.Goals as goal

-- nothing is put where neither row has a number
quiet : (o : ℕ) (y : ℚ) (c : ℕ → ℚ) (u : ℕ) → c u ≡ whole (pos 0) → one_at o y u ≡ whole (pos 0) → whole (pos 0) ≡ put o y c u
quiet o y c u none empty = by_place (same_or_apart o u)
  where
    by_place : (u ≡ o) ⊎ (u ≡ o → ⊥) → whole (pos 0) ≡ put o y c u
    by_place (inl here) = sym (put-here o u y c here ∙ sym (put-here o u y _ here) ∙ empty)
    by_place (inr apart) = sym (put-elsewhere o u y c apart ∙ none)

pub loop-at-init : goal.loop-at-init
loop-at-init g c =
    let value = g.F.OrderedField.value in
    let place : IsRowOfOne value c.args.variable (value c.args.number) c.as_slice-right.result.now =
    subst (IsRowOfOne value c.args.variable (value c.args.number)) (sym c.as_slice-right.ensures.value) (row_of_one value c.args.variable c.args.number _ _ _ c.ranges.variable.fits c.new-place.ensures.items refl c.in_ok-append.ensures) in
    (0, Merging-init value _ _ _ _ _ _ c.clear.ensures.items c.requires place.is_row (λ v. refl) place.same)

pub loop-at-smaller : goal.loop-at-smaller
loop-at-smaller g c =
    rests_shorter c.in-Some.at _ _ _ _ (sym c.in-Some.ensures) c.split-old.ensures.rest c.split-new.ensures.rest

pub loop-at-preserved : goal.loop-at-preserved
loop-at-preserved g c =
    let value = g.F.OrderedField.value in
    let row = coefficient value c.args.row.now in
    let now = c.chosen.ensures ∙ front_put value _ c.args.variable (value c.args.number) row _ _ _ _ c.in-Some.at _ _ _ c.loop-at.invariant.1 (sym c.in-Some.ensures) c.split-old.ensures.number c.split-new.ensures.number c.other_than.ensures in
    (c.in-Some.at + 1, Merging-more value _ _ _ _ _ _ _ c.in-Some.at c.chosen.result _ _ _ c.loop-at.invariant.1 (sym c.in-Some.ensures) (λ u none empty. quiet c.args.variable (value c.args.number) row u none empty) now c.in_ok-append-2.ensures c.split-old.ensures.rest c.split-new.ensures.rest)

merged : (g : _) (c : goal.After-drop-place-2 g) → Merged g.F.OrderedField.value (λ v x. x ≡ put c.args.variable (g.F.OrderedField.value c.args.number) (coefficient g.F.OrderedField.value c.args.row.now) v) c.loop-at.changed.items
merged g c =
    let value = g.F.OrderedField.value in
    Merging-end value _ _ _ _ _ _ _ c.loop-at.invariant.1 (sym c.next.ensures ∙ c.in_default.is) (λ u none empty. quiet c.args.variable (value c.args.number) (coefficient value c.args.row.now) u none empty)

pub returns-clause-row : goal.returns-clause-row
returns-clause-row g c = (merged g c).is_row

pub returns-clause-changed : goal.returns-clause-changed
returns-clause-changed g c = (merged g c).done
