use Rattle.std.proofs.Common.{[], ◌∷◌, None, length, ap, sym, subst, ◌∙◌, arith, lit<, ◌≡◌, ◌+◌, ◌<◌, ℕ, Some, slice_get}
use Rattle.std.proofs.lemmas.List.{length-append}
use Rattle.simplex.specs.Keeping.{sides_at, AreKept}
use Rattle.simplex.proofs.KeepLaws.{no_sides-more}
use Rattle.simplex.proofs.limits.Limits.new.Goals as goal

pub loop-variable-preserved : goal.loop-variable-preserved
loop-variable-preserved g c =
    let items = c.in_ok-push.ensures.items in
    record {
      count = omega (arith, ap length items, length-append c.loop-variable.sides.items (record { lower = None; upper = None } ∷ []), c.loop-variable.invariant.count);
      none = subst (λ xs. (v : ℕ) → v < length xs → slice_get xs v ≡ Some (sides_at v [])) (sym items) (no_sides-more c.loop-variable.sides.items c.loop-variable.invariant.none);
    }

pub invariant_of-result : goal.invariant_of-result
invariant_of-result g c =
    let kept : AreKept c.loop-variable.sides.items [] = record { few = omega arith; sides = c.loop-variable.invariant.none; undoable = tt } in
    subst (λ ps. AreKept c.loop-variable.sides.items ps) (sym c.new.ensures.items) kept
