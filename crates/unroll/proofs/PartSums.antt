-- Sums of parts, one piece after another.
use Rattle.std.proofs.Common.{◌≡◌, ℕ, ◌+◌, ◌<◌, ◌≤◌, ℤ, unsigned_abs, List, get_or, length, drop, sym, ◌∙◌, ap, arith, to_z, of_z}
use Rattle.std.specs.Int.{w128}
use Rattle.std.specs.List.{flat_map}
use Rattle.std.proofs.lemmas.Int.{to_z-of_z, fits_signed_from_abs}
use Rattle.std.proofs.lemmas.List.{drop_more}
use Rattle.run_rows.specs.declared.shapes.Shape.{Shape}
use Rattle.claims.specs.Subjects.{Part}
use Rattle.unroll.specs.Sums.{ColumnSum, with_parts}
use Rattle.unroll.proofs.SumLaws.{with_parts-append}

-- one of a row of pieces more
pub piece_more : {X : Type 0} (s : Shape) (pieces : X → List Part) (sum next all : ColumnSum) (xs : List X) (i : ℕ) (d : X) → i < length xs
    → with_parts s sum (flat_map pieces (drop i xs)) ≡ all → next ≡ with_parts s sum (pieces (get_or xs i d))
    → with_parts s next (flat_map pieces (drop (i + 1) xs)) ≡ all
piece_more s pieces sum next all xs i d inside so_far here =
    ap (λ a. with_parts s a (flat_map pieces (drop (i + 1) xs))) here
    ∙ sym (with_parts-append s sum (pieces (get_or xs i d)) (flat_map pieces (drop (i + 1) xs)))
    ∙ ap (λ ys. with_parts s sum (flat_map pieces ys)) (sym (drop_more xs i d inside))
    ∙ so_far

-- a number as it was passed
abbrev pub given : ℤ → ℤ
given z = to_z w128 (of_z w128 z)

pub given_is : (x k : ℤ) → unsigned_abs x ≤ 1000000000000 → x ≡ k → given x ≡ k
given_is x k small same = to_z-of_z w128 x (fits_signed_from_abs w128 x (omega arith)) ∙ same
