-- Sums that are weighed piece by piece, with numbers as they were passed.
use Rattle.std.proofs.Common.{◌≡◌, ℕ, ◌+◌, ◌<◌, ◌≤◌, ℤ, unsigned_abs, List, get_or, length, drop, sym, ◌∙◌, ap, arith, to_z, of_z}
use Rattle.std.specs.List.{flat_map}
use Rattle.std.proofs.lemmas.List.{drop_more}
use Rattle.std.proofs.lemmas.Int.{to_z-of_z, fits_signed_from_abs}
use Rattle.std.specs.Int.{w128}
use Rattle.weighing.specs.Weight.{Weight}
use Rattle.weighing.specs.Weighed.{weighed_from}
use Rattle.weighing.specs.declared.weighings.Summand.{Summand}
use Rattle.run_rows.specs.Runs.{IsEntry}
use Rattle.path_server.proofs.Flows.{weighed-append}

-- one of a row of pieces more
pub piece_more : {X : Type 0} (pieces : X → List Summand) (w v all : Weight) (xs : List X) (i : ℕ) (d : X) → i < length xs
    → weighed_from w (flat_map pieces (drop i xs)) ≡ all → v ≡ weighed_from w (pieces (get_or xs i d))
    → weighed_from v (flat_map pieces (drop (i + 1) xs)) ≡ all
piece_more pieces w v all xs i d inside so_far here =
    ap (λ a. weighed_from a (flat_map pieces (drop (i + 1) xs))) here
    ∙ sym (weighed-append w (pieces (get_or xs i d)) (flat_map pieces (drop (i + 1) xs)))
    ∙ ap (λ ys. weighed_from w (flat_map pieces ys)) (sym (drop_more xs i d inside))
    ∙ so_far

-- a number as it was passed
abbrev pub given : ℤ → ℤ
given z = to_z w128 (of_z w128 z)

pub factor_is : (x k : ℤ) → unsigned_abs x ≤ 1000000000000 → x ≡ k → given x ≡ k
factor_is x k small same = to_z-of_z w128 x (fits_signed_from_abs w128 x (omega arith)) ∙ same

pub entry_is : (x y : ℤ) → IsEntry x → x ≡ y → given x ≡ y
entry_is x y small same = to_z-of_z w128 x (fits_signed_from_abs w128 x small) ∙ same
