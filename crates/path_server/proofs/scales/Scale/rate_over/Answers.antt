use Rattle.std.proofs.Common.{◌≡◌, ◌≤◌, ℤ, unsigned_abs, sym, subst, ◌∙◌, arith, FitsSigned, to_z, of_z}
use Rattle.std.proofs.lemmas.Int.{to_z-of_z}
use Rattle.std.specs.Int.{w128}
use Rattle.path_server.proofs.Sizes.{fits, rate_exact}
use Rattle.path_server.proofs.scales.Scale.rate_over.Goals as goal

-- what is small and equal to what is formed fits, and is what is returned
formed_fits : (x y : ℤ) → (x ≡ y) × (unsigned_abs y ≤ 72000000000) → FitsSigned w128 x
formed_fits x y (same, small) = subst (FitsSigned w128) (sym same) (fits y (omega arith))

returned : (x y : ℤ) → (x ≡ y) × (unsigned_abs y ≤ 72000000000) → to_z w128 (of_z w128 x) ≡ y
returned x y formed = to_z-of_z w128 x (formed_fits x y formed) ∙ formed.0

returned_small : (x y : ℤ) → (x ≡ y) × (unsigned_abs y ≤ 72000000000) → unsigned_abs (to_z w128 (of_z w128 x)) ≤ 72000000000
returned_small x y formed = subst (λ z. unsigned_abs z ≤ 72000000000) (sym (returned x y formed)) (omega (arith, formed.1))

pub overflow_mul-result-2 : goal.overflow_mul-result-2
overflow_mul-result-2 c =
    formed_fits _ _ (rate_exact c.args.path.now.rate.num c.from.result c.from-2.result c.args.self.now.rate c.args.row c.args.back
    c.requires.path_in.rate.num_from c.requires.path_in.rate.num_to c.from.ensures c.from-2.ensures
    c.requires.row_in c.requires.back_in c.requires.scale.rate_to)

pub returns-clause-value : goal.returns-clause-value
returns-clause-value c =
    returned _ _ (rate_exact c.args.path.now.rate.num c.from.result c.from-2.result c.args.self.now.rate c.args.row c.args.back
    c.requires.path_in.rate.num_from c.requires.path_in.rate.num_to c.from.ensures c.from-2.ensures
    c.requires.row_in c.requires.back_in c.requires.scale.rate_to)

pub returns-clause-within : goal.returns-clause-within
returns-clause-within c =
    returned_small _ _ (rate_exact c.args.path.now.rate.num c.from.result c.from-2.result c.args.self.now.rate c.args.row c.args.back
    c.requires.path_in.rate.num_from c.requires.path_in.rate.num_to c.from.ensures c.from-2.ensures
    c.requires.row_in c.requires.back_in c.requires.scale.rate_to)
