use Rattle.std.proofs.Common.{◌≡◌, ◌^◌, ℕ, ℤ, pos, unsigned_abs, to_z, of_z, ap, subst, sym, ◌∙◌}
use Rattle.std.specs.Int.{w128, IsGcd}
use Rattle.std.proofs.lemmas.Int.{to_z_pos, to_z-of_z, fits_signed_from_abs}
use Rattle.whole.specs.Numbers.{IsWithin, gcd_of}
use Rattle.whole.proofs.Divisors.{IsGcd-gcd_of, gcd_of-below}
use Rattle.whole.proofs.numbers.gcd.Goals as goal

cast_divisor : (a b : ℤ) (x y r : ℕ) → IsWithin a → IsWithin b → x ≡ unsigned_abs (to_z w128 (of_z w128 a)) → y ≡ unsigned_abs (to_z w128 (of_z w128 b)) → r ≡ gcd_of x y → to_z w128 r ≡ pos (gcd_of (unsigned_abs a) (unsigned_abs b))
cast_divisor a b x y r p q left right e =
    let size_a = ap unsigned_abs (to_z-of_z w128 a (fits_signed_from_abs w128 a p)) in
    let size_b = ap unsigned_abs (to_z-of_z w128 b (fits_signed_from_abs w128 b q)) in
    let is : r ≡ gcd_of (unsigned_abs a) (unsigned_abs b) =
    e ∙ ap (λ n. gcd_of n y) (left ∙ size_a) ∙ ap (gcd_of (unsigned_abs a)) (right ∙ size_b) in
    ap (to_z w128) is ∙ to_z_pos w128 _ (gcd_of-below (unsigned_abs a) (unsigned_abs b) (2 ^ 127) p q)

pub returns-clause-exact : goal.returns-clause-exact
returns-clause-exact c =
    cast_divisor c.args.a c.args.b _ _ _ c.requires.first c.requires.second c.unsigned_abs.ensures.value c.unsigned_abs-2.ensures.value c.gcd_of_sizes.ensures

pub returns-clause-greatest : goal.returns-clause-greatest
returns-clause-greatest c =
    let P : ℤ → Type 0 = λ z. IsGcd (unsigned_abs c.args.a) (unsigned_abs c.args.b) (unsigned_abs z) in
    subst P (sym (returns-clause-exact c)) (IsGcd-gcd_of (unsigned_abs c.args.a) (unsigned_abs c.args.b))

pub returns-clause-within : goal.returns-clause-within
returns-clause-within c =
    subst IsWithin (sym (returns-clause-exact c)) (gcd_of-below _ _ (2 ^ 127) c.requires.first c.requires.second)
