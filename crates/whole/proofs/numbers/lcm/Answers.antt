use Rattle.std.proofs.Common.{◌≡◌, ◌<◌, ℕ, ◌*◌, ◌/◌, ℤ, pos, unsigned_abs, to_z, of_z, ap, sym, ◌∙◌, arith, FitsSigned, ◌≤ℤ◌}
use Rattle.std.specs.Int.{w128}
use Rattle.std.proofs.lemmas.Int.{to_z-of_z, ints}
use Rattle.whole.specs.Numbers.{whole, gcd_of, lcm_of}
use Rattle.whole.proofs.Divisors.{lcm_of_is}
use Rattle.whole.proofs.Overflow.{whole_none}
use Rattle.whole.proofs.numbers.lcm.Goals as goal

-- the code's quotient times b is the least common multiple
product_is : (a b : ℤ) (x y g : ℕ) → FitsSigned w128 a → FitsSigned w128 b → x ≡ unsigned_abs (to_z w128 (of_z w128 a)) → y ≡ unsigned_abs (to_z w128 (of_z w128 b)) → g ≡ gcd_of x y → x / g * y ≡ lcm_of (unsigned_abs a) (unsigned_abs b)
unfolding lcm_of
product_is a b x y g p q left right e =
    let size_a = left ∙ ap unsigned_abs (to_z-of_z w128 a p) in
    let size_b = right ∙ ap unsigned_abs (to_z-of_z w128 b q) in
    ap (λ n. x / n * y) e ∙ ap (λ n. n / gcd_of n y * y) size_a ∙ ap (λ n. unsigned_abs a / gcd_of (unsigned_abs a) n * n) size_b

above : (a : ℤ) → pos 1 ≤ℤ a → 0 < unsigned_abs a
above a h = omega (arith, ints)

pub returns-in-Some-clause-exact : goal.returns-in-Some-clause-exact
returns-in-Some-clause-exact c =
    c.signed.ensures ∙ ap (λ n. whole (pos n)) (c.in-Some.ensures.1 ∙ product_is c.args.a c.args.b _ _ _ c.ranges.a c.ranges.b c.unsigned_abs-left.ensures.value c.unsigned_abs-right.ensures.value c.gcd_of_sizes.ensures)

pub returns-in-Some-clause-least : goal.returns-in-Some-clause-least
returns-in-Some-clause-least c m is =
    returns-in-Some-clause-exact c ∙ ap (λ n. whole (pos n)) (lcm_of_is _ _ m (above c.args.a c.requires.first) (above c.args.b c.requires.second) is)

pub returns-in-None-clause-exact : goal.returns-in-None-clause-exact
returns-in-None-clause-exact c =
    let is = product_is c.args.a c.args.b _ _ _ c.ranges.a c.ranges.b c.unsigned_abs-left.ensures.value c.unsigned_abs-right.ensures.value c.gcd_of_sizes.ensures in
    sym (whole_none (pos (lcm_of (unsigned_abs c.args.a) (unsigned_abs c.args.b))) (omega (arith, is, c.in-None.ensures)))

pub returns-in-None-clause-least : goal.returns-in-None-clause-least
returns-in-None-clause-least c m is =
    returns-in-None-clause-exact c ∙ ap (λ n. whole (pos n)) (lcm_of_is _ _ m (above c.args.a c.requires.first) (above c.args.b c.requires.second) is)
