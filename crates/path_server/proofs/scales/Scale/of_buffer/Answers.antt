use Rattle.std.proofs.Common.{◌≡◌, ◌∙◌, ap, ◌≤◌, ℕ, ℤ, pos, neg_ℤ, unsigned_abs, sym, subst}
use Rattle.whole.proofs.Integers.{unsigned_abs-neg_ℤ}
use Rattle.path_server.specs.Claims.{Factors}
use Rattle.path_server.proofs.Sizes.{factors_found}
use Rattle.path_server.proofs.scales.Scale.of_buffer.Goals as goal

abbrev made : ℤ → ℤ → ℤ → ℤ → Factors
made unit minus rate buffer = record { unit = unit; minus = minus; rate = rate; buffer = buffer }

same_factors : (a a' b b' c c' d d' : ℤ) → a ≡ a' → b ≡ b' → c ≡ c' → d ≡ d' → made a b c d ≡ made a' b' c' d'
same_factors a a' b b' c c' d d' p q r s =
    ap (λ x. made x b c d) p ∙ ap (λ x. made a' x c d) q ∙ ap (λ x. made a' b' x d) r ∙ ap (made a' b' c') s

small_part : (x : ℤ) (n m : ℕ) → x ≡ pos n → n ≤ m → unsigned_abs x ≤ m
small_part x n m is small = subst (λ z. unsigned_abs z ≤ m) (sym is) small

small_opposite : (x : ℤ) (n m : ℕ) → x ≡ neg_ℤ (pos n) → n ≤ m → unsigned_abs x ≤ m
small_opposite x n m is small =
    subst (λ z. unsigned_abs z ≤ m) (sym is) (rw (unsigned_abs-neg_ℤ (pos n)) small)

pub returns-clause-value : goal.returns-clause-value
returns-clause-value c =
    let found = factors_found c.args.path.now.rate.den c.args.buffer.now.den c.common-unit.result c.negated.result
    c.requires.path_in.rate.den_from c.requires.path_in.rate.den_to c.requires.buffer_in.den_from c.requires.buffer_in.den_to
    c.common-unit.ensures.value c.negated.ensures in
    same_factors _ _ _ _ _ _ _ _ found.unit_is found.minus_is found.rate_is found.buffer_is

pub returns-clause-within : goal.returns-clause-within
returns-clause-within c =
    let found = factors_found c.args.path.now.rate.den c.args.buffer.now.den c.common-unit.result c.negated.result
    c.requires.path_in.rate.den_from c.requires.path_in.rate.den_to c.requires.buffer_in.den_from c.requires.buffer_in.den_to
    c.common-unit.ensures.value c.negated.ensures in
    record {
      unit_to = small_part _ _ _ found.unit_is found.unit_to;
      minus_to = small_opposite _ _ _ found.minus_is found.unit_to;
      rate_to = small_part _ _ _ found.rate_is found.rate_to;
      buffer_to = small_part _ _ _ found.buffer_is found.buffer_to;
    }
