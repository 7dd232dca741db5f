-- The product of two fractions in lowest terms, n / b times m / d, where n / d and m / b are brought to lowest terms first
use Rattle.std.proofs.Common.{◌≡◌, ℕ, ◌*◌, ◌<◌, ℤ, pos, negsuc, ◌*ℤ◌, ◌≤ℤ◌, unsigned_abs, sym, subst₂, arith, mul-pos}
use Rattle.std.proofs.lemmas.Int.{ints, unsigned_abs-mul}
use Rattle.ordered_field.specs.Rational.{◌*ℚ◌}
use Rattle.lowest_terms.specs.Coprime.{IsCoprime}
use Rattle.lowest_terms.proofs.Reduction.{size_some, size-product}
use Rattle.fraction.specs.Value.{rational}
use Rattle.fraction.proofs.ProductLaws.{product_coprime, product_value}

-- n / d over g is p / q, and m / b over h is r / s
pub record IsCancelled (n b m d p q g r s h : ℤ) : Type 0 where
  pub left_lowest : IsCoprime (unsigned_abs n) (unsigned_abs b)
  pub right_lowest : IsCoprime (unsigned_abs m) (unsigned_abs d)
  pub n_is : p *ℤ g ≡ n
  pub d_is : q *ℤ g ≡ d
  pub m_is : r *ℤ h ≡ m
  pub b_is : s *ℤ h ≡ b
  pub q_some : pos 1 ≤ℤ q
  pub g_some : pos 1 ≤ℤ g
  pub s_some : pos 1 ≤ℤ s
  pub h_some : pos 1 ≤ℤ h
  pub first_lowest : IsCoprime (unsigned_abs p) (unsigned_abs q)
  pub second_lowest : IsCoprime (unsigned_abs r) (unsigned_abs s)

pub positive_product : (a b : ℤ) → pos 1 ≤ℤ a → pos 1 ≤ℤ b → pos 1 ≤ℤ (a *ℤ b)
positive_product (pos a) (pos b) p q = let some : 0 < a * b = mul-pos (omega (arith, ints)) (omega (arith, ints)) in omega (arith, ints)
positive_product (negsuc a) b p q = absurd (omega (arith, ints))
positive_product (pos a) (negsuc b) p q = absurd (omega (arith, ints))

module _ (n b m d p q g r s h : ℤ) (c : IsCancelled n b m d p q g r s h) where
  pub cancelled_coprime : IsCoprime (unsigned_abs (p *ℤ r)) (unsigned_abs (s *ℤ q))
  cancelled_coprime =
      subst₂ IsCoprime (sym (unsigned_abs-mul p r)) (sym (unsigned_abs-mul s q))
      (product_coprime (unsigned_abs p) (unsigned_abs q) (unsigned_abs r) (unsigned_abs s) (unsigned_abs g) (unsigned_abs h) c.first_lowest c.second_lowest
      (subst₂ IsCoprime (sym (size-product p g n c.n_is)) (sym (size-product s h b c.b_is)) c.left_lowest)
      (subst₂ IsCoprime (sym (size-product r h m c.m_is)) (sym (size-product q g d c.d_is)) c.right_lowest))

value_of_naturals : (n b m d p r : ℤ) (q g s h : ℕ) → p *ℤ pos g ≡ n → pos q *ℤ pos g ≡ d → r *ℤ pos h ≡ m → pos s *ℤ pos h ≡ b → (left : pos 1 ≤ℤ b) (right : pos 1 ≤ℤ d) (both : pos 1 ≤ℤ (pos s *ℤ pos q)) → rational (p *ℤ r) (pos s *ℤ pos q) both ≡ rational n b left *ℚ rational m d right
value_of_naturals n b m d p r q g s h n_is d_is m_is b_is =
    subst₂ (λ n m. (left : pos 1 ≤ℤ b) (right : pos 1 ≤ℤ d) (both : pos 1 ≤ℤ (pos s *ℤ pos q)) → rational (p *ℤ r) (pos s *ℤ pos q) both ≡ rational n b left *ℚ rational m d right) n_is m_is
    (subst₂ (λ b d. (left : pos 1 ≤ℤ b) (right : pos 1 ≤ℤ d) (both : pos 1 ≤ℤ (pos s *ℤ pos q)) → rational (p *ℤ r) (pos s *ℤ pos q) both ≡ rational (p *ℤ pos g) b left *ℚ rational (r *ℤ pos h) d right) b_is d_is
    (λ left right both. sym (product_value p r q s g h (size_some (pos (s * h)) left) (size_some (pos (q * g)) right) (size_some (pos (s * q)) both))))

pub cancelled_value : (n b m d p q g r s h : ℤ) → IsCancelled n b m d p q g r s h → (left : pos 1 ≤ℤ b) (right : pos 1 ≤ℤ d) (both : pos 1 ≤ℤ (s *ℤ q)) → rational (p *ℤ r) (s *ℤ q) both ≡ rational n b left *ℚ rational m d right
cancelled_value n b m d p (pos q) (pos g) r (pos s) (pos h) c = value_of_naturals n b m d p r q g s h c.n_is c.d_is c.m_is c.b_is
cancelled_value n b m d p (negsuc q) g r s h c = absurd (omega (arith, ints, c.q_some))
cancelled_value n b m d p (pos q) (negsuc g) r s h c = absurd (omega (arith, ints, c.g_some))
cancelled_value n b m d p (pos q) (pos g) r (negsuc s) h c = absurd (omega (arith, ints, c.s_some))
cancelled_value n b m d p (pos q) (pos g) r (pos s) (negsuc h) c = absurd (omega (arith, ints, c.h_some))
