-- To prove a law of the rationals, prove it of quotients: an equation of sums and products then is one on natural numbers.
use mathlib.Core.Quot.{ind, sound, Quot-set}
use Rattle.std.proofs.Common.{◌≡◌, Bool}
use Rattle.std.proofs.Math.Bool.{Bool-set}
use Rattle.ordered_field.specs.Rational.{Parts, Same, ℚ, point}

pub same_point : (a b : Parts) → Same a b → point a ≡ point b
same_point a b e = sound e

-- ---- a proposition
pub holds_1 : (P : ℚ → Type 0) → ((x : ℚ) → IsProp (P x)) → ((a : Parts) → P (point a)) → (x : ℚ) → P x
holds_1 P prop h x = ind {β = P} prop h x

pub holds_2 : (P : ℚ → ℚ → Type 0) → ((x y : ℚ) → IsProp (P x y)) → ((a b : Parts) → P (point a) (point b)) → (x y : ℚ) → P x y
holds_2 P prop h x y = holds_1 (λ p. P p y) (λ p. prop p y) (λ a. holds_1 (P (point a)) (prop (point a)) (h a) y) x

pub holds_3 : (P : ℚ → ℚ → ℚ → Type 0) → ((x y z : ℚ) → IsProp (P x y z)) → ((a b c : Parts) → P (point a) (point b) (point c)) → (x y z : ℚ) → P x y z
holds_3 P prop h x y z = holds_1 (λ p. P p y z) (λ p. prop p y z) (λ a. holds_2 (P (point a)) (prop (point a)) (h a) y z) x

-- ---- an equation between rationals
pub equal_1 : (f g : ℚ → ℚ) → ((a : Parts) → f (point a) ≡ g (point a)) → (x : ℚ) → f x ≡ g x
equal_1 f g = holds_1 (λ x. f x ≡ g x) (λ x. Quot-set _ _)

pub equal_2 : (f g : ℚ → ℚ → ℚ) → ((a b : Parts) → f (point a) (point b) ≡ g (point a) (point b)) → (x y : ℚ) → f x y ≡ g x y
equal_2 f g = holds_2 (λ x y. f x y ≡ g x y) (λ x y. Quot-set _ _)

pub equal_3 : (f g : ℚ → ℚ → ℚ → ℚ) → ((a b c : Parts) → f (point a) (point b) (point c) ≡ g (point a) (point b) (point c)) → (x y z : ℚ) → f x y z ≡ g x y z
equal_3 f g = holds_3 (λ x y z. f x y z ≡ g x y z) (λ x y z. Quot-set _ _)

pub equal_4 : (f g : ℚ → ℚ → ℚ → ℚ → ℚ) → ((a b c d : Parts) → f (point a) (point b) (point c) (point d) ≡ g (point a) (point b) (point c) (point d)) → (x y z w : ℚ) → f x y z w ≡ g x y z w
equal_4 f g h x y z w = equal_1 (λ p. f p y z w) (λ p. g p y z w) (λ a. equal_3 (f (point a)) (g (point a)) (h a) y z w) x

pub equal_5 : (f g : ℚ → ℚ → ℚ → ℚ → ℚ → ℚ) → ((a b c d e : Parts) → f (point a) (point b) (point c) (point d) (point e) ≡ g (point a) (point b) (point c) (point d) (point e)) → (x y z w v : ℚ) → f x y z w v ≡ g x y z w v
equal_5 f g h x y z w v = equal_1 (λ p. f p y z w v) (λ p. g p y z w v) (λ a. equal_4 (f (point a)) (g (point a)) (h a) y z w v) x

-- ---- an equation between tests
pub alike_2 : (f g : ℚ → ℚ → Bool) → ((a b : Parts) → f (point a) (point b) ≡ g (point a) (point b)) → (x y : ℚ) → f x y ≡ g x y
alike_2 f g = holds_2 (λ x y. f x y ≡ g x y) (λ x y. Bool-set _ _)

pub alike_3 : (f g : ℚ → ℚ → ℚ → Bool) → ((a b c : Parts) → f (point a) (point b) (point c) ≡ g (point a) (point b) (point c)) → (x y z : ℚ) → f x y z ≡ g x y z
alike_3 f g = holds_3 (λ x y z. f x y z ≡ g x y z) (λ x y z. Bool-set _ _)
