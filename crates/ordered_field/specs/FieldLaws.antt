-- What an ordered field is.
use Rattle.std.specs.Prelude.{◌≡◌, ◌⊎◌}

-- zero, one, sum, product, opposite and order are those of an ordered field
pub record IsOrderedField {X : Type 0} (zero one : X) (sum product : X → X → X) (opposite : X → X) (AtMost : X → X → Type 0) : Type 0 where
  pub sum_comm : (x y : X) → sum x y ≡ sum y x
  pub sum_assoc : (x y z : X) → sum (sum x y) z ≡ sum x (sum y z)
  pub sum_zero : (x : X) → sum x zero ≡ x
  pub sum_opposite : (x : X) → sum x (opposite x) ≡ zero
  pub product_comm : (x y : X) → product x y ≡ product y x
  pub product_assoc : (x y z : X) → product (product x y) z ≡ product x (product y z)
  pub product_one : (x : X) → product x one ≡ x
  pub product_sum : (x y z : X) → product x (sum y z) ≡ sum (product x y) (product x z)
  pub one_apart : ¬ (one ≡ zero)
  pub inverse : (x : X) → ¬ (x ≡ zero) → (i : X) × (product i x ≡ one)
  pub reflexive : (x : X) → AtMost x x
  pub antisymmetric : (x y : X) → AtMost x y → AtMost y x → x ≡ y
  pub transitive : (x y z : X) → AtMost x y → AtMost y z → AtMost x z
  pub total : (x y : X) → AtMost x y ⊎ AtMost y x
  pub sum_ordered : (x y z : X) → AtMost x y → AtMost (sum x z) (sum y z)
  pub product_ordered : (x y z : X) → AtMost zero x → AtMost y z → AtMost (product x y) (product x z)
