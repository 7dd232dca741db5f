-- What a guard claims of the states and signals that it reads.
use Rattle.std.specs.Prelude.{ℕ, ◌-◌, ◌≤◌, ℤ, pos, negsuc, [], ◌∷◌}
use Rattle.claims.specs.Subjects.{Subject, of_arrivals, of_losses, of_service}
use Rattle.weighing.specs.Claim.{Claims, Compared}
use Rattle.weighing.specs.declared.weighings.Rel5.TheVariants.{AtLeast}
use Rattle.run_rows.specs.declared.rows.Run.{Run}
use Rattle.condition_tree.specs.Trees.{EachLeaf, with_leaves}
use Rattle.ctrl_types.specs.declared.expressions.Lin.{Lin}
use Rattle.ctrl_types.specs.Tests.{Test, Leaf, compares, delayed}
use Rattle.ctrl_meaning.specs.Expressions.{AreTerms, comparison_claim, scale_of_two}
use Rattle.ctrl_meaning.specs.declared.readings.ReadPoint.{ReadPoint}

-- all that was accepted k rows before the row that the sender hears of was served by then: A - L there, less S
abbrev pub delay_claim : {T : Type 0} → (ℤ → Subject → T) → ReadPoint → ℕ → Compared T
delay_claim term at k = record {
  terms = term (pos 1) (of_arrivals (at.heard - k) at.flow) ∷ term (negsuc 0) (of_losses (at.heard - k) at.flow)
      ∷ term (negsuc 0) (of_service at.heard at.flow) ∷ [];
  rel = AtLeast;
}

abbrev pub leaf_claim : {T : Type 0} → (ℤ → Subject → T) → ReadPoint → Leaf Lin ℕ → Compared T
leaf_claim term at (compares left rel right) = comparison_claim term at left rel right
leaf_claim term at (delayed k) = delay_claim term at k

abbrev pub test_claim : {T : Type 0} → (ℤ → Subject → T) → ReadPoint → Test → Claims T
test_claim term at t = with_leaves (leaf_claim term at) t

abbrev pub CanWeighLeaf : Run → ReadPoint → Leaf Lin ℕ → Type 0
CanWeighLeaf r at (compares left rel right) = AreTerms r at left.terms × AreTerms r at right.terms × (scale_of_two left right ≤ 1000000)
CanWeighLeaf r at (delayed k) = k ≤ at.heard

-- what the code needs of a condition
abbrev pub CanWeigh : Run → ReadPoint → Test → Type 0
CanWeigh r at t = EachLeaf (CanWeighLeaf r at) t
