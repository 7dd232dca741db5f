-- The sum of a comparison, one side after the other.
use Rattle.claims.specs.Subjects.{in_run}
use Rattle.std.proofs.Common.{◌≡◌, ℕ, ◌++◌, sym, ◌∙◌, ap}
use Rattle.weighing.specs.Weight.{Weight}
use Rattle.weighing.specs.Weighed.{start, weighed, weighed_from}
use Rattle.weighing.specs.declared.scales.Side.TheVariants.{Left, Right}
use Rattle.run_rows.specs.declared.rows.Run.{Run}
use Rattle.path_server.proofs.Flows.{weighed-append}
use Rattle.ctrl_types.specs.declared.expressions.Lin.{Lin}
use Rattle.ctrl_meaning.specs.Expressions.{lin_terms, scale_of_two, scale_with}
use Rattle.ctrl_meaning.specs.declared.readings.ReadPoint.{ReadPoint}

-- the two sides of a comparison, one after the other
pub sides : (r : Run) (at : ReadPoint) (left right : Lin) (w0 w1 w2 : Weight) (s1 s2 : ℕ)
    → s1 ≡ scale_with 1 left.terms → s2 ≡ scale_with s1 right.terms → w0 ≡ start at.row
    → w1 ≡ weighed_from w0 (lin_terms (in_run r) at Left s2 left.terms) → w2 ≡ weighed_from w1 (lin_terms (in_run r) at Right s2 right.terms)
    → w2 ≡ weighed at.row (lin_terms (in_run r) at Left (scale_of_two left right) left.terms ++ lin_terms (in_run r) at Right (scale_of_two left right) right.terms)
sides r at left right w0 w1 w2 s1 s2 first second begun one two =
    let scale : s2 ≡ scale_of_two left right = second ∙ ap (λ s. scale_with s right.terms) first in
    two ∙ ap (λ w. weighed_from w (lin_terms (in_run r) at Right s2 right.terms)) one
    ∙ sym (weighed-append w0 (lin_terms (in_run r) at Left s2 left.terms) (lin_terms (in_run r) at Right s2 right.terms))
    ∙ ap (λ w. weighed_from w (lin_terms (in_run r) at Left s2 left.terms ++ lin_terms (in_run r) at Right s2 right.terms)) begun
    ∙ ap (λ s. weighed at.row (lin_terms (in_run r) at Left s left.terms ++ lin_terms (in_run r) at Right s right.terms)) scale
