-- Sums of entries over the flows, and of one side after the other.
use Rattle.run_rows.specs.Runs.{flow_count}
use Rattle.std.proofs.Common.{◌≡◌, ℕ, zero, suc, ◌≤◌, ℤ, [], ◌∷◌, ◌++◌, refl, sym, ◌∙◌, ap, arith}
use Rattle.weighing.specs.Weight.{Weight}
use Rattle.weighing.specs.Weighed.{start, times, weighed, weighed_from}
use Rattle.weighing.specs.declared.scales.Side.TheVariants.{Left, Right}
use Rattle.run_rows.specs.declared.rows.Run.{Run}
use Rattle.claims.specs.Subjects.{each_flow, in_run}
use Rattle.path_server.proofs.Flows.{weighed-append}
use Rattle.question_text.specs.declared.names.Rows.{Rows}
use Rattle.question_text.specs.declared.conditions.QLin.{QLin}
use Rattle.question_text.specs.Expressions.{comparison_terms, lin_terms, scale_of_two}
use Rattle.question_text.specs.NameMeanings.{flow_terms}

-- the two sides of a comparison, one after the other
pub sides : (r : Run) (at : Rows) (left right : QLin) (w0 w1 w2 : Weight) (scale : ℕ)
    → scale ≡ scale_of_two left right → w0 ≡ start at.last
    → w1 ≡ weighed_from w0 (lin_terms (in_run r) (flow_count r 0) at Left scale left.terms) → w2 ≡ weighed_from w1 (lin_terms (in_run r) (flow_count r 0) at Right scale right.terms)
    → w2 ≡ weighed at.last (comparison_terms (in_run r) (flow_count r 0) at left right)
sides r at left right w0 w1 w2 scale same begun one two =
    two ∙ ap (λ w. weighed_from w (lin_terms (in_run r) (flow_count r 0) at Right scale right.terms)) one
    ∙ sym (weighed-append w0 (lin_terms (in_run r) (flow_count r 0) at Left scale left.terms) (lin_terms (in_run r) (flow_count r 0) at Right scale right.terms))
    ∙ ap (λ w. weighed_from w (lin_terms (in_run r) (flow_count r 0) at Left scale left.terms ++ lin_terms (in_run r) (flow_count r 0) at Right scale right.terms)) begun
    ∙ ap (λ s. weighed at.last (lin_terms (in_run r) (flow_count r 0) at Left s left.terms ++ lin_terms (in_run r) (flow_count r 0) at Right s right.terms)) same
