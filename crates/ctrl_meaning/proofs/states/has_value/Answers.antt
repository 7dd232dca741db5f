use Rattle.std.proofs.Common.{◌≡◌, ◌≤◌, ℕ, ℤ, pos, Some, ◌∷◌, ◌∙◌, ap, arith}
use Rattle.std.proofs.lemmas.Int.{ints}
use Rattle.weighing.specs.Weight.{Weight}
use Rattle.weighing.specs.Claim.{outcome}
use Rattle.weighing.specs.Weighed.{added, related, start, times, weighed, weighed_from}
use Rattle.weighing.specs.declared.scales.Side.TheVariants.{Right}
use Rattle.weighing.specs.declared.weighings.Rel5.TheVariants.{Equal}
use Rattle.claims.specs.Subjects.{in_run}
use Rattle.run_rows.specs.Runs.{state_of}
use Rattle.run_rows.specs.declared.rows.Run.{Run}
use Rattle.ctrl_types.specs.declared.expressions.Lin.{Lin}
use Rattle.ctrl_meaning.specs.Expressions.{lin_terms, scale_with}
use Rattle.ctrl_meaning.specs.Steps.{set_claim}
use Rattle.ctrl_meaning.specs.declared.readings.ReadPoint.{ReadPoint}
use Rattle.claim_values.proofs.Sums.{entry_is, factor_is, given}
use Rattle.ctrl_meaning.proofs.states.has_value.Goals as goal

-- the state's term, and then those of the expression
valued : (r : Run) (at : ReadPoint) (j scale : ℕ) (lin : Lin) (k x : ℤ) (w0 w1 w2 : Weight) → scale ≡ scale_with 1 lin.terms
    → given k ≡ pos scale → given x ≡ state_of r at.row at.flow j → w0 ≡ start at.row → w1 ≡ added w0 (given k) (given x)
    → w2 ≡ weighed_from w1 (lin_terms (in_run r) at Right scale lin.terms) → related Equal w2.sum ≡ outcome at.row (set_claim (in_run r) at j (Some lin))
valued r at j scale lin k x w0 w1 w2 scale_is k_is x_is begun one two =
    ap (λ (w : Weight). related Equal w.sum)
    (
    two
    ∙ ap (λ w. weighed_from w (lin_terms (in_run r) at Right scale lin.terms))
    (one ∙ ap (λ a. added w0 a (given x)) k_is ∙ ap (added w0 (pos scale)) x_is ∙ ap (λ w. added w (pos scale) (state_of r at.row at.flow j)) begun)
    ∙ ap (λ s. weighed at.row (times (pos s) (state_of r at.row at.flow j) ∷ lin_terms (in_run r) at Right s lin.terms)) scale_is
    )

pub returns : goal.returns
returns c =
    let small : c.scale_with-scale.result ≤ 1000000 = (let e = c.scale_with-scale.ensures in let to = c.requires.set_in.1 in omega (arith, e, to)) in
    c.stands.ensures.exact
    ∙ valued c.args.run.now c.args.at.now c.args.state c.scale_with-scale.result c.args.lin.now c.from.result c.state-here.result
    c.new.result c.plus-start.result c.plus_lin.result c.scale_with-scale.ensures
    (factor_is c.from.result (pos c.scale_with-scale.result) (let e = c.from.ensures in omega (arith, ints)) c.from.ensures)
    (entry_is c.state-here.result _ (c.state-here.ensures.within c.requires.run_in) c.state-here.ensures.value)
    c.new.ensures c.plus-start.ensures c.plus_lin.ensures
