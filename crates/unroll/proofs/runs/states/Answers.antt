use Rattle.std.proofs.Common.{◌≡◌, ◌∙◌, ◌+◌, ℕ, ap, arith, FitsSigned}
use Rattle.std.proofs.Common.{rules}
use Rattle.std.specs.Int.{w128}
use Rattle.std.proofs.lemmas.Int.{to_z-of_z}
use Rattle.claims.specs.Columns.{entry_value}
use Rattle.linear_form.specs.Sums.{entry}
use Rattle.run_rows.specs.declared.columns.Entry.TheVariants.{X}
use Rattle.unroll.proofs.RunLaws.{one_more_made}
use Rattle.unroll.proofs.runs.states.Goals as goal

pub loop-state-preserved : goal.loop-state-preserved
loop-state-preserved c =
    let fits : FitsSigned w128 c.value_of.result = search rules in
    let made = λ (j : ℕ). entry_value c.args.shape.now (entry c.args.values.now) (X c.args.row c.args.flow j) in
    one_more_made made 0 c.loop-state.state c.loop-state.states.items c.push.new.self.items c.value_of.result c.loop-state.invariant
    (c.value_of.ensures ∙ ap made (let e : c.loop-state.state ≡ 0 + c.loop-state.state = omega arith in e)) (simp to_z-of_z at c.in_ok-push.ensures.items)
