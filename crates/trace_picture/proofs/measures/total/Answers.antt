use Rattle.std.proofs.Common.{◌≡◌, ◌+◌, ℕ, ◌+ℤ◌, ℤ, pos, add-one, ap, refl, sym, ◌∙◌, rules, FitsSigned}
use Rattle.std.specs.Int.{w128}
use Rattle.std.proofs.lemmas.Int.{to_z-of_z}
use Rattle.run_rows.specs.Runs.{over_flows}
use Rattle.trace_picture.specs.Measures.{entry_of}
use Rattle.trace_picture.proofs.measures.total.Goals as goal

none : (entry : ℕ → ℤ) → pos 0 ≡ over_flows entry 0
unfolding over_flows
none entry = refl

one_more : (entry : ℕ → ℤ) (n : ℕ) (old new item : ℤ) → old ≡ over_flows entry n → new ≡ old +ℤ item → item ≡ entry (n + 1) → new ≡ over_flows entry (n + 1)
unfolding over_flows
one_more entry n old new item before added is =
    added ∙ ap (λ (z : ℤ). z +ℤ item) before ∙ ap (λ (z : ℤ). over_flows entry n +ℤ z) is ∙ rw add-one refl

pub loop-index-init : goal.loop-index-init
loop-index-init c = none (entry_of c.args.run.now c.args.row c.args.kind)

pub loop-index-preserved : goal.loop-index-preserved
loop-index-preserved c =
    let fits : FitsSigned w128 c.entry.result = search rules in
    let made : FitsSigned w128 c.in_ok-total.total = search rules in
    to_z-of_z w128 c.in_ok-total.total made
    ∙ one_more (entry_of c.args.run.now c.args.row c.args.kind) c.loop-index.index _ _ _ c.loop-index.invariant c.in_ok-total.ensures
    (to_z-of_z w128 c.entry.result fits ∙ c.entry.ensures)
