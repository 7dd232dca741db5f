use Rattle.std.proofs.Common.{◌∙◌, ap, sym, subst, ℤ, List, FitsSigned, to_z, of_z}
use Rattle.std.proofs.Common.{rules}
use Rattle.std.specs.Int.{w128}
use Rattle.std.proofs.lemmas.Int.{to_z-of_z}
use Rattle.std.proofs.lemmas.Result.{IfOk-weaker}
use Rattle.claims.specs.Columns.{run_of}
use Rattle.linear_form.specs.Sums.{entry}
use Rattle.run_rows.specs.Runs.{Fits}
use Rattle.unroll.proofs.RunLaws.{entry_of_fits, run_fits}
use Rattle.unroll.proofs.runs.run_of.Goals as goal

pub returns-clause-fits : goal.returns-clause-fits
returns-clause-fits c =
    let s = c.args.problem.now.shape in
    let values = c.args.values.now.items in
    let fits : FitsSigned w128 c.args.over = search rules in
    IfOk-weaker c.run.result _ _ (λ made is.
    subst (Fits s) (sym (is ∙ ap (λ (vs : List ℤ). run_of s (entry vs) (to_z w128 (of_z w128 c.args.over))) c.as_slice.ensures.value
    ∙ ap (λ (n : ℤ). run_of s (entry values) n) (to_z-of_z w128 c.args.over fits)))
    (run_fits s values c.args.over c.requires.over_from (entry_of_fits c.args.over fits c.requires.over_from) c.requires.entries))
    c.run.ensures
