use Rattle.std.proofs.Common.{length, sym, subst}
use Rattle.std.proofs.lemmas.Result.{IfOk-weaker}
use Rattle.clause_form.specs.Formulas.{CanTake, EachComparison}
use Rattle.run_rows.specs.Columns.{entries_of}
use Rattle.ctrl_meaning.specs.Flows.{shape_for}
use Rattle.unroll.proofs.FlowSizes.{flows_take}
use Rattle.unroll.specs.ClaimFormulas.{trees}
use Rattle.unroll.proofs.FlowMeaning.{flows_in_run, flows_made}
use Rattle.unroll.proofs.flow_rows.flow_row.Goals as goal

pub returns-clause-made : goal.returns-clause-made
returns-clause-made c =
    IfOk-weaker c.row_formulas.result _ _ (λ fs is.
    flows_made c.args.free c.args.controller.now c.args.question.now.setting c.args.row (trees fs.items) c.requires.controller_in c.requires.row_in is)
    c.row_formulas.ensures

pub returns-clause-read : goal.returns-clause-read
returns-clause-read c =
    IfOk-weaker c.row_formulas.result _ _ (λ fs is.
    flows_in_run c.args.free c.args.controller.now c.args.question.now.setting c.args.row (trees fs.items) c.requires.controller_in c.requires.row_in is)
    c.row_formulas.ensures

pub returns-clause-small : goal.returns-clause-small
returns-clause-small c =
    IfOk-weaker c.row_formulas.result _ _ (λ fs is.
    subst (EachComparison (CanTake (length (entries_of (shape_for c.args.controller.now c.args.question.now.setting))))) (sym is)
    (flows_take c.args.free c.args.controller.now c.args.question.now.setting c.args.row c.requires.controller_in c.requires.setting_in c.requires.row_in))
    c.row_formulas.ensures
