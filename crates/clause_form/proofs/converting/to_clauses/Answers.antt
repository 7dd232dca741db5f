use Rattle.std.proofs.Common.{map}
use Rattle.clause_form.specs.Formulas.{formula_of}
use Rattle.clause_form.proofs.ModelLaws.{are_well_formed, models_are_true, true_have_models}
use Rattle.clause_form.proofs.converting.to_clauses.Goals as goal

pub returns-clause-models : goal.returns-clause-models
returns-clause-models c =
    models_are_true c.args.columns c.requires.room (map formula_of c.args.formulas.now.items) c.requires.small c.converted.result c.converted.ensures

pub returns-clause-truths : goal.returns-clause-truths
returns-clause-truths c =
    true_have_models c.args.columns c.requires.room (map formula_of c.args.formulas.now.items) c.requires.small c.converted.result c.converted.ensures

pub returns-clause-formed : goal.returns-clause-formed
returns-clause-formed c =
    are_well_formed c.args.columns c.requires.room (map formula_of c.args.formulas.now.items) c.requires.small c.converted.result c.converted.ensures
