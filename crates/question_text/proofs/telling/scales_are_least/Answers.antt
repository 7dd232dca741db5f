use Rattle.std.proofs.Common.{◌++◌, arith}
use Rattle.std.proofs.lemmas.Int.{ints}
use Rattle.ctrl_types.proofs.DenominatorLaws.{least_over}
use Rattle.question_text.specs.StatementRules.{numbers}
use Rattle.question_text.proofs.Scales.{least_scale}
use Rattle.question_text.proofs.telling.scales_are_least.Goals as goal

pub returns-clause-lines : goal.returns-clause-lines
returns-clause-lines c controller x is each =
    let den_from = is.den_from in
    least_over (x.before ++ numbers x.says) _ (omega (arith, ints)) each

pub returns-clause-sides : goal.returns-clause-sides
returns-clause-sides c = least_scale
