use Rattle.std.proofs.Common.{rules, FitsSigned}
use Rattle.std.specs.Int.{w128}
use Rattle.learned_clause.proofs.MarkLaws.{small_mult}
use Rattle.learned_clause.proofs.marks.Marks.mark_part.Goals as goal

pub returns-clause-within : goal.returns-clause-within
returns-clause-within c =
    let fits : FitsSigned w128 c.args.part.mult = search rules in
    small_mult c.args.part.mult fits c.requires.mult
