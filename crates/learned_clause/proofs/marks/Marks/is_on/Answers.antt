use Rattle.std.proofs.Common.{Bool, false, Option, ◌∙◌, ap}
use Rattle.std.specs.Option.{unwrap_or}
use Rattle.std.proofs.lemmas.Option.{unwrap_or-slice_get}
use Rattle.learned_clause.proofs.marks.Marks.is_on.Goals as goal

pub returns-in-None : goal.returns-in-None
returns-in-None c = ap (λ (o : Option Bool). unwrap_or o false) c.in-None.ensures.value ∙ unwrap_or-slice_get c.args.self.now.on c.args.atom false
