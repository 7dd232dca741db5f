-- What a guide's advice says.
use Rattle.clause_search.specs.declared.guide.Advice.{Advice}
use Rattle.clause_search.specs.declared.guide.Advice.TheVariants as advice

-- so it is where the advice is to stop
abbrev pub IfStop : Type 0 → Advice → Type 0
IfStop stop (advice.Decide l) = Unit {0}
IfStop stop advice.Nothing = Unit {0}
IfStop stop advice.Stop = stop
