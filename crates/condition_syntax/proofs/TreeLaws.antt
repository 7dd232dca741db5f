-- The trees of conditions that the code makes.
use Rattle.std.proofs.Common.{◌≡◌, map, sym, ap, ◌∙◌}
use Rattle.std.specs.Global.{Vec}
use Rattle.condition_syntax.specs.declared.conditions.Cond.{Cond}
use Rattle.condition_syntax.specs.declared.conditions.Cond.TheOpen.{Cond-F}
use Rattle.condition_syntax.specs.declared.conditions.Cond.TheFolds.{fold-roll-Cond}
use Rattle.condition_syntax.specs.declared.conditions.Cond.TheVariants.{True, False, And, Or, rolls-True, rolls-False, rolls-And, rolls-Or}
use Rattle.condition_syntax.specs.Trees.{Condition, always, never, conjunction, disjunction, condition_step, condition_of}

pub condition_of-True : condition_of True ≡ always
condition_of-True = ap condition_of (sym rolls-True) ∙ fold-roll-Cond Condition condition_step Cond-F.True

pub condition_of-False : condition_of False ≡ never
condition_of-False = ap condition_of (sym rolls-False) ∙ fold-roll-Cond Condition condition_step Cond-F.False

pub condition_of-And : (parts : Vec Cond) → condition_of (And parts) ≡ conjunction (map condition_of parts.items)
condition_of-And parts = ap condition_of (sym (rolls-And parts)) ∙ fold-roll-Cond Condition condition_step (Cond-F.And parts)

pub condition_of-Or : (parts : Vec Cond) → condition_of (Or parts) ≡ disjunction (map condition_of parts.items)
condition_of-Or parts = ap condition_of (sym (rolls-Or parts)) ∙ fold-roll-Cond Condition condition_step (Cond-F.Or parts)
