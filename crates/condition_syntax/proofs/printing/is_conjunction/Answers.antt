use Rattle.std.proofs.Common.{map, ap, sym, ◌∙◌}
use Rattle.condition_syntax.specs.declared.conditions.Cond.{Cond}
use Rattle.condition_syntax.specs.Trees.{condition_of}
use Rattle.condition_syntax.specs.CanonicalText.{is_conjunction}
use Rattle.condition_syntax.proofs.TreeLaws.{condition_of-And, condition_of-Or}
use Rattle.condition_syntax.proofs.TextLaws.{is_conjunction-conjunction, is_conjunction-disjunction}
use Rattle.condition_syntax.proofs.printing.is_conjunction.Goals as goal

pub returns-in-And : goal.returns-in-And
returns-in-And c =
    let parts = c.in-And.field-0 in
    sym (ap (λ (x : Cond). is_conjunction (condition_of x)) c.in-And.is ∙ ap is_conjunction (condition_of-And parts) ∙ is_conjunction-conjunction (map condition_of parts.items))

pub returns-in-Or : goal.returns-in-Or
returns-in-Or c =
    let parts = c.in-Or.field-0 in
    sym (ap (λ (x : Cond). is_conjunction (condition_of x)) c.in-Or.is ∙ ap is_conjunction (condition_of-Or parts) ∙ is_conjunction-disjunction (map condition_of parts.items))
