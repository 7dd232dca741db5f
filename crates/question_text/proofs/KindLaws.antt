-- The kinds of what stands in the parts of a condition.
use Rattle.std.proofs.Common.{◌≡◌, Bool, List, [], ◌∷◌, map, refl, sym, ap, ◌∙◌}
use Rattle.std.specs.Prelude.{◌||◌}
use Rattle.std.specs.List.{list_any}
use Rattle.std.specs.Global.{Vec}
use Rattle.ctrl_types.specs.declared.controllers.State.{State}
use Rattle.question_text.specs.declared.conditions.QCond.{QCond}
use Rattle.question_text.specs.declared.conditions.QCond.TheVariants.{And, Or}
use Rattle.question_text.specs.Conditions.{Condition, conjunction, disjunction, condition_of}
use Rattle.question_text.specs.Resolution.{mixes}
use Rattle.question_text.proofs.TreeLaws.{condition_of-And, condition_of-Or}

mixes-conjunction : (states : List State) (cs : List Condition) → mixes states (conjunction cs) ≡ list_any (mixes states) cs
unfolding mixes
mixes-conjunction states [] = refl
mixes-conjunction states (c ∷ cs) = ap (λ (b : Bool). mixes states c || b) (mixes-conjunction states cs)

mixes-disjunction : (states : List State) (cs : List Condition) → mixes states (disjunction cs) ≡ list_any (mixes states) cs
unfolding mixes
mixes-disjunction states [] = refl
mixes-disjunction states (c ∷ cs) = ap (λ (b : Bool). mixes states c || b) (mixes-disjunction states cs)

pub And_mixes : (states : List State) (condition : QCond) (parts : Vec QCond) (b : Bool) → condition ≡ And parts
    → b ≡ list_any (mixes states) (map condition_of parts.items) → b ≡ mixes states (condition_of condition)
And_mixes states condition parts b is told =
    told ∙ sym (mixes-conjunction states (map condition_of parts.items)) ∙ ap (mixes states) (sym (condition_of-And parts))
    ∙ ap (λ (c : QCond). mixes states (condition_of c)) (sym is)

pub Or_mixes : (states : List State) (condition : QCond) (parts : Vec QCond) (b : Bool) → condition ≡ Or parts
    → b ≡ list_any (mixes states) (map condition_of parts.items) → b ≡ mixes states (condition_of condition)
Or_mixes states condition parts b is told =
    told ∙ sym (mixes-disjunction states (map condition_of parts.items)) ∙ ap (mixes states) (sym (condition_of-Or parts))
    ∙ ap (λ (c : QCond). mixes states (condition_of c)) (sym is)
