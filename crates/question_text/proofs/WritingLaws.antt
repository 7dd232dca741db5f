-- The canonical names of the parts of a condition.
use Rattle.std.proofs.Common.{◌≡◌, List, [], ◌∷◌, map, refl, sym, ap, ◌∙◌}
use Rattle.std.specs.Global.{Vec}
use Rattle.path_server.specs.declared.settings.Setting.{Setting}
use Rattle.condition_syntax.specs.Trees as written
use Rattle.condition_syntax.specs.declared.conditions.Cond.{Cond}
use Rattle.condition_syntax.specs.declared.conditions.Cond.TheVariants as conds
use Rattle.condition_syntax.proofs.TreeLaws.{condition_of-And as written_of-And, condition_of-Or as written_of-Or}
use Rattle.ctrl_types.specs.declared.controllers.State.{State}
use Rattle.question_text.specs.declared.conditions.QCond.{QCond}
use Rattle.question_text.specs.declared.conditions.QCond.TheVariants.{And, Or}
use Rattle.question_text.specs.Conditions.{Condition, conjunction, disjunction, condition_of}
use Rattle.question_text.specs.Texts.{condition_written}
use Rattle.question_text.proofs.TreeLaws.{condition_of-And, condition_of-Or}

module _ (states : List State) (s : Setting) where
  written-conjunction : (cs : List Condition) → condition_written states s (conjunction cs) ≡ written.conjunction (map (condition_written states s) cs)
  unfolding condition_written
  written-conjunction [] = refl
  written-conjunction (c ∷ cs) = ap (written.all_of (condition_written states s c)) (written-conjunction cs)

  written-disjunction : (cs : List Condition) → condition_written states s (disjunction cs) ≡ written.disjunction (map (condition_written states s) cs)
  unfolding condition_written
  written-disjunction [] = refl
  written-disjunction (c ∷ cs) = ap (written.any_of (condition_written states s c)) (written-disjunction cs)

  module _ (cond : QCond) (parts : Vec QCond) (made : Vec Cond) (told : map written.condition_of made.items ≡ map (condition_written states s) (map condition_of parts.items)) where
    pub And_written : cond ≡ And parts → written.condition_of (conds.And made) ≡ condition_written states s (condition_of cond)
    And_written is =
        written_of-And made ∙ ap written.conjunction told ∙ sym (written-conjunction (map condition_of parts.items))
        ∙ ap (condition_written states s) (sym (ap condition_of is ∙ condition_of-And parts))

    pub Or_written : cond ≡ Or parts → written.condition_of (conds.Or made) ≡ condition_written states s (condition_of cond)
    Or_written is =
        written_of-Or made ∙ ap written.disjunction told ∙ sym (written-disjunction (map condition_of parts.items))
        ∙ ap (condition_written states s) (sym (ap condition_of is ∙ condition_of-Or parts))
