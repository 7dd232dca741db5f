-- The limits of a question's syntax, within which reading gives it.
use Rattle.std.specs.Prelude.{◌≡◌, ◌≤◌, length, All, false, codes, Option, Some, None}
use Rattle.weighing.specs.Scaled.{IsNum}
use Rattle.weighing.specs.declared.scales.Num.{Num}
use Rattle.condition_syntax.specs.Words.{is_keyword}
use Rattle.condition_syntax.specs.Trees.{Condition, comparisons, EachExpr, EachDelay}
use Rattle.condition_syntax.specs.declared.expressions.Expr.{Expr}
use Rattle.condition_syntax.specs.declared.expressions.ETerm.{ETerm}
use Rattle.condition_syntax.specs.declared.expressions.Name.{Name}
use Rattle.path_server.specs.Limits.{IsSetting}
use Rattle.ctrl_syntax.specs.Limits.{IsNameText, nesting}
use Rattle.question_syntax.specs.Sections.{Wanted, Sections}

-- a name in an expression; the credit alone may lack its step
pub record IsPlacedName (name : Name) : Type 0 where
  pub text : IsNameText name.text
  pub free : is_keyword name.text ≡ false
  pub step : name.step ≡ None → name.text ≡ codes "credit"

abbrev pub OptionalName : Option Name → Type 0
OptionalName None = Unit {0}
OptionalName (Some name) = IsPlacedName name

pub record IsPlacedTerm (t : ETerm) : Type 0 where
  pub coef : IsNum t.coef
  pub name : OptionalName t.name

pub record IsPlacedExpr (expr : Expr) : Type 0 where
  pub terms_from : 1 ≤ length expr.terms
  pub terms_to : length expr.terms ≤ 16
  pub each_term : All IsPlacedTerm expr.terms

abbrev pub NoDelay : Num → Type 0
NoDelay q = ⊥

pub record IsPlacedCondition (c : Condition) : Type 0 where
  pub few : comparisons c ≤ 16
  pub shallow : nesting c ≤ 16
  pub each_expr : EachExpr IsPlacedExpr c
  pub no_delay : EachDelay NoDelay c

abbrev pub IsWanted : Wanted → Type 0
IsWanted w = IsPlacedCondition w.cond

pub record IsQuestion (s : Sections) : Type 0 where
  pub setting : IsSetting s.setting
  pub assumes_to : length s.assumes ≤ 16
  pub each_assume : All IsWanted s.assumes
  pub require : IsWanted s.require
