-- The limits of what is read.
use Rattle.std.specs.Prelude.{◌<◌, ◌≤◌, length, All, IfSome}
use Rattle.weighing.specs.Scaled.{IsNum}
use Rattle.condition_syntax.specs.declared.expressions.Expr.{Expr}
use Rattle.condition_syntax.specs.declared.expressions.ETerm.{ETerm}
use Rattle.condition_syntax.specs.Trees.{Condition, EachExpr, EachDelay, comparisons}

-- the term's number and the length of its name are within their limits
pub record IsTerm (t : ETerm) : Type 0 where
  pub number : IsNum t.coef
  pub name : IfSome t.name (λ x. length x.text ≤ 16)

pub record IsExpr (e : Expr) : Type 0 where
  pub terms : All IsTerm e.terms
  pub some : 0 < length e.terms
  pub few : length e.terms ≤ 16

pub record IsCondition (c : Condition) : Type 0 where
  pub exprs : EachExpr IsExpr c
  pub delays : EachDelay IsNum c
  pub few : comparisons c ≤ 16
