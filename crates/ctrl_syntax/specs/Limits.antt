-- The limits of a controller's syntax, within which reading gives it.
use Rattle.std.specs.Prelude.{◌≡◌, ℕ, suc, ◌≤◌, List, length, All, Bool, true, false, ◌||◌, max, pos, ◌≤ℤ◌, Option, Some, None}
use Rattle.source_text.specs.Spelling.{is_word}
use Rattle.weighing.specs.Scaled.{IsNum}
use Rattle.weighing.specs.declared.scales.Num.{Num}
use Rattle.condition_syntax.specs.Words.{is_keyword}
use Rattle.condition_syntax.specs.CanonicalText.{is_conjunction, is_disjunction}
use Rattle.condition_syntax.specs.Trees.{Condition, always, never, leaf, compares, delayed, opposite, end_of_all, all_of, end_of_any, any_of, comparisons, condition_of, EachExpr, EachDelay}
use Rattle.condition_syntax.specs.declared.conditions.Cond.{Cond}
use Rattle.condition_syntax.specs.declared.expressions.Expr.{Expr}
use Rattle.condition_syntax.specs.declared.expressions.ETerm.{ETerm}
use Rattle.condition_syntax.specs.declared.expressions.Name.{Name}
use Rattle.ctrl_syntax.specs.Sections.{Rule, Sections}
use Rattle.ctrl_syntax.specs.declared.syntax.StateLine.{StateLine}
use Rattle.ctrl_syntax.specs.declared.syntax.SetLine.{SetLine}
use Rattle.ctrl_syntax.specs.declared.syntax.RuleLine.{RuleLine}
use Rattle.ctrl_syntax.specs.declared.syntax.RateLine.{RateLine}
use Rattle.ctrl_syntax.specs.declared.syntax.Syntax.{Syntax}

-- ---- names and expressions

pub record IsNameText (w : List ℕ) : Type 0 where
  pub spelled : is_word w ≡ true
  pub short : length w ≤ 16

-- a name in an expression, which has neither flow nor step
pub record IsPlainName (name : Name) : Type 0 where
  pub text : IsNameText name.text
  pub free : is_keyword name.text ≡ false
  pub no_flow : name.flow ≡ None
  pub no_step : name.step ≡ None

abbrev pub OptionalName : Option Name → Type 0
OptionalName None = Unit {0}
OptionalName (Some name) = IsPlainName name

pub record IsPlainTerm (t : ETerm) : Type 0 where
  pub coef : IsNum t.coef
  pub name : OptionalName t.name

pub record IsExpr (expr : Expr) : Type 0 where
  pub terms_from : 1 ≤ length expr.terms
  pub terms_to : length expr.terms ≤ 16
  pub each_term : All IsPlainTerm expr.terms

-- ---- conditions

-- a number as it is written, with no sign
pub record IsUnsigned (q : Num) : Type 0 where
  pub size : IsNum q
  pub num_from : pos 0 ≤ℤ q.num

-- one more nesting where brackets stand
abbrev pub bracketed : Bool → ℕ → ℕ
bracketed true n = suc n
bracketed false n = n

-- how many `not` and brackets are nested in a condition, as it is printed
unfoldable pub nesting : Condition → ℕ
nesting always = 0
nesting never = 0
nesting (leaf (compares left rel right)) = 0
nesting (leaf (delayed q)) = 0
nesting (opposite c) = suc (bracketed (is_conjunction c || is_disjunction c) (nesting c))
nesting end_of_all = 0
nesting (all_of c rest) = max (bracketed (is_conjunction c || is_disjunction c) (nesting c)) (nesting rest)
nesting end_of_any = 0
nesting (any_of c rest) = max (bracketed (is_disjunction c) (nesting c)) (nesting rest)

pub record IsCondition (c : Condition) : Type 0 where
  pub few : comparisons c ≤ 16
  pub shallow : nesting c ≤ 16
  pub each_expr : EachExpr IsExpr c
  pub each_delay : EachDelay IsUnsigned c

-- ---- lines

pub record IsStateLine (s : StateLine) : Type 0 where
  pub name : IsNameText s.name
  pub lo : IsNum s.lo
  pub hi : IsNum s.hi

pub record IsSetLine (s : SetLine) : Type 0 where
  pub name : IsNameText s.name
  pub expr : IsExpr s.expr

abbrev pub IsGuard : Option Cond → Type 0
IsGuard None = Unit {0}
IsGuard (Some c) = IsCondition (condition_of c)

pub record IsRuleLine (r : RuleLine) : Type 0 where
  pub guard : IsGuard r.guard
  pub each_set : All IsSetLine r.sets

abbrev pub IsRateLine : Option RateLine → Type 0
IsRateLine None = Unit {0}
IsRateLine (Some r) = IsExpr r.expr

pub record IsSyntax (s : Syntax) : Type 0 where
  pub states_to : length s.states ≤ 8
  pub each_state : All IsStateLine s.states
  pub rules_to : length s.rules ≤ 16
  pub each_rule : All IsRuleLine s.rules
  pub window : IsExpr s.window
  pub rate : IsRateLine s.rate

-- ---- the same limits, of sections

abbrev pub IsGuardWithin : Option Condition → Type 0
IsGuardWithin None = Unit {0}
IsGuardWithin (Some c) = IsCondition c

pub record IsRuleWithin (r : Rule) : Type 0 where
  pub guard : IsGuardWithin r.guard
  pub each_set : All IsSetLine r.sets

pub record AreSectionsWithin (s : Sections) : Type 0 where
  pub states_to : length s.states ≤ 8
  pub each_state : All IsStateLine s.states
  pub rules_to : length s.rules ≤ 16
  pub each_rule : All IsRuleWithin s.rules
  pub window : IsExpr s.window
  pub rate : IsRateLine s.rate
