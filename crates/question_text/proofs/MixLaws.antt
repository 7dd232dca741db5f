-- A comparison mixes kinds exactly where two of its terms have different kinds.
use Rattle.std.proofs.Common.{◌≡◌, true, ◌++◌, sym, ◌∙◌}
use Rattle.path_server.specs.declared.settings.Setting.{Setting}
use Rattle.condition_syntax.specs.declared.expressions.Expr.{Expr}
use Rattle.ctrl_types.specs.Names.{HaveTwoKinds}
use Rattle.ctrl_types.specs.declared.controllers.State.{State}
use Rattle.ctrl_types.proofs.KindLaws.{of_sides, two_again, two_kinds}
use Rattle.std.specs.Prelude.{List}
use Rattle.question_text.specs.StatementRules.{kind_in, mixed_sides, names_kind}

pub mixed_are : (states : List State) (s : Setting) (left right : Expr) → mixed_sides states s left right ≡ true → HaveTwoKinds (kind_in states s) (left.terms ++ right.terms)
unfolding mixed_sides names_kind
mixed_are states s left right e = two_kinds (kind_in states s) (left.terms ++ right.terms) (sym (of_sides (kind_in states s) left.terms right.terms) ∙ e)

pub mixed_again : (states : List State) (s : Setting) (left right : Expr) → HaveTwoKinds (kind_in states s) (left.terms ++ right.terms) → mixed_sides states s left right ≡ true
unfolding mixed_sides names_kind
mixed_again states s left right is = of_sides (kind_in states s) left.terms right.terms ∙ two_again (kind_in states s) (left.terms ++ right.terms) is
