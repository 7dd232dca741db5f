-- The canonical text of a controller, line by line.
use Rattle.std.specs.Prelude.{ℕ, pos, int_lt, List, [], ◌++◌, flat_map, Bool, true, false, if◌then◌else◌, codes, Option, None, Some}
use Rattle.weighing.specs.declared.scales.Num.{Num}
use Rattle.condition_syntax.specs.declared.expressions.Expr.{Expr}
use Rattle.condition_syntax.specs.Trees.{Condition}
use Rattle.condition_syntax.specs.CanonicalText.{number_text, expr_text, condition_text}
use Rattle.ctrl_syntax.specs.declared.syntax.StateLine.{StateLine}
use Rattle.ctrl_syntax.specs.declared.syntax.SetLine.{SetLine}
use Rattle.ctrl_syntax.specs.declared.syntax.RateLine.{RateLine}
use Rattle.ctrl_syntax.specs.Sections.{Rule, Sections, SameButLines}
use Rattle.ctrl_syntax.specs.Grammar.{IsText}

-- the sign of a bound stands without a space
unfoldable pub bound_text : Num → List ℕ
bound_text q = (if int_lt q.num (pos 0) then codes "-" else []) ++ number_text q

abbrev pub kind_text : Bool → List ℕ
kind_text false = codes " data init "
kind_text true = codes " count init "

unfoldable pub state_text : StateLine → List ℕ
state_text s = codes "state " ++ (s.name ++ (kind_text s.count ++ (bound_text s.lo ++ (codes " " ++ bound_text s.hi))))

abbrev pub guard_text : Option Condition → List ℕ
guard_text None = codes "rule otherwise"
guard_text (Some c) = codes "rule when " ++ condition_text c

unfoldable pub set_text : SetLine → List ℕ
set_text s = codes "set " ++ (s.name ++ (codes " = " ++ expr_text s.expr.terms))

abbrev pub titled_text : List ℕ → Expr → List ℕ
titled_text title expr = title ++ expr_text expr.terms

-- with its LF
abbrev pub line_text : {X : Type 0} → (X → List ℕ) → X → List ℕ
line_text text x = text x ++ codes "\n"

-- a rule's line, and those of its assignments
abbrev pub rule_text : Rule → List ℕ
rule_text r = line_text guard_text r.guard ++ flat_map (line_text set_text) r.sets

abbrev pub rate_text : Option RateLine → List ℕ
rate_text None = []
rate_text (Some r) = line_text (titled_text (codes "rate ")) r.expr

unfoldable pub printed : Sections → List ℕ
printed s =
    codes "ccac-controller 1\n" ++ (flat_map (line_text state_text) s.states ++ (flat_map rule_text s.rules
    ++ (line_text (titled_text (codes "window ")) s.window ++ (rate_text s.rate ++ codes "end\n"))))

-- the bytes spell the same but for line numbers
pub record SpellsAgain (bytes : List ℕ) (s : Sections) : Type 0 where
  pub read : Sections
  pub spelled : IsText bytes read
  pub same : SameButLines s read
