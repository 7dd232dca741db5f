-- A question's text as a list of statements, the rules that a statement may break and the first broken one, and the
-- question that the text means.
use Rattle.std.specs.Prelude.{◌≡◌, ℕ, List, [], ◌∷◌, ◌++◌, map, All, Bool, true, false, ◌||◌, ◌&&◌, nat_lt, unsigned_abs, slice_get, Option, None, Some, is_none, Result, Ok, Err}
use Rattle.std.specs.List.{fold, list_any}
use Rattle.std.specs.Option.{option_map, option_and_then}
use Rattle.whole.specs.declared.answers.Pair.{Pair}
use Rattle.whole.specs.declared.answers.Refusal.{Refusal}
use Rattle.weighing.specs.First.{IsFirst, and_then}
use Rattle.weighing.specs.Scaled.{common}
use Rattle.weighing.specs.declared.scales.Num.{Num}
use Rattle.weighing.specs.declared.weighings.Rel5.{Rel5}
use Rattle.path_server.specs.declared.settings.Setting.{Setting}
use Rattle.condition_syntax.specs.Trees as written
use Rattle.condition_syntax.specs.declared.expressions.Expr.{Expr}
use Rattle.condition_syntax.specs.declared.expressions.ETerm.{ETerm}
use Rattle.ctrl_types.specs.Denominators.{IsLeastOver}
use Rattle.ctrl_types.specs.Names.{is_kind}
use Rattle.ctrl_types.specs.Statements.{any_comparison, condition_numbers}
use Rattle.ctrl_types.specs.declared.controllers.Controller.{Controller}
use Rattle.ctrl_types.specs.declared.controllers.Kind.{Kind}
use Rattle.ctrl_types.specs.declared.controllers.Kind.TheVariants.{Amount, Count}
use Rattle.ctrl_types.specs.declared.controllers.State.{State}
use Rattle.question_syntax.specs.Sections.{Sections, Wanted}
use Rattle.question_syntax.specs.Reading.{refusal}
use Rattle.question_text.specs.Conditions.{Condition, always, never, comparison, opposite, end_of_all, all_of, end_of_any, any_of, condition_of}
use Rattle.question_text.specs.NamedValues.{of_written, each_found, lin_meant}
use Rattle.question_text.specs.declared.conditions.Of.{Of}
use Rattle.question_text.specs.declared.conditions.Of.TheVariants.{One, Credit, W, A, S, L, X}
use Rattle.question_text.specs.declared.conditions.QLin.{QLin}
use Rattle.question_text.specs.declared.questions.Question.{Question}

-- ---- the statements of a text

abbrev pub number_of : Pair → Num
number_of p = record { num = p.num; den = p.den }

abbrev pub buffer_numbers : Option Pair → List Num
buffer_numbers None = []
buffer_numbers (Some p) = number_of p ∷ []

-- what a line says, by its condition; the path's lines have none
pub data LineContent : Type 0 where
  path : List Num → ℕ → LineContent
  wanted : Wanted → LineContent

abbrev pub numbers : LineContent → List Num
numbers (path ns line) = ns
numbers (wanted w) = condition_numbers w.cond

abbrev pub line_of : LineContent → ℕ
line_of (path ns line) = line
line_of (wanted w) = w.line

-- what the lines with numbers and names say, in the order of the text
unfoldable pub sayings : Sections → List LineContent
sayings s =
    path (number_of s.setting.path.rate ∷ []) s.rate_line ∷ path (buffer_numbers s.setting.path.buffer) s.buffer_line
    ∷ (map wanted s.assumes ++ wanted s.require ∷ [])

-- what a line says, and the numbers of the lines before it
pub record Statement : Type 0 where
  pub says : LineContent
  pub before : List Num

abbrev pub placed : List Num → List LineContent → List Statement
placed before [] = []
placed before (x ∷ xs) = record { says = x; before = before } ∷ placed (before ++ numbers x) xs

unfoldable pub statements : Sections → List Statement
statements s = placed [] (sayings s)

-- ---- kinds

-- the kind of what is measured; a constant has none
unfoldable pub kind_of : List State → Of → Option Kind
kind_of states One = None
kind_of states Credit = Some Amount
kind_of states (W t) = Some Amount
kind_of states (A f t) = Some Amount
kind_of states (S f t) = Some Amount
kind_of states (L f t) = Some Amount
kind_of states (X j f t) = option_map (λ (state : State). state.kind) (slice_get states j)

-- the kind of a term's name, if it has one that is known
abbrev pub kind_in : List State → Setting → ETerm → Option Kind
kind_in states s t = option_and_then (kind_of states) (of_written states s t.name)

-- whether a known name of the expression has this kind
unfoldable pub names_kind : List State → Setting → Kind → List ETerm → Bool
names_kind states s kind terms = list_any (λ (t : ETerm). is_kind kind (kind_in states s t)) terms

-- ---- the rules

-- a name of the comparison is unknown
unfoldable pub unknown_sides : List State → Setting → Expr → Expr → Bool
unknown_sides states s left right =
    list_any (λ (t : ETerm). is_none (of_written states s t.name)) left.terms || list_any (λ (t : ETerm). is_none (of_written states s t.name)) right.terms

-- two names of different kinds stand in the comparison
unfoldable pub mixed_sides : List State → Setting → Expr → Expr → Bool
mixed_sides states s left right =
    (names_kind states s Amount left.terms || names_kind states s Amount right.terms)
    && (names_kind states s Count left.terms || names_kind states s Count right.terms)

abbrev pub in_condition : (Expr → Expr → Bool) → LineContent → Bool
in_condition test (path ns line) = false
in_condition test (wanted w) = any_comparison test w.cond

-- what the denominators up to this line come to, begun with the controller's
abbrev pub line_scale : Controller → Statement → ℕ
line_scale c x = fold common (unsigned_abs c.den) (x.before ++ numbers x.says)

-- the number is the least common multiple of the controller's denominator and of those up to this line
abbrev pub IsLineScale : Controller → Statement → ℕ → Type 0
IsLineScale c x m = IsLeastOver (unsigned_abs c.den) (x.before ++ numbers x.says) m

-- the least common multiple of the controller's denominators and of those up to this line is past the limit
unfoldable pub exceeds_limit : Controller → Statement → Bool
exceeds_limit c x = nat_lt 1000000 (line_scale c x)

-- a line is refused where it breaks the rule of this number
abbrev pub against : Bool → ℕ → ℕ → Result (Unit {0}) Refusal
against true n line = Err (refusal n line)
against false n line = Ok tt

-- the refusal of a statement by the least rule that it breaks: an unknown name, two kinds in one comparison, or
-- denominators past the limit
unfoldable pub judged : Controller → Setting → Statement → Result (Unit {0}) Refusal
judged c s x =
    and_then (against (in_condition (unknown_sides c.states s) x.says) 12 (line_of x.says))
    (and_then (against (in_condition (mixed_sides c.states s) x.says) 13 (line_of x.says))
    (against (exceeds_limit c x) 14 (line_of x.says)))

-- the refusal of the first line that breaks a rule
abbrev pub IsFirstBroken : Controller → Sections → Refusal → Type 0
IsFirstBroken c s r = IsFirst (judged c s.setting) (statements s) r

-- no line breaks a rule
abbrev pub IsUnbroken : Controller → Sections → Type 0
IsUnbroken c s = All (λ x. judged c s.setting x ≡ Ok tt) (statements s)

-- ---- the question that is meant

-- a question whose conditions are seen as trees
pub record SeenQuestion : Type 0 where
  pub setting : Setting
  pub assumes : List Condition
  pub require : Condition

abbrev pub question_seen : Question → SeenQuestion
question_seen q = record { setting = q.setting; assumes = map condition_of q.assumes; require = condition_of q.require }

abbrev pub compared : Rel5 → Option QLin → Option QLin → Option Condition
compared rel None right = None
compared rel (Some left) None = None
compared rel (Some left) (Some right) = Some (comparison left rel right)

abbrev pub joined : (Condition → Condition → Condition) → Option Condition → Option Condition → Option Condition
joined join None rest = None
joined join (Some c) None = None
joined join (Some c) (Some rest) = Some (join c rest)

-- the condition with its names replaced, if all are known; a question's has no test of delay
unfoldable pub meant : List State → Setting → written.Condition → Option Condition
meant states s written.always = Some always
meant states s written.never = Some never
meant states s (written.leaf (written.compares left rel right)) = compared rel (lin_meant states s left) (lin_meant states s right)
meant states s (written.leaf (written.delayed q)) = None
meant states s (written.opposite c) = option_map opposite (meant states s c)
meant states s written.end_of_all = Some end_of_all
meant states s (written.all_of c rest) = joined all_of (meant states s c) (meant states s rest)
meant states s written.end_of_any = Some end_of_any
meant states s (written.any_of c rest) = joined any_of (meant states s c) (meant states s rest)

-- the question that the text means
pub record Resolves (c : Controller) (s : Sections) (q : SeenQuestion) : Type 0 where
  pub setting : q.setting ≡ s.setting
  pub assumes : each_found (meant c.states s.setting) (map (λ (w : Wanted). w.cond) s.assumes) ≡ Some q.assumes
  pub require : meant c.states s.setting s.require.cond ≡ Some q.require
