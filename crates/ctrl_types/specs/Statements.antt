-- A controller's text as a list of statements, the rules that a statement may break, and the first broken one.
use Rattle.std.specs.Prelude.{◌≡◌, ℕ, ◌<◌, ◌-◌, ◌%◌, ◌/◌, slice_get, length, List, [], ◌∷◌, ◌++◌, map, All, Bool, true, false, ◌||◌, ◌&&◌, not, ◌==◌, nat_lt, int_lt, unsigned_abs, ◌*ℤ◌, Option, None, Some, is_none}
use Rattle.std.specs.List.{list_any}
use Rattle.std.specs.Str.{bytes_eq}
use Rattle.whole.specs.declared.answers.Refusal.{Refusal}
use Rattle.weighing.specs.Scaled.{den_of}
use Rattle.weighing.specs.declared.scales.Num.{Num}
use Rattle.condition_tree.specs.Trees.{folded, gathering}
use Rattle.condition_syntax.specs.Trees.{Condition, Leaf, compares, delayed}
use Rattle.condition_syntax.specs.declared.expressions.Expr.{Expr}
use Rattle.condition_syntax.specs.declared.expressions.ETerm.{ETerm}
use Rattle.ctrl_syntax.specs.declared.syntax.StateLine.{StateLine}
use Rattle.ctrl_syntax.specs.declared.syntax.SetLine.{SetLine}
use Rattle.ctrl_syntax.specs.declared.syntax.RateLine.{RateLine}
use Rattle.ctrl_syntax.specs.Sections.{Rule, Sections}
use Rattle.ctrl_types.specs.declared.breaches.Breach.{Breach}
use Rattle.ctrl_types.specs.declared.breaches.Breach.TheVariants.{Reserved, Unknown, Kinds, Bounds, Twice, Otherwise, Delay, Denominators, Count}
use Rattle.ctrl_types.specs.declared.controllers.Kind.TheVariants as kinds
use Rattle.ctrl_types.specs.Denominators.{least_common}
use Rattle.ctrl_types.specs.Names.{has_name, is_reserved, state_named, has_unknown, names_kind, mixes_sides, mixes_set, mixes_bound}

-- ---- the statements of a text

-- what a line says, with what it is judged by
pub data LineContent : Type 0 where
  -- a state, behind these
  state : List StateLine → StateLine → LineContent
  -- a rule; whether it is the last
  rule : Bool → Rule → LineContent
  -- an assignment, behind these of its rule
  assignment : List SetLine → SetLine → LineContent
  -- the window on this line, behind these rules
  window : List Rule → Expr → ℕ → LineContent
  rate : RateLine → LineContent

abbrev pub line_of : LineContent → ℕ
line_of (state earlier s) = s.line
line_of (rule is_last r) = r.line
line_of (assignment earlier s) = s.line
line_of (window rules expr line) = line
line_of (rate r) = r.line

abbrev pub state_sayings : List StateLine → List StateLine → List LineContent
state_sayings earlier [] = []
state_sayings earlier (s ∷ states) = state earlier s ∷ state_sayings (earlier ++ s ∷ []) states

abbrev pub set_sayings : List SetLine → List SetLine → List LineContent
set_sayings earlier [] = []
set_sayings earlier (s ∷ sets) = assignment earlier s ∷ set_sayings (earlier ++ s ∷ []) sets

abbrev pub is_empty : {X : Type 0} → List X → Bool
is_empty [] = true
is_empty (x ∷ xs) = false

abbrev pub rule_sayings : List Rule → List LineContent
rule_sayings [] = []
rule_sayings (r ∷ rules) = rule (is_empty rules) r ∷ (set_sayings [] r.sets ++ rule_sayings rules)

abbrev pub rate_sayings : Option RateLine → List LineContent
rate_sayings None = []
rate_sayings (Some r) = rate r ∷ []

-- what the lines say, in the order of the text
unfoldable pub sayings : Sections → List LineContent
sayings sections = state_sayings [] sections.states ++ (rule_sayings sections.rules ++ (window sections.rules sections.window sections.window_line ∷ rate_sayings sections.rate))

-- ---- the numbers of a line; those of tests of delay don't count

abbrev pub coefs : List ETerm → List Num
coefs terms = map (λ (t : ETerm). t.coef) terms

abbrev pub leaf_numbers : Leaf Expr Num → List Num
leaf_numbers (compares left rel right) = coefs left.terms ++ coefs right.terms
leaf_numbers (delayed q) = []

abbrev pub condition_numbers : Condition → List Num
condition_numbers c = folded (gathering [] (λ (ns ms : List Num). ns ++ ms)) leaf_numbers c

abbrev pub guard_numbers : Option Condition → List Num
guard_numbers None = []
guard_numbers (Some c) = condition_numbers c

abbrev pub numbers : LineContent → List Num
numbers (state earlier s) = s.lo ∷ s.hi ∷ []
numbers (rule is_last r) = guard_numbers r.guard
numbers (assignment earlier s) = coefs s.expr.terms
numbers (window rules expr line) = coefs expr.terms
numbers (rate r) = coefs r.expr.terms

-- what a line says, and the numbers of the lines before it
pub record Statement : Type 0 where
  pub says : LineContent
  pub before : List Num

abbrev pub placed : List Num → List LineContent → List Statement
placed before [] = []
placed before (x ∷ xs) = record { says = x; before = before } ∷ placed (before ++ numbers x) xs

unfoldable pub statements : Sections → List Statement
statements sections = placed [] (sayings sections)

-- ---- conditions

abbrev pub any_leaf : (Leaf Expr Num → Bool) → Condition → Bool
any_leaf test c = folded (gathering false (λ (a b : Bool). a || b)) test c

abbrev pub of_comparison : (Expr → Expr → Bool) → Leaf Expr Num → Bool
of_comparison test (compares left rel right) = test left right
of_comparison test (delayed q) = false

-- whether the test holds of one of a condition's comparisons
abbrev pub any_comparison : (Expr → Expr → Bool) → Condition → Bool
any_comparison test c = any_leaf (of_comparison test) c

abbrev pub of_delay : (Num → Bool) → Leaf Expr Num → Bool
of_delay test (compares left rel right) = false
of_delay test (delayed q) = test q

-- whether the test holds of one of the numbers of a condition's tests of delay
abbrev pub any_delay : (Num → Bool) → Condition → Bool
any_delay test c = any_leaf (of_delay test) c

-- a number of rows, whole by its value; the part that isn't whole is dropped
abbrev pub rows_of : Num → ℕ
rows_of q = unsigned_abs q.num / den_of q

-- whether a number isn't whole or exceeds 8
unfoldable pub is_unfit : Num → Bool
is_unfit q = not (unsigned_abs q.num % den_of q == 0) || nat_lt 8 (rows_of q)

-- whether a name of the comparison is unknown
unfoldable pub unknown_sides : List StateLine → Expr → Expr → Bool
unknown_sides states left right = has_unknown states true left.terms || has_unknown states true right.terms

unfoldable pub mixed_sides : List StateLine → Expr → Expr → Bool
mixed_sides states left right = mixes_sides states left.terms right.terms

abbrev pub in_guard : (Condition → Bool) → Option Condition → Bool
in_guard test None = false
in_guard test (Some c) = test c

-- ---- the rules

-- the first number is greater, by value
unfoldable pub is_above : Num → Num → Bool
is_above a b = int_lt (b.num *ℤ a.den) (a.num *ℤ b.den)

abbrev pub is_otherwise : Option Rule → Bool
is_otherwise None = false
is_otherwise (Some r) = is_none r.guard

-- whether the last rule is an `otherwise`
unfoldable pub ends_otherwise : List Rule → Bool
ends_otherwise rules = is_otherwise (slice_get rules (length rules - 1))

abbrev pub sets_name : List ℕ → SetLine → Bool
sets_name w s = bytes_eq s.name w

-- the name is reserved or an earlier state's
abbrev pub takes_name : LineContent → Bool
takes_name (state earlier s) = is_reserved s.name || list_any (has_name s.name) earlier
takes_name (rule is_last r) = false
takes_name (assignment earlier s) = false
takes_name (window rules expr line) = false
takes_name (rate r) = false

-- a name is no state's; in guards and behind a target `acked` and `lost` are known too
abbrev pub names_none : List StateLine → LineContent → Bool
names_none states (state earlier s) = false
names_none states (rule is_last r) = in_guard (any_comparison (unknown_sides states)) r.guard
names_none states (assignment earlier s) = is_none (state_named states s.name) || has_unknown states true s.expr.terms
names_none states (window rules expr line) = has_unknown states false expr.terms
names_none states (rate r) = has_unknown states false r.expr.terms

-- two names of different kinds stand in one comparison, one assignment, or the window's or the rate's expression
abbrev pub mixes_kinds : List StateLine → LineContent → Bool
mixes_kinds states (state earlier s) = false
mixes_kinds states (rule is_last r) = in_guard (any_comparison (mixed_sides states)) r.guard
mixes_kinds states (assignment earlier s) = mixes_set states s.name s.expr.terms
mixes_kinds states (window rules expr line) = mixes_bound states expr.terms
mixes_kinds states (rate r) = mixes_bound states r.expr.terms

-- the least opening value is above the greatest
abbrev pub turns_bounds : LineContent → Bool
turns_bounds (state earlier s) = is_above s.lo s.hi
turns_bounds (rule is_last r) = false
turns_bounds (assignment earlier s) = false
turns_bounds (window rules expr line) = false
turns_bounds (rate r) = false

-- the rule has set the state already
abbrev pub sets_again : LineContent → Bool
sets_again (state earlier s) = false
sets_again (rule is_last r) = false
sets_again (assignment earlier s) = list_any (sets_name s.name) earlier
sets_again (window rules expr line) = false
sets_again (rate r) = false

-- an `otherwise` isn't the last rule; at the window, that the last rule is none
abbrev pub misplaces_otherwise : LineContent → Bool
misplaces_otherwise (state earlier s) = false
misplaces_otherwise (rule is_last r) = is_none r.guard && not is_last
misplaces_otherwise (assignment earlier s) = false
misplaces_otherwise (window rules expr line) = not (ends_otherwise rules)
misplaces_otherwise (rate r) = false

-- the number of a test of delay isn't whole or exceeds 8
abbrev pub delays_unfit : LineContent → Bool
delays_unfit (state earlier s) = false
delays_unfit (rule is_last r) = in_guard (any_delay is_unfit) r.guard
delays_unfit (assignment earlier s) = false
delays_unfit (window rules expr line) = false
delays_unfit (rate r) = false

-- the window or the rate has a name of the kind Count
abbrev pub counts : List StateLine → LineContent → Bool
counts states (state earlier s) = false
counts states (rule is_last r) = false
counts states (assignment earlier s) = false
counts states (window rules expr line) = names_kind states false kinds.Count expr.terms
counts states (rate r) = names_kind states false kinds.Count r.expr.terms

-- the least common multiple of the denominators up to this line is past the limit
unfoldable pub exceeds_limit : Statement → Bool
exceeds_limit x = nat_lt 1000000 (least_common (x.before ++ numbers x.says))

-- whether a statement breaks a rule, where the controller has these states
abbrev pub breaks : List StateLine → Statement → Breach → Bool
breaks states x Reserved = takes_name x.says
breaks states x Unknown = names_none states x.says
breaks states x Kinds = mixes_kinds states x.says
breaks states x Bounds = turns_bounds x.says
breaks states x Twice = sets_again x.says
breaks states x Otherwise = misplaces_otherwise x.says
breaks states x Delay = delays_unfit x.says
breaks states x Denominators = exceeds_limit x
breaks states x Count = counts states x.says

-- the numbers by which the rules are known
abbrev pub number_of : Breach → ℕ
number_of Reserved = 1
number_of Unknown = 2
number_of Kinds = 3
number_of Bounds = 4
number_of Twice = 5
number_of Otherwise = 6
number_of Delay = 7
number_of Denominators = 8
number_of Count = 9

-- the refusal of a line by a rule; 89 is the letter Y
abbrev pub refusal_of : Breach → ℕ → Refusal
refusal_of breach line = record { letter = 89; number = number_of breach; line = line }

abbrev pub IsWhole : List StateLine → Statement → Type 0
IsWhole states x = (b : Breach) → breaks states x b ≡ false

-- no statement of the text breaks a rule
abbrev pub IsUnbroken : Sections → Type 0
IsUnbroken sections = All (IsWhole sections.states) (statements sections)

-- a statement breaks the rule, and none of a lesser number; no statement before it breaks any
pub record IsFirstBroken (sections : Sections) (r : Refusal) : Type 0 where
  pub before : List Statement
  pub stop : Statement
  pub after : List Statement
  pub parts : statements sections ≡ before ++ stop ∷ after
  pub whole : All (IsWhole sections.states) before
  pub breach : Breach
  pub broken : breaks sections.states stop breach ≡ true
  pub least : (b : Breach) → number_of b < number_of breach → breaks sections.states stop b ≡ false
  pub refusal : r ≡ refusal_of breach (line_of stop.says)
