-- How a controller is spelled, line by line.
use Rattle.std.specs.Prelude.{◌≡◌, ℕ, ◌≤◌, List, [], ◌∷◌, ◌++◌, length, Bool, true, false, codes, Option, None, Some}
use Rattle.source_text.specs.declared.lexemes.Sign.TheVariants.{Assign, Minus}
use Rattle.source_text.specs.Tokens.{Token, word, number, sign}
use Rattle.source_text.specs.Shown.{Ahead}
use Rattle.source_text.specs.Lines.{Line, source_lines}
use Rattle.source_text.specs.Header.{texts}
use Rattle.weighing.specs.declared.scales.Num.{Num}
use Rattle.condition_syntax.specs.declared.conditions.Style.TheVariants.{Controller}
use Rattle.condition_syntax.specs.Words.{signed}
use Rattle.condition_syntax.specs.Trees.{Condition}
use Rattle.condition_syntax.specs.Grammar.{IsNumber, SpellsExpr, SpellsCond}
use Rattle.ctrl_syntax.specs.declared.syntax.StateLine.{StateLine}
use Rattle.ctrl_syntax.specs.declared.syntax.SetLine.{SetLine}
use Rattle.ctrl_syntax.specs.declared.syntax.RateLine.{RateLine}
use Rattle.ctrl_syntax.specs.Rest.{fronts}
use Rattle.ctrl_syntax.specs.Sections.{Rule, Sections}

-- ---- one line

-- a bound of a range: a number, with a `-` if it is negative
pub data SpellsBound : List Token → Num → Type 0 where
  unsigned : {n : ℕ} {d : Option ℕ} {q : Num} → IsNumber n d q → SpellsBound (number n d ∷ []) q
  negative : {n : ℕ} {d : Option ℕ} {q : Num} → IsNumber n d q → SpellsBound (sign Minus ∷ number n d ∷ []) (signed true q)

-- the word of a state's kind
abbrev pub kind_word : Bool → List ℕ
kind_word false = codes "data"
kind_word true = codes "count"

-- `state NAME data|count init LO HI`
pub record SpellsState (a : Ahead) (s : StateLine) : Type 0 where
  pub lo : List Token
  pub hi : List Token
  pub tokens_are : a.tokens ≡ word (codes "state") ∷ word s.name ∷ word (kind_word s.count) ∷ word (codes "init") ∷ (lo ++ hi)
  pub short : length s.name ≤ 16
  pub lo_is : SpellsBound lo s.lo
  pub hi_is : SpellsBound hi s.hi
  pub line_is : s.line ≡ a.line

-- `rule when COND` or `rule otherwise`
pub data SpellsGuard : List Token → Option Condition → Type 0 where
  when : {front : List Token} {c : Condition} → SpellsCond Controller front c → SpellsGuard (word (codes "rule") ∷ word (codes "when") ∷ front) (Some c)
  otherwise : SpellsGuard (word (codes "rule") ∷ word (codes "otherwise") ∷ []) None

-- `set NAME = EXPR`
pub record SpellsSet (a : Ahead) (s : SetLine) : Type 0 where
  pub front : List Token
  pub tokens_are : a.tokens ≡ word (codes "set") ∷ word s.name ∷ sign Assign ∷ front
  pub short : length s.name ≤ 16
  pub expr_is : SpellsExpr Controller front s.expr.terms
  pub line_is : s.line ≡ a.line

-- `window EXPR` and `rate EXPR`, each an expression with its line
pub record SpellsTitled (title : List ℕ) (a : Ahead) (x : RateLine) : Type 0 where
  pub front : List Token
  pub tokens_are : a.tokens ≡ word title ∷ front
  pub expr_is : SpellsExpr Controller front x.expr.terms
  pub line_is : x.line ≡ a.line

-- ---- all lines

-- each of the lines spells one
pub data Each {X : Type 0} (Spells : Ahead → X → Type 0) : List Ahead → List X → Type 0 where
  none : Each Spells [] []
  one_more : {a : Ahead} {x : X} {lines : List Ahead} {xs : List X} → Spells a x → Each Spells lines xs → Each Spells (a ∷ lines) (x ∷ xs)

-- rules, each a line with its assignments behind it
pub data SpellsRules : List Ahead → List Rule → Type 0 where
  no_rule : SpellsRules [] []
  a_rule : {a : Ahead} {sets lines : List Ahead} {r : Rule} {rs : List Rule} → SpellsGuard a.tokens r.guard → r.line ≡ a.line → Each SpellsSet sets r.sets
      → SpellsRules lines rs → SpellsRules (a ∷ (sets ++ lines)) (r ∷ rs)

pub data SpellsRate : List Ahead → Option RateLine → Type 0 where
  no_rate : SpellsRate [] None
  a_rate : {a : Ahead} {r : RateLine} → SpellsTitled (codes "rate") a r → SpellsRate (a ∷ []) (Some r)

-- the lines behind the header: states, rules, the window, perhaps the rate, and `end`
pub record Spells (lines : List Ahead) (s : Sections) : Type 0 where
  pub state_lines : List Ahead
  pub rule_lines : List Ahead
  pub window : Ahead
  pub rate_lines : List Ahead
  pub last : Ahead
  pub lines_are : lines ≡ state_lines ++ (rule_lines ++ (window ∷ (rate_lines ++ (last ∷ []))))
  pub states_are : Each SpellsState state_lines s.states
  pub few_states : length s.states ≤ 8
  pub rules_are : SpellsRules rule_lines s.rules
  pub few_rules : length s.rules ≤ 16
  pub window_is : SpellsTitled (codes "window") window (record { expr = s.window; line = s.window_line })
  pub rate_is : SpellsRate rate_lines s.rate
  pub last_is : last.tokens ≡ word (codes "end") ∷ []

-- the two texts of line 1
abbrev pub IsHeader : Line → Type 0
IsHeader line = texts line.bytes ≡ codes "ccac-controller" ∷ codes "1" ∷ []

-- these bytes are a controller's text
pub record IsText (bytes : List ℕ) (s : Sections) : Type 0 where
  pub header : Line
  pub lines : List Line
  pub lines_are : source_lines bytes ≡ header ∷ lines
  pub header_is : IsHeader header
  pub spelled : Spells (fronts lines) s
