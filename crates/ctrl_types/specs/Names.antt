-- What the names of a controller stand for, and of what kind that is.
use Rattle.std.specs.Prelude.{◌≡◌, ℕ, List, [], ◌∷◌, Bool, true, false, ◌||◌, ◌&&◌, if◌then◌else◌, codes, slice_get, Option, None, Some, is_none}
use Rattle.std.specs.List.{list_any, position_from}
use Rattle.std.specs.Option.{option_map, option_and_then}
use Rattle.std.specs.Str.{bytes_eq}
use Rattle.condition_syntax.specs.declared.expressions.Expr.{Expr}
use Rattle.condition_syntax.specs.declared.expressions.ETerm.{ETerm}
use Rattle.condition_syntax.specs.declared.expressions.Name.{Name}
use Rattle.ctrl_syntax.specs.declared.syntax.StateLine.{StateLine}
use Rattle.ctrl_types.specs.declared.controllers.Kind.{Kind}
use Rattle.ctrl_types.specs.declared.controllers.Kind.TheVariants.{Amount, Count}
use Rattle.ctrl_types.specs.declared.expressions.Lin.{Lin}
use Rattle.ctrl_types.specs.declared.expressions.LinTerm.{LinTerm}
use Rattle.ctrl_types.specs.declared.expressions.Source.{Source}
use Rattle.ctrl_types.specs.declared.expressions.Source.TheVariants.{One, State as StateSource, Acked, Lost}

-- the words that no state may have as its name
abbrev pub line_words : List (List ℕ)
line_words = codes "state" ∷ codes "rule" ∷ codes "when" ∷ codes "otherwise" ∷ codes "set" ∷ codes "window" ∷ codes "rate" ∷ codes "end" ∷ codes "init" ∷ codes "data" ∷ codes "count" ∷ []

abbrev pub condition_words : List (List ℕ)
condition_words = codes "and" ∷ codes "or" ∷ codes "not" ∷ codes "true" ∷ codes "false" ∷ codes "delay" ∷ []

abbrev pub known_words : List (List ℕ)
known_words = codes "acked" ∷ codes "lost" ∷ codes "credit" ∷ codes "A" ∷ codes "S" ∷ codes "L" ∷ codes "W" ∷ []

unfoldable pub is_among : List (List ℕ) → List ℕ → Bool
is_among words w = list_any (bytes_eq w) words

unfoldable pub is_reserved : List ℕ → Bool
is_reserved w = is_among line_words w || (is_among condition_words w || is_among known_words w)

abbrev pub has_name : List ℕ → StateLine → Bool
has_name w s = bytes_eq s.name w

-- the number of the state with this name
unfoldable pub state_named : List StateLine → List ℕ → Option ℕ
state_named states w = position_from (has_name w) 0 states

unfoldable pub signal_named : List ℕ → Option Source
signal_named w = if bytes_eq w (codes "acked") then Some Acked else if bytes_eq w (codes "lost") then Some Lost else None

abbrev pub or_signal : Option ℕ → Bool → List ℕ → Option Source
or_signal (Some j) signals w = Some (StateSource j)
or_signal None true w = signal_named w
or_signal None false w = None

-- a state; where the signals are known, `acked` and `lost` too
unfoldable pub source_named : List StateLine → Bool → List ℕ → Option Source
source_named states signals w = or_signal (state_named states w) signals w

-- what a term is a multiple of: the number 1 where it has no name
unfoldable pub source_of : List StateLine → Bool → Option Name → Option Source
source_of states signals None = Some One
source_of states signals (Some name) = source_named states signals name.text

abbrev pub is_unknown : List StateLine → Bool → ETerm → Bool
is_unknown states signals t = is_none (source_of states signals t.name)

-- whether a name of the expression is unknown
unfoldable pub has_unknown : List StateLine → Bool → List ETerm → Bool
has_unknown states signals terms = list_any (is_unknown states signals) terms

-- ---- the expression that is meant

abbrev pub term_of : List StateLine → Bool → ETerm → Option LinTerm
term_of states signals t = option_map (λ (of : Source). record { coef = t.coef; of = of }) (source_of states signals t.name)

abbrev pub behind_term : Option LinTerm → Option (List LinTerm) → Option (List LinTerm)
behind_term None terms = None
behind_term (Some t) None = None
behind_term (Some t) (Some terms) = Some (t ∷ terms)

-- the terms with the names replaced, if all are known
unfoldable pub terms_of : List StateLine → Bool → List ETerm → Option (List LinTerm)
terms_of states signals [] = Some []
terms_of states signals (t ∷ terms) = behind_term (term_of states signals t) (terms_of states signals terms)

unfoldable pub lin_of : List StateLine → Bool → Expr → Option Lin
lin_of states signals expr = option_map (λ (terms : List LinTerm). record { terms = terms }) (terms_of states signals expr.terms)

-- ---- kinds

abbrev pub kind_of_state : StateLine → Kind
kind_of_state s = if s.count then Count else Amount

-- the kind of what is measured; a constant has none
unfoldable pub kind_of : List StateLine → Source → Option Kind
kind_of states One = None
kind_of states (StateSource j) = option_map kind_of_state (slice_get states j)
kind_of states Acked = Some Amount
kind_of states Lost = Some Amount

abbrev pub is_kind : Kind → Option Kind → Bool
is_kind Amount (Some Amount) = true
is_kind Amount (Some Count) = false
is_kind Count (Some Amount) = false
is_kind Count (Some Count) = true
is_kind kind None = false

-- the kind of a term's name, if it has one that is known
abbrev pub kind_in : List StateLine → Bool → ETerm → Option Kind
kind_in states signals t = option_and_then (kind_of states) (source_of states signals t.name)

-- two of the terms have kinds, and different ones
pub record HaveTwoKinds (kind : ETerm → Option Kind) (terms : List ETerm) : Type 0 where
  pub i : ℕ
  pub j : ℕ
  pub one : Kind
  pub two : Kind
  pub one_is : option_and_then kind (slice_get terms i) ≡ Some one
  pub two_is : option_and_then kind (slice_get terms j) ≡ Some two
  pub differ : one ≡ two → ⊥

-- whether a known name of the expression has this kind
unfoldable pub names_kind : List StateLine → Bool → Kind → List ETerm → Bool
names_kind states signals kind terms = list_any (λ t. is_kind kind (kind_in states signals t)) terms

-- the kind of the state with this name
unfoldable pub kind_named : List StateLine → List ℕ → Option Kind
kind_named states w = option_and_then (λ j. kind_of states (StateSource j)) (state_named states w)

-- whether two names of different kinds stand in a comparison
unfoldable pub mixes_sides : List StateLine → List ETerm → List ETerm → Bool
mixes_sides states left right =
    (names_kind states true Amount left || names_kind states true Amount right) && (names_kind states true Count left || names_kind states true Count right)

-- in an assignment, the target of which counts
unfoldable pub mixes_set : List StateLine → List ℕ → List ETerm → Bool
mixes_set states w terms =
    (is_kind Amount (kind_named states w) || names_kind states true Amount terms) && (is_kind Count (kind_named states w) || names_kind states true Count terms)

-- in the window or the rate
unfoldable pub mixes_bound : List StateLine → List ETerm → Bool
mixes_bound states terms = names_kind states false Amount terms && names_kind states false Count terms
