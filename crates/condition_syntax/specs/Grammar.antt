-- How expressions and conditions are spelled, by the rules of their grammar.
use Rattle.std.specs.Prelude.{◌≡◌, ℕ, zero, suc, ◌≤◌, List, [], ◌∷◌, ◌++◌, length, Bool, true, false, codes, Option, None, Some, unwrap_or}
use Rattle.source_text.specs.declared.lexemes.Sign.{Sign}
use Rattle.source_text.specs.declared.lexemes.Sign.TheVariants.{AtLeast, Plus, Minus, Times, Open, Close, Dot, At}
use Rattle.source_text.specs.Tokens.{Token, word, number, sign}
use Rattle.weighing.specs.declared.scales.Num.{Num}
use Rattle.weighing.specs.declared.weighings.Rel5.{Rel5}
use Rattle.condition_syntax.specs.declared.conditions.Style.{Style}
use Rattle.condition_syntax.specs.declared.conditions.Style.TheVariants.{Controller, Question}
use Rattle.condition_syntax.specs.declared.expressions.Name.{Name}
use Rattle.condition_syntax.specs.declared.expressions.ETerm.{ETerm}
use Rattle.condition_syntax.specs.Words.{is_keyword, fraction, signed, rel_of}
use Rattle.condition_syntax.specs.Trees.{Condition, always, never, comparison, delay, opposite, conjoined, disjoined, comparisons}

-- ---- expressions

-- a number within the limits, kept as it is written; where it has no denominator, that is 1
pub record IsNumber (n : ℕ) (d : Option ℕ) (q : Num) : Type 0 where
  pub value : q ≡ fraction n (unwrap_or d 1)
  pub num_to : n ≤ 1000000
  pub den_from : 1 ≤ unwrap_or d 1
  pub den_to : unwrap_or d 1 ≤ 1000

-- a word that may name something
pub record IsNameWord (w : List ℕ) : Type 0 where
  pub free : is_keyword w ≡ false
  pub short : length w ≤ 16

pub data SpellsFlow : List Token → Option ℕ → Type 0 where
  no_flow : SpellsFlow [] None
  some_flow : (n : ℕ) → SpellsFlow (sign Dot ∷ number n None ∷ []) (Some n)

-- the credit alone has no step
pub data SpellsStep (w : List ℕ) : List Token → Option ℕ → Type 0 where
  no_step : w ≡ codes "credit" → SpellsStep w [] None
  some_step : (n : ℕ) → SpellsStep w (sign At ∷ number n None ∷ []) (Some n)

pub data SpellsName : Style → List Token → Name → Type 0 where
  plain : {w : List ℕ} → IsNameWord w → SpellsName Controller (word w ∷ []) (record { text = w; flow = None; step = None })
  placed : {w : List ℕ} {fs ss : List Token} {f s : Option ℕ} → IsNameWord w → SpellsFlow fs f → SpellsStep w ss s
      → SpellsName Question (word w ∷ fs ++ ss) (record { text = w; flow = f; step = s })

-- a term, which has its sign before it: a number, a number times a name, or a name
pub data SpellsTerm (style : Style) (negative : Bool) : List Token → ETerm → Type 0 where
  constant : {n : ℕ} {d : Option ℕ} {q : Num} → IsNumber n d q → SpellsTerm style negative (number n d ∷ []) (record { coef = signed negative q; name = None })
  multiple : {n : ℕ} {d : Option ℕ} {q : Num} {front : List Token} {x : Name} → IsNumber n d q → SpellsName style front x
      → SpellsTerm style negative (number n d ∷ sign Times ∷ front) (record { coef = signed negative q; name = Some x })
  single : {front : List Token} {x : Name} → SpellsName style front x → SpellsTerm style negative front (record { coef = signed negative (fraction 1 1); name = Some x })

abbrev pub joint_of : Bool → Token
joint_of false = sign Plus
joint_of true = sign Minus

-- terms, the first of which has its sign before it
pub data SpellsTerms (style : Style) : Bool → List Token → List ETerm → Type 0 where
  last_term : {negative : Bool} {front : List Token} {t : ETerm} → SpellsTerm style negative front t → SpellsTerms style negative front (t ∷ [])
  more_terms : {negative next : Bool} {front rest : List Token} {t : ETerm} {ts : List ETerm} → SpellsTerm style negative front t → SpellsTerms style next rest ts
      → SpellsTerms style negative (front ++ joint_of next ∷ rest) (t ∷ ts)

pub data SpellsExpr (style : Style) : List Token → List ETerm → Type 0 where
  unsigned : {front : List Token} {ts : List ETerm} → SpellsTerms style false front ts → length ts ≤ 16 → SpellsExpr style front ts
  negative : {front : List Token} {ts : List ETerm} → SpellsTerms style true front ts → length ts ≤ 16 → SpellsExpr style (sign Minus ∷ front) ts

-- ---- conditions

-- some things with a token between each two
pub data Joined {X : Type 0} (Spells : List Token → X → Type 0) (joint : Token) : List Token → List X → Type 0 where
  one : {front : List Token} {x : X} → Spells front x → Joined Spells joint front (x ∷ [])
  more : {front rest : List Token} {x : X} {xs : List X} → Spells front x → Joined Spells joint rest xs → Joined Spells joint (front ++ joint ∷ rest) (x ∷ xs)

pub data SpellsSimple : Style → List Token → Condition → Type 0 where
  truth : {style : Style} → SpellsSimple style (word (codes "true") ∷ []) always
  falsity : {style : Style} → SpellsSimple style (word (codes "false") ∷ []) never
  test : {n : ℕ} {d : Option ℕ} {q : Num} → IsNumber n d q → SpellsSimple Controller (word (codes "delay") ∷ sign AtLeast ∷ number n d ∷ []) (delay q)
  compared : {style : Style} {l r : List Token} {left right : List ETerm} {rel : Rel5} (s : Sign) → SpellsExpr style l left → rel_of s ≡ Some rel → SpellsExpr style r right
      → SpellsSimple style (l ++ sign s ∷ r) (comparison (record { terms = left }) rel (record { terms = right }))

-- a part, by what is nested in it
pub data SpellsOpened (style : Style) (Part Whole : List Token → Condition → Type 0) : List Token → Condition → Type 0 where
  simple : {front : List Token} {c : Condition} → SpellsSimple style front c → SpellsOpened style Part Whole front c
  negated : {front : List Token} {c : Condition} → Part front c → SpellsOpened style Part Whole (word (codes "not") ∷ front) (opposite c)
  bracketed : {front : List Token} {c : Condition} → Whole front c → SpellsOpened style Part Whole (sign Open ∷ front ++ sign Close ∷ []) c

abbrev pub Nothing : List Token → Condition → Type 0
Nothing front c = ⊥

-- parts joined by `and`; one alone is that part
abbrev pub SpellsConjunction : (List Token → Condition → Type 0) → List Token → Condition → Type 0
SpellsConjunction Part front c = (cs : List Condition) × (Joined Part (word (codes "and")) front cs × (c ≡ conjoined cs))

-- conjunctions joined by `or`; one alone is that conjunction
abbrev pub SpellsJoined : (List Token → Condition → Type 0) → List Token → Condition → Type 0
SpellsJoined Part front c = (cs : List Condition) × (Joined (SpellsConjunction Part) (word (codes "or")) front cs × (c ≡ disjoined cs))

-- a part in which at most so many `not` and brackets are nested
unfoldable pub SpellsPart : Style → ℕ → List Token → Condition → Type 0
SpellsPart style zero = SpellsOpened style Nothing Nothing
SpellsPart style (suc room) = SpellsOpened style (SpellsPart style room) (SpellsJoined (SpellsPart style room))

-- a condition with at most 16 comparisons, in which at most 16 `not` and brackets are nested
pub record SpellsCond (style : Style) (front : List Token) (c : Condition) : Type 0 where
  pub derived : SpellsJoined (SpellsPart style 16) front c
  pub few : comparisons c ≤ 16
