-- Where a line is refused: the first token at which nothing allowed stands, by the part that is being read.
use Rattle.std.specs.Prelude.{◌≡◌, ℕ, zero, suc, ◌+◌, ◌<◌, ◌≤◌, List, [], ◌∷◌, ◌++◌, length, ◌⊎◌, Bool, true, false, codes, Option, None, Some, unwrap_or}
use Rattle.source_text.specs.declared.lexemes.Sign.{Sign}
use Rattle.source_text.specs.declared.lexemes.Sign.TheVariants.{AtLeast, Minus, Times, Open, Close, Dot, At}
use Rattle.source_text.specs.Tokens.{Token, word, number, sign, wrong}
use Rattle.weighing.specs.declared.scales.Num.{Num}
use Rattle.weighing.specs.declared.weighings.Rel5.{Rel5}
use Rattle.condition_syntax.specs.declared.conditions.Style.{Style}
use Rattle.condition_syntax.specs.declared.conditions.Style.TheVariants.{Controller, Question}
use Rattle.condition_syntax.specs.declared.expressions.ETerm.{ETerm}
use Rattle.condition_syntax.specs.declared.faults.Fault.{Fault}
use Rattle.condition_syntax.specs.declared.faults.Fault.TheVariants.{WrongByte, Number, Term, Part, Depth, Count}
use Rattle.condition_syntax.specs.Words.{is_keyword, rel_of}
use Rattle.condition_syntax.specs.Fronts.{stands, says, blame}
use Rattle.condition_syntax.specs.Trees.{Condition, comparisons}
use Rattle.condition_syntax.specs.Grammar.{IsNumber, IsNameWord, SpellsFlow, SpellsTerm, joint_of, SpellsExpr, Nothing, SpellsConjunction, SpellsJoined, SpellsPart}
use Rattle.condition_syntax.specs.Ends.{Ending, EndsFlow, EndsExpr, EndsPart, EndsWhole, Free}

-- ---- what is missing

-- the denominator is 0, or the number exceeds a limit
abbrev pub IsOutside : ℕ → Option ℕ → Type 0
IsOutside n d = (1000000 < n) ⊎ ((unwrap_or d 1 < 1) ⊎ (1000 < unwrap_or d 1))

-- the number is within the limits
abbrev pub IsInside : ℕ → Option ℕ → Type 0
IsInside n d = (q : Num) × IsNumber n d q

-- the word is a keyword, which `own` refuses, or is too long
abbrev pub NoName : Fault → List ℕ → Fault → Type 0
NoName own w fault = ((is_keyword w ≡ true) × (fault ≡ own)) ⊎ ((is_keyword w ≡ false) × (16 < length w) × (fault ≡ Count))

-- no name begins
abbrev pub NameMissing : List Token → Fault → Type 0
NameMissing [] fault = fault ≡ Term
NameMissing (word w ∷ tokens) fault = NoName Term w fault
NameMissing (number n d ∷ tokens) fault = fault ≡ Term
NameMissing (sign s ∷ tokens) fault = fault ≡ Term
NameMissing (wrong ∷ tokens) fault = fault ≡ WrongByte

-- no term begins
abbrev pub TermMissing : List Token → Fault → Type 0
TermMissing [] fault = fault ≡ Term
TermMissing (word w ∷ tokens) fault = NoName Term w fault
TermMissing (number n d ∷ tokens) fault = IsOutside n d × (fault ≡ Number)
TermMissing (sign s ∷ tokens) fault = fault ≡ Term
TermMissing (wrong ∷ tokens) fault = fault ≡ WrongByte

-- no side of a comparison begins, where a part is wanted
abbrev pub SideMissing : List Token → Fault → Type 0
SideMissing [] fault = fault ≡ Part
SideMissing (word w ∷ tokens) fault = NoName Part w fault
SideMissing (number n d ∷ tokens) fault = IsOutside n d × (fault ≡ Number)
SideMissing (sign s ∷ tokens) fault = (stands Minus (sign s ∷ tokens) ≡ false) × (fault ≡ Part)
SideMissing (wrong ∷ tokens) fault = fault ≡ WrongByte

-- a term begins where no more may stand, or none begins
abbrev pub TermTooMany : List Token → Fault → Type 0
TermTooMany [] fault = fault ≡ Term
TermTooMany (word w ∷ tokens) fault = ((is_keyword w ≡ true) × (fault ≡ Term)) ⊎ ((is_keyword w ≡ false) × (fault ≡ Count))
TermTooMany (number n d ∷ tokens) fault = (IsOutside n d × (fault ≡ Number)) ⊎ (IsInside n d × (fault ≡ Count))
TermTooMany (sign s ∷ tokens) fault = fault ≡ Term
TermTooMany (wrong ∷ tokens) fault = fault ≡ WrongByte

-- a side of a comparison begins
abbrev pub SideBegins : List Token → Type 0
SideBegins [] = ⊥
SideBegins (word w ∷ tokens) = IsNameWord w
SideBegins (number n d ∷ tokens) = IsInside n d
SideBegins (sign s ∷ tokens) = s ≡ Minus
SideBegins (wrong ∷ tokens) = ⊥

-- neither a bracket nor a word that begins another part stands first; `delay` is such a word in a controller
pub record NoPart (style : Style) (tokens : List Token) : Type 0 where
  pub no_bracket : stands Open tokens ≡ false
  pub no_not : says (codes "not") tokens ≡ false
  pub no_truth : says (codes "true") tokens ≡ false
  pub no_falsity : says (codes "false") tokens ≡ false
  pub no_delay : style ≡ Controller → says (codes "delay") tokens ≡ false

-- no digits alone stand first
abbrev pub NoDigits : List Token → Type 0
NoDigits [] = Unit {0}
NoDigits (word w ∷ tokens) = Unit {0}
NoDigits (number n None ∷ tokens) = ⊥
NoDigits (number n (Some d) ∷ tokens) = Unit {0}
NoDigits (sign s ∷ tokens) = Unit {0}
NoDigits (wrong ∷ tokens) = Unit {0}

abbrev pub NoNumber : List Token → Type 0
NoNumber [] = Unit {0}
NoNumber (word w ∷ tokens) = Unit {0}
NoNumber (number n d ∷ tokens) = ⊥
NoNumber (sign s ∷ tokens) = Unit {0}
NoNumber (wrong ∷ tokens) = Unit {0}

abbrev pub NoRel : List Token → Type 0
NoRel [] = Unit {0}
NoRel (word w ∷ tokens) = Unit {0}
NoRel (number n d ∷ tokens) = Unit {0}
NoRel (sign s ∷ tokens) = rel_of s ≡ None
NoRel (wrong ∷ tokens) = Unit {0}

-- ---- expressions

pub data RefusesName : Style → List Token → Fault → Type 0 where
  in_word : {style : Style} {tokens : List Token} {fault : Fault} → NameMissing tokens fault → RefusesName style tokens fault
  in_flow : {w : List ℕ} {fault : Fault} (left : List Token) → IsNameWord w → NoDigits left → fault ≡ blame Term left → RefusesName Question (word w ∷ sign Dot ∷ left) fault
  in_step : {w : List ℕ} {fs : List Token} {f : Option ℕ} {fault : Fault} (left : List Token) → IsNameWord w → SpellsFlow fs f → NoDigits left → fault ≡ blame Term left → RefusesName Question (word w ∷ fs ++ sign At ∷ left) fault
  -- every name but the credit has its step
  without_step : {w : List ℕ} {fs : List Token} {f : Option ℕ} {fault : Fault} (left : List Token) → IsNameWord w → (w ≡ codes "credit" → ⊥) → (flow : SpellsFlow fs f) → EndsFlow fs f flow left → stands At left ≡ false
      → fault ≡ blame Term left → RefusesName Question (word w ∷ fs ++ left) fault

pub data RefusesTerm (style : Style) : List Token → Fault → Type 0 where
  in_front : {tokens : List Token} {fault : Fault} → TermMissing tokens fault → RefusesTerm style tokens fault
  in_multiple : {n : ℕ} {d : Option ℕ} {q : Num} {left : List Token} {fault : Fault} → IsNumber n d q → RefusesName style left fault → RefusesTerm style (number n d ∷ sign Times ∷ left) fault
  in_single : {w : List ℕ} {left : List Token} {fault : Fault} → RefusesName style (word w ∷ left) fault → RefusesTerm style (word w ∷ left) fault

-- terms, of which so many may stand and the first has its sign before it
pub data RefusesTerms (style : Style) : ℕ → Bool → List Token → Fault → Type 0 where
  in_first : {room : ℕ} {sg : Bool} {tokens : List Token} {fault : Fault} → RefusesTerm style tokens fault → RefusesTerms style (suc room) sg tokens fault
  in_later : {room : ℕ} {sg next : Bool} {front : List Token} {t : ETerm} {fault : Fault} (left : List Token) → SpellsTerm style sg front t → RefusesTerms style room next left fault
      → RefusesTerms style (suc room) sg (front ++ joint_of next ∷ left) fault
  one_too_many : {sg : Bool} {tokens : List Token} {fault : Fault} → TermTooMany tokens fault → RefusesTerms style zero sg tokens fault

pub data RefusesExpr (style : Style) : List Token → Fault → Type 0 where
  unsigned_refused : {tokens : List Token} {fault : Fault} → stands Minus tokens ≡ false → RefusesTerms style 16 false tokens fault → RefusesExpr style tokens fault
  negative_refused : {left : List Token} {fault : Fault} → RefusesTerms style 16 true left fault → RefusesExpr style (sign Minus ∷ left) fault

-- ---- comparisons and tests of delay, before which so many have begun

pub data RefusesSimple : Style → ℕ → List Token → Fault → Type 0 where
  in_side : {style : Style} {begun : ℕ} {tokens : List Token} {fault : Fault} → NoPart style tokens → SideMissing tokens fault → RefusesSimple style begun tokens fault
  extra_comparison : {style : Style} {begun : ℕ} {tokens : List Token} → SideBegins tokens → 16 ≤ begun → RefusesSimple style begun tokens Count
  in_left : {style : Style} {begun : ℕ} {tokens : List Token} {fault : Fault} → SideBegins tokens → begun < 16 → RefusesExpr style tokens fault
      → RefusesSimple style begun tokens fault
  at_relation : {style : Style} {begun : ℕ} {front : List Token} {ts : List ETerm} {fault : Fault} (left : List Token) → begun < 16 → (spelled : SpellsExpr style front ts) → EndsExpr style front ts spelled left → NoRel left
      → fault ≡ blame Part left → RefusesSimple style begun (front ++ left) fault
  in_right : {style : Style} {begun : ℕ} {front : List Token} {ts : List ETerm} {rel : Rel5} {fault : Fault} (s : Sign) (left : List Token) → begun < 16 → SpellsExpr style front ts → rel_of s ≡ Some rel → RefusesExpr style left fault
      → RefusesSimple style begun (front ++ sign s ∷ left) fault
  extra_delay : {begun : ℕ} {left : List Token} → 16 ≤ begun → RefusesSimple Controller begun (word (codes "delay") ∷ left) Count
  without_relation : {begun : ℕ} {left : List Token} {fault : Fault} → begun < 16 → stands AtLeast left ≡ false → fault ≡ blame Part left → RefusesSimple Controller begun (word (codes "delay") ∷ left) fault
  without_rows : {begun : ℕ} {left : List Token} {fault : Fault} → begun < 16 → NoNumber left → fault ≡ blame Part left → RefusesSimple Controller begun (word (codes "delay") ∷ sign AtLeast ∷ left) fault
  rows_outside : {begun n : ℕ} {d : Option ℕ} {left : List Token} → begun < 16 → IsOutside n d → RefusesSimple Controller begun (word (codes "delay") ∷ sign AtLeast ∷ number n d ∷ left) Number

-- ---- parts and chains of them

abbrev pub Refusing : Type 1
Refusing = ℕ → List Token → Fault → Type 0

-- a part, by what is nested in it
pub data RefusesOpened (style : Style) (Whole : List Token → Condition → Type 0) (WholeEnds : Ending Whole) (InPart InWhole : Refusing) : ℕ → List Token → Fault → Type 0 where
  in_simple : {begun : ℕ} {tokens : List Token} {fault : Fault} → RefusesSimple style begun tokens fault → RefusesOpened style Whole WholeEnds InPart InWhole begun tokens fault
  in_negated : {begun : ℕ} {left : List Token} {fault : Fault} → InPart begun left fault → RefusesOpened style Whole WholeEnds InPart InWhole begun (word (codes "not") ∷ left) fault
  in_brackets : {begun : ℕ} {left : List Token} {fault : Fault} → InWhole begun left fault → RefusesOpened style Whole WholeEnds InPart InWhole begun (sign Open ∷ left) fault
  unclosed : {begun : ℕ} {front : List Token} {c : Condition} {fault : Fault} (left : List Token) (spelled : Whole front c) → WholeEnds front c spelled left → begun + comparisons c ≤ 16 → stands Close left ≡ false → fault ≡ blame Part left
      → RefusesOpened style Whole WholeEnds InPart InWhole begun (sign Open ∷ front ++ left) fault

-- the 17th nesting opens
abbrev pub TooDeep : Refusing
TooDeep begun tokens fault = fault ≡ Depth

-- parts with a word between each two
pub data RefusesChain (joint : List ℕ) (Spells : List Token → Condition → Type 0) (Refuses : Refusing) : ℕ → List Token → Fault → Type 0 where
  in_one : {begun : ℕ} {tokens : List Token} {fault : Fault} → Refuses begun tokens fault → RefusesChain joint Spells Refuses begun tokens fault
  in_others : {begun : ℕ} {front : List Token} {c : Condition} {fault : Fault} (left : List Token) → Spells front c → begun + comparisons c ≤ 16 → RefusesChain joint Spells Refuses (begun + comparisons c) left fault
      → RefusesChain joint Spells Refuses begun (front ++ word joint ∷ left) fault

-- a condition, by its parts
abbrev pub RefusesWhole : (List Token → Condition → Type 0) → Refusing → Refusing
RefusesWhole Spells InPart = RefusesChain (codes "or") (SpellsConjunction Spells) (RefusesChain (codes "and") Spells InPart)

-- a part in which at most so many `not` and brackets are nested
unfoldable pub RefusesPart : Style → ℕ → Refusing
RefusesPart style zero = RefusesOpened style Nothing Free TooDeep TooDeep
RefusesPart style (suc room) =
    RefusesOpened style (SpellsJoined (SpellsPart style room)) (EndsWhole (SpellsPart style room) (EndsPart style room)) (RefusesPart style room) (RefusesWhole (SpellsPart style room) (RefusesPart style room))

-- a whole condition
abbrev pub RefusesCond : Style → List Token → Fault → Type 0
RefusesCond style tokens fault = RefusesWhole (SpellsPart style 16) (RefusesPart style 16) 0 tokens fault
