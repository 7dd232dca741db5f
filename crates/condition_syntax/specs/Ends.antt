-- Where what was spelled ends: what its derivation left out doesn't stand next. So the reading is the longest.
use Rattle.std.specs.Prelude.{◌≡◌, ℕ, zero, suc, List, ◌++◌, Bool, true, false, codes, Option}
use Rattle.source_text.specs.declared.lexemes.Sign.TheVariants.{Plus, Minus, Times, Dot, At}
use Rattle.source_text.specs.Tokens.{Token, word}
use Rattle.condition_syntax.specs.declared.conditions.Style.{Style}
use Rattle.condition_syntax.specs.Fronts.{stands, says}
use Rattle.condition_syntax.specs.Trees.{Condition}
use Rattle.condition_syntax.specs.Grammar.{SpellsFlow, no_flow, some_flow, SpellsStep, no_step, some_step, SpellsName, plain, placed, SpellsTerm, constant, multiple, single, SpellsTerms, last_term, more_terms, SpellsExpr, unsigned, negative, Joined, one, more, SpellsSimple, truth, falsity, test, compared, SpellsOpened, simple, negated, bracketed, Nothing, SpellsConjunction, SpellsJoined, SpellsPart, SpellsCond}

-- what is said of a derivation and the tokens behind it
abbrev pub Ending : {X : Type 0} → (List Token → X → Type 0) → Type 1
Ending {X} Spells = (front : List Token) (x : X) → Spells front x → List Token → Type 0

abbrev pub EndsFlow : Ending SpellsFlow
EndsFlow fs f no_flow left = stands Dot left ≡ false
EndsFlow fs f (some_flow n) left = Unit {0}

abbrev pub EndsStep : (w : List ℕ) → Ending (SpellsStep w)
EndsStep w ss s (no_step is) left = stands At left ≡ false
EndsStep w ss s (some_step n) left = Unit {0}

-- behind a name without a step its flow could stand
abbrev pub EndsPlaces : (fs : List Token) (f : Option ℕ) (w : List ℕ) (ss : List Token) (s : Option ℕ) → SpellsFlow fs f → SpellsStep w ss s → List Token → Type 0
EndsPlaces fs f w ss s flow (no_step is) left = EndsFlow fs f flow left × (stands At left ≡ false)
EndsPlaces fs f w ss s flow (some_step n) left = Unit {0}

abbrev pub EndsName : (style : Style) → Ending (SpellsName style)
EndsName style front x (plain may) left = Unit {0}
EndsName style front x (placed {w = w} {fs = fs} {ss = ss} {f = f} {s = s} may flow step) left = EndsPlaces fs f w ss s flow step left

abbrev pub EndsTerm : (style : Style) (sg : Bool) → Ending (SpellsTerm style sg)
EndsTerm style sg front t (constant is) left = stands Times left ≡ false
EndsTerm style sg front t (multiple {front = f} {x = x} is name) left = EndsName style f x name left
EndsTerm style sg front t (single {front = f} {x = x} name) left = EndsName style f x name left

abbrev pub EndsTerms : (style : Style) (sg : Bool) → Ending (SpellsTerms style sg)
EndsTerms style sg front ts (last_term {front = f} {t = t} term) left = EndsTerm style sg f t term left × (stands Plus left ≡ false) × (stands Minus left ≡ false)
EndsTerms style sg front ts (more_terms {next = next} {rest = f} {ts = us} term others) left = EndsTerms style next f us others left

abbrev pub EndsExpr : (style : Style) → Ending (SpellsExpr style)
EndsExpr style front ts (unsigned {front = f} terms few) left = EndsTerms style false f ts terms left
EndsExpr style front ts (negative {front = f} terms few) left = EndsTerms style true f ts terms left

abbrev pub EndsSimple : (style : Style) → Ending (SpellsSimple style)
EndsSimple style front c truth left = Unit {0}
EndsSimple style front c falsity left = Unit {0}
EndsSimple style front c (test is) left = Unit {0}
EndsSimple style front c (compared {r = r} {right = right} s l is spelled) left = EndsExpr style r right spelled left

abbrev pub EndsOpened : (style : Style) (Part Whole : List Token → Condition → Type 0) → Ending Part → Ending (SpellsOpened style Part Whole)
EndsOpened style Part Whole ends front c (simple s) left = EndsSimple style front c s left
EndsOpened style Part Whole ends front c (negated {front = f} {c = d} p) left = ends f d p left
EndsOpened style Part Whole ends front c (bracketed w) left = Unit {0}

abbrev pub EndsJoined : {X : Type 0} (Spells : List Token → X → Type 0) (joint : Token) → Ending Spells → Ending (Joined Spells joint)
EndsJoined Spells joint ends front xs (one {front = f} {x = x} p) left = ends f x p left
EndsJoined Spells joint ends front xs (more {rest = f} {xs = ys} p others) left = EndsJoined Spells joint ends f ys others left

-- what is never spelled ends everywhere
abbrev pub Free : Ending Nothing
Free front c spelled left = Unit {0}

unfoldable pub EndsPart : (style : Style) (room : ℕ) → Ending (SpellsPart style room)
unfolding SpellsPart
EndsPart style zero = EndsOpened style Nothing Nothing Free
EndsPart style (suc room) = EndsOpened style (SpellsPart style room) (SpellsJoined (SpellsPart style room)) (EndsPart style room)

abbrev pub EndsConjunction : (Part : List Token → Condition → Type 0) → Ending Part → Ending (SpellsConjunction Part)
EndsConjunction Part ends front c spelled left = EndsJoined Part (word (codes "and")) ends front spelled.0 spelled.1.0 left × (says (codes "and") left ≡ false)

abbrev pub EndsWhole : (Part : List Token → Condition → Type 0) → Ending Part → Ending (SpellsJoined Part)
EndsWhole Part ends front c spelled left =
    EndsJoined (SpellsConjunction Part) (word (codes "or")) (EndsConjunction Part ends) front spelled.0 spelled.1.0 left × (says (codes "or") left ≡ false)

abbrev pub EndsCond : (style : Style) → Ending (SpellsCond style)
EndsCond style front c spelled left = EndsWhole (SpellsPart style 16) (EndsPart style 16) front c spelled.derived left

-- a value is spelled by the tokens in front of the rest, which can't go on with it
pub record Taken {X : Type 0} (Spells : List Token → X → Type 0) (Ends : Ending Spells) (tokens : List Token) (x : X × List Token) : Type 0 where
  pub front : List Token
  pub parts : tokens ≡ front ++ x.1
  pub spelled : Spells front x.0
  pub ends : Ends front x.0 spelled x.1
