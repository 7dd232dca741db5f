-- What begins with no sign and no word that goes on with an expression or a condition ends each of them.
use Rattle.std.proofs.Common.{◌≡◌, ℕ, zero, suc, Bool, true, false, Option, List, [], ◌∷◌, refl}
use Rattle.std.specs.Prelude.{codes}
use Rattle.source_text.specs.declared.lexemes.Sign.TheVariants.{Plus, Minus, Times, Dot, At, Close}
use Rattle.source_text.specs.Tokens.{Token, word, sign}
use Rattle.condition_syntax.specs.declared.conditions.Style.{Style}
use Rattle.condition_syntax.specs.declared.expressions.Name.{Name}
use Rattle.condition_syntax.specs.declared.expressions.ETerm.{ETerm}
use Rattle.condition_syntax.specs.Fronts.{stands, says}
use Rattle.condition_syntax.specs.Trees.{Condition}
use Rattle.condition_syntax.specs.Grammar.{SpellsFlow, no_flow, some_flow, SpellsStep, no_step, some_step, SpellsName, plain, placed, SpellsTerm, constant, multiple, single, joint_of, SpellsTerms, last_term, more_terms, SpellsExpr, unsigned, negative, Joined, one, more, SpellsSimple, truth, falsity, test, compared, SpellsOpened, simple, negated, bracketed, Nothing, SpellsConjunction, SpellsJoined, SpellsPart, SpellsCond}
use Rattle.condition_syntax.specs.Ends.{Ending, EndsFlow, EndsPlaces, EndsName, EndsTerm, EndsTerms, EndsExpr, EndsSimple, EndsOpened, EndsJoined, EndsPart, EndsConjunction, EndsWhole, EndsCond, Free}

-- no sign stands first that goes on with a term
pub record StopsTerm (tokens : List Token) : Type 0 where
  pub no_times : stands Times tokens ≡ false
  pub no_dot : stands Dot tokens ≡ false
  pub no_at : stands At tokens ≡ false

-- nor one that goes on with an expression
pub record StopsExpr (tokens : List Token) : Type 0 where
  pub term : StopsTerm tokens
  pub no_plus : stands Plus tokens ≡ false
  pub no_minus : stands Minus tokens ≡ false

-- nor a word that goes on with a condition
pub record StopsCond (tokens : List Token) : Type 0 where
  pub expr : StopsExpr tokens
  pub no_and : says (codes "and") tokens ≡ false
  pub no_or : says (codes "or") tokens ≡ false

flow_ends : (left : List Token) {fs : List Token} {f : Option ℕ} → StopsTerm left → (flow : SpellsFlow fs f) → EndsFlow fs f flow left
flow_ends left stops no_flow = stops.no_dot
flow_ends left stops (some_flow n) = tt

places_end : (left : List Token) {w : List ℕ} {fs ss : List Token} {f s : Option ℕ} → StopsTerm left → (flow : SpellsFlow fs f) (step : SpellsStep w ss s) → EndsPlaces fs f w ss s flow step left
places_end left stops flow (no_step is) = (flow_ends left stops flow, stops.no_at)
places_end left stops flow (some_step n) = tt

name_ends : (left : List Token) {style : Style} {front : List Token} {x : Name} → StopsTerm left → (name : SpellsName style front x) → EndsName style front x name left
name_ends left stops (plain may) = tt
name_ends left stops (placed may flow step) = places_end left stops flow step

pub term_ends : (left : List Token) {style : Style} {sg : Bool} {front : List Token} {t : ETerm} → StopsTerm left → (term : SpellsTerm style sg front t) → EndsTerm style sg front t term left
term_ends left stops (constant is) = stops.no_times
term_ends left stops (multiple is name) = name_ends left stops name
term_ends left stops (single name) = name_ends left stops name

terms_end : (left : List Token) {style : Style} {sg : Bool} {front : List Token} {ts : List ETerm} → StopsExpr left → (terms : SpellsTerms style sg front ts) → EndsTerms style sg front ts terms left
terms_end left stops (last_term term) = (term_ends left stops.term term, stops.no_plus, stops.no_minus)
terms_end left stops (more_terms term others) = terms_end left stops others

pub expr_ends : (left : List Token) {style : Style} {front : List Token} {ts : List ETerm} → StopsExpr left → (expr : SpellsExpr style front ts) → EndsExpr style front ts expr left
expr_ends left stops (unsigned terms few) = terms_end left stops terms
expr_ends left stops (negative terms few) = terms_end left stops terms

simple_ends : (left : List Token) {style : Style} {front : List Token} {c : Condition} → StopsExpr left → (s : SpellsSimple style front c) → EndsSimple style front c s left
simple_ends left stops truth = tt
simple_ends left stops falsity = tt
simple_ends left stops (test is) = tt
simple_ends left stops (compared s l is r) = expr_ends left stops r

-- what ends each thing that is spelled so
abbrev pub Always : {X : Type 0} (Spells : List Token → X → Type 0) → Ending Spells → List Token → Type 0
Always {X} Spells Ends left = (front : List Token) (x : X) (spelled : Spells front x) → Ends front x spelled left

opened_ends : (left : List Token) (style : Style) (Part Whole : List Token → Condition → Type 0) (Ends : Ending Part) → StopsExpr left → Always Part Ends left → Always (SpellsOpened style Part Whole) (EndsOpened style Part Whole Ends) left
opened_ends left style P W Ends stops inner front c (simple s) = simple_ends left stops s
opened_ends left style P W Ends stops inner front c (negated {front = f} {c = d} p) = inner f d p
opened_ends left style P W Ends stops inner front c (bracketed w) = tt

pub part_ends : (left : List Token) → StopsExpr left → (style : Style) (room : ℕ) → Always (SpellsPart style room) (EndsPart style room) left
unfolding SpellsPart EndsPart
part_ends left stops style zero = opened_ends left style Nothing Nothing Free stops (λ front c spelled. tt)
part_ends left stops style (suc room) = opened_ends left style (SpellsPart style room) (SpellsJoined (SpellsPart style room)) (EndsPart style room) stops (part_ends left stops style room)

joined_ends : (left : List Token) {X : Type 0} (Spells : List Token → X → Type 0) (joint : Token) (Ends : Ending Spells) → Always Spells Ends left → {front : List Token} {xs : List X} (joined : Joined Spells joint front xs)
    → EndsJoined Spells joint Ends front xs joined left
joined_ends left Spells joint Ends each (one {front = f} {x = x} p) = each f x p
joined_ends left Spells joint Ends each (more p others) = joined_ends left Spells joint Ends each others

pub conjunction_ends : (left : List Token) → StopsExpr left → says (codes "and") left ≡ false → (style : Style) (room : ℕ) → Always (SpellsConjunction (SpellsPart style room)) (EndsConjunction (SpellsPart style room) (EndsPart style room)) left
conjunction_ends left stops no_and style room front c spelled = (joined_ends left (SpellsPart style room) (word (codes "and")) (EndsPart style room) (part_ends left stops style room) spelled.1.0, no_and)

pub whole_ends : (left : List Token) → StopsCond left → (style : Style) (room : ℕ) → Always (SpellsJoined (SpellsPart style room)) (EndsWhole (SpellsPart style room) (EndsPart style room)) left
whole_ends left stops style room front c spelled =
    (joined_ends left (SpellsConjunction (SpellsPart style room)) (word (codes "or")) (EndsConjunction (SpellsPart style room) (EndsPart style room)) (conjunction_ends left stops.expr stops.no_and style room) spelled.1.0, stops.no_or)

pub condition_ends : (left : List Token) → StopsCond left → (style : Style) → Always (SpellsCond style) (EndsCond style) left
condition_ends left stops style front c spelled = whole_ends left stops style 16 front c spelled.derived

-- ---- tokens that end all

pub word_stops : (w : List ℕ) (rest : List Token) → StopsExpr (word w ∷ rest)
unfolding stands
word_stops w rest = record { term = record { no_times = refl; no_dot = refl; no_at = refl }; no_plus = refl; no_minus = refl }

pub close_stops : (rest : List Token) → StopsCond (sign Close ∷ rest)
unfolding stands says
close_stops rest = record { expr = record { term = record { no_times = refl; no_dot = refl; no_at = refl }; no_plus = refl; no_minus = refl }; no_and = refl; no_or = refl }

pub end_stops : StopsCond []
unfolding stands says
end_stops = record { expr = record { term = record { no_times = refl; no_dot = refl; no_at = refl }; no_plus = refl; no_minus = refl }; no_and = refl; no_or = refl }

pub joint_stops : (next : Bool) (rest : List Token) → StopsTerm (joint_of next ∷ rest)
unfolding stands
joint_stops false rest = record { no_times = refl; no_dot = refl; no_at = refl }
joint_stops true rest = record { no_times = refl; no_dot = refl; no_at = refl }
