-- What spells an expression or a condition has no byte that begins no token.
use Rattle.std.proofs.Common.{ℕ, zero, suc, Bool, true, false, Option, List, ◌∷◌}
use Rattle.source_text.specs.Tokens.{Token, word, sign}
use Rattle.source_text.proofs.CleanLaws.{AreRight, right-append}
use Rattle.condition_syntax.specs.declared.conditions.Style.{Style}
use Rattle.condition_syntax.specs.declared.expressions.Name.{Name}
use Rattle.condition_syntax.specs.declared.expressions.ETerm.{ETerm}
use Rattle.condition_syntax.specs.Trees.{Condition}
use Rattle.condition_syntax.specs.Grammar.{SpellsFlow, no_flow, some_flow, SpellsStep, no_step, some_step, SpellsName, plain, placed, SpellsTerm, constant, multiple, single, joint_of, SpellsTerms, last_term, more_terms, SpellsExpr, unsigned, negative, Joined, one, more, SpellsSimple, truth, falsity, test, compared, SpellsOpened, simple, negated, bracketed, Nothing, SpellsConjunction, SpellsJoined, SpellsPart, SpellsCond}

flow_right : {front : List Token} {f : Option ℕ} → SpellsFlow front f → AreRight front
flow_right no_flow = tt
flow_right (some_flow n) = (tt, (tt, tt))

step_right : {w : List ℕ} {front : List Token} {s : Option ℕ} → SpellsStep w front s → AreRight front
step_right (no_step is) = tt
step_right (some_step n) = (tt, (tt, tt))

name_right : {style : Style} {front : List Token} {x : Name} → SpellsName style front x → AreRight front
name_right (plain may) = (tt, tt)
name_right (placed {fs = fs} {ss = ss} may flow step) = (tt, right-append fs ss (flow_right flow) (step_right step))

term_right : {style : Style} {sg : Bool} {front : List Token} {t : ETerm} → SpellsTerm style sg front t → AreRight front
term_right (constant is) = (tt, tt)
term_right (multiple is name) = (tt, (tt, name_right name))
term_right (single name) = name_right name

joint_right : (next : Bool) (rest : List Token) → AreRight rest → AreRight (joint_of next ∷ rest)
joint_right true rest right = (tt, right)
joint_right false rest right = (tt, right)

terms_right : {style : Style} {sg : Bool} {front : List Token} {ts : List ETerm} → SpellsTerms style sg front ts → AreRight front
terms_right (last_term t) = term_right t
terms_right (more_terms {next = next} {front = front} {rest = rest} t others) = right-append front (joint_of next ∷ rest) (term_right t) (joint_right next rest (terms_right others))

pub expr_right : {style : Style} {front : List Token} {ts : List ETerm} → SpellsExpr style front ts → AreRight front
expr_right (unsigned ts few) = terms_right ts
expr_right (negative ts few) = (tt, terms_right ts)

simple_right : {style : Style} {front : List Token} {c : Condition} → SpellsSimple style front c → AreRight front
simple_right truth = (tt, tt)
simple_right falsity = (tt, tt)
simple_right (test is) = (tt, (tt, (tt, tt)))
simple_right (compared {l = l} {r = r} s left is right) = right-append l (sign s ∷ r) (expr_right left) (tt, expr_right right)

abbrev RightIn : (List Token → Condition → Type 0) → Type 0
RightIn Spells = (front : List Token) (c : Condition) → Spells front c → AreRight front

chain_right : (Spells : List Token → Condition → Type 0) (w : List ℕ) → RightIn Spells → {front : List Token} {cs : List Condition} → Joined Spells (word w) front cs → AreRight front
chain_right Spells w part (one {front = front} {x = c} s) = part front c s
chain_right Spells w part (more {front = front} {rest = rest} {x = c} s others) = right-append front (word w ∷ rest) (part front c s) (tt, chain_right Spells w part others)

conjunction_right : (Spells : List Token → Condition → Type 0) → RightIn Spells → RightIn (SpellsConjunction Spells)
conjunction_right Spells part front c s = chain_right Spells _ part s.1.0

joined_right : (Spells : List Token → Condition → Type 0) → RightIn Spells → RightIn (SpellsJoined Spells)
joined_right Spells part front c s = chain_right (SpellsConjunction Spells) _ (conjunction_right Spells part) s.1.0

opened_right : (style : Style) (Part Whole : List Token → Condition → Type 0) → RightIn Part → RightIn Whole → RightIn (SpellsOpened style Part Whole)
opened_right style Part Whole part whole front c (simple s) = simple_right s
opened_right style Part Whole part whole front c (negated {front = inner} s) = (tt, part inner _ s)
opened_right style Part Whole part whole front c (bracketed {front = inner} s) = (tt, right-append inner _ (whole inner c s) (tt, tt))

none_right : RightIn Nothing
none_right front c s = absurd s

part_right : (style : Style) (room : ℕ) → RightIn (SpellsPart style room)
unfolding SpellsPart
part_right style zero front c s = opened_right style Nothing Nothing none_right none_right front c s
part_right style (suc room) front c s = opened_right style (SpellsPart style room) (SpellsJoined (SpellsPart style room)) (part_right style room) (joined_right (SpellsPart style room) (part_right style room)) front c s

pub condition_right : {style : Style} {front : List Token} {c : Condition} → SpellsCond style front c → AreRight front
condition_right {style} {front} {c} s = joined_right (SpellsPart style 16) (part_right style 16) front c s.derived
