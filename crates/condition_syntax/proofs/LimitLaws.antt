-- What is spelled is within the limits.
use Rattle.std.proofs.Common.{ℕ, zero, suc, ◌<◌, ◌≤◌, Bool, true, false, Option, Result, Ok, Err, List, [], ◌∷◌, length, sym, subst, arith}
use Rattle.std.specs.Prelude.{IfOk, unwrap_or}
use Rattle.std.specs.List.{AllByRecursion}
use Rattle.std.proofs.lemmas.Int.{ints}
use Rattle.std.proofs.lemmas.List.Elements.{All-from_recursion}
use Rattle.whole.specs.declared.answers.ReadFault.{ReadFault}
use Rattle.weighing.specs.Scaled.{IsNum}
use Rattle.weighing.specs.declared.scales.Num.{Num}
use Rattle.source_text.specs.Tokens.{Token}
use Rattle.condition_syntax.specs.declared.conditions.Style.{Style}
use Rattle.condition_syntax.specs.declared.conditions.Cond.{Cond}
use Rattle.condition_syntax.specs.declared.expressions.Name.{Name}
use Rattle.condition_syntax.specs.declared.expressions.ETerm.{ETerm}
use Rattle.condition_syntax.specs.declared.expressions.Expr.{Expr}
use Rattle.condition_syntax.specs.Words.{fraction, signed}
use Rattle.condition_syntax.specs.Trees.{Condition, EachExpr, EachDelay, conjunction, disjunction, conjoined, disjoined, condition_of}
use Rattle.condition_syntax.specs.Grammar.{IsNumber, SpellsName, plain, placed, SpellsTerm, constant, multiple, single, SpellsTerms, last_term, more_terms, SpellsExpr, unsigned, negative, Joined, one, more, SpellsSimple, truth, falsity, test, compared, SpellsOpened, simple, negated, bracketed, Nothing, SpellsConjunction, SpellsJoined, SpellsPart, SpellsCond}
use Rattle.condition_syntax.specs.Ends.{Taken, EndsExpr, EndsCond}
use Rattle.condition_syntax.specs.Limits.{IsTerm, IsExpr, IsCondition}

fraction_within : (sg : Bool) (n d : ℕ) → n ≤ 1000000 → 1 ≤ d → d ≤ 1000 → IsNum (signed sg (fraction n d))
fraction_within false n d num_to den_from den_to = record { num_to = num_to; den_from = omega (arith, ints); den_to = omega (arith, ints) }
fraction_within true zero d num_to den_from den_to = record { num_to = num_to; den_from = omega (arith, ints); den_to = omega (arith, ints) }
fraction_within true (suc n) d num_to den_from den_to = record { num_to = num_to; den_from = omega (arith, ints); den_to = omega (arith, ints) }

number_within : (sg : Bool) (n : ℕ) (d : Option ℕ) (q : Num) → IsNumber n d q → IsNum (signed sg q)
number_within sg n d q is = subst (λ (r : Num). IsNum (signed sg r)) (sym is.value) (fraction_within sg n (unwrap_or d 1) is.num_to is.den_from is.den_to)

name_within : {style : Style} {front : List Token} {x : Name} → SpellsName style front x → length x.text ≤ 16
name_within (plain may) = may.short
name_within (placed may flow step) = may.short

term_within : {style : Style} {sg : Bool} {front : List Token} {t : ETerm} → SpellsTerm style sg front t → IsTerm t
term_within {sg = sg} (constant is) = record { number = number_within sg _ _ _ is; name = tt }
term_within {sg = sg} (multiple is name) = record { number = number_within sg _ _ _ is; name = name_within name }
term_within {sg = sg} (single name) = record { number = fraction_within sg 1 1 (omega arith) (omega arith) (omega arith); name = name_within name }

terms_within : {style : Style} {sg : Bool} {front : List Token} {ts : List ETerm} → SpellsTerms style sg front ts → AllByRecursion IsTerm ts
terms_within (last_term term) = (term_within term, tt)
terms_within (more_terms term others) = (term_within term, terms_within others)

some_terms : {style : Style} {sg : Bool} {front : List Token} {ts : List ETerm} → SpellsTerms style sg front ts → 0 < length ts
some_terms (last_term term) = omega arith
some_terms (more_terms term others) = omega arith

pub expr_within : {style : Style} {front : List Token} {ts : List ETerm} → SpellsExpr style front ts → IsExpr (record { terms = ts })
expr_within {ts = ts} (unsigned terms few) = record { terms = All-from_recursion IsTerm ts (terms_within terms); some = some_terms terms; few = few }
expr_within {ts = ts} (negative terms few) = record { terms = All-from_recursion IsTerm ts (terms_within terms); some = some_terms terms; few = few }

-- ---- conditions

-- the expressions and the numbers of a condition are within their limits
record Within (c : Condition) : Type 0 where
  exprs : EachExpr IsExpr c
  delays : EachDelay IsNum c

simple_within : {style : Style} {front : List Token} {c : Condition} → SpellsSimple style front c → Within c
simple_within truth = record { exprs = tt; delays = tt }
simple_within falsity = record { exprs = tt; delays = tt }
simple_within (test is) = record { exprs = tt; delays = number_within false _ _ _ is }
simple_within (compared s left is right) = record { exprs = (expr_within left, expr_within right); delays = tt }

all_within : (cs : List Condition) → AllByRecursion Within cs → Within (conjunction cs)
all_within [] each = record { exprs = tt; delays = tt }
all_within (c ∷ cs) each = let others = all_within cs each.1 in record { exprs = (each.0.exprs, others.exprs); delays = (each.0.delays, others.delays) }

any_within : (cs : List Condition) → AllByRecursion Within cs → Within (disjunction cs)
any_within [] each = record { exprs = tt; delays = tt }
any_within (c ∷ cs) each = let others = any_within cs each.1 in record { exprs = (each.0.exprs, others.exprs); delays = (each.0.delays, others.delays) }

conjoined_within : (cs : List Condition) → AllByRecursion Within cs → Within (conjoined cs)
conjoined_within [] each = record { exprs = tt; delays = tt }
conjoined_within (c ∷ []) each = each.0
conjoined_within (c ∷ d ∷ cs) each = all_within (c ∷ d ∷ cs) each

disjoined_within : (cs : List Condition) → AllByRecursion Within cs → Within (disjoined cs)
disjoined_within [] each = record { exprs = tt; delays = tt }
disjoined_within (c ∷ []) each = each.0
disjoined_within (c ∷ d ∷ cs) each = any_within (c ∷ d ∷ cs) each

each_within : {P : List Token → Condition → Type 0} {joint : Token} {front : List Token} {cs : List Condition} → ((f : List Token) (c : Condition) → P f c → Within c) → Joined P joint front cs → AllByRecursion Within cs
each_within goes (one {front = f} {x = c} p) = (goes f c p, tt)
each_within goes (more {front = f} {x = c} p others) = (goes f c p, each_within goes others)

conjunction_within : (P : List Token → Condition → Type 0) → ((f : List Token) (c : Condition) → P f c → Within c) → (f : List Token) (c : Condition) → SpellsConjunction P f c → Within c
conjunction_within P goes f c (cs, (spelled, is)) = subst Within (sym is) (conjoined_within cs (each_within goes spelled))

whole_within : (P : List Token → Condition → Type 0) → ((f : List Token) (c : Condition) → P f c → Within c) → (f : List Token) (c : Condition) → SpellsJoined P f c → Within c
whole_within P goes f c (cs, (spelled, is)) = subst Within (sym is) (disjoined_within cs (each_within (conjunction_within P goes) spelled))

opened_within : (style : Style) (P W : List Token → Condition → Type 0) → ((f : List Token) (c : Condition) → P f c → Within c) → ((f : List Token) (c : Condition) → W f c → Within c)
    → (f : List Token) (c : Condition) → SpellsOpened style P W f c → Within c
opened_within style P W part whole f c (simple s) = simple_within s
opened_within style P W part whole f c (negated {front = g} {c = d} p) = let inner = part g d p in record { exprs = inner.exprs; delays = inner.delays }
opened_within style P W part whole f c (bracketed {front = g} w) = whole g c w

part_within : (style : Style) (room : ℕ) (f : List Token) (c : Condition) → SpellsPart style room f c → Within c
unfolding SpellsPart
part_within style zero = opened_within style Nothing Nothing (λ f c h. absurd h) (λ f c h. absurd h)
part_within style (suc room) = opened_within style (SpellsPart style room) (SpellsJoined (SpellsPart style room)) (part_within style room) (whole_within (SpellsPart style room) (part_within style room))

pub condition_is_within : (style : Style) (front : List Token) (c : Condition) → SpellsCond style front c → IsCondition c
condition_is_within style front c spelled =
    let w = whole_within (SpellsPart style 16) (part_within style 16) front c spelled.derived in
    record { exprs = w.exprs; delays = w.delays; few = spelled.few }

-- ---- what is read

pub taken_expr_within : (style : Style) (tokens left : List Token) (r : Result Expr ReadFault) → IfOk r (λ e. Taken (SpellsExpr style) (EndsExpr style) tokens (e.terms, left)) → IfOk r IsExpr
taken_expr_within style tokens left (Ok e) taken = expr_within taken.spelled
taken_expr_within style tokens left (Err fault) taken = tt

pub taken_condition_within : (style : Style) (tokens left : List Token) (r : Result Cond ReadFault) → IfOk r (λ c. Taken (SpellsCond style) (EndsCond style) tokens (condition_of c, left)) → IfOk r (λ c. IsCondition (condition_of c))
taken_condition_within style tokens left (Ok c) taken = condition_is_within style taken.front (condition_of c) taken.spelled
taken_condition_within style tokens left (Err fault) taken = tt
