-- What a line spells is within the limits of expressions and conditions.
use Rattle.std.proofs.Common.{ℕ, zero, suc, ◌≤◌, Bool, true, false, Option, List, [], ◌∷◌, length, refl, sym, subst, arith, All, pos, ◌≤ℤ◌}
use Rattle.std.specs.Prelude.{codes, unwrap_or, ◌||◌}
use Rattle.std.specs.List.{AllByRecursion}
use Rattle.std.proofs.lemmas.Int.{ints}
use Rattle.std.proofs.lemmas.List.Elements.{All-nil, All-cons}
use Rattle.source_text.specs.Tokens.{Token, word, sign}
use Rattle.source_text.specs.declared.lexemes.Sign.TheVariants.{Close}
use Rattle.source_text.specs.Printed.{AreFromLine}
use Rattle.weighing.specs.declared.scales.Num.{Num}
use Rattle.weighing.specs.Scaled.{IsNum}
use Rattle.condition_syntax.specs.declared.conditions.Style.{Style}
use Rattle.condition_syntax.specs.declared.conditions.Style.TheVariants.{Controller}
use Rattle.condition_syntax.specs.declared.expressions.Expr.{Expr}
use Rattle.condition_syntax.specs.declared.expressions.Name.{Name}
use Rattle.condition_syntax.specs.declared.expressions.ETerm.{ETerm}
use Rattle.condition_syntax.specs.Words.{fraction, signed}
use Rattle.condition_syntax.specs.Trees.{Condition, opposite, conjunction, disjunction, conjoined, disjoined, EachExpr, EachDelay}
use Rattle.condition_syntax.specs.CanonicalText.{is_conjunction, is_disjunction}
use Rattle.condition_syntax.specs.Grammar.{IsNumber, SpellsName, plain, SpellsTerm, constant, multiple, single, joint_of, SpellsTerms, last_term, more_terms, SpellsExpr, unsigned, negative, Joined, one, more, SpellsSimple, truth, falsity, test, compared, SpellsOpened, simple, negated, bracketed as in_brackets, Nothing, SpellsConjunction, SpellsJoined, SpellsPart, SpellsCond}
use Rattle.condition_syntax.proofs.TextShows.{from_line_parts}
use Rattle.ctrl_syntax.specs.Limits.{IsPlainName, IsPlainTerm, IsExpr, IsUnsigned, bracketed, nesting, IsCondition}

-- ---- numbers

fraction_within : (sg : Bool) (n k : ℕ) → n ≤ 1000000 → 1 ≤ k → k ≤ 1000 → IsNum (signed sg (fraction n k))
fraction_within false n k num_to den_from den_to = record { num_to = num_to; den_from = omega (arith, ints); den_to = omega (arith, ints) }
fraction_within true zero k num_to den_from den_to = record { num_to = num_to; den_from = omega (arith, ints); den_to = omega (arith, ints) }
fraction_within true (suc n) k num_to den_from den_to = record { num_to = num_to; den_from = omega (arith, ints); den_to = omega (arith, ints) }

pub number_within : {n : ℕ} {d : Option ℕ} {q : Num} (sg : Bool) → IsNumber n d q → IsNum (signed sg q)
number_within {n} {d} {q} sg is = subst (λ (r : Num). IsNum (signed sg r)) (sym is.value) (fraction_within sg n (unwrap_or d 1) is.num_to is.den_from is.den_to)

no_sign : (n k : ℕ) → pos 0 ≤ℤ (fraction n k).num
no_sign n k = omega (arith, ints)

unsigned_number : {n : ℕ} {d : Option ℕ} {q : Num} → IsNumber n d q → IsUnsigned q
unsigned_number {n} {d} {q} is = record { size = number_within false is; num_from = subst (λ (r : Num). pos 0 ≤ℤ r.num) (sym is.value) (no_sign n (unwrap_or d 1)) }

-- ---- expressions

name_within : {front : List Token} {x : Name} → SpellsName Controller front x → AreFromLine front → IsPlainName x
name_within (plain may) from = record { text = record { spelled = from.0; short = may.short }; free = may.free; no_flow = refl; no_step = refl }

pub one_within : (sg : Bool) → IsNum (signed sg (fraction 1 1))
one_within sg = fraction_within sg 1 1 (omega arith) (omega arith) (omega arith)

term_within : {sg : Bool} {front : List Token} {t : ETerm} → SpellsTerm Controller sg front t → AreFromLine front → IsPlainTerm t
term_within {sg} (constant is) from = record { coef = number_within sg is; name = tt }
term_within {sg} (multiple is name) from = record { coef = number_within sg is; name = name_within name from.1.1 }
term_within {sg} (single name) from = record { coef = one_within sg; name = name_within name from }

-- terms that are such, wherever they stand
abbrev pub AreTerms : Style → (ETerm → Type 0) → Type 0
AreTerms style T = (sg : Bool) (front : List Token) (t : ETerm) → SpellsTerm style sg front t → AreFromLine front → T t

pub terms_within : (style : Style) (T : ETerm → Type 0) → AreTerms style T → {sg : Bool} {front : List Token} {ts : List ETerm} → SpellsTerms style sg front ts → AreFromLine front → All T ts
terms_within style T each {sg} {front} (last_term {t = t} term) from = All-cons T t [] (each sg front t term from) (All-nil T)
terms_within style T each {sg} (more_terms {next = next} {front = front} {rest = rest} {t = t} {ts = ts} term others) from =
    let parts = from_line_parts front (joint_of next ∷ rest) from in
    All-cons T t ts (each sg front t term parts.0) (terms_within style T each others parts.1.1)

pub terms_some : {style : Style} {sg : Bool} {front : List Token} {ts : List ETerm} → SpellsTerms style sg front ts → 1 ≤ length ts
terms_some (last_term term) = omega arith
terms_some (more_terms term others) = omega arith

plain_terms : {sg : Bool} {front : List Token} {ts : List ETerm} → SpellsTerms Controller sg front ts → AreFromLine front → All IsPlainTerm ts
plain_terms terms from = terms_within Controller IsPlainTerm (λ sg front t term words. term_within term words) terms from

pub expr_within : {front : List Token} {ts : List ETerm} → SpellsExpr Controller front ts → AreFromLine front → IsExpr (record { terms = ts })
expr_within (unsigned terms few) from = record { terms_from = terms_some terms; terms_to = few; each_term = plain_terms terms from }
expr_within (negative terms few) from = record { terms_from = terms_some terms; terms_to = few; each_term = plain_terms terms from.1 }

-- ---- conditions

-- how deep a condition nests as a part, as a conjunction and alone
abbrev pub as_part : Condition → ℕ
as_part c = bracketed (is_conjunction c || is_disjunction c) (nesting c)

abbrev pub as_conjunction : Condition → ℕ
as_conjunction c = bracketed (is_disjunction c) (nesting c)

-- a condition with such expressions and tests of delay, that nests so deep
pub record Within (Q : Expr → Type 0) (P : Num → Type 0) (depth : Condition → ℕ) (room : ℕ) (c : Condition) : Type 0 where
  pub exprs : EachExpr Q c
  pub delays : EachDelay P c
  pub shallow : depth c ≤ room

fewer_brackets : (a b : Bool) (n : ℕ) → bracketed b n ≤ bracketed (a || b) n
fewer_brackets true true n = omega arith
fewer_brackets true false n = omega arith
fewer_brackets false b n = omega arith

no_brackets : (b : Bool) (n : ℕ) → n ≤ bracketed b n
no_brackets true n = omega arith
no_brackets false n = omega arith

one_bracket : (b : Bool) (n room : ℕ) → n ≤ room → bracketed b n ≤ suc room
one_bracket true n room le = omega arith
one_bracket false n room le = omega arith

simple_within : {front : List Token} {c : Condition} (room : ℕ) → SpellsSimple Controller front c → AreFromLine front → Within IsExpr IsUnsigned as_part room c
unfolding nesting is_conjunction is_disjunction
simple_within room truth from = record { exprs = tt; delays = tt; shallow = omega arith }
simple_within room falsity from = record { exprs = tt; delays = tt; shallow = omega arith }
simple_within room (test is) from = record { exprs = tt; delays = unsigned_number is; shallow = omega arith }
simple_within room (compared {l = l} {r = r} s left is right) from =
    let parts = from_line_parts l (sign s ∷ r) from in
    record { exprs = (expr_within left parts.0, expr_within right parts.1.1); delays = tt; shallow = omega arith }

opposite_within : (Q : Expr → Type 0) (P : Num → Type 0) (room : ℕ) (c : Condition) → Within Q P as_part room c → Within Q P as_part (suc room) (opposite c)
unfolding nesting is_conjunction is_disjunction
opposite_within Q P room c w = record { exprs = w.exprs; delays = w.delays; shallow = omega (arith, w.shallow) }

brackets_within : (Q : Expr → Type 0) (P : Num → Type 0) (room : ℕ) (c : Condition) → Within Q P nesting room c → Within Q P as_part (suc room) c
brackets_within Q P room c w = record { exprs = w.exprs; delays = w.delays; shallow = one_bracket (is_conjunction c || is_disjunction c) (nesting c) room w.shallow }

-- ---- chains

all_within : (Q : Expr → Type 0) (P : Num → Type 0) (room : ℕ) (cs : List Condition) → AllByRecursion (Within Q P as_part room) cs → Within Q P nesting room (conjunction cs)
unfolding nesting
all_within Q P room [] all = record { exprs = tt; delays = tt; shallow = omega arith }
all_within Q P room (c ∷ cs) all =
    let others = all_within Q P room cs all.1 in
    record { exprs = (all.0.exprs, others.exprs); delays = (all.0.delays, others.delays); shallow = omega (arith, all.0.shallow, others.shallow) }

any_within : (Q : Expr → Type 0) (P : Num → Type 0) (room : ℕ) (cs : List Condition) → AllByRecursion (Within Q P as_conjunction room) cs → Within Q P nesting room (disjunction cs)
unfolding nesting
any_within Q P room [] all = record { exprs = tt; delays = tt; shallow = omega arith }
any_within Q P room (c ∷ cs) all =
    let others = any_within Q P room cs all.1 in
    record { exprs = (all.0.exprs, others.exprs); delays = (all.0.delays, others.delays); shallow = omega (arith, all.0.shallow, others.shallow) }

-- a conjunction is no disjunction
conjunction_alone : (Q : Expr → Type 0) (P : Num → Type 0) (room : ℕ) (cs : List Condition) → Within Q P nesting room (conjunction cs) → Within Q P as_conjunction room (conjunction cs)
unfolding is_disjunction
conjunction_alone Q P room [] w = record { exprs = w.exprs; delays = w.delays; shallow = w.shallow }
conjunction_alone Q P room (c ∷ cs) w = record { exprs = w.exprs; delays = w.delays; shallow = w.shallow }

conjoined_within : (Q : Expr → Type 0) (P : Num → Type 0) (room : ℕ) (cs : List Condition) → AllByRecursion (Within Q P as_part room) cs → Within Q P as_conjunction room (conjoined cs)
conjoined_within Q P room [] all = conjunction_alone Q P room [] (all_within Q P room [] all)
conjoined_within Q P room (c ∷ []) all = record { exprs = all.0.exprs; delays = all.0.delays; shallow = omega (arith, all.0.shallow, fewer_brackets (is_conjunction c) (is_disjunction c) (nesting c)) }
conjoined_within Q P room (c ∷ d ∷ cs) all = conjunction_alone Q P room (c ∷ d ∷ cs) (all_within Q P room (c ∷ d ∷ cs) all)

disjoined_within : (Q : Expr → Type 0) (P : Num → Type 0) (room : ℕ) (cs : List Condition) → AllByRecursion (Within Q P as_conjunction room) cs → Within Q P nesting room (disjoined cs)
disjoined_within Q P room [] all = any_within Q P room [] all
disjoined_within Q P room (c ∷ []) all = record { exprs = all.0.exprs; delays = all.0.delays; shallow = omega (arith, all.0.shallow, no_brackets (is_disjunction c) (nesting c)) }
disjoined_within Q P room (c ∷ d ∷ cs) all = any_within Q P room (c ∷ d ∷ cs) all

-- what is spelled so is within these limits
abbrev pub AreWithin : (List Token → Condition → Type 0) → (Condition → Type 0) → Type 0
AreWithin Spells P = (front : List Token) (c : Condition) → Spells front c → AreFromLine front → P c

chain_within : (Spells : List Token → Condition → Type 0) (P : Condition → Type 0) (w : List ℕ) → AreWithin Spells P → {front : List Token} {cs : List Condition} → Joined Spells (word w) front cs → AreFromLine front → AllByRecursion P cs
chain_within Spells P w part (one {front = front} {x = c} s) from = (part front c s from, tt)
chain_within Spells P w part (more {front = front} {rest = rest} {x = c} s others) from =
    let parts = from_line_parts front (word w ∷ rest) from in
    (part front c s parts.0, chain_within Spells P w part others parts.1.1)

conjunctions_within : (Q : Expr → Type 0) (P : Num → Type 0) (room : ℕ) (Spells : List Token → Condition → Type 0) → AreWithin Spells (Within Q P as_part room) → AreWithin (SpellsConjunction Spells) (Within Q P as_conjunction room)
conjunctions_within Q P room Spells part front c s from =
    subst (Within Q P as_conjunction room) (sym s.1.1) (conjoined_within Q P room s.0 (chain_within Spells (Within Q P as_part room) (codes "and") part s.1.0 from))

whole_within : (Q : Expr → Type 0) (P : Num → Type 0) (room : ℕ) (Spells : List Token → Condition → Type 0) → AreWithin Spells (Within Q P as_part room) → AreWithin (SpellsJoined Spells) (Within Q P nesting room)
whole_within Q P room Spells part front c s from =
    subst (Within Q P nesting room) (sym s.1.1) (disjoined_within Q P room s.0 (chain_within (SpellsConjunction Spells) (Within Q P as_conjunction room) (codes "or") (conjunctions_within Q P room Spells part) s.1.0 from))

-- what compares or tests is within the limits, wherever it stands
abbrev pub AreSimple : Style → (Expr → Type 0) → (Num → Type 0) → Type 0
AreSimple style Q P = (room : ℕ) → AreWithin (SpellsSimple style) (Within Q P as_part room)

none_within : (style : Style) (Q : Expr → Type 0) (P : Num → Type 0) → AreSimple style Q P → (room : ℕ) → AreWithin (SpellsOpened style Nothing Nothing) (Within Q P as_part room)
none_within style Q P basic room front c (simple s) from = basic room front c s from
none_within style Q P basic room front c (negated s) from = absurd s
none_within style Q P basic room front c (in_brackets s) from = absurd s

opened_within : (style : Style) (Q : Expr → Type 0) (P : Num → Type 0) → AreSimple style Q P → (room : ℕ) (Part Whole : List Token → Condition → Type 0) → AreWithin Part (Within Q P as_part room) → AreWithin Whole (Within Q P nesting room) → AreWithin (SpellsOpened style Part Whole) (Within Q P as_part (suc room))
opened_within style Q P basic room Part Whole part whole front c (simple s) from = basic (suc room) front c s from
opened_within style Q P basic room Part Whole part whole front c (negated {front = inner} {c = d} s) from = opposite_within Q P room d (part inner d s from.1)
opened_within style Q P basic room Part Whole part whole front c (in_brackets {front = inner} s) from = brackets_within Q P room c (whole inner c s (from_line_parts inner (sign Close ∷ []) from.1).0)

part_within : (style : Style) (Q : Expr → Type 0) (P : Num → Type 0) → AreSimple style Q P → (room : ℕ) → AreWithin (SpellsPart style room) (Within Q P as_part room)
unfolding SpellsPart
part_within style Q P basic zero front c s from = none_within style Q P basic zero front c s from
part_within style Q P basic (suc room) front c s from =
    opened_within style Q P basic room (SpellsPart style room) (SpellsJoined (SpellsPart style room)) (part_within style Q P basic room) (whole_within Q P room (SpellsPart style room) (part_within style Q P basic room)) front c s from

-- a condition within the limits, if what compares or tests is
pub cond_within : (style : Style) (Q : Expr → Type 0) (P : Num → Type 0) → AreSimple style Q P → {front : List Token} {c : Condition} → SpellsCond style front c → AreFromLine front → Within Q P nesting 16 c
cond_within style Q P basic {front} {c} s from = whole_within Q P 16 (SpellsPart style 16) (part_within style Q P basic 16) front c s.derived from

pub condition_within : {front : List Token} {c : Condition} → SpellsCond Controller front c → AreFromLine front → IsCondition c
condition_within {front} {c} s from =
    let w = cond_within Controller IsExpr IsUnsigned (λ room f d one words. simple_within room one words) s from in
    record { few = s.few; shallow = w.shallow; each_expr = w.exprs; each_delay = w.delays }
