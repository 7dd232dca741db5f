-- An expression that is found, and the names that its terms have.
use Rattle.std.proofs.Common.{◌≡◌, ℕ, Bool, true, false, ◌||◌, ◌&&◌, Option, Some, None, List, [], ◌∷◌, length, map, refl, sym, ap, subst, ◌∙◌, arith}
use Rattle.std.specs.Prelude.{All, is_none}
use Rattle.std.specs.List.{list_any}
use Rattle.std.specs.Option.{option_map, option_and_then}
use Rattle.std.proofs.lemmas.List.Elements.{All-nil, All-cons, All-head, All-tail}
use Rattle.weighing.specs.Scaled.{IsNum}
use Rattle.weighing.specs.declared.scales.Num.{Num}
use Rattle.condition_syntax.specs.declared.expressions.Expr.{Expr}
use Rattle.condition_syntax.specs.declared.expressions.ETerm.{ETerm}
use Rattle.ctrl_syntax.specs.Limits.{IsPlainTerm}
use Rattle.ctrl_syntax.specs.declared.syntax.StateLine.{StateLine}
use Rattle.ctrl_types.specs.declared.controllers.Kind.{Kind}
use Rattle.ctrl_types.specs.declared.controllers.Kind.TheVariants.{Amount, Count}
use Rattle.ctrl_types.specs.declared.expressions.Lin.{Lin}
use Rattle.ctrl_types.specs.declared.expressions.LinTerm.{LinTerm}
use Rattle.ctrl_types.specs.declared.expressions.Source.{Source}
use Rattle.ctrl_types.specs.Names.{source_of, terms_of, behind_term, lin_of, is_unknown, has_unknown, is_kind, kind_of, kind_in, kind_named, names_kind, state_named, mixes_sides, mixes_set, mixes_bound}
use Rattle.ctrl_types.specs.Resolving.{lin_has, lins_mix, set_mixes}
use Rattle.ctrl_types.specs.Statements.{coefs, mixed_sides}

-- ---- what is found

unknown_terms : (states : List StateLine) (signals : Bool) (terms : List ETerm) → list_any (is_unknown states signals) terms ≡ is_none (terms_of states signals terms)
unfolding terms_of
unknown_terms states signals [] = refl
unknown_terms states signals (t ∷ terms) = by (source_of states signals t.name) (unknown_terms states signals terms)
  where
    rest : (made : LinTerm) (found : Option (List LinTerm)) → is_none found ≡ is_none (behind_term (Some made) found)
    rest made None = refl
    rest made (Some xs) = refl

    by : (of : Option Source) → list_any (is_unknown states signals) terms ≡ is_none (terms_of states signals terms)
        → (is_none of || list_any (is_unknown states signals) terms)
        ≡ is_none (behind_term (option_map (λ (source : Source). record { coef = t.coef; of = source }) of) (terms_of states signals terms))
    by None e = refl
    by (Some of) e = e ∙ rest (record { coef = t.coef; of = of }) (terms_of states signals terms)

-- a name is unknown where the expression isn't found
pub unknown_is : (states : List StateLine) (signals : Bool) (expr : Expr) → has_unknown states signals expr.terms ≡ is_none (lin_of states signals expr)
unfolding has_unknown lin_of
unknown_is states signals expr = unknown_terms states signals expr.terms ∙ by (terms_of states signals expr.terms)
  where
    by : (found : Option (List LinTerm)) → is_none found ≡ is_none {T = Lin} (option_map (λ (terms : List LinTerm). record { terms = terms }) found)
    by None = refl
    by (Some terms) = refl

-- each term is found
pub data AreFound (states : List StateLine) (signals : Bool) : List ETerm → List LinTerm → Type 0 where
  none : AreFound states signals [] []
  one_more : {t : ETerm} {terms : List ETerm} {found : List LinTerm} (of : Source) → source_of states signals t.name ≡ Some of → AreFound states signals terms found
      → AreFound states signals (t ∷ terms) (record { coef = t.coef; of = of } ∷ found)

terms_found : (states : List StateLine) (signals : Bool) (terms : List ETerm) (found : List LinTerm) → terms_of states signals terms ≡ Some found → AreFound states signals terms found
unfolding terms_of
terms_found states signals [] found e = let same : [] ≡ found = cc in subst (AreFound states signals []) same none
terms_found states signals (t ∷ terms) found e = by (source_of states signals t.name) refl (terms_of states signals terms) refl e (λ rest p. terms_found states signals terms rest p)
  where
    by : (of : Option Source) → source_of states signals t.name ≡ of → (later : Option (List LinTerm)) → terms_of states signals terms ≡ later
        → behind_term (option_map (λ (source : Source). record { coef = t.coef; of = source }) of) later ≡ Some found
        → ((rest : List LinTerm) → terms_of states signals terms ≡ Some rest → AreFound states signals terms rest)
        → AreFound states signals (t ∷ terms) found
    by None is later p q others = absurd (cc)
    by (Some of) is None p q others = absurd (cc)
    by (Some of) is (Some rest) p q others =
        let made : LinTerm = record { coef = t.coef; of = of } in
        let same : made ∷ rest ≡ found = cc in
        subst (AreFound states signals (t ∷ terms)) same (one_more of is (others rest p))

pub lin_is_found : (states : List StateLine) (signals : Bool) (expr : Expr) (lin : Lin) → lin_of states signals expr ≡ Some lin → AreFound states signals expr.terms lin.terms
unfolding lin_of
lin_is_found states signals expr lin e = by (terms_of states signals expr.terms) refl e
  where
    by : (found : Option (List LinTerm)) → terms_of states signals expr.terms ≡ found
        → option_map (λ (terms : List LinTerm). record { terms = terms }) found ≡ Some lin → AreFound states signals expr.terms lin.terms
    by None p q = absurd (cc)
    by (Some terms) p q =
        let same : terms ≡ lin.terms = cc in
        subst (AreFound states signals expr.terms) same (terms_found states signals expr.terms terms p)

-- ---- its numbers and kinds

pub found_numbers : {states : List StateLine} {signals : Bool} {terms : List ETerm} {found : List LinTerm} → AreFound states signals terms found
    → map (λ (t : LinTerm). t.coef) found ≡ coefs terms
found_numbers none = refl
found_numbers (one_more {t} of is rest) = ap (λ (ns : List Num). t.coef ∷ ns) (found_numbers rest)

pub found_length : {states : List StateLine} {signals : Bool} {terms : List ETerm} {found : List LinTerm} → AreFound states signals terms found → length found ≡ length terms
found_length none = refl
found_length (one_more of is rest) = let same = found_length rest in omega arith

found_kinds : {states : List StateLine} {signals : Bool} {terms : List ETerm} {found : List LinTerm} (kind : Kind) → AreFound states signals terms found
    → list_any (λ (t : LinTerm). is_kind kind (kind_of states t.of)) found ≡ list_any (λ (t : ETerm). is_kind kind (kind_in states signals t)) terms
found_kinds kind none = refl
found_kinds {states} {signals} kind (one_more {t} {terms} {found} of is rest) =
    ap (λ (o : Option Source). is_kind kind (option_and_then (kind_of states) o) || list_any (λ (x : LinTerm). is_kind kind (kind_of states x.of)) found) (sym is)
    ∙ ap (λ (b : Bool). is_kind kind (kind_in states signals t) || b) (found_kinds kind rest)

pub kinds_are : (states : List StateLine) (signals : Bool) (kind : Kind) (expr : Expr) (lin : Lin) → AreFound states signals expr.terms lin.terms
    → lin_has states kind lin ≡ names_kind states signals kind expr.terms
unfolding lin_has names_kind
kinds_are states signals kind expr lin found = found_kinds kind found

pub sides_mix : (states : List StateLine) (left right : Expr) (x y : Lin) → AreFound states true left.terms x.terms → AreFound states true right.terms y.terms
    → lins_mix states x y ≡ mixed_sides states left right
unfolding lins_mix mixed_sides mixes_sides
sides_mix states left right x y one two =
    rw (kinds_are states true Amount left x one, kinds_are states true Amount right y two, kinds_are states true Count left x one, kinds_are states true Count right y two) refl

pub sets_mix : (states : List StateLine) (w : List ℕ) (j : ℕ) (expr : Expr) (lin : Lin) → state_named states w ≡ Some j → AreFound states true expr.terms lin.terms
    → mixes_set states w expr.terms ≡ set_mixes states j lin
unfolding mixes_set set_mixes kind_named
sets_mix states w j expr lin named found =
    rw (named, kinds_are states true Amount expr lin found, kinds_are states true Count expr lin found) refl

pub bounds_mix : (states : List StateLine) (expr : Expr) (lin : Lin) → AreFound states false expr.terms lin.terms
    → mixes_bound states expr.terms ≡ (lin_has states Count lin && lin_has states Amount lin)
unfolding mixes_bound
bounds_mix states expr lin found =
    rw (kinds_are states false Amount expr lin found, kinds_are states false Count expr lin found) (turned (names_kind states false Amount expr.terms) (names_kind states false Count expr.terms))
  where
    turned : (a b : Bool) → (a && b) ≡ (b && a)
    turned true true = refl
    turned true false = refl
    turned false true = refl
    turned false false = refl

-- the numbers of an expression within the limits
pub coefs_are : (terms : List ETerm) → All IsPlainTerm terms → All IsNum (coefs terms)
coefs_are [] each = All-nil IsNum
coefs_are (t ∷ terms) each =
    let here = All-head IsPlainTerm t terms each in
    All-cons IsNum t.coef (coefs terms) here.coef (coefs_are terms (All-tail IsPlainTerm t terms each))
