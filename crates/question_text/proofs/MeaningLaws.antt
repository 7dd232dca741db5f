-- A condition whose names are known, and what stands in it.
use Rattle.std.proofs.Common.{◌≡◌, Bool, ◌||◌, Option, Some, None, List, [], ◌∷◌, length, map, refl, sym, ap, subst, ◌∙◌, arith}
use Rattle.std.specs.Prelude.{is_none}
use Rattle.std.specs.List.{list_any}
use Rattle.std.specs.Option.{option_map, option_and_then}
use Rattle.weighing.specs.declared.scales.Num.{Num}
use Rattle.weighing.specs.declared.weighings.Rel5.{Rel5}
use Rattle.path_server.specs.declared.settings.Setting.{Setting}
use Rattle.condition_syntax.specs.Trees as written
use Rattle.condition_syntax.specs.Trees.{EachDelay}
use Rattle.question_syntax.specs.Limits.{NoDelay}
use Rattle.condition_syntax.specs.declared.expressions.Expr.{Expr}
use Rattle.condition_syntax.specs.declared.expressions.ETerm.{ETerm}
use Rattle.ctrl_types.specs.Names.{is_kind}
use Rattle.ctrl_types.specs.Statements.{any_comparison, coefs}
use Rattle.ctrl_types.specs.declared.controllers.Kind.{Kind}
use Rattle.ctrl_types.specs.declared.controllers.Kind.TheVariants.{Amount, Count}
use Rattle.ctrl_types.specs.declared.controllers.State.{State}
use Rattle.question_text.specs.Conditions as trees
use Rattle.question_text.specs.Conditions.{Condition}
use Rattle.question_text.specs.NamedValues.{each_found, in_front, lin_meant, lin_of_terms, of_written, term_meant}
use Rattle.question_text.specs.StatementRules.{compared, joined, kind_of, meant, mixed_sides, names_kind, unknown_sides}
use Rattle.question_text.specs.Resolution.{lin_has, lins_mix, mixes}
use Rattle.question_text.specs.declared.conditions.Of.{Of}
use Rattle.question_text.specs.declared.conditions.QTerm.{QTerm}
use Rattle.question_text.specs.declared.conditions.QLin.{QLin}

module _ (states : List State) (s : Setting) where
  -- ---- terms

  abbrev unknown : ETerm → Bool
  unknown t = is_none (of_written states s t.name)

  unknown_terms : (terms : List ETerm) → list_any unknown terms ≡ is_none (each_found (term_meant states s) terms)
  unfolding each_found
  unknown_terms [] = refl
  unknown_terms (t ∷ terms) = by (of_written states s t.name) (unknown_terms terms)
    where
      rest : (made : QTerm) (found : Option (List QTerm)) → is_none found ≡ is_none (in_front (Some made) found)
      rest made None = refl
      rest made (Some xs) = refl

      by : (of : Option Of) → list_any unknown terms ≡ is_none (each_found (term_meant states s) terms)
          → (is_none of || list_any unknown terms) ≡ is_none (in_front (option_map (λ (x : Of). record { coef = t.coef; of = x }) of) (each_found (term_meant states s) terms))
      by None e = refl
      by (Some of) e = e ∙ rest (record { coef = t.coef; of = of }) (each_found (term_meant states s) terms)

  -- each term is found
  pub data AreFound : List ETerm → List QTerm → Type 0 where
    none : AreFound [] []
    one_more : {t : ETerm} {terms : List ETerm} {found : List QTerm} (of : Of) → of_written states s t.name ≡ Some of → AreFound terms found
        → AreFound (t ∷ terms) (record { coef = t.coef; of = of } ∷ found)

  terms_found : (terms : List ETerm) (found : List QTerm) → each_found (term_meant states s) terms ≡ Some found → AreFound terms found
  unfolding each_found
  terms_found [] found e = let same : [] ≡ found = cc in subst (AreFound []) same none
  terms_found (t ∷ terms) found e = by (of_written states s t.name) refl (each_found (term_meant states s) terms) refl e (λ rest p. terms_found terms rest p)
    where
      by : (of : Option Of) → of_written states s t.name ≡ of → (later : Option (List QTerm)) → each_found (term_meant states s) terms ≡ later
          → in_front (option_map (λ (x : Of). record { coef = t.coef; of = x }) of) later ≡ Some found
          → ((rest : List QTerm) → each_found (term_meant states s) terms ≡ Some rest → AreFound terms rest)
          → AreFound (t ∷ terms) found
      by None is later p q others = absurd (cc)
      by (Some of) is None p q others = absurd (cc)
      by (Some of) is (Some rest) p q others =
          let made : QTerm = record { coef = t.coef; of = of } in
          let same : made ∷ rest ≡ found = cc in
          subst (AreFound (t ∷ terms)) same (one_more of is (others rest p))

  pub found_again : {terms : List ETerm} {found : List QTerm} → AreFound terms found → each_found (term_meant states s) terms ≡ Some found
  unfolding each_found
  found_again none = refl
  found_again (one_more {t} {terms} {found} of is rest) =
      ap (λ (o : Option Of). in_front (option_map (λ (x : Of). record { coef = t.coef; of = x }) o) (each_found (term_meant states s) terms)) is
      ∙ ap (in_front (Some (record { coef = t.coef; of = of }))) (found_again rest)

  pub found_numbers : {terms : List ETerm} {found : List QTerm} → AreFound terms found → map (λ (t : QTerm). t.coef) found ≡ coefs terms
  found_numbers none = refl
  found_numbers (one_more {t} of is rest) = ap (λ (ns : List Num). t.coef ∷ ns) (found_numbers rest)

  pub found_length : {terms : List ETerm} {found : List QTerm} → AreFound terms found → length found ≡ length terms
  found_length none = refl
  found_length (one_more of is rest) = let same = found_length rest in omega arith

  found_kinds : {terms : List ETerm} {found : List QTerm} (kind : Kind) → AreFound terms found
      → list_any (λ (t : QTerm). is_kind kind (kind_of states t.of)) found ≡ list_any (λ (t : ETerm). is_kind kind (option_and_then (kind_of states) (of_written states s t.name))) terms
  found_kinds kind none = refl
  found_kinds kind (one_more {t} {terms} {found} of is rest) =
      ap (λ (o : Option Of). is_kind kind (option_and_then (kind_of states) o) || list_any (λ (x : QTerm). is_kind kind (kind_of states x.of)) found) (sym is)
      ∙ ap (λ (b : Bool). is_kind kind (option_and_then (kind_of states) (of_written states s t.name)) || b) (found_kinds kind rest)

  -- ---- expressions

  lin_unknown : (expr : Expr) → list_any unknown expr.terms ≡ is_none (lin_meant states s expr)
  unfolding lin_meant
  lin_unknown expr = unknown_terms expr.terms ∙ by (each_found (term_meant states s) expr.terms)
    where
      by : (found : Option (List QTerm)) → is_none found ≡ is_none (option_map lin_of_terms found)
      by None = refl
      by (Some terms) = refl

  pub lin_is_found : (expr : Expr) (lin : QLin) → lin_meant states s expr ≡ Some lin → AreFound expr.terms lin.terms
  unfolding lin_meant
  lin_is_found expr lin e = by (each_found (term_meant states s) expr.terms) refl e
    where
      by : (found : Option (List QTerm)) → each_found (term_meant states s) expr.terms ≡ found → option_map lin_of_terms found ≡ Some lin → AreFound expr.terms lin.terms
      by None p q = absurd (cc)
      by (Some terms) p q =
          let same : terms ≡ lin.terms = cc in
          subst (AreFound expr.terms) same (terms_found expr.terms terms p)

  pub lin_again : (expr : Expr) (lin : QLin) → AreFound expr.terms lin.terms → lin_meant states s expr ≡ Some lin
  unfolding lin_meant
  lin_again expr lin found = ap (option_map lin_of_terms) (found_again found)

  kinds_are : (kind : Kind) (expr : Expr) (lin : QLin) → AreFound expr.terms lin.terms → lin_has states kind lin ≡ names_kind states s kind expr.terms
  unfolding lin_has names_kind
  kinds_are kind expr lin found = found_kinds kind found

  sides_mix : (left right : Expr) (x y : QLin) → AreFound left.terms x.terms → AreFound right.terms y.terms → lins_mix states x y ≡ mixed_sides states s left right
  unfolding lins_mix mixed_sides
  sides_mix left right x y one two = rw (kinds_are Amount left x one, kinds_are Amount right y two, kinds_are Count left x one, kinds_are Count right y two) refl

  -- ---- conditions

  none_compared : (rel : Rel5) (x y : Option QLin) → (is_none x || is_none y) ≡ is_none (compared rel x y)
  none_compared rel None y = refl
  none_compared rel (Some x) None = refl
  none_compared rel (Some x) (Some y) = refl

  none_joined : (join : Condition → Condition → Condition) (x y : Option Condition) → (is_none x || is_none y) ≡ is_none (joined join x y)
  none_joined join None y = refl
  none_joined join (Some x) None = refl
  none_joined join (Some x) (Some y) = refl

  none_opposite : (x : Option Condition) → is_none x ≡ is_none (option_map trees.opposite x)
  none_opposite None = refl
  none_opposite (Some x) = refl

  -- a name is unknown where nothing is meant
  pub unknown_is : (c : written.Condition) → EachDelay NoDelay c → any_comparison (unknown_sides states s) c ≡ is_none (meant states s c)
  unfolding meant unknown_sides
  unknown_is written.always asked = refl
  unknown_is written.never asked = refl
  unknown_is (written.leaf (written.compares left rel right)) asked =
      ap (λ (b : Bool). b || list_any unknown right.terms) (lin_unknown left) ∙ ap (λ (b : Bool). is_none (lin_meant states s left) || b) (lin_unknown right)
      ∙ none_compared rel (lin_meant states s left) (lin_meant states s right)
  unknown_is (written.leaf (written.delayed q)) asked = absurd asked
  unknown_is (written.opposite c) asked = unknown_is c asked ∙ none_opposite (meant states s c)
  unknown_is written.end_of_all asked = refl
  unknown_is (written.all_of c rest) asked =
      ap (λ (b : Bool). b || any_comparison (unknown_sides states s) rest) (unknown_is c asked.0) ∙ ap (λ (b : Bool). is_none (meant states s c) || b) (unknown_is rest asked.1)
      ∙ none_joined trees.all_of (meant states s c) (meant states s rest)
  unknown_is written.end_of_any asked = refl
  unknown_is (written.any_of c rest) asked =
      ap (λ (b : Bool). b || any_comparison (unknown_sides states s) rest) (unknown_is c asked.0) ∙ ap (λ (b : Bool). is_none (meant states s c) || b) (unknown_is rest asked.1)
      ∙ none_joined trees.any_of (meant states s c) (meant states s rest)

  -- a condition with its names replaced
  pub data Means : written.Condition → Condition → Type 0 where
    always : Means written.always trees.always
    never : Means written.never trees.never
    comparison : {left right : Expr} {x y : QLin} (rel : Rel5) → AreFound left.terms x.terms → AreFound right.terms y.terms
        → Means (written.comparison left rel right) (trees.comparison x rel y)
    opposite : {c : written.Condition} {d : Condition} → Means c d → Means (written.opposite c) (trees.opposite d)
    end_of_all : Means written.end_of_all trees.end_of_all
    all_of : {c cs : written.Condition} {d ds : Condition} → Means c d → Means cs ds → Means (written.all_of c cs) (trees.all_of d ds)
    end_of_any : Means written.end_of_any trees.end_of_any
    any_of : {c cs : written.Condition} {d ds : Condition} → Means c d → Means cs ds → Means (written.any_of c cs) (trees.any_of d ds)

  same_meant : {c : written.Condition} {d e : Condition} → ◌≡◌ {A = Option Condition} (Some d) (Some e) → Means c d → Means c e
  same_meant {c} {d} {e} same means = let is : d ≡ e = cc in subst (Means c) is means

  pub means_it : (c : written.Condition) (d : Condition) → meant states s c ≡ Some d → Means c d
  unfolding meant
  means_it written.always d e = same_meant e always
  means_it written.never d e = same_meant e never
  means_it (written.leaf (written.compares left rel right)) d e = by (lin_meant states s left) (lin_meant states s right) refl refl e
    where
      by : (x y : Option QLin) → lin_meant states s left ≡ x → lin_meant states s right ≡ y → compared rel x y ≡ Some d → Means (written.comparison left rel right) d
      by None y p q f = absurd (cc)
      by (Some x) None p q f = absurd (cc)
      by (Some x) (Some y) p q f = same_meant f (comparison rel (lin_is_found left x p) (lin_is_found right y q))
  means_it (written.leaf (written.delayed q)) d e = absurd (cc)
  means_it (written.opposite c) d e = by (meant states s c) refl e (λ x p. means_it c x p)
    where
      by : (x : Option Condition) → meant states s c ≡ x → option_map trees.opposite x ≡ Some d → ((y : Condition) → meant states s c ≡ Some y → Means c y) → Means (written.opposite c) d
      by None p f means = absurd (cc)
      by (Some x) p f means = same_meant f (opposite (means x p))
  means_it written.end_of_all d e = same_meant e end_of_all
  means_it (written.all_of c rest) d e = by (meant states s c) (meant states s rest) refl refl e (λ x p. means_it c x p) (λ x p. means_it rest x p)
    where
      by : (x y : Option Condition) → meant states s c ≡ x → meant states s rest ≡ y → joined trees.all_of x y ≡ Some d
          → ((z : Condition) → meant states s c ≡ Some z → Means c z) → ((z : Condition) → meant states s rest ≡ Some z → Means rest z) → Means (written.all_of c rest) d
      by None y p q f one two = absurd (cc)
      by (Some x) None p q f one two = absurd (cc)
      by (Some x) (Some y) p q f one two = same_meant f (all_of (one x p) (two y q))
  means_it written.end_of_any d e = same_meant e end_of_any
  means_it (written.any_of c rest) d e = by (meant states s c) (meant states s rest) refl refl e (λ x p. means_it c x p) (λ x p. means_it rest x p)
    where
      by : (x y : Option Condition) → meant states s c ≡ x → meant states s rest ≡ y → joined trees.any_of x y ≡ Some d
          → ((z : Condition) → meant states s c ≡ Some z → Means c z) → ((z : Condition) → meant states s rest ≡ Some z → Means rest z) → Means (written.any_of c rest) d
      by None y p q f one two = absurd (cc)
      by (Some x) None p q f one two = absurd (cc)
      by (Some x) (Some y) p q f one two = same_meant f (any_of (one x p) (two y q))

  pub meant_again : {c : written.Condition} {d : Condition} → Means c d → meant states s c ≡ Some d
  unfolding meant
  meant_again always = refl
  meant_again never = refl
  meant_again (comparison {left} {right} {x} {y} rel one two) =
      ap (λ (o : Option QLin). compared rel o (lin_meant states s right)) (lin_again left x one) ∙ ap (compared rel (Some x)) (lin_again right y two)
  meant_again (opposite m) = ap (option_map trees.opposite) (meant_again m)
  meant_again end_of_all = refl
  meant_again (all_of {cs} {d} m ms) = ap (λ (o : Option Condition). joined trees.all_of o (meant states s cs)) (meant_again m) ∙ ap (joined trees.all_of (Some d)) (meant_again ms)
  meant_again end_of_any = refl
  meant_again (any_of {cs} {d} m ms) = ap (λ (o : Option Condition). joined trees.any_of o (meant states s cs)) (meant_again m) ∙ ap (joined trees.any_of (Some d)) (meant_again ms)

  -- kinds as they are written
  pub kinds_mix : {c : written.Condition} {d : Condition} → Means c d → mixes states d ≡ any_comparison (mixed_sides states s) c
  unfolding mixes
  kinds_mix always = refl
  kinds_mix never = refl
  kinds_mix (comparison {left} {right} {x} {y} rel one two) = sides_mix left right x y one two
  kinds_mix (opposite m) = kinds_mix m
  kinds_mix end_of_all = refl
  kinds_mix (all_of {cs = rest} {d} m ms) =
      ap (λ (b : Bool). mixes states d || b) (kinds_mix ms) ∙ ap (λ (b : Bool). b || any_comparison (mixed_sides states s) rest) (kinds_mix m)
  kinds_mix end_of_any = refl
  kinds_mix (any_of {cs = rest} {d} m ms) =
      ap (λ (b : Bool). mixes states d || b) (kinds_mix ms) ∙ ap (λ (b : Bool). b || any_comparison (mixed_sides states s) rest) (kinds_mix m)
