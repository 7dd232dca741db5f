-- Terms mix kinds exactly where two of them have different kinds.
use Rattle.std.proofs.Common.{◌≡◌, ℕ, zero, suc, Bool, true, false, ◌||◌, Option, Some, None, List, [], ◌∷◌, ◌++◌, refl, sym, ap, ◌∙◌}
use Rattle.std.specs.Prelude.{slice_get, ◌&&◌}
use Rattle.std.specs.List.{list_any}
use Rattle.std.specs.Option.{option_and_then}
use Rattle.std.proofs.lemmas.Bool.{and_parts}
use Rattle.std.proofs.lemmas.List.Folds.{list_any-append}
use Rattle.condition_syntax.specs.declared.expressions.Expr.{Expr}
use Rattle.condition_syntax.specs.declared.expressions.ETerm.{ETerm}
use Rattle.ctrl_syntax.specs.declared.syntax.StateLine.{StateLine}
use Rattle.ctrl_types.specs.declared.controllers.Kind.{Kind}
use Rattle.ctrl_types.specs.declared.controllers.Kind.TheVariants.{Amount, Count}
use Rattle.ctrl_types.specs.Names.{HaveTwoKinds, is_kind, kind_in, mixes_bound, mixes_sides, names_kind}
use Rattle.ctrl_types.specs.Statements.{mixed_sides}

kind_is : (k : Kind) (o : Option Kind) → is_kind k o ≡ true → o ≡ Some k
kind_is Amount (Some Amount) e = refl
kind_is Amount (Some Count) e = absurd (cc)
kind_is Count (Some Amount) e = absurd (cc)
kind_is Count (Some Count) e = refl
kind_is Amount None e = absurd (cc)
kind_is Count None e = absurd (cc)

kind_again : (k : Kind) → is_kind k (Some k) ≡ true
kind_again Amount = refl
kind_again Count = refl

module _ (kind : ETerm → Option Kind) where
  -- whether a term has this kind
  abbrev pub has : Kind → List ETerm → Bool
  has k terms = list_any (λ (t : ETerm). is_kind k (kind t)) terms

  found : (k : Kind) (terms : List ETerm) → has k terms ≡ true → (i : ℕ) × (option_and_then kind (slice_get terms i) ≡ Some k)
  found k [] e = absurd (cc)
  found k (t ∷ terms) e = by (is_kind k (kind t)) refl e (λ f. found k terms f)
    where
      by : (b : Bool) → is_kind k (kind t) ≡ b → (b || has k terms) ≡ true → (has k terms ≡ true → (i : ℕ) × (option_and_then kind (slice_get terms i) ≡ Some k))
          → (i : ℕ) × (option_and_then kind (slice_get (t ∷ terms) i) ≡ Some k)
      by true p e others = (zero, kind_is k (kind t) p)
      by false p e others = let later = others e in (suc later.0, later.1)

  or_true : (b c : Bool) → c ≡ true → (b || c) ≡ true
  or_true true c e = refl
  or_true false c e = e

  again : (k : Kind) (terms : List ETerm) (i : ℕ) → option_and_then kind (slice_get terms i) ≡ Some k → has k terms ≡ true
  again k [] i e = absurd (cc)
  again k (t ∷ terms) zero e = ap (λ (b : Bool). b || has k terms) (ap (is_kind k) e ∙ kind_again k)
  again k (t ∷ terms) (suc i) e = or_true (is_kind k (kind t)) (has k terms) (again k terms i e)

  pub two_kinds : (terms : List ETerm) → (has Amount terms && has Count terms) ≡ true → HaveTwoKinds kind terms
  two_kinds terms e =
      let both = and_parts (has Amount terms) (has Count terms) e in
      let one = found Amount terms both.0 in
      let two = found Count terms both.1 in
      record { i = one.0; j = two.0; one = Amount; two = Count; one_is = one.1; two_is = two.1; differ = λ same. cc }

  both_true : (a b : Bool) → a ≡ true → b ≡ true → (a && b) ≡ true
  both_true a b p q = rw (p, q) refl

  pub two_again : (terms : List ETerm) → HaveTwoKinds kind terms → (has Amount terms && has Count terms) ≡ true
  two_again terms is = by is.one is.two is.one_is is.two_is is.differ
    where
      by : (k l : Kind) → option_and_then kind (slice_get terms is.i) ≡ Some k → option_and_then kind (slice_get terms is.j) ≡ Some l → (k ≡ l → ⊥) → (has Amount terms && has Count terms) ≡ true
      by Amount Count p q differ = both_true (has Amount terms) (has Count terms) (again Amount terms is.i p) (again Count terms is.j q)
      by Count Amount p q differ = both_true (has Amount terms) (has Count terms) (again Amount terms is.j q) (again Count terms is.i p)
      by Amount Amount p q differ = absurd (differ refl)
      by Count Count p q differ = absurd (differ refl)

  -- of two sides
  pub of_sides : (left right : List ETerm) → ((has Amount left || has Amount right) && (has Count left || has Count right)) ≡ (has Amount (left ++ right) && has Count (left ++ right))
  of_sides left right =
      ap (λ (b : Bool). b && (has Count left || has Count right)) (sym (list_any-append (λ (t : ETerm). is_kind Amount (kind t)) left right))
      ∙ ap (λ (b : Bool). has Amount (left ++ right) && b) (sym (list_any-append (λ (t : ETerm). is_kind Count (kind t)) left right))

pub mixed_sides_are : (states : List StateLine) (left right : Expr) → mixed_sides states left right ≡ true → HaveTwoKinds (kind_in states true) (left.terms ++ right.terms)
unfolding mixed_sides mixes_sides names_kind
mixed_sides_are states left right e =
    two_kinds (kind_in states true) (left.terms ++ right.terms) (sym (of_sides (kind_in states true) left.terms right.terms) ∙ e)

pub mixed_sides_again : (states : List StateLine) (left right : Expr) → HaveTwoKinds (kind_in states true) (left.terms ++ right.terms) → mixed_sides states left right ≡ true
unfolding mixed_sides mixes_sides names_kind
mixed_sides_again states left right is = of_sides (kind_in states true) left.terms right.terms ∙ two_again (kind_in states true) (left.terms ++ right.terms) is

pub mixed_bound_are : (states : List StateLine) (terms : List ETerm) → mixes_bound states terms ≡ true → HaveTwoKinds (kind_in states false) terms
unfolding mixes_bound names_kind
mixed_bound_are states terms e = two_kinds (kind_in states false) terms e

pub mixed_bound_again : (states : List StateLine) (terms : List ETerm) → HaveTwoKinds (kind_in states false) terms → mixes_bound states terms ≡ true
unfolding mixes_bound names_kind
mixed_bound_again states terms is = two_again (kind_in states false) terms is
