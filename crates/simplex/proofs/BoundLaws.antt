-- The number of a bound, from its parts in lowest terms.
use Rattle.std.proofs.Common.{◌≡◌, ℕ, ℤ, pos, ◌*ℤ◌, ◌≤ℤ◌, unsigned_abs, Result, Ok, Err, refl, sym, ap, ◌∙◌, arith}
use Rattle.std.specs.Result.{IfOk, OnOk, OnErr}
use Rattle.std.proofs.lemmas.Int.{ints}
use Rattle.ordered_field.specs.Rational.{ℚ, whole, ◌*ℚ◌}
use Rattle.ordered_field.specs.Wideness.{QuotientExceeds}
use Rattle.ordered_field.proofs.Fractions.{whole-injective}
use Rattle.ordered_field.proofs.WholeNumbers.{over_one, whole-lowest}
use Rattle.ordered_field.proofs.FieldLaws.{*ℚ_cancel}
use Rattle.lowest_terms.specs.Coprime.{IsCoprime}
use Rattle.lowest_terms.proofs.CoprimeLaws.{IsCoprime-one}
use Rattle.lowest_terms.proofs.Reduction.{pos-size}
use Rattle.fraction.specs.Value.{ratio, rational, in_lowest_terms}
use Rattle.fraction.proofs.Dividing.{rational-times_den, reduced_divides}
use Rattle.whole.specs.declared.answers.Pair.{Pair}
use Rattle.tableau.specs.Operations.{StandsFor}

pub if_ok : {T E : Type 0} (r : Result T E) {P Q : T → Type 0} → ((x : T) → P x → Q x) → IfOk r P → IfOk r Q
if_ok (Ok x) f h = f x h
if_ok (Err e) f h = h

pub on_ok : {T E : Type 0} (r : Result T E) {P Q : Type 0} → (P → Q) → OnOk r P → OnOk r Q
on_ok (Ok x) f h = f h
on_ok (Err e) f h = h

pub on_err : {T E : Type 0} (r : Result T E) {P Q : Type 0} → (P → Q) → OnErr r P → OnErr r Q
on_err (Ok x) f h = h
on_err (Err e) f h = f h

pub positive-apart : (d : ℤ) → pos 1 ≤ℤ d → whole d ≡ whole (pos 0) → ⊥
positive-apart d some e = let none : d ≡ pos 0 = whole-injective d (pos 0) e in absurd (omega (arith, ints))

pub over_one_stands : (p : Pair) (n : ℤ) → p.num ≡ n → p.den ≡ pos 1 → StandsFor p (whole n)
over_one_stands p n e f = record { ratio = over_one n; num = e; den = f; lowest = whole-lowest n }

pub one_over_stands : (p : Pair) (d : ℤ) (some : pos 1 ≤ℤ d) → p.num ≡ pos 1 → p.den ≡ d → StandsFor p (rational (pos 1) d some)
one_over_stands p d some e f = record {
  ratio = ratio (pos 1) d;
  num = e;
  den = f ∙ sym (pos-size d some);
  lowest = in_lowest_terms (pos 1) d some (let c = IsCoprime-one (unsigned_abs d) in (c.1, c.0, λ k a b. c.2 k b a));
}

module _ (num den common n d : ℤ) (left : pos 1 ≤ℤ den) (right : pos 1 ≤ℤ d) (n_is : num *ℤ common ≡ n) (d_is : den *ℤ common ≡ d) (lowest : IsCoprime (unsigned_abs num) (unsigned_abs den)) where
  -- what times the reduced denominator is the reduced numerator is n / d
  pub quotient_value : (x : ℚ) → x *ℚ whole den ≡ whole num → x *ℚ whole d ≡ whole n
  quotient_value x e =
      let same : x ≡ rational num den left =
      *ℚ_cancel x (rational num den left) (whole den) (positive-apart den left) (e ∙ sym (rational-times_den num den left)) in
      ap (λ y. y *ℚ whole d) same ∙ reduced_divides num den common n d left right n_is d_is lowest

  pub quotient_reduced : (x : ℚ) → x *ℚ whole d ≡ whole n → x *ℚ whole den ≡ whole num
  quotient_reduced x e =
      let same : x ≡ rational num den left =
      *ℚ_cancel x (rational num den left) (whole d) (positive-apart d right) (e ∙ sym (reduced_divides num den common n d left right n_is d_is lowest)) in
      ap (λ y. y *ℚ whole den) same ∙ rational-times_den num den left

  pub quotient_wide : (limit : ℕ) → QuotientExceeds limit (whole num) (whole den) → QuotientExceeds limit (whole n) (whole d)
  quotient_wide limit w = record { quotient = w.quotient; divides = quotient_value w.quotient w.divides; overflows = w.overflows }

  pub quotient_kept : (limit : ℕ) → (QuotientExceeds limit (whole num) (whole den) → ⊥) → QuotientExceeds limit (whole n) (whole d) → ⊥
  quotient_kept limit kept w = kept (record { quotient = w.quotient; divides = quotient_reduced w.quotient w.divides; overflows = w.overflows })
