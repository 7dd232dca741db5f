-- The columns' values, one by one.
use Rattle.std.proofs.Common.{◌≡◌, ℕ, ◌+◌, ◌<◌, ◌⊎◌, zero, suc, List, [], ◌∷◌, ◌++◌, length, Option, Some, inl, inr, refl, sym, ap, subst, ◌∙◌, arith, add-one}
use Rattle.std.specs.List.{slice_get}
use Rattle.std.proofs.lemmas.Bool.{cases_order}
use Rattle.std.proofs.lemmas.List.{length-append}
use Rattle.ordered_field.specs.Rational.{ℚ}
use Rattle.ordered_field.specs.Delta.{DeltaValue}
use Rattle.whole.specs.declared.answers.Stuck.{Stuck}
use Rattle.simplex.specs.Corners.{Corner}
use Rattle.corner_values.specs.Scale.{AreNumbers}
use Rattle.corner_values.specs.Faults.{IsStuckAt, IsStuckColumnAt}

last_or_before : (v n : ℕ) → v < n + 1 → (v < n) ⊎ (v ≡ n)
last_or_before v n h = by (cases_order v n)
  where
    by : (v ≡ n) ⊎ ((v < n) ⊎ (n < v)) → (v < n) ⊎ (v ≡ n)
    by (inl same) = inr same
    by (inr (inl less)) = inl less
    by (inr (inr more)) = absurd (omega arith)

-- an item of a list with one more is one of the list, or the last
one_of : {F : Type 0} (fs : List F) (x f : F) (j : ℕ) → slice_get (fs ++ x ∷ []) j ≡ Some f → (slice_get fs j ≡ Some f) ⊎ ((j ≡ length fs) × (x ≡ f))
one_of [] x f zero e = inr (refl, cc)
one_of [] x f (suc j) e = absurd (cc)
one_of (y ∷ fs) x f zero e = inl e
one_of (y ∷ fs) x f (suc j) e = by (one_of fs x f j e)
  where
    by : (slice_get fs j ≡ Some f) ⊎ ((j ≡ length fs) × (x ≡ f)) → (slice_get fs j ≡ Some f) ⊎ ((suc j ≡ suc (length fs)) × (x ≡ f))
    by (inl h) = inl h
    by (inr h) = inr (ap suc h.0, h.1)

pub numbers-none : {F : Type 0} (value : F → ℚ) (x : ℕ → ℚ) → AreNumbers value 0 x []
numbers-none value x = record { count = refl; each = λ j f e. absurd (cc) }

pub numbers-more : {F : Type 0} (value : F → ℚ) (n : ℕ) (x : ℕ → ℚ) (fs : List F) (f : F) → AreNumbers value n x fs → value f ≡ x n → AreNumbers value (n + 1) x (fs ++ f ∷ [])
numbers-more value n x fs f numbers e = record {
  count = length-append fs (f ∷ []) ∙ omega (arith, numbers.count);
  each = λ j h at. by j h (one_of fs f h j at);
}
  where
    by : (j : ℕ) (h : _) → (slice_get fs j ≡ Some h) ⊎ ((j ≡ length fs) × (f ≡ h)) → value h ≡ x j
    by j h (inl at) = numbers.each j h at
    by j h (inr last) = ap value (sym last.1) ∙ e ∙ ap x (sym (last.0 ∙ numbers.count))

-- no operation is too wide for the first n columns
abbrev pub ColumnsFit : {F : Type 0} → ℕ → Corner F → ℚ → ℕ → Type 0
ColumnsFit limit c e n = (s : Stuck) (j : ℕ) → j < n → IsStuckAt limit j (c.value j) e s → ⊥

pub columns_fit-more : {F : Type 0} (limit : ℕ) (c : Corner F) (e : ℚ) (n : ℕ) (x : DeltaValue) → ColumnsFit limit c e n → x ≡ c.value n → ((s : Stuck) → IsStuckAt limit n x e s → ⊥) → ColumnsFit limit c e (n + 1)
columns_fit-more limit c e n x fit is here s j within stuck = by (last_or_before j n within)
  where
    by : (j < n) ⊎ (j ≡ n) → ⊥
    by (inl less) = fit s j less stuck
    by (inr same) = here s (subst (λ y. IsStuckAt limit n y e s) (sym is) (subst (λ k. IsStuckAt limit k (c.value k) e s) same stuck))

pub columns_fit-all : {F : Type 0} (limit : ℕ) (c : Corner F) (e : ℚ) (n : ℕ) → n ≡ c.table.columns → ColumnsFit limit c e n → (s : Stuck) → IsStuckColumnAt limit c e s → ⊥
columns_fit-all limit c e n all fit s stuck = fit s stuck.column (subst (λ k. stuck.column < k) (sym all) stuck.within) stuck.operation

pub stuck_column : {F : Type 0} (limit : ℕ) (c : Corner F) (e : ℚ) (n : ℕ) (x : DeltaValue) (s : Stuck) → n < c.table.columns → x ≡ c.value n → IsStuckAt limit n x e s → IsStuckColumnAt limit c e s
stuck_column limit c e n x s within is stuck = record { column = n; within = within; operation = subst (λ y. IsStuckAt limit n y e s) is stuck }
