-- Coefficients of sparse rows.
use Rattle.std.proofs.Common.{◌≡◌, ℕ, ◌+◌, ◌<◌, ◌≤◌, ◌^◌, List, [], ◌∷◌, ◌++◌, ◌⊎◌, inl, inr, pos, refl, sym, ap, subst, ◌∙◌, arith, ◌==◌, if◌then◌else◌}
use Rattle.std.proofs.lemmas.Bool.{eq-eqb, ne_eqb}
use Rattle.ordered_field.specs.Rational.{ℚ, whole}
use Rattle.field_rows.specs.Rows.{coefficient, IsRow, IsRowWithin, put}
use Rattle.field_rows.specs.declared.row.Entry.{Entry}
use Rattle.field_rows.proofs.SumLaws.{put-elsewhere, same_or_apart}

pub coefficient-none : {F : Type 0} (value : F → ℚ) (v : ℕ) → coefficient value [] v ≡ whole (pos 0)
unfolding coefficient
coefficient-none value v = refl

pub coefficient-here : {F : Type 0} (value : F → ℚ) (e : Entry F) (es : List (Entry F)) (v : ℕ) → v ≡ e.variable → coefficient value (e ∷ es) v ≡ value e.number
unfolding coefficient
coefficient-here value e es v here = rw (eq-eqb v e.variable here) refl

pub coefficient-there : {F : Type 0} (value : F → ℚ) (e : Entry F) (es : List (Entry F)) (v : ℕ) → (v ≡ e.variable → ⊥) → coefficient value (e ∷ es) v ≡ coefficient value es v
unfolding coefficient
coefficient-there value e es v apart = rw (ne_eqb v e.variable apart) refl

-- ---- where a row's variables stand

pub IsRowWithin-earlier : {F : Type 0} (value : F → ℚ) (from from' to : ℕ) (row : List (Entry F)) → from' ≤ from → IsRowWithin value from to row → IsRowWithin value from' to row
IsRowWithin-earlier value from from' to [] less row = tt
IsRowWithin-earlier value from from' to (e ∷ es) less row = (omega (arith, row.0), row.1, row.2, row.3)

pub IsRowWithin-later : {F : Type 0} (value : F → ℚ) (from to to' : ℕ) (row : List (Entry F)) → to ≤ to' → IsRowWithin value from to row → IsRowWithin value from to' row
IsRowWithin-later value from to to' [] more row = tt
IsRowWithin-later value from to to' (e ∷ es) more row =
    (row.0, omega (arith, row.1), row.2, IsRowWithin-later value (e.variable + 1) to to' es more row.3)

-- a row has no variable before its first one
pub coefficient-before : {F : Type 0} (value : F → ℚ) (from to : ℕ) (row : List (Entry F)) (v : ℕ) → IsRowWithin value from to row → v < from → coefficient value row v ≡ whole (pos 0)
coefficient-before value from to [] v row less = coefficient-none value v
coefficient-before value from to (e ∷ es) v row less =
    coefficient-there value e es v (λ same. absurd (omega (arith, row.0))) ∙ coefficient-before value (e.variable + 1) to es v row.3 (omega (arith, row.0))

pub coefficient-past : {F : Type 0} (value : F → ℚ) (from to : ℕ) (row : List (Entry F)) (v : ℕ) → IsRowWithin value from to row → to ≤ v → coefficient value row v ≡ whole (pos 0)
coefficient-past value from to [] v row past = coefficient-none value v
coefficient-past value from to (e ∷ es) v row past =
    coefficient-there value e es v (λ same. absurd (omega (arith, row.1))) ∙ coefficient-past value (e.variable + 1) to es v row.3 past

-- ---- one more entry at the end

pub IsRowWithin-append : {F : Type 0} (value : F → ℚ) (from to : ℕ) (row : List (Entry F)) (v : ℕ) (x : F) → IsRowWithin value from to row → from ≤ v → to ≤ v → (value x ≡ whole (pos 0) → ⊥) → IsRowWithin value from (v + 1) (row ++ record { variable = v; number = x } ∷ [])
IsRowWithin-append value from to [] v x row first past some = (first, omega arith, some, tt)
IsRowWithin-append value from to (e ∷ es) v x row first past some =
    (row.0, omega (arith, row.1), row.2, IsRowWithin-append value (e.variable + 1) to es v x row.3 (omega (arith, row.1)) past some)

pub put-same_there : (v u : ℕ) (y : ℚ) (f g : ℕ → ℚ) → f u ≡ g u → put v y f u ≡ put v y g u
unfolding put
put-same_there v u y f g same = ap (λ w. if u == v then y else w) same

pub coefficient-append : {F : Type 0} (value : F → ℚ) (from to : ℕ) (row : List (Entry F)) (v : ℕ) (x : F) (u : ℕ) → IsRowWithin value from to row → to ≤ v → coefficient value (row ++ record { variable = v; number = x } ∷ []) u ≡ put v (value x) (coefficient value row) u
unfolding coefficient put
coefficient-append value from to [] v x u row past = refl
coefficient-append value from to (e ∷ es) v x u row past =
    by_place (same_or_apart e.variable u) (coefficient-append value (e.variable + 1) to es v x u row.3 past)
  where
    by_place : (u ≡ e.variable) ⊎ (u ≡ e.variable → ⊥) → coefficient value (es ++ record { variable = v; number = x } ∷ []) u ≡ put v (value x) (coefficient value es) u → coefficient value (e ∷ (es ++ record { variable = v; number = x } ∷ [])) u ≡ put v (value x) (coefficient value (e ∷ es)) u
    by_place (inl here) rest =
        coefficient-here value e _ u here
        ∙ sym (put-elsewhere v u (value x) (coefficient value (e ∷ es)) (λ same. absurd (omega (arith, row.1))) ∙ coefficient-here value e es u here)
    by_place (inr apart) rest =
        coefficient-there value e _ u apart ∙ rest ∙ put-same_there v u (value x) (coefficient value es) (coefficient value (e ∷ es)) (sym (coefficient-there value e es u apart))

-- ---- parts of a row

-- a row before its entry e, and behind it
pub coefficient-less : {F : Type 0} (value : F → ℚ) (from to : ℕ) (first : List (Entry F)) (e : Entry F) (last : List (Entry F)) (v : ℕ) → IsRowWithin value from to (first ++ e ∷ last) → v < e.variable → coefficient value (first ++ e ∷ last) v ≡ coefficient value first v
coefficient-less value from to [] e last v row less =
    coefficient-before value e.variable to (e ∷ last) v (omega arith, row.1, row.2, row.3) less ∙ sym (coefficient-none value v)
coefficient-less value from to (f ∷ fs) e last v row less = by_place (same_or_apart f.variable v) (coefficient-less value (f.variable + 1) to fs e last v row.3 less)
  where
    by_place : (v ≡ f.variable) ⊎ (v ≡ f.variable → ⊥) → coefficient value (fs ++ e ∷ last) v ≡ coefficient value fs v → coefficient value (f ∷ (fs ++ e ∷ last)) v ≡ coefficient value (f ∷ fs) v
    by_place (inl here) rest = coefficient-here value f _ v here ∙ sym (coefficient-here value f fs v here)
    by_place (inr apart) rest = coefficient-there value f _ v apart ∙ rest ∙ sym (coefficient-there value f fs v apart)

-- the entries before e have variables below its own
first_below : {F : Type 0} (value : F → ℚ) (from to : ℕ) (f : Entry F) (fs : List (Entry F)) (e : Entry F) (last : List (Entry F)) → IsRowWithin value from to (f ∷ (fs ++ e ∷ last)) → f.variable < e.variable
first_below value from to f [] e last row = omega (arith, row.3.0)
first_below value from to f (g ∷ gs) e last row = let next : g.variable < e.variable = first_below value (f.variable + 1) to g gs e last row.3 in omega (arith, row.3.0)

pub coefficient-more : {F : Type 0} (value : F → ℚ) (from to : ℕ) (first : List (Entry F)) (e : Entry F) (last : List (Entry F)) (v : ℕ) → IsRowWithin value from to (first ++ e ∷ last) → e.variable ≤ v → coefficient value (first ++ e ∷ last) v ≡ coefficient value (e ∷ last) v
coefficient-more value from to [] e last v row more = refl
coefficient-more value from to (f ∷ fs) e last v row more =
    let less : f.variable < e.variable = first_below value from to f fs e last row in
    coefficient-there value f _ v (λ same. absurd (omega arith)) ∙ coefficient-more value (f.variable + 1) to fs e last v row.3 more

pub IsRowWithin-first : {F : Type 0} (value : F → ℚ) (from to : ℕ) (first last : List (Entry F)) → IsRowWithin value from to (first ++ last) → IsRowWithin value from to first
IsRowWithin-first value from to [] last row = tt
IsRowWithin-first value from to (f ∷ fs) last row = (row.0, row.1, row.2, IsRowWithin-first value (f.variable + 1) to fs last row.3)

pub IsRowWithin-last : {F : Type 0} (value : F → ℚ) (from to : ℕ) (first last : List (Entry F)) → IsRowWithin value from to (first ++ last) → IsRowWithin value from to last
IsRowWithin-last value from to [] last row = row
IsRowWithin-last value from to (f ∷ fs) last row =
    IsRowWithin-earlier value (f.variable + 1) from to last (omega (arith, row.0)) (IsRowWithin-last value (f.variable + 1) to fs last row.3)

-- the entries before e: a row, in which a lesser variable has the same coefficient
pub row_before : {F : Type 0} (value : F → ℚ) (row before : List (Entry F)) (e : Entry F) (behind : List (Entry F)) (v : ℕ) → row ≡ before ++ e ∷ behind → IsRow value row → v < e.variable → IsRow value before × (coefficient value before v ≡ coefficient value row v)
unfolding IsRow
row_before value row before e behind v is r less =
    let within : IsRowWithin value 0 (2 ^ 32) (before ++ e ∷ behind) = subst (IsRowWithin value 0 (2 ^ 32)) is r in
    (IsRowWithin-first value 0 (2 ^ 32) before (e ∷ behind) within, sym (coefficient-less value 0 (2 ^ 32) before e behind v within less) ∙ ap (λ r. coefficient value r v) (sym is))

-- the entries behind e: a row, in which a greater variable has the same coefficient
pub row_behind : {F : Type 0} (value : F → ℚ) (row before : List (Entry F)) (e : Entry F) (behind : List (Entry F)) (v : ℕ) → row ≡ before ++ e ∷ behind → IsRow value row → e.variable < v → IsRow value behind × (coefficient value behind v ≡ coefficient value row v)
unfolding IsRow
row_behind value row before e behind v is r more =
    let within : IsRowWithin value 0 (2 ^ 32) (before ++ e ∷ behind) = subst (IsRowWithin value 0 (2 ^ 32)) is r in
    let last : IsRowWithin value 0 (2 ^ 32) (e ∷ behind) = IsRowWithin-last value 0 (2 ^ 32) before (e ∷ behind) within in
    (IsRowWithin-earlier value (e.variable + 1) 0 (2 ^ 32) behind (omega arith) last.3, sym (coefficient-more value 0 (2 ^ 32) before e behind v within (omega arith) ∙ coefficient-there value e behind v (λ same. absurd (omega arith))) ∙ ap (λ r. coefficient value r v) (sym is))

pub coefficient-found : {F : Type 0} (value : F → ℚ) (row before : List (Entry F)) (e : Entry F) (behind : List (Entry F)) (v : ℕ) → row ≡ before ++ e ∷ behind → IsRow value row → v ≡ e.variable → coefficient value row v ≡ value e.number
unfolding IsRow
coefficient-found value row before e behind v is r here =
    let within : IsRowWithin value 0 (2 ^ 32) (before ++ e ∷ behind) = subst (IsRowWithin value 0 (2 ^ 32)) is r in
    ap (λ r. coefficient value r v) is ∙ coefficient-more value 0 (2 ^ 32) before e behind v within (omega arith) ∙ coefficient-here value e behind v here
