-- The least common denominator and the numerators, column by column.
use Rattle.std.proofs.Common.{◌≡◌, ℕ, ◌+◌, ◌*◌, ◌/◌, ◌^◌, ◌<◌, ◌≤◌, ◌⊎◌, List, [], ◌∷◌, ◌++◌, length, take, map, get_or, Option, None, Some, option_map, ℤ, pos, unsigned_abs, inl, inr, refl, sym, ap, subst, ◌∙◌, arith, add-one}
use Rattle.std.specs.List.{All, slice_get}
use Rattle.std.specs.Int.{◌∣◌}
use Rattle.std.proofs.Math.Nat.{one-dvd}
use Rattle.std.proofs.lemmas.Nat.Gcd.{dvd_trans, dvd_antisymm}
use Rattle.std.proofs.lemmas.Bool.{cases_order}
use Rattle.std.proofs.lemmas.List.{map-append, take_more, length-map, length-append, get_or_append_left}
use Rattle.std.proofs.Math.Seq.{get_or-append_seam}
use Rattle.std.proofs.lemmas.List.Elements.{All-push}
use Rattle.std.proofs.lemmas.Option.{slice_get-map, slice_get_within, slice_get_read, get_or_from_slice_get}
use Rattle.ordered_field.specs.Rational.{ℚ}
use Rattle.ordered_field.specs.LowestTerms.{Ratio, InLowestTerms, numerator_over}
use Rattle.fraction.proofs.Pairs.{same_pair}
use Rattle.whole.specs.Numbers.{IsLcm, gcd_of}
use Rattle.whole.specs.declared.answers.Stuck.{Stuck}
use Rattle.corner_values.specs.Scale.{AreNumbers, AreInLowestTerms, IsScale, numerators}
use Rattle.corner_values.specs.Faults.{IsWideMultiple, IsWideNumerator, IsStuckMultiple, IsStuckNumerator}

-- ---- fronts of a list

-- the first i + 1 items
pub front_more : {X : Type 0} (xs : List X) (i : ℕ) (x : X) → slice_get xs i ≡ Some x → take (i + 1) xs ≡ take i xs ++ x ∷ []
front_more xs i x e = take_more xs i x (slice_get_within xs i x e) ∙ ap (λ y. take i xs ++ y ∷ []) (get_or_from_slice_get xs i x x e)

pub mapped_at : {X Y : Type 0} (f : X → Y) (xs : List X) (i : ℕ) (x : X) → slice_get xs i ≡ Some x → slice_get (map f xs) i ≡ Some (f x)
mapped_at f xs i x e = slice_get-map f xs i ∙ ap (option_map f) e

pub pair_at : {X Y : Type 0} (f : X → Y) (xs : List X) (i : ℕ) (x : X) → i < length xs → x ≡ get_or xs i x → slice_get (map f xs) i ≡ Some (f x)
pair_at f xs i x within is = mapped_at f xs i x (slice_get_read xs (length xs) i x refl within is)

some_injective : {A : Type 0} (x y : A) (o : Option A) → o ≡ Some x → o ≡ Some y → x ≡ y
some_injective x y o e f = let h : Some x ≡ Some y = sym e ∙ f in cc

last_or_before : (v n : ℕ) → v < n + 1 → (v < n) ⊎ (v ≡ n)
last_or_before v n h = by (cases_order v n)
  where
    by : (v ≡ n) ⊎ ((v < n) ⊎ (n < v)) → (v < n) ⊎ (v ≡ n)
    by (inl same) = inr same
    by (inr (inl less)) = inl less
    by (inr (inr more)) = absurd (omega arith)

-- ---- the scale

pub IsScale-none : IsScale [] 1
IsScale-none = record { multiple = λ k d h. absurd (omega (arith, h)); least = λ m _. one-dvd m }

split_all : (Q : Ratio → Type 0) (ps : List Ratio) (p : Ratio) → All Q (ps ++ p ∷ []) → All Q ps × Q p
split_all Q ps p h = (
  λ k d less. subst Q (get_or_append_left ps (p ∷ []) d k less) (h k d (omega (arith, length-append ps (p ∷ []), less))),
  subst Q (get_or-append_seam ps p [] p) (h (length ps) p (omega (arith, length-append ps (p ∷ [])))),
)

all_divide : (ps : List Ratio) (l m : ℕ) → l ∣ m → All (λ p. p.den ∣ l) ps → All (λ p. p.den ∣ m) ps
all_divide ps l m divides h = λ k d less. dvd_trans _ (h k d less) divides

pub IsScale-more : (ps : List Ratio) (p : Ratio) (l m : ℕ) → IsScale ps l → IsLcm l p.den m → IsScale (ps ++ p ∷ []) m
IsScale-more ps p l m scale lcm = record {
  multiple = All-push (λ q. q.den ∣ m) ps p (all_divide ps l m lcm.0 scale.multiple) lcm.1;
  least = λ k h. let parts = split_all (λ q. q.den ∣ k) ps p h in lcm.2 k (scale.least k parts.0) parts.1;
}

pub IsScale_unique : (ps : List Ratio) (l m : ℕ) → IsScale ps l → IsScale ps m → l ≡ m
IsScale_unique ps l m one other = dvd_antisymm (one.least m other.multiple) (other.least l one.multiple)

-- no product is too wide for the first n columns
abbrev pub MultiplesFit : List Ratio → ℕ → Type 0
MultiplesFit ps n = (s : Stuck) (j : ℕ) (p : Ratio) (l : ℕ) → j < n → slice_get ps j ≡ Some p → IsScale (take j ps) l → IsWideMultiple j l p.den s → ⊥

pub multiples_fit-more : (ps : List Ratio) (n : ℕ) (p : Ratio) (l : ℕ) → MultiplesFit ps n → slice_get ps n ≡ Some p → IsScale (take n ps) l → l / gcd_of l p.den * p.den < 2 ^ 127 → MultiplesFit ps (n + 1)
multiples_fit-more ps n p l fit there scale small s j q m within at is wide = by (last_or_before j n within)
  where
    at_last : j ≡ n → ⊥
    at_last e =
        let same : p ≡ q = some_injective p q _ there (subst (λ k. slice_get ps k ≡ Some q) e at) in
        let scales : l ≡ m = IsScale_unique (take n ps) l m scale (subst (λ k. IsScale (take k ps) m) e is) in
        let fits : m / gcd_of m q.den * q.den < 2 ^ 127 = subst (λ r. m / gcd_of m r.den * r.den < 2 ^ 127) same (subst (λ k. k / gcd_of k p.den * p.den < 2 ^ 127) scales small) in
        absurd (omega (arith, fits, wide.overflows))

    by : (j < n) ⊎ (j ≡ n) → ⊥
    by (inl less) = fit s j q m less at is wide
    by (inr e) = at_last e

pub multiples_fit-all : (ps : List Ratio) (n : ℕ) → n ≡ length ps → MultiplesFit ps n → (s : Stuck) → IsStuckMultiple ps s → ⊥
multiples_fit-all ps n all fit s stuck =
    fit s stuck.column stuck.ratio stuck.scale (subst (λ k. stuck.column < k) (sym all) (slice_get_within ps stuck.column stuck.ratio stuck.there)) stuck.there stuck.is_scale stuck.wide

pub stuck_multiple : (ps : List Ratio) (n : ℕ) (p : Ratio) (l : ℕ) (s : Stuck) → slice_get ps n ≡ Some p → IsScale (take n ps) l → IsWideMultiple n l p.den s → IsStuckMultiple ps s
stuck_multiple ps n p l s there scale wide = record { column = n; ratio = p; there = there; scale = l; is_scale = scale; wide = wide }

-- ---- the numerators

pub numerators-more : (l : ℕ) (ps : List Ratio) (n : ℕ) (p : Ratio) (ns : List ℤ) (z : ℤ) → ns ≡ numerators l (take n ps) → slice_get ps n ≡ Some p → z ≡ numerator_over l p → ns ++ z ∷ [] ≡ numerators l (take (n + 1) ps)
numerators-more l ps n p ns z e there f =
    ap (λ xs. xs ++ z ∷ []) e ∙ ap (λ y. numerators l (take n ps) ++ y ∷ []) f
    ∙ sym (ap (λ qs. numerators l qs) (front_more ps n p there) ∙ map-append (numerator_over l) (take n ps) (p ∷ []))

abbrev pub NumeratorsFit : List Ratio → ℕ → ℕ → Type 0
NumeratorsFit ps l n = (s : Stuck) (j : ℕ) (p : Ratio) → j < n → slice_get ps j ≡ Some p → IsWideNumerator j l p s → ⊥

pub numerators_fit-more : (ps : List Ratio) (l n : ℕ) (p : Ratio) → NumeratorsFit ps l n → slice_get ps n ≡ Some p → unsigned_abs (numerator_over l p) < 2 ^ 127 → NumeratorsFit ps l (n + 1)
numerators_fit-more ps l n p fit there small s j q within at wide = by (last_or_before j n within)
  where
    at_last : j ≡ n → ⊥
    at_last e =
        let same : p ≡ q = some_injective p q _ there (subst (λ k. slice_get ps k ≡ Some q) e at) in
        let fits : unsigned_abs (numerator_over l q) < 2 ^ 127 = subst (λ r. unsigned_abs (numerator_over l r) < 2 ^ 127) same small in
        absurd (omega (arith, fits, wide.overflows))

    by : (j < n) ⊎ (j ≡ n) → ⊥
    by (inl less) = fit s j q less at wide
    by (inr e) = at_last e

pub numerators_fit-all : (ps : List Ratio) (l n : ℕ) → n ≡ length ps → NumeratorsFit ps l n → (s : Stuck) → IsStuckNumerator ps l s → ⊥
numerators_fit-all ps l n all fit s stuck =
    fit s stuck.column stuck.ratio (subst (λ k. stuck.column < k) (sym all) (slice_get_within ps stuck.column stuck.ratio stuck.there)) stuck.there stuck.wide

pub stuck_numerator : (ps : List Ratio) (l n : ℕ) (p : Ratio) (s : Stuck) → slice_get ps n ≡ Some p → IsWideNumerator n l p s → IsStuckNumerator ps l s
stuck_numerator ps l n p s there wide = record { column = n; ratio = p; there = there; wide = wide }

-- ---- numbers of a field, in lowest terms

pub lowest_of_numbers : {F : Type 0} (value : F → ℚ) (pair : F → Ratio) (meaning : (f : F) → InLowestTerms (pair f) (value f)) (n : ℕ) (x : ℕ → ℚ) (fs : List F) → AreNumbers value n x fs → AreInLowestTerms n x (map pair fs)
lowest_of_numbers value pair meaning n x fs numbers = record {
  count = length-map fs pair ∙ numbers.count;
  each = λ j p e. by j p (slice_get fs j) refl (sym (slice_get-map pair fs j) ∙ e);
}
  where
    by : (j : ℕ) (p : Ratio) (o : Option _) → slice_get fs j ≡ o → option_map pair o ≡ Some p → InLowestTerms p (x j)
    by j p None e f = absurd (cc)
    by j p (Some g) e f =
        let same : pair g ≡ p = cc in
        subst (λ q. InLowestTerms q (x j)) same (subst (λ y. InLowestTerms (pair g) y) (numbers.each j g e) (meaning g))

-- lists of the same length, with the same items
same_lists : (ps qs : List Ratio) → length ps ≡ length qs → ((j : ℕ) (p q : Ratio) → slice_get ps j ≡ Some p → slice_get qs j ≡ Some q → p ≡ q) → ps ≡ qs
same_lists [] [] e each = refl
same_lists [] (q ∷ qs) e each = absurd (omega (arith, e))
same_lists (p ∷ ps) [] e each = absurd (omega (arith, e))
same_lists (p ∷ ps) (q ∷ qs) e each =
    let first : p ≡ q = each 0 p q refl refl in
    let rest : ps ≡ qs = same_lists ps qs (omega (arith, e)) (λ j x y a b. each (j + 1) x y (at_behind p ps j x a) (at_behind q qs j y b)) in
    cc
  where
    at_behind : (p : Ratio) (ps : List Ratio) (j : ℕ) (x : Ratio) → slice_get ps j ≡ Some x → slice_get (p ∷ ps) (j + 1) ≡ Some x
    at_behind p ps j x e = rw (add-one) e

pub lowest_unique : (n : ℕ) (x : ℕ → ℚ) (ps qs : List Ratio) → AreInLowestTerms n x ps → AreInLowestTerms n x qs → ps ≡ qs
lowest_unique n x ps qs one other =
    same_lists ps qs (one.count ∙ sym other.count) (λ j p q a b. same_pair p q (x j) (one.each j p a) (other.each j q b))
