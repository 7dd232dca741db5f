-- The running sums by column, and what is counted beside them.
use Rattle.std.proofs.Common.{◌≡◌, ◌≢◌, ◌↔◌, IsTrue, All, ℕ, zero, suc, ◌+◌, ◌*◌, ◌^◌, drop, unsigned_abs, to_z, of_z, FitsSigned, add-one, drop-cons, ◌<◌, ◌≤◌, nat_lt, nat_eq, ℤ, pos, ◌+ℤ◌, ◌*ℤ◌, Bool, true, false, cond, List, [], ◌∷◌, length, set, get_or, replicate, Option, None, Some, refl, sym, ◌∙◌, ap, subst, arith}
use Rattle.std.specs.Option.{option_and_then}
use Rattle.std.specs.Int.{w128}
use Rattle.std.specs.Ordering.{int_eq}
use Rattle.std.proofs.lemmas.Bool.{eqb-true, eq-eqb, ltb-true, lt-ltb}
use Rattle.std.proofs.lemmas.Bool.Decides.{Decides-int_eq}
use Rattle.std.proofs.lemmas.List.{get_or-set_same, get_or-set_other, length-set, get_or-replicate, drop_all}
use Rattle.std.proofs.lemmas.Int.{to_z-of_z, fits_signed_from_abs, unsigned_abs-mul}
use Rattle.std.proofs.Math.IntN.{*ℤ-zero, +ℤ_idr}
use Rattle.std.proofs.Math.Nat.{mul-le-mul_left}
use Rattle.whole.specs.Numbers.{IsWithin, overflows, whole, fma}
use Rattle.whole.proofs.Overflow.{whole_kept, fma_some}
use Rattle.linear_form.specs.declared.lists.Term.{Term}
use Rattle.linear_form.specs.Reduced.{IsReduced}
use Rattle.linear_form.specs.Sums.{coef_at}
use Rattle.linear_form.proofs.ReducedLists.{true_not_false, coef_at-below}
use Rattle.cert_check.specs.Tables.{stepped, sum_at, is_settled, weight, unsettled, EachWithin, IsLeastOverflowed, least_of, overflowed_after, Tallies, IsCleared}

-- ---- how many sums are unsettled

weight_one : (s : Option ℤ) → weight s ≤ 1
weight_one s = by (is_settled s)
  where
    by : (b : Bool) → cond b 0 1 ≤ 1
    by true = omega arith
    by false = omega arith

pub unsettled_few : (xs : List (Option ℤ)) → unsettled xs ≤ length xs
unsettled_few [] = omega arith
unsettled_few (x ∷ xs) =
    let one = weight_one x in let rest = unsettled_few xs in omega arith

pub unsettled-set : (xs : List (Option ℤ)) (i : ℕ) (y : Option ℤ) → i < length xs → unsettled (set xs i y) + weight (get_or xs i None) ≡ unsettled xs + weight y
unsettled-set [] i y less = absurd (omega arith)
unsettled-set (x ∷ xs) zero y less = swapped (weight y) (unsettled xs) (weight x)
  where
    swapped : (a b c : ℕ) → (a + b) + c ≡ (c + b) + a
    swapped a b c = omega arith
unsettled-set (x ∷ xs) (suc i) y less =
    later (weight x) (unsettled (set xs i y)) (weight (get_or xs i None)) (unsettled xs) (weight y) (unsettled-set xs i y (omega arith))
  where
    later : (a b c d e : ℕ) → b + c ≡ d + e → (a + b) + c ≡ (a + d) + e
    later a b c d e h = omega arith

pub weight_at : (xs : List (Option ℤ)) (i : ℕ) → i < length xs → weight (get_or xs i None) ≤ unsettled xs
weight_at [] i less = absurd (omega arith)
weight_at (x ∷ xs) zero less = omega arith
weight_at (x ∷ xs) (suc i) less = let rest = weight_at xs i (omega arith) in omega arith

settled_zero : (s : Option ℤ) → is_settled s ≡ true → s ≡ Some (pos 0)
settled_zero None e = absurd (cc)
settled_zero (Some z) e = ap (λ x. Some x) ((Decides-int_eq z (pos 0)).0 e)

weightless : (s : Option ℤ) → weight s ≡ 0 → is_settled s ≡ true
weightless s e = by (is_settled s) e
  where
    by : (b : Bool) → cond b zero (suc zero) ≡ zero → b ≡ true
    by true e = refl
    by false e = absurd (cc)

pub all_settled : (xs : List (Option ℤ)) → unsettled xs ≡ 0 → (j : ℕ) → j < length xs → get_or xs j None ≡ Some (pos 0)
all_settled [] none j less = absurd (omega arith)
all_settled (x ∷ xs) none zero less = settled_zero x (weightless x (omega arith))
all_settled (x ∷ xs) none (suc j) less = all_settled xs (omega arith) j (omega arith)

pub settled_all : (xs : List (Option ℤ)) → ((j : ℕ) → j < length xs → get_or xs j None ≡ Some (pos 0)) → unsettled xs ≡ 0
settled_all [] all = refl
settled_all (x ∷ xs) all =
    let here : weight x ≡ 0 = ap weight (all 0 (omega arith)) in
    let rest : unsettled xs ≡ 0 = settled_all xs (λ j less. all (suc j) (omega arith)) in omega arith

-- ---- the tallies

past_end : (xs : List (Option ℤ)) (j : ℕ) → length xs ≤ j → get_or xs j None ≡ None
past_end [] j beyond = refl
past_end (x ∷ xs) zero beyond = absurd (omega arith)
past_end (x ∷ xs) (suc j) beyond = past_end xs j (omega arith)

within_set : (sums : List (Option ℤ)) (column : ℕ) (after : Option ℤ) → column < length sums → EachWithin sums → ((z : ℤ) → after ≡ Some z → IsWithin z) → EachWithin (set sums column after)
within_set sums column after less within new j z e = by (nat_eq j column) refl
  where
    by : (here : Bool) → nat_eq j column ≡ here → IsWithin z
    by true same =
        let at : j ≡ column = eqb-true j column same in
        new z (sym (get_or-set_same sums column after None less) ∙ ap (λ k. get_or (set sums column after) k None) (sym at) ∙ e)
    by false other =
        within j z (sym (get_or-set_other sums column j after None (λ same. true_not_false (sym (eq-eqb j column same) ∙ other))) ∙ e)

stays : (sums : List (Option ℤ)) (column : ℕ) (after : Option ℤ) (j : ℕ) → j ≢ column → get_or sums j None ≢ None → get_or (set sums column after) j None ≢ None
stays sums column after j other some e = some (sym (get_or-set_other sums column j after None other) ∙ e)

least_after : (sums : List (Option ℤ)) (overflowed : Option ℕ) (column : ℕ) (after : Option ℤ) → column < length sums → (get_or sums column None ≡ None → after ≡ None) → IsLeastOverflowed sums overflowed → IsLeastOverflowed (set sums column after) (overflowed_after after overflowed column)
least_after sums None column None less kept least =
    (subst (λ (n : ℕ). column < n) (sym (length-set sums column None)) less, get_or-set_same sums column None None less, λ j low. stays sums column None j (omega arith) (least j (omega arith)))
least_after sums (Some l) column None less kept least = by (nat_lt l column) refl
  where
    by : (b : Bool) → nat_lt l column ≡ b → IsLeastOverflowed (set sums column None) (Some (cond b l column))
    by true e =
        let low : l < column = ltb-true l column e in
        (subst (λ (n : ℕ). l < n) (sym (length-set sums column None)) least.0, get_or-set_other sums column l None None (omega arith) ∙ least.1, λ j under. stays sums column None j (omega arith) (least.2 j under))
    by false e =
        let high : column ≤ l = not_low l column (λ low. true_not_false (sym (lt-ltb l column low) ∙ e)) in
        (subst (λ (n : ℕ). column < n) (sym (length-set sums column None)) less, get_or-set_same sums column None None less, λ j under. stays sums column None j (omega arith) (least.2 j (omega arith)))
      where
        not_low : (a b : ℕ) → (a < b → ⊥) → b ≤ a
        not_low a b refuted = omega (arith, refuted)
least_after sums None column (Some z) less kept least = λ j low. by j (nat_eq j column) refl low
  where
    by : (j : ℕ) (here : Bool) → nat_eq j column ≡ here → j < length (set sums column (Some z)) → get_or (set sums column (Some z)) j None ≢ None
    by j true same low none =
        let at : j ≡ column = eqb-true j column same in
        let here : get_or (set sums column (Some z)) column None ≡ Some z = get_or-set_same sums column (Some z) None less in
        let gone : get_or (set sums column (Some z)) column None ≡ None = ap (λ k. get_or (set sums column (Some z)) k None) (sym at) ∙ none in cc
    by j false other low none =
        stays sums column (Some z) j (λ same. true_not_false (sym (eq-eqb j column same) ∙ other)) (least j (subst (λ (n : ℕ). j < n) (length-set sums column (Some z)) low)) none
least_after sums (Some l) column (Some z) less kept least = (
  subst (λ (n : ℕ). l < n) (sym (length-set sums column (Some z))) least.0,
  get_or-set_other sums column l (Some z) None apart ∙ least.1,
  λ j under. by j (nat_eq j column) refl under,
)
  where
    apart : l ≢ column
    apart same =
        let gone : Some z ≡ None = kept (ap (λ k. get_or sums k None) (sym same) ∙ least.1) in cc

    by : (j : ℕ) (here : Bool) → nat_eq j column ≡ here → j < l → get_or (set sums column (Some z)) j None ≢ None
    by j true same under none =
        let at : j ≡ column = eqb-true j column same in
        let here : get_or (set sums column (Some z)) column None ≡ Some z = get_or-set_same sums column (Some z) None less in
        let gone : get_or (set sums column (Some z)) column None ≡ None = ap (λ k. get_or (set sums column (Some z)) k None) (sym at) ∙ none in cc
    by j false other under none =
        stays sums column (Some z) j (λ same. true_not_false (sym (eq-eqb j column same) ∙ other)) (least.2 j under) none

-- a sum after a product more is within 128 bits
pub stepped_within : (mult number : ℤ) (sum : Option ℤ) (z : ℤ) → stepped mult number sum ≡ Some z → IsWithin z
stepped_within mult number None z e = absurd (cc)
stepped_within mult number (Some s) z e =
    let both = fma_some s mult number z e in subst IsWithin (sym both.0) both.1

pub tallies_after : (sums : List (Option ℤ)) (count : ℕ) (overflowed : Option ℕ) (column : ℕ) (mult number : ℤ) (more : ℕ) → column < length sums → Tallies sums count overflowed → more + weight (sum_at sums column) ≡ count + weight (stepped mult number (sum_at sums column)) → Tallies (set sums column (stepped mult number (sum_at sums column))) more (overflowed_after (stepped mult number (sum_at sums column)) overflowed column)
tallies_after sums count overflowed column mult number more less t counted = record {
  few = subst (λ (n : ℕ). n < 2 ^ 32) (sym (length-set sums column after)) t.few;
  counted = same more (weight (sum_at sums column)) count (weight after) (unsettled sums) (unsettled (set sums column after)) counted t.counted (unsettled-set sums column after less);
  least = least_after sums overflowed column after less gone t.least;
  within = within_set sums column after less t.within (stepped_within mult number (sum_at sums column));
}
  where
    after : Option ℤ
    after = stepped mult number (sum_at sums column)

    same : (m w k v u n : ℕ) → m + w ≡ k + v → k ≡ u → n + w ≡ u + v → m ≡ n
    same m w k v u n p q r = omega arith

    gone : sum_at sums column ≡ None → after ≡ None
    gone e = ap (stepped mult number) e

pub tallies_none : (n : ℕ) (sums : List (Option ℤ)) → n < 2 ^ 32 → sums ≡ replicate n (Some (pos 0)) → length sums ≡ n → IsCleared n sums × Tallies sums 0 None
tallies_none n sums few are long = (
  record { columns_are = long; zeros = zeros },
  record {
    few = subst (λ (k : ℕ). k < 2 ^ 32) (sym long) few;
    counted = sym (settled_all sums (λ j less. zeros j (subst (λ (k : ℕ). j < k) long less)));
    least = λ j less none. some j (zeros j (subst (λ (k : ℕ). j < k) long less)) none;
    within = λ j z e. within j z e;
  },
)
  where
    zeros : (j : ℕ) → j < n → sum_at sums j ≡ Some (pos 0)
    zeros j less = ap (λ s. sum_at s j) are ∙ get_or-replicate n j (Some (pos 0)) None less

    some : (j : ℕ) → sum_at sums j ≡ Some (pos 0) → sum_at sums j ≡ None → ⊥
    some j a b = cc

    by : (j : ℕ) (z : ℤ) → sum_at sums j ≡ Some z → (b : Bool) → nat_lt j n ≡ b → IsWithin z
    by j z e true low =
        let at : sum_at sums j ≡ Some (pos 0) = zeros j (ltb-true j n low) in
        let same : pos 0 ≡ z = cc in subst IsWithin same (omega arith)
    by j z e false high =
        let at : sum_at sums j ≡ None = past_end sums j (subst (λ (k : ℕ). k ≤ j) (sym long) (not_low j n (λ low. true_not_false (sym (lt-ltb j n low) ∙ high)))) in absurd (cc)
      where
        not_low : (a b : ℕ) → (a < b → ⊥) → b ≤ a
        not_low a b refuted = omega (arith, refuted)

    within : (j : ℕ) (z : ℤ) → sum_at sums j ≡ Some z → IsWithin z
    within j z e = by j z e (nat_lt j n) refl

pub count_fits : (sums : List (Option ℤ)) (count : ℕ) (overflowed : Option ℕ) → Tallies sums count overflowed → count < 2 ^ 32
count_fits sums count overflowed t = smaller count (unsettled sums) (length sums) (2 ^ 32) t.counted (unsettled_few sums) t.few
  where
    smaller : (a b c d : ℕ) → a ≡ b → b ≤ c → c < d → a < d
    smaller a b c d p q r = omega arith

pub count_takes : (sums : List (Option ℤ)) (count : ℕ) (overflowed : Option ℕ) (column : ℕ) (before : Option ℤ) → Tallies sums count overflowed → column < length sums → before ≡ sum_at sums column → weight before ≤ count
count_takes sums count overflowed column before t less e =
    subst (λ (s : Option ℤ). weight s ≤ count) (sym e) (subst (λ (n : ℕ). weight (sum_at sums column) ≤ n) (sym t.counted) (weight_at sums column less))

-- none is unsettled exactly where all are 0
pub cancel_law : (sums : List (Option ℤ)) (count : ℕ) (overflowed : Option ℕ) → Tallies sums count overflowed → IsTrue (nat_eq count 0) ↔ IsCleared (length sums) sums
cancel_law sums count overflowed t = (
  λ e. record { columns_are = refl; zeros = all_settled sums (sym t.counted ∙ eqb-true count 0 e) },
  λ h. eq-eqb count 0 (t.counted ∙ settled_all sums h.zeros),
)

replicated_long : (n : ℕ) (x : Option ℤ) → length (replicate n x) ≡ n
replicated_long zero x = refl
replicated_long (suc n) x = ap (λ (k : ℕ). suc k) (replicated_long n x)

pub tallies_replicated : (n : ℕ) (sums : List (Option ℤ)) → n < 2 ^ 32 → sums ≡ replicate n (Some (pos 0)) → Tallies sums 0 None
tallies_replicated n sums few are =
    (tallies_none n sums few are (ap length are ∙ replicated_long n (Some (pos 0)))).1

pub tallies_set : (sums : List (Option ℤ)) (count : ℕ) (overflowed : Option ℕ) (column : ℕ) (before after : Option ℤ) (mult number : ℤ) (more : ℕ) (next : Option ℕ) → column < length sums → Tallies sums count overflowed → before ≡ sum_at sums column → after ≡ stepped mult number before → more + weight before ≡ count + weight after → next ≡ overflowed_after after overflowed column → Tallies (set sums column after) more next
tallies_set sums count overflowed column before after mult number more next less t b a counted n =
    let at : after ≡ stepped mult number (sum_at sums column) = a ∙ ap (stepped mult number) b in
    let law : Tallies (set sums column (stepped mult number (sum_at sums column))) more (overflowed_after (stepped mult number (sum_at sums column)) overflowed column) = tallies_after sums count overflowed column mult number more less t (ap (λ (s : Option ℤ). more + weight s) (sym b) ∙ counted ∙ ap (λ (s : Option ℤ). count + weight s) at) in
    subst (λ (p : Option ℕ). Tallies (set sums column after) more p) (sym n) (subst (λ (s : Option ℤ). Tallies (set sums column s) more (overflowed_after s overflowed column)) (sym at) law)

-- ---- a product of 0 changes no sum

pub fma-zero : (z mult number : ℤ) → number ≡ pos 0 → IsWithin z → fma z mult number ≡ Some z
fma-zero z mult number e small =
    ap (fma z mult) e ∙ ap (λ p. cond (overflows p) None (whole (z +ℤ p))) (*ℤ-zero mult) ∙ ap whole (+ℤ_idr z) ∙ whole_kept z small

pub stepped-zero : (mult number : ℤ) (sum : Option ℤ) → number ≡ pos 0 → ((z : ℤ) → sum ≡ Some z → IsWithin z) → stepped mult number sum ≡ sum
stepped-zero mult number None e small = refl
stepped-zero mult number (Some z) e small = fma-zero z mult number e (small z refl)

-- ---- the terms of a row

-- the terms that are left, and the sums so far
pub record Adding (mult factor : ℤ) (terms : List Term) (start : List (Option ℤ)) (left : List Term) (sums : List (Option ℤ)) : Type 0 where
  pub length_is : length sums ≡ length start
  pub within : EachWithin sums
  pub reduced : IsReduced left
  pub rest : (j : ℕ) → stepped mult (factor *ℤ coef_at j left) (sum_at sums j) ≡ stepped mult (factor *ℤ coef_at j terms) (sum_at start j)

pub adding_step : (mult factor : ℤ) (terms : List Term) (start : List (Option ℤ)) (t : Term) (left : List Term) (sums : List (Option ℤ)) → t.column < length sums → Adding mult factor terms start (t ∷ left) sums → EachWithin (set sums t.column (stepped mult (factor *ℤ t.coef) (sum_at sums t.column))) → Adding mult factor terms start left (set sums t.column (stepped mult (factor *ℤ t.coef) (sum_at sums t.column)))
adding_step mult factor terms start t left sums less a within = record {
  length_is = length-set sums t.column next ∙ a.length_is;
  within = within;
  reduced = a.reduced.2;
  rest = λ j. by j (nat_eq t.column j) refl (a.rest j);
}
  where
    next : Option ℤ
    next = stepped mult (factor *ℤ t.coef) (sum_at sums t.column)

    none : coef_at t.column left ≡ pos 0
    none = coef_at-below t.column t.column left a.reduced.2 (omega arith) a.reduced.1

    here : (get_or (set sums t.column next) t.column None) ≡ next
    here = get_or-set_same sums t.column next None less

    by : (j : ℕ) (same : Bool) → nat_eq t.column j ≡ same → stepped mult (factor *ℤ cond same (t.coef +ℤ coef_at j left) (coef_at j left)) (sum_at sums j) ≡ stepped mult (factor *ℤ coef_at j terms) (sum_at start j) → stepped mult (factor *ℤ coef_at j left) (sum_at (set sums t.column next) j) ≡ stepped mult (factor *ℤ coef_at j terms) (sum_at start j)
    by j true e rest =
        let at : t.column ≡ j = eqb-true t.column j e in
        let zero_left : coef_at j left ≡ pos 0 = ap (λ k. coef_at k left) (sym at) ∙ none in
        let now : sum_at (set sums t.column next) j ≡ next = ap (λ k. sum_at (set sums t.column next) k) (sym at) ∙ here in
        stepped-zero mult (factor *ℤ coef_at j left) (sum_at (set sums t.column next) j) (ap (λ z. factor *ℤ z) zero_left ∙ *ℤ-zero factor) (within j) ∙ now ∙ ap (λ k. stepped mult (factor *ℤ t.coef) (sum_at sums k)) at ∙ ap (λ z. stepped mult (factor *ℤ z) (sum_at sums j)) (sym (+ℤ_idr t.coef) ∙ ap (λ z. t.coef +ℤ z) (sym zero_left)) ∙ rest
    by j false e rest =
        ap (stepped mult (factor *ℤ coef_at j left)) (get_or-set_other sums t.column j next None (λ same. true_not_false (sym (eq-eqb t.column j (sym same)) ∙ e))) ∙ rest

pub adding_end : (mult factor : ℤ) (terms : List Term) (start sums : List (Option ℤ)) → Adding mult factor terms start [] sums → (j : ℕ) → sum_at sums j ≡ stepped mult (factor *ℤ coef_at j terms) (sum_at start j)
adding_end mult factor terms start sums a j =
    sym (stepped-zero mult (factor *ℤ pos 0) (sum_at sums j) (*ℤ-zero factor) (a.within j)) ∙ a.rest j

-- ---- numbers as they are passed

same_bits : (z : ℤ) → IsWithin z → to_z w128 (of_z w128 z) ≡ z
same_bits z small = to_z-of_z w128 z (fits_signed_from_abs w128 z small)

pub small_within : (z : ℤ) → unsigned_abs z < 10 ^ 16 → IsWithin z
small_within z small = omega arith

small_product : (a b : ℤ) → unsigned_abs a < 10 ^ 16 → unsigned_abs b < 10 ^ 16 → IsWithin (a *ℤ b)
small_product a b p q = subst (λ (n : ℕ). n < 2 ^ 127) (sym (unsigned_abs-mul a b)) (small (unsigned_abs a) (unsigned_abs b) p q)
  where
    small : (m n : ℕ) → m < 10 ^ 16 → n < 10 ^ 16 → m * n < 2 ^ 127
    small m n p q =
        let le : n ≤ 10 ^ 16 = omega arith in
        let times : m * n ≤ m * 10 ^ 16 = mul-le-mul_left m le in omega arith

pub passed_product : (a b : ℤ) → unsigned_abs a < 10 ^ 16 → unsigned_abs b < 10 ^ 16 → to_z w128 (of_z w128 a) *ℤ to_z w128 (of_z w128 b) ≡ a *ℤ b
passed_product a b p q =
    ap (λ (z : ℤ). z *ℤ to_z w128 (of_z w128 b)) (same_bits a (small_within a p)) ∙ ap (λ (z : ℤ). a *ℤ z) (same_bits b (small_within b q))

pub product_within : (a b : ℤ) → unsigned_abs a < 10 ^ 16 → unsigned_abs b < 10 ^ 16 → IsWithin (to_z w128 (of_z w128 a) *ℤ to_z w128 (of_z w128 b))
product_within a b p q = subst IsWithin (sym (passed_product a b p q)) (small_product a b p q)

pub product_fits : (a b : ℤ) → unsigned_abs a < 10 ^ 16 → unsigned_abs b < 10 ^ 16 → FitsSigned w128 (to_z w128 (of_z w128 a) *ℤ to_z w128 (of_z w128 b))
product_fits a b p q =
    fits_signed_from_abs w128 (to_z w128 (of_z w128 a) *ℤ to_z w128 (of_z w128 b)) (product_within a b p q)

pub product_passed : (a b : ℤ) → unsigned_abs a < 10 ^ 16 → unsigned_abs b < 10 ^ 16 → IsWithin (to_z w128 (of_z w128 (to_z w128 (of_z w128 a) *ℤ to_z w128 (of_z w128 b))))
product_passed a b p q =
    subst IsWithin (sym (same_bits (to_z w128 (of_z w128 a) *ℤ to_z w128 (of_z w128 b)) (product_within a b p q))) (product_within a b p q)

abbrev pub none_term : Term
none_term = record { column = 0; coef = pos 0 }

-- one term of the loop
pub adding_loop : (mult factor : ℤ) (terms : List Term) (start : List (Option ℤ)) (i : ℕ) (sums more : List (Option ℤ)) → i < length terms → All (λ t. t.column < length start) terms → All (λ t. unsigned_abs t.coef < 10 ^ 16) terms → unsigned_abs factor < 10 ^ 16 → Adding (to_z w128 (of_z w128 mult)) (to_z w128 (of_z w128 factor)) terms start (drop i terms) sums → more ≡ set sums (get_or terms i none_term).column (stepped (to_z w128 (of_z w128 mult)) (to_z w128 (of_z w128 (to_z w128 (of_z w128 factor) *ℤ to_z w128 (of_z w128 (get_or terms i none_term).coef)))) (sum_at sums (get_or terms i none_term).column)) → EachWithin more → Adding (to_z w128 (of_z w128 mult)) (to_z w128 (of_z w128 factor)) terms start (drop (i + 1) terms) more
adding_loop mult factor terms start i sums more less columns coefs small a is within =
    let M : ℤ = to_z w128 (of_z w128 mult) in
    let F : ℤ = to_z w128 (of_z w128 factor) in
    let t : Term = get_or terms i none_term in
    let coef_small : unsigned_abs t.coef < 10 ^ 16 = coefs i none_term less in
    let cut : drop i terms ≡ t ∷ drop (i + 1) terms = rw (add-one, drop-cons terms i none_term) in
    let number : to_z w128 (of_z w128 (F *ℤ to_z w128 (of_z w128 t.coef))) ≡ F *ℤ t.coef =
    same_bits (F *ℤ to_z w128 (of_z w128 t.coef)) (product_within factor t.coef small coef_small) ∙ ap (λ (z : ℤ). F *ℤ z) (same_bits t.coef (small_within t.coef coef_small)) in
    let same : more ≡ set sums t.column (stepped M (F *ℤ t.coef) (sum_at sums t.column)) = is ∙ ap (λ (z : ℤ). set sums t.column (stepped M z (sum_at sums t.column))) number in
    let low : t.column < length sums = subst (λ (n : ℕ). t.column < n) (sym a.length_is) (columns i none_term less) in
    subst (λ (s : List (Option ℤ)). Adding M F terms start (drop (i + 1) terms) s) (sym same) (adding_step M F terms start t (drop (i + 1) terms) sums low (subst (λ (l : List Term). Adding M F terms start l sums) cut a) (subst EachWithin same within))

pub adding_done : (mult factor : ℤ) (terms : List Term) (start : List (Option ℤ)) (i : ℕ) (sums : List (Option ℤ)) → length terms ≤ i → IsWithin mult → unsigned_abs factor < 10 ^ 16 → Adding (to_z w128 (of_z w128 mult)) (to_z w128 (of_z w128 factor)) terms start (drop i terms) sums → (j : ℕ) → sum_at sums j ≡ stepped mult (factor *ℤ coef_at j terms) (sum_at start j)
adding_done mult factor terms start i sums over within small a j =
    let M : ℤ = to_z w128 (of_z w128 mult) in
    let F : ℤ = to_z w128 (of_z w128 factor) in
    adding_end M F terms start sums (subst (λ (l : List Term). Adding M F terms start l sums) (drop_all i terms over) a) j ∙ ap (λ (z : ℤ). stepped z (F *ℤ coef_at j terms) (sum_at start j)) (same_bits mult within) ∙ ap (λ (z : ℤ). stepped mult (z *ℤ coef_at j terms) (sum_at start j)) (same_bits factor (small_within factor small))

-- a row's terms and numbers, as they are passed
pub added_row : (mult factor : ℤ) (ts us : List Term) (j : ℕ) (old new : Option ℤ) → FitsSigned w128 mult → unsigned_abs factor < 10 ^ 16 → ts ≡ us → new ≡ stepped (to_z w128 (of_z w128 mult)) (to_z w128 (of_z w128 factor) *ℤ coef_at j ts) old → new ≡ stepped mult (factor *ℤ coef_at j us) old
added_row mult factor ts us j old new fits small same e =
    e ∙ ap (λ (z : ℤ). stepped z (to_z w128 (of_z w128 factor) *ℤ coef_at j ts) old) (to_z-of_z w128 mult fits) ∙ ap (λ (z : ℤ). stepped mult (z *ℤ coef_at j ts) old) (same_bits factor (small_within factor small)) ∙ ap (λ (l : List Term). stepped mult (factor *ℤ coef_at j l) old) same
