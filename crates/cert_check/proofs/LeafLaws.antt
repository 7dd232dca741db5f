-- The rows of a leaf, added part by part, and what their sums come to.
use Rattle.std.proofs.Common.{◌≡◌, ◌≢◌, ◌↔◌, ℕ, zero, suc, ◌+◌, ◌-◌, to_z, of_z, drop, get_or, slice_get, add-one, drop-cons, ◌<◌, ◌≤◌, nat_lt, nat_eq, ℤ, pos, ◌+ℤ◌, ◌*ℤ◌, ◌≤ℤ◌, Bool, true, false, cond, not, ◌&&◌, ◌||◌, List, [], ◌∷◌, length, Option, None, Some, is_some, refl, sym, ◌∙◌, ap, subst, arith}
use Rattle.std.specs.Option.{option_and_then, option_map_or}
use Rattle.std.specs.Int.{w128, is_negative, is_positive}
use Rattle.std.specs.Ordering.{int_eq}
use Rattle.std.proofs.lemmas.Bool.{eqb-true, eq-eqb, ltb-true, lt-ltb}
use Rattle.std.proofs.lemmas.Bool.Decides.{Decides-int_eq}
use Rattle.std.proofs.lemmas.Int.{ints, to_z-of_z, fits_signed_from_abs}
use Rattle.std.proofs.lemmas.Option.{slice_get-get_or}
use Rattle.whole.specs.Numbers.{IsWithin, fma}
use Rattle.whole.proofs.Overflow.{fma_some}
use Rattle.linear_form.specs.declared.lists.Form.{Form}
use Rattle.linear_form.specs.declared.lists.Term.{Term}
use Rattle.linear_form.proofs.ReducedLists.{true_not_false}
use Rattle.farkas_cert.specs.declared.literals.Lit.{Lit}
use Rattle.farkas_cert.specs.declared.trees.Part.{Part}
use Rattle.clause_form.specs.Derivations.{Rows, LitRow, terms_of, row_of, row_coef, number_in, weighed_sum, coef_sum, bound_sum, running_sum}
use Rattle.cert_check.specs.declared.found.Found.{Found}
use Rattle.cert_check.specs.declared.found.Found.TheVariants.{Sound, Breaks, Overflows}
use Rattle.cert_check.specs.declared.leaves.Total.{Total}
use Rattle.cert_check.specs.Causes.{then_ask, asked, of_part, of_parts, number_at, of_sum, of_sums, of_rows, cancel_below, is_strict, some_strict, is_impossible, is_contradiction, is_on_path}
use Rattle.cert_check.specs.Desks.{AreSums, AreTotals, NoneNegative, Running}
use Rattle.cert_check.specs.Tables.{stepped, sum_at, EachWithin, IsLeastOverflowed, IsCleared}
use Rattle.cert_check.proofs.CauseLaws.{cancel_below-all, then_sound, asked_sound, both_true, true_both, not_negative}
use Rattle.cert_check.proofs.SumLaws.{stepped-zero}

-- ---- part by part

pub running_start : (c : Rows) (parts : List Part) (sums : List (Option ℤ)) (total : Total) → IsCleared c.columns sums → EachWithin sums → NoneNegative parts → total.bound ≡ Some (pos 0) → total.strict ≡ false → Running c parts parts sums total
running_start c parts sums total cleared within mults bound strict = record {
  length_is = cleared.columns_are;
  within = within;
  column = λ j less. ap (option_and_then (λ s. running_sum c (row_coef j) s parts)) (cleared.zeros j less);
  bound = ap (option_and_then (λ s. running_sum c (λ row. row.bound) s parts)) bound;
  bound_within = λ z e. zero_within z (sym bound ∙ e);
  strict = ap (λ b. b || some_strict c parts) strict;
  mults = mults;
}
  where
    zero_within : (z : ℤ) → Some (pos 0) ≡ Some z → IsWithin z
    zero_within z e = let same : pos 0 ≡ z = cc in subst IsWithin same (omega arith)

-- the running sum from a sum on takes the first part
running_more : (c : Rows) (number : LitRow → ℤ) (sum : Option ℤ) (p : Part) (left : List Part) → option_and_then (λ s. running_sum c number s (p ∷ left)) sum ≡ option_and_then (λ s. running_sum c number s left) (stepped p.mult (number_in number (row_of c p.lit)) sum)
running_more c number None p left = refl
running_more c number (Some s) p left = refl

running_last : (c : Rows) (number : LitRow → ℤ) (sum : Option ℤ) → option_and_then (λ s. running_sum c number s []) sum ≡ sum
running_last c number None = refl
running_last c number (Some s) = refl

or_assoc : (a b d : Bool) → ((a || b) || d) ≡ (a || (b || d))
or_assoc true b d = refl
or_assoc false b d = refl

-- a part with a row
pub running_row : (c : Rows) (parts : List Part) (p : Part) (left : List Part) (sums more : List (Option ℤ)) (total next : Total) (row : LitRow) → row_of c p.lit ≡ Some row → Running c parts (p ∷ left) sums total → length more ≡ c.columns → ((j : ℕ) → sum_at more j ≡ stepped p.mult (row_coef j row) (sum_at sums j)) → EachWithin more → next.bound ≡ stepped p.mult row.bound total.bound → ((z : ℤ) → next.bound ≡ Some z → IsWithin z) → next.strict ≡ (total.strict || (row.strict && is_positive p.mult)) → Running c parts left more next
running_row c parts p left sums more total next row is r long added within bound bound_within strict = record {
  length_is = long;
  within = within;
  column = λ j less. ap (option_and_then (λ s. running_sum c (row_coef j) s left)) (added j ∙ ap (λ o. stepped p.mult (number_in (row_coef j) o) (sum_at sums j)) (sym is)) ∙ sym (running_more c (row_coef j) (sum_at sums j) p left) ∙ r.column j less;
  bound = ap (option_and_then (λ s. running_sum c (λ row. row.bound) s left)) (bound ∙ ap (λ o. stepped p.mult (number_in (λ row. row.bound) o) total.bound) (sym is)) ∙ sym (running_more c (λ row. row.bound) total.bound p left) ∙ r.bound;
  bound_within = bound_within;
  strict = ap (λ b. b || some_strict c left) (strict ∙ ap (λ o. total.strict || (is_strict o && is_positive p.mult)) (sym is)) ∙ or_assoc total.strict (is_strict (row_of c p.lit) && is_positive p.mult) (some_strict c left) ∙ r.strict;
  mults = r.mults.1;
}

-- a part without one
pub running_none : (c : Rows) (parts : List Part) (p : Part) (left : List Part) (sums : List (Option ℤ)) (total : Total) → row_of c p.lit ≡ None → Running c parts (p ∷ left) sums total → Running c parts left sums total
running_none c parts p left sums total is r = record {
  length_is = r.length_is;
  within = r.within;
  column = λ j less. ap (option_and_then (λ s. running_sum c (row_coef j) s left)) (sym (stepped-zero p.mult (number_in (row_coef j) (row_of c p.lit)) (sum_at sums j) (ap (number_in (row_coef j)) is) (r.within j))) ∙ sym (running_more c (row_coef j) (sum_at sums j) p left) ∙ r.column j less;
  bound = ap (option_and_then (λ s. running_sum c (λ row. row.bound) s left)) (sym (stepped-zero p.mult (number_in (λ row. row.bound) (row_of c p.lit)) total.bound (ap (number_in (λ row. row.bound)) is) r.bound_within)) ∙ sym (running_more c (λ row. row.bound) total.bound p left) ∙ r.bound;
  bound_within = r.bound_within;
  strict = ap (λ b. total.strict || (b || some_strict c left)) (sym (ap (λ o. is_strict o && is_positive p.mult) is)) ∙ r.strict;
  mults = r.mults.1;
}

pub running_sums : (c : Rows) (parts : List Part) (sums : List (Option ℤ)) (total : Total) → Running c parts [] sums total → AreSums c parts sums
running_sums c parts sums total r = record {
  columns_are = r.length_is;
  sum = λ j less. sym (running_last c (row_coef j) (sum_at sums j)) ∙ r.column j less;
}

pub running_totals : (c : Rows) (parts : List Part) (sums : List (Option ℤ)) (total : Total) → Running c parts [] sums total → AreTotals c parts total
running_totals c parts sums total r = record {
  bound = sym (running_last c (λ row. row.bound) total.bound) ∙ r.bound;
  strict = sym (or_false total.strict) ∙ r.strict;
}
  where
    or_false : (b : Bool) → (b || false) ≡ b
    or_false true = refl
    or_false false = refl

-- parts at which nothing is found have no multiplier below 0
pub sound_parts : (c : Rows) (path : List Lit) (ps : List Part) → of_parts c path ps ≡ Sound → NoneNegative ps
sound_parts c path [] e = tt
sound_parts c path (p ∷ ps) e =
    let cut = then_sound (of_part c path p) (of_parts c path ps) e in
    let known : Found = then_ask (asked 7 (both (is_on p) (is_some (row_of c p.lit)))) (low p) in
    let first = then_sound (asked 2 (nat_lt p.lit.atom (length c.atoms))) known cut.0 in
    let second = then_sound (asked 7 (both (is_on p) (is_some (row_of c p.lit)))) (low p) first.1 in
    ((not_negative p.mult).0 (asked_sound 4 (not (is_negative p.mult)) second.1), sound_parts c path ps cut.1)
  where
    both : Bool → Bool → Bool
    both a b = a && b

    is_on : Part → Bool
    is_on p = is_on_path path p.lit

    low : Part → Found
    low p = asked 4 (not (is_negative p.mult))

-- ---- what a running sum comes to

running_total : (c : Rows) (number : LitRow → ℤ) (s : ℤ) (ps : List Part) (z : ℤ) → running_sum c number s ps ≡ Some z → z ≡ s +ℤ weighed_sum c number ps
running_total c number s [] z e = let same : s ≡ z = cc in omega (arith, ints)
running_total c number s (p ∷ ps) z e =
    by (fma s p.mult (number_in number (row_of c p.lit))) refl e (λ t. running_total c number t ps z)
  where
    by : (r : Option ℤ) → fma s p.mult (number_in number (row_of c p.lit)) ≡ r → option_and_then (λ t. running_sum c number t ps) r ≡ Some z → ((t : ℤ) → running_sum c number t ps ≡ Some z → z ≡ t +ℤ weighed_sum c number ps) → z ≡ s +ℤ (p.mult *ℤ number_in number (row_of c p.lit) +ℤ weighed_sum c number ps)
    by None p q more = absurd (cc)
    by (Some t) q e more =
        let step : t ≡ s +ℤ p.mult *ℤ number_in number (row_of c p.lit) = (fma_some s p.mult (number_in number (row_of c p.lit)) t q).0 in
        let rest : z ≡ t +ℤ weighed_sum c number ps = more t e in omega (arith, ints)

from_zero : (c : Rows) (number : LitRow → ℤ) (ps : List Part) (z : ℤ) → running_sum c number (pos 0) ps ≡ Some z → weighed_sum c number ps ≡ z
from_zero c number ps z e = by (running_total c number (pos 0) ps z e)
  where
    by : z ≡ pos 0 +ℤ weighed_sum c number ps → weighed_sum c number ps ≡ z
    by h = omega (arith, ints)

-- ---- the sums in the order in which they are asked

number_below : (c : Rows) (ps : List Part) (n : ℕ) → n < c.columns → running_sum c (number_at c n) (pos 0) ps ≡ running_sum c (row_coef n) (pos 0) ps
number_below c ps n less =
    ap (λ b. running_sum c (λ row. cond b (row_coef n row) row.bound) (pos 0) ps) (lt-ltb n c.columns less)

not_itself : (n : ℕ) → nat_lt n n ≡ false
not_itself n = by (nat_lt n n) refl
  where
    by : (b : Bool) → nat_lt n n ≡ b → b ≡ false
    by true e = let low : n < n = ltb-true n n e in absurd (omega arith)
    by false e = refl

number_last : (c : Rows) (ps : List Part) → running_sum c (number_at c c.columns) (pos 0) ps ≡ running_sum c (λ row. row.bound) (pos 0) ps
number_last c ps =
    ap (λ b. running_sum c (λ row. cond b (row_coef c.columns row) row.bound) (pos 0) ps) (not_itself c.columns)

of_sum_some : (column : ℕ) (sum : Option ℤ) → sum ≢ None → of_sum column sum ≡ Sound
of_sum_some column None some = absurd (some refl)
of_sum_some column (Some z) some = refl

none_overflows : (c : Rows) (ps : List Part) (n : ℕ) → n ≤ c.columns → ((j : ℕ) → j < n → running_sum c (row_coef j) (pos 0) ps ≢ None) → of_sums c ps n ≡ Sound
none_overflows c ps zero le some = refl
none_overflows c ps (suc n) le some =
    ap (λ f. then_ask f (of_sum n (running_sum c (number_at c n) (pos 0) ps))) (none_overflows c ps n (omega arith) (λ j less. some j (omega arith))) ∙ ap (of_sum n) (number_below c ps n (omega arith)) ∙ of_sum_some n (running_sum c (row_coef n) (pos 0) ps) (some n (omega arith))

last_or_before : (k n : ℕ) → k < suc n → nat_eq k n ≡ false → k < n
last_or_before k n less e =
    let apart : k ≢ n = λ same. true_not_false (sym (eq-eqb k n same) ∙ e) in omega arith

first_overflows : (c : Rows) (ps : List Part) (k n : ℕ) → k < n → n ≤ c.columns → running_sum c (row_coef k) (pos 0) ps ≡ None → ((j : ℕ) → j < k → running_sum c (row_coef j) (pos 0) ps ≢ None) → of_sums c ps n ≡ Overflows k
first_overflows c ps k zero less le none some = absurd (omega arith)
first_overflows c ps k (suc n) less le none some =
    by (nat_eq k n) refl (λ low. first_overflows c ps k n low (omega arith) none some)
  where
    by : (b : Bool) → nat_eq k n ≡ b → (k < n → of_sums c ps n ≡ Overflows k) → then_ask (of_sums c ps n) (of_sum n (running_sum c (number_at c n) (pos 0) ps)) ≡ Overflows k
    by true e earlier =
        let same : k ≡ n = eqb-true k n e in
        ap (λ f. then_ask f (of_sum n (running_sum c (number_at c n) (pos 0) ps))) (none_overflows c ps n (omega arith) (λ j low. some j (omega arith))) ∙ ap (of_sum n) (number_below c ps n (omega arith) ∙ ap (λ m. running_sum c (row_coef m) (pos 0) ps) (sym same) ∙ none) ∙ ap (λ m. Overflows m) (sym same)
    by false e earlier =
        ap (λ f. then_ask f (of_sum n (running_sum c (number_at c n) (pos 0) ps))) (earlier (last_or_before k n less e))

-- ---- the rows together

pub rows_overflow : (c : Rows) (ps : List Part) (sums : List (Option ℤ)) (k : ℕ) → AreSums c ps sums → IsLeastOverflowed sums (Some k) → of_rows c ps ≡ Overflows k
unfolding of_rows
rows_overflow c ps sums k are least =
    let below : k < c.columns = subst (λ (n : ℕ). k < n) are.columns_are least.0 in
    ap (λ f. then_ask (then_ask f (of_sum c.columns (running_sum c (number_at c c.columns) (pos 0) ps))) (asked 3 (is_contradiction c ps))) (first_overflows c ps k c.columns below (omega arith) (sym (are.sum k below) ∙ least.1) (λ j low none. least.2 j low (are.sum j (omega arith) ∙ none)))

none_yet : (c : Rows) (ps : List Part) (sums : List (Option ℤ)) → AreSums c ps sums → IsLeastOverflowed sums None → of_sums c ps c.columns ≡ Sound
none_yet c ps sums are least =
    none_overflows c ps c.columns (omega arith) (λ j low none. least j (subst (λ (n : ℕ). j < n) (sym are.columns_are) low) (are.sum j low ∙ none))

pub bound_overflows : (c : Rows) (ps : List Part) (sums : List (Option ℤ)) (total : Total) → AreSums c ps sums → IsLeastOverflowed sums None → AreTotals c ps total → total.bound ≡ None → of_rows c ps ≡ Overflows c.columns
unfolding of_rows
bound_overflows c ps sums total are least totals none =
    ap (λ f. then_ask (then_ask f (of_sum c.columns (running_sum c (number_at c c.columns) (pos 0) ps))) (asked 3 (is_contradiction c ps))) (none_yet c ps sums are least) ∙ ap (λ s. then_ask (of_sum c.columns s) (asked 3 (is_contradiction c ps))) (number_last c ps ∙ sym totals.bound ∙ none)

same_test : (a b : Bool) → (a ≡ true → b ≡ true) → (b ≡ true → a ≡ true) → a ≡ b
same_test true b f g = sym (f refl)
same_test false true f g = g refl
same_test false false f g = refl

zero_or_none : (sum : Option ℤ) (z : ℤ) → sum ≢ None → ((y : ℤ) → sum ≡ Some y → y ≡ z) → sum ≡ Some z
zero_or_none None z some same = absurd (some refl)
zero_or_none (Some y) z some same = ap (λ x. Some x) (same y refl)

cancel_is : (c : Rows) (ps : List Part) (sums : List (Option ℤ)) → AreSums c ps sums → IsLeastOverflowed sums None → (cancel_below c ps c.columns ≡ true) ↔ IsCleared c.columns sums
cancel_is c ps sums are least = (
  λ e. record { columns_are = are.columns_are; zeros = λ j low. zero_or_none (sum_at sums j) (pos 0) (least j (subst (λ (n : ℕ). j < n) (sym are.columns_are) low)) (λ y is. sym (from_zero c (row_coef j) ps y (sym (are.sum j low) ∙ is)) ∙ all.0 e j low) },
  λ h. all.1 (λ j low. from_zero c (row_coef j) ps (pos 0) (sym (are.sum j low) ∙ h.zeros j low)),
)
  where
    all : (cancel_below c ps c.columns ≡ true) ↔ ((j : ℕ) → j < c.columns → coef_sum c j ps ≡ pos 0)
    all = cancel_below-all c ps c.columns

pub rows_asked : (c : Rows) (ps : List Part) (sums : List (Option ℤ)) (total : Total) (bound : ℤ) (cancels : Bool) → AreSums c ps sums → IsLeastOverflowed sums None → AreTotals c ps total → total.bound ≡ Some bound → ((cancels ≡ true) ↔ IsCleared (length sums) sums) → of_rows c ps ≡ asked 3 (cancels && is_impossible bound total.strict)
unfolding of_rows
rows_asked c ps sums total bound cancels are least totals is test =
    ap (λ f. then_ask (then_ask f (of_sum c.columns (running_sum c (number_at c c.columns) (pos 0) ps))) (asked 3 (is_contradiction c ps))) (none_yet c ps sums are least) ∙ ap (λ s. then_ask (of_sum c.columns s) (asked 3 (is_contradiction c ps))) (number_last c ps ∙ sym totals.bound ∙ is) ∙ ap (λ b. asked 3 (b && is_impossible (bound_sum c ps) (some_strict c ps))) cancel_same ∙ ap (λ z. asked 3 (cancels && is_impossible z (some_strict c ps))) (from_zero c (λ row. row.bound) ps bound (sym totals.bound ∙ is)) ∙ ap (λ s. asked 3 (cancels && is_impossible bound s)) (sym totals.strict)
  where
    cancel_same : cancel_below c ps c.columns ≡ cancels
    cancel_same =
        same_test (cancel_below c ps c.columns) cancels (λ e. test.1 (subst (λ (n : ℕ). IsCleared n sums) (sym are.columns_are) ((cancel_is c ps sums are least).0 e))) (λ e. (cancel_is c ps sums are least).1 (subst (λ (n : ℕ). IsCleared n sums) are.columns_are (test.0 e)))

pub closed_cancels : (cancel impossible : Bool) → asked 3 (cancel && impossible) ≡ Sound → cancel ≡ true
closed_cancels cancel impossible e = (both_true cancel impossible (asked_sound 3 (cancel && impossible) e)).0

-- the bounds' running sum is within 128 bits, and so is passed as it is
running_within : (c : Rows) (number : LitRow → ℤ) (s : ℤ) (ps : List Part) (z : ℤ) → IsWithin s → running_sum c number s ps ≡ Some z → IsWithin z
running_within c number s [] z small e = let same : s ≡ z = cc in subst IsWithin same small
running_within c number s (p ∷ ps) z small e =
    by (fma s p.mult (number_in number (row_of c p.lit))) refl e (λ t within q. running_within c number t ps z within q)
  where
    by : (r : Option ℤ) → fma s p.mult (number_in number (row_of c p.lit)) ≡ r → option_and_then (λ t. running_sum c number t ps) r ≡ Some z → ((t : ℤ) → IsWithin t → running_sum c number t ps ≡ Some z → IsWithin z) → IsWithin z
    by None p q more = absurd (cc)
    by (Some t) q e more =
        let both = fma_some s p.mult (number_in number (row_of c p.lit)) t q in
        more t (subst IsWithin (sym both.0) both.1) e

pub rows_closed : (c : Rows) (ps : List Part) (sums : List (Option ℤ)) (total : Total) (bound : ℤ) (cancels impossible : Bool) (answer : Found) → AreSums c ps sums → IsLeastOverflowed sums None → AreTotals c ps total → total.bound ≡ Some bound → ((cancels ≡ true) ↔ IsCleared (length sums) sums) → impossible ≡ is_impossible (to_z w128 (of_z w128 bound)) total.strict → answer ≡ asked 3 (cancels && impossible) → answer ≡ of_rows c ps
rows_closed c ps sums total bound cancels impossible answer are least totals is test low e =
    e ∙ ap (λ (b : Bool). asked 3 (cancels && b)) (low ∙ ap (λ (z : ℤ). is_impossible z total.strict) (to_z-of_z w128 bound (fits_signed_from_abs w128 bound small))) ∙ sym (rows_asked c ps sums total bound cancels are least totals is test)
  where
    small : IsWithin bound
    small = running_within c (λ row. row.bound) (pos 0) ps bound (omega arith) (sym totals.bound ∙ is)

-- the terms of a form of several columns
pub far_terms : (c : Rows) (form : ℕ) (d : Form) (forms : List Form) (ts : List Term) → c.columns ≤ form → form < c.columns + length c.forms → forms ≡ c.forms → ts ≡ (get_or forms (form - c.columns) d).terms → ts ≡ terms_of c form
far_terms c form d forms ts high low same e =
    e ∙ ap (λ (fs : List Form). (get_or fs (form - c.columns) d).terms) same ∙ sym (ap (λ (b : Bool). cond b (record { column = form; coef = pos 1 } ∷ []) (option_map_or (λ f. f.terms) (slice_get c.forms (form - c.columns)) [])) beyond ∙ ap (λ (f : Option Form). option_map_or (λ f. f.terms) f []) (slice_get-get_or c.forms (form - c.columns) d (omega arith)))
  where
    beyond : nat_lt form c.columns ≡ false
    beyond = by (nat_lt form c.columns) refl
      where
        by : (b : Bool) → nat_lt form c.columns ≡ b → b ≡ false
        by true e = let less : form < c.columns = ltb-true form c.columns e in absurd (omega arith)
        by false e = refl

-- one part of the loop
pub cut_at : (parts : List Part) (i : ℕ) (d : Part) → i < length parts → drop i parts ≡ get_or parts i d ∷ drop (i + 1) parts
cut_at parts i d less = rw (add-one, drop-cons parts i d)
