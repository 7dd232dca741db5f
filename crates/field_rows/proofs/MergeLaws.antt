-- Two rows walked side by side: what is done below a variable, and what is left from it on.
use Rattle.std.proofs.Common.{◌≡◌, ℕ, ◌+◌, ◌<◌, ◌≤◌, ◌^◌, min, List, [], ◌∷◌, length, Option, None, Some, ◌⊎◌, inl, inr, pos, refl, sym, ap, subst, ◌∙◌, arith, lit≤}
use Rattle.std.proofs.lemmas.Bool.{eq-eqb, ne_eqb, cases_lt}
use Rattle.ordered_field.specs.Rational.{ℚ, whole}
use Rattle.field_rows.specs.Rows.{coefficient, IsRow, IsRowWithin}
use Rattle.field_rows.specs.Merging.{front, lesser, number_in_front, behind, number_or_zero, IsAppended}
use Rattle.field_rows.specs.declared.row.Entry.{Entry}
use Rattle.field_rows.proofs.SumLaws.{put-here, put-elsewhere, same_or_apart}
use Rattle.field_rows.proofs.RowLaws.{coefficient-none, coefficient-here, coefficient-there, IsRowWithin-earlier, IsRowWithin-later, coefficient-before, coefficient-past, IsRowWithin-append, coefficient-append}

-- ---- the variable in front

-- both rows start at v or behind it
pub record StartAt {F : Type 0} (value : F → ℚ) (from to v : ℕ) (left right : List (Entry F)) : Type 0 where
  pub above : from ≤ v
  pub below : v < to
  pub left_row : IsRowWithin value v to left
  pub right_row : IsRowWithin value v to right

pub start_at : {F : Type 0} (value : F → ℚ) (from to v : ℕ) (left right : List (Entry F)) → lesser (front left) (front right) ≡ Some v → IsRowWithin value from to left → IsRowWithin value from to right → StartAt value from to v left right
start_at value from to v [] [] is l r = absurd (cc)
start_at value from to v [] (f ∷ fs) is l r =
    let same : f.variable ≡ v = cc in
    record { above = omega (arith, r.0); below = omega (arith, r.1); left_row = tt; right_row = (omega arith, r.1, r.2, r.3) }
start_at value from to v (e ∷ es) [] is l r =
    let same : e.variable ≡ v = cc in
    record { above = omega (arith, l.0); below = omega (arith, l.1); left_row = (omega arith, l.1, l.2, l.3); right_row = tt }
start_at value from to v (e ∷ es) (f ∷ fs) is l r =
    let same : min e.variable f.variable ≡ v = cc in
    record {
      above = omega (arith, l.0, r.0);
      below = omega (arith, l.1, r.1);
      left_row = (omega arith, l.1, l.2, l.3);
      right_row = (omega arith, r.1, r.2, r.3);
    }

-- ---- behind the variable in front

behind-same : {F : Type 0} (e : Entry F) (es : List (Entry F)) (v : ℕ) → v ≡ e.variable → behind (e ∷ es) v ≡ es
behind-same e es v here = rw (eq-eqb v e.variable here) refl

behind-apart : {F : Type 0} (e : Entry F) (es : List (Entry F)) (v : ℕ) → (v ≡ e.variable → ⊥) → behind (e ∷ es) v ≡ e ∷ es
behind-apart e es v apart = rw (ne_eqb v e.variable apart) refl

pub record Behind {F : Type 0} (value : F → ℚ) (to v : ℕ) (row rest : List (Entry F)) : Type 0 where
  pub is_row : IsRowWithin value (v + 1) to rest
  pub same : (u : ℕ) → v < u → coefficient value rest u ≡ coefficient value row u

pub behind_is : {F : Type 0} (value : F → ℚ) (to v : ℕ) (row : List (Entry F)) → IsRowWithin value v to row → Behind value to v row (behind row v)
behind_is value to v [] r = record { is_row = tt; same = λ u more. refl }
behind_is value to v (e ∷ es) r = by_place (same_or_apart e.variable v)
  where
    by_place : (v ≡ e.variable) ⊎ (v ≡ e.variable → ⊥) → Behind value to v (e ∷ es) (behind (e ∷ es) v)
    by_place (inl here) = subst (Behind value to v (e ∷ es)) (sym (behind-same e es v here)) (record {
      is_row = IsRowWithin-earlier value (e.variable + 1) (v + 1) to es (omega arith) r.3;
      same = λ u more. sym (coefficient-there value e es u (λ same. absurd (omega arith)));
    })
    by_place (inr apart) = subst (Behind value to v (e ∷ es)) (sym (behind-apart e es v apart)) (record {
      is_row = (omega (arith, r.0), r.1, r.2, r.3);
      same = λ u more. refl;
    })

pub number_in_front-is : {F : Type 0} (value : F → ℚ) (to v : ℕ) (row : List (Entry F)) → IsRowWithin value v to row → number_or_zero value (number_in_front row v) ≡ coefficient value row v
number_in_front-is value to v [] r = sym (coefficient-none value v)
number_in_front-is value to v (e ∷ es) r = by_place (same_or_apart e.variable v)
  where
    by_place : (v ≡ e.variable) ⊎ (v ≡ e.variable → ⊥) → number_or_zero value (number_in_front (e ∷ es) v) ≡ coefficient value (e ∷ es) v
    by_place (inl here) = rw (eq-eqb v e.variable here) (sym (coefficient-here value e es v here))
    by_place (inr apart) =
        rw (ne_eqb v e.variable apart) (sym (coefficient-before value e.variable to (e ∷ es) v (omega arith, r.1, r.2, r.3) (omega (arith, r.0))))

-- a number in front isn't zero
pub number_in_front-some : {F : Type 0} (value : F → ℚ) (from to v : ℕ) (row : List (Entry F)) (x : F) → IsRowWithin value from to row → number_in_front row v ≡ Some x → value x ≡ whole (pos 0) → ⊥
number_in_front-some value from to v [] x r is none = absurd (cc)
number_in_front-some value from to v (e ∷ es) x r is none = by_place (same_or_apart e.variable v)
  where
    by_place : (v ≡ e.variable) ⊎ (v ≡ e.variable → ⊥) → ⊥
    by_place (inl here) =
        let found : Some e.number ≡ Some x = rw (eq-eqb v e.variable here) at is in
        let same : e.number ≡ x = cc in
        r.2 (ap value same ∙ none)
    by_place (inr apart) = let found : None ≡ Some x = rw (ne_eqb v e.variable apart) at is in absurd (cc)

behind-shorter : {F : Type 0} (row : List (Entry F)) (v : ℕ) → length (behind row v) ≤ length row
behind-shorter [] v = omega arith
behind-shorter (e ∷ es) v = by_place (same_or_apart e.variable v)
  where
    by_place : (v ≡ e.variable) ⊎ (v ≡ e.variable → ⊥) → length (behind (e ∷ es) v) ≤ length (e ∷ es)
    by_place (inl here) = rw (behind-same e es v here) (omega arith)
    by_place (inr apart) = rw (behind-apart e es v apart) (omega arith)

rests_behind_shorter : {F : Type 0} (v : ℕ) (left right : List (Entry F)) → lesser (front left) (front right) ≡ Some v → length (behind left v) + length (behind right v) < length left + length right
rests_behind_shorter v [] [] is = absurd (cc)
rests_behind_shorter v [] (f ∷ fs) is = let same : v ≡ f.variable = cc in rw (behind-same f fs v same) (omega arith)
rests_behind_shorter v (e ∷ es) [] is = let same : v ≡ e.variable = cc in rw (behind-same e es v same) (omega arith)
rests_behind_shorter v (e ∷ es) (f ∷ fs) is = by_place (cc) (same_or_apart e.variable v)
  where
    by_place : min e.variable f.variable ≡ v → (v ≡ e.variable) ⊎ (v ≡ e.variable → ⊥) → length (behind (e ∷ es) v) + length (behind (f ∷ fs) v) < length (e ∷ es) + length (f ∷ fs)
    by_place least (inl here) =
        let shorter : length (behind (f ∷ fs) v) ≤ length (f ∷ fs) = behind-shorter (f ∷ fs) v in rw (behind-same e es v here) (omega arith)
    by_place least (inr apart) =
        let shorter : length (behind (e ∷ es) v) ≤ length (e ∷ es) = behind-shorter (e ∷ es) v in
        let same : v ≡ f.variable = omega arith in
        rw (behind-same f fs v same) (omega arith)

pub rests_shorter : {F : Type 0} (v : ℕ) (left right left' right' : List (Entry F)) → lesser (front left) (front right) ≡ Some v → left' ≡ behind left v → right' ≡ behind right v → length left' + length right' < length left + length right
rests_shorter v left right left' right' is rest_left rest_right = rw (rest_left, rest_right) (rests_behind_shorter v left right is)

-- ---- the walk

-- each coefficient of `sum` below `from` is as Done says, and the rows are as c and d from there on
pub record Merging {F : Type 0} (value : F → ℚ) (Done : ℕ → ℚ → Type 0) (c d : ℕ → ℚ) (from : ℕ) (sum left right : List (Entry F)) : Type 0 where
  pub done : (v : ℕ) → v < from → Done v (coefficient value sum v)
  pub within : from ≤ 2 ^ 32
  pub sum_row : IsRowWithin value 0 from sum
  pub left_row : IsRowWithin value from (2 ^ 32) left
  pub right_row : IsRowWithin value from (2 ^ 32) right
  pub left_same : (v : ℕ) → from ≤ v → coefficient value left v ≡ c v
  pub right_same : (v : ℕ) → from ≤ v → coefficient value right v ≡ d v

pub Merging-init : {F : Type 0} (value : F → ℚ) (Done : ℕ → ℚ → Type 0) (c d : ℕ → ℚ) (sum left right : List (Entry F)) → sum ≡ [] → IsRow value left → IsRow value right → ((v : ℕ) → coefficient value left v ≡ c v) → ((v : ℕ) → coefficient value right v ≡ d v) → Merging value Done c d 0 sum left right
unfolding IsRow
Merging-init value Done c d sum left right empty l r left_is right_is = record {
  done = λ v below. absurd (omega arith);
  within = lit≤ tt;
  sum_row = subst (IsRowWithin value 0 0) (sym empty) tt;
  left_row = l;
  right_row = r;
  left_same = λ v above. left_is v;
  right_same = λ v above. right_is v;
}

-- the row with one more entry
pub record Appended {F : Type 0} (value : F → ℚ) (from v : ℕ) (x : F) (old new : List (Entry F)) : Type 0 where
  pub is_row : IsRowWithin value 0 (v + 1) new
  pub before : (u : ℕ) → u < v → coefficient value new u ≡ coefficient value old u
  pub here : coefficient value new v ≡ value x

appended : {F : Type 0} (value : F → ℚ) (from v : ℕ) (x : F) (old new : List (Entry F)) → IsRowWithin value 0 from old → from ≤ v → IsAppended value old v x new → Appended value from v x old new
appended value from v x old new row above (inl h) = subst (Appended value from v x old) (sym h.1) (record {
  is_row = IsRowWithin-later value 0 from (v + 1) old (omega arith) row;
  before = λ u below. refl;
  here = coefficient-past value 0 from old v row above ∙ sym h.0;
})
appended value from v x old new row above (inr h) = subst (Appended value from v x old) (sym h.1) (record {
  is_row = IsRowWithin-append value 0 from old v x row (omega arith) above h.0;
  before = λ u below. coefficient-append value 0 from old v x u row above ∙ put-elsewhere v u _ _ (λ same. absurd (omega arith));
  here = coefficient-append value 0 from old v x v row above ∙ put-here v v _ _ refl;
})

pub Merging-more : {F : Type 0} (value : F → ℚ) (Done : ℕ → ℚ → Type 0) (c d : ℕ → ℚ) (from : ℕ) (sum left right : List (Entry F)) (v : ℕ) (x : F) (sum' left' right' : List (Entry F)) → Merging value Done c d from sum left right → lesser (front left) (front right) ≡ Some v → ((u : ℕ) → c u ≡ whole (pos 0) → d u ≡ whole (pos 0) → Done u (whole (pos 0))) → Done v (value x) → IsAppended value sum v x sum' → left' ≡ behind left v → right' ≡ behind right v → Merging value Done c d (v + 1) sum' left' right'
Merging-more value Done c d from sum left right v x sum' left' right' m is quiet now added rest_left rest_right = record {
  done = λ u below. by_place u below (same_or_apart v u);
  within = omega (arith, at.below);
  sum_row = new.is_row;
  left_row = subst (IsRowWithin value (v + 1) (2 ^ 32)) (sym rest_left) behind_left.is_row;
  right_row = subst (IsRowWithin value (v + 1) (2 ^ 32)) (sym rest_right) behind_right.is_row;
  left_same = λ u above. ap (λ r. coefficient value r u) rest_left ∙ behind_left.same u (omega arith) ∙ m.left_same u (omega (arith, at.above));
  right_same = λ u above. ap (λ r. coefficient value r u) rest_right ∙ behind_right.same u (omega arith) ∙ m.right_same u (omega (arith, at.above));
}
  where
    at : StartAt value from (2 ^ 32) v left right
    at = start_at value from (2 ^ 32) v left right is m.left_row m.right_row

    behind_left : Behind value (2 ^ 32) v left (behind left v)
    behind_left = behind_is value (2 ^ 32) v left at.left_row

    behind_right : Behind value (2 ^ 32) v right (behind right v)
    behind_right = behind_is value (2 ^ 32) v right at.right_row

    new : Appended value from v x sum sum'
    new = appended value from v x sum sum' m.sum_row at.above added

    earlier : (u : ℕ) → u < v → (u < from) ⊎ (from ≤ u) → Done u (coefficient value sum' u)
    earlier u below (inl before) = subst (Done u) (sym (new.before u below)) (m.done u before)
    earlier u below (inr after) =
        subst (Done u) (sym (new.before u below ∙ coefficient-past value 0 from sum u m.sum_row after))
        (quiet u (sym (m.left_same u after) ∙ coefficient-before value v (2 ^ 32) left u at.left_row below) (sym (m.right_same u after) ∙ coefficient-before value v (2 ^ 32) right u at.right_row below))

    by_place : (u : ℕ) → u < v + 1 → (u ≡ v) ⊎ (u ≡ v → ⊥) → Done u (coefficient value sum' u)
    by_place u below (inl here) =
        subst (λ w. Done w (coefficient value sum' w)) (sym here) (subst (Done v) (sym new.here) now)
    by_place u below (inr apart) = earlier u (omega arith) (cases_lt u from)

-- the numbers in front are those of the two rows
pub record InFront {F : Type 0} (value : F → ℚ) (c d : ℕ → ℚ) (v : ℕ) (a b : Option F) : Type 0 where
  pub left : number_or_zero value a ≡ c v
  pub right : number_or_zero value b ≡ d v

pub Merging-front : {F : Type 0} (value : F → ℚ) (Done : ℕ → ℚ → Type 0) (c d : ℕ → ℚ) (from : ℕ) (sum left right : List (Entry F)) (v : ℕ) (a b : Option F) → Merging value Done c d from sum left right → lesser (front left) (front right) ≡ Some v → a ≡ number_in_front left v → b ≡ number_in_front right v → InFront value c d v a b
Merging-front value Done c d from sum left right v a b m is first second =
    let at : StartAt value from (2 ^ 32) v left right = start_at value from (2 ^ 32) v left right is m.left_row m.right_row in
    record {
      left = ap (number_or_zero value) first ∙ number_in_front-is value (2 ^ 32) v left at.left_row ∙ m.left_same v at.above;
      right = ap (number_or_zero value) second ∙ number_in_front-is value (2 ^ 32) v right at.right_row ∙ m.right_same v at.above;
    }

-- at the end of both rows every coefficient is done
pub record Merged {F : Type 0} (value : F → ℚ) (Done : ℕ → ℚ → Type 0) (sum : List (Entry F)) : Type 0 where
  pub is_row : IsRow value sum
  pub done : (v : ℕ) → Done v (coefficient value sum v)

at_end : {F : Type 0} (left right : List (Entry F)) → lesser (front left) (front right) ≡ None → (left ≡ []) × (right ≡ [])
at_end [] [] is = (refl, refl)
at_end [] (f ∷ fs) is = absurd (cc)
at_end (e ∷ es) [] is = absurd (cc)
at_end (e ∷ es) (f ∷ fs) is = absurd (cc)

pub Merging-end : {F : Type 0} (value : F → ℚ) (Done : ℕ → ℚ → Type 0) (c d : ℕ → ℚ) (from : ℕ) (sum left right : List (Entry F)) → Merging value Done c d from sum left right → lesser (front left) (front right) ≡ None → ((u : ℕ) → c u ≡ whole (pos 0) → d u ≡ whole (pos 0) → Done u (whole (pos 0))) → Merged value Done sum
unfolding IsRow
Merging-end value Done c d from sum left right m is quiet = record {
  is_row = IsRowWithin-later value 0 from (2 ^ 32) sum m.within m.sum_row;
  done = λ v. by_place v (cases_lt v from);
}
  where
    ended : (left ≡ []) × (right ≡ [])
    ended = at_end left right is

    by_place : (v : ℕ) → (v < from) ⊎ (from ≤ v) → Done v (coefficient value sum v)
    by_place v (inl below) = m.done v below
    by_place v (inr above) =
        subst (Done v) (sym (coefficient-past value 0 from sum v m.sum_row above))
        (quiet v (sym (m.left_same v above) ∙ ap (λ r. coefficient value r v) ended.0 ∙ coefficient-none value v) (sym (m.right_same v above) ∙ ap (λ r. coefficient value r v) ended.1 ∙ coefficient-none value v))
