-- The limits of a conflict are those of told literals, and their weighed sum is a contradiction of the columns.
use Rattle.std.proofs.Common.{◌≡◌, ◌↔◌, ℕ, zero, suc, ◌+◌, ◌<◌, ◌≤◌, cond, List, [], ◌∷◌, map, length, Bool, true, false, not, All, Option, None, Some, slice_get, ◌⊎◌, inl, inr, pos, refl, sym, ap, subst, ◌∙◌, arith}
use Rattle.std.specs.Option.{IsSomeAnd, option_map_or}
use Rattle.std.specs.Prelude.{IsSome}
use Rattle.std.proofs.lemmas.Bool.{cases_lt}
use Rattle.ordered_field.specs.Rational.{ℚ, fraction, whole, by_one, by_two, ◌+ℚ◌, ◌*ℚ◌, neg_ℚ}
use Rattle.ordered_field.specs.Order.{◌<ℚ◌}
use Rattle.ordered_field.specs.Delta.{DeltaValue, delta_sum, delta_scaled, ◌<δ◌}
use Rattle.ordered_field.specs.LowestTerms.{Ratio, InLowestTerms}
use Rattle.ordered_field.proofs.DeltaLaws.{same_delta}
use Rattle.ordered_field.proofs.DeltaOrder.{delta_at_most-sum}
use Rattle.ordered_field.proofs.Fractions.{whole-<ℚ}
use Rattle.ordered_field.proofs.OrderFacts.{<ℚ-apart}
use Rattle.ordered_field.proofs.Points.{equal_1, equal_2, same_point}
use Rattle.ordered_field.proofs.RingLaws.{+ℚ-neg}
use Rattle.std.proofs.lemmas.Int.{ints}
use Rattle.tableau.specs.Tables.{Table, Meets}
use Rattle.farkas_cert.specs.declared.literals.Lit.{Lit}
use Rattle.clause_form.specs.Derivations.{Rows}
use Rattle.simplex.specs.declared.limits.Limit.{Limit}
use Rattle.simplex.specs.declared.outcome.Bound.{Bound}
use Rattle.simplex.specs.declared.outcome.Share.{Share}
use Rattle.simplex.specs.Bounds.{IsLimitOf, both_limits, with_one}
use Rattle.simplex.specs.Limits.{in_force, Excludes}
use Rattle.simplex.specs.Moves.{delta_opposite}
use Rattle.simplex.specs.Shares.{Weight, weighed_numbers, AreInForce, IsContradiction, IsHolder, AreHolders, AreShares}
use Rattle.simplex.proofs.LimitLaws.{in_force-side}
use Rattle.lra_theory.specs.Clashes.{AreOfTold, ArePieces, IsFarkas, IsPiece, IsTold, at_column, piece_of}
use Rattle.lra_theory.specs.Forms.{MeetsForms}
use Rattle.lra_theory.specs.Literals.{bound_of, den_of, lit_at, HasLimit}
use Rattle.lra_theory.specs.Soundness.{IsGood}
use Rattle.lra_theory.proofs.FormLaws.{column-meets}
use Rattle.lra_theory.proofs.GivenLaws.{Each, Each-in_force, IsOfTold}

-- ---- of a row

-- the variables of a row's holders ascend, and are below the number of variables
holders_few : (limits : List (Limit DeltaValue)) (upper : Bool) (row : ℕ → ℚ) (n from : ℕ) (ws : List Weight) → ((v : ℕ) → n ≤ v → row v ≡ whole (pos 0)) → AreHolders limits upper row from ws → length ws + from ≤ n ⊎ (ws ≡ [])
holders_few limits upper row n from [] beyond are = inr refl
holders_few limits upper row n from (w ∷ ws) beyond (v, least, none, holder, are) = inl (by (cases_lt v n) (holders_few limits upper row n (v + 1) ws beyond are))
  where
    some : IsHolder limits upper v (row v) w → row v ≡ whole (pos 0) → ⊥
    some (inl h) e = <ℚ-apart (whole (pos 0)) (row v) h.0 (sym e)
    some (inr h) e = <ℚ-apart (row v) (whole (pos 0)) h.0 e

    by : (v < n) ⊎ (n ≤ v) → (length ws + (v + 1) ≤ n) ⊎ (ws ≡ []) → suc (length ws) + from ≤ n
    by (inl less) (inl few) = omega arith
    by (inl less) (inr nil) = let none_left : length ws ≡ 0 = ap length nil in omega arith
    by (inr most) few = absurd (some holder (beyond v most))

pub holders_count : (limits : List (Limit DeltaValue)) (upper : Bool) (row : ℕ → ℚ) (n : ℕ) (ws : List Weight) → ((v : ℕ) → n ≤ v → row v ≡ whole (pos 0)) → AreHolders limits upper row 0 ws → length ws ≤ n
holders_count limits upper row n ws beyond are = by (holders_few limits upper row n 0 ws beyond are)
  where
    by : (length ws + 0 ≤ n) ⊎ (ws ≡ []) → length ws ≤ n
    by (inl few) = omega arith
    by (inr nil) = let none : length ws ≡ 0 = ap length nil in omega arith

pub of_told-in_force : (rows : Rows) (told : List Lit) (limits : List (Limit DeltaValue)) (ws : List Weight) → Each (IsOfTold rows told) limits → AreInForce limits ws → AreOfTold rows told ws
of_told-in_force rows told limits [] each are = tt
of_told-in_force rows told limits (w ∷ ws) each (positive, held, are) =
    (positive, Each-in_force (IsOfTold rows told) w.limit.upper w.limit.var limits w.limit each held, of_told-in_force rows told limits ws each are)

pub farkas_of_row : {F : Type 0} (value : F → ℚ) (rows : Rows) (told : List Lit) (t : Table F) (limits : List (Limit DeltaValue)) (ws : List Weight) → IsGood rows → ((x : ℕ → ℚ) → Meets value t x ↔ MeetsForms rows x) → Each (IsOfTold rows told) limits → length ws ≤ 2049 → IsContradiction value t limits ws → IsFarkas rows told ws
farkas_of_row value rows told t limits ws good exact each few contradiction = record {
  few = few;
  of_told = of_told-in_force rows told limits ws each contradiction.in_force;
  cancels = λ column within. contradiction.cancels (at_column rows column) ((exact (at_column rows column)).1 (column-meets rows column good));
  below_zero = contradiction.below_zero;
}

-- ---- of two limits

one_some : whole (pos 0) <ℚ whole (pos 1)
one_some = whole-<ℚ (pos 0) (pos 1) (omega (arith, ints))

none : (a : ℚ) → whole (pos 1) *ℚ neg_ℚ a +ℚ (whole (pos 1) *ℚ a +ℚ whole (pos 0)) ≡ whole (pos 0)
unfolding ◌+ℚ◌ ◌*ℚ◌ neg_ℚ by_two by_one whole fraction
none = equal_1 (λ a. whole (pos 1) *ℚ neg_ℚ a +ℚ (whole (pos 1) *ℚ a +ℚ whole (pos 0))) (λ a. whole (pos 0)) (λ a. same_point _ _ (omega arith))

left : (a b : ℚ) → whole (pos 1) *ℚ neg_ℚ a +ℚ (whole (pos 1) *ℚ b +ℚ whole (pos 0)) ≡ b +ℚ neg_ℚ a
unfolding ◌+ℚ◌ ◌*ℚ◌ neg_ℚ by_two by_one whole fraction
left = equal_2 (λ a b. whole (pos 1) *ℚ neg_ℚ a +ℚ (whole (pos 1) *ℚ b +ℚ whole (pos 0))) (λ a b. b +ℚ neg_ℚ a) (λ a b. same_point _ _ (omega arith))

pair_cancels : (a b : ℚ) → a ≡ b → whole (pos 1) *ℚ neg_ℚ a +ℚ (whole (pos 1) *ℚ b +ℚ whole (pos 0)) ≡ whole (pos 0)
pair_cancels a b e = ap (λ y. whole (pos 1) *ℚ neg_ℚ a +ℚ (whole (pos 1) *ℚ y +ℚ whole (pos 0))) (sym e) ∙ none a

-- the opposite of a lower limit and a lesser upper one
pair_below : (low high : DeltaValue) → high <δ low → delta_sum (delta_scaled (whole (pos 1)) (delta_opposite low)) (delta_sum (delta_scaled (whole (pos 1)) high) (record { real = whole (pos 0); inf = whole (pos 0) })) <δ record { real = whole (pos 0); inf = whole (pos 0) }
pair_below low high h =
    subst (λ x. x <δ record { real = whole (pos 0); inf = whole (pos 0) }) (sym (same_delta _ _ (left low.real high.real) (left low.inf high.inf))) (subst (λ y. delta_sum high (delta_opposite low) <δ y) (same_delta _ _ (+ℚ-neg low.real) (+ℚ-neg low.inf)) (delta_at_most-sum low high (delta_opposite low) ∙ h))

-- both limits, the lower one first
pub record IsPair (rows : Rows) (told : List Lit) (low high : Limit DeltaValue) : Type 0 where
  pub lower : low.upper ≡ false
  pub upper : high.upper ≡ true
  pub var : low.var ≡ high.var
  pub below : high.at <δ low.at
  pub low_told : IsOfTold rows told low
  pub high_told : IsOfTold rows told high

farkas_of_pair : (rows : Rows) (told : List Lit) (low high : Limit DeltaValue) → IsPair rows told low high → IsFarkas rows told (with_one low ∷ with_one high ∷ [])
farkas_of_pair rows told low high p = record {
  few = omega arith;
  of_told = (one_some, p.low_told, (one_some, p.high_told, tt));
  cancels = λ column within. variables_cancel (at_column rows column);
  below_zero = numbers;
}
  where
    variables_cancel : (x : ℕ → ℚ) → whole (pos 1) *ℚ cond low.upper (x low.var) (neg_ℚ (x low.var)) +ℚ (whole (pos 1) *ℚ cond high.upper (x high.var) (neg_ℚ (x high.var)) +ℚ whole (pos 0)) ≡ whole (pos 0)
    variables_cancel x =
        ap (λ u. whole (pos 1) *ℚ cond u (x low.var) (neg_ℚ (x low.var)) +ℚ (whole (pos 1) *ℚ cond high.upper (x high.var) (neg_ℚ (x high.var)) +ℚ whole (pos 0))) p.lower
        ∙ ap (λ u. whole (pos 1) *ℚ neg_ℚ (x low.var) +ℚ (whole (pos 1) *ℚ cond u (x high.var) (neg_ℚ (x high.var)) +ℚ whole (pos 0))) p.upper
        ∙ pair_cancels (x low.var) (x high.var) (ap x p.var)

    numbers : weighed_numbers (with_one low ∷ with_one high ∷ []) <δ record { real = whole (pos 0); inf = whole (pos 0) }
    numbers =
        let first : weighed_numbers (with_one low ∷ with_one high ∷ []) ≡ delta_sum (delta_scaled (whole (pos 1)) (delta_opposite low.at)) (delta_sum (delta_scaled (whole (pos 1)) high.at) (record { real = whole (pos 0); inf = whole (pos 0) })) =
        ap (λ u. delta_sum (delta_scaled (whole (pos 1)) (cond u low.at (delta_opposite low.at))) (delta_sum (delta_scaled (whole (pos 1)) (cond high.upper high.at (delta_opposite high.at))) (record { real = whole (pos 0); inf = whole (pos 0) }))) p.lower
        ∙ ap (λ u. delta_sum (delta_scaled (whole (pos 1)) (delta_opposite low.at)) (delta_sum (delta_scaled (whole (pos 1)) (cond u high.at (delta_opposite high.at))) (record { real = whole (pos 0); inf = whole (pos 0) }))) p.upper in
        subst (λ x. x <δ record { real = whole (pos 0); inf = whole (pos 0) }) (sym first) (pair_below low.at high.at p.below)

pub farkas_of_opposed : (rows : Rows) (told : List Lit) (limits : List (Limit DeltaValue)) (limit other : Limit DeltaValue) → in_force (not limit.upper) limit.var limits ≡ Some other → Excludes limit.upper limit.at other.at → IsOfTold rows told limit → IsOfTold rows told other → IsFarkas rows told (both_limits limit other)
farkas_of_opposed rows told limits limit other held excludes own others = by limit.upper refl excludes
  where
    side : (other.upper ≡ not limit.upper) × (limit.var ≡ other.var)
    side = in_force-side (not limit.upper) limit.var limits other held

    by : (u : Bool) → limit.upper ≡ u → Excludes u limit.at other.at → IsFarkas rows told (cond u (with_one other ∷ with_one limit ∷ []) (with_one limit ∷ with_one other ∷ []))
    by true e x = farkas_of_pair rows told other limit (record { lower = side.0 ∙ ap not e; upper = e; var = sym side.1; below = x; low_told = others; high_told = own })
    by false e x = farkas_of_pair rows told limit other (record { lower = e; upper = side.0 ∙ ap not e; var = side.1; below = x; low_told = own; high_told = others })

-- ---- the shares

lit_at-found : (told : List Lit) (k : ℕ) (l : Lit) → slice_get told k ≡ Some l → lit_at told k ≡ l
lit_at-found [] k l some = absurd (cc)
lit_at-found (m ∷ ms) zero l some = cc
lit_at-found (m ∷ ms) (suc k) l some = lit_at-found ms k l some

found-below : (told : List Lit) (k : ℕ) (l : Lit) → slice_get told k ≡ Some l → k < length told
found-below [] k l some = absurd (cc)
found-below (m ∷ ms) zero l some = omega arith
found-below (m ∷ ms) (suc k) l some = let h = found-below ms k l some in omega arith

bound_some : (rows : Rows) (position : ℕ) (l : Lit) (limit : Limit DeltaValue) → HasLimit rows position l limit → (b : Bound) × (bound_of rows l ≡ Some b)
bound_some rows position l limit has = by (bound_of rows l) refl has
  where
    by : (o : Option Bound) → bound_of rows l ≡ o → IsSomeAnd o (λ b. IsLimitOf b position limit) → (b : Bound) × (bound_of rows l ≡ Some b)
    by None e none = absurd none
    by (Some b) e is = (b, e)

abbrev pub told_share : {F : Type 0} → Rows → List Lit → Weight → Share F → Type 0
told_share rows told w s = IsOfTold rows told w.limit × (s.tag ≡ w.limit.tag)

share-told : {F : Type 0} (rows : Rows) (told : List Lit) (w : Weight) (s : Share F) → IsOfTold rows told w.limit → s.tag ≡ w.limit.tag → IsTold rows told s
share-told rows told w s (l, (at, has)) tag =
    let here : slice_get told s.tag ≡ Some l = ap (λ k. slice_get told k) tag ∙ at in
    let b = bound_some rows w.limit.tag l w.limit has in
    record {
      within = found-below told s.tag l here;
      bound = subst (λ o. IsSome o) (sym (ap (bound_of rows) (lit_at-found told s.tag l here) ∙ b.1)) refl;
    }

pub shares_told : {F : Type 0} (value : F → ℚ) (rows : Rows) (told : List Lit) (ws : List Weight) (ss : List (Share F)) → AreShares value ws ss → AreOfTold rows told ws → All (IsTold rows told) ss
shares_told value rows told [] [] are of i d within = absurd (omega arith)
shares_told value rows told [] (s ∷ ss) are of i d within = absurd are
shares_told value rows told (w ∷ ws) [] are of i d within = absurd are
shares_told value rows told (w ∷ ws) (s ∷ ss) are of zero d within = share-told rows told w s of.1 are.0
shares_told value rows told (w ∷ ws) (s ∷ ss) are of (suc i) d within =
    shares_told value rows told ws ss are.2 of.2 i d (omega arith)

pub shares_count : {F : Type 0} (value : F → ℚ) (ws : List Weight) (ss : List (Share F)) → AreShares value ws ss → length ss ≡ length ws
shares_count value [] [] are = refl
shares_count value [] (s ∷ ss) are = absurd are
shares_count value (w ∷ ws) [] are = absurd are
shares_count value (w ∷ ws) (s ∷ ss) are = ap (λ n. suc n) (shares_count value ws ss are.2)

-- the pieces of the shares are those of the weights
module _ {F : Type 0} (pair : F → Ratio) (value : F → ℚ) (meaning : (x : F) → InLowestTerms (pair x) (value x)) (rows : Rows) (told : List Lit) where
  piece-is : (w : Weight) (s : Share F) → IsOfTold rows told w.limit → s.tag ≡ w.limit.tag → value s.mult ≡ w.factor → IsPiece rows told w (piece_of pair rows told s)
  piece-is w s (l, (at, has)) tag mult =
      let here : slice_get told s.tag ≡ Some l = ap (λ k. slice_get told k) tag ∙ at in
      let same : lit_at told s.tag ≡ l = lit_at-found told s.tag l here in
      let b = bound_some rows w.limit.tag l w.limit has in
      let bound : bound_of rows (lit_at told s.tag) ≡ Some b.0 = ap (bound_of rows) same ∙ b.1 in
      record {
        told_at = at ∙ ap (λ k. Some k) (sym same);
        factor = record { ratio = pair s.mult; num = refl; den = refl; lowest = subst (λ x. InLowestTerms (pair s.mult) x) mult (meaning s.mult) };
        den = subst (λ o. IsSomeAnd o (λ b. den_of rows (lit_at told s.tag) ≡ b.den)) (sym bound) (ap (λ o. option_map_or (λ b. b.den) o (pos 1)) bound);
      }

  pub pieces-are : (ws : List Weight) (ss : List (Share F)) → AreShares value ws ss → AreOfTold rows told ws → ArePieces rows told ws (map (piece_of pair rows told) ss)
  pieces-are [] [] are of = tt
  pieces-are [] (s ∷ ss) are of = absurd are
  pieces-are (w ∷ ws) [] are of = absurd are
  pieces-are (w ∷ ws) (s ∷ ss) are of = (piece-is w s of.1 are.0 are.1, pieces-are ws ss are.2 of.2)
