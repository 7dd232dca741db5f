-- A violated variable that can't be helped: the limits of its row contradict, as in Farkas' lemma.
use Rattle.std.proofs.Common.{◌≡◌, ℕ, ◌+◌, ◌<◌, ◌≤◌, Bool, true, false, not, cond, List, [], ◌∷◌, ◌++◌, Option, None, Some, ◌⊎◌, inl, inr, pos, refl, sym, ap, subst, ◌∙◌, arith}
use Rattle.std.specs.Option.{IfSome, IsSomeAnd}
use Rattle.ordered_field.specs.Rational.{ℚ, whole, by_one, by_two, ◌+ℚ◌, ◌*ℚ◌, neg_ℚ}
use Rattle.ordered_field.specs.Order.{◌≤ℚ◌, ◌<ℚ◌}
use Rattle.ordered_field.specs.Delta.{DeltaValue, delta_at_most, delta_sum, delta_scaled, ◌≤δ◌, ◌<δ◌}
use Rattle.ordered_field.proofs.Points.{same_point, equal_1, equal_2}
use Rattle.ordered_field.proofs.RingLaws.{+ℚ_comm, +ℚ-neg, zero-+ℚ, one-*ℚ, neg_ℚ-neg_ℚ, neg_ℚ-+ℚ, neg_ℚ-*ℚ, *ℚ-neg_ℚ}
use Rattle.ordered_field.proofs.OrderLaws.{<ℚ-≤ℚ}
use Rattle.ordered_field.proofs.OrderFacts.{neg_ℚ-zero, neg_ℚ-positive}
use Rattle.ordered_field.proofs.DeltaLaws.{same_delta, delta_scaled-one}
use Rattle.ordered_field.proofs.DeltaOrder.{≤δ_refl, ≤δ-<δ_trans, delta_at_most-sum, delta_sum-≤δ, delta_scaled-≤δ}
use Rattle.field_rows.specs.Rows.{coefficient, IsRowWithin}
use Rattle.field_rows.specs.declared.row.Entry.{Entry}
use Rattle.field_rows.proofs.RowLaws.{coefficient-none, coefficient-here, coefficient-there, coefficient-before}
use Rattle.tableau.specs.Tables.{Table, variables, is_basic, entry, Meets, IsTable}
use Rattle.simplex.specs.declared.limits.Limit.{Limit}
use Rattle.simplex.specs.Limits.{in_force, IsViolated, MayRise, MayFall}
use Rattle.simplex.specs.Corners.{Helps}
use Rattle.simplex.specs.Moves.{delta_opposite}
use Rattle.simplex.specs.Shares.{Weight, weighed_variables, weighed_numbers, AreInForce, IsHolder, AreHolders}
use Rattle.simplex.specs.States.{zero_delta}
use Rattle.simplex.proofs.LimitLaws.{in_force-side, if_some-at, ≤δ_from_not_>}
use Rattle.simplex.proofs.RowSums.{entries_value}

-- the weights of a row's holders, entry by entry
abbrev pub EachHolder : {F : Type 0} → (F → ℚ) → List (Limit DeltaValue) → Bool → List (Entry F) → List Weight → Type 0
EachHolder value limits upper [] [] = Unit {0}
EachHolder value limits upper [] (w ∷ ws) = ⊥
EachHolder value limits upper (e ∷ es) [] = ⊥
EachHolder value limits upper (e ∷ es) (w ∷ ws) = IsHolder limits upper e.variable (value e.number) w × EachHolder value limits upper es ws

pub EachHolder-append : {F : Type 0} (value : F → ℚ) (limits : List (Limit DeltaValue)) (upper : Bool) (es : List (Entry F)) (ws : List Weight) (e : Entry F) (w : Weight) → EachHolder value limits upper es ws → IsHolder limits upper e.variable (value e.number) w → EachHolder value limits upper (es ++ e ∷ []) (ws ++ w ∷ [])
EachHolder-append value limits upper [] [] e w all one = (one, tt)
EachHolder-append value limits upper [] (v ∷ vs) e w all one = absurd all
EachHolder-append value limits upper (d ∷ ds) [] e w all one = absurd all
EachHolder-append value limits upper (d ∷ ds) (v ∷ vs) e w all one = (all.0, EachHolder-append value limits upper ds vs e w all.1 one)

-- ---- a lower limit turns the sign

abbrev pub turned : Bool → ℚ → ℚ
turned true x = neg_ℚ x
turned false x = x

abbrev pub turned_delta : Bool → DeltaValue → DeltaValue
turned_delta true x = delta_opposite x
turned_delta false x = x

turned-sum : (upper : Bool) (x y : ℚ) → turned upper (x +ℚ y) ≡ turned upper x +ℚ turned upper y
turned-sum true x y = neg_ℚ-+ℚ x y
turned-sum false x y = refl

turned-zero : (upper : Bool) → turned upper (whole (pos 0)) ≡ whole (pos 0)
turned-zero true = neg_ℚ-zero
turned-zero false = refl

turned_delta-sum : (upper : Bool) (x y : DeltaValue) → turned_delta upper (delta_sum x y) ≡ delta_sum (turned_delta upper x) (turned_delta upper y)
turned_delta-sum true x y = same_delta _ _ (neg_ℚ-+ℚ _ _) (neg_ℚ-+ℚ _ _)
turned_delta-sum false x y = refl

turned_delta-zero : (upper : Bool) → turned_delta upper zero_delta ≡ zero_delta
turned_delta-zero true = same_delta _ _ neg_ℚ-zero neg_ℚ-zero
turned_delta-zero false = refl

both_opposite : (e x : ℚ) → neg_ℚ e *ℚ neg_ℚ x ≡ e *ℚ x
both_opposite e x = neg_ℚ-*ℚ e (neg_ℚ x) ∙ ap neg_ℚ (*ℚ-neg_ℚ e x) ∙ neg_ℚ-neg_ℚ _

-- ---- one holder

-- what a limit counts of its variable
abbrev pub counted : Bool → ℚ → ℚ
counted upper x = cond upper x (neg_ℚ x)

counted_above : (upper : Bool) (e x : ℚ) → e *ℚ counted (not upper) x ≡ turned upper (e *ℚ x)
counted_above true e x = *ℚ-neg_ℚ e x
counted_above false e x = refl

counted_below : (upper : Bool) (e x : ℚ) → neg_ℚ e *ℚ counted upper x ≡ turned upper (e *ℚ x)
counted_below true e x = neg_ℚ-*ℚ e x
counted_below false e x = both_opposite e x

pub holder-variable : (limits : List (Limit DeltaValue)) (upper : Bool) (v : ℕ) (e : ℚ) (w : Weight) (x : ℕ → ℚ) → IsHolder limits upper v e w → w.factor *ℚ counted w.limit.upper (x w.limit.var) ≡ turned upper (e *ℚ x v)
holder-variable limits upper v e w x (inl h) =
    let side = in_force-side (not upper) v limits w.limit h.1 in
    ap (λ f. f *ℚ counted w.limit.upper (x w.limit.var)) h.2 ∙ ap (λ s. e *ℚ counted s (x w.limit.var)) side.0 ∙ ap (λ n. e *ℚ counted (not upper) (x n)) (sym side.1) ∙ counted_above upper e (x v)
holder-variable limits upper v e w x (inr h) =
    let side = in_force-side upper v limits w.limit h.1 in
    ap (λ f. f *ℚ counted w.limit.upper (x w.limit.var)) h.2 ∙ ap (λ s. neg_ℚ e *ℚ counted s (x w.limit.var)) side.0 ∙ ap (λ n. neg_ℚ e *ℚ counted upper (x n)) (sym side.1) ∙ counted_below upper e (x v)

pub holder-in_force : (limits : List (Limit DeltaValue)) (upper : Bool) (v : ℕ) (e : ℚ) (w : Weight) → IsHolder limits upper v e w → (whole (pos 0) <ℚ w.factor) × (in_force w.limit.upper w.limit.var limits ≡ Some w.limit)
holder-in_force limits upper v e w (inl h) =
    let side = in_force-side (not upper) v limits w.limit h.1 in
    (subst (λ f. whole (pos 0) <ℚ f) (sym h.2) h.0, ap (λ s. in_force s w.limit.var limits) side.0 ∙ ap (λ n. in_force (not upper) n limits) (sym side.1) ∙ h.1)
holder-in_force limits upper v e w (inr h) =
    let side = in_force-side upper v limits w.limit h.1 in
    (subst (λ f. whole (pos 0) <ℚ f) (sym h.2) (neg_ℚ-positive e h.0), ap (λ s. in_force s w.limit.var limits) side.0 ∙ ap (λ n. in_force upper n limits) (sym side.1) ∙ h.1)

-- ---- numbers

opposite_twice : (x y : ℚ) → x +ℚ (neg_ℚ x +ℚ neg_ℚ y) ≡ neg_ℚ y
unfolding ◌+ℚ◌ neg_ℚ by_two by_one
opposite_twice = equal_2 (λ x y. x +ℚ (neg_ℚ x +ℚ neg_ℚ y)) (λ x y. neg_ℚ y) (λ a b. same_point _ _ (omega arith))

opposite_once : (x y : ℚ) → y +ℚ (neg_ℚ x +ℚ neg_ℚ y) ≡ neg_ℚ x
unfolding ◌+ℚ◌ neg_ℚ by_two by_one
opposite_once = equal_2 (λ x y. y +ℚ (neg_ℚ x +ℚ neg_ℚ y)) (λ x y. neg_ℚ x) (λ a b. same_point _ _ (omega arith))

delta_opposite-at_most : (x y : DeltaValue) → delta_at_most (delta_opposite y) (delta_opposite x) ≡ delta_at_most x y
delta_opposite-at_most x y =
    let z = delta_sum (delta_opposite x) (delta_opposite y) in
    ap (λ d. delta_at_most d (delta_opposite x)) (sym (same_delta _ _ (opposite_twice x.real y.real) (opposite_twice x.inf y.inf)))
    ∙ ap (λ d. delta_at_most (delta_sum x z) d) (sym (same_delta _ _ (opposite_once x.real y.real) (opposite_once x.inf y.inf)))
    ∙ delta_at_most-sum x y z

delta_opposite-≤δ : (x y : DeltaValue) → x ≤δ y → delta_opposite y ≤δ delta_opposite x
delta_opposite-≤δ x y h = delta_opposite-at_most x y ∙ h

-- what a limit counts of its number
abbrev pub counted_delta : Bool → DeltaValue → DeltaValue
counted_delta upper x = cond upper x (delta_opposite x)

scaled_opposite : (e : ℚ) (x : DeltaValue) → delta_scaled e (delta_opposite x) ≡ delta_opposite (delta_scaled e x)
scaled_opposite e x = same_delta _ _ (*ℚ-neg_ℚ e x.real) (*ℚ-neg_ℚ e x.inf)

opposite_scaled : (e : ℚ) (x : DeltaValue) → delta_scaled (neg_ℚ e) x ≡ delta_opposite (delta_scaled e x)
opposite_scaled e x = same_delta _ _ (neg_ℚ-*ℚ e x.real) (neg_ℚ-*ℚ e x.inf)

opposites_scaled : (e : ℚ) (x : DeltaValue) → delta_scaled (neg_ℚ e) (delta_opposite x) ≡ delta_scaled e x
opposites_scaled e x = same_delta _ _ (both_opposite e x.real) (both_opposite e x.inf)

-- what keeps v from rising, or falling
no_rise : (limits : List (Limit DeltaValue)) (v : ℕ) (x : DeltaValue) (l : Limit DeltaValue) → in_force true v limits ≡ Some l → (MayRise limits v x → ⊥) → l.at ≤δ x
no_rise limits v x l e n = ≤δ_from_not_> l.at x (λ h. n (subst (λ o. IfSome o (λ l. x <δ l.at)) (sym e) h))

no_fall : (limits : List (Limit DeltaValue)) (v : ℕ) (x : DeltaValue) (l : Limit DeltaValue) → in_force false v limits ≡ Some l → (MayFall limits v x → ⊥) → x ≤δ l.at
no_fall limits v x l e n = ≤δ_from_not_> x l.at (λ h. n (subst (λ o. IfSome o (λ l. l.at <δ x)) (sym e) h))

above_at : (limits : List (Limit DeltaValue)) (upper : Bool) (v : ℕ) (e : ℚ) (l : Limit DeltaValue) (x : DeltaValue) → whole (pos 0) <ℚ e → in_force (not upper) v limits ≡ Some l → (Helps upper e limits v x → ⊥) → delta_scaled e (counted_delta (not upper) l.at) ≤δ turned_delta upper (delta_scaled e x)
above_at limits true v e l x some is n =
    subst (λ d. delta_scaled e (delta_opposite l.at) ≤δ d) (scaled_opposite e x) (delta_scaled-≤δ e _ _ (<ℚ-≤ℚ _ _ some) (delta_opposite-≤δ x l.at (no_fall limits v x l is (λ h. n (inr (some, h))))))
above_at limits false v e l x some is n =
    delta_scaled-≤δ e _ _ (<ℚ-≤ℚ _ _ some) (no_rise limits v x l is (λ h. n (inl (some, h))))

below_at : (limits : List (Limit DeltaValue)) (upper : Bool) (v : ℕ) (e : ℚ) (l : Limit DeltaValue) (x : DeltaValue) → e <ℚ whole (pos 0) → in_force upper v limits ≡ Some l → (Helps upper e limits v x → ⊥) → delta_scaled (neg_ℚ e) (counted_delta upper l.at) ≤δ turned_delta upper (delta_scaled e x)
below_at limits true v e l x less is n =
    subst (λ d. delta_scaled (neg_ℚ e) l.at ≤δ d) (opposite_scaled e x) (delta_scaled-≤δ (neg_ℚ e) _ _ (<ℚ-≤ℚ _ _ (neg_ℚ-positive e less)) (no_rise limits v x l is (λ h. n (inl (less, h)))))
below_at limits false v e l x less is n =
    subst (λ d. delta_scaled (neg_ℚ e) (delta_opposite l.at) ≤δ d) (opposites_scaled e x) (delta_scaled-≤δ (neg_ℚ e) _ _ (<ℚ-≤ℚ _ _ (neg_ℚ-positive e less)) (delta_opposite-≤δ x l.at (no_fall limits v x l is (λ h. n (inr (less, h))))))

holder-number : (limits : List (Limit DeltaValue)) (upper : Bool) (v : ℕ) (e : ℚ) (w : Weight) (x : DeltaValue) → IsHolder limits upper v e w → (Helps upper e limits v x → ⊥) → delta_scaled w.factor (counted_delta w.limit.upper w.limit.at) ≤δ turned_delta upper (delta_scaled e x)
holder-number limits upper v e w x (inl h) n =
    let side = in_force-side (not upper) v limits w.limit h.1 in
    subst (λ d. d ≤δ turned_delta upper (delta_scaled e x)) (sym (ap (λ f. delta_scaled f (counted_delta w.limit.upper w.limit.at)) h.2 ∙ ap (λ s. delta_scaled e (counted_delta s w.limit.at)) side.0)) (above_at limits upper v e w.limit x h.0 h.1 n)
holder-number limits upper v e w x (inr h) n =
    let side = in_force-side upper v limits w.limit h.1 in
    subst (λ d. d ≤δ turned_delta upper (delta_scaled e x)) (sym (ap (λ f. delta_scaled f (counted_delta w.limit.upper w.limit.at)) h.2 ∙ ap (λ s. delta_scaled (neg_ℚ e) (counted_delta s w.limit.at)) side.0)) (below_at limits upper v e w.limit x h.0 h.1 n)

-- ---- all holders of a row

module _ {F : Type 0} (value : F → ℚ) (limits : List (Limit DeltaValue)) (upper : Bool) where
  pub holders-variables : (es : List (Entry F)) (ws : List Weight) (x : ℕ → ℚ) → EachHolder value limits upper es ws → weighed_variables ws x ≡ turned upper (entries_value value es x)
  holders-variables [] [] x all = sym (turned-zero upper)
  holders-variables [] (w ∷ ws) x all = absurd all
  holders-variables (e ∷ es) [] x all = absurd all
  holders-variables (e ∷ es) (w ∷ ws) x all =
      ap (λ s. s +ℚ weighed_variables ws x) (holder-variable limits upper e.variable (value e.number) w x all.0)
      ∙ ap (λ s. turned upper (value e.number *ℚ x e.variable) +ℚ s) (holders-variables es ws x all.1)
      ∙ sym (turned-sum upper _ _)

  pub holders-in_force : (es : List (Entry F)) (ws : List Weight) → EachHolder value limits upper es ws → AreInForce limits ws
  holders-in_force [] [] all = tt
  holders-in_force [] (w ∷ ws) all = absurd all
  holders-in_force (e ∷ es) [] all = absurd all
  holders-in_force (e ∷ es) (w ∷ ws) all =
      let one = holder-in_force limits upper e.variable (value e.number) w all.0 in
      (one.0, one.1, holders-in_force es ws all.1)

  -- the sum of the entries times the values
  abbrev pub entries_delta : List (Entry F) → (ℕ → DeltaValue) → DeltaValue
  entries_delta es xs = record { real = entries_value value es (λ v. (xs v).real); inf = entries_value value es (λ v. (xs v).inf) }

  -- no entry's variable can help
  abbrev pub NoneHelps : List (Entry F) → (ℕ → DeltaValue) → Type 0
  NoneHelps [] xs = Unit {0}
  NoneHelps (e ∷ es) xs = (¬ Helps upper (value e.number) limits e.variable (xs e.variable)) × NoneHelps es xs

  pub holders-numbers : (es : List (Entry F)) (ws : List Weight) (xs : ℕ → DeltaValue) → EachHolder value limits upper es ws → NoneHelps es xs → weighed_numbers ws ≤δ turned_delta upper (entries_delta es xs)
  holders-numbers [] [] xs all none = subst (λ d. zero_delta ≤δ d) (sym (turned_delta-zero upper)) (≤δ_refl zero_delta)
  holders-numbers [] (w ∷ ws) xs all none = absurd all
  holders-numbers (e ∷ es) [] xs all none = absurd all
  holders-numbers (e ∷ es) (w ∷ ws) xs all none =
      subst (λ d. weighed_numbers (w ∷ ws) ≤δ d) (sym (turned_delta-sum upper (delta_scaled (value e.number) (xs e.variable)) (entries_delta es xs))) (delta_sum-≤δ _ _ _ _ (holder-number limits upper e.variable (value e.number) w (xs e.variable) all.0 none.0) (holders-numbers es ws xs all.1 none.1))

  -- the weights in the order of the variables
  pub holders-in_order : (from to : ℕ) (row : ℕ → ℚ) (es : List (Entry F)) (ws : List Weight) → IsRowWithin value from to es → ((v : ℕ) → from ≤ v → row v ≡ coefficient value es v) → EachHolder value limits upper es ws → AreHolders limits upper row from ws
  holders-in_order from to row [] [] within same all = λ v h. same v h ∙ coefficient-none value v
  holders-in_order from to row [] (w ∷ ws) within same all = absurd all
  holders-in_order from to row (e ∷ es) [] within same all = absurd all
  holders-in_order from to row (e ∷ es) (w ∷ ws) within same all = (
    e.variable,
    within.0,
    λ u h less. same u h ∙ coefficient-before value e.variable to (e ∷ es) u (omega arith, within.1, within.2, within.3) less,
    subst (λ c. IsHolder limits upper e.variable c w) (sym (same e.variable within.0 ∙ coefficient-here value e es e.variable refl)) all.0,
    holders-in_order (e.variable + 1) to row es ws within.3 (λ v h. same v (omega (arith, within.0)) ∙ coefficient-there value e es v (λ q. absurd (omega arith))) all.1,
  )

-- ---- with the violated limit

pub first_cancels : (s : Bool) (x : ℚ) → whole (pos 1) *ℚ counted s x +ℚ turned s x ≡ whole (pos 0)
first_cancels true x = ap (λ y. y +ℚ neg_ℚ x) (one-*ℚ x) ∙ +ℚ-neg x
first_cancels false x = ap (λ y. y +ℚ x) (one-*ℚ (neg_ℚ x)) ∙ +ℚ_comm _ _ ∙ +ℚ-neg x

abbrev pub Outside : Bool → DeltaValue → DeltaValue → Type 0
Outside true l x = l <δ x
Outside false l x = x <δ l

pub first_below : (s : Bool) (l x : DeltaValue) → Outside s l x → delta_sum (counted_delta s l) (turned_delta s x) <δ zero_delta
first_below true l x h =
    subst (λ d. delta_sum l (delta_opposite x) <δ d) (same_delta _ _ (+ℚ-neg x.real) (+ℚ-neg x.inf)) (delta_at_most-sum x l (delta_opposite x) ∙ h)
first_below false l x h =
    subst (λ d. d <δ zero_delta) (same_delta _ _ (+ℚ_comm _ _) (+ℚ_comm _ _)) (subst (λ d. delta_sum x (delta_opposite l) <δ d) (same_delta _ _ (+ℚ-neg l.real) (+ℚ-neg l.inf)) (delta_at_most-sum l x (delta_opposite l) ∙ h))
