-- A limit that is put in force leaves all sound.
use Rattle.std.proofs.Common.{◌≡◌, ℕ, ◌<◌, Bool, true, false, not, cond, List, [], ◌∷◌, ◌++◌, map, Option, None, Some, ◌⊎◌, inl, inr, ◌↔◌, pos, refl, sym, ap, subst, ◌∙◌}
use Rattle.std.specs.Option.{IsSomeAnd}
use Rattle.std.proofs.lemmas.List.{map-append}
use Rattle.ordered_field.specs.Rational.{ℚ, whole}
use Rattle.ordered_field.specs.Delta.{DeltaValue, delta_value, ◌≤δ◌, ◌<δ◌}
use Rattle.ordered_field.specs.declared.delta.Delta.{Delta}
use Rattle.ordered_field.proofs.DeltaOrder.{<δ-not_≥}
use Rattle.field_rows.proofs.SumLaws.{same_or_apart}
use Rattle.tableau.specs.Tables.{Table, variables, is_basic}
use Rattle.simplex.specs.declared.limits.Limit.{Limit}
use Rattle.simplex.specs.declared.outcome.Share.{Share}
use Rattle.simplex.specs.Limits.{Held, limit_value, in_force, IsWithin, IsMet, IsMetOn, Contradicts, IsImplied, AreOrderly}
use Rattle.simplex.specs.Moves.{moved_value}
use Rattle.simplex.specs.Shares.{Weight, AreShares}
use Rattle.simplex.specs.Bounds.{with_one, both_limits, AreMovedInto}
use Rattle.simplex.specs.States.{limits_in}
use Rattle.simplex.specs.Assignments.{Assigned, value_of, corner_of, IsBuilt, IsMoved}
use Rattle.simplex.specs.Settings.{AreOnes, MustMove, IsPut}
use Rattle.simplex.proofs.LimitLaws.{≤δ_from_not_>, AreOrderly-append, within-append, within-at}
use Rattle.simplex.proofs.MoveLaws.{moved-here, moved-other}

-- ---- look-ups that a test follows

pub not_some_and-none : {A : Type 0} (P : A → Type 0) (o : Option A) → o ≡ None → IsSomeAnd o P → ⊥
not_some_and-none P o e h = subst (λ o'. IsSomeAnd o' P) e h

pub not_some_and : {A : Type 0} (P : A → Type 0) (o : Option A) (x : A) → o ≡ Some x → (P x → ⊥) → IsSomeAnd o P → ⊥
not_some_and P o x e n h = n (subst (λ o'. IsSomeAnd o' P) e h)

pub tells_and-some : {A : Type 0} (P : A → Type 0) (b : Bool) (o : Option A) (x : A) → o ≡ Some x → (b ≡ true) ↔ P x → (b ≡ true) ↔ IsSomeAnd o P
tells_and-some P b o x e h = subst (λ o'. (b ≡ true) ↔ IsSomeAnd o' P) (sym e) h

pub tells_and-none : {A : Type 0} (P : A → Type 0) (o : Option A) → o ≡ None → (false ≡ true) ↔ IsSomeAnd o P
tells_and-none P o e = (λ h. absurd (cc), λ h. absurd (not_some_and-none P o e h))

pub not_below_tells : (b : Bool) (x y : DeltaValue) → (b ≡ true) ↔ (x <δ y) → (not b ≡ true) ↔ (y ≤δ x)
not_below_tells true x y tells = (λ h. absurd (cc), λ h. absurd (<δ-not_≥ x y (tells.0 refl) h))
not_below_tells false x y tells = (λ h. ≤δ_from_not_> y x (λ k. let e : false ≡ true = tells.1 k in absurd (cc)), λ h. refl)

pub told_not : (b : Bool) (P : Type 0) → (b ≡ true) ↔ P → b ≡ false → P → ⊥
told_not b P tells e h = let holds : b ≡ true = tells.1 h in absurd (cc)

pub by_side : (u w : Bool) (P : Bool → Type 0) → u ≡ w → P w → P u
by_side u w P e h = subst P (sym e) h

-- ---- the shares of two limits

pub ones-shares : {F : Type 0} (value : F → ℚ) (a b : Limit DeltaValue) (ss : List (Share F)) → AreOnes value a.tag b.tag ss → AreShares value (with_one a ∷ with_one b ∷ []) ss
ones-shares value a b [] ones = absurd ones
ones-shares value a b (s ∷ []) ones = absurd ones
ones-shares value a b (s ∷ t ∷ []) ones = (ones.0, ones.1, (ones.2, ones.3, tt))
ones-shares value a b (s ∷ t ∷ u ∷ us) ones = absurd ones

pub both_limits-upper : (l h : Limit DeltaValue) → l.upper ≡ true → both_limits l h ≡ with_one h ∷ with_one l ∷ []
both_limits-upper l h e = rw e refl

pub both_limits-lower : (l h : Limit DeltaValue) → l.upper ≡ false → both_limits l h ≡ with_one l ∷ with_one h ∷ []
both_limits-lower l h e = rw e refl

-- ---- a limit in force

pub limits_in-append : {F : Type 0} (value : F → ℚ) (ls : List (Limit (Delta F))) (l : Limit (Delta F)) → limits_in value (ls ++ l ∷ []) ≡ limits_in value ls ++ limit_value value l ∷ []
limits_in-append value ls l = map-append (limit_value value) ls (l ∷ [])

pub must_move-by : {F : Type 0} (value : F → ℚ) (a : Assigned F) (l : Limit DeltaValue) (b : Bool) → is_basic a.table l.var ≡ false → ((b ≡ true) → IsMet (value_of value a l.var) l → ⊥) → ((b ≡ false) → IsMet (value_of value a l.var) l) → MustMove value a l b
must_move-by value a l true n out met = (n, out refl)
must_move-by value a l false n out met = inr (met refl)

module _ {F : Type 0} (value : F → ℚ) (a : Assigned F) (h : Held F) (l : Limit (Delta F)) (built : IsBuilt value a h None) (agrees : Contradicts (limits_in value h.limits) (limit_value value l) → ⊥) (stronger : IsImplied (limits_in value h.limits) (limit_value value l) → ⊥) (k : Held F) (is : k ≡ record { variables = h.variables; limits = h.limits ++ l ∷ [] }) where
  all_limits : limits_in value k.limits ≡ limits_in value h.limits ++ limit_value value l ∷ []
  all_limits = ap (λ j. limits_in value j.limits) is ∙ limits_in-append value h.limits l

  orderly : AreOrderly [] (limits_in value k.limits)
  orderly = subst (AreOrderly []) (sym all_limits) (AreOrderly-append [] (limits_in value h.limits) (limit_value value l) built.orderly stronger agrees)

  pub IsPut-stays : MustMove value a (limit_value value l) false → IsPut value a h l a k
  IsPut-stays stays = record {
    table = refl;
    limits = ap (λ j. j.limits) is;
    values = inl (stays, λ v. refl);
    built = record {
      sound = built.sound;
      variables = ap (λ j. j.variables) is ∙ built.variables;
      orderly = orderly;
      repaired = λ e v n. subst (λ ls. IsWithin ls v (value_of value a v)) (sym all_limits) (within-append (limits_in value h.limits) (limit_value value l) v (value_of value a v) (built.repaired refl v n) (λ same. met v n same stays));
    };
  }
    where
      met : (v : ℕ) → is_basic a.table v ≡ false → v ≡ l.var → (is_basic a.table l.var ≡ true) ⊎ IsMet (value_of value a l.var) (limit_value value l) → IsMet (value_of value a v) (limit_value value l)
      met v n same (inl basic) = let e : is_basic a.table v ≡ true = ap (is_basic a.table) same ∙ basic in absurd (cc)
      met v n same (inr is_met) = subst (λ u. IsMet (value_of value a u) (limit_value value l)) (sym same) is_met

  pub IsPut-moves : MustMove value a (limit_value value l) true → (b : Assigned F) → IsMoved value a l.var (delta_value value l.at) b → IsPut value a h l b k
  IsPut-moves moves b moved = record {
    table = moved.table;
    limits = ap (λ j. j.limits) is;
    values = inr (moves.0, moves.1, moved.values);
    built = record {
      sound = moved.sound;
      variables = ap (λ j. j.variables) is ∙ built.variables ∙ ap variables (sym moved.table);
      orderly = orderly;
      repaired = λ e v n. subst (λ ls. IsWithin ls v (value_of value b v)) (sym all_limits) (within v (subst (λ t. is_basic t v ≡ false) moved.table n) (same_or_apart l.var v));
    };
  }
    where
      within : (v : ℕ) → is_basic a.table v ≡ false → (v ≡ l.var) ⊎ (v ≡ l.var → ⊥) → IsWithin (limits_in value h.limits ++ limit_value value l ∷ []) v (value_of value b v)
      within v n (inl same) =
          let at : value_of value b v ≡ delta_value value l.at = moved.values v ∙ moved-here value a.table (value_of value a) l.var (delta_value value l.at) v same in
          subst (λ u. IsWithin (limits_in value h.limits ++ limit_value value l ∷ []) u (value_of value b v)) (sym same) (subst (λ x. IsWithin (limits_in value h.limits ++ limit_value value l ∷ []) l.var x) (sym at) (within-at (limits_in value h.limits) (limit_value value l) agrees))
      within v n (inr apart) =
          let at : value_of value b v ≡ value_of value a v = moved.values v ∙ moved-other value a.table (value_of value a) l.var (delta_value value l.at) v apart n in
          within-append (limits_in value h.limits) (limit_value value l) v (value_of value b v) (subst (λ x. IsWithin (limits_in value h.limits) v x) (sym at) (built.repaired refl v n)) (λ same. absurd (apart same))
