-- The shares of a violation that nothing can help are a contradiction, in the order of the row.
use Rattle.std.proofs.Common.{◌≡◌, ℕ, ◌+◌, ◌<◌, Bool, true, false, cond, List, [], ◌∷◌, ◌++◌, Some, pos, refl, sym, ap, subst, ◌∙◌, arith}
use Rattle.std.specs.Option.{IsSomeAnd}
use Rattle.std.proofs.lemmas.Int.{ints}
use Rattle.std.proofs.lemmas.List.{append_assoc}
use Rattle.ordered_field.specs.Rational.{ℚ, whole, ◌+ℚ◌, ◌*ℚ◌, neg_ℚ}
use Rattle.ordered_field.specs.Order.{◌<ℚ◌}
use Rattle.ordered_field.specs.Delta.{DeltaValue, delta_sum, delta_scaled, ◌≤δ◌, ◌<δ◌}
use Rattle.ordered_field.proofs.Fractions.{whole-<ℚ}
use Rattle.ordered_field.proofs.DeltaLaws.{same_delta, delta_scaled-one}
use Rattle.ordered_field.proofs.DeltaOrder.{≤δ_refl, ≤δ-<δ_trans, delta_sum-≤δ}
use Rattle.field_rows.specs.declared.row.Entry.{Entry}
use Rattle.tableau.specs.Tables.{Table, variables, is_basic, entry, Meets}
use Rattle.simplex.specs.declared.limits.Limit.{Limit}
use Rattle.simplex.specs.declared.outcome.Share.{Share}
use Rattle.simplex.specs.Limits.{in_force, IsViolated}
use Rattle.simplex.specs.Corners.{Corner, CanHelp}
use Rattle.simplex.specs.Shares.{Weight, weighed_variables, weighed_numbers, AreShares, IsContradiction, IsConflict}
use Rattle.simplex.specs.Bounds.{with_one}
use Rattle.simplex.specs.States.{zero_delta}
use Rattle.simplex.specs.Assignments.{MeetsRows, IsRowOf}
use Rattle.simplex.proofs.LimitLaws.{in_force-side}
use Rattle.simplex.proofs.RowSums.{entries_value, row_within, meets-entries}
use Rattle.simplex.proofs.ChoiceLaws.{entry_of, can_help-by}
use Rattle.simplex.proofs.HolderLaws.{EachHolder, NoneHelps, turned, turned_delta, counted, counted_delta, entries_delta, holders-variables, holders-numbers, holders-in_force, holders-in_order, Outside, first_cancels, first_below}

zero-below_one : whole (pos 0) <ℚ whole (pos 1)
zero-below_one = whole-<ℚ (pos 0) (pos 1) (omega (arith, ints))

outside_of : (upper : Bool) (limits : List (Limit DeltaValue)) (b : ℕ) (x : DeltaValue) (l : Limit DeltaValue) → in_force upper b limits ≡ Some l → IsViolated upper limits b x → Outside upper l.at x
outside_of true limits b x l e h = subst (λ o. IsSomeAnd o (λ l. l.at <δ x)) e h
outside_of false limits b x l e h = subst (λ o. IsSomeAnd o (λ l. x <δ l.at)) e h

module _ {F : Type 0} (value : F → ℚ) (c : Corner F) (upper : Bool) (b : ℕ) (l : Limit DeltaValue) (row : List (Entry F)) (of : IsRowOf value c.table b row) where
  none_all : ((o : ℕ) → CanHelp value c upper b o → ⊥) → (front behind : List (Entry F)) → row ≡ front ++ behind → NoneHelps value c.limits upper behind c.value
  none_all cannot front [] parts = tt
  none_all cannot front (e ∷ es) parts = (
    λ h. cannot e.variable (can_help-by value c upper b e (entry_of value c.table b row front e es of parts) h),
    none_all cannot (front ++ e ∷ []) es (parts ∙ sym (append_assoc front (e ∷ []) es)),
  )

  pub conflict_of : is_basic c.table b ≡ true → MeetsRows value c.table c.value → in_force upper b c.limits ≡ Some l → IsViolated upper c.limits b (c.value b) → ((o : ℕ) → CanHelp value c upper b o → ⊥) → (ws : List Weight) → EachHolder value c.limits upper row ws → (shares : List (Share F)) → AreShares value (with_one l ∷ ws) shares → IsConflict value c upper b shares
  conflict_of basic meets held violated cannot ws each shares are = record {
    weights = with_one l ∷ ws;
    shares = are;
    of_row = (held, refl, holders-in_order value c.limits upper 0 (variables c.table) (entry value c.table b) row ws (row_within value c.table b row of.table of) (λ v h. sym (of.same v)) each);
    contradiction = record {
      in_force = (zero-below_one, ap (λ s. in_force s l.var c.limits) side.0 ∙ ap (λ n. in_force upper n c.limits) (sym side.1) ∙ held, holders-in_force value c.limits upper row ws each);
      cancels = cancels;
      below_zero = ≤δ-<δ_trans _ _ _ at_most (first_below upper l.at (c.value b) (outside_of upper c.limits b (c.value b) l held violated));
    };
  }
    where
      side : (l.upper ≡ upper) × (b ≡ l.var)
      side = in_force-side upper b c.limits l held

      cancels : (x : ℕ → ℚ) → Meets value c.table x → weighed_variables (with_one l ∷ ws) x ≡ whole (pos 0)
      cancels x at =
          ap (λ s. whole (pos 1) *ℚ counted s (x l.var) +ℚ weighed_variables ws x) side.0
          ∙ ap (λ n. whole (pos 1) *ℚ counted upper (x n) +ℚ weighed_variables ws x) (sym side.1)
          ∙ ap (λ s. whole (pos 1) *ℚ counted upper (x b) +ℚ s) (holders-variables value c.limits upper row ws x each ∙ ap (turned upper) (sym (meets-entries value c.table b row of.table of basic x at)))
          ∙ first_cancels upper (x b)

      value_is : c.value b ≡ entries_delta value c.limits upper row c.value
      value_is = same_delta _ _ (meets-entries value c.table b row of.table of basic (λ v. (c.value v).real) meets.real) (meets-entries value c.table b row of.table of basic (λ v. (c.value v).inf) meets.inf)

      counts : delta_scaled (whole (pos 1)) (counted_delta l.upper l.at) ≡ counted_delta upper l.at
      counts = delta_scaled-one _ ∙ ap (λ s. counted_delta s l.at) side.0

      rest : weighed_numbers ws ≤δ turned_delta upper (c.value b)
      rest = subst (λ d. weighed_numbers ws ≤δ turned_delta upper d) (sym value_is) (holders-numbers value c.limits upper row ws c.value each (none_all cannot [] row refl))

      at_most : weighed_numbers (with_one l ∷ ws) ≤δ delta_sum (counted_delta upper l.at) (turned_delta upper (c.value b))
      at_most = subst (λ d. delta_sum d (weighed_numbers ws) ≤δ delta_sum (counted_delta upper l.at) (turned_delta upper (c.value b))) (sym counts) (delta_sum-≤δ _ _ _ _ (≤δ_refl _) rest)
