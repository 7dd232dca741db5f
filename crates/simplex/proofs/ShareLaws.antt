-- The limit that keeps a variable from helping, by its entry.
use Rattle.std.proofs.Common.{◌≡◌, ℕ, Bool, true, false, not, MatchBool, List, [], ◌∷◌, ◌++◌, Option, None, Some, is_some, IsSome, ◌⊎◌, inl, inr, pos, refl, sym, ap, subst, ◌∙◌}
use Rattle.ordered_field.specs.Rational.{ℚ, whole, neg_ℚ}
use Rattle.ordered_field.specs.Order.{◌<ℚ◌}
use Rattle.std.specs.Option.{IfSome}
use Rattle.ordered_field.specs.Delta.{DeltaValue, ◌<δ◌}
use Rattle.ordered_field.proofs.OrderFacts.{<ℚ_irrefl, <ℚ_trans}
use Rattle.simplex.specs.declared.limits.Limit.{Limit}
use Rattle.simplex.specs.declared.outcome.Share.{Share}
use Rattle.simplex.specs.Limits.{in_force, MayRise, MayFall}
use Rattle.simplex.specs.Corners.{Helps, HelpsByRising, HelpsByFalling}
use Rattle.simplex.specs.Shares.{Weight, IsHolder, AreShares}
use Rattle.simplex.specs.Holders.{HasHolder, IsSizeOf}

not_some : {A : Type 0} (o : Option A) → o ≡ None → IsSome o → ⊥
not_some o e h = let f : is_some o ≡ false = ap is_some e in absurd (cc)

pub holder_missing : (r upper : Bool) (limits : List (Limit DeltaValue)) (v : ℕ) (e : ℚ) → MatchBool r (HelpsByRising upper e) (HelpsByFalling upper e) → HasHolder limits upper v e → in_force r v limits ≡ None → ⊥
holder_missing true upper limits v e way holder none = not_some _ none (holder.rising way)
holder_missing false upper limits v e way holder none = not_some _ none (holder.falling way)

above-not_below : (e : ℚ) → whole (pos 0) <ℚ e → e <ℚ whole (pos 0) → ⊥
above-not_below e more less = <ℚ_irrefl _ (<ℚ_trans _ _ _ more less)

pub holder_by : (r upper : Bool) (limits : List (Limit DeltaValue)) (v : ℕ) (e f : ℚ) (l : Limit DeltaValue) → MatchBool r (HelpsByRising upper e) (HelpsByFalling upper e) → in_force r v limits ≡ Some l → IsSizeOf e f → IsHolder limits upper v e (record { limit = l; factor = f })
holder_by true true limits v e f l less held size = inr (less, held, size.0 less)
holder_by true false limits v e f l more held size = inl (more, held, size.1 (above-not_below e more))
holder_by false true limits v e f l more held size = inl (more, held, size.1 (above-not_below e more))
holder_by false false limits v e f l less held size = inr (less, held, size.0 less)

some_by : {A : Type 0} (o : Option A) → (o ≡ None → ⊥) → IsSome o
some_by None n = absurd (n refl)
some_by (Some x) n = refl

-- where a variable can't help, there is a limit that keeps it from it
pub has_holder : (upper : Bool) (limits : List (Limit DeltaValue)) (v : ℕ) (e : ℚ) (x : DeltaValue) → (Helps upper e limits v x → ⊥) → HasHolder limits upper v e
has_holder upper limits v e x cannot = record {
  rising = λ r. some_by _ (λ none. cannot (inl (r, free (λ l. x <δ l.at) _ none)));
  falling = λ f. some_by _ (λ none. cannot (inr (f, free (λ l. l.at <δ x) _ none)));
}
  where
    free : (P : Limit DeltaValue → Type 0) (o : Option (Limit DeltaValue)) → o ≡ None → IfSome o P
    free P o e = subst (λ o'. IfSome o' P) (sym e) tt

pub AreShares-append : {F : Type 0} (value : F → ℚ) (ws : List Weight) (ss : List (Share F)) (w : Weight) (s : Share F) → AreShares value ws ss → s.tag ≡ w.limit.tag → value s.mult ≡ w.factor → AreShares value (ws ++ w ∷ []) (ss ++ s ∷ [])
AreShares-append value [] [] w s all tag mult = (tag, mult, tt)
AreShares-append value [] (t ∷ ts) w s all tag mult = absurd all
AreShares-append value (v ∷ vs) [] w s all tag mult = absurd all
AreShares-append value (v ∷ vs) (t ∷ ts) w s all tag mult = (all.0, all.1, AreShares-append value vs ts w s all.2 tag mult)
