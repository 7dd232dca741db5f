-- Pivots one after the other.
use Rattle.std.proofs.Common.{◌≡◌, ℕ, Bool, List, [], ◌∷◌, ◌++◌, refl, sym, subst}
use Rattle.ordered_field.specs.Rational.{ℚ}
use Rattle.simplex.specs.Corners.{Corner, IsBlandsChoice, IsAfterPivot, PivotsLead}

pub PivotsLead-more : {F : Type 0} (value : F → ℚ) (c : Corner F) (ps : List (ℕ × ℕ)) (d : Corner F) (upper : Bool) (b o : ℕ) (e : Corner F) → PivotsLead value c ps d → IsBlandsChoice value d upper b o → IsAfterPivot value d upper b o e → PivotsLead value c (ps ++ (b, o) ∷ []) e
PivotsLead-more value c [] d upper b o e leads choice after =
    (upper, subst (λ x. IsBlandsChoice value x upper b o) (sym leads) choice, (e, subst (λ x. IsAfterPivot value x upper b o e) (sym leads) after, refl))
PivotsLead-more value c (p ∷ ps) d upper b o e leads choice after =
    (leads.0, leads.1, (leads.2.0, leads.2.1, PivotsLead-more value leads.2.0 ps d upper b o e leads.2.2 choice after))
