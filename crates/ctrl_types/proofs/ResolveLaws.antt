-- The clauses of resolving, from what is read and what is asked.
use Rattle.std.proofs.Common.{◌≡◌, ℕ, unsigned_abs, List, ◌⊎◌, inl, inr, Result, Ok, Err, refl, sym, ap, subst}
use Rattle.std.specs.Prelude.{IfOk, OnOk, IsErrOf, IsOkUnless}
use Rattle.weighing.specs.First.{first}
use Rattle.whole.specs.declared.answers.ReadFault.{ReadFault}
use Rattle.whole.specs.declared.answers.ReadFault.TheVariants.{Refused, NoMemory}
use Rattle.whole.specs.declared.answers.Refusal.{Refusal}
use Rattle.ctrl_syntax.specs.Grammar.{IsText}
use Rattle.ctrl_syntax.proofs.LimitLaws.{sections_within}
use Rattle.ctrl_syntax.specs.Limits.{AreSectionsWithin}
use Rattle.ctrl_syntax.specs.Sections.{Sections}
use Rattle.ctrl_types.specs.declared.controllers.Controller.{Controller}
use Rattle.ctrl_types.specs.Denominators.{IsScale}
use Rattle.ctrl_types.specs.Limits.{IsController}
use Rattle.ctrl_types.specs.Resolved.{RefusesUnless, Resolves, SeenResolves}
use Rattle.ctrl_types.specs.Resolving.{GivesSeenUnless, SeenController, controller_by, controller_seen}
use Rattle.ctrl_types.specs.Statements.{IsFirstBroken, IsUnbroken, statements}
use Rattle.ctrl_types.proofs.EndAlike.{Agrees, fine, stops, judged}
use Rattle.ctrl_types.proofs.ControllerLaws.{controller_is}
use Rattle.ctrl_types.proofs.FirstLaws.{broken_again, first_broken, unbroken, unbroken_again}
use Rattle.ctrl_types.proofs.TextLaws.{IsRead, text_agrees}

-- where a value is read, nothing is refused
record IsFine {X E : Type 0} (P : X → Type 0) (x : X) (t : Result (Unit {0}) E) : Type 0 where
  holds : P x
  passed : t ≡ Ok tt

agrees_ok : {X E : Type 0} {P : X → Type 0} {r : Result X E} {t : Result (Unit {0}) E} (x : X) → Agrees P r t → r ≡ Ok x → IsFine P x t
agrees_ok {P} x (fine y is) e = let same : y ≡ x = cc in record { holds = subst P same is; passed = refl }
agrees_ok x (stops fault) e = absurd (cc)

agrees_err : {X E : Type 0} {P : X → Type 0} {r : Result X E} {t : Result (Unit {0}) E} (fault : E) → Agrees P r t → r ≡ Err fault → t ≡ Err fault
agrees_err fault (fine y is) e = absurd (cc)
agrees_err fault (stops same) e = cc

module _ (sections : Sections) (is : AreSectionsWithin sections) where
  fine_is : (c : SeenController) → controller_by sections ≡ Ok c → IsFine (IsRead sections) c (first (judged sections.states) (statements sections))
  fine_is c e = agrees_ok c (text_agrees sections is) e

  refused_is : (r : Refusal) → controller_by sections ≡ Err r → first (judged sections.states) (statements sections) ≡ Err r
  refused_is r e = agrees_err r (text_agrees sections is) e

  -- where no statement breaks a rule, there is a controller
  some_read : IsUnbroken sections → (c : SeenController) × IsRead sections c
  some_read whole = by (controller_by sections) (first (judged sections.states) (statements sections)) (text_agrees sections is) (unbroken_again sections whole)
    where
      by : (r : Result SeenController Refusal) (t : Result (Unit {0}) Refusal) → Agrees (IsRead sections) r t → t ≡ Ok tt → (c : SeenController) × IsRead sections c
      by _ _ (fine c read) e = (c, read)
      by _ _ (stops r) e = absurd (cc)

  pub found_is : (result : Result Controller ReadFault) → GivesSeenUnless controller_seen result (controller_by sections) → IfOk result (λ c. Resolves sections c)
  found_is (Ok c) gives = (fine_is (controller_seen c) gives).holds.resolves
  found_is (Err fault) gives = tt

  pub limits_are : (result : Result Controller ReadFault) → GivesSeenUnless controller_seen result (controller_by sections) → IfOk result IsController
  limits_are (Ok c) gives = controller_is sections is c (fine_is (controller_seen c) gives).holds
  limits_are (Err fault) gives = tt

  pub unbroken_is : (result : Result Controller ReadFault) → GivesSeenUnless controller_seen result (controller_by sections) → OnOk result (IsUnbroken sections)
  unbroken_is (Ok c) gives = unbroken sections (fine_is (controller_seen c) gives).passed
  unbroken_is (Err fault) gives = tt

  pub first_is : (result : Result Controller ReadFault) → GivesSeenUnless controller_seen result (controller_by sections)
      → (r : Refusal) → IsErrOf result (Refused r) → IsFirstBroken sections r
  first_is (Ok c) gives r e = absurd (cc)
  first_is (Err NoMemory) gives r e = absurd (cc)
  first_is (Err (Refused s)) gives r e = let same : s ≡ r = cc in subst (IsFirstBroken sections) same (first_broken sections s (refused_is s gives))

  pub only_is : (result : Result Controller ReadFault) → GivesSeenUnless controller_seen result (controller_by sections) → IsUnbroken sections → IsOkUnless result NoMemory
  only_is (Ok c) gives whole = tt
  only_is (Err NoMemory) gives whole = refl
  only_is (Err (Refused s)) gives whole = let one = refused_is s gives in let two = unbroken_again sections whole in absurd (cc)

  pub refuses_is : (result : Result Controller ReadFault) → GivesSeenUnless controller_seen result (controller_by sections)
      → (r : Refusal) → IsFirstBroken sections r → RefusesUnless r result
  refuses_is (Ok c) gives r broken = let one = (fine_is (controller_seen c) gives).passed in let two = broken_again sections r broken in absurd (cc)
  refuses_is (Err NoMemory) gives r broken = tt
  refuses_is (Err (Refused s)) gives r broken = let one = refused_is s gives in let two = broken_again sections r broken in cc

-- a text's statements break no rule, or one of them breaks one first
pub either_statements : (sections : Sections) → IsUnbroken sections ⊎ ((r : Refusal) × IsFirstBroken sections r)
either_statements sections = by (first (judged sections.states) (statements sections)) refl
  where
    by : (t : Result (Unit {0}) Refusal) → first (judged sections.states) (statements sections) ≡ t → IsUnbroken sections ⊎ ((r : Refusal) × IsFirstBroken sections r)
    by (Ok done) e = inl (unbroken sections e)
    by (Err r) e = inr (r, first_broken sections r e)

pub some_controller : (bytes : List ℕ) (sections : Sections) → IsText bytes sections → IsUnbroken sections → (c : SeenController) × SeenResolves sections c
some_controller bytes sections spelled whole =
    let c = some_read sections (sections_within bytes sections spelled) whole in
    (c.0, c.1.resolves)

-- and its denominator is within the limit
pub some_scaled : (bytes : List ℕ) (sections : Sections) → IsText bytes sections → IsUnbroken sections
    → (c : SeenController) × (SeenResolves sections c × IsScale (unsigned_abs c.den))
some_scaled bytes sections spelled whole =
    let c = some_read sections (sections_within bytes sections spelled) whole in
    let d = c.1.within in
    (c.0, (c.1.resolves, subst IsScale (sym (ap unsigned_abs d.1)) d.2.scale))
