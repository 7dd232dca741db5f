-- Bytes are a controller's text or have one first broken rule, in what is read and in what is resolved alike.
use Rattle.std.proofs.Common.{◌≡◌, ℕ, ◌⊎◌, ⊎_elim, inl, inr, Ok, Err, List, refl, subst}
use Rattle.text_lines.specs.Steps.{Fails}
use Rattle.whole.specs.declared.answers.ReadFault.{ReadFault}
use Rattle.whole.specs.declared.answers.ReadFault.TheVariants.{NoMemory, Refused}
use Rattle.whole.specs.declared.answers.Refusal.{Refusal}
use Rattle.ctrl_syntax.specs.Grammar.{IsText}
use Rattle.ctrl_syntax.specs.Refused.{IsRefused}
use Rattle.ctrl_syntax.specs.Sections.{Sections, sections_of}
use Rattle.ctrl_syntax.specs.declared.syntax.Syntax.{Syntax}
use Rattle.ctrl_syntax.proofs.Exactness as exactness
use Rattle.ctrl_types.specs.Resolved.{RefusesUnless}
use Rattle.ctrl_types.specs.Resolving.{SeenController}
use Rattle.ctrl_types.specs.Statements.{IsFirstBroken, IsUnbroken}
use Rattle.ctrl_types.specs.declared.controllers.Controller.{Controller}
use Rattle.ctrl_types.proofs.FirstLaws.{first_broken_is_one, never_both}
use Rattle.ctrl_types.proofs.ResolveLaws.{either_statements, some_controller}
use Rattle.asked.specs.Texts.{IsControllerRefused, IsControllerText, MeansController, unread, unresolved}

-- ---- what the bytes spell

module _ (bytes : List ℕ) (s : Sections) (found : IsText bytes s) where
  pub unbroken_here : (t : Sections) → IsText bytes t → IsUnbroken t → IsUnbroken s
  unbroken_here t is whole = subst (λ (x : Sections). IsUnbroken x) (exactness.one_text bytes t s is found) whole

  pub broken_here : (r : Refusal) → IsControllerRefused bytes r → IsFirstBroken s r
  broken_here r (unread is) = absurd (exactness.not_both bytes r s is found)
  broken_here r (unresolved t is broken) = subst (λ (x : Sections). IsFirstBroken x r) (exactness.one_text bytes t s is found) broken

-- ---- what is not read, or not resolved

fails_nowhere : (fault : ReadFault) (s : Sections) → Fails fault (Ok s) → fault ≡ NoMemory
fails_nowhere NoMemory s gives = refl
fails_nowhere (Refused r) s gives = absurd (cc)

fails_never : (X : Type 0) (fault : ReadFault) (s : Sections) (r : Refusal) → Fails fault (Ok s) → RefusesUnless {X = X} r (Err fault)
fails_never X NoMemory s r gives = tt
fails_never X (Refused t) s r gives = absurd (cc)

fails_so : (X : Type 0) (fault : ReadFault) (r : Refusal) → Fails {Y = Sections} fault (Err r) → RefusesUnless {X = X} r (Err fault)
fails_so X NoMemory r gives = tt
fails_so X (Refused t) r gives = cc

module _ (bytes : List ℕ) (fault : ReadFault) (only : (s : Sections) → IsText bytes s → Fails fault (Ok s)) where
  pub unread_only : (s : Sections) → IsText bytes s → fault ≡ NoMemory
  unread_only s is = fails_nowhere fault s (only s is)

  pub unread_first : (X : Type 0) → ((r : Refusal) → IsRefused bytes r → Fails {Y = Sections} fault (Err r)) → (r : Refusal) → IsControllerRefused bytes r → RefusesUnless {X = X} r (Err fault)
  unread_first X first r (unread is) = fails_so X fault r (first r is)
  unread_first X first r (unresolved s is broken) = fails_never X fault s r (only s is)

-- a fault of a call that gives something else
pub refuses_too : (X Y : Type 0) (fault : ReadFault) (r : Refusal) → RefusesUnless {X = X} r (Err fault) → RefusesUnless {X = Y} r (Err fault)
refuses_too X Y NoMemory r refuses = tt
refuses_too X Y (Refused s) r refuses = refuses

-- ---- a controller's text is none that is refused, and what is refused has one refusal

pub one_refusal : (bytes : List ℕ) (r s : Refusal) → IsControllerRefused bytes r → IsControllerRefused bytes s → r ≡ s
one_refusal bytes r s (unread one) (unread two) = exactness.one_refusal bytes r s one two
one_refusal bytes r s (unread one) (unresolved t is broken) = absurd (exactness.not_both bytes r t one is)
one_refusal bytes r s (unresolved t is broken) two = first_broken_is_one t r s broken (broken_here bytes t is s two)

pub not_both : (bytes : List ℕ) (syntax : Syntax) (c : Controller) (r : Refusal) → IsControllerText bytes syntax c → IsControllerRefused bytes r → ⊥
not_both bytes syntax c r text refused = never_both (sections_of syntax) r (broken_here bytes (sections_of syntax) text.spelled r refused) text.unbroken

-- bytes are a controller's text, or they are refused
pub either_controller : (bytes : List ℕ) → ((c : SeenController) × MeansController bytes c) ⊎ ((r : Refusal) × IsControllerRefused bytes r)
either_controller bytes = ⊎_elim (λ p. spelled p.0 p.1) (λ p. inr (p.0, unread p.1)) (exactness.either_text bytes)
  where
    spelled : (s : Sections) → IsText bytes s → ((c : SeenController) × MeansController bytes c) ⊎ ((r : Refusal) × IsControllerRefused bytes r)
    spelled s text = ⊎_elim whole (λ p. inr (p.0, unresolved s text p.1)) (either_statements s)
      where
        whole : IsUnbroken s → ((c : SeenController) × MeansController bytes c) ⊎ ((r : Refusal) × IsControllerRefused bytes r)
        whole unbroken = let c = some_controller bytes s text unbroken in inl (c.0, record { sections = s; spelled = text; unbroken = unbroken; resolved = c.1 })
