-- What a text says for a controller it says alone, and a refusal of the bytes is the only one.
use Rattle.std.proofs.Common.{◌≡◌, ℕ, unsigned_abs, List, Result, Ok, Err, ◌⊎◌, ⊎_elim, inl, inr, refl, sym, subst, ◌∙◌}
use Rattle.whole.specs.declared.answers.Refusal.{Refusal}
use Rattle.ctrl_types.specs.declared.controllers.Controller.{Controller}
use Rattle.ctrl_types.specs.Denominators.{IsScale}
use Rattle.ctrl_types.specs.Limits.{IsController}
use Rattle.question_syntax.specs.Grammar.{IsText}
use Rattle.question_syntax.proofs.ConditionLimits.{question_within}
use Rattle.question_syntax.specs.Sections.{Sections}
use Rattle.question_syntax.proofs.Exactness as syntax
use Rattle.question_text.specs.Resolution.{resolved_by}
use Rattle.question_text.specs.StatementRules.{IsFirstBroken, IsUnbroken, Resolves, SeenQuestion, judged, statements}
use Rattle.question_text.specs.Texts.{IsRefused, IsTextOf}
use Rattle.weighing.proofs.Events.{all_passed, first_is}
use Rattle.question_text.proofs.TextLaws.{broken, controller_scale, given, not_stopped, same_question, stopped_same}

module _ (c : Controller) where
  one_broken : (t : Sections) (r d : Refusal) → IsFirstBroken c t r → IsFirstBroken c t d → r ≡ d
  one_broken t r d one two =
      stopped_same r d (sym (first_is (judged c t.setting) (statements t) r one) ∙ first_is (judged c t.setting) (statements t) d two)

  broken_or_not : (t : Sections) (r : Refusal) → IsFirstBroken c t r → IsUnbroken c t → ⊥
  broken_or_not t r broken unbroken =
      not_stopped r (sym (all_passed (judged c t.setting) (statements t) unbroken) ∙ first_is (judged c t.setting) (statements t) r broken)

  module _ (bytes : List ℕ) where
    pub one_question : (p q : SeenQuestion) → IsTextOf c bytes p → IsTextOf c bytes q → p ≡ q
    one_question p q one two =
        let same : two.sections ≡ one.sections = syntax.one_text bytes two.sections one.sections two.spelled one.spelled in
        same_question c one.sections p q one.resolved (subst (λ (t : Sections). Resolves c t q) same two.resolved)

    pub one_refusal : (r d : Refusal) → IsRefused c bytes r → IsRefused c bytes d → r ≡ d
    one_refusal r d (inl one) (inl two) = syntax.one_refusal bytes r d one two
    one_refusal r d (inl one) (inr two) = absurd (syntax.not_both bytes r two.sections one two.spelled)
    one_refusal r d (inr one) (inl two) = absurd (syntax.not_both bytes d one.sections two one.spelled)
    one_refusal r d (inr one) (inr two) =
        let same : two.sections ≡ one.sections = syntax.one_text bytes two.sections one.sections two.spelled one.spelled in
        one_broken one.sections r d one.broken (subst (λ (t : Sections). IsFirstBroken c t d) same two.broken)

    pub not_both : (r : Refusal) (q : SeenQuestion) → IsRefused c bytes r → IsTextOf c bytes q → ⊥
    not_both r q (inl refused) is = syntax.not_both bytes r is.sections refused is.spelled
    not_both r q (inr breaks) is =
        let same : breaks.sections ≡ is.sections = syntax.one_text bytes breaks.sections is.sections breaks.spelled is.spelled in
        broken_or_not is.sections r (subst (λ (t : Sections). IsFirstBroken c t r) same breaks.broken) is.unbroken

-- bytes are a question's text for the controller, or they are refused
pub either_scaled : (c : Controller) (bytes : List ℕ) → IsScale (unsigned_abs c.den) → ((q : SeenQuestion) × IsTextOf c bytes q) ⊎ ((r : Refusal) × IsRefused c bytes r)
either_scaled c bytes scale = ⊎_elim (λ p. spelled p.0 p.1) (λ p. inr (p.0, inl p.1)) (syntax.either_text bytes)
  where
    spelled : (t : Sections) → IsText bytes t → ((q : SeenQuestion) × IsTextOf c bytes q) ⊎ ((r : Refusal) × IsRefused c bytes r)
    spelled t text = by (resolved_by c t) refl
      where
        by : (x : Result SeenQuestion Refusal) → resolved_by c t ≡ x → ((q : SeenQuestion) × IsTextOf c bytes q) ⊎ ((r : Refusal) × IsRefused c bytes r)
        by (Ok q) e =
            let it = given c scale t q (question_within bytes t text) e in
            inl (q, record { sections = t; spelled = text; unbroken = it.unbroken; resolved = it.resolved })
        by (Err r) e = inr (r, inr (record { sections = t; spelled = text; broken = broken c scale t r (question_within bytes t text) e }))

pub either_question : (c : Controller) (bytes : List ℕ) → IsController c → ((q : SeenQuestion) × IsTextOf c bytes q) ⊎ ((r : Refusal) × IsRefused c bytes r)
either_question c bytes is = either_scaled c bytes (controller_scale c is)
