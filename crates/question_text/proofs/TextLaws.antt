-- What a text of a question gives, and what it is refused for.
use Rattle.std.proofs.Common.{◌≡◌, ℕ, Some, inl, inr, Result, Ok, Err, List, [], ◌∷◌, refl, sym, ap, subst, ◌∙◌, arith}
use Rattle.std.specs.Prelude.{All, IfOk, IsErrOf, unsigned_abs, length}
use Rattle.std.proofs.lemmas.Int.{ints}
use Rattle.std.proofs.lemmas.List.Elements.{All-nil, All-cons, All-head, All-tail}
use Rattle.text_lines.specs.Steps.{Fails}
use Rattle.whole.specs.declared.answers.ReadFault.{ReadFault}
use Rattle.whole.specs.declared.answers.ReadFault.TheVariants.{Refused, NoMemory}
use Rattle.whole.specs.declared.answers.Refusal.{Refusal}
use Rattle.weighing.specs.First.{first}
use Rattle.weighing.proofs.Events.{all_passed, each_passed, first_is, first_is_first}
use Rattle.path_server.specs.declared.settings.Setting.{Setting}
use Rattle.ctrl_syntax.specs.Views.{GivesSeenUnless}
use Rattle.ctrl_types.specs.Denominators.{IsScale}
use Rattle.ctrl_types.specs.Limits.{IsController}
use Rattle.ctrl_types.specs.declared.controllers.Controller.{Controller}
use Rattle.ctrl_types.proofs.EndAlike.{Agrees, fine, stops}
use Rattle.question_syntax.specs.Grammar.{IsText}
use Rattle.question_syntax.specs.Limits.{IsQuestion as IsQuestionText, IsWanted}
use Rattle.question_syntax.specs.Refused as syntax
use Rattle.question_syntax.specs.Sections.{Sections, Wanted, all_wanted_of, sections_of, wanted_of}
use Rattle.question_syntax.specs.declared.syntax.ConditionLine.{ConditionLine}
use Rattle.question_syntax.specs.declared.syntax.QuestionSyntax.{QuestionSyntax}
use Rattle.condition_syntax.specs.Trees as written
use Rattle.question_syntax.proofs.Exactness.{one_text, not_both}
use Rattle.question_syntax.proofs.ConditionLimits.{question_within}
use Rattle.question_text.specs.Conditions.{Condition}
use Rattle.question_text.specs.StatementRules.{IsFirstBroken, IsUnbroken, Resolves, SeenQuestion, judged, question_seen, statements}
use Rattle.question_text.specs.Limits.{IsQuestion}
use Rattle.question_text.specs.Resolution.{IsAsked, IsAskedText, resolved_by}
use Rattle.question_text.specs.declared.questions.Question.{Question}
use Rattle.question_text.specs.Texts.{IsRefused, IsTextOf}
use Rattle.question_text.proofs.LineAgreement.{EachAskedWanted, IsRead, text_agrees}
use Rattle.question_text.proofs.QuestionLimits.{IsSeenQuestion, question_within as question_limits, seen_within}

-- ---- equal answers

some_is : {X : Type 0} (x y : X) → Some x ≡ Some y → x ≡ y
some_is x y e = cc

pub not_stopped : (r : Refusal) → ◌≡◌ {A = Result (Unit {0}) Refusal} (Ok tt) (Err r) → ⊥
not_stopped r e = cc

pub stopped_same : (r d : Refusal) → ◌≡◌ {A = Result (Unit {0}) Refusal} (Err r) (Err d) → r ≡ d
stopped_same r d e = cc

-- ---- faults of the syntax

abbrev ok_of : Sections → Result Sections Refusal
ok_of t = Ok t

abbrev err_of : Refusal → Result Sections Refusal
err_of r = Err r

no_text : (fault : ReadFault) (t : Sections) (q : SeenQuestion) → Fails fault (ok_of t) → Fails {Y = SeenQuestion} fault (Ok q)
no_text NoMemory t q e = tt
no_text (Refused r) t q e = absurd (cc)

no_text_at : (fault : ReadFault) (t : Sections) (d : Refusal) → Fails fault (ok_of t) → Fails {Y = SeenQuestion} fault (Err d)
no_text_at NoMemory t d e = tt
no_text_at (Refused r) t d e = absurd (cc)

same_fault : (fault : ReadFault) (d : Refusal) → Fails fault (err_of d) → Fails {Y = SeenQuestion} fault (Err d)
same_fault NoMemory d e = tt
same_fault (Refused r) d e = let same : d ≡ r = cc in ap (λ (x : Refusal). Err x) same

abbrev seen : Setting → List Condition → Condition → SeenQuestion
seen setting assumes require = record { setting = setting; assumes = assumes; require = require }

-- ---- what a text gives

pub same_question : (c : Controller) (t : Sections) (p q : SeenQuestion) → Resolves c t p → Resolves c t q → p ≡ q
same_question c t p q one two =
    let settings : p.setting ≡ q.setting = one.setting ∙ sym two.setting in
    let assumes : p.assumes ≡ q.assumes = some_is p.assumes q.assumes (sym one.assumes ∙ two.assumes) in
    let require : p.require ≡ q.require = some_is p.require q.require (sym one.require ∙ two.require) in
    ap (λ (x : Setting). seen x p.assumes p.require) settings ∙ ap (λ (x : List Condition). seen q.setting x p.require) assumes ∙ ap (seen q.setting q.assumes) require

pub controller_scale : (c : Controller) → IsController c → IsScale (unsigned_abs c.den)
controller_scale c controller =
    let from = controller.den_from in
    let to = controller.den_to in
    record { from = omega (arith, ints); to = omega (arith, ints) }

module _ (c : Controller) (scale_of : IsScale (unsigned_abs c.den)) where
  asked_lines : (s : Setting) (ws : List Wanted) → All IsWanted ws → EachAskedWanted c s ws
  asked_lines s [] each = tt
  asked_lines s (w ∷ ws) each = let here = All-head IsWanted w ws each in ((here.each_expr, here.no_delay), asked_lines s ws (All-tail IsWanted w ws each))

  pub agrees_on : (t : Sections) → IsQuestionText t → Agrees (IsRead c t) (resolved_by c t) (first (judged c t.setting) (statements t))
  agrees_on t is =
      text_agrees c t scale_of is.setting (record { assumes = asked_lines t.setting t.assumes is.each_assume; require = (is.require.each_expr, is.require.no_delay) })

  resolves : (t : Sections) (q : SeenQuestion) → IsRead c t q → Resolves c t q
  resolves t q read = record { setting = read.setting; assumes = read.assumes.mean; require = read.require.means }

  -- the question of a text is resolved
  pub record IsGiven (t : Sections) (q : SeenQuestion) : Type 0 where
    pub unbroken : IsUnbroken c t
    pub resolved : Resolves c t q
    pub limits : IsSeenQuestion (length c.states) q

  pub given : (t : Sections) (q : SeenQuestion) → IsQuestionText t → resolved_by c t ≡ Ok q → IsGiven t q
  given t q is e = by (resolved_by c t) (first (judged c t.setting) (statements t)) (agrees_on t is) e refl
    where
      by : (r : Result SeenQuestion Refusal) (u : Result (Unit {0}) Refusal) → Agrees (IsRead c t) r u → r ≡ Ok q → first (judged c t.setting) (statements t) ≡ u → IsGiven t q
      by _ _ (fine x read) p passed =
          let same : x ≡ q = cc in
          let read_q = subst (IsRead c t) same read in
          record {
            unbroken = each_passed (judged c t.setting) (statements t) passed;
            resolved = resolves t q read_q;
            limits = seen_within c t q scale_of is.setting is.assumes_to (asked_lines t.setting t.assumes is.each_assume) is.require.each_expr read_q;
          }
      by _ _ (stops r) p stopped = absurd (cc)

  pub broken : (t : Sections) (r : Refusal) → IsQuestionText t → resolved_by c t ≡ Err r → IsFirstBroken c t r
  broken t r is e = by (resolved_by c t) (first (judged c t.setting) (statements t)) (agrees_on t is) e refl
    where
      by : (s : Result SeenQuestion Refusal) (u : Result (Unit {0}) Refusal) → Agrees (IsRead c t) s u → s ≡ Err r → first (judged c t.setting) (statements t) ≡ u → IsFirstBroken c t r
      by _ _ (fine x read) p passed = absurd (cc)
      by _ _ (stops d) p stopped =
          let same : d ≡ r = cc in
          first_is_first (judged c t.setting) (statements t) r (stopped ∙ ap (λ (x : Refusal). Err x) same)

  pub given_again : (t : Sections) (q : SeenQuestion) → IsQuestionText t → IsUnbroken c t → Resolves c t q → resolved_by c t ≡ Ok q
  given_again t q is unbroken resolved = by (resolved_by c t) (first (judged c t.setting) (statements t)) (agrees_on t is) refl refl
    where
      by : (r : Result SeenQuestion Refusal) (u : Result (Unit {0}) Refusal) → Agrees (IsRead c t) r u → resolved_by c t ≡ r → first (judged c t.setting) (statements t) ≡ u → r ≡ Ok q
      by _ _ (fine x read) p passed = ap (λ (y : SeenQuestion). Ok y) (same_question c t x q (resolves t x read) resolved)
      by _ _ (stops r) p stopped = absurd (not_stopped r (sym (all_passed (judged c t.setting) (statements t) unbroken) ∙ stopped))

  pub broken_again : (t : Sections) (r : Refusal) → IsQuestionText t → IsFirstBroken c t r → resolved_by c t ≡ Err r
  broken_again t r is first_broken = by (resolved_by c t) (first (judged c t.setting) (statements t)) (agrees_on t is) refl refl
    where
      by : (s : Result SeenQuestion Refusal) (u : Result (Unit {0}) Refusal) → Agrees (IsRead c t) s u → resolved_by c t ≡ s → first (judged c t.setting) (statements t) ≡ u → s ≡ Err r
      by _ _ (fine x read) p passed = absurd (not_stopped r (sym passed ∙ first_is (judged c t.setting) (statements t) r first_broken))
      by _ _ (stops d) p stopped =
          let same : d ≡ r = stopped_same d r (sym stopped ∙ first_is (judged c t.setting) (statements t) r first_broken) in
          ap (λ (x : Refusal). Err x) same

  -- ---- what a call gives behind the syntax of a text

  module _ (bytes : List ℕ) (t : Sections) (spelled : IsText bytes t) where
    text_is : IsQuestionText t
    text_is = question_within bytes t spelled

    pub behind_found : (r : Result Question ReadFault) → GivesSeenUnless question_seen r (resolved_by c t) → IfOk r (λ q. IsTextOf c bytes (question_seen q))
    behind_found (Ok q) e = let is = given t (question_seen q) text_is e in record { sections = t; spelled = spelled; unbroken = is.unbroken; resolved = is.resolved }
    behind_found (Err fault) e = tt

    pub behind_limits : (r : Result Question ReadFault) → GivesSeenUnless question_seen r (resolved_by c t) → IfOk r (λ q. IsQuestion (length c.states) q)
    behind_limits (Ok q) e = question_limits (length c.states) q (given t (question_seen q) text_is e).limits
    behind_limits (Err fault) e = tt

    pub behind_only : (r : Result Question ReadFault) → GivesSeenUnless question_seen r (resolved_by c t) → (q : SeenQuestion) → IsTextOf c bytes q → GivesSeenUnless question_seen r (Ok q)
    behind_only r e q is =
        let same : is.sections ≡ t = one_text bytes is.sections t is.spelled spelled in
        subst (GivesSeenUnless question_seen r) (given_again t q text_is (subst (IsUnbroken c) same is.unbroken) (subst (λ (u : Sections). Resolves c u q) same is.resolved)) e

    pub behind_refused : (r : Result Question ReadFault) → GivesSeenUnless question_seen r (resolved_by c t) → (d : Refusal) → IsErrOf r (Refused d) → IsRefused c bytes d
    behind_refused (Ok q) e d is = absurd (cc)
    behind_refused (Err NoMemory) e d is = absurd (cc)
    behind_refused (Err (Refused u)) e d is =
        let same : u ≡ d = cc in
        inr (record { sections = t; spelled = spelled; broken = broken t d text_is (e ∙ ap (λ (x : Refusal). Err x) same) })

    pub behind_first : (r : Result Question ReadFault) → GivesSeenUnless question_seen r (resolved_by c t) → (d : Refusal) → IsRefused c bytes d → GivesSeenUnless question_seen r (Err d)
    behind_first r e d (inl refused) = absurd (not_both bytes d t refused spelled)
    behind_first r e d (inr breaks) =
        let same : breaks.sections ≡ t = one_text bytes breaks.sections t breaks.spelled spelled in
        subst (GivesSeenUnless question_seen r) (broken_again t d text_is (subst (λ (u : Sections). IsFirstBroken c u d) same breaks.broken)) e

  -- ---- where there is no syntax

  module _ (bytes : List ℕ) (fault : ReadFault) (only : (t : Sections) → IsText bytes t → Fails fault (ok_of t)) where
    pub before_only : (q : SeenQuestion) → IsTextOf c bytes q → Fails {Y = SeenQuestion} fault (Ok q)
    before_only q is = no_text fault is.sections q (only is.sections is.spelled)

    pub before_first : ((d : Refusal) → syntax.IsRefused bytes d → Fails fault (err_of d)) → (d : Refusal) → IsRefused c bytes d → Fails {Y = SeenQuestion} fault (Err d)
    before_first refused d (inl is) = same_fault fault d (refused d is)
    before_first refused d (inr breaks) = no_text_at fault breaks.sections d (only breaks.sections breaks.spelled)

-- ---- what resolving a syntax asks

lines_asked : (lines : List ConditionLine) → All IsWanted (all_wanted_of lines) → All (λ (line : ConditionLine). IsAsked (written.condition_of line.cond)) lines
lines_asked [] each = All-nil (λ (line : ConditionLine). IsAsked (written.condition_of line.cond))
lines_asked (line ∷ lines) each =
    let here = All-head IsWanted (wanted_of line) (all_wanted_of lines) each in
    All-cons (λ (l : ConditionLine). IsAsked (written.condition_of l.cond)) line lines (here.each_expr, here.no_delay)
    (lines_asked lines (All-tail IsWanted (wanted_of line) (all_wanted_of lines) each))

pub syntax_asked : (syntax : QuestionSyntax) → IsQuestionText (sections_of syntax) → IsAskedText syntax
syntax_asked syntax is = record { assumes = lines_asked syntax.assumes is.each_assume; require = (is.require.each_expr, is.require.no_delay) }
