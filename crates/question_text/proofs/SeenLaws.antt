-- Which texts are those of questions for a controller depends on the controller only as it is seen, and what a question
-- claims of a run depends on the question only as it is seen.
use Rattle.run_rows.specs.Runs.{flow_count}
use Rattle.claims.specs.Subjects.{in_run}
use Rattle.std.proofs.Common.{◌≡◌, ℕ, Bool, List, [], Result, Ok, Some, map, inl, inr, refl, ap, subst}
use Rattle.std.specs.Prelude.{All}
use Rattle.whole.specs.declared.answers.Refusal.{Refusal}
use Rattle.whole.specs.declared.answers.Stuck.{Stuck}
use Rattle.condition_tree.specs.Trees as trees
use Rattle.weighing.specs.Claim.{outcome}
use Rattle.weighing.specs.First.{IsFirst}
use Rattle.run_rows.specs.declared.rows.Run.{Run}
use Rattle.path_server.specs.declared.settings.Setting.{Setting}
use Rattle.ctrl_types.specs.Resolving.{SeenController, controller_seen}
use Rattle.ctrl_types.specs.declared.controllers.Controller.{Controller}
use Rattle.ctrl_types.specs.declared.controllers.State.{State}
use Rattle.question_syntax.specs.Sections.{Sections, Wanted}
use Rattle.question_text.specs.Conditions.{conjunction}
use Rattle.question_text.specs.Expressions.{condition_claim}
use Rattle.question_text.specs.NamedValues.{each_found}
use Rattle.question_text.specs.StatementRules.{IsFirstBroken, IsUnbroken, Resolves, SeenQuestion, Statement, judged, meant, exceeds_limit, question_seen, statements}
use Rattle.question_text.specs.Texts.{BreaksFirst, IsRefused, IsTextOf}
use Rattle.question_text.specs.Violation.{rows_of, violation}
use Rattle.question_text.specs.declared.conditions.QCond.TheVariants.{True}
use Rattle.question_text.specs.declared.questions.Question.{Question}

-- ---- texts

abbrev Judge : Type 0
Judge = Setting → Statement → Result (Unit {0}) Refusal

-- what of a controller tells a question's texts: its states, and which statements it breaks
module _ (c d : Controller) (states_are : c.states ≡ d.states) (judged_are : judged c ≡ judged d) where
  unbroken_same : (s : Sections) → IsUnbroken c s → IsUnbroken d s
  unbroken_same s unbroken = subst (λ (judge : Judge). All (λ x. judge s.setting x ≡ Ok tt) (statements s)) judged_are unbroken

  broken_same : (s : Sections) (r : Refusal) → IsFirstBroken c s r → IsFirstBroken d s r
  broken_same s r broken = subst (λ (judge : Judge). IsFirst (judge s.setting) (statements s) r) judged_are broken

  resolved_same : (s : Sections) (q : SeenQuestion) → Resolves c s q → Resolves d s q
  resolved_same s q is = record {
    setting = is.setting;
    assumes = subst (λ (states : List State). each_found (meant states s.setting) (map (λ (w : Wanted). w.cond) s.assumes) ≡ Some q.assumes) states_are is.assumes;
    require = subst (λ (states : List State). meant states s.setting s.require.cond ≡ Some q.require) states_are is.require;
  }

  pub text_by : (bytes : List ℕ) (q : SeenQuestion) → IsTextOf c bytes q → IsTextOf d bytes q
  text_by bytes q is = record {
    sections = is.sections;
    spelled = is.spelled;
    unbroken = unbroken_same is.sections is.unbroken;
    resolved = resolved_same is.sections q is.resolved;
  }

  breaks_same : (bytes : List ℕ) (r : Refusal) → BreaksFirst c bytes r → BreaksFirst d bytes r
  breaks_same bytes r is = record { sections = is.sections; spelled = is.spelled; broken = broken_same is.sections r is.broken }

  pub refused_by : (bytes : List ℕ) (r : Refusal) → IsRefused c bytes r → IsRefused d bytes r
  refused_by bytes r (inl refused) = inl refused
  refused_by bytes r (inr breaks) = inr (breaks_same bytes r breaks)

-- what the statements of a question are judged by, of a controller as it is seen
abbrev judged_by : SeenController → Judge
judged_by x = judged (record { states = x.states; rules = []; window = x.window; rate = x.rate; delay_max = x.delay_max; den = x.den })

-- controllers that are seen the same
module _ (c d : Controller) (same : controller_seen c ≡ controller_seen d) where
  pub states_same : c.states ≡ d.states
  states_same = ap (λ (x : SeenController). x.states) same

  judged_same : judged c ≡ judged d
  unfolding judged exceeds_limit
  judged_same = ap judged_by same

  pub text_same : (bytes : List ℕ) (q : SeenQuestion) → IsTextOf c bytes q → IsTextOf d bytes q
  text_same = text_by c d states_same judged_same

  pub refused_same : (bytes : List ℕ) (r : Refusal) → IsRefused c bytes r → IsRefused d bytes r
  refused_same = refused_by c d states_same judged_same

-- without its rules a controller judges the same
pub judged_unruled : (c : Controller) → judged c ≡ judged (record { states = c.states; rules = []; window = c.window; rate = c.rate; delay_max = c.delay_max; den = c.den })
unfolding judged exceeds_limit
judged_unruled c = refl

-- ---- questions

-- a question of this setting that assumes and demands nothing
abbrev pub unasked : SeenQuestion → Question
unasked x = record { setting = x.setting; assumes = []; require = True }

-- what comes of weighing a question as it is seen
abbrev seen_violation : SeenQuestion → Run → Result Bool Stuck
seen_violation x r =
    outcome (rows_of (unasked x) r).last
    (trees.all_of (condition_claim (in_run r) (flow_count r 0) (rows_of (unasked x) r) (conjunction x.assumes)) (trees.opposite (condition_claim (in_run r) (flow_count r 0) (rows_of (unasked x) r) x.require)))

pub violation_same : (q p : Question) → question_seen q ≡ question_seen p → (r : Run) → violation q r ≡ violation p r
unfolding violation
violation_same q p same r = ap (λ (x : SeenQuestion). seen_violation x r) same
