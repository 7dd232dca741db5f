-- What the drawn texts mean is small.
use Rattle.std.proofs.Common.{◌≡◌, ℕ, zero, suc, ◌≤◌, Option, Some, None, List, [], ◌∷◌, map, length, get_or, refl, sym, ap, subst, ◌∙◌, arith}
use Rattle.std.specs.List.{AllZip}
use Rattle.std.proofs.lemmas.Int.{ints}
use Rattle.std.proofs.lemmas.List.{length-map}
use Rattle.weighing.specs.declared.weighings.Rel5.{Rel5}
use Rattle.weighing.specs.declared.weighings.Rel5.TheVariants.{AtLeast, Above}
use Rattle.condition_syntax.specs.Trees as written
use Rattle.path_server.specs.declared.settings.Setting.{Setting}
use Rattle.ctrl_syntax.specs.declared.syntax.StateLine.{StateLine}
use Rattle.ctrl_syntax.specs.declared.syntax.Syntax.{Syntax}
use Rattle.ctrl_syntax.specs.Sections.{Rule as WrittenRule, Sections as ControllerSections, sections_of}
use Rattle.ctrl_syntax.proofs.Exactness as controllers
use Rattle.ctrl_types.specs.Limits.{no_rule}
use Rattle.ctrl_types.specs.Resolved.{GuardMeans, Means, RateMeans, Resolves, RuleMeans, greatest_delay, rules_delay}
use Rattle.ctrl_types.specs.Resolved as means
use Rattle.ctrl_types.specs.Resolving.{rule_seen, state_of}
use Rattle.ctrl_types.specs.Tests.{Test, always, test_of, test_step}
use Rattle.ctrl_types.specs.declared.controllers.Controller.{Controller}
use Rattle.ctrl_types.specs.declared.controllers.Rule.{Rule}
use Rattle.ctrl_types.specs.declared.controllers.State.{State}
use Rattle.ctrl_types.specs.declared.expressions.Lin.{Lin}
use Rattle.ctrl_types.specs.declared.gates.Gate.TheOpen.{Gate-F}
use Rattle.ctrl_types.specs.declared.gates.Gate.TheFolds.{fold-roll-Gate}
use Rattle.ctrl_types.specs.declared.gates.Gate.TheVariants.{True, rolls-True}
use Rattle.question_syntax.specs.Sections.{Sections as QuestionSections, SameButLines, Wanted, wanted_at}
use Rattle.question_syntax.proofs.Exactness as questions
use Rattle.question_text.specs.Conditions.{Condition, comparison, condition_of}
use Rattle.question_text.specs.NamedValues.{each_found}
use Rattle.question_text.specs.StatementRules.{Resolves as QuestionResolves, compared, meant, question_seen}
use Rattle.question_text.specs.declared.conditions.QCond.{QCond}
use Rattle.question_text.specs.declared.conditions.QLin.{QLin}
use Rattle.question_text.specs.declared.questions.Question.{Question}
use Rattle.asked.specs.Asked.{AreAsked}
use Rattle.asked.specs.Texts.{IsControllerText}
use Rattle.ctrl_gen.specs.Problems.{Problem, problem_of, controller_of, controller_text, question_of, question_text, serves_at_least, setting_of}
use Rattle.made_problems.proofs.Numbered.{Numbered, none, next}
use Rattle.made_problems.proofs.Shapes.{IsGuard, lost, acked, waits, rule, AreRules, otherwise, before, AreFew, one, two, three, AreSections, sections}
use Rattle.made_problems.proofs.Drawn.{controller_drawn}
use Rattle.made_problems.proofs.DrawnTexts.{drawn_printed}
use Rattle.made_problems.proofs.Bounds.{IsBounded, problem_bounded}
use Rattle.made_problems.proofs.QuestionTexts.{question_printed}
use Rattle.made_sizes.specs.Drawn.{IsPlain, IsFew, IsSmall}
use Rattle.made_sizes.specs.Drawn as drawn

-- ---- guards

-- a condition of one comparison by `>`, or of one test of delay
abbrev IsOneTest : written.Condition → Type 0
IsOneTest written.always = ⊥
IsOneTest written.never = ⊥
IsOneTest (written.leaf (written.compares left rel right)) = rel ≡ Above
IsOneTest (written.leaf (written.delayed q)) = Unit {0}
IsOneTest (written.opposite c) = ⊥
IsOneTest written.end_of_all = ⊥
IsOneTest (written.all_of c rest) = ⊥
IsOneTest written.end_of_any = ⊥
IsOneTest (written.any_of c rest) = ⊥

guard_is_one : (d : written.Condition) → IsGuard d → IsOneTest d
guard_is_one d lost = refl
guard_is_one d (acked c to) = refl
guard_is_one d (waits k to) = tt

above_is_plain : (x y : Lin) (rel : Rel5) → rel ≡ Above → IsPlain (written.leaf (written.compares x rel y))
above_is_plain x y rel is = subst (λ (r : Rel5). IsPlain (written.leaf (written.compares x r y))) (sym is) (drawn.above x y)

plain_guard : (states : List StateLine) (d : written.Condition) (t : Test) → IsOneTest d → Means states d t → IsPlain t
plain_guard states d t is means.always = absurd is
plain_guard states d t is means.never = absurd is
plain_guard states d t is (means.comparison {x = x} {y = y} rel left right) = above_is_plain x y rel is
plain_guard states d t is (means.delay q) = drawn.waits _
plain_guard states d t is (means.opposite c) = absurd is
plain_guard states d t is means.end_of_all = absurd is
plain_guard states d t is (means.all_of c rest) = absurd is
plain_guard states d t is means.end_of_any = absurd is
plain_guard states d t is (means.any_of c rest) = absurd is

guard_looks_back : (d : written.Condition) (k : ℕ) → IsGuard d → k ≤ 2 → greatest_delay k d ≤ 2
guard_looks_back d k lost to = to
guard_looks_back d k (acked c c_to) to = to
guard_looks_back d k (waits m m_to) to = omega (arith, ints)

rules_look_back : {n count : ℕ} {rules : List WrittenRule} (k : ℕ) → AreRules n count rules → k ≤ 2 → rules_delay k rules ≤ 2
rules_look_back k (otherwise line) to = to
rules_look_back k (before (rule {guard = d} line guarded sets) rest) to = rules_look_back (greatest_delay k d) rest (guard_looks_back d k guarded to)

-- ---- rules

true_test : test_of True ≡ always
true_test = ap test_of (sym rolls-True) ∙ fold-roll-Gate Test test_step Gate-F.True

record ZippedFew (count : ℕ) (rules : List Rule) : Type 0 where
  many : length rules ≡ suc count
  last : test_of (get_or rules count no_rule).guard ≡ always
  plain : (k : ℕ) → IsPlain (test_of (get_or rules k no_rule).guard)

plain_always : (t : Test) → t ≡ always → IsPlain t
plain_always t is = subst IsPlain (sym is) drawn.otherwise

module _ (states : List StateLine) where
  last_rule : (line : ℕ) (r : Rule) → RuleMeans states (record { guard = None; sets = []; line = line }) (rule_seen r) → ZippedFew zero (r ∷ [])
  last_rule line r means = record { many = refl; last = means.guard; plain = plain }
    where
      plain : (k : ℕ) → IsPlain (test_of (get_or (r ∷ []) k no_rule).guard)
      plain zero = plain_always (test_of r.guard) means.guard
      plain (suc k) = plain_always (test_of True) true_test

  first_rule : (count : ℕ) (r : Rule) (rules : List Rule) → IsPlain (test_of r.guard) → ZippedFew count rules → ZippedFew (suc count) (r ∷ rules)
  first_rule count r rules here rest = record { many = (let many = rest.many in omega arith); last = rest.last; plain = plain }
    where
      plain : (k : ℕ) → IsPlain (test_of (get_or (r ∷ rules) k no_rule).guard)
      plain zero = here
      plain (suc k) = rest.plain k

  zipped_few : {n count : ℕ} {lines : List WrittenRule} → AreRules n count lines → (rules : List Rule)
      → AllZip (RuleMeans states) lines (map rule_seen rules) → ZippedFew count rules
  zipped_few (otherwise line) [] pairs = absurd pairs
  zipped_few (otherwise line) (r ∷ []) pairs = last_rule line r pairs.0
  zipped_few (otherwise line) (r ∷ s ∷ rules) pairs = absurd pairs.1
  zipped_few (before (rule line guarded sets) rest) [] pairs = absurd pairs
  zipped_few (before {count} (rule {guard = d} line guarded sets) rest) (r ∷ rules) pairs =
      first_rule count r rules (plain_guard states d (test_of r.guard) (guard_is_one d guarded) pairs.0.guard) (zipped_few rest rules pairs.1)

-- ---- the controller

few_to : {n : ℕ} → AreFew n → n ≤ 3
few_to one = omega arith
few_to two = omega arith
few_to three = omega arith

numbered_length : {X : Type 0} {Is : ℕ → X → Type 0} {k n : ℕ} {xs : List X} → Numbered Is k n xs → length xs ≡ n
numbered_length none = refl
numbered_length (next first rest) = let others = numbered_length rest in omega arith

no_rate : (states : List StateLine) (rate : Option Lin) → RateMeans states None rate → rate ≡ None
no_rate states None means = refl
no_rate states (Some lin) means = absurd means

sections_few : (s : ControllerSections) (c : Controller) → AreSections s → Resolves s c → IsFew c
sections_few s c (sections {states} {rules} line few states_are count_to rules_are) resolved =
    let zipped = zipped_few states rules_are c.rules resolved.rules in
    let n_to = few_to few in
    let many = numbered_length states_are in
    let same : length c.states ≡ length (map state_of states) = ap (λ (xs : List State). length xs) resolved.states in
    let mapped : length (map state_of states) ≡ length states = length-map states state_of in
    let delays = rules_look_back 0 rules_are (omega arith) in
    let delay = resolved.delay_max in
    record {
      states_to = omega arith;
      before = _;
      before_to = count_to;
      count = zipped.many;
      last = zipped.last;
      plain = zipped.plain;
      delay_to = omega arith;
      rate = no_rate states c.rate resolved.rate;
    }

controller_few : (seed : ℕ) (syntax : Syntax) (c : Controller) → IsControllerText (controller_text seed) syntax c → IsFew c
unfolding controller_text
controller_few seed syntax c is =
    let text = drawn_printed (controller_of (problem_of seed)) (controller_drawn seed) in
    let same : sections_of syntax ≡ text.read = controllers.one_text (controller_text seed) (sections_of syntax) text.read is.spelled text.spelled in
    sections_few text.read c text.shaped (subst (λ (s : ControllerSections). Resolves s c) same is.resolved)

-- ---- the question

none_left : (ws : List Wanted) → [] ≡ map (wanted_at 0) ws → ws ≡ []
none_left [] e = refl
none_left (w ∷ ws) e = absurd (cc)

none_found : (cs : List Condition) → ◌≡◌ {A = Option (List Condition)} (Some []) (Some cs) → cs ≡ []
none_found cs e = cc

none_seen : (cs : List QCond) → map condition_of cs ≡ [] → cs ≡ []
none_seen [] e = refl
none_seen (c ∷ cs) e = absurd (cc)

same_condition : (c d : Condition) → ◌≡◌ {A = Option Condition} (Some c) (Some d) → d ≡ c
same_condition c d e = cc

record ComparesAtLeast (c : Condition) : Type 0 where
  left : QLin
  right : QLin
  is : c ≡ comparison left AtLeast right

one_comparison : (left right : Option QLin) (c : Condition) → compared AtLeast left right ≡ Some c → ComparesAtLeast c
one_comparison None right c e = absurd (cc)
one_comparison (Some left) None c e = absurd (cc)
one_comparison (Some left) (Some right) c e = record { left = left; right = right; is = same_condition (comparison left AtLeast right) c e }

module _ (c : Controller) (q : Question) (p : Problem) (steps : ℕ) (is : IsBounded p) (to : steps ≤ 32) where
  -- the question's assumptions are those of these conditions
  abbrev FoundIn : Setting → List written.Condition → Type 0
  FoundIn s conditions = each_found (meant c.states s) conditions ≡ Some (map condition_of q.assumes)

  -- what the sections mean that the question's are but for line numbers
  asked_small : (t : QuestionSections) → SameButLines (question_of p steps) t → QuestionResolves c t (question_seen q) → IsFew c → IsSmall c q
  unfolding meant each_found
  asked_small t same resolved few =
      let setting : q.setting ≡ setting_of p steps = resolved.setting ∙ ap (λ (s : QuestionSections). s.setting) (sym same) in
      let flows : q.setting.flows ≡ p.flows = ap (λ (s : Setting). s.flows) setting in
      let last : q.setting.steps ≡ steps = ap (λ (s : Setting). s.steps) setting in
      let rtt : q.setting.rtt ≡ p.rtt = ap (λ (s : Setting). s.rtt) setting in
      let lines : t.assumes ≡ [] = none_left t.assumes (ap (λ (s : QuestionSections). s.assumes) same) in
      let found = subst (λ (ws : List Wanted). FoundIn t.setting (map (λ (w : Wanted). w.cond) ws)) lines resolved.assumes in
      let cond : t.require.cond ≡ serves_at_least steps p.least = ap (λ (s : QuestionSections). s.require.cond) (sym same) in
      let means = subst (λ (d : written.Condition). meant c.states t.setting d ≡ Some (condition_of q.require)) cond resolved.require in
      let one = one_comparison _ _ (condition_of q.require) means in
      let flows_from = is.flows_from in
      let flows_to = is.flows_to in
      let rtt_to = is.rtt_to in
      record {
        controller = few;
        flows_from = omega arith;
        flows_to = omega arith;
        steps_to = omega arith;
        rtt_to = omega arith;
        assumes = none_seen q.assumes (none_found (map condition_of q.assumes) found);
        left = one.left;
        right = one.right;
        require = one.is;
      }

pub drawn_small : (seed size : ℕ) → 1 ≤ size → size ≤ 32 → (c : Controller) (q : Question) → AreAsked (controller_text seed) (question_text seed size) c q
    → IsSmall c q
unfolding question_text
drawn_small seed size from to c q asked =
    let few = controller_few seed asked.syntax c asked.controller_is in
    let bounded = problem_bounded seed in
    let text = question_printed (problem_of seed) size bounded from to in
    let spelled = asked.question_is.spelled in
    let same : spelled.sections ≡ text.read = questions.one_text (question_text seed size) spelled.sections text.read spelled.spelled text.spelled in
    asked_small c q (problem_of seed) size bounded to text.read text.same
    (subst (λ (t : QuestionSections). QuestionResolves c t (question_seen q)) same spelled.resolved) few
