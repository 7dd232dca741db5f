-- A text that is resolved, and what is asked of its statements in order.
use Rattle.std.proofs.Common.{◌≡◌, ℕ, pos, Bool, false, not, Option, Some, None, Result, List, [], ◌∷◌, ◌++◌, map, append_assoc, refl, sym, ap, subst, ◌∙◌, arith}
use Rattle.std.specs.Prelude.{All, is_none}
use Rattle.std.specs.List.{list_any, flat_map, AllZip}
use Rattle.std.proofs.lemmas.List.{append-nil}
use Rattle.std.proofs.lemmas.List.Elements.{All-nil, All-cons, All-head, All-tail}
use Rattle.weighing.specs.First.{and_then, first}
use Rattle.weighing.specs.declared.scales.Num.{Num}
use Rattle.weighing.proofs.Events.{first-append}
use Rattle.whole.specs.declared.answers.Refusal.{Refusal}
use Rattle.ctrl_syntax.specs.Limits.{AreSectionsWithin, IsRateLine, IsRuleWithin, IsSetLine, IsStateLine}
use Rattle.ctrl_syntax.specs.declared.syntax.StateLine.{StateLine}
use Rattle.ctrl_syntax.specs.declared.syntax.SetLine.{SetLine}
use Rattle.ctrl_syntax.specs.declared.syntax.RateLine.{RateLine}
use Rattle.ctrl_syntax.specs.Sections.{Rule, Sections}
use Rattle.ctrl_types.specs.declared.controllers.State.{State}
use Rattle.ctrl_types.specs.declared.expressions.Lin.{Lin}
use Rattle.ctrl_types.specs.declared.surveys.Totals.{Totals}
use Rattle.ctrl_types.specs.Names.{has_name, is_reserved, state_named}
use Rattle.ctrl_types.specs.Denominators.{least_common}
use Rattle.ctrl_types.specs.Resolved.{RateMeans, RuleMeans, SeenResolves, guard_delay, place_of, rules_delay}
use Rattle.ctrl_types.specs.Resolving.{Places, SeenController, SeenRule, controller_by, rate_by, rule_by, rules_by, sets_by, state_of, states_by, unset}
use Rattle.ctrl_types.specs.Statements.{LineContent, Statement, rule, assignment, window, any_delay, ends_otherwise, guard_numbers, in_guard, is_empty, is_unfit, sets_name, numbers, placed, rate_sayings, rule_sayings, sayings, set_sayings, state_sayings, statements}
use Rattle.ctrl_types.proofs.EndAlike.{Agrees, fine, agrees_then, agrees_map, agrees_weaker, agrees_line, judged}
use Rattle.ctrl_types.proofs.DenominatorLaws.{IsDen}
use Rattle.ctrl_types.proofs.StateLaws.{AreApart, AreDistinct, AreResolved, distinct, nothing_set, or_right}
use Rattle.ctrl_types.proofs.StatementLaws.{guard_agrees, rate_agrees, set_agrees, state_agrees, window_agrees}

-- ---- statements one after another

-- the numbers before what follows these lines
abbrev pub behind : List Num → List LineContent → List Num
behind before [] = before
behind before (x ∷ xs) = behind (before ++ numbers x) xs

pub behind-flat_map : (before : List Num) (xs : List LineContent) → behind before xs ≡ before ++ flat_map numbers xs
behind-flat_map before [] = sym (append-nil before)
behind-flat_map before (x ∷ xs) = behind-flat_map (before ++ numbers x) xs ∙ append_assoc before (numbers x) (flat_map numbers xs)

behind-append : (before : List Num) (xs ys : List LineContent) → behind before (xs ++ ys) ≡ behind (behind before xs) ys
behind-append before [] ys = refl
behind-append before (x ∷ xs) ys = behind-append (before ++ numbers x) xs ys

placed-append : (before : List Num) (xs ys : List LineContent) → placed before (xs ++ ys) ≡ placed before xs ++ placed (behind before xs) ys
placed-append before [] ys = refl
placed-append before (x ∷ xs) ys = ap (λ (ss : List Statement). record { says = x; before = before } ∷ ss) (placed-append (before ++ numbers x) xs ys)

abbrev pub asks : List StateLine → List Num → List LineContent → Result (Unit {0}) Refusal
asks states before xs = first (judged states) (placed before xs)

asks-append : (states : List StateLine) (before : List Num) (xs ys : List LineContent) → asks states before (xs ++ ys) ≡ and_then (asks states before xs) (asks states (behind before xs) ys)
asks-append states before xs ys =
    ap (first (judged states)) (placed-append before xs ys) ∙ first-append (judged states) (placed before xs) (placed (behind before xs) ys)

-- ---- states

record AreStates (earlier rest : List StateLine) (before : List Num) (x : List State × ℕ) : Type 0 where
  made : x.0 ≡ map state_of rest
  apart : AreApart earlier rest
  den : IsDen (behind before (state_sayings earlier rest)) x.1

states_agree : (states earlier rest : List StateLine) (before : List Num) (den : ℕ) → All IsStateLine rest → IsDen before den
    → Agrees (AreStates earlier rest before) (states_by earlier rest den) (asks states before (state_sayings earlier rest))
unfolding states_by
states_agree states earlier [] before den each is = fine ([], den) (record { made = refl; apart = tt; den = is })
states_agree states earlier (s ∷ rest) before den each is =
    agrees_then (agrees_line s.line (state_agrees states earlier s before den (All-head IsStateLine s rest each) is))
    (λ x one. agrees_map (states_agree states (earlier ++ s ∷ []) rest (before ++ (s.lo ∷ s.hi ∷ [])) x.1 (All-tail IsStateLine s rest each) one.den)
    (λ xs more. let head = one.made in let tail = more.made in fine (x.0 ∷ xs.0, xs.1) (record {
      made = cc;
      apart = (or_right (is_reserved s.name) (list_any (has_name s.name) earlier) one.free, more.apart);
      den = more.den;
    })))

-- ---- assignments

-- each line sets a state, which no earlier one has set
abbrev pub AreOnce : List StateLine → List SetLine → List SetLine → Type 0
AreOnce states earlier [] = Unit {0}
AreOnce states earlier (s ∷ rest) = (is_none (state_named states s.name) ≡ false) × (list_any (sets_name s.name) earlier ≡ false) × AreOnce states (earlier ++ s ∷ []) rest

record AreSets (states : List StateLine) (earlier rest : List SetLine) (before : List Num) (x : Places × ℕ) : Type 0 where
  places : x.0 ≡ map (place_of states (earlier ++ rest)) states
  resolved : AreResolved states (earlier ++ rest)
  once : AreOnce states earlier rest
  den : IsDen (behind before (set_sayings earlier rest)) x.1

sets_agree : (states : List StateLine) (earlier rest : List SetLine) (places : Places) (before : List Num) (den : ℕ)
    → AreDistinct states → AreResolved states earlier → places ≡ map (place_of states earlier) states → All IsSetLine rest → IsDen before den
    → Agrees (AreSets states earlier rest before) (sets_by states rest places den) (asks states before (set_sayings earlier rest))
unfolding sets_by
sets_agree states earlier [] places before den apart are filled each is =
    fine (places, den) (record { places = filled ∙ ap (λ (ls : List SetLine). map (place_of states ls) states) (sym (append-nil earlier)); resolved = subst (AreResolved states) (sym (append-nil earlier)) are; once = tt; den = is })
sets_agree states earlier (s ∷ rest) places before den apart are filled each is =
    agrees_then (agrees_line s.line (set_agrees states earlier s places before den apart are filled (All-head IsSetLine s rest each) is))
    (λ x one. agrees_weaker (sets_agree states (earlier ++ s ∷ []) rest x.0 (before ++ numbers (assignment earlier s)) x.1 apart one.resolved one.places (All-tail IsSetLine s rest each) one.den)
    (λ y more. record { places = more.places ∙ ap (λ (ls : List SetLine). map (place_of states ls) states) (append_assoc earlier (s ∷ []) rest); resolved = subst (AreResolved states) (append_assoc earlier (s ∷ []) rest) more.resolved; once = (one.known, one.once, more.once); den = more.den }))

-- ---- rules

-- what holds of a rule that breaks nothing
pub record IsSoundRule (states : List StateLine) (r : Rule) : Type 0 where
  pub fits : in_guard (any_delay is_unfit) r.guard ≡ false
  pub resolved : AreResolved states r.sets
  pub once : AreOnce states [] r.sets

record IsRuled (states : List StateLine) (is_last : Bool) (r : Rule) (totals : Totals) (before : List Num) (x : SeenRule × Totals) : Type 0 where
  means : RuleMeans states r x.0
  sound : IsSoundRule states r
  delay_max : x.1.delay_max ≡ guard_delay totals.delay_max r.guard
  den : IsDen (behind before (rule is_last r ∷ set_sayings [] r.sets)) x.1.den

rule_agrees : (states : List StateLine) (is_last : Bool) (r : Rule) (before : List Num) (totals : Totals) → AreDistinct states → IsRuleWithin r → IsDen before totals.den
    → Agrees (IsRuled states is_last r totals before) (rule_by states is_last r totals) (asks states before (rule is_last r ∷ set_sayings [] r.sets))
unfolding rule_by
rule_agrees states is_last r before totals apart line is =
    agrees_then (agrees_line r.line (guard_agrees states is_last r.guard r.sets r.line before totals line.guard is))
    (λ g guarded. agrees_map (sets_agree states [] r.sets (unset states) (before ++ guard_numbers r.guard) g.1.den apart tt (nothing_set states) line.each_set guarded.den)
    (λ s are. fine (record { guard = g.0; sets = s.0 }, record { delay_max = g.1.delay_max; den = s.1 }) (record {
      means = record { guard = guarded.means; sets = are.places };
      sound = record { fits = guarded.fits; resolved = are.resolved; once = are.once };
      delay_max = guarded.delay_max;
      den = are.den;
    })))

record AreRules (states : List StateLine) (rules : List Rule) (totals : Totals) (before : List Num) (x : List SeenRule × Totals) : Type 0 where
  means : AllZip (RuleMeans states) rules x.0
  sound : All (IsSoundRule states) rules
  delay_max : x.1.delay_max ≡ rules_delay totals.delay_max rules
  den : IsDen (behind before (rule_sayings rules)) x.1.den

rules_agree : (states : List StateLine) (rules : List Rule) (before : List Num) (totals : Totals) → AreDistinct states → All IsRuleWithin rules → IsDen before totals.den
    → Agrees (AreRules states rules totals before) (rules_by states rules totals) (asks states before (rule_sayings rules))
unfolding rules_by
rules_agree states [] before totals apart each is = fine ([], totals) (record { means = tt; sound = All-nil (IsSoundRule states); delay_max = refl; den = is })
rules_agree states (r ∷ rules) before totals apart each is =
    let here : List LineContent = rule (is_empty rules) r ∷ set_sayings [] r.sets in
    subst (Agrees (AreRules states (r ∷ rules) totals before) (rules_by states (r ∷ rules) totals)) (sym (asks-append states before here (rule_sayings rules)))
    (agrees_then (rule_agrees states (is_empty rules) r before totals apart (All-head IsRuleWithin r rules each) is)
    (λ x one. agrees_map (rules_agree states rules (behind before here) x.1 apart (All-tail IsRuleWithin r rules each) one.den)
    (λ xs more. fine (x.0 ∷ xs.0, xs.1) (record {
      means = (one.means, more.means);
      sound = All-cons (IsSoundRule states) r rules one.sound more.sound;
      delay_max = more.delay_max ∙ ap (λ k. rules_delay k rules) one.delay_max;
      den = subst (λ (ns : List Num). IsDen ns xs.1.den) (sym (behind-append before here (rule_sayings rules))) more.den;
    }))))

-- ---- the rate

record IsRated (states : List StateLine) (r : Option RateLine) (before : List Num) (x : Option Lin × ℕ) : Type 0 where
  means : RateMeans states r x.0
  den : IsDen (behind before (rate_sayings r)) x.1

rated_agree : (states : List StateLine) (r : Option RateLine) (before : List Num) (den : ℕ) → IsRateLine r → IsDen before den
    → Agrees (IsRated states r before) (rate_by states r den) (asks states before (rate_sayings r))
unfolding rate_by
rated_agree states None before den line is = fine (None, den) (record { means = tt; den = is })
rated_agree states (Some r) before den line is =
    agrees_then (agrees_line r.line (rate_agrees states r before den line is))
    (λ x one. fine (Some x.0, x.1) (record { means = one.found; den = one.den }))

-- ---- the whole text

pub record IsRead (sections : Sections) (c : SeenController) : Type 0 where
  pub resolves : SeenResolves sections c
  pub apart : AreDistinct sections.states
  pub sound : All (IsSoundRule sections.states) sections.rules
  pub ended : not (ends_otherwise sections.rules) ≡ false
  pub within : (d : ℕ) × (c.den ≡ pos d) × IsDen (flat_map numbers (sayings sections)) d

all_behind : (states : List StateLine) (rules : List Rule) (w : LineContent) (rates : List LineContent)
    → behind (behind (behind [] (state_sayings [] states)) (rule_sayings rules)) (w ∷ rates) ≡ flat_map numbers (state_sayings [] states ++ (rule_sayings rules ++ (w ∷ rates)))
all_behind states rules w rates =
    sym (behind-append (behind [] (state_sayings [] states)) (rule_sayings rules) (w ∷ rates))
    ∙ sym (behind-append [] (state_sayings [] states) (rule_sayings rules ++ (w ∷ rates)))
    ∙ behind-flat_map [] (state_sayings [] states ++ (rule_sayings rules ++ (w ∷ rates)))

none_is : IsDen [] 1
unfolding least_common
none_is = record { is = refl; scale = record { from = omega arith; to = omega arith } }

pub text_agrees : (sections : Sections) → AreSectionsWithin sections → Agrees (IsRead sections) (controller_by sections) (first (judged sections.states) (statements sections))
unfolding controller_by statements sayings
text_agrees sections is =
    let states : List StateLine = sections.states in
    let w : LineContent = window sections.rules sections.window sections.window_line in
    let opening : List LineContent = state_sayings [] states in
    let ruling : List LineContent = rule_sayings sections.rules in
    let before_rules : List Num = behind [] opening in
    let before_window : List Num = behind before_rules ruling in
    subst (Agrees (IsRead sections) (controller_by sections)) (sym (asks-append states [] opening (ruling ++ (w ∷ rate_sayings sections.rate))))
    (agrees_then (states_agree states [] states [] 1 is.each_state none_is)
    (λ made one. subst (Agrees (IsRead sections) _) (sym (asks-append states before_rules ruling (w ∷ rate_sayings sections.rate)))
    (agrees_then (rules_agree states sections.rules before_rules (record { delay_max = 0; den = made.1 }) (distinct [] states one.apart) is.each_rule one.den)
    (λ rules two. agrees_then (agrees_line sections.window_line (window_agrees states sections.rules sections.window sections.window_line before_window rules.1.den is.window two.den))
    (λ bound three. agrees_map (rated_agree states sections.rate (before_window ++ numbers w) bound.1 is.rate three.den)
    (λ rated four. fine (record { states = made.0; rules = rules.0; window = bound.0; rate = rated.0; delay_max = rules.1.delay_max; den = pos rated.1 })
    (let all = subst (λ (ns : List Num). IsDen ns rated.1) (all_behind states sections.rules w (rate_sayings sections.rate)) four.den in record {
      resolves = record {
        states = one.made;
        rules = two.means;
        window = three.found;
        rate = four.means;
        delay_max = two.delay_max;
        den = ap (λ n. pos n) all.is;
      };
      apart = distinct [] states one.apart;
      sound = two.sound;
      ended = three.ended;
      within = (rated.1, refl, all);
    })))))))
