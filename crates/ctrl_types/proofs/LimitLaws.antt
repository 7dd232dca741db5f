-- The controller that is resolved is within its limits.
use Rattle.std.proofs.Common.{◌≡◌, ℕ, zero, suc, ◌<◌, Bool, false, Option, Some, None, List, [], ◌∷◌, ◌++◌, length, map, get_or, refl, sym, subst, arith}
use Rattle.std.specs.Prelude.{All, slice_get}
use Rattle.std.specs.List.{flat_map, AllZip}
use Rattle.std.proofs.lemmas.List.Elements.{All-nil, All-cons, All-head, All-tail, All-append, All-map}
use Rattle.weighing.specs.declared.scales.Num.{Num}
use Rattle.condition_syntax.specs.Trees as conditions
use Rattle.condition_syntax.specs.Trees.{Condition, EachExpr}
use Rattle.condition_syntax.specs.declared.expressions.Expr.{Expr}
use Rattle.condition_syntax.specs.declared.expressions.ETerm.{ETerm}
use Rattle.ctrl_syntax.specs.declared.syntax.StateLine.{StateLine}
use Rattle.ctrl_syntax.specs.declared.syntax.SetLine.{SetLine}
use Rattle.ctrl_syntax.specs.declared.syntax.RateLine.{RateLine}
use Rattle.ctrl_syntax.specs.Sections.{Rule as WrittenRule, Sections}
use Rattle.ctrl_types.specs.declared.controllers.Controller.{Controller}
use Rattle.ctrl_types.specs.declared.controllers.Rule.{Rule}
use Rattle.ctrl_types.specs.declared.controllers.State.{State}
use Rattle.ctrl_types.specs.declared.expressions.Lin.{Lin}
use Rattle.ctrl_types.specs.declared.expressions.LinTerm.{LinTerm}
use Rattle.ctrl_types.specs.Limits.{LinsAre, NumsAre, OptionalLin, RuleLins}
use Rattle.ctrl_types.specs.Resolved.{RateMeans, RuleMeans}
use Rattle.ctrl_types.specs.Resolving.{SeenRule, controller_seen, rule_seen, state_of}
use Rattle.ctrl_types.specs.Statements.{LineContent, state, rule, assignment, window, rate, coefs, condition_numbers, guard_numbers, is_empty, numbers, rate_sayings, rule_sayings, sayings, set_sayings, state_sayings}
use Rattle.ctrl_types.proofs.DenominatorLaws.{numbers_are}
use Rattle.ctrl_types.proofs.NameLaws.{AreFound, coefs_are, found_length, lin_is_found}
use Rattle.ctrl_types.proofs.NameLaws as names
use Rattle.ctrl_types.proofs.MeaningLaws.{Carries, GuardExprs, RuleExprs, rule_exprs, rule_lins}
use Rattle.ctrl_types.proofs.TextLaws.{IsRead, IsSoundRule}

-- ---- lists

all_left : {X : Type 0} (P : X → Type 0) (xs ys : List X) → All P (xs ++ ys) → All P xs
all_left P [] ys all = All-nil P
all_left P (x ∷ xs) ys all = All-cons P x xs (All-head P x (xs ++ ys) all) (all_left P xs ys (All-tail P x (xs ++ ys) all))

all_right : {X : Type 0} (P : X → Type 0) (xs ys : List X) → All P (xs ++ ys) → All P ys
all_right P [] ys all = all
all_right P (x ∷ xs) ys all = all_right P xs ys (All-tail P x (xs ++ ys) all)

all_from_map : {X Y : Type 0} (P : Y → Type 0) (f : X → Y) (xs : List X) → All P (map f xs) → All (λ x. P (f x)) xs
all_from_map P f [] all = All-nil (λ x. P (f x))
all_from_map P f (x ∷ xs) all = All-cons (λ y. P (f y)) x xs (All-head P (f x) (map f xs) all) (all_from_map P f xs (All-tail P (f x) (map f xs) all))

-- ---- rules, pair by pair

module _ (R : WrittenRule → SeenRule → Type 0) where
  pub pairs_length : (lines : List WrittenRule) (rules : List Rule) → AllZip R lines (map rule_seen rules) → length rules ≡ length lines
  pairs_length [] [] pairs = refl
  pairs_length [] (r ∷ rules) pairs = absurd pairs
  pairs_length (l ∷ lines) [] pairs = absurd pairs
  pairs_length (l ∷ lines) (r ∷ rules) pairs = let rest = pairs_length lines rules pairs.1 in omega arith

  pub pairs_to : (P : WrittenRule → Type 0) (T : Rule → Type 0) → ((l : WrittenRule) (r : Rule) → R l (rule_seen r) → P l → T r) → (lines : List WrittenRule) (rules : List Rule)
      → AllZip R lines (map rule_seen rules) → All P lines → All T rules
  pairs_to P T to [] [] pairs all = All-nil T
  pairs_to P T to [] (r ∷ rules) pairs all = absurd pairs
  pairs_to P T to (l ∷ lines) [] pairs all = absurd pairs
  pairs_to P T to (l ∷ lines) (r ∷ rules) pairs all = All-cons T r rules (to l r pairs.0 (All-head P l lines all)) (pairs_to P T to lines rules pairs.1 (All-tail P l lines all))

  pub pairs_from : (P S : WrittenRule → Type 0) (T : Rule → Type 0) → ((l : WrittenRule) (r : Rule) → R l (rule_seen r) → P l → T r → S l) → (lines : List WrittenRule) (rules : List Rule)
      → AllZip R lines (map rule_seen rules) → All P lines → All T rules → All S lines
  pairs_from P S T from [] [] pairs all are = All-nil S
  pairs_from P S T from [] (r ∷ rules) pairs all are = absurd pairs
  pairs_from P S T from (l ∷ lines) [] pairs all are = absurd pairs
  pairs_from P S T from (l ∷ lines) (r ∷ rules) pairs all are =
      All-cons S l lines (from l r pairs.0 (All-head P l lines all) (All-head T r rules are)) (pairs_from P S T from lines rules pairs.1 (All-tail P l lines all) (All-tail T r rules are))

  pub pair_at : (lines : List WrittenRule) (rules : List Rule) (k : ℕ) (d : Rule) (l : WrittenRule) → AllZip R lines (map rule_seen rules) → slice_get lines k ≡ Some l
      → (k < length lines) × R l (rule_seen (get_or rules k d))
  pair_at [] [] k d l pairs e = absurd (cc)
  pair_at [] (r ∷ rules) k d l pairs e = absurd pairs
  pair_at (m ∷ lines) [] k d l pairs e = absurd pairs
  pair_at (m ∷ lines) (r ∷ rules) zero d l pairs e = let same : m ≡ l = cc in (omega arith, subst (λ (x : WrittenRule). R x (rule_seen r)) same pairs.0)
  pair_at (m ∷ lines) (r ∷ rules) (suc k) d l pairs e = let rest = pair_at lines rules k d l pairs.1 e in let inside = rest.0 in (omega arith, rest.1)

-- ---- expressions of a text

abbrev pub RateExpr : (Expr → Type 0) → Option RateLine → Type 0
RateExpr E None = Unit {0}
RateExpr E (Some r) = E r.expr

pub record TextExprs (E : Expr → Type 0) (sections : Sections) : Type 0 where
  pub rules : All (RuleExprs E) sections.rules
  pub window : E sections.window
  pub rate : RateExpr E sections.rate

module _ (sections : Sections) (c : Controller) (read : IsRead sections (controller_seen c)) where
  module _ (E : Expr → Type 0) (Q : Lin → Type 0) (carries : Carries sections.states E Q) where
    rate_lin : (r : Option RateLine) (lin : Option Lin) → RateMeans sections.states r lin → RateExpr E r → OptionalLin Q lin
    rate_lin None None means are = tt
    rate_lin None (Some lin) means are = absurd means
    rate_lin (Some r) None means are = absurd means
    rate_lin (Some r) (Some lin) means are = carries.to false r.expr lin means are

    rate_expr : (r : Option RateLine) (lin : Option Lin) → RateMeans sections.states r lin → OptionalLin Q lin → RateExpr E r
    rate_expr None None means are = tt
    rate_expr None (Some lin) means are = tt
    rate_expr (Some r) None means are = absurd means
    rate_expr (Some r) (Some lin) means are = carries.from false r.expr lin means are

    pub lins_to : TextExprs E sections → LinsAre Q c
    lins_to are = record {
      rules = pairs_to (RuleMeans sections.states) (RuleExprs E) (RuleLins Q) (λ l r means exprs. rule_lins sections.states E Q carries l r means exprs) sections.rules c.rules read.resolves.rules are.rules;
      window = carries.to false sections.window c.window read.resolves.window are.window;
      rate = rate_lin sections.rate c.rate read.resolves.rate are.rate;
    }

    exprs_from : LinsAre Q c → TextExprs E sections
    exprs_from are = record {
      rules = pairs_from (RuleMeans sections.states) (IsSoundRule sections.states) (RuleExprs E) (RuleLins Q) (λ l r means sound lins. rule_exprs sections.states E Q carries l r means sound lins) sections.rules c.rules read.resolves.rules read.sound are.rules;
      window = carries.from false sections.window c.window read.resolves.window are.window;
      rate = rate_expr sections.rate c.rate read.resolves.rate are.rate;
    }

-- ---- numbers

found_to : {states : List StateLine} {signals : Bool} {terms : List ETerm} {found : List LinTerm} (P : Num → Type 0) → AreFound states signals terms found → All P (coefs terms) → All (λ (t : LinTerm). P t.coef) found
found_to P names.none all = All-nil (λ (t : LinTerm). P t.coef)
found_to P (names.one_more {t} {terms} {found} of is rest) all =
    All-cons (λ (x : LinTerm). P x.coef) (record { coef = t.coef; of = of }) found (All-head P t.coef (coefs terms) all) (found_to P rest (All-tail P t.coef (coefs terms) all))

found_from : {states : List StateLine} {signals : Bool} {terms : List ETerm} {found : List LinTerm} (P : Num → Type 0) → AreFound states signals terms found → All (λ (t : LinTerm). P t.coef) found → All P (coefs terms)
found_from P names.none all = All-nil P
found_from P (names.one_more {t} {terms} {found} of is rest) all =
    All-cons P t.coef (coefs terms) (All-head (λ (x : LinTerm). P x.coef) (record { coef = t.coef; of = of }) found all)
    (found_from P rest (All-tail (λ (x : LinTerm). P x.coef) (record { coef = t.coef; of = of }) found all))

abbrev pub CoefsAre : (Num → Type 0) → Expr → Type 0
CoefsAre P expr = All P (coefs expr.terms)

abbrev pub TermsAre : (Num → Type 0) → Lin → Type 0
TermsAre P lin = All (λ (t : LinTerm). P t.coef) lin.terms

carries_coefs : (states : List StateLine) (P : Num → Type 0) → Carries states (CoefsAre P) (TermsAre P)
carries_coefs states P = record {
  to = λ signals expr lin is all. found_to P (lin_is_found states signals expr lin is) all;
  from = λ signals expr lin is all. found_from P (lin_is_found states signals expr lin is) all;
}

abbrev pub BothAre : (Num → Type 0) → StateLine → Type 0
BothAre P s = P s.lo × P s.hi

pub record TextNums (P : Num → Type 0) (sections : Sections) : Type 0 where
  pub states : All (BothAre P) sections.states
  pub exprs : TextExprs (CoefsAre P) sections

module _ (sections : Sections) (c : Controller) (read : IsRead sections (controller_seen c)) (P : Num → Type 0) where
  pub nums_to : TextNums P sections → NumsAre P c
  nums_to are = record {
    states = subst (All (λ (s : State). P s.lo × P s.hi)) (sym read.resolves.states) (All-map (λ (s : State). P s.lo × P s.hi) state_of sections.states are.states);
    lins = lins_to sections c read (CoefsAre P) (TermsAre P) (carries_coefs sections.states P) are.exprs;
  }

  pub nums_from : NumsAre P c → TextNums P sections
  nums_from are = record {
    states = all_from_map (λ (s : State). P s.lo × P s.hi) state_of sections.states (subst (All (λ (s : State). P s.lo × P s.hi)) read.resolves.states are.states);
    exprs = exprs_from sections c read (CoefsAre P) (TermsAre P) (carries_coefs sections.states P) are.lins;
  }

-- ---- the numbers of a text as one list

module _ (P : Num → Type 0) where
  abbrev SaysNums : LineContent → Type 0
  SaysNums x = All P (numbers x)

  flat_to : (xs : List LineContent) → All SaysNums xs → All P (flat_map numbers xs)
  flat_to [] all = All-nil P
  flat_to (x ∷ xs) all = All-append P (numbers x) (flat_map numbers xs) (All-head SaysNums x xs all) (flat_to xs (All-tail SaysNums x xs all))

  flat_from : (xs : List LineContent) → All P (flat_map numbers xs) → All SaysNums xs
  flat_from [] all = All-nil SaysNums
  flat_from (x ∷ xs) all = All-cons SaysNums x xs (all_left P (numbers x) (flat_map numbers xs) all) (flat_from xs (all_right P (numbers x) (flat_map numbers xs) all))

  two_to : (s : StateLine) → BothAre P s → All P (s.lo ∷ s.hi ∷ [])
  two_to s are = All-cons P s.lo (s.hi ∷ []) are.0 (All-cons P s.hi [] are.1 (All-nil P))

  two_from : (s : StateLine) → All P (s.lo ∷ s.hi ∷ []) → BothAre P s
  two_from s all = (All-head P s.lo (s.hi ∷ []) all, All-head P s.hi [] (All-tail P s.lo (s.hi ∷ []) all))

  states_to : (earlier states : List StateLine) → All (BothAre P) states → All SaysNums (state_sayings earlier states)
  states_to earlier [] all = All-nil SaysNums
  states_to earlier (s ∷ states) all =
      All-cons SaysNums (state earlier s) (state_sayings (earlier ++ s ∷ []) states) (two_to s (All-head (BothAre P) s states all)) (states_to (earlier ++ s ∷ []) states (All-tail (BothAre P) s states all))

  states_from : (earlier states : List StateLine) → All SaysNums (state_sayings earlier states) → All (BothAre P) states
  states_from earlier [] all = All-nil (BothAre P)
  states_from earlier (s ∷ states) all =
      All-cons (BothAre P) s states (two_from s (All-head SaysNums (state earlier s) (state_sayings (earlier ++ s ∷ []) states) all))
      (states_from (earlier ++ s ∷ []) states (All-tail SaysNums (state earlier s) (state_sayings (earlier ++ s ∷ []) states) all))

  sets_to : (earlier sets : List SetLine) → All (λ (l : SetLine). CoefsAre P l.expr) sets → All SaysNums (set_sayings earlier sets)
  sets_to earlier [] all = All-nil SaysNums
  sets_to earlier (s ∷ sets) all =
      All-cons SaysNums (assignment earlier s) (set_sayings (earlier ++ s ∷ []) sets) (All-head (λ (l : SetLine). CoefsAre P l.expr) s sets all)
      (sets_to (earlier ++ s ∷ []) sets (All-tail (λ (l : SetLine). CoefsAre P l.expr) s sets all))

  sets_from : (earlier sets : List SetLine) → All SaysNums (set_sayings earlier sets) → All (λ (l : SetLine). CoefsAre P l.expr) sets
  sets_from earlier [] all = All-nil (λ (l : SetLine). CoefsAre P l.expr)
  sets_from earlier (s ∷ sets) all =
      All-cons (λ (l : SetLine). CoefsAre P l.expr) s sets (All-head SaysNums (assignment earlier s) (set_sayings (earlier ++ s ∷ []) sets) all)
      (sets_from (earlier ++ s ∷ []) sets (All-tail SaysNums (assignment earlier s) (set_sayings (earlier ++ s ∷ []) sets) all))

  cond_from : (c : Condition) → All P (condition_numbers c) → EachExpr (CoefsAre P) c
  cond_from conditions.always all = tt
  cond_from conditions.never all = tt
  cond_from (conditions.leaf (conditions.compares left rel right)) all = (all_left P (coefs left.terms) (coefs right.terms) all, all_right P (coefs left.terms) (coefs right.terms) all)
  cond_from (conditions.leaf (conditions.delayed q)) all = tt
  cond_from (conditions.opposite c) all = cond_from c all
  cond_from conditions.end_of_all all = tt
  cond_from (conditions.all_of c rest) all = (cond_from c (all_left P (condition_numbers c) (condition_numbers rest) all), cond_from rest (all_right P (condition_numbers c) (condition_numbers rest) all))
  cond_from conditions.end_of_any all = tt
  cond_from (conditions.any_of c rest) all = (cond_from c (all_left P (condition_numbers c) (condition_numbers rest) all), cond_from rest (all_right P (condition_numbers c) (condition_numbers rest) all))

  guard_to : (g : Option Condition) → GuardExprs (CoefsAre P) g → All P (guard_numbers g)
  guard_to None are = All-nil P
  guard_to (Some c) are = numbers_are P c are

  guard_from : (g : Option Condition) → All P (guard_numbers g) → GuardExprs (CoefsAre P) g
  guard_from None all = tt
  guard_from (Some c) all = cond_from c all

  rules_to : (rules : List WrittenRule) → All (RuleExprs (CoefsAre P)) rules → All SaysNums (rule_sayings rules)
  rules_to [] all = All-nil SaysNums
  rules_to (r ∷ rules) all =
      let here = All-head (RuleExprs (CoefsAre P)) r rules all in
      All-cons SaysNums (rule (is_empty rules) r) (set_sayings [] r.sets ++ rule_sayings rules) (guard_to r.guard here.guard)
      (All-append SaysNums (set_sayings [] r.sets) (rule_sayings rules) (sets_to [] r.sets here.sets) (rules_to rules (All-tail (RuleExprs (CoefsAre P)) r rules all)))

  rules_from : (rules : List WrittenRule) → All SaysNums (rule_sayings rules) → All (RuleExprs (CoefsAre P)) rules
  rules_from [] all = All-nil (RuleExprs (CoefsAre P))
  rules_from (r ∷ rules) all =
      let later = All-tail SaysNums (rule (is_empty rules) r) (set_sayings [] r.sets ++ rule_sayings rules) all in
      All-cons (RuleExprs (CoefsAre P)) r rules
      (record {
        guard = guard_from r.guard (All-head SaysNums (rule (is_empty rules) r) (set_sayings [] r.sets ++ rule_sayings rules) all);
        sets = sets_from [] r.sets (all_left SaysNums (set_sayings [] r.sets) (rule_sayings rules) later);
      })
      (rules_from rules (all_right SaysNums (set_sayings [] r.sets) (rule_sayings rules) later))

  rate_to : (r : Option RateLine) → RateExpr (CoefsAre P) r → All SaysNums (rate_sayings r)
  rate_to None are = All-nil SaysNums
  rate_to (Some r) are = All-cons SaysNums (rate r) [] are (All-nil SaysNums)

  rate_from : (r : Option RateLine) → All SaysNums (rate_sayings r) → RateExpr (CoefsAre P) r
  rate_from None all = tt
  rate_from (Some r) all = All-head SaysNums (rate r) [] all

  pub text_to : (sections : Sections) → TextNums P sections → All P (flat_map numbers (sayings sections))
  unfolding sayings
  text_to sections are =
      let w : LineContent = window sections.rules sections.window sections.window_line in
      flat_to (sayings sections) (All-append SaysNums (state_sayings [] sections.states) (rule_sayings sections.rules ++ (w ∷ rate_sayings sections.rate)) (states_to [] sections.states are.states)
      (All-append SaysNums (rule_sayings sections.rules) (w ∷ rate_sayings sections.rate) (rules_to sections.rules are.exprs.rules)
      (All-cons SaysNums w (rate_sayings sections.rate) are.exprs.window (rate_to sections.rate are.exprs.rate))))

  pub text_from : (sections : Sections) → All P (flat_map numbers (sayings sections)) → TextNums P sections
  unfolding sayings
  text_from sections all =
      let w : LineContent = window sections.rules sections.window sections.window_line in
      let says = flat_from (sayings sections) all in
      let later = all_right SaysNums (state_sayings [] sections.states) (rule_sayings sections.rules ++ (w ∷ rate_sayings sections.rate)) says in
      let ends = all_right SaysNums (rule_sayings sections.rules) (w ∷ rate_sayings sections.rate) later in
      record {
        states = states_from [] sections.states (all_left SaysNums (state_sayings [] sections.states) (rule_sayings sections.rules ++ (w ∷ rate_sayings sections.rate)) says);
        exprs = record {
          rules = rules_from sections.rules (all_left SaysNums (rule_sayings sections.rules) (w ∷ rate_sayings sections.rate) later);
          window = All-head SaysNums w (rate_sayings sections.rate) ends;
          rate = rate_from sections.rate (All-tail SaysNums w (rate_sayings sections.rate) ends);
        };
      }
