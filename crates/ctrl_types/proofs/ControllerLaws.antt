-- What is read is within the limits of controllers, and the clauses of resolving.
use Rattle.std.proofs.Common.{◌≡◌, ℕ, ◌-◌, ◌≤◌, ℤ, pos, ◌≤ℤ◌, unsigned_abs, Bool, true, false, cond, ◌||◌, not, Option, Some, None, List, [], ◌∷◌, length, get_or, refl, sym, ap, subst, ◌∙◌, arith}
use Rattle.std.specs.Prelude.{All, is_none, slice_get, codes, ◌%◌, ◌==◌, nat_lt}
use Rattle.std.specs.Int.{◌∣◌}
use Rattle.std.specs.List.{flat_map}
use Rattle.std.specs.Str.{bytes_eq}
use Rattle.std.proofs.lemmas.Grind.{common_steps}
use Rattle.std.proofs.lemmas.Int.{ints}
use Rattle.std.proofs.lemmas.List.{length-map}
use Rattle.std.proofs.lemmas.List.Elements.{All-nil, All-cons, All-head, All-tail, All-weaker}
use Rattle.weighing.specs.Scaled.{IsNum, den_of}
use Rattle.weighing.specs.declared.scales.Num.{Num}
use Rattle.condition_tree.proofs.Trees.{each_leaf_gives}
use Rattle.condition_syntax.specs.Trees as conditions
use Rattle.condition_syntax.specs.Trees.{Condition, EachDelay, Leaf, LeafDelay}
use Rattle.condition_syntax.specs.declared.expressions.Expr.{Expr}
use Rattle.condition_syntax.specs.declared.expressions.ETerm.{ETerm}
use Rattle.condition_syntax.specs.declared.expressions.Name.{Name}
use Rattle.ctrl_syntax.specs.Limits.{AreSectionsWithin, IsExpr, IsGuardWithin, IsRateLine, IsRuleWithin, IsSetLine, IsStateLine}
use Rattle.ctrl_syntax.specs.declared.syntax.StateLine.{StateLine}
use Rattle.ctrl_syntax.specs.declared.syntax.SetLine.{SetLine}
use Rattle.ctrl_syntax.specs.declared.syntax.RateLine.{RateLine}
use Rattle.ctrl_syntax.specs.Sections.{Rule as WrittenRule, Sections}
use Rattle.ctrl_types.specs.declared.controllers.Controller.{Controller}
use Rattle.ctrl_types.specs.declared.controllers.Rule.{Rule}
use Rattle.ctrl_types.specs.declared.expressions.Lin.{Lin}
use Rattle.ctrl_types.specs.declared.expressions.LinTerm.{LinTerm}
use Rattle.ctrl_types.specs.declared.expressions.Source.{Source}
use Rattle.ctrl_types.specs.declared.expressions.Source.TheVariants.{One, State as StateSource, Acked, Lost}
use Rattle.ctrl_types.specs.Tests as tests
use Rattle.ctrl_types.specs.Tests.{Test, test_of, comparisons}
use Rattle.ctrl_types.specs.Limits.{DelaysAre, IsController, IsLin, IsRule, LinsAre, IsSource, NumsAre, no_rule}
use Rattle.ctrl_types.specs.Names.{lin_of, or_signal, signal_named, source_named, source_of, state_named}
use Rattle.ctrl_types.specs.Denominators.{least_common}
use Rattle.ctrl_types.specs.Resolved.{GuardMeans, RuleMeans, greatest_delay, guard_delay, place_of, rules_delay}
use Rattle.ctrl_types.specs.Resolving.{controller_seen, rule_seen, state_of}
use Rattle.ctrl_types.specs.Statements.{any_delay, ends_otherwise, in_guard, is_otherwise, is_unfit, numbers, rows_of, sayings}
use Rattle.ctrl_types.proofs.DenominatorLaws.{is_least_common, each_expr_gives}
use Rattle.ctrl_types.proofs.LimitLaws.{CoefsAre, BothAre, RateExpr, TextExprs, TextNums, lins_to, nums_from, nums_to, pair_at, pairs_from, pairs_length, pairs_to, text_from, text_to}
use Rattle.ctrl_types.proofs.LoopLaws.{state_within}
use Rattle.ctrl_types.proofs.MeaningLaws.{Carries, GuardDelays, GuardExprs, RuleExprs, comparisons_kept, guard_delays_from, guard_delays_to}
use Rattle.ctrl_types.proofs.NameLaws.{AreFound, coefs_are, found_length, lin_is_found}
use Rattle.ctrl_types.proofs.NameLaws as names
use Rattle.ctrl_types.proofs.TextLaws.{IsRead, IsSoundRule}

-- ---- tests of delay

cond_weaker : (P Q : Num → Type 0) → ((q : Num) → P q → Q q) → (c : Condition) → EachDelay P c → EachDelay Q c
cond_weaker P Q to c are = each_leaf_gives (LeafDelay P) (LeafDelay Q) c by are
  where
    by : (l : Leaf Expr Num) → LeafDelay P l → LeafDelay Q l
    by (conditions.compares left rel right) is = tt
    by (conditions.delayed q) is = to q is

abbrev RowsTo : ℕ → Num → Type 0
RowsTo m q = rows_of q ≤ m

-- the greatest number of rows, from a start on
record IsGreatest (k : ℕ) (Reached : ℕ → Type 0) (g : ℕ) : Type 0 where
  start : k ≤ g
  reached : Reached g
  least : (m : ℕ) → k ≤ m → Reached m → g ≤ m

rows_up : (a b : ℕ) → a ≤ b → (c : Condition) → EachDelay (RowsTo a) c → EachDelay (RowsTo b) c
rows_up a b le c are = cond_weaker (RowsTo a) (RowsTo b) (λ q within. omega arith) c are

greatest : (k : ℕ) (c : Condition) → IsGreatest k (λ m. EachDelay (RowsTo m) c) (greatest_delay k c)
greatest k conditions.always = record { start = omega arith; reached = tt; least = λ m start reached. start }
greatest k conditions.never = record { start = omega arith; reached = tt; least = λ m start reached. start }
greatest k (conditions.leaf (conditions.compares left rel right)) = record { start = omega arith; reached = tt; least = λ m start reached. start }
greatest k (conditions.leaf (conditions.delayed q)) = record { start = omega arith; reached = omega arith; least = λ m start reached. omega arith }
greatest k (conditions.opposite c) = let is = greatest k c in record { start = is.start; reached = is.reached; least = is.least }
greatest k conditions.end_of_all = record { start = omega arith; reached = tt; least = λ m start reached. start }
greatest k (conditions.all_of c rest) =
    let one = greatest k c in
    let two = greatest (greatest_delay k c) rest in
    record {
      start = let a = one.start in let b = two.start in omega arith;
      reached = (rows_up (greatest_delay k c) (greatest_delay (greatest_delay k c) rest) two.start c one.reached, two.reached);
      least = λ m start reached. two.least m (one.least m start reached.0) reached.1;
    }
greatest k conditions.end_of_any = record { start = omega arith; reached = tt; least = λ m start reached. start }
greatest k (conditions.any_of c rest) =
    let one = greatest k c in
    let two = greatest (greatest_delay k c) rest in
    record {
      start = let a = one.start in let b = two.start in omega arith;
      reached = (rows_up (greatest_delay k c) (greatest_delay (greatest_delay k c) rest) two.start c one.reached, two.reached);
      least = λ m start reached. two.least m (one.least m start reached.0) reached.1;
    }

abbrev GuardRows : ℕ → WrittenRule → Type 0
GuardRows m r = GuardDelays (λ n. n ≤ m) r.guard

guard_greatest : (k : ℕ) (g : Option Condition) → IsGreatest k (λ m. GuardDelays (λ n. n ≤ m) g) (guard_delay k g)
guard_greatest k None = record { start = omega arith; reached = tt; least = λ m start reached. start }
guard_greatest k (Some c) = let is = greatest k c in record { start = is.start; reached = is.reached; least = is.least }

guard_up : (a b : ℕ) → a ≤ b → (g : Option Condition) → GuardDelays (λ n. n ≤ a) g → GuardDelays (λ n. n ≤ b) g
guard_up a b le None are = tt
guard_up a b le (Some c) are = rows_up a b le c are

rules_greatest : (k : ℕ) (rules : List WrittenRule) → IsGreatest k (λ m. All (GuardRows m) rules) (rules_delay k rules)
rules_greatest k [] = record { start = omega arith; reached = All-nil (GuardRows k); least = λ m start reached. start }
rules_greatest k (r ∷ rules) =
    let one = guard_greatest k r.guard in
    let two = rules_greatest (guard_delay k r.guard) rules in
    let g : ℕ = rules_delay (guard_delay k r.guard) rules in
    record {
      start = let a = one.start in let b = two.start in omega arith;
      reached = All-cons (GuardRows g) r rules (guard_up (guard_delay k r.guard) g two.start r.guard one.reached) two.reached;
      least = λ m start reached. two.least m (one.least m start (All-head (GuardRows m) r rules reached)) (All-tail (GuardRows m) r rules reached);
    }

or_left : (a b : Bool) → (a || b) ≡ false → a ≡ false
or_left true b e = absurd (cc)
or_left false b e = refl

or_right : (a b : Bool) → (a || b) ≡ false → b ≡ false
or_right true b e = absurd (cc)
or_right false b e = e

fit_rows : (q : Num) → is_unfit q ≡ false → rows_of q ≤ 8
unfolding is_unfit
fit_rows q e = let few = or_right (not (unsigned_abs q.num % den_of q == 0)) (nat_lt 8 (rows_of q)) e in grind (arith, common_steps)

fit : (c : Condition) → any_delay is_unfit c ≡ false → EachDelay (RowsTo 8) c
fit conditions.always e = tt
fit conditions.never e = tt
fit (conditions.leaf (conditions.compares left rel right)) e = tt
fit (conditions.leaf (conditions.delayed q)) e = fit_rows q e
fit (conditions.opposite c) e = fit c e
fit conditions.end_of_all e = tt
fit (conditions.all_of c rest) e = (fit c (or_left (any_delay is_unfit c) (any_delay is_unfit rest) e), fit rest (or_right (any_delay is_unfit c) (any_delay is_unfit rest) e))
fit conditions.end_of_any e = tt
fit (conditions.any_of c rest) e = (fit c (or_left (any_delay is_unfit c) (any_delay is_unfit rest) e), fit rest (or_right (any_delay is_unfit c) (any_delay is_unfit rest) e))

fit_guard : (g : Option Condition) → in_guard (any_delay is_unfit) g ≡ false → GuardDelays (λ n. n ≤ 8) g
fit_guard None e = tt
fit_guard (Some c) e = fit c e

-- ---- expressions

signal_in : (w : List ℕ) (states : ℕ) (of : Source) → signal_named w ≡ Some of → IsSource states of
unfolding signal_named
signal_in w states of e = by (bytes_eq w (codes "acked")) (bytes_eq w (codes "lost")) e
  where
    by : (a b : Bool) → cond a (Some Acked) (cond b (Some Lost) None) ≡ Some of → IsSource states of
    by true b p = let same : Acked ≡ of = cc in subst (IsSource states) same tt
    by false true p = let same : Lost ≡ of = cc in subst (IsSource states) same tt
    by false false p = absurd (cc)

source_in : (states : List StateLine) (signals : Bool) (name : Option Name) (of : Source) → source_of states signals name ≡ Some of → IsSource (length states) of
unfolding source_of source_named
source_in states signals None of e = let same : One ≡ of = cc in subst (IsSource (length states)) same tt
source_in states signals (Some name) of e = by (state_named states name.text) refl signals e
  where
    by : (j : Option ℕ) → state_named states name.text ≡ j → (known : Bool) → or_signal j known name.text ≡ Some of → IsSource (length states) of
    by (Some j) p known q = let same : StateSource j ≡ of = cc in subst (IsSource (length states)) same (state_within name.text states j p)
    by None p true q = signal_in name.text (length states) of q
    by None p false q = absurd (cc)

sources_in : {states : List StateLine} {signals : Bool} {terms : List ETerm} {found : List LinTerm} → AreFound states signals terms found → All (λ (t : LinTerm). IsSource (length states) t.of) found
sources_in {states} names.none = All-nil (λ (t : LinTerm). IsSource (length states) t.of)
sources_in {states} {signals} (names.one_more {t} {terms} {found} of is rest) =
    All-cons (λ (x : LinTerm). IsSource (length states) x.of) (record { coef = t.coef; of = of }) found (source_in states signals t.name of is) (sources_in rest)

-- an expression of 16 terms at most
abbrev IsShort : Expr → Type 0
IsShort expr = length expr.terms ≤ 16

lin_in : (states : List StateLine) (signals : Bool) (expr : Expr) (lin : Lin) → lin_of states signals expr ≡ Some lin → IsShort expr → IsLin (length states) lin
lin_in states signals expr lin e short =
    let found = lin_is_found states signals expr lin e in
    let same = found_length found in
    record { terms_to = omega arith; sources = sources_in found }

carries_lins : (states : List StateLine) → Carries states IsShort (IsLin (length states))
carries_lins states = record {
  to = λ signals expr lin e short. lin_in states signals expr lin e short;
  from = λ signals expr lin e is. let found = lin_is_found states signals expr lin e in let same = found_length found in let to = is.terms_to in omega arith;
}

-- ---- the limits of a text

module _ (E : Expr → Type 0) (to : (expr : Expr) → IsExpr expr → E expr) where
  guard_from_limits : (g : Option Condition) → IsGuardWithin g → GuardExprs E g
  guard_from_limits None is = tt
  guard_from_limits (Some c) is = each_expr_gives IsExpr E to c is.each_expr

  rule_from_limits : (r : WrittenRule) → IsRuleWithin r → RuleExprs E r
  rule_from_limits r is = record {
    guard = guard_from_limits r.guard is.guard;
    sets = All-weaker IsSetLine (λ (l : SetLine). E l.expr) (λ l line. to l.expr line.expr) r.sets is.each_set;
  }

  rate_from_limits : (r : Option RateLine) → IsRateLine r → RateExpr E r
  rate_from_limits None is = tt
  rate_from_limits (Some r) is = to r.expr is

  text_from_limits : (sections : Sections) → AreSectionsWithin sections → TextExprs E sections
  text_from_limits sections is = record {
    rules = All-weaker IsRuleWithin (RuleExprs E) (λ r line. rule_from_limits r line) sections.rules is.each_rule;
    window = to sections.window is.window;
    rate = rate_from_limits sections.rate is.rate;
  }

text_nums : (sections : Sections) → AreSectionsWithin sections → TextNums IsNum sections
text_nums sections is = record {
  states = All-weaker IsStateLine (BothAre IsNum) (λ s line. (line.lo, line.hi)) sections.states is.each_state;
  exprs = text_from_limits (CoefsAre IsNum) (λ expr within. coefs_are expr.terms within.each_term) sections is;
}

-- ---- rules

rule_in : (states : List StateLine) (r : WrittenRule) (rule : Rule) → RuleMeans states r (rule_seen rule) → IsRuleWithin r → IsRule (length states) rule
rule_in states r rule means line = record {
  comparisons_to = few r.guard means.guard line.guard;
  places = ap length means.sets ∙ length-map states (place_of states r.sets);
}
  where
    few : (g : Option Condition) → GuardMeans states g (test_of rule.guard) → IsGuardWithin g → comparisons (test_of rule.guard) ≤ 16
    few None always is = let none = ap comparisons always in omega arith
    few (Some c) kept is = let same = comparisons_kept kept in let to = is.few in omega arith

unturned : (b : Bool) → not b ≡ false → b ≡ true
unturned true e = refl
unturned false e = absurd (cc)

-- the last rule
record IsLast (sections : Sections) (c : Controller) : Type 0 where
  some : 1 ≤ length sections.rules
  always : test_of (get_or c.rules (length sections.rules - 1) no_rule).guard ≡ tests.always

last_is : (sections : Sections) (c : Controller) → IsRead sections (controller_seen c) → IsLast sections c
unfolding ends_otherwise
last_is sections c read = by (slice_get sections.rules (length sections.rules - 1)) refl read.ended
  where
    always : (r : WrittenRule) (t : Test) → GuardMeans sections.states r.guard t → (g : Option Condition) → r.guard ≡ g → is_none g ≡ true → t ≡ tests.always
    always r t means None p q = subst (λ (o : Option Condition). GuardMeans sections.states o t) p means
    always r t means (Some x) p q = absurd (cc)

    by : (o : Option WrittenRule) → slice_get sections.rules (length sections.rules - 1) ≡ o → not (is_otherwise o) ≡ false → IsLast sections c
    by None p q = absurd (cc)
    by (Some r) p q =
        let at = pair_at (RuleMeans sections.states) sections.rules c.rules (length sections.rules - 1) no_rule r read.resolves.rules p in
        let inside = at.0 in
        let unended : is_none r.guard ≡ true = unturned (is_none r.guard) q in
        record { some = omega arith; always = always r (test_of (get_or c.rules (length sections.rules - 1) no_rule).guard) at.1.guard r.guard refl unended }

-- ---- the whole controller

module _ (sections : Sections) (is : AreSectionsWithin sections) (c : Controller) (read : IsRead sections (controller_seen c)) where
  all_nums : All IsNum (flat_map numbers (sayings sections))
  all_nums = text_to IsNum sections (text_nums sections is)

  den_is : (m : ℕ) → unsigned_abs c.den ≡ m → NumsAre (λ n. den_of n ∣ m) c → NumsAre (λ n. den_of n ∣ unsigned_abs c.den) c
  den_is m same are = subst (λ (k : ℕ). NumsAre (λ n. den_of n ∣ k) c) (sym same) are

  delays_to : (P : ℕ → Type 0) → All (λ (r : WrittenRule). GuardDelays P r.guard) sections.rules → DelaysAre P c
  delays_to P are =
      pairs_to (RuleMeans sections.states) (λ (r : WrittenRule). GuardDelays P r.guard) (λ (rule : Rule). EachDelay P (test_of rule.guard))
      (λ l r means delays. guard_delays_to sections.states P l.guard (test_of r.guard) means.guard delays) sections.rules c.rules read.resolves.rules are

  delays_from : (P : ℕ → Type 0) → DelaysAre P c → All (λ (r : WrittenRule). GuardDelays P r.guard) sections.rules
  delays_from P are =
      pairs_from (RuleMeans sections.states) (IsRuleWithin) (λ (r : WrittenRule). GuardDelays P r.guard) (λ (rule : Rule). EachDelay P (test_of rule.guard))
      (λ l r means line delays. guard_delays_from sections.states P l.guard (test_of r.guard) means.guard delays) sections.rules c.rules read.resolves.rules is.each_rule are

  pub controller_is : IsController c
  controller_is =
      let nums : List Num = flat_map numbers (sayings sections) in
      let den = read.within in
      let size : unsigned_abs c.den ≡ den.0 = ap unsigned_abs den.1 in
      let scale = den.2.scale in
      let from = scale.from in
      let to = scale.to in
      let common = is_least_common nums all_nums in
      let states : length c.states ≡ length sections.states = ap length read.resolves.states ∙ length-map sections.states state_of in
      let count : length c.rules ≡ length sections.rules = pairs_length (RuleMeans sections.states) sections.rules c.rules read.resolves.rules in
      let few_states = is.states_to in
      let few_rules = is.rules_to in
      let last = last_is sections c read in
      let some = last.some in
      let delays = rules_greatest 0 sections.rules in
      let delay = read.resolves.delay_max in
      let fits = All-weaker (IsSoundRule sections.states) (λ (r : WrittenRule). GuardDelays (λ n. n ≤ 8) r.guard) (λ r sound. fit_guard r.guard sound.fits) sections.rules read.sound in
      let delay_to = delays.least 8 (omega arith) fits in
      record {
        states_to = omega arith;
        rules_from = omega arith;
        rules_to = omega arith;
        otherwise = ap (λ k. test_of (get_or c.rules (k - 1) no_rule).guard) count ∙ last.always;
        each_rule = subst (λ k. All (IsRule k) c.rules) (sym states) (pairs_to (RuleMeans sections.states) IsRuleWithin (IsRule (length sections.states)) (λ l r means line. rule_in sections.states l r means line) sections.rules c.rules read.resolves.rules is.each_rule);
        each_lin = subst (λ k. LinsAre (IsLin k) c) (sym states) (lins_to sections c read IsShort (IsLin (length sections.states)) (carries_lins sections.states) (text_from_limits IsShort (λ expr within. within.terms_to) sections is));
        each_num = nums_to sections c read IsNum (text_nums sections is);
        den_from = subst (λ (z : ℤ). pos 1 ≤ℤ z) (sym den.1) (omega (arith, ints));
        den_to = subst (λ (z : ℤ). z ≤ℤ pos 1000000) (sym den.1) (omega (arith, ints));
        den_common = den_is (least_common nums) (size ∙ den.2.is) (nums_to sections c read (λ n. den_of n ∣ least_common nums) (text_from (λ n. den_of n ∣ least_common nums) sections common.common));
        den_least = λ m divides. subst (λ (k : ℕ). k ∣ m) (sym (size ∙ den.2.is)) (common.least m (text_to (λ n. den_of n ∣ m) sections (nums_from sections c read (λ n. den_of n ∣ m) divides)));
        delay_to = omega arith;
        delay_reached = subst (λ (g : ℕ). DelaysAre (λ k. k ≤ g) c) (sym delay) (delays_to (λ k. k ≤ rules_delay 0 sections.rules) delays.reached);
        delay_least = λ m within. let lower = delays.least m (omega arith) (delays_from (λ k. k ≤ m) within) in omega arith;
      }
