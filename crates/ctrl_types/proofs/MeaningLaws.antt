-- What holds of each expression, and of each number of rows, of a text holds of its controller, and back.
use Rattle.std.proofs.Common.{◌≡◌, ℕ, zero, suc, Bool, true, false, cond, ◌||◌, Option, Some, None, List, [], ◌∷◌, ◌++◌, map, append_assoc, refl, sym, ap, subst, ◌∙◌, arith}
use Rattle.std.specs.Prelude.{All, is_none, is_some, slice_get}
use Rattle.std.specs.List.{list_any, find}
use Rattle.std.specs.Option.{option_and_then}
use Rattle.std.proofs.lemmas.List.Elements.{All-nil, All-cons, All-head, All-tail}
use Rattle.condition_syntax.specs.Trees as conditions
use Rattle.condition_syntax.specs.Trees.{Condition, EachExpr, EachDelay}
use Rattle.condition_syntax.specs.declared.expressions.Expr.{Expr}
use Rattle.ctrl_syntax.specs.declared.syntax.StateLine.{StateLine}
use Rattle.ctrl_syntax.specs.declared.syntax.SetLine.{SetLine}
use Rattle.ctrl_syntax.specs.Sections.{Rule as WrittenRule}
use Rattle.ctrl_types.specs.declared.controllers.Rule.{Rule}
use Rattle.ctrl_types.specs.declared.expressions.Lin.{Lin}
use Rattle.ctrl_types.specs.Tests.{Test, test_of, comparisons}
use Rattle.ctrl_types.specs.Limits.{OptionalLin, RuleLins}
use Rattle.ctrl_types.specs.Names.{lin_of, state_named}
use Rattle.ctrl_types.specs.Resolved as resolved
use Rattle.ctrl_types.specs.Resolved.{GuardMeans, Means, RuleMeans, greatest_delay, guard_delay, place_of, rules_delay}
use Rattle.ctrl_types.specs.Resolving.{rule_seen}
use Rattle.ctrl_types.specs.Statements.{rows_of, sets_name}
use Rattle.ctrl_types.proofs.StateLaws.{AreResolved, state_at, name_again}
use Rattle.ctrl_types.proofs.TextLaws.{AreOnce, IsSoundRule}

-- ---- conditions

-- what holds of an expression holds of what it stands for, and back
pub record Carries (states : List StateLine) (E : Expr → Type 0) (Q : Lin → Type 0) : Type 0 where
  pub to : (signals : Bool) (expr : Expr) (lin : Lin) → lin_of states signals expr ≡ Some lin → E expr → Q lin
  pub from : (signals : Bool) (expr : Expr) (lin : Lin) → lin_of states signals expr ≡ Some lin → Q lin → E expr

abbrev pub GuardExprs : (Expr → Type 0) → Option Condition → Type 0
GuardExprs E None = Unit {0}
GuardExprs E (Some c) = EachExpr E c

-- each expression of a rule's line and of its assignments is such a one
pub record RuleExprs (E : Expr → Type 0) (r : WrittenRule) : Type 0 where
  pub guard : GuardExprs E r.guard
  pub sets : All (λ (l : SetLine). E l.expr) r.sets

abbrev pub GuardDelays : (ℕ → Type 0) → Option Condition → Type 0
GuardDelays P None = Unit {0}
GuardDelays P (Some c) = EachDelay (λ q. P (rows_of q)) c

module _ (states : List StateLine) (E : Expr → Type 0) (Q : Lin → Type 0) (carries : Carries states E Q) where
  test_lins : {c : Condition} {t : Test} → Means states c t → EachExpr E c → EachExpr Q t
  test_lins resolved.always are = tt
  test_lins resolved.never are = tt
  test_lins (resolved.comparison {left} {right} {x} {y} rel one two) are = (carries.to true left x one are.0, carries.to true right y two are.1)
  test_lins (resolved.delay q) are = tt
  test_lins (resolved.opposite means) are = test_lins means are
  test_lins resolved.end_of_all are = tt
  test_lins (resolved.all_of means rest) are = (test_lins means are.0, test_lins rest are.1)
  test_lins resolved.end_of_any are = tt
  test_lins (resolved.any_of means rest) are = (test_lins means are.0, test_lins rest are.1)

  cond_exprs : {c : Condition} {t : Test} → Means states c t → EachExpr Q t → EachExpr E c
  cond_exprs resolved.always are = tt
  cond_exprs resolved.never are = tt
  cond_exprs (resolved.comparison {left} {right} {x} {y} rel one two) are = (carries.from true left x one are.0, carries.from true right y two are.1)
  cond_exprs (resolved.delay q) are = tt
  cond_exprs (resolved.opposite means) are = cond_exprs means are
  cond_exprs resolved.end_of_all are = tt
  cond_exprs (resolved.all_of means rest) are = (cond_exprs means are.0, cond_exprs rest are.1)
  cond_exprs resolved.end_of_any are = tt
  cond_exprs (resolved.any_of means rest) are = (cond_exprs means are.0, cond_exprs rest are.1)

  -- ---- guards

  guard_lins : (g : Option Condition) (t : Test) → GuardMeans states g t → GuardExprs E g → EachExpr Q t
  guard_lins None t means are = subst (EachExpr Q) (sym means) tt
  guard_lins (Some c) t means are = test_lins means are

  guard_exprs : (g : Option Condition) (t : Test) → GuardMeans states g t → EachExpr Q t → GuardExprs E g
  guard_exprs None t means are = tt
  guard_exprs (Some c) t means are = cond_exprs means are

  -- ---- places

  place_lin : (sets : List SetLine) (s : StateLine) → All (λ (l : SetLine). E l.expr) sets → OptionalLin Q (place_of states sets s)
  place_lin [] s are = tt
  place_lin (l ∷ sets) s are =
      by (sets_name s.name l) (lin_of states true l.expr) refl (All-head (λ (k : SetLine). E k.expr) l sets are) (place_lin sets s (All-tail (λ (k : SetLine). E k.expr) l sets are))
    where
      by : (b : Bool) (o : Option Lin) → lin_of states true l.expr ≡ o → E l.expr → OptionalLin Q (place_of states sets s)
          → OptionalLin Q (option_and_then (λ (k : SetLine). lin_of states true k.expr) (cond b (Some l) (find (sets_name s.name) sets)))
      by true None is here rest = subst (OptionalLin Q) (sym is) tt
      by true (Some lin) is here rest = subst (OptionalLin Q) (sym is) (carries.to true l.expr lin is here)
      by false o is here rest = rest

  place_lins : (sets : List SetLine) (known : List StateLine) → All (λ (l : SetLine). E l.expr) sets → All (OptionalLin Q) (map (place_of states sets) known)
  place_lins sets [] are = All-nil (OptionalLin Q)
  place_lins sets (s ∷ known) are = All-cons (OptionalLin Q) (place_of states sets s) (map (place_of states sets) known) (place_lin sets s are) (place_lins sets known are)

  lin_at : (f : StateLine → Option Lin) (known : List StateLine) (k : ℕ) (s : StateLine) → slice_get known k ≡ Some s → All (OptionalLin Q) (map f known) → OptionalLin Q (f s)
  lin_at f [] k s e are = absurd (cc)
  lin_at f (t ∷ known) zero s e are = let same : t ≡ s = cc in subst (λ (x : StateLine). OptionalLin Q (f x)) same (All-head (OptionalLin Q) (f t) (map f known) are)
  lin_at f (t ∷ known) (suc k) s e are = lin_at f known k s e (All-tail (OptionalLin Q) (f t) (map f known) are)

  find_first : (w : List ℕ) (earlier rest : List SetLine) (l : SetLine) → list_any (sets_name w) earlier ≡ false → sets_name w l ≡ true → find (sets_name w) (earlier ++ l ∷ rest) ≡ Some l
  find_first w [] rest l none here = rw here refl
  find_first w (k ∷ earlier) rest l none here = by (sets_name w k) none (λ p. find_first w earlier rest l p here)
    where
      by : (b : Bool) → (b || list_any (sets_name w) earlier) ≡ false → (list_any (sets_name w) earlier ≡ false → find (sets_name w) (earlier ++ l ∷ rest) ≡ Some l)
          → cond b (Some k) (find (sets_name w) (earlier ++ l ∷ rest)) ≡ Some l
      by true p others = absurd (cc)
      by false p others = others p

  -- a line's expression, from the place of its state
  set_expr : (earlier rest : List SetLine) (l : SetLine) → is_none (state_named states l.name) ≡ false → list_any (sets_name l.name) earlier ≡ false → is_some (lin_of states true l.expr) ≡ true
      → All (OptionalLin Q) (map (place_of states (earlier ++ l ∷ rest)) states) → E l.expr
  set_expr earlier rest l known once is are = by (state_named states l.name) refl known (lin_of states true l.expr) refl is
    where
      by : (j : Option ℕ) → state_named states l.name ≡ j → is_none j ≡ false → (o : Option Lin) → lin_of states true l.expr ≡ o → is_some o ≡ true → E l.expr
      by None p q o r s = absurd (cc)
      by (Some j) p q None r s = absurd (cc)
      by (Some j) p q (Some lin) r s =
          let at = state_at states l.name j p in
          let found : find (sets_name at.0.name) (earlier ++ l ∷ rest) ≡ Some l =
          ap (λ (w : List ℕ). find (sets_name w) (earlier ++ l ∷ rest)) at.2 ∙ find_first l.name earlier rest l once (name_again l.name l.name refl) in
          let place : place_of states (earlier ++ l ∷ rest) at.0 ≡ Some lin = ap (option_and_then (λ (k : SetLine). lin_of states true k.expr)) found ∙ r in
          carries.from true l.expr lin r (subst (OptionalLin Q) place (lin_at (place_of states (earlier ++ l ∷ rest)) states j at.0 at.1 are))

  set_exprs : (earlier rest : List SetLine) → AreOnce states earlier rest → AreResolved states rest
      → All (OptionalLin Q) (map (place_of states (earlier ++ rest)) states) → All (λ (l : SetLine). E l.expr) rest
  set_exprs earlier [] once are all = All-nil (λ (l : SetLine). E l.expr)
  set_exprs earlier (l ∷ rest) once are all =
      All-cons (λ (k : SetLine). E k.expr) l rest (set_expr earlier rest l once.0 once.1 are.0 all)
      (set_exprs (earlier ++ l ∷ []) rest once.2 are.1 (subst (λ (ls : List SetLine). All (OptionalLin Q) (map (place_of states ls) states)) (sym (append_assoc earlier (l ∷ []) rest)) all))

  -- ---- rules

  pub rule_lins : (r : WrittenRule) (rule : Rule) → RuleMeans states r (rule_seen rule) → RuleExprs E r → RuleLins Q rule
  rule_lins r rule means are = record {
    guard = guard_lins r.guard (test_of rule.guard) means.guard are.guard;
    sets = subst (All (OptionalLin Q)) (sym means.sets) (place_lins r.sets states are.sets);
  }

  pub rule_exprs : (r : WrittenRule) (rule : Rule) → RuleMeans states r (rule_seen rule) → IsSoundRule states r → RuleLins Q rule → RuleExprs E r
  rule_exprs r rule means sound are = record {
    guard = guard_exprs r.guard (test_of rule.guard) means.guard are.guard;
    sets = set_exprs [] r.sets sound.once sound.resolved (subst (All (OptionalLin Q)) means.sets are.sets);
  }

-- ---- numbers of rows

module _ (states : List StateLine) (P : ℕ → Type 0) where
  test_delays : {c : Condition} {t : Test} → Means states c t → EachDelay (λ q. P (rows_of q)) c → EachDelay P t
  test_delays resolved.always are = tt
  test_delays resolved.never are = tt
  test_delays (resolved.comparison rel one two) are = tt
  test_delays (resolved.delay q) are = are
  test_delays (resolved.opposite means) are = test_delays means are
  test_delays resolved.end_of_all are = tt
  test_delays (resolved.all_of means rest) are = (test_delays means are.0, test_delays rest are.1)
  test_delays resolved.end_of_any are = tt
  test_delays (resolved.any_of means rest) are = (test_delays means are.0, test_delays rest are.1)

  cond_delays : {c : Condition} {t : Test} → Means states c t → EachDelay P t → EachDelay (λ q. P (rows_of q)) c
  cond_delays resolved.always are = tt
  cond_delays resolved.never are = tt
  cond_delays (resolved.comparison rel one two) are = tt
  cond_delays (resolved.delay q) are = are
  cond_delays (resolved.opposite means) are = cond_delays means are
  cond_delays resolved.end_of_all are = tt
  cond_delays (resolved.all_of means rest) are = (cond_delays means are.0, cond_delays rest are.1)
  cond_delays resolved.end_of_any are = tt
  cond_delays (resolved.any_of means rest) are = (cond_delays means are.0, cond_delays rest are.1)

  pub guard_delays_to : (g : Option Condition) (t : Test) → GuardMeans states g t → GuardDelays P g → EachDelay P t
  guard_delays_to None t means are = subst (EachDelay P) (sym means) tt
  guard_delays_to (Some c) t means are = test_delays means are

  pub guard_delays_from : (g : Option Condition) (t : Test) → GuardMeans states g t → EachDelay P t → GuardDelays P g
  guard_delays_from None t means are = tt
  guard_delays_from (Some c) t means are = cond_delays means are

-- how many comparisons there are stays
pub comparisons_kept : {states : List StateLine} {c : Condition} {t : Test} → Means states c t → comparisons t ≡ conditions.comparisons c
comparisons_kept resolved.always = refl
comparisons_kept resolved.never = refl
comparisons_kept (resolved.comparison rel one two) = refl
comparisons_kept (resolved.delay q) = refl
comparisons_kept (resolved.opposite means) = comparisons_kept means
comparisons_kept resolved.end_of_all = refl
comparisons_kept (resolved.all_of means rest) = let one = comparisons_kept means in let two = comparisons_kept rest in omega arith
comparisons_kept resolved.end_of_any = refl
comparisons_kept (resolved.any_of means rest) = let one = comparisons_kept means in let two = comparisons_kept rest in omega arith
