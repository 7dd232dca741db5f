-- A text means one controller alone, with its guards seen as trees.
use Rattle.std.proofs.Common.{◌≡◌, true, Option, Some, None, List, [], ◌∷◌, refl, sym, ap, ◌∙◌}
use Rattle.std.specs.List.{AllZip}
use Rattle.condition_syntax.specs.Trees as conditions
use Rattle.condition_syntax.specs.Trees.{Condition}
use Rattle.ctrl_syntax.specs.declared.syntax.StateLine.{StateLine}
use Rattle.ctrl_syntax.specs.declared.syntax.RateLine.{RateLine}
use Rattle.ctrl_syntax.specs.Sections.{Rule, Sections}
use Rattle.ctrl_types.specs.declared.controllers.Controller.{Controller}
use Rattle.ctrl_types.specs.declared.expressions.Lin.{Lin}
use Rattle.ctrl_types.specs.Tests as tests
use Rattle.ctrl_types.specs.Tests.{Test}
use Rattle.ctrl_types.specs.Names.{lin_of}
use Rattle.ctrl_types.specs.Resolved as resolved
use Rattle.ctrl_types.specs.Resolved.{GuardMeans, Means, RateMeans, Resolves, RuleMeans, SeenResolves, place_of, rules_delay}
use Rattle.ctrl_types.specs.Resolving.{Places, SeenController, SeenRule, controller_seen}
use Rattle.ctrl_types.specs.Statements.{rows_of}

-- what is found, or nothing at all
abbrev lin_or : Option Lin → Lin
lin_or None = record { terms = [] }
lin_or (Some lin) = lin

abbrev meaning : List StateLine → Condition → Test
meaning states conditions.always = tests.always
meaning states conditions.never = tests.never
meaning states (conditions.leaf (conditions.compares left rel right)) = tests.comparison (lin_or (lin_of states true left)) rel (lin_or (lin_of states true right))
meaning states (conditions.leaf (conditions.delayed q)) = tests.delay (rows_of q)
meaning states (conditions.opposite c) = tests.opposite (meaning states c)
meaning states conditions.end_of_all = tests.end_of_all
meaning states (conditions.all_of c rest) = tests.all_of (meaning states c) (meaning states rest)
meaning states conditions.end_of_any = tests.end_of_any
meaning states (conditions.any_of c rest) = tests.any_of (meaning states c) (meaning states rest)

found_is : (o : Option Lin) (lin : Lin) → o ≡ Some lin → lin ≡ lin_or o
found_is o lin e = sym (ap lin_or e)

meaning_is : {states : List StateLine} {c : Condition} {t : Test} → Means states c t → t ≡ meaning states c
meaning_is resolved.always = refl
meaning_is resolved.never = refl
meaning_is {states} (resolved.comparison {left} {right} {x} {y} rel one two) =
    let a = found_is (lin_of states true left) x one in
    let b = found_is (lin_of states true right) y two in
    cc
meaning_is (resolved.delay q) = refl
meaning_is (resolved.opposite means) = ap tests.opposite (meaning_is means)
meaning_is resolved.end_of_all = refl
meaning_is (resolved.all_of means rest) = let a = meaning_is means in let b = meaning_is rest in cc
meaning_is resolved.end_of_any = refl
meaning_is (resolved.any_of means rest) = let a = meaning_is means in let b = meaning_is rest in cc

same_guard : (states : List StateLine) (g : Option Condition) (t u : Test) → GuardMeans states g t → GuardMeans states g u → t ≡ u
same_guard states None t u one two = one ∙ sym two
same_guard states (Some c) t u one two = meaning_is one ∙ sym (meaning_is two)

abbrev seen_rule : Test → Places → SeenRule
seen_rule guard sets = record { guard = guard; sets = sets }

same_rule : (states : List StateLine) (r : Rule) (x y : SeenRule) → RuleMeans states r x → RuleMeans states r y → x ≡ y
same_rule states r x y one two =
    let guards = same_guard states r.guard x.guard y.guard one.guard two.guard in
    let sets : x.sets ≡ y.sets = one.sets ∙ sym two.sets in
    ap (λ (t : Test). seen_rule t x.sets) guards ∙ ap (seen_rule y.guard) sets

same_rules : (states : List StateLine) (rules : List Rule) (xs ys : List SeenRule) → AllZip (RuleMeans states) rules xs → AllZip (RuleMeans states) rules ys → xs ≡ ys
same_rules states [] [] [] one two = refl
same_rules states [] [] (y ∷ ys) one two = absurd two
same_rules states [] (x ∷ xs) ys one two = absurd one
same_rules states (r ∷ rules) [] ys one two = absurd one
same_rules states (r ∷ rules) (x ∷ xs) [] one two = absurd two
same_rules states (r ∷ rules) (x ∷ xs) (y ∷ ys) one two =
    let here = same_rule states r x y one.0 two.0 in
    let rest = same_rules states rules xs ys one.1 two.1 in
    cc

same_rate : (states : List StateLine) (r : Option RateLine) (x y : Option Lin) → RateMeans states r x → RateMeans states r y → x ≡ y
same_rate states None None None one two = refl
same_rate states None None (Some y) one two = absurd two
same_rate states None (Some x) y one two = absurd one
same_rate states (Some r) None y one two = absurd one
same_rate states (Some r) (Some x) None one two = absurd two
same_rate states (Some r) (Some x) (Some y) one two = sym one ∙ two

some_same : (x y : Lin) → Some x ≡ Some y → x ≡ y
some_same x y e = cc

pub same_seen : (s : Sections) (x y : SeenController) → SeenResolves s x → SeenResolves s y → x ≡ y
same_seen s x y one two =
    let states : x.states ≡ y.states = one.states ∙ sym two.states in
    let rules = same_rules s.states s.rules x.rules y.rules one.rules two.rules in
    let windows : Some x.window ≡ Some y.window = sym one.window ∙ two.window in
    let rate = same_rate s.states s.rate x.rate y.rate one.rate two.rate in
    let delay_max : x.delay_max ≡ y.delay_max = one.delay_max ∙ sym two.delay_max in
    let den : x.den ≡ y.den = one.den ∙ sym two.den in
    let window = some_same x.window y.window windows in
    rw (states, rules, window, rate, delay_max, den) refl

pub one_controller : (s : Sections) (c d : Controller) → Resolves s c → Resolves s d → controller_seen c ≡ controller_seen d
one_controller s c d one two = same_seen s (controller_seen c) (controller_seen d) one two
