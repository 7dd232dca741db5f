-- What comes of weighing: the first product or sum that overflows or, where none does, the exact sum and the claim's truth.
use Rattle.std.proofs.Common.{◌≡◌, ◌↔◌, ℕ, ℤ, pos, ◌+ℤ◌, ◌*ℤ◌, ◌≤ℤ◌, ◌<ℤ◌, Bool, true, false, cond, ◌&&◌, ◌||◌, not, int_le, int_lt, Result, Ok, Err, List, [], ◌∷◌, refl, sym, ◌∙◌, ap, subst, arith}
use Rattle.std.specs.Prelude.{All}
use Rattle.std.proofs.lemmas.Int.{ints}
use Rattle.std.proofs.lemmas.List.Elements.{All-weaker}
use Rattle.whole.specs.Numbers.{IsWithin, overflows}
use Rattle.whole.specs.declared.answers.Stuck.{Stuck}
use Rattle.whole.specs.declared.answers.Op.TheVariants.{Product, Sum}
use Rattle.whole.proofs.Overflow.{IsWithin-overflows, overflows_not}
use Rattle.condition_tree.specs.Trees.{always, never, leaf, opposite, end_of_all, all_of, end_of_any, any_of, is_true, Says}
use Rattle.condition_tree.proofs.Trees.{both_say, either_says, not_says}
use Rattle.weighing.specs.Claim.{Claim, Compared, Holds, both_outcomes, either_outcome, not_outcome, outcome, total}
use Rattle.weighing.specs.First.{IsFirst, and_then, first}
use Rattle.weighing.specs.Overflow.{Answers, AllWithin, IsFirstOverflow, NothingOverflows, Operation, Sums, exact, formed, operation, operations, operations_from}
use Rattle.weighing.specs.Weight.{Weight}
use Rattle.weighing.specs.Weighed.{Stands, added, more, related, stuck_at, sum_with, test_of, weighed_from}
use Rattle.weighing.specs.declared.weighings.Summand.{Summand}
use Rattle.weighing.specs.declared.weighings.Rel5.{Rel5}
use Rattle.weighing.specs.declared.weighings.Rel5.TheVariants.{AtMost, Below, AtLeast, Above, Equal}
use Rattle.weighing.proofs.Events.{all_passed, each_passed, first-append, first_is, first_is_first}

-- ---- an operation is formed exactly where its result doesn't pass

within_formed : (row : ℕ) (o : Operation) → formed row o ≡ Ok tt → IsWithin (exact o)
within_formed row o is = by (overflows (exact o)) refl is
  where
    by : (t : Bool) → overflows (exact o) ≡ t → (let r : Result (Unit {0}) Stuck = cond t (Err (stuck_at row o.op o.left o.right)) (Ok tt) in r) ≡ Ok tt
        → IsWithin (exact o)
    by true p q = absurd (cc)
    by false p q = IsWithin-overflows (exact o) p

formed_within : (row : ℕ) (o : Operation) → IsWithin (exact o) → formed row o ≡ Ok tt
formed_within row o small =
    ap (λ t. let r : Result (Unit {0}) Stuck = cond t (Err (stuck_at row o.op o.left o.right)) (Ok tt) in r) (overflows_not (exact o) small)

all_within : (row : ℕ) (os : List Operation) → first (formed row) os ≡ Ok tt → AllWithin os
all_within row os none =
    All-weaker (λ o. formed row o ≡ Ok tt) (λ o. IsWithin (exact o)) (within_formed row) os (each_passed (formed row) os none)

none_stops : (row : ℕ) (os : List Operation) → AllWithin os → first (formed row) os ≡ Ok tt
none_stops row os small =
    all_passed (formed row) os (All-weaker (λ o. IsWithin (exact o)) (λ o. formed row o ≡ Ok tt) (formed_within row) os small)

-- ---- a value where no operation stops, else what stops

abbrev unless : {X : Type 0} → Result (Unit {0}) Stuck → X → Result X Stuck
unless (Err stuck) x = Err stuck
unless (Ok _) x = Ok x

unless_ok : {X : Type 0} (t : Result (Unit {0}) Stuck) (x y : X) → unless t x ≡ Ok y → (t ≡ Ok tt) × (x ≡ y)
unless_ok (Err stuck) x y is = absurd (cc)
unless_ok (Ok _) x y is = (refl, cc)

unless_err : {X : Type 0} (t : Result (Unit {0}) Stuck) (x : X) (stuck : Stuck) → unless t x ≡ Err stuck → t ≡ Err stuck
unless_err (Err other) x stuck is = ap (λ s. let r : Result (Unit {0}) Stuck = Err s in r) (let same : other ≡ stuck = cc in same)
unless_err (Ok _) x stuck is = absurd (cc)

-- ---- the sum of terms

abbrev summed : ℕ → Result ℤ Stuck → List Summand → Result ℤ Stuck
summed row (Err stuck) terms = Err stuck
summed row (Ok sum) terms = unless (first (formed row) (operations_from sum terms)) (sum +ℤ total terms)

-- one more term, whether its product and the sum with it pass
one_more : (row : ℕ) (product sum z : ℤ) (terms : List Summand) (p s : Bool) (one two : Stuck)
    → summed row (cond p (Err one) (cond s (Err two) (Ok z))) terms
    ≡ unless (and_then (cond p (Err one) (Ok tt)) (and_then (cond s (Err two) (Ok tt)) (first (formed row) (operations_from z terms)))) (z +ℤ total terms)
one_more row product sum z terms true s one two = refl
one_more row product sum z terms false true one two = refl
one_more row product sum z terms false false one two = refl

added_on : (s p t : ℤ) → s +ℤ p +ℤ t ≡ s +ℤ (p +ℤ t)
added_on s p t = omega (arith, ints)

plus_none : (s : ℤ) → s ≡ s +ℤ pos 0
plus_none s = omega (arith, ints)

weighed_is : (row : ℕ) (sum : Result ℤ Stuck) (terms : List Summand)
    → (weighed_from (record { row = row; sum = sum }) terms).sum ≡ summed row sum terms
weighed_is row (Err stuck) [] = refl
weighed_is row (Err stuck) (t ∷ terms) = weighed_is row (Err stuck) terms
weighed_is row (Ok s) [] = ap (λ z. let r : Result ℤ Stuck = Ok z in r) (plus_none s)
weighed_is row (Ok s) (t ∷ terms) =
    weighed_is row (more row s t.0 t.1) terms
    ∙ one_more row (t.0 *ℤ t.1) s (s +ℤ t.0 *ℤ t.1) terms (overflows (t.0 *ℤ t.1)) (overflows (s +ℤ t.0 *ℤ t.1))
    (stuck_at row Product t.0 t.1) (stuck_at row Sum s (t.0 *ℤ t.1))
    ∙ ap (unless (first (formed row) (operations_from s (t ∷ terms)))) (added_on s (t.0 *ℤ t.1) (total terms))

sums_unless : (row : ℕ) (s : ℤ) (terms : List Summand) → Sums row s terms (summed row (Ok s) terms)
sums_unless row s terms =
    let os : List Operation = operations_from s terms in
    let t : Result (Unit {0}) Stuck = first (formed row) os in
    let z : ℤ = s +ℤ total terms in
    record {
      whole = λ y. (
        λ is. (let both = unless_ok t z y is in (all_within row os both.0, sym both.1)),
        λ both. ap (λ r. unless r z) (none_stops row os both.0) ∙ ap (λ x. let r : Result ℤ Stuck = Ok x in r) (sym both.1),
      );
      stuck = λ stuck. (
        λ is. first_is_first (formed row) os stuck (unless_err t z stuck is),
        λ one. ap (λ r. unless r z) (first_is (formed row) os stuck one),
      );
    }

-- a weighing of terms is their exact sum, or the first operation that overflows
pub sums_law : (row : ℕ) (sum : Result ℤ Stuck) (terms : List Summand) (s : ℤ) → sum ≡ Ok s
    → Sums row s terms (weighed_from (record { row = row; sum = sum }) terms).sum
sums_law row sum terms s is =
    subst (Sums row s terms)
    (sym (weighed_is row sum terms ∙ ap (λ (r : Result ℤ Stuck). summed row r terms) is))
    (sums_unless row s terms)

-- a weighing that is stuck stays so
pub stuck_stays : (w : Weight) (terms : List Summand) (stuck : Stuck) → w.sum ≡ Err stuck → weighed_from w terms ≡ w
stuck_stays w [] stuck is = refl
stuck_stays w (t ∷ terms) stuck is =
    let same : added w t.0 t.1 ≡ w = ap (λ s. let v : Weight = record { row = w.row; sum = s } in v) (kept w.sum is) in
    ap (λ v. weighed_from v terms) same ∙ stuck_stays w terms stuck is
  where
    kept : (sum : Result ℤ Stuck) → sum ≡ Err stuck → sum_with w.row sum t.0 t.1 ≡ sum
    kept (Err other) is = refl
    kept (Ok z) is = absurd (cc)

-- ---- the truth of a claim

says_from : (t : Bool) (P : Type 0) → (t ≡ true → P) → (t ≡ false → P → ⊥) → Says t P
says_from true P if_true if_false = if_true refl
says_from false P if_true if_false = if_false refl

le_says : (a b : ℤ) → Says (int_le a b) (a ≤ℤ b)
le_says a b = says_from (int_le a b) (a ≤ℤ b) (λ e. grind (arith, ints, e)) (λ e h. grind (arith, ints, e, h))

lt_says : (a b : ℤ) → Says (int_lt a b) (a <ℤ b)
lt_says a b = says_from (int_lt a b) (a <ℤ b) (λ e. grind (arith, ints, e)) (λ e h. grind (arith, ints, e, h))

says_same : (t : Bool) (P Q : Type 0) → (P → Q) → (Q → P) → Says t P → Says t Q
says_same true P Q there back p = there p
says_same false P Q there back p = λ q. p (back q)

-- a test of a sum says whether the sum stands so to zero
pub test_says : (rel : Rel5) (z : ℤ) → Says (test_of rel z) (Stands rel z)
test_says AtMost z = le_says z (pos 0)
test_says Below z = lt_says z (pos 0)
test_says AtLeast z = le_says (pos 0) z
test_says Above z = lt_says (pos 0) z
test_says Equal z =
    says_same _ _ (z ≡ pos 0) (λ (both : (z ≤ℤ pos 0) × (pos 0 ≤ℤ z)). omega (arith, ints)) (λ (same : z ≡ pos 0). (omega (arith, ints), omega (arith, ints)))
    (both_say (int_le z (pos 0)) (int_le (pos 0) z) (z ≤ℤ pos 0) (pos 0 ≤ℤ z) (le_says z (pos 0)) (le_says (pos 0) z))

abbrev tested : Compared Summand → Bool
tested d = test_of d.rel (total d.terms)

truth_says : (c : Claim) → Says (is_true tested c) (Holds c)
truth_says always = tt
truth_says never = λ h. h
truth_says (leaf d) = test_says d.rel (total d.terms)
truth_says (opposite c) = not_says (is_true tested c) (Holds c) (truth_says c)
truth_says end_of_all = tt
truth_says (all_of c d) = both_say (is_true tested c) (is_true tested d) (Holds c) (Holds d) (truth_says c) (truth_says d)
truth_says end_of_any = λ h. h
truth_says (any_of c d) = either_says (is_true tested c) (is_true tested d) (Holds c) (Holds d) (truth_says c) (truth_says d)

-- ---- what comes of weighing a claim

abbrev weighs : ℕ → Claim → Result (Unit {0}) Stuck
weighs row c = first (formed row) (operations c)

related_unless : (rel : Rel5) (t : Result (Unit {0}) Stuck) (z : ℤ) → related rel (unless t z) ≡ unless t (test_of rel z)
related_unless rel (Err stuck) z = refl
related_unless rel (Ok _) z = refl

not_unless : (t : Result (Unit {0}) Stuck) (b : Bool) → not_outcome (unless t b) ≡ unless t (not b)
not_unless (Err stuck) b = refl
not_unless (Ok _) b = refl

both_unless : (t u : Result (Unit {0}) Stuck) (b d : Bool) → both_outcomes (unless t b) (unless u d) ≡ unless (and_then t u) (b && d)
both_unless (Err stuck) u b d = refl
both_unless (Ok _) (Err stuck) b d = refl
both_unless (Ok _) (Ok _) b d = refl

either_unless : (t u : Result (Unit {0}) Stuck) (b d : Bool) → either_outcome (unless t b) (unless u d) ≡ unless (and_then t u) (b || d)
either_unless (Err stuck) u b d = refl
either_unless (Ok _) (Err stuck) b d = refl
either_unless (Ok _) (Ok _) b d = refl

none_added : (z : ℤ) → pos 0 +ℤ z ≡ z
none_added z = omega (arith, ints)

outcome_is : (row : ℕ) (c : Claim) → outcome row c ≡ unless (weighs row c) (is_true tested c)
outcome_is row always = refl
outcome_is row never = refl
outcome_is row (leaf d) =
    ap (related d.rel) (weighed_is row (Ok (pos 0)) d.terms)
    ∙ related_unless d.rel (weighs row (leaf d)) (pos 0 +ℤ total d.terms)
    ∙ ap (λ z. unless (weighs row (leaf d)) (test_of d.rel z)) (none_added (total d.terms))
outcome_is row (opposite c) = ap not_outcome (outcome_is row c) ∙ not_unless (weighs row c) (is_true tested c)
outcome_is row end_of_all = refl
outcome_is row (all_of c d) =
    ap (λ o. both_outcomes o (outcome row d)) (outcome_is row c)
    ∙ ap (both_outcomes (unless (weighs row c) (is_true tested c))) (outcome_is row d)
    ∙ both_unless (weighs row c) (weighs row d) (is_true tested c) (is_true tested d)
    ∙ ap (λ t. unless t (is_true tested c && is_true tested d)) (sym (first-append (formed row) (operations c) (operations d)))
outcome_is row end_of_any = refl
outcome_is row (any_of c d) =
    ap (λ o. either_outcome o (outcome row d)) (outcome_is row c)
    ∙ ap (either_outcome (unless (weighs row c) (is_true tested c))) (outcome_is row d)
    ∙ either_unless (weighs row c) (weighs row d) (is_true tested c) (is_true tested d)
    ∙ ap (λ t. unless t (is_true tested c || is_true tested d)) (sym (first-append (formed row) (operations c) (operations d)))

says_true : (b : Bool) (P : Type 0) → Says b P → P → b ≡ true
says_true true P says p = refl
says_true false P says p = absurd (says p)

says_false : (b : Bool) (P : Type 0) → Says b P → (P → ⊥) → b ≡ false
says_false true P says not = absurd (not says)
says_false false P says not = refl

answers_unless : (row : ℕ) (c : Claim) → Answers row c (unless (weighs row c) (is_true tested c))
answers_unless row c =
    let b : Bool = is_true tested c in
    let truth = truth_says c in
    let whole : NothingOverflows c → (d : Bool) → b ≡ d → unless (weighs row c) b ≡ Ok d =
    λ small d same. ap (λ r. unless r b) (none_stops row (operations c) small) ∙ ap (λ e. let r : Result Bool Stuck = Ok e in r) same in
    record {
      holds = (
        λ is. (let both = unless_ok (weighs row c) b true is in (all_within row (operations c) both.0, subst (λ d. Says d (Holds c)) both.1 truth)),
        λ both. whole both.0 true (says_true b (Holds c) truth both.1),
      );
      fails = (
        λ is. (let both = unless_ok (weighs row c) b false is in (all_within row (operations c) both.0, subst (λ d. Says d (Holds c)) both.1 truth)),
        λ both. whole both.0 false (says_false b (Holds c) truth both.1),
      );
      stuck = λ stuck. (
        λ is. first_is_first (formed row) (operations c) stuck (unless_err (weighs row c) b stuck is),
        λ one. ap (λ r. unless r b) (first_is (formed row) (operations c) stuck one),
      );
    }

-- what comes of weighing a claim says whether it holds, or what overflows first
pub outcome_answers : (row : ℕ) (c : Claim) → Answers row c (outcome row c)
outcome_answers row c = subst (Answers row c) (sym (outcome_is row c)) (answers_unless row c)

-- and it is the only answer
pub answer_is_outcome : (row : ℕ) (c : Claim) (answer : Result Bool Stuck) → Answers row c answer → answer ≡ outcome row c
answer_is_outcome row c (Ok true) says = sym ((outcome_answers row c).holds.1 (says.holds.0 refl))
answer_is_outcome row c (Ok false) says = sym ((outcome_answers row c).fails.1 (says.fails.0 refl))
answer_is_outcome row c (Err stuck) says = sym (((outcome_answers row c).stuck stuck).1 ((says.stuck stuck).0 refl))

-- where nothing overflows, a weighing isn't stuck
pub never_stuck : (row : ℕ) (c : Claim) (stuck : Stuck) → NothingOverflows c → outcome row c ≡ Err stuck → ⊥
never_stuck row c stuck small is =
    let stops : weighs row c ≡ Err stuck = unless_err (weighs row c) (is_true tested c) stuck (sym (outcome_is row c) ∙ is) in
    let none : weighs row c ≡ Ok tt = none_stops row (operations c) small in
    let wrong : (let r : Result (Unit {0}) Stuck = Ok tt in r ≡ Err stuck) = sym none ∙ stops in cc

pub outcome_says : (row : ℕ) (c : Claim) (b : Bool) → outcome row c ≡ Ok b → Says b (Holds c)
outcome_says row c true is = ((outcome_answers row c).holds.0 is).1
outcome_says row c false is = ((outcome_answers row c).fails.0 is).1

-- ---- answers that are joined

pub both_answer : (row : ℕ) (c d : Claim) (one two joined : Result Bool Stuck) → joined ≡ both_outcomes one two
    → Answers row c one → Answers row d two → Answers row (all_of c d) joined
both_answer row c d one two joined is first_says second_says =
    subst (Answers row (all_of c d))
    (sym (is ∙ ap (λ o. both_outcomes o two) (answer_is_outcome row c one first_says)
    ∙ ap (both_outcomes (outcome row c)) (answer_is_outcome row d two second_says)))
    (outcome_answers row (all_of c d))

pub either_answers : (row : ℕ) (c d : Claim) (one two joined : Result Bool Stuck) → joined ≡ either_outcome one two
    → Answers row c one → Answers row d two → Answers row (any_of c d) joined
either_answers row c d one two joined is first_says second_says =
    subst (Answers row (any_of c d))
    (sym (is ∙ ap (λ o. either_outcome o two) (answer_is_outcome row c one first_says)
    ∙ ap (either_outcome (outcome row c)) (answer_is_outcome row d two second_says)))
    (outcome_answers row (any_of c d))

pub opposite_answers : (row : ℕ) (c : Claim) (one turned : Result Bool Stuck) → turned ≡ not_outcome one
    → Answers row c one → Answers row (opposite c) turned
opposite_answers row c one turned is says =
    subst (Answers row (opposite c)) (sym (is ∙ ap not_outcome (answer_is_outcome row c one says))) (outcome_answers row (opposite c))
