use Rattle.std.proofs.Common.{◌≡◌, ℕ, suc, ◌+◌, ◌<◌, length, List, [], ◌∷◌, get_or, drop, take, ℤ, pos, sym, ◌∙◌, ap, subst, add-one, to_z, of_z}
use Rattle.std.proofs.lemmas.List.{take_all}
use Rattle.std.proofs.Math.Seq.{drop-cons, take-suc}
use Rattle.std.proofs.lemmas.List.Sums.{fold-append}
use Rattle.std.proofs.lemmas.Int.{to_z-of_z, fits_signed_from_abs}
use Rattle.std.specs.Int.{w128}
use Rattle.whole.specs.Numbers.{IsWithin}
use Rattle.weighing.specs.Overflow.{Sums}
use Rattle.weighing.specs.Weight.{Weight}
use Rattle.weighing.specs.Weighed.{EachWithin, added, weighed_from}
use Rattle.weighing.specs.declared.weighings.Summand.{Summand}
use Rattle.weighing.proofs.Claims.{stuck_stays, sums_law}
use Rattle.weighing.proofs.weighings.Weighing.plus_all.Goals as goal

abbrev none : Summand
none = record { 0 = pos 0; 1 = pos 0 }

-- the term at i is small enough, and so are those after it
parts : (terms : List Summand) (i : ℕ) → i < length terms → EachWithin (drop i terms)
    → IsWithin (get_or terms i none).0 × IsWithin (get_or terms i none).1 × EachWithin (drop (suc i) terms)
parts terms i inside each = subst EachWithin (drop-cons terms i none inside) each

passed : (z : ℤ) → IsWithin z → to_z w128 (of_z w128 z) ≡ z
passed z within = to_z-of_z w128 z (fits_signed_from_abs w128 z within)

coefficient_overflowed : (terms : List Summand) (i : ℕ) → i < length terms → EachWithin (drop i terms)
    → IsWithin (to_z w128 (of_z w128 (get_or terms i none).0))
coefficient_overflowed terms i inside each =
    let within = (parts terms i inside each).0 in
    subst IsWithin (sym (passed (get_or terms i none).0 within)) within

entry_overflowed : (terms : List Summand) (i : ℕ) → i < length terms → EachWithin (drop i terms)
    → IsWithin (to_z w128 (of_z w128 (get_or terms i none).1))
entry_overflowed terms i inside each =
    let within = (parts terms i inside each).1 in
    subst IsWithin (sym (passed (get_or terms i none).1 within)) within

-- the sum with one more term
one_more : (w u v : Weight) (terms : List Summand) (i : ℕ) → i < length terms → EachWithin (drop i terms)
    → u ≡ weighed_from w (take i terms)
    → v ≡ added u (to_z w128 (of_z w128 (get_or terms i none).0)) (to_z w128 (of_z w128 (get_or terms i none).1))
    → (v ≡ weighed_from w (take (i + 1) terms)) × EachWithin (drop (i + 1) terms)
one_more w u v terms i inside each before here =
    let within = parts terms i inside each in
    let t : Summand = get_or terms i none in
    let exact : v ≡ added u t.0 t.1 =
    subst (λ k. v ≡ added u k t.1) (passed t.0 within.0)
    (subst (λ y. v ≡ added u (to_z w128 (of_z w128 t.0)) y) (passed t.1 within.1) here) in
    let longer : weighed_from w (take (i + 1) terms) ≡ added (weighed_from w (take i terms)) t.0 t.1 =
    rw (add-one, take-suc terms i none inside) (fold-append (λ (a : Weight) (b : Summand). added a b.0 b.1) w (take i terms) (t ∷ [])) in
    (exact ∙ ap (λ a. added a t.0 t.1) before ∙ sym longer, rw add-one within.2)

pub plus-weighing-requires-clause-coefficient_in :
    goal.plus-weighing-requires-clause-coefficient_in
plus-weighing-requires-clause-coefficient_in c =
    coefficient_overflowed c.args.terms.now c.loop-term.term-index c.loop-term-test.true c.loop-term.invariant.1

pub plus-weighing-requires-clause-entry_in : goal.plus-weighing-requires-clause-entry_in
plus-weighing-requires-clause-entry_in c =
    entry_overflowed c.args.terms.now c.loop-term.term-index c.loop-term-test.true c.loop-term.invariant.1

pub loop-term-preserved : goal.loop-term-preserved
loop-term-preserved c =
    one_more c.args.self c.loop-term.weighing c.plus-weighing.result c.args.terms.now c.loop-term.term-index c.loop-term-test.true
    c.loop-term.invariant.1 c.loop-term.invariant.0 c.plus-weighing.ensures

pub returns-clause-means : goal.returns-clause-means
returns-clause-means c =
    let all : take c.loop-term.term-index c.args.terms.now ≡ c.args.terms.now = take_all c.loop-term.term-index c.args.terms.now c.loop-term-test.false in
    let is : c.loop-term.weighing ≡ weighed_from c.args.self c.args.terms.now =
    c.loop-term.invariant.0 ∙ ap (weighed_from c.args.self) all in
    λ sum so_far.
    subst (λ (w : Weight). Sums c.args.self.row sum c.args.terms.now w.sum) (sym is)
    (sums_law c.args.self.row c.args.self.sum c.args.terms.now sum so_far)

pub returns-clause-stuck : goal.returns-clause-stuck
returns-clause-stuck c =
    let all : take c.loop-term.term-index c.args.terms.now ≡ c.args.terms.now = take_all c.loop-term.term-index c.args.terms.now c.loop-term-test.false in
    λ stuck so_far.
    c.loop-term.invariant.0 ∙ ap (weighed_from c.args.self) all ∙ stuck_stays c.args.self c.args.terms.now stuck so_far
