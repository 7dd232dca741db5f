use Rattle.std.proofs.Common.{◌≡◌, [], ◌∷◌, ◌++◌, length, refl, sym, ap, subst, ◌∙◌, arith}
use Rattle.std.proofs.lemmas.List.{append-nil, append_assoc}
use Rattle.simplex.specs.Limits.{limit_value}
use Rattle.simplex.specs.Shares.{AreShares}
use Rattle.simplex.specs.Bounds.{with_one}
use Rattle.simplex.specs.States.{limits_in}
use Rattle.simplex.specs.Assignments.{corner_of, value_of}
use Rattle.simplex.proofs.ChoiceLaws.{entry_of, can_help-by, nil_of}
use Rattle.simplex.proofs.ShareLaws.{has_holder, AreShares-append}
use Rattle.simplex.proofs.HolderLaws.{EachHolder, EachHolder-append}
use Rattle.simplex.proofs.ConflictLaws.{conflict_of}
use Rattle.simplex.proofs.conflict.shares_of.Goals as goal

pub share-requires : goal.share-requires
share-requires g c =
    let value = g.F.OrderedField.value in
    let at = corner_of value c.args.assignment.now c.args.limits.now in
    let row = c.row-entries.result.now in
    let front = c.loop-first.invariant.0 in
    let e = c.in-Some.first.now in
    let parts = c.loop-first.invariant.1.0 ∙ ap (λ r. c.loop-first.invariant.0 ++ r) c.in-Some.ensures.cases.0 in
    let of = entry_of value c.args.assignment.now.table c.args.violation.basic row front e c.in-Some.behind.now c.row-entries.ensures parts in
    record {
      within = omega (arith, of.within, c.requires.limits);
      some = of.some;
      holder = has_holder c.args.violation.upper (limits_in value c.args.limits.now.limits) e.variable (value e.number) (value_of value c.args.assignment.now e.variable) (λ helps. c.requires.helpless e.variable (can_help-by value at c.args.violation.upper c.args.violation.basic e of helps));
    }

pub loop-first-init : goal.loop-first-init
loop-first-init g c =
    let value = g.F.OrderedField.value in
    let items = rw c.new-shares.ensures.items at c.in_ok-push.ensures.items in
    ([], (refl, ([], (tt, subst (λ ss. AreShares value (with_one (limit_value value c.args.violation.limit) ∷ []) ss) (sym items) (refl, c.one.ensures, tt)))))

pub loop-first-preserved : goal.loop-first-preserved
loop-first-preserved g c =
    let value = g.F.OrderedField.value in
    let at = corner_of value c.args.assignment.now c.args.limits.now in
    let row = c.row-entries.result.now in
    let front = c.loop-first.invariant.0 in
    let e = c.in-Some.first.now in
    let parts = c.loop-first.invariant.1.0 ∙ ap (λ r. c.loop-first.invariant.0 ++ r) c.in-Some.ensures.cases.0 in
    let of = entry_of value c.args.assignment.now.table c.args.violation.basic row front e c.in-Some.behind.now c.row-entries.ensures parts in
    let ws = c.loop-first.invariant.1.1.0 in
    let w = c.share.ensures.weight in (
      front ++ e ∷ [],
      (
        parts ∙ sym (append_assoc front (e ∷ []) c.in-Some.behind.now),
        (
          ws ++ w ∷ [],
          (
            EachHolder-append value (limits_in value c.args.limits.now.limits) c.args.violation.upper front ws e w c.loop-first.invariant.1.1.1.0 c.share.ensures.holder,
            subst (λ ss. AreShares value (with_one (limit_value value c.args.violation.limit) ∷ (c.loop-first.invariant.1.1.0 ++ c.share.ensures.weight ∷ [])) ss) (sym c.in_ok-push-2.ensures.items) (AreShares-append value (with_one (limit_value value c.args.violation.limit) ∷ ws) c.loop-first.shares.items w c.share.result c.loop-first.invariant.1.1.1.1 c.share.ensures.tag c.share.ensures.mult),
          ),
        ),
      ),
    )

pub returns : goal.returns
returns g c =
    let value = g.F.OrderedField.value in
    let at = corner_of value c.args.assignment.now c.args.limits.now in
    let row = c.row-entries.result.now in
    let front = c.loop-first.invariant.0 in
    let none : length c.loop-first.rest.now ≡ 0 = c.in_default.ensures.cases in
    let all : c.row-entries.result.now ≡ c.loop-first.invariant.0 = c.loop-first.invariant.1.0 ∙ ap (λ r. c.loop-first.invariant.0 ++ r) (nil_of c.loop-first.rest.now none) ∙ append-nil c.loop-first.invariant.0 in
    let found = c.requires.found in
    conflict_of value at c.args.violation.upper c.args.violation.basic (limit_value value c.args.violation.limit) row c.row-entries.ensures found.least.basic c.requires.sound.meets found.in_force found.least.violated c.requires.helpless c.loop-first.invariant.1.1.0 (subst (λ es. EachHolder value (limits_in value c.args.limits.now.limits) c.args.violation.upper es c.loop-first.invariant.1.1.0) (sym all) c.loop-first.invariant.1.1.1.0) c.loop-first.shares.items c.loop-first.invariant.1.1.1.1
