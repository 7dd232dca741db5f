use Rattle.std.proofs.Common.{◌≡◌, [], ◌∷◌, ◌++◌, length, refl, sym, ap, subst, ◌∙◌}
use Rattle.std.proofs.lemmas.List.{append-nil, append_assoc}
use Rattle.simplex.specs.Corners.{CanHelp}
use Rattle.simplex.specs.Assignments.{corner_of}
use Rattle.simplex.proofs.SettingLaws.{told_not}
use Rattle.simplex.proofs.ChoiceLaws.{Every, Every-append, Every-at, entry_of, before-entry, helps-some, can_help-by, helps-of, none-helps, nil_of}
use Rattle.simplex.proofs.choice.helper.Goals as goal

pub loop-first-init : goal.loop-first-init
loop-first-init g c = ([], (refl, tt))

pub can_help-requires : goal.can_help-requires
can_help-requires g c =
    let value = g.F.OrderedField.value in
    let at = corner_of value c.args.assignment.now c.args.limits.now in
    let row = c.row-entries.result.now in
    let front = c.loop-first.invariant.0 in
    let e = c.in-Some.first.now in
    let parts = c.loop-first.invariant.1.0 ∙ ap (λ r. c.loop-first.invariant.0 ++ r) c.in-Some.ensures.cases.0 in
    let of = entry_of value c.args.assignment.now.table c.args.basic row front e c.in-Some.behind.now c.row-entries.ensures parts in
    record { limits = c.requires.limits; within = of.within; some = of.some }

pub returns-then-can_help : goal.returns-then-can_help
returns-then-can_help g c =
    let value = g.F.OrderedField.value in
    let at = corner_of value c.args.assignment.now c.args.limits.now in
    let row = c.row-entries.result.now in
    let front = c.loop-first.invariant.0 in
    let e = c.in-Some.first.now in
    let parts = c.loop-first.invariant.1.0 ∙ ap (λ r. c.loop-first.invariant.0 ++ r) c.in-Some.ensures.cases.0 in
    let of = entry_of value c.args.assignment.now.table c.args.basic row front e c.in-Some.behind.now c.row-entries.ensures parts in (
      can_help-by value at c.args.upper c.args.basic e of (c.if-can_help.ensures.0 refl),
      λ v less can. Every-at value (λ u. CanHelp value (corner_of value c.args.assignment.now c.args.limits.now) c.args.upper c.args.basic u → ⊥) front c.loop-first.invariant.1.1 v (before-entry value c.args.assignment.now.table c.args.basic row front e c.in-Some.behind.now c.row-entries.ensures parts v less (helps-some value at c.args.upper c.args.basic v can)) can,
    )

pub loop-first-preserved : goal.loop-first-preserved
loop-first-preserved g c =
    let value = g.F.OrderedField.value in
    let at = corner_of value c.args.assignment.now c.args.limits.now in
    let row = c.row-entries.result.now in
    let front = c.loop-first.invariant.0 in
    let e = c.in-Some.first.now in
    let parts = c.loop-first.invariant.1.0 ∙ ap (λ r. c.loop-first.invariant.0 ++ r) c.in-Some.ensures.cases.0 in
    let of = entry_of value c.args.assignment.now.table c.args.basic row front e c.in-Some.behind.now c.row-entries.ensures parts in (
      front ++ e ∷ [],
      (
        parts ∙ sym (append_assoc front (e ∷ []) c.in-Some.behind.now),
        Every-append (λ d. CanHelp value (corner_of value c.args.assignment.now c.args.limits.now) c.args.upper c.args.basic d.variable → ⊥) front e c.loop-first.invariant.1.1 (λ can. told_not _ _ c.can_help.ensures c.if-can_help.false (helps-of value at c.args.upper c.args.basic e of can)),
      ),
    )

pub returns : goal.returns
returns g c =
    let value = g.F.OrderedField.value in
    let at = corner_of value c.args.assignment.now c.args.limits.now in
    let row = c.row-entries.result.now in
    let front = c.loop-first.invariant.0 in
    let none : length c.loop-first.rest.now ≡ 0 = c.in_default.ensures.cases in
    let all : c.row-entries.result.now ≡ c.loop-first.invariant.0 = c.loop-first.invariant.1.0 ∙ ap (λ r. c.loop-first.invariant.0 ++ r) (nil_of c.loop-first.rest.now none) ∙ append-nil c.loop-first.invariant.0 in
    none-helps value at c.args.upper c.args.basic row c.row-entries.ensures (subst (λ es. Every (λ d. CanHelp value (corner_of value c.args.assignment.now c.args.limits.now) c.args.upper c.args.basic d.variable → ⊥) es) (sym all) c.loop-first.invariant.1.1)
