use Rattle.std.proofs.Common.{◌≡◌, ℕ, ◌<◌, [], get_or, take, length, refl, sym, ap, subst, arith}
use Rattle.std.specs.List.{All, Contains}
use Rattle.std.proofs.lemmas.List.{take_all}
use Rattle.std.proofs.lemmas.List.Elements.{All-more}
use Rattle.tableau.specs.Layout.{AreBelow}
use Rattle.tableau.proofs.NameLaws.{IsGrown-none, IsGrown-more, all_named_still}
use Rattle.tableau.proofs.names.name_followed.Goals as goal

pub loop-change-init : goal.loop-change-init
loop-change-init g c = record { grown = IsGrown-none _; within = λ n below each. each; named = λ k d within. absurd (omega arith) }

pub name_row-requires : goal.name_row-requires
name_row-requires g c = λ k d within.
    subst (λ n. (get_or c.args.row.now k d).variable < n) (sym c.loop-change.invariant.grown.count) (c.requires.inside k d within)

pub returns-in-Err-clause-grown : goal.returns-in-Err-clause-grown
returns-in-Err-clause-grown g c = IsGrown-more _ _ _ c.loop-change.invariant.grown c.name_row.ensures.grown

pub returns-in-Err-clause-within : goal.returns-in-Err-clause-within
returns-in-Err-clause-within g c = λ n all each.
    c.name_row.ensures.within n (subst (λ f. f.variable < n) (sym c.change-item.is) (all c.loop-change.change-index c.change-item.result c.loop-change-test.true)) (c.loop-change.invariant.within n all each)

pub loop-change-preserved : goal.loop-change-preserved
loop-change-preserved g c =
    record {
      grown = IsGrown-more _ _ _ c.loop-change.invariant.grown c.name_row.ensures.grown;
      within = λ n all each. c.name_row.ensures.within n (subst (λ f. f.variable < n) (sym c.change-item.is) (all c.loop-change.change-index c.change-item.result c.loop-change-test.true)) (c.loop-change.invariant.within n all each);
      named = All-more (λ f. All (λ e. Contains (get_or c.name_row.new.users.items e.variable []) f.variable) c.args.row.now) c.args.followed.now c.loop-change.change-index c.change-item.result c.loop-change-test.true
          (all_named_still c.loop-change.users.items c.name_row.new.users.items c.args.row.now (take c.loop-change.change-index c.args.followed.now) c.name_row.ensures.grown c.loop-change.invariant.named)
          (subst (λ f. All (λ e. Contains (get_or c.name_row.new.users.items e.variable []) f.variable) c.args.row.now) c.change-item.is c.in-Ok.ensures.named);
    }

pub returns-clause-named : goal.returns-clause-named
returns-clause-named g c =
    subst (λ r. All (λ f. All (λ e. Contains (get_or c.loop-change.users.items e.variable []) f.variable) c.args.row.now) r) (take_all c.loop-change.change-index c.args.followed.now c.loop-change-test.false) c.loop-change.invariant.named
