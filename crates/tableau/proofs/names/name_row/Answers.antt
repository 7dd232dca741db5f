use Rattle.std.proofs.Common.{◌≡◌, ℕ, ◌<◌, [], get_or, take, refl, sym, ap, subst, arith}
use Rattle.std.specs.List.{All, Contains}
use Rattle.std.proofs.lemmas.List.{take_all}
use Rattle.std.proofs.lemmas.List.Elements.{All-more}
use Rattle.tableau.proofs.NameLaws.{IsGrown-none, IsGrown-more, named_still}
use Rattle.tableau.proofs.names.name_row.Goals as goal

pub loop-entry-init : goal.loop-entry-init
loop-entry-init g c = record { grown = IsGrown-none _; within = λ n below each. each; named = λ k d within. absurd (omega arith) }

pub name_at-requires : goal.name_at-requires
name_at-requires g c = omega (arith, c.loop-entry.invariant.grown.count, c.requires c.loop-entry.entry-index c.entry-item.result c.loop-entry-test.true, ap (λ e. e.variable) c.entry-item.is)

pub returns-in-Err-clause-grown : goal.returns-in-Err-clause-grown
returns-in-Err-clause-grown g c = IsGrown-more _ _ _ c.loop-entry.invariant.grown c.name_at.ensures.grown

pub returns-in-Err-clause-within : goal.returns-in-Err-clause-within
returns-in-Err-clause-within g c = λ n below each. c.name_at.ensures.within n below (c.loop-entry.invariant.within n below each)

pub loop-entry-preserved : goal.loop-entry-preserved
loop-entry-preserved g c =
    record {
      grown = IsGrown-more _ _ _ c.loop-entry.invariant.grown c.name_at.ensures.grown;
      within = λ n below each. c.name_at.ensures.within n below (c.loop-entry.invariant.within n below each);
      named = All-more (λ e. Contains (get_or c.name_at.new.users.items e.variable []) c.args.name) c.args.row.now c.loop-entry.entry-index c.entry-item.result c.loop-entry-test.true
          (named_still c.loop-entry.users.items c.name_at.new.users.items c.args.name (take c.loop-entry.entry-index c.args.row.now) c.name_at.ensures.grown c.loop-entry.invariant.named)
          (subst (λ e. Contains (get_or c.name_at.new.users.items e.variable []) c.args.name) c.entry-item.is c.in-Ok.ensures.named);
    }

pub returns-clause-named : goal.returns-clause-named
returns-clause-named g c =
    subst (λ r. All (λ e. Contains (get_or c.loop-entry.users.items e.variable []) c.args.name) r) (take_all c.loop-entry.entry-index c.args.row.now c.loop-entry-test.false) c.loop-entry.invariant.named
