use Rattle.std.proofs.Common.{sym, subst, List, All}
use Rattle.std.proofs.lemmas.List.Elements.{All-push}
use Rattle.trace_picture.specs.Panels.{IsPanel, title_of}
use Rattle.trace_picture.specs.declared.panels.Panel.{Panel}
use Rattle.trace_picture.proofs.MadeLists.{named_goes_on}
use Rattle.trace_picture.proofs.panels.draw.Goals as goal

pub loop-title-preserved : goal.loop-title-preserved
loop-title-preserved c =
    let Is = IsPanel c.args.path.now c.args.shape.now c.args.run.now in
    let pushed = c.in_ok-push.ensures.ok in
    record {
      titles_are = named_goes_on title_of _ c.loop-title.title-index _ _ _ _ c.loop-title-test.true c.loop-title.invariant.titles_are pushed
          c.in_ok-panel.ensures.title;
      panels_are = subst (λ (ps : List Panel). All Is ps) (sym pushed) (All-push Is _ _ c.loop-title.invariant.panels_are c.in_ok-panel.ensures.panel);
    }
