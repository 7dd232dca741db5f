use Rattle.std.proofs.Common.{◌≡◌, map, take, All}
use Rattle.trace_picture.specs.Panels.{IsPanel, title_of}
use Rattle.trace_picture.proofs.panels.draw.Given as goal

abbrev pub invariant-loop-title : goal.invariant-loop-title
invariant-loop-title l = record {
  titles_are : map title_of l.panels ≡ take l.title-index l.title-items;
  panels_are : All (IsPanel l.path l.shape l.run) l.panels;
}
