use Rattle.std.proofs.Common.{sym, ◌∙◌}
use Rattle.source_text.specs.Taken.{line_of}
use Rattle.source_text.proofs.LineLaws.{kept_first, kept_others, kept_nothing}
use Rattle.source_text.proofs.lines.next_kept.Goals as goal

pub returns-then-is_kept-clause-taken : goal.returns-then-is_kept-clause-taken
returns-then-is_kept-clause-taken c =
    c.loop-line.invariant.0
    ∙ kept_first c.loop-line.lines.lines c.take.new.self.lines (line_of c.in-Some.line) (c.in-Some.ensures).taken (sym c.is_kept.ensures ∙ c.if-is_kept.true)

pub loop-line-preserved : goal.loop-line-preserved
loop-line-preserved c = (
  c.loop-line.invariant.0
      ∙ kept_others c.loop-line.lines.lines c.take.new.self.lines (line_of c.in-Some.line) (c.in-Some.ensures).taken (sym c.is_kept.ensures ∙ c.if-is_kept.false),
  c.take.ensures.end ∙ c.loop-line.invariant.1,
)

pub returns-clause-taken : goal.returns-clause-taken
returns-clause-taken c =
    let none = (c.in_default.ensures).taken in
    (c.loop-line.invariant.0 ∙ kept_nothing c.loop-line.lines.lines none.0, none.1)
