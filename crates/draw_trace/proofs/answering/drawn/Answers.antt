use Rattle.std.proofs.Common.{◌≡◌, ap, ℕ, List}
use Rattle.run_rows.specs.declared.rows.Run.{Run}
use Rattle.run_rows.specs.declared.shapes.Shape.{Shape}
use Rattle.path_server.specs.declared.settings.Setting.{Setting}
use Rattle.trace_picture.specs.Panels.{IsPicture}
use Rattle.trace_picture.specs.declared.panels.Picture.{Picture}
use Rattle.picture_svg.specs.Documents.{document_text}
use Rattle.draw_trace.specs.Drawing.{RunAnswers, drawn}
use Rattle.draw_trace.specs.Reports.{Answer}
use Rattle.draw_trace.proofs.answering.drawn.Goals as goal

shows : (s : Setting) (shape : Shape) (r : Run) (picture : Picture) (bytes : List ℕ) → IsPicture s.path shape r picture → bytes ≡ document_text picture
    → RunAnswers s shape r (record { status = 0; text = bytes })
shows s shape r picture bytes is text = drawn picture is (ap (λ (b : List ℕ). let a : Answer = record { status = 0; text = b } in a) text)

pub returns-in_ok-svg-in-Ok : goal.returns-in_ok-svg-in-Ok
returns-in_ok-svg-in-Ok c =
    shows c.args.setting.now c.args.shape.now c.args.run.now c.in-Ok.picture c.in_ok-svg-in-Ok.field-0.items c.in-Ok.ensures c.in_ok-svg-in-Ok.ensures
