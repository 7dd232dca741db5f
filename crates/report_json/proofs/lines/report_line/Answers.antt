use Rattle.std.proofs.Common.{◌∙◌, ap}
use Rattle.std.specs.Char.{encode_utf8}
use Rattle.std.proofs.lemmas.Str.{utf8_lossy-IsUtf8}
use Rattle.report_json.specs.Lines.{json_line}
use Rattle.report_json.proofs.LineLaws.{line_is}
use Rattle.report_json.proofs.lines.report_line.Goals as goal

pub returns-clause-line : goal.returns-clause-line
unfolding encode_utf8
returns-clause-line c = line_is c.args.status _ _ _ _ c.in_ok-report_value.ensures c.in_ok-line.ensures.text c.in_ok-push.ensures.bytes

pub returns-clause-whole : goal.returns-clause-whole
unfolding encode_utf8
returns-clause-whole c = λ whole.
    line_is c.args.status _ _ _ _ c.in_ok-report_value.ensures c.in_ok-line.ensures.text c.in_ok-push.ensures.bytes
    ∙ ap (json_line c.args.status) (utf8_lossy-IsUtf8 c.args.text.now whole)
