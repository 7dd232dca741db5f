-- Reports as JSON.
use Rattle.std.specs.Prelude.{ℕ, List, ◌==◌, if◌then◌else◌}
use Rattle.std.specs.Str.Lossy.{utf8_lossy}
use Rattle.report_json.specs.Lines.{json_line}

-- the report with this status and this text as a line of JSON; but that of usage (4) stays as it is
abbrev pub text_as_json : ℕ → List ℕ → List ℕ
text_as_json status text = if status == 4 then text else json_line status (utf8_lossy text)
