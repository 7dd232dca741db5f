use Rattle.std.proofs.Common.{sym, ap, ◌∙◌}
use Rattle.source_text.specs.Lines.{Unread}
use Rattle.source_text.proofs.LineLaws.{none_left, one_taken}
use Rattle.source_text.proofs.all_lines.AllLines.take.Goals as goal

pub returns-in_default-clause-taken : goal.returns-in_default-clause-taken
returns-in_default-clause-taken c =
    let none = none_left c.args.self.now c.self.inside.number c.self.inside.rest.now c.self.view_is (c.in_default.ensures).line in
    (none, none)

pub returns-clause-taken : goal.returns-clause-taken
returns-clause-taken c =
    sym (ap (λ (u : Unread). u.lines) c.self.view_is) ∙ one_taken c.self.inside.number c.self.inside.rest.now c.in-Some.bytes.now c.in-Some.rest.now (c.in-Some.ensures).line
