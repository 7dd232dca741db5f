use Rattle.std.proofs.lemmas.Result.{err_from_is_err_and}
use Rattle.question_syntax.specs.Sections.{sections_of}
use Rattle.question_text.proofs.TextLaws.{before_only, before_first, behind_found, behind_limits, behind_only, behind_refused, behind_first, controller_scale, syntax_asked}
use Rattle.question_text.proofs.texts.read.Goals as goal

pub resolved-requires-clause-text_in : goal.resolved-requires-clause-text_in
resolved-requires-clause-text_in c = syntax_asked c.in_ok-syntax.syntax c.in_ok-syntax.ensures.limits

pub returns-clause-found : goal.returns-clause-found
returns-clause-found c = behind_found c.args.controller.now (controller_scale c.args.controller.now c.requires.controller_in) c.args.bytes.now (sections_of c.in_ok-syntax.syntax) c.in_ok-syntax.ensures.found c.resolved.result c.resolved.ensures

pub returns-clause-only : goal.returns-clause-only
returns-clause-only c = behind_only c.args.controller.now (controller_scale c.args.controller.now c.requires.controller_in) c.args.bytes.now (sections_of c.in_ok-syntax.syntax) c.in_ok-syntax.ensures.found c.resolved.result c.resolved.ensures

pub returns-clause-refused : goal.returns-clause-refused
returns-clause-refused c = behind_refused c.args.controller.now (controller_scale c.args.controller.now c.requires.controller_in) c.args.bytes.now (sections_of c.in_ok-syntax.syntax) c.in_ok-syntax.ensures.found c.resolved.result c.resolved.ensures

pub returns-clause-first : goal.returns-clause-first
returns-clause-first c = behind_first c.args.controller.now (controller_scale c.args.controller.now c.requires.controller_in) c.args.bytes.now (sections_of c.in_ok-syntax.syntax) c.in_ok-syntax.ensures.found c.resolved.result c.resolved.ensures

pub returns-clause-limits : goal.returns-clause-limits
returns-clause-limits c = behind_limits c.args.controller.now (controller_scale c.args.controller.now c.requires.controller_in) c.args.bytes.now (sections_of c.in_ok-syntax.syntax) c.in_ok-syntax.ensures.found c.resolved.result c.resolved.ensures

pub returns-in_err-syntax-clause-only : goal.returns-in_err-syntax-clause-only
returns-in_err-syntax-clause-only c =
    let p = err_from_is_err_and c.from_residual.result c.from_residual.ensures.1 in
    rw (p.1, p.2) (before_only c.args.controller.now (controller_scale c.args.controller.now c.requires.controller_in) c.args.bytes.now _ c.in_err-syntax.ensures.only)

pub returns-in_err-syntax-clause-first : goal.returns-in_err-syntax-clause-first
returns-in_err-syntax-clause-first c =
    let p = err_from_is_err_and c.from_residual.result c.from_residual.ensures.1 in
    rw (p.1, p.2) (before_first c.args.controller.now (controller_scale c.args.controller.now c.requires.controller_in) c.args.bytes.now _ c.in_err-syntax.ensures.only c.in_err-syntax.ensures.first)
