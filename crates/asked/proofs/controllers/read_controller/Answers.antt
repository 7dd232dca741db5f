use Rattle.std.proofs.Common.{◌≡◌, ◌∙◌, ap, sym, Result, Err}
use Rattle.std.proofs.lemmas.Result.{err_from_is_err_and}
use Rattle.whole.specs.declared.answers.ReadFault.{ReadFault}
use Rattle.ctrl_syntax.specs.Sections.{sections_of}
use Rattle.ctrl_syntax.specs.declared.syntax.Syntax.{Syntax}
use Rattle.ctrl_types.specs.declared.controllers.Controller.{Controller}
use Rattle.asked.specs.Texts.{unresolved}
use Rattle.asked.proofs.ControllerTexts.{broken_here, refuses_too, unbroken_here, unread_first, unread_only}
use Rattle.asked.proofs.controllers.read_controller.Goals as goal

same_fault : {T : Type 0} (x : Result T ReadFault) (e f : ReadFault) → x ≡ Err e → x ≡ Err f → e ≡ f
same_fault x e f is other = cc

pub returns-in_err-syntax-clause-only : goal.returns-in_err-syntax-clause-only
returns-in_err-syntax-clause-only c sections is whole =
    let p = err_from_is_err_and c.from_residual.result c.from_residual.ensures.1 in
    rw (p.1, p.2) (unread_only c.args.bytes.now _ c.in_err-syntax.ensures.only sections is)

pub returns-in_err-syntax-clause-first : goal.returns-in_err-syntax-clause-first
returns-in_err-syntax-clause-first c r refused =
    let p = err_from_is_err_and c.from_residual.result c.from_residual.ensures.1 in
    rw (p.1, p.2) (unread_first c.args.bytes.now _ c.in_err-syntax.ensures.only (Syntax × Controller) c.in_err-syntax.ensures.first r refused)

pub returns-in_err-controller-clause-only : goal.returns-in_err-controller-clause-only
returns-in_err-controller-clause-only c sections is whole =
    let p = err_from_is_err_and c.from_residual-in_err-controller.result c.from_residual-in_err-controller.ensures.1 in
    rw (p.1, p.2)
    (c.in_err-controller.ensures.only (unbroken_here c.args.bytes.now (sections_of c.in_ok-syntax.syntax) c.in_ok-syntax.ensures.found sections is whole))

pub returns-in_err-controller-clause-refused : goal.returns-in_err-controller-clause-refused
returns-in_err-controller-clause-refused c r is =
    let p = err_from_is_err_and c.from_residual-in_err-controller.result c.from_residual-in_err-controller.ensures.1 in
    unresolved (sections_of c.in_ok-syntax.syntax) c.in_ok-syntax.ensures.found
    (c.in_err-controller.ensures.refused r (ap Err (sym p.2 ∙ same_fault _ _ _ p.1 is)))

pub returns-in_err-controller-clause-first : goal.returns-in_err-controller-clause-first
returns-in_err-controller-clause-first c r refused =
    let p = err_from_is_err_and c.from_residual-in_err-controller.result c.from_residual-in_err-controller.ensures.1 in
    rw (p.1, p.2)
    (refuses_too Controller (Syntax × Controller) _ r
    (c.in_err-controller.ensures.first r (broken_here c.args.bytes.now (sections_of c.in_ok-syntax.syntax) c.in_ok-syntax.ensures.found r refused)))

pub returns-clause-first : goal.returns-clause-first
returns-clause-first c r refused =
    c.in_ok-controller.ensures.first r (broken_here c.args.bytes.now (sections_of c.in_ok-syntax.syntax) c.in_ok-syntax.ensures.found r refused)
