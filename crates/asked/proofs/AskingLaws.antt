-- Two texts are those of one controller and one question, as these are seen, or one of them is refused: one of the two.
use Rattle.std.proofs.Common.{◌≡◌, ℕ, List, Result, Ok, Err, refl, sym, ap, subst}
use Rattle.std.specs.Prelude.{IfOk, IfErr, IsOkUnless}
use Rattle.whole.specs.declared.answers.ReadFault.{ReadFault}
use Rattle.whole.specs.declared.answers.ReadFault.TheVariants as reading
use Rattle.whole.specs.declared.answers.Refusal.{Refusal}
use Rattle.ctrl_syntax.specs.Sections.{Sections, sections_of}
use Rattle.ctrl_syntax.specs.declared.syntax.Syntax.{Syntax}
use Rattle.ctrl_syntax.proofs.Exactness as controllers
use Rattle.ctrl_types.specs.Resolved.{Resolves}
use Rattle.ctrl_types.specs.Resolving.{controller_seen}
use Rattle.ctrl_types.specs.declared.controllers.Controller.{Controller}
use Rattle.ctrl_types.proofs.SameController.{one_controller}
use Rattle.question_text.specs.StatementRules.{question_seen}
use Rattle.question_text.specs.Texts.{IsRefused}
use Rattle.question_text.specs.declared.questions.Question.{Question}
use Rattle.question_text.proofs.SeenLaws.{refused_same, text_same}
use Rattle.question_text.proofs.TellingLaws as questions
use Rattle.asked.specs.Asked.{AreAsked, AskFails, FaultUnless, IsAsked, of_controller, of_question}
use Rattle.asked.specs.Texts.{IsControllerRefused, IsControllerText}
use Rattle.asked.specs.declared.asking.AskFault.{AskFault}
use Rattle.asked.specs.declared.asking.AskFault.TheVariants as fault
use Rattle.asked.specs.declared.asking.Asked.{Asked}
use Rattle.asked.proofs.ControllerTexts.{one_refusal, not_both}

pub one_seen : (bytes : List ℕ) (syntax other : Syntax) (c d : Controller) → IsControllerText bytes syntax c → IsControllerText bytes other d
    → controller_seen c ≡ controller_seen d
one_seen bytes syntax other c d one two =
    let same : sections_of other ≡ sections_of syntax = controllers.one_text bytes (sections_of other) (sections_of syntax) two.spelled one.spelled in
    one_controller (sections_of syntax) c d one.resolved (subst (λ (s : Sections). Resolves s d) same two.resolved)

-- ---- a question about what is seen the same

module _ (c d : Controller) (same : controller_seen c ≡ controller_seen d) (bytes : List ℕ) where
  pub one_asked : (q p : Question) → IsAsked c bytes q → IsAsked d bytes p → question_seen q ≡ question_seen p
  one_asked q p one two =
      questions.one_question d bytes (question_seen q) (question_seen p) (text_same c d same bytes (question_seen q) one.spelled) two.spelled

  pub refused_once : (r s : Refusal) → IsRefused c bytes r → IsRefused d bytes s → r ≡ s
  refused_once r s one two = questions.one_refusal d bytes r s (refused_same c d same bytes r one) two

  pub refused_alone : (r : Refusal) (p : Question) → IsRefused c bytes r → IsAsked d bytes p → ⊥
  refused_alone r p one two = questions.not_both d bytes r (question_seen p) (refused_same c d same bytes r one) two.spelled

-- ---- what is read of both

module _ (controller question : List ℕ) where
  -- what was found of the two, or why nothing was
  abbrev pub AsksOf : Result Asked AskFault → Type 0
  AsksOf (Ok asked) = AreAsked controller question asked.controller asked.question
  AsksOf (Err fault) = AskFails controller question fault

  pub asks_of : (result : Result Asked AskFault) → IfOk result (λ asked. AreAsked controller question asked.controller asked.question)
      → IfErr result (λ fault. AskFails controller question fault) → AsksOf result
  asks_of (Ok asked) found refused = found
  asks_of (Err fault) found refused = refused

  -- a reader's fault is the fault of reading both
  pub controller_fails : (fault : ReadFault) (given : AskFault) → given ≡ of_controller fault → ((r : Refusal) → fault ≡ reading.Refused r → IsControllerRefused controller r)
      → AskFails controller question given
  controller_fails (reading.Refused r) given is refused = subst (AskFails controller question) (sym is) (refused r refl)
  controller_fails reading.NoMemory given is refused = subst (AskFails controller question) (sym is) tt

  pub question_fails : (syntax : Syntax) (c : Controller) (fault : ReadFault) (given : AskFault) → IsControllerText controller syntax c → given ≡ of_question fault
      → ((r : Refusal) → fault ≡ reading.Refused r → IsRefused c question r) → AskFails controller question given
  question_fails syntax c (reading.Refused r) given text is refused =
      subst (AskFails controller question) (sym is) (record { syntax = syntax; asked = c; controller_is = text; refused = refused r refl })
  question_fails syntax c reading.NoMemory given text is refused = subst (AskFails controller question) (sym is) tt

  pub read_where_asked : (result : Result Asked AskFault) → AsksOf result → (c : Controller) (q : Question) → AreAsked controller question c q
      → IsOkUnless result fault.NoMemory
  read_where_asked (Ok asked) is c q are = tt
  read_where_asked (Err (fault.Controller r)) is c q are = absurd (not_both controller are.syntax c r are.controller_is is)
  read_where_asked (Err (fault.Question r)) is c q are =
      absurd (refused_alone is.asked c (one_seen controller is.syntax are.syntax is.asked c is.controller_is are.controller_is) question r q is.refused are.question_is)
  read_where_asked (Err fault.NoMemory) is c q are = refl

  pub controller_first : (result : Result Asked AskFault) → AsksOf result → (r : Refusal) → IsControllerRefused controller r
      → FaultUnless (fault.Controller r) result
  controller_first (Ok asked) is r refused = not_both controller is.syntax asked.controller r is.controller_is refused
  controller_first (Err (fault.Controller s)) is r refused = ap fault.Controller (one_refusal controller s r is refused)
  controller_first (Err (fault.Question s)) is r refused = absurd (not_both controller is.syntax is.asked r is.controller_is refused)
  controller_first (Err fault.NoMemory) is r refused = tt

  pub question_second : (result : Result Asked AskFault) → AsksOf result → (syntax : Syntax) (c : Controller) (r : Refusal)
      → IsControllerText controller syntax c → IsRefused c question r → FaultUnless (fault.Question r) result
  question_second (Ok asked) is syntax c r text refused =
      refused_alone c asked.controller (one_seen controller syntax is.syntax c asked.controller text is.controller_is) question r asked.question refused is.question_is
  question_second (Err (fault.Controller s)) is syntax c r text refused = absurd (not_both controller syntax c s text is)
  question_second (Err (fault.Question s)) is syntax c r text refused =
      ap fault.Question (refused_once is.asked c (one_seen controller is.syntax syntax is.asked c is.controller_is text) question s r is.refused refused)
  question_second (Err fault.NoMemory) is syntax c r text refused = tt
