-- What is put with the statuses 0, 1 and 2 says: a case for each command, the names of its files, and each of its reports. What a
-- folder tells of the names is the text of what the report speaks of.
use Rattle.std.specs.Prelude.{◌≡◌, ℕ, ◌≤◌, List, [], ◌∷◌, Option, Some, codes}
use Rattle.whole.specs.declared.answers.Stuck.{Stuck}
use Rattle.path_server.specs.Places.{IsFirstBroken as IsFirstBrokenRule, IsFirstWide as IsFirstWideRule}
use Rattle.path_server.specs.Rules.{Admitted}
use Rattle.question_text.specs.Meaning.{Violates}
use Rattle.ctrl_meaning.specs.RunOf.{RunOf}
use Rattle.trace_replay.specs.Meaning.{IsFirstBroken, IsFirstWide}
use Rattle.trace_replay.specs.declared.replaying.RunRule.{RunRule}
use Rattle.trace_replay.specs.declared.replaying.RunRule.TheVariants.{P}
use Rattle.clause_form.specs.Derivations.{Proves}
use Rattle.cert_check.specs.Answers.{IsFirstFault, IsFirstOverflow, named}
use Rattle.verdict.specs.Problems.{NoneViolates}
use Rattle.ccac_ports.specs.Ports.{Appends, Got, Told}
use Rattle.ccac_cli.specs.Commands.{Order}
use Rattle.ccac_cli.specs.declared.commands.Command.{Command}
use Rattle.ccac_cli.specs.declared.commands.Command.TheVariants.{Admit, Audit, Check, Format, Replay}
use Rattle.ccac_cli.specs.Formats.{controller_text, question_text}
use Rattle.ccac_cli.specs.Headline.{Headline}
use Rattle.ccac_cli.specs.Named.{NamesCert, NamesController, NamesQuestion, NamesSetting, NamesTrace, Poses}
use Rattle.file_reports.specs.Reports.{Answer}
use Rattle.ccac_cli.specs.Reports.{broken, unproved, wide, wide_sum}

pub data Means (folder : Told) : Command → List (List ℕ) → ℕ → List ℕ → Type 0 where
  -- the path admits the run; the first rule that the run breaks, at its row and flow; no rule is broken before the comparison on this
  -- row, whose weighing overflows 128 bits
  admitted : (q t : List ℕ) (path : NamesSetting folder q) (trace : NamesTrace folder t) → Admitted path.setting.path trace.run
      → Means folder Admit (q ∷ t ∷ []) 0 (codes "admitted\n")
  not_admitted : (q t : List ℕ) (path : NamesSetting folder q) (trace : NamesTrace folder t) (rule row flow : ℕ)
      → IsFirstBrokenRule path.setting.path trace.run rule row flow → Means folder Admit (q ∷ t ∷ []) 1 (broken (P rule) row flow).text
  admit_wide : (q t : List ℕ) (path : NamesSetting folder q) (trace : NamesTrace folder t) (stuck : Stuck)
      → IsFirstWideRule path.setting.path trace.run stuck → Means folder Admit (q ∷ t ∷ []) 2 (wide stuck).text
  -- the run is one of the controller's flows on an admitted path, and violates the question, or doesn't; the first rule that it breaks; no
  -- rule is broken before the comparison on this row, whose weighing overflows 128 bits
  violating : (c q t : List ℕ) (asked : NamesQuestion folder c q) (trace : NamesTrace folder t)
      → RunOf asked.asked.controller asked.question.setting trace.run → Violates asked.question trace.run
      → Means folder Replay (c ∷ q ∷ t ∷ []) 0 (codes "violating\n")
  keeps : (c q t : List ℕ) (asked : NamesQuestion folder c q) (trace : NamesTrace folder t) → RunOf asked.asked.controller asked.question.setting trace.run
      → (Violates asked.question trace.run → ⊥) → Means folder Replay (c ∷ q ∷ t ∷ []) 1 (codes "keeps\n")
  breaks : (c q t : List ℕ) (asked : NamesQuestion folder c q) (trace : NamesTrace folder t) (rule : RunRule) (row flow : ℕ)
      → IsFirstBroken asked.asked.controller asked.question trace.run rule row flow → Means folder Replay (c ∷ q ∷ t ∷ []) 1 (broken rule row flow).text
  replay_wide : (c q t : List ℕ) (asked : NamesQuestion folder c q) (trace : NamesTrace folder t) (stuck : Stuck)
      → IsFirstWide asked.asked.controller asked.question trace.run stuck → Means folder Replay (c ∷ q ∷ t ∷ []) 2 (wide stuck).text
  -- no run violates the question, which the certificate proves; the first place at which the certificate fails, and its cause; nothing
  -- fails before this place, at which a sum overflows 128 bits, first at this column
  proved : (c q k : List ℕ) (posed : Poses folder c q) (named_cert : NamesCert folder k) → Proves posed.problem named_cert.cert
      → NoneViolates posed.asked.asked.controller posed.asked.question → Means folder Audit (c ∷ q ∷ k ∷ []) 0 (codes "proved\n")
  fails : (c q k : List ℕ) (posed : Poses folder c q) (named_cert : NamesCert folder k) (lemma node cause : ℕ)
      → IsFirstFault posed.problem named_cert.cert lemma node cause → Means folder Audit (c ∷ q ∷ k ∷ []) 1 (unproved (named lemma) (named node) cause).text
  audit_wide : (c q k : List ℕ) (posed : Poses folder c q) (named_cert : NamesCert folder k) (lemma node column : ℕ)
      → IsFirstOverflow posed.problem named_cert.cert lemma node column
      → Means folder Audit (c ∷ q ∷ k ∷ []) 2 (wide_sum (named lemma) (named node) column).text
  -- a trace that violates the question, a certificate that no run does, or the journal of a search that was given up
  checked : (c q : List ℕ) (later : Told) (a : Answer) → a.status ≤ 2 → Headline folder later c q a → Means folder Check (c ∷ q ∷ []) a.status a.text
  -- the canonical text of the last named file
  controller_put : (c : List ℕ) (named : NamesController folder c) → Means folder Format (c ∷ []) 0 (controller_text named.syntax)
  question_put : (c q : List ℕ) (named : NamesQuestion folder c q)
      → Means folder Format (c ∷ q ∷ []) 0 (question_text named.asked.controller named.question)

-- the words were an order, and what was put means what the status says
pub record IsMeant (folder : Told) (words : Option Order) (old new : Got) (status : ℕ) : Type 0 where
  pub order : Order
  pub ordered : words ≡ Some order
  pub text : List ℕ
  pub put : Appends old.text new.text text
  pub means : Means folder order.command order.names status text
