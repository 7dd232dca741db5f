-- The lines of assumptions, one after another: what came before, and what is still to come.
use Rattle.std.proofs.Common.{◌≡◌, ℕ, ◌+◌, ◌<◌, ◌≤◌, Result, Ok, Err, List, [], ◌∷◌, ◌++◌, length, map, get_or, drop, drop_of_length-le, refl, sym, ap, ◌∙◌}
use Rattle.std.proofs.lemmas.List.{append-nil, map-append}
use Rattle.text_lines.specs.Steps.{Fails}
use Rattle.text_lines.proofs.StepLaws.{with_front, regroup}
use Rattle.whole.specs.declared.answers.ReadFault.{ReadFault}
use Rattle.whole.specs.declared.answers.ReadFault.TheVariants.{Refused, NoMemory}
use Rattle.whole.specs.declared.answers.Refusal.{Refusal}
use Rattle.path_server.specs.declared.settings.Setting.{Setting}
use Rattle.ctrl_types.specs.declared.controllers.State.{State}
use Rattle.question_syntax.specs.declared.syntax.ConditionLine.{ConditionLine}
use Rattle.question_syntax.specs.Sections.{all_wanted_of, wanted_of}
use Rattle.question_text.specs.declared.conditions.QCond.{QCond}
use Rattle.question_text.specs.Conditions.{Condition, condition_of}
use Rattle.question_text.specs.Resolution.{wanted_by, wanteds_by}
use Rattle.question_text.proofs.FoundLoop.{next_is}

module _ (states : List State) (s : Setting) (lines : List ConditionLine) (i den : ℕ) (made : List QCond) (total : Result (List Condition × ℕ) Refusal)
    (so_far : with_front (map condition_of made) (wanteds_by states s (all_wanted_of (drop i lines)) den) ≡ total) where
  pub lines_go_on : (line : ConditionLine) (cond : QCond) (next : ℕ) (more : List QCond) → line ≡ get_or lines i line → i < length lines
      → wanted_by states s (wanted_of line) den ≡ Ok (condition_of cond, next) → more ≡ made ++ cond ∷ []
      → with_front (map condition_of more) (wanteds_by states s (all_wanted_of (drop (i + 1) lines)) next) ≡ total
  unfolding wanteds_by
  lines_go_on line cond next more here inside read pushed =
      let rest = next_is lines i line here inside in
      let front : map condition_of more ≡ map condition_of made ++ condition_of cond ∷ [] = ap (map condition_of) pushed ∙ map-append condition_of made (cond ∷ []) in
      let one : with_front (map condition_of made) (wanteds_by states s (all_wanted_of (drop i lines)) den)
      ≡ with_front (map condition_of made ++ condition_of cond ∷ []) (wanteds_by states s (all_wanted_of (drop (i + 1) lines)) next) =
      rw (rest, read) (regroup (map condition_of made) (condition_of cond) (wanteds_by states s (all_wanted_of (drop (i + 1) lines)) next)) in
      ap (λ (cs : List Condition). with_front cs (wanteds_by states s (all_wanted_of (drop (i + 1) lines)) next)) front ∙ sym one ∙ so_far

  lines_stop : (line : ConditionLine) (r : Refusal) → line ≡ get_or lines i line → i < length lines → wanted_by states s (wanted_of line) den ≡ Err r → total ≡ Err r
  unfolding wanteds_by
  lines_stop line r here inside read =
      let rest = next_is lines i line here inside in
      let one : with_front (map condition_of made) (wanteds_by states s (all_wanted_of (drop i lines)) den) ≡ Err r = rw (rest, read) refl in
      sym so_far ∙ one

  pub lines_fail : (line : ConditionLine) (fault : ReadFault) → line ≡ get_or lines i line → i < length lines → Fails fault (wanted_by states s (wanted_of line) den)
      → Fails fault total
  lines_fail line NoMemory here inside read = tt
  lines_fail line (Refused r) here inside read = lines_stop line r here inside read

  pub lines_end : length lines ≤ i → total ≡ Ok (map condition_of made, den)
  unfolding wanteds_by
  lines_end done =
      let one : with_front (map condition_of made) (wanteds_by states s (all_wanted_of (drop i lines)) den) ≡ Ok (map condition_of made, den) =
      rw (drop_of_length-le lines done) (ap (λ (cs : List Condition). Ok (cs, den)) (append-nil (map condition_of made))) in
      sym so_far ∙ one
