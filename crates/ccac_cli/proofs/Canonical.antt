-- The canonical text of a controller says nothing of line numbers, so what it spells has the same canonical text.
use Rattle.std.proofs.Common.{◌≡◌, refl, sym, ap, ◌∙◌, ℕ, List, [], ◌∷◌, ◌++◌, map, Option, None, Some}
use Rattle.std.specs.Prelude.{flat_map}
use Rattle.ctrl_syntax.specs.Grammar.{IsText}
use Rattle.ctrl_syntax.specs.Printed.{guard_text, line_text, printed, rate_text, rule_text, set_text, state_text}
use Rattle.ctrl_syntax.specs.Sections.{Rule, SameButLines, Sections, rate_without, rule_without, set_at, state_at, without_lines}
use Rattle.ctrl_syntax.specs.declared.syntax.StateLine.{StateLine}
use Rattle.ctrl_syntax.specs.declared.syntax.SetLine.{SetLine}
use Rattle.ctrl_syntax.specs.declared.syntax.RateLine.{RateLine}
use Rattle.ctrl_syntax.proofs.Exactness.{one_text}
use Rattle.ctrl_syntax.proofs.SectionTexts.{text_printed}

states_same : (xs : List StateLine) → flat_map (line_text state_text) (map (state_at 0) xs) ≡ flat_map (line_text state_text) xs
unfolding state_text
states_same [] = refl
states_same (x ∷ xs) = ap (λ rest. line_text state_text x ++ rest) (states_same xs)

sets_same : (xs : List SetLine) → flat_map (line_text set_text) (map (set_at 0) xs) ≡ flat_map (line_text set_text) xs
unfolding set_text
sets_same [] = refl
sets_same (x ∷ xs) = ap (λ rest. line_text set_text x ++ rest) (sets_same xs)

rules_same : (rs : List Rule) → flat_map rule_text (map rule_without rs) ≡ flat_map rule_text rs
rules_same [] = refl
rules_same (r ∷ rs) =
    ap (λ sets. (line_text guard_text r.guard ++ sets) ++ flat_map rule_text (map rule_without rs)) (sets_same r.sets)
    ∙ ap (λ rest. rule_text r ++ rest) (rules_same rs)

rate_same : (r : Option RateLine) → rate_text (rate_without r) ≡ rate_text r
rate_same None = refl
rate_same (Some r) = refl

printed_without : (s : Sections) → printed (without_lines s) ≡ printed s
unfolding printed
printed_without s = rw (states_same s.states, rules_same s.rules, rate_same s.rate) refl

printed_same : (s t : Sections) → SameButLines s t → printed s ≡ printed t
printed_same s t same = sym (printed_without s) ∙ ap printed same ∙ printed_without t

pub controller_stays : (bytes : List ℕ) (s t : Sections) → IsText bytes s → IsText (printed s) t → printed t ≡ printed s
controller_stays bytes s t is spelled =
    let again = text_printed bytes s is in
    ap printed (one_text (printed s) t again.read spelled again.spelled) ∙ sym (printed_same s again.read again.same)
