-- What a question spells is within the limits of its syntax.
use Rattle.std.proofs.Common.{◌≡◌, ℕ, Bool, Option, None, Result, Ok, Err, List, [], ◌∷◌, ◌++◌, All, subst, arith}
use Rattle.std.specs.Prelude.{IfOk, codes}
use Rattle.std.proofs.lemmas.List.Elements.{All-nil, All-cons}
use Rattle.whole.specs.declared.answers.ReadFault.{ReadFault}
use Rattle.source_text.specs.Tokens.{Token, sign}
use Rattle.source_text.specs.Printed.{AreFromLine}
use Rattle.source_text.specs.Shown.{Ahead}
use Rattle.condition_syntax.specs.declared.conditions.Style.TheVariants.{Question}
use Rattle.condition_syntax.specs.declared.expressions.Name.{Name}
use Rattle.condition_syntax.specs.declared.expressions.ETerm.{ETerm}
use Rattle.condition_syntax.specs.Trees.{Condition}
use Rattle.condition_syntax.specs.CanonicalText.{is_conjunction, is_disjunction}
use Rattle.condition_syntax.specs.Grammar.{SpellsStep, no_step, some_step, SpellsName, placed, SpellsTerm, constant, multiple, single, SpellsExpr, unsigned, negative, SpellsSimple, truth, falsity, compared}
use Rattle.condition_syntax.proofs.TextShows.{from_line_parts}
use Rattle.ctrl_syntax.specs.Rest.{fronts}
use Rattle.ctrl_syntax.specs.Grammar.{Each, none, one_more}
use Rattle.ctrl_syntax.specs.Limits.{nesting}
use Rattle.ctrl_syntax.proofs.ConditionLimits.{number_within, one_within, terms_within, terms_some, as_part, Within, cond_within}
use Rattle.ctrl_syntax.proofs.SectionTexts.{AreFromLines, fronts_from, from_parts}
use Rattle.question_syntax.specs.declared.syntax.QuestionSyntax.{QuestionSyntax}
use Rattle.question_syntax.specs.Sections.{Wanted, Sections, sections_of}
use Rattle.question_syntax.specs.Grammar.{SpellsWanted, Spells, IsText}
use Rattle.question_syntax.specs.Limits.{IsPlacedName, IsPlacedTerm, IsPlacedExpr, NoDelay, IsWanted, IsQuestion}
use Rattle.question_syntax.proofs.SettingLimits.{text_within}

-- ---- expressions

step_within : {w : List ℕ} {ss : List Token} {s : Option ℕ} → SpellsStep w ss s → s ≡ None → w ≡ codes "credit"
step_within (no_step credit) e = credit
step_within (some_step n) e = absurd (cc)

name_within : {front : List Token} {x : Name} → SpellsName Question front x → AreFromLine front → IsPlacedName x
name_within (placed may flow step) from = record { text = record { spelled = from.0; short = may.short }; free = may.free; step = step_within step }

term_within : {sg : Bool} {front : List Token} {t : ETerm} → SpellsTerm Question sg front t → AreFromLine front → IsPlacedTerm t
term_within {sg} (constant is) from = record { coef = number_within sg is; name = tt }
term_within {sg} (multiple is name) from = record { coef = number_within sg is; name = name_within name from.1.1 }
term_within {sg} (single name) from = record { coef = one_within sg; name = name_within name from }

expr_within : {front : List Token} {ts : List ETerm} → SpellsExpr Question front ts → AreFromLine front → IsPlacedExpr (record { terms = ts })
expr_within (unsigned terms few) from =
    record { terms_from = terms_some terms; terms_to = few; each_term = terms_within Question IsPlacedTerm (λ sg front t term words. term_within term words) terms from }
expr_within (negative terms few) from =
    record { terms_from = terms_some terms; terms_to = few; each_term = terms_within Question IsPlacedTerm (λ sg front t term words. term_within term words) terms from.1 }

-- ---- conditions

simple_within : {front : List Token} {c : Condition} (room : ℕ) → SpellsSimple Question front c → AreFromLine front → Within IsPlacedExpr NoDelay as_part room c
unfolding nesting is_conjunction is_disjunction
simple_within room truth from = record { exprs = tt; delays = tt; shallow = omega arith }
simple_within room falsity from = record { exprs = tt; delays = tt; shallow = omega arith }
simple_within room (compared {l = l} {r = r} s left is right) from =
    let parts = from_line_parts l (sign s ∷ r) from in
    record { exprs = (expr_within left parts.0, expr_within right parts.1.1); delays = tt; shallow = omega arith }

wanted_within : (title : List ℕ) (a : Ahead) (w : Wanted) → SpellsWanted title a w → AreFromLine a.tokens → IsWanted w
wanted_within title a w is from =
    let words = subst AreFromLine is.cond_is.tokens_are from in
    let inner = cond_within Question IsPlacedExpr NoDelay (λ room f d one part. simple_within room one part) is.cond_is.spelled words.1 in
    record { few = is.cond_is.spelled.few; shallow = inner.shallow; each_expr = inner.exprs; no_delay = inner.delays }

assumes_within : {lines : List Ahead} {ws : List Wanted} → Each (SpellsWanted (codes "assume")) lines ws → AreFromLines lines → All IsWanted ws
assumes_within none from = All-nil IsWanted
assumes_within (one_more {a} {x} {lines} {xs} is others) from = All-cons IsWanted x xs (wanted_within (codes "assume") a x is from.0) (assumes_within others from.1)

-- ---- the whole

lines_within : (lines : List Ahead) (s : Sections) → Spells lines s → AreFromLines lines → All IsWanted s.assumes × IsWanted s.require
lines_within lines s is from =
    let behind_setting = from_parts is.setting_lines (is.assume_lines ++ (is.require ∷ is.last ∷ [])) (subst AreFromLines is.lines_are from) in
    let behind_assumes = from_parts is.assume_lines (is.require ∷ is.last ∷ []) behind_setting.1 in
    (assumes_within is.assumes_are behind_assumes.0, wanted_within (codes "require") is.require s.require is.require_is behind_assumes.1.0)

pub question_within : (bytes : List ℕ) (s : Sections) → IsText bytes s → IsQuestion s
question_within bytes s is =
    let conditions = lines_within (fronts is.lines) s is.spelled (fronts_from is.lines) in
    record { setting = text_within bytes s is; assumes_to = is.spelled.few; each_assume = conditions.0; require = conditions.1 }

pub found_within : (bytes : List ℕ) (result : Result QuestionSyntax ReadFault) → IfOk result (λ syntax. IsText bytes (sections_of syntax)) → IfOk result (λ syntax. IsQuestion (sections_of syntax))
found_within bytes (Ok syntax) is = question_within bytes (sections_of syntax) is
found_within bytes (Err fault) is = tt
