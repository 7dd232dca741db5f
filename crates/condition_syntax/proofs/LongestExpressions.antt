-- Behind an expression that is read no more is left than behind any that is spelled: it is the longest.
use Rattle.std.proofs.Common.{◌≡◌, ℕ, zero, suc, ◌≤◌, Bool, Option, None, Some, Ok, List, [], ◌∷◌, ◌++◌, length, length-append, append_assoc, refl, sym, ap, ◌∙◌, arith}
use Rattle.text_lines.specs.Steps.{◌>>=◌}
use Rattle.text_lines.proofs.StepLaws.{bind_ok, ok_is}
use Rattle.source_text.specs.declared.lexemes.Sign.TheVariants.{Minus, Times}
use Rattle.source_text.specs.Tokens.{Token, word, number, sign, wrong, after}
use Rattle.weighing.specs.declared.scales.Num.{Num}
use Rattle.condition_syntax.specs.declared.conditions.Style.{Style}
use Rattle.condition_syntax.specs.declared.conditions.Style.TheVariants.{Question}
use Rattle.condition_syntax.specs.declared.expressions.Name.{Name}
use Rattle.condition_syntax.specs.declared.expressions.ETerm.{ETerm}
use Rattle.condition_syntax.specs.declared.faults.Fault.{Fault}
use Rattle.condition_syntax.specs.Words.{signed}
use Rattle.condition_syntax.specs.Expressions.{Read, flow_by, step_by, named_by, name_by, factor_by, single_by, term_by, onward, others_by, terms_by, expr_by}
use Rattle.condition_syntax.specs.Grammar.{IsNameWord, SpellsFlow, no_flow, some_flow, SpellsStep, no_step, some_step, SpellsName, plain, placed, SpellsTerm, constant, multiple, single, SpellsTerms, last_term, more_terms, joint_of, SpellsExpr, unsigned, negative}
use Rattle.condition_syntax.specs.Ends.{Ending, Taken, EndsExpr}
use Rattle.condition_syntax.proofs.FrontLaws.{stands_there}
use Rattle.condition_syntax.proofs.EndLaws.{joint_stops, term_ends}
use Rattle.condition_syntax.proofs.ExpressionsTaken.{flow_taken, step_taken, term_taken, terms_taken}
use Rattle.condition_syntax.proofs.ExpressionsAgain.{word_again, flow_again, named_again, name_again, named_term, numbered_term, term_again, onward_there, joint_is_passed, no_sign_leads, terms_lead, unsigned_again, negative_again, expr_again}

-- what is left behind a value
pub left_is : {X : Type 0} (x : X) (left : List Token) (y : X × List Token) → ◌≡◌ {A = Read X} (Ok (x, left)) (Ok y) → length y.1 ≤ length left
left_is x left y e = let same = ok_is {E = Fault} (x, left) y e in let at : left ≡ y.1 = ap (λ (p : _). p.1) same in omega (arith, ap length at)

-- nothing becomes more by reading
taken_le : {X : Type 0} (Spells : List Token → X → Type 0) (Ends : Ending Spells) (tokens : List Token) (x : X × List Token) → Taken Spells Ends tokens x → length x.1 ≤ length tokens
taken_le Spells Ends tokens x t = omega (arith, ap length t.parts, length-append t.front x.1)

pub after_le : (tokens : List Token) → length (after tokens) ≤ length tokens
after_le [] = omega arith
after_le (word w ∷ tokens) = omega arith
after_le (number n d ∷ tokens) = omega arith
after_le (sign s ∷ tokens) = omega arith
after_le (wrong ∷ tokens) = omega arith

-- ---- names

flow_reaches : {fs : List Token} {f : Option ℕ} (rest : List Token) (o : Option ℕ × List Token) → SpellsFlow fs f → flow_by (fs ++ rest) ≡ Ok o → length o.1 ≤ length rest
flow_reaches rest o no_flow e = let t = flow_taken rest o e in omega (arith, ap length t.parts, length-append t.front o.1)
flow_reaches rest o (some_flow n) e = left_is (Some n) rest o (sym (flow_again rest (some_flow n) tt) ∙ e)

named_reaches : {w : List ℕ} {fs ss : List Token} {f s : Option ℕ} (rest : List Token) (y : Name × List Token) → SpellsFlow fs f → SpellsStep w ss s → named_by Question w (fs ++ (ss ++ rest)) ≡ Ok y → length y.1 ≤ length rest
unfolding named_by
named_reaches {w} {fs} rest y flow (no_step is) e =
    let a = bind_ok (flow_by (fs ++ rest)) _ y e in
    let b = bind_ok (step_by w a.0.1) _ y a.2 in
    let step = step_taken w a.0.1 b.0 b.1 in
    let made : Name = record { text = w; flow = a.0.0; step = b.0.0 } in
    omega (arith, left_is made b.0.1 y b.2, ap length step.parts, length-append step.front b.0.1, flow_reaches rest a.0 flow a.1)
named_reaches {w} {fs} {ss} {f} rest y flow (some_step n) e =
    let made : Name = record { text = w; flow = f; step = Some n } in
    left_is made rest y (sym (named_again rest flow (some_step n) tt) ∙ e)

name_named : (w : List ℕ) (tokens : List Token) → IsNameWord w → name_by Question (word w ∷ tokens) ≡ named_by Question w tokens
unfolding name_by
name_named w tokens may = rw (word_again w tokens may) refl

name_reaches : {style : Style} {front : List Token} {x : Name} (rest : List Token) (y : Name × List Token) → SpellsName style front x → name_by style (front ++ rest) ≡ Ok y → length y.1 ≤ length rest
name_reaches {x = x} rest y (plain may) e = left_is x rest y (sym (name_again rest (plain may) tt) ∙ e)
name_reaches rest y (placed {w = w} {fs = fs} {ss = ss} may flow step) e =
    named_reaches rest y flow step (sym (ap (named_by Question w) (append_assoc fs ss rest)) ∙ sym (name_named w ((fs ++ ss) ++ rest) may) ∙ e)

-- ---- terms

name_some : {style : Style} {front : List Token} {x : Name} → SpellsName style front x → 1 ≤ length front
name_some (plain may) = omega arith
name_some (placed may flow step) = omega arith

term_some : {style : Style} {sg : Bool} {front : List Token} {t : ETerm} → SpellsTerm style sg front t → 1 ≤ length front
term_some (constant is) = omega arith
term_some (multiple is name) = omega arith
term_some (single name) = name_some name

factor_times : (style : Style) (q : Num) (tokens : List Token) → factor_by style q (sign Times ∷ tokens) ≡ (name_by style tokens >>= λ name. Ok (record { coef = q; name = Some name.0 }, name.1))
unfolding factor_by
factor_times style q tokens = rw (stands_there Times tokens) refl

single_reaches : {style : Style} {front : List Token} {x : Name} (sg : Bool) (rest : List Token) (y : ETerm × List Token) → SpellsName style front x → single_by style sg (front ++ rest) ≡ Ok y → length y.1 ≤ length rest
unfolding single_by
single_reaches {style} {front} sg rest y name e =
    let a = bind_ok (name_by style (front ++ rest)) _ y e in
    omega (arith, left_is _ a.0.1 y a.2, name_reaches rest a.0 name a.1)

term_reaches : {style : Style} {sg : Bool} {front : List Token} {t : ETerm} (rest : List Token) (y : ETerm × List Token) → SpellsTerm style sg front t → term_by style sg (front ++ rest) ≡ Ok y → length y.1 ≤ length rest
term_reaches {style} {sg} rest y (constant {n = n} {d = d} is) e =
    let t = term_taken style sg (number n d ∷ rest) y e in
    omega (arith, ap length t.parts, length-append t.front y.1, term_some t.spelled)
term_reaches {style} {sg} rest y (multiple {n = n} {d = d} {q = q} {front = front} is name) e =
    let times = sym (factor_times style (signed sg q) (front ++ rest)) ∙ sym (numbered_term style sg n d q (sign Times ∷ front ++ rest) is) ∙ e in
    let a = bind_ok (name_by style (front ++ rest)) (λ (x : Name × List Token). Ok (record { coef = signed sg q; name = Some x.0 }, x.1)) y times in
    omega (arith, left_is _ a.0.1 y a.2, name_reaches rest a.0 name a.1)
term_reaches {style} {sg} rest y (single name) e = single_reaches sg rest y name (sym (named_term sg rest name) ∙ e)

-- ---- expressions

others_shorten : (style : Style) (room : ℕ) (s : List Token) (next : Option Bool) (o : List ETerm × List Token) → others_by next (λ joint rest. terms_by style room joint (after rest)) s ≡ Ok o → length o.1 ≤ length s
others_shorten style room s None o e = left_is [] s o e
others_shorten style room s (Some joint) o e =
    let t = terms_taken style room joint (after s) o e in
    omega (arith, ap length t.taken.parts, length-append t.taken.front o.1, after_le s)

terms_then : (style : Style) (room : ℕ) (sg next : Bool) (tokens rest : List Token) (t : ETerm) → term_by style sg tokens ≡ Ok (t, rest) → onward rest ≡ Some next
    → terms_by style (suc room) sg tokens ≡ (terms_by style room next (after rest) >>= λ others. Ok (t ∷ others.0, others.1))
unfolding terms_by
terms_then style room sg next tokens rest t read on = rw (read, on) refl

terms_reach : {style : Style} {sg : Bool} {front : List Token} {ts : List ETerm} (room : ℕ) (rest : List Token) (y : List ETerm × List Token) → SpellsTerms style sg front ts → terms_by style room sg (front ++ rest) ≡ Ok y → length y.1 ≤ length rest
unfolding terms_by
terms_reach zero rest y (last_term term) e = absurd (cc)
terms_reach zero rest y (more_terms term others) e = absurd (cc)
terms_reach {style} {sg} (suc room) rest y (last_term {front = front} term) e =
    let a = bind_ok (term_by style sg (front ++ rest)) _ y e in
    let read : Bool → List Token → Read (List ETerm) = λ joint rest. terms_by style room joint (after rest) in
    let b = bind_ok (others_by (onward a.0.1) read a.0.1) _ y a.2 in
    omega (arith, left_is _ b.0.1 y b.2, others_shorten style room a.0.1 (onward a.0.1) b.0 b.1, term_reaches rest a.0 term a.1)
terms_reach {style} {sg} (suc room) rest y (more_terms {next = next} {front = front} {rest = later} {t = t} term others) e =
    let behind : List Token = joint_of next ∷ later ++ rest in
    let read : term_by style sg (front ++ behind) ≡ Ok (t, behind) = term_again behind term (term_ends behind (joint_stops next (later ++ rest)) term) in
    let went = sym (terms_then style room sg next (front ++ behind) behind t read (onward_there next (later ++ rest))) ∙ sym (ap (terms_by style (suc room) sg) (append_assoc front (joint_of next ∷ later) rest)) ∙ e in
    let a = bind_ok (terms_by style room next (after behind)) (λ (x : List ETerm × List Token). Ok (t ∷ x.0, x.1)) y went in
    omega (arith, left_is _ a.0.1 y a.2, terms_reach room rest a.0 others (sym (ap (terms_by style room next) (joint_is_passed next (later ++ rest))) ∙ a.1))

pub expr_reaches : {style : Style} {front : List Token} {ts : List ETerm} (rest : List Token) (y : List ETerm × List Token) → SpellsExpr style front ts → expr_by style (front ++ rest) ≡ Ok y → length y.1 ≤ length rest
expr_reaches {style} {front} rest y (unsigned terms few) e = terms_reach 16 rest y terms (sym (unsigned_again style (front ++ rest) (no_sign_leads Minus (terms_lead rest terms))) ∙ e)
expr_reaches {style} rest y (negative {front = front} terms few) e = terms_reach 16 rest y terms (sym (negative_again style (front ++ rest)) ∙ e)

-- no longer front of the tokens is an expression
pub longest_expr : (style : Style) (front longer left rest : List Token) (ts us : List ETerm) (p : SpellsExpr style front ts) → EndsExpr style front ts p left → SpellsExpr style longer us
    → front ++ left ≡ longer ++ rest → length longer ≤ length front
longest_expr style front longer left rest ts us p ends q same =
    let read : expr_by style (longer ++ rest) ≡ Ok (ts, left) = ap (expr_by style) (sym same) ∙ expr_again left p ends in
    let reached = expr_reaches rest (ts, left) q read in
    omega (arith, ap length same, length-append front left, length-append longer rest)
