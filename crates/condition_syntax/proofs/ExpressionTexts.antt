-- The canonical text of an expression that can be read is read again as the expression.
use Rattle.std.proofs.Common.{◌≡◌, ℕ, zero, suc, ◌^◌, ◌<◌, ◌≤◌, pos, Bool, true, false, cond, eqb, Option, None, Some, Ok, List, [], ◌∷◌, ◌++◌, length, refl, sym, ap, subst, ◌∙◌, append_assoc, arith}
use Rattle.std.specs.Prelude.{codes, unwrap_or, unsigned_abs, int_lt, flat_map}
use Rattle.std.specs.Fmt.{decimal}
use Rattle.std.proofs.lemmas.List.{append-nil}
use Rattle.std.proofs.lemmas.Bool.{and_parts, eqb-true, le-ltb}
use Rattle.source_text.specs.declared.lexemes.Sign.{Sign}
use Rattle.source_text.specs.declared.lexemes.Sign.TheVariants.{Plus, Minus, Times, Dot, At}
use Rattle.source_text.specs.Tokens.{Token, word, number, sign}
use Rattle.source_text.specs.Signs.{sign_text, with_equals}
use Rattle.source_text.specs.Cutting.{tokens}
use Rattle.source_text.specs.Spelling.{is_word}
use Rattle.source_text.specs.Printed.{AreFromLine}
use Rattle.weighing.specs.declared.scales.Num.{Num}
use Rattle.condition_syntax.specs.declared.conditions.Style.{Style}
use Rattle.condition_syntax.specs.declared.expressions.Name.{Name}
use Rattle.condition_syntax.specs.declared.expressions.ETerm.{ETerm}
use Rattle.condition_syntax.specs.Words.{fraction, signed}
use Rattle.condition_syntax.specs.Grammar.{IsNumber, SpellsFlow, no_flow, some_flow, SpellsStep, no_step, some_step, SpellsName, plain, placed, SpellsTerm, constant, multiple, single, joint_of, SpellsTerms, last_term, more_terms, SpellsExpr, unsigned, negative}
use Rattle.condition_syntax.specs.CanonicalText.{denominator_text, number_text, mark_text, name_text, is_unit, unsigned_text, is_negative, first_text, later_text, expr_text}
use Rattle.condition_syntax.specs.CanonicalTokens.{Shows, Prints, EndsToken}
use Rattle.source_text.proofs.TokenLaws.{tokens_of_nothing}
use Rattle.condition_syntax.specs.Expressions.{expr_by}
use Rattle.condition_syntax.proofs.EndLaws.{expr_ends, end_stops}
use Rattle.condition_syntax.proofs.ExpressionsAgain.{expr_again}
use Rattle.condition_syntax.proofs.TextShows.{shows_word, shows_number, shows_space, shows_then, shows_spaced, shows_sign_then, shows_sign_tight, shows_nothing, from_line_parts}

-- ---- numbers

-- a number is spelled by the token that its text shows
pub record NumberPrints (text : List ℕ) (q : Num) : Type 0 where
  pub n : ℕ
  pub d : Option ℕ
  pub is : IsNumber n d q
  pub shows : Shows text (number n d ∷ [])

size_is : (sg : Bool) (n d : ℕ) → unsigned_abs (signed sg (fraction n d)).num ≡ n
size_is false n d = refl
size_is true zero d = refl
size_is true (suc n) d = refl

den_is : (sg : Bool) (n d : ℕ) → unsigned_abs (signed sg (fraction n d)).den ≡ d
den_is false n d = refl
den_is true n d = refl

text_of : (sg : Bool) (n d : ℕ) → number_text (signed sg (fraction n d)) ≡ decimal n ++ denominator_text d
unfolding number_text
text_of sg n d = ap (λ k. decimal k ++ denominator_text (unsigned_abs (signed sg (fraction n d)).den)) (size_is sg n d) ∙ ap (λ k. decimal n ++ denominator_text k) (den_is sg n d)

fraction_prints : (sg : Bool) (n d : ℕ) → n ≤ 1000000 → 1 ≤ d → d ≤ 1000 → NumberPrints (number_text (signed sg (fraction n d))) (fraction n d)
fraction_prints sg n d num_to den_from den_to = subst (λ (text : List ℕ). NumberPrints text (fraction n d)) (sym (text_of sg n d)) (by (eqb d 1) refl)
  where
    by : (b : Bool) → eqb d 1 ≡ b → NumberPrints (decimal n ++ cond b [] (47 ∷ decimal d)) (fraction n d)
    by true e = record {
      n = n;
      d = None;
      is = record { value = ap (fraction n) (eqb-true d 1 e); num_to = num_to; den_from = omega arith; den_to = omega arith };
      shows = subst (λ (text : List ℕ). Shows text (number n None ∷ [])) (sym (append-nil (decimal n))) (shows_number n None (omega arith));
    }
    by false e = record {
      n = n;
      d = Some d;
      is = record { value = refl; num_to = num_to; den_from = den_from; den_to = den_to };
      shows = shows_number n (Some d) (omega arith, omega arith);
    }

pub number_prints : (sg : Bool) (n : ℕ) (d : Option ℕ) (q : Num) → IsNumber n d q → NumberPrints (number_text (signed sg q)) q
number_prints sg n d q is =
    subst (λ (r : Num). NumberPrints (number_text (signed sg r)) r) (sym is.value) (fraction_prints sg n (unwrap_or d 1) is.num_to is.den_from is.den_to)

-- ---- names

mark_shows : (s : Sign) (mark n : ℕ) → sign_text s ≡ mark ∷ [] → with_equals s ≡ None → n < 2 ^ 32 → Shows (mark ∷ decimal n) (sign s ∷ number n None ∷ [])
mark_shows s mark n text none small =
    subst (λ (front : List ℕ). Shows (front ++ decimal n) (sign s ∷ number n None ∷ [])) text (shows_sign_tight s (decimal n) (number n None ∷ []) none (shows_number n None small))

-- what stands behind a name's word, which no byte of a word begins
record MarksShow (text : List ℕ) (front : List Token) : Type 0 where
  shows : Shows text front
  apart : (rest : List ℕ) → EndsToken rest → EndsToken (text ++ rest)

step_shows : {w : List ℕ} {ss : List Token} {s : Option ℕ} → SpellsStep w ss s → AreFromLine ss → MarksShow (mark_text 64 s) ss
step_shows (no_step is) from = record { shows = shows_nothing; apart = λ rest ends. ends }
step_shows (some_step n) from = record { shows = mark_shows At 64 n refl refl from.1.0; apart = λ rest ends. refl }

marks_show : {w : List ℕ} {fs ss : List Token} {f s : Option ℕ} → SpellsFlow fs f → SpellsStep w ss s → AreFromLine (fs ++ ss) → MarksShow (mark_text 46 f ++ mark_text 64 s) (fs ++ ss)
marks_show no_flow step from = step_shows step from
marks_show {ss = ss} {s = s} (some_flow n) step from =
    let behind = step_shows step from.1.1 in
    let digits : List ℕ = 46 ∷ decimal n in
    record {
      shows = λ rest ends. ap tokens (append_assoc digits (mark_text 64 s) rest)
          ∙ mark_shows Dot 46 n refl refl from.1.0 (mark_text 64 s ++ rest) (behind.apart rest ends)
          ∙ ap (λ (ts : List Token). sign Dot ∷ number n None ∷ ts) (behind.shows rest ends);
      apart = λ rest ends. refl;
    }

-- a word and what stands behind it
word_shows : (w text : List ℕ) (front : List Token) → is_word w ≡ true → MarksShow text front → Shows (w ++ text) (word w ∷ front)
word_shows w text front is behind rest ends =
    ap tokens (append_assoc w text rest) ∙ shows_word w is (text ++ rest) (behind.apart rest ends) ∙ ap (λ (ts : List Token). word w ∷ ts) (behind.shows rest ends)

pub name_shows : {style : Style} {front : List Token} {x : Name} → SpellsName style front x → AreFromLine front → Shows (name_text x) front
unfolding name_text
name_shows (plain {w = w} may) from = word_shows w [] [] from.0 (record { shows = shows_nothing; apart = λ rest ends. ends })
name_shows (placed {w = w} {fs = fs} {ss = ss} {f = f} {s = s} may flow step) from = word_shows w (mark_text 46 f ++ mark_text 64 s) (fs ++ ss) from.0 (marks_show flow step from.1)

-- ---- terms

-- the sign that a term keeps is the one that it is printed with
not_negative : (n : ℕ) → int_lt (pos n) (pos 0) ≡ false
not_negative n = le-ltb n 0 (omega arith)

fraction_kept : (sg : Bool) (n d : ℕ) → signed sg (fraction n d) ≡ signed (int_lt (signed sg (fraction n d)).num (pos 0)) (fraction n d)
fraction_kept false n d = ap (λ b. signed b (fraction n d)) (sym (not_negative n))
fraction_kept true zero d = refl
fraction_kept true (suc n) d = refl

pub sign_kept : (sg : Bool) (n : ℕ) (d : Option ℕ) (q : Num) → IsNumber n d q → signed sg q ≡ signed (int_lt (signed sg q).num (pos 0)) q
sign_kept sg n d q is = subst (λ (r : Num). signed sg r ≡ signed (int_lt (signed sg r).num (pos 0)) r) (sym is.value) (fraction_kept sg n (unwrap_or d 1))

-- a term prints, with the sign that it keeps
abbrev pub TermPrints : Style → ETerm → Type 0
TermPrints style t = Prints (SpellsTerm style (is_negative t)) (unsigned_text t) t

unit_is : (sg : Bool) (n d : ℕ) → is_unit (signed sg (fraction n d)) ≡ true → fraction n d ≡ fraction 1 1
unit_is sg n d e =
    let parts = and_parts (eqb (unsigned_abs (signed sg (fraction n d)).num) 1) (eqb (unsigned_abs (signed sg (fraction n d)).den) 1) e in
    let num = sym (size_is sg n d) ∙ eqb-true _ _ parts.0 in
    let den = sym (den_is sg n d) ∙ eqb-true _ _ parts.1 in
    ap (λ k. fraction k d) num ∙ ap (fraction 1) den

number_unit : (sg : Bool) (n : ℕ) (d : Option ℕ) (q : Num) → IsNumber n d q → is_unit (signed sg q) ≡ true → q ≡ fraction 1 1
number_unit sg n d q is e = is.value ∙ unit_is sg n (unwrap_or d 1) (subst (λ (r : Num). is_unit (signed sg r) ≡ true) is.value e)

one_is_unit : (sg : Bool) → is_unit (signed sg (fraction 1 1)) ≡ true
one_is_unit false = refl
one_is_unit true = refl

constant_prints : (style : Style) (sg : Bool) (n : ℕ) (d : Option ℕ) (q : Num) → IsNumber n d q → TermPrints style (record { coef = signed sg q; name = None })
constant_prints style sg n d q is =
    let p = number_prints sg n d q is in
    let keeps = sign_kept sg n d q is in
    let family : Num → Type 0 = λ r. SpellsTerm style (int_lt (signed sg q).num (pos 0)) (number p.n p.d ∷ []) (record { coef = r; name = None }) in
    record { front = number p.n p.d ∷ []; spelled = subst family (sym keeps) (constant p.is); shows = p.shows }

times_shows : (a b : List ℕ) (t : Token) (g : List Token) → Shows a (t ∷ []) → Shows b g → Shows (a ++ (codes " * " ++ b)) (t ∷ sign Times ∷ g)
times_shows a b t g first second = shows_spaced a (42 ∷ 32 ∷ b) (t ∷ []) (sign Times ∷ g) first (shows_sign_then Times b g second)

multiple_prints : (style : Style) (sg : Bool) (n : ℕ) (d : Option ℕ) (q : Num) (front : List Token) (x : Name) → IsNumber n d q → SpellsName style front x → Shows (name_text x) front
    → TermPrints style (record { coef = signed sg q; name = Some x })
multiple_prints style sg n d q front x is name shows = by (is_unit (signed sg q)) refl
  where
    by : (b : Bool) → is_unit (signed sg q) ≡ b → Prints (SpellsTerm style (int_lt (signed sg q).num (pos 0))) (cond b (name_text x) (number_text (signed sg q) ++ (codes " * " ++ name_text x))) (record { coef = signed sg q; name = Some x })
    by true e =
        let family : Num → Type 0 = λ r. SpellsTerm style (int_lt (signed sg q).num (pos 0)) front (record { coef = r; name = Some x }) in
        let one : signed (int_lt (signed sg q).num (pos 0)) (fraction 1 1) ≡ signed sg q = ap (signed (int_lt (signed sg q).num (pos 0))) (sym (number_unit sg n d q is e)) ∙ sym (sign_kept sg n d q is) in
        record { front = front; spelled = subst family one (single name); shows = shows }
    by false e =
        let p = number_prints sg n d q is in
        let family : Num → Type 0 = λ r. SpellsTerm style (int_lt (signed sg q).num (pos 0)) (number p.n p.d ∷ sign Times ∷ front) (record { coef = r; name = Some x }) in
        record {
          front = number p.n p.d ∷ sign Times ∷ front;
          spelled = subst family (sym (sign_kept sg n d q is)) (multiple p.is name);
          shows = times_shows (number_text (signed sg q)) (name_text x) (number p.n p.d) front p.shows shows;
        }

one_is_number : IsNumber 1 None (fraction 1 1)
one_is_number = record { value = refl; num_to = omega arith; den_from = omega arith; den_to = omega arith }

pub term_prints : {style : Style} {sg : Bool} {front : List Token} {t : ETerm} → SpellsTerm style sg front t → AreFromLine front → TermPrints style t
term_prints {style} {sg} (constant is) from = constant_prints style sg _ _ _ is
term_prints {style} {sg} (multiple {front = front} {x = x} is name) from = multiple_prints style sg _ _ _ front x is name (name_shows name from.1.1)
term_prints {style} {sg} (single {front = front} {x = x} name) from = multiple_prints style sg 1 None (fraction 1 1) front x one_is_number name (name_shows name from)

-- ---- expressions

-- terms that print, the first without its sign
record TermsPrint (style : Style) (t : ETerm) (ts : List ETerm) : Type 0 where
  front : List Token
  spelled : SpellsTerms style (is_negative t) front (t ∷ ts)
  shows : Shows (unsigned_text t ++ flat_map later_text ts) front

joint_shows : (b : Bool) (text : List ℕ) (front : List Token) → Shows text front → Shows (cond b (codes " - ") (codes " + ") ++ text) (joint_of b ∷ front)
joint_shows true text front shows = shows_space (45 ∷ 32 ∷ text) (sign Minus ∷ front) (shows_sign_then Minus text front shows)
joint_shows false text front shows = shows_space (43 ∷ 32 ∷ text) (sign Plus ∷ front) (shows_sign_then Plus text front shows)

joint_apart : (b : Bool) (text rest : List ℕ) → EndsToken ((cond b (codes " - ") (codes " + ") ++ text) ++ rest)
joint_apart true text rest = refl
joint_apart false text rest = refl

alone_prints : (style : Style) (t : ETerm) → TermPrints style t → TermsPrint style t []
alone_prints style t p = record {
  front = p.front;
  spelled = last_term p.spelled;
  shows = subst (λ (text : List ℕ). Shows text p.front) (sym (append-nil (unsigned_text t))) p.shows;
}

more_print : (style : Style) (t u : ETerm) (us : List ETerm) → TermPrints style t → TermsPrint style u us → TermsPrint style t (u ∷ us)
unfolding later_text
more_print style t u us p others =
    let text : List ℕ = unsigned_text u ++ flat_map later_text us in
    let joint : List ℕ = cond (is_negative u) (codes " - ") (codes " + ") in
    let grouped : unsigned_text t ++ (joint ++ text) ≡ unsigned_text t ++ ((joint ++ unsigned_text u) ++ flat_map later_text us) =
    ap (λ (bs : List ℕ). unsigned_text t ++ bs) (sym (append_assoc joint (unsigned_text u) (flat_map later_text us))) in
    record {
      front = p.front ++ joint_of (is_negative u) ∷ others.front;
      spelled = more_terms p.spelled others.spelled;
      shows = subst (λ (bs : List ℕ). Shows bs (p.front ++ joint_of (is_negative u) ∷ others.front)) grouped
          (shows_then (unsigned_text t) (joint ++ text) p.front (joint_of (is_negative u) ∷ others.front) p.shows (joint_shows (is_negative u) text others.front others.shows) (joint_apart (is_negative u) text));
    }

terms_print : {style : Style} {sg : Bool} {front : List Token} {t : ETerm} {ts : List ETerm} → SpellsTerms style sg front (t ∷ ts) → AreFromLine front → TermsPrint style t ts
terms_print {style} (last_term term) from = alone_prints style _ (term_prints term from)
terms_print {style} (more_terms {next = next} {front = front} {rest = rest} {ts = u ∷ us} term others) from =
    let parts = from_line_parts front (joint_of next ∷ rest) from in
    more_print style _ u us (term_prints term parts.0) (terms_print others parts.1.1)
terms_print {style} (more_terms {ts = []} term others) from = elim others [ ]

signed_prints : (style : Style) (t : ETerm) (ts : List ETerm) → length (t ∷ ts) ≤ 16 → TermsPrint style t ts → Prints (SpellsExpr style) (expr_text (t ∷ ts)) (t ∷ ts)
unfolding expr_text first_text
signed_prints style t ts few p = by (is_negative t) p.spelled
  where
    by : (b : Bool) → SpellsTerms style b p.front (t ∷ ts) → Prints (SpellsExpr style) ((cond b (codes "-") [] ++ unsigned_text t) ++ flat_map later_text ts) (t ∷ ts)
    by true spelled = record { front = sign Minus ∷ p.front; spelled = negative spelled few; shows = shows_sign_tight Minus (unsigned_text t ++ flat_map later_text ts) p.front refl p.shows }
    by false spelled = record { front = p.front; spelled = unsigned spelled few; shows = p.shows }

terms_some : {style : Style} {sg : Bool} {front : List Token} {ts : List ETerm} → SpellsTerms style sg front ts → length ts ≤ 16 → AreFromLine front → Prints (SpellsExpr style) (expr_text ts) ts
terms_some {style} {ts = []} terms few from = elim terms [ ]
terms_some {style} {ts = t ∷ ts} terms few from = signed_prints style t ts few (terms_print terms from)

pub expr_prints : {style : Style} {front : List Token} {ts : List ETerm} → SpellsExpr style front ts → AreFromLine front → Prints (SpellsExpr style) (expr_text ts) ts
expr_prints (unsigned terms few) from = terms_some terms few from
expr_prints (negative terms few) from = terms_some terms few from.1

-- the tokens of a text with nothing behind it
pub shown_alone : (text : List ℕ) (front : List Token) → Shows text front → tokens text ≡ front ++ []
shown_alone text front shows = ap tokens (sym (append-nil text)) ∙ shows [] refl ∙ ap (λ (ts : List Token). front ++ ts) tokens_of_nothing

-- the text alone is read as the expression
pub text_is_read : {style : Style} {front : List Token} {ts : List ETerm} → SpellsExpr style front ts → AreFromLine front → expr_by style (tokens (expr_text ts)) ≡ Ok (ts, [])
text_is_read {style} {front} {ts} spelled from =
    let p = expr_prints spelled from in
    ap (expr_by style) (shown_alone (expr_text ts) p.front p.shows) ∙ expr_again [] p.spelled (expr_ends [] end_stops.expr p.spelled)
