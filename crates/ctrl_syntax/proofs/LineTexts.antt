-- What is printed for a line is read as tokens that spell it.
use Rattle.std.proofs.Common.{◌≡◌, ℕ, Bool, true, false, cond, Option, None, Some, List, [], ◌∷◌, ◌++◌, refl, sym, ap, subst, ◌∙◌, arith}
use Rattle.std.specs.Prelude.{codes, pos, int_lt}
use Rattle.std.proofs.lemmas.List.{append-nil}
use Rattle.source_text.specs.declared.lexemes.Sign.TheVariants.{Assign, Minus}
use Rattle.source_text.specs.Tokens.{Token, word, number, sign}
use Rattle.source_text.specs.Bytes.{behind_blanks}
use Rattle.source_text.specs.Cutting.{tokens}
use Rattle.source_text.specs.Lines.{is_skipped, IsPlain}
use Rattle.source_text.specs.Spelling.{is_word}
use Rattle.source_text.specs.Printed.{AreFromLine}
use Rattle.source_text.specs.Shown.{Ahead}
use Rattle.source_text.proofs.TokenLaws.{tokens_of_nothing}
use Rattle.source_text.proofs.LineLaws.{free_of_cr}
use Rattle.source_text.proofs.CleanLaws.{AreRight, right-append, right_free}
use Rattle.weighing.specs.declared.scales.Num.{Num}
use Rattle.condition_syntax.specs.declared.conditions.Style.TheVariants.{Controller}
use Rattle.condition_syntax.specs.Words.{signed}
use Rattle.condition_syntax.specs.Trees.{Condition}
use Rattle.condition_syntax.specs.Grammar.{IsNumber}
use Rattle.condition_syntax.specs.CanonicalText.{number_text, expr_text, condition_text}
use Rattle.condition_syntax.specs.CanonicalTokens.{Shows, Prints}
use Rattle.condition_syntax.proofs.TextShows.{shows_word, shows_spaced, shows_word_then, shows_sign_then, shows_sign_tight}
use Rattle.condition_syntax.proofs.ExpressionTexts.{sign_kept, number_prints, expr_prints}
use Rattle.condition_syntax.proofs.ConditionTexts.{condition_prints}
use Rattle.condition_syntax.proofs.RightTokens.{expr_right, condition_right}
use Rattle.ctrl_syntax.specs.declared.syntax.StateLine.{StateLine}
use Rattle.ctrl_syntax.specs.declared.syntax.SetLine.{SetLine}
use Rattle.ctrl_syntax.specs.declared.syntax.RateLine.{RateLine}
use Rattle.ctrl_syntax.specs.Sections.{state_at, set_at, rate_at}
use Rattle.ctrl_syntax.specs.Grammar.{SpellsBound, unsigned, negative, kind_word, SpellsState, SpellsGuard, when, otherwise, SpellsSet, SpellsTitled}
use Rattle.ctrl_syntax.specs.Printed.{bound_text, kind_text, state_text, guard_text, set_text, titled_text}
use Rattle.ctrl_syntax.proofs.LinesAgain.{at}

-- a line's text is read as tokens that spell it, whatever the line's number
pub record PrintsLine (text : List ℕ) (Spelled : List Token → Type 0) : Type 0 where
  pub front : List Token
  pub shows : Shows text front
  pub right : AreRight front
  pub stays : is_skipped text ≡ false
  pub spelled : Spelled front

pub tokens_are : (text : List ℕ) (front : List Token) → Shows text front → tokens text ≡ front
tokens_are text front shows =
    ap tokens (sym (append-nil text)) ∙ shows [] refl ∙ ap (λ (ts : List Token). front ++ ts) tokens_of_nothing ∙ append-nil front

pub line_plain : (text : List ℕ) (Spelled : List Token → Type 0) → PrintsLine text Spelled → IsPlain text
line_plain text Spelled p =
    let right : AreRight (tokens text) = subst AreRight (sym (tokens_are text p.front p.shows)) p.right in
    record { no_end = right_free 10 text (omega arith) refl right; no_cr = free_of_cr text (right_free 13 text (omega arith) refl right); stays = p.stays }

-- ---- bounds

sized_prints : (sg : Bool) (n : ℕ) (d : Option ℕ) (q : Num) → IsNumber n d q → Prints SpellsBound (bound_text (signed sg q)) (signed sg q)
unfolding bound_text
sized_prints sg n d q is = by (int_lt (signed sg q).num (pos 0)) (sign_kept sg n d q is)
  where
    by : (b : Bool) → signed sg q ≡ signed b q → Prints SpellsBound (cond b (codes "-") [] ++ number_text (signed sg q)) (signed sg q)
    by true keeps =
        let p = number_prints sg n d q is in
        record {
          front = sign Minus ∷ number p.n p.d ∷ [];
          spelled = subst (SpellsBound (sign Minus ∷ number p.n p.d ∷ [])) (sym keeps) (negative p.is);
          shows = shows_sign_tight Minus (number_text (signed sg q)) (number p.n p.d ∷ []) refl p.shows;
        }
    by false keeps =
        let p = number_prints sg n d q is in
        record { front = number p.n p.d ∷ []; spelled = subst (SpellsBound (number p.n p.d ∷ [])) (sym keeps) (unsigned p.is); shows = p.shows }

bound_prints : {front : List Token} {q : Num} → SpellsBound front q → Prints SpellsBound (bound_text q) q
bound_prints (unsigned {n} {d} {q} is) = sized_prints false n d q is
bound_prints (negative {n} {d} {q} is) = sized_prints true n d q is

bound_right : {front : List Token} {q : Num} → SpellsBound front q → AreRight front
bound_right (unsigned is) = (tt, tt)
bound_right (negative is) = (tt, (tt, tt))

-- ---- states

kind_shows : (count : Bool) (name text : List ℕ) (front : List Token) → is_word name ≡ true → Shows text front
    → Shows (name ++ (kind_text count ++ text)) (word name ∷ word (kind_word count) ∷ word (codes "init") ∷ front)
kind_shows false name text front is shows =
    shows_word_then name (codes "data init " ++ text) (word (codes "data") ∷ word (codes "init") ∷ front) is
    (shows_word_then (codes "data") (codes "init " ++ text) (word (codes "init") ∷ front) refl (shows_word_then (codes "init") text front refl shows))
kind_shows true name text front is shows =
    shows_word_then name (codes "count init " ++ text) (word (codes "count") ∷ word (codes "init") ∷ front) is
    (shows_word_then (codes "count") (codes "init " ++ text) (word (codes "init") ∷ front) refl (shows_word_then (codes "init") text front refl shows))

state_stays : (s : StateLine) → is_skipped (state_text s) ≡ false
unfolding is_skipped behind_blanks state_text
state_stays s = refl

state_shows : (s : StateLine) (lo hi : List Token) → is_word s.name ≡ true → Shows (bound_text s.lo) lo → Shows (bound_text s.hi) hi
    → Shows (state_text s) (word (codes "state") ∷ word s.name ∷ word (kind_word s.count) ∷ word (codes "init") ∷ (lo ++ hi))
unfolding state_text
state_shows s lo hi is low high =
    let bounds : List ℕ = bound_text s.lo ++ (codes " " ++ bound_text s.hi) in
    shows_word_then (codes "state") (s.name ++ (kind_text s.count ++ bounds)) (word s.name ∷ word (kind_word s.count) ∷ word (codes "init") ∷ (lo ++ hi)) refl
    (kind_shows s.count s.name bounds (lo ++ hi) is (shows_spaced (bound_text s.lo) (bound_text s.hi) lo hi low high))

-- a line that spells the state, whatever its number
abbrev pub StateOn : StateLine → List Token → Type 0
StateOn s front = (n : ℕ) → SpellsState (at n front) (state_at n s)

pub state_prints : (a : Ahead) (s : StateLine) → SpellsState a s → AreFromLine a.tokens → PrintsLine (state_text s) (StateOn s)
state_prints a s is from =
    let words = subst AreFromLine is.tokens_are from in
    let lo = bound_prints is.lo_is in
    let hi = bound_prints is.hi_is in
    record {
      front = word (codes "state") ∷ word s.name ∷ word (kind_word s.count) ∷ word (codes "init") ∷ (lo.front ++ hi.front);
      shows = state_shows s lo.front hi.front words.1.0 lo.shows hi.shows;
      right = (tt, (tt, (tt, (tt, right-append lo.front hi.front (bound_right lo.spelled) (bound_right hi.spelled)))));
      stays = state_stays s;
      spelled = λ n. record { lo = lo.front; hi = hi.front; tokens_are = refl; short = is.short; lo_is = lo.spelled; hi_is = hi.spelled; line_is = refl };
    }

-- ---- rules

guard_stays : (guard : Option Condition) → is_skipped (guard_text guard) ≡ false
unfolding is_skipped behind_blanks
guard_stays None = refl
guard_stays (Some c) = refl

guard_by : {tokens : List Token} {guard : Option Condition} → SpellsGuard tokens guard → AreFromLine tokens → PrintsLine (guard_text guard) (λ front. SpellsGuard front guard)
guard_by otherwise from = record {
  front = word (codes "rule") ∷ word (codes "otherwise") ∷ [];
  shows = shows_word_then (codes "rule") (codes "otherwise") (word (codes "otherwise") ∷ []) refl (shows_word (codes "otherwise") refl);
  right = (tt, (tt, tt));
  stays = guard_stays None;
  spelled = otherwise;
}
guard_by (when {front} {c} is) from =
    let p = condition_prints Controller front c is from.1.1 in
    record {
      front = word (codes "rule") ∷ word (codes "when") ∷ p.front;
      shows = shows_word_then (codes "rule") (codes "when " ++ condition_text c) (word (codes "when") ∷ p.front) refl (shows_word_then (codes "when") (condition_text c) p.front refl p.shows);
      right = (tt, (tt, condition_right p.spelled));
      stays = guard_stays (Some c);
      spelled = when p.spelled;
    }

pub guard_prints : (tokens : List Token) (guard : Option Condition) → SpellsGuard tokens guard → AreFromLine tokens → PrintsLine (guard_text guard) (λ front. SpellsGuard front guard)
guard_prints tokens guard is from = guard_by is from

set_stays : (s : SetLine) → is_skipped (set_text s) ≡ false
unfolding is_skipped behind_blanks set_text
set_stays s = refl

set_shows : (s : SetLine) (front : List Token) → is_word s.name ≡ true → Shows (expr_text s.expr.terms) front → Shows (set_text s) (word (codes "set") ∷ word s.name ∷ sign Assign ∷ front)
unfolding set_text
set_shows s front is shows =
    shows_word_then (codes "set") (s.name ++ (codes " = " ++ expr_text s.expr.terms)) (word s.name ∷ sign Assign ∷ front) refl
    (shows_word_then s.name (codes "= " ++ expr_text s.expr.terms) (sign Assign ∷ front) is (shows_sign_then Assign (expr_text s.expr.terms) front shows))

abbrev pub SetOn : SetLine → List Token → Type 0
SetOn s front = (n : ℕ) → SpellsSet (at n front) (set_at n s)

pub set_prints : (a : Ahead) (s : SetLine) → SpellsSet a s → AreFromLine a.tokens → PrintsLine (set_text s) (SetOn s)
set_prints a s is from =
    let words = subst AreFromLine is.tokens_are from in
    let p = expr_prints is.expr_is words.1.1.1 in
    record {
      front = word (codes "set") ∷ word s.name ∷ sign Assign ∷ p.front;
      shows = set_shows s p.front words.1.0 p.shows;
      right = (tt, (tt, (tt, expr_right p.spelled)));
      stays = set_stays s;
      spelled = λ n. record { front = p.front; tokens_are = refl; short = is.short; expr_is = p.spelled; line_is = refl };
    }

-- ---- the window and the rate

abbrev pub TitledOn : List ℕ → RateLine → List Token → Type 0
TitledOn title x front = (n : ℕ) → SpellsTitled title (at n front) (rate_at n x)

pub titled_prints : (title : List ℕ) (a : Ahead) (x : RateLine) → SpellsTitled title a x → is_word title ≡ true → is_skipped (title ++ 32 ∷ expr_text x.expr.terms) ≡ false → AreFromLine a.tokens
    → PrintsLine (title ++ 32 ∷ expr_text x.expr.terms) (TitledOn title x)
titled_prints title a x is named stays from =
    let words = subst AreFromLine is.tokens_are from in
    let p = expr_prints is.expr_is words.1 in
    record {
      front = word title ∷ p.front;
      shows = shows_word_then title (expr_text x.expr.terms) p.front named p.shows;
      right = (tt, expr_right p.spelled);
      stays = stays;
      spelled = λ n. record { front = p.front; tokens_are = refl; expr_is = p.spelled; line_is = refl };
    }

window_stays : (terms : List _) → is_skipped (codes "window " ++ expr_text terms) ≡ false
unfolding is_skipped behind_blanks
window_stays terms = refl

rate_stays : (terms : List _) → is_skipped (codes "rate " ++ expr_text terms) ≡ false
unfolding is_skipped behind_blanks
rate_stays terms = refl

pub window_prints : (a : Ahead) (x : RateLine) → SpellsTitled (codes "window") a x → AreFromLine a.tokens → PrintsLine (titled_text (codes "window ") x.expr) (TitledOn (codes "window") x)
window_prints a x is from = titled_prints (codes "window") a x is refl (window_stays x.expr.terms) from

pub rate_prints : (a : Ahead) (x : RateLine) → SpellsTitled (codes "rate") a x → AreFromLine a.tokens → PrintsLine (titled_text (codes "rate ") x.expr) (TitledOn (codes "rate") x)
rate_prints a x is from = titled_prints (codes "rate") a x is refl (rate_stays x.expr.terms) from

end_stays : is_skipped (codes "end") ≡ false
unfolding is_skipped behind_blanks
end_stays = refl

pub end_prints : PrintsLine (codes "end") (λ front. front ≡ word (codes "end") ∷ [])
end_prints = record { front = word (codes "end") ∷ []; shows = shows_word (codes "end") refl; right = (tt, tt); stays = end_stays; spelled = refl }
