-- What is refused stops reading with its fault.
use Rattle.std.proofs.Common.{◌≡◌, ℕ, zero, suc, ◌+◌, ◌≤◌, ◌<◌, Bool, true, false, cond, leb, ◌⊎◌, inl, inr, Option, None, Some, Ok, Err, List, [], ◌∷◌, ◌++◌, length, length-append, refl, sym, ap, ◌∙◌, arith}
use Rattle.std.specs.Prelude.{codes, unwrap_or, ◌&&◌}
use Rattle.std.specs.Str.{bytes_eq}
use Rattle.std.proofs.lemmas.Slice.Eq.{bytes_eq-Decides}
use Rattle.std.proofs.lemmas.Bool.{and_left, and_right, le-leb, lt-leb, false_from_ne_true}
use Rattle.source_text.specs.declared.lexemes.Sign.TheVariants.{AtLeast, Times, Open, Close, Dot, At}
use Rattle.source_text.specs.Tokens.{Token, word, number, sign, wrong, after}
use Rattle.weighing.specs.declared.scales.Num.{Num}
use Rattle.weighing.specs.declared.weighings.Rel5.{Rel5}
use Rattle.condition_syntax.specs.declared.conditions.Style.{Style}
use Rattle.condition_syntax.specs.declared.conditions.Style.TheVariants.{Controller, Question}
use Rattle.condition_syntax.specs.declared.expressions.ETerm.{ETerm}
use Rattle.condition_syntax.specs.declared.faults.Fault.{Fault}
use Rattle.condition_syntax.specs.declared.faults.Fault.TheVariants.{Number, Term, Part, Count}
use Rattle.condition_syntax.specs.declared.openings.Opening.{Opening}
use Rattle.condition_syntax.specs.declared.openings.Opening.TheVariants as opens
use Rattle.condition_syntax.specs.Words.{is_keyword, signed}
use Rattle.condition_syntax.specs.Fronts.{stands, says, blame}
use Rattle.condition_syntax.specs.Trees.{Condition, comparisons}
use Rattle.condition_syntax.specs.Expressions.{is_within, number_of, word_by, digits_by, flow_by, step_by, named_by, name_by, factor_by, single_by, term_by, extra_term, onward, terms_by, expr_by}
use Rattle.condition_syntax.specs.Conditions.{Pending, pending, Reader, behind, side_begins, counted, rel_or, rel_by, comparison_by, rows_by, sign_by, delay_by, opening_of, chain_by, conjunction_by, joined_by, opposite_by, bracketed_by, opened_by, too_deep, part_by, condition_within, condition_by}
use Rattle.condition_syntax.specs.Grammar.{IsNameWord, joint_of, Nothing, SpellsConjunction, SpellsJoined, SpellsPart}
use Rattle.condition_syntax.specs.Ends.{Ending, EndsPart, EndsConjunction, EndsWhole, Free}
use Rattle.condition_syntax.specs.WrongTokens.{IsOutside, NoName, NoPart, TermTooMany, NameMissing, TermMissing, SideMissing, NoDigits, NoNumber, NoRel, RefusesName, in_word, in_flow, in_step, without_step, RefusesTerm, in_front, in_multiple, in_single, RefusesTerms, in_first, in_later, one_too_many, RefusesExpr, unsigned_refused, negative_refused, RefusesSimple, in_side, extra_comparison, in_left, at_relation, in_right, extra_delay, without_relation, without_rows, rows_outside, Refusing, RefusesOpened, in_simple, in_negated, in_brackets, unclosed, TooDeep, RefusesChain, in_one, in_others, RefusesWhole, RefusesPart, RefusesCond}
use Rattle.condition_syntax.proofs.FrontLaws.{stands_there, says_there}
use Rattle.condition_syntax.proofs.EndLaws.{Always, expr_ends, term_ends, joint_stops, part_ends, conjunction_ends, word_stops}
use Rattle.condition_syntax.proofs.ExpressionsAgain.{within_from, word_again, flow_again, at_ends_flow, numbered_term, term_again, onward_there, joint_is_passed, unsigned_again, negative_again, expr_again}
use Rattle.condition_syntax.proofs.ConditionsAgain.{begins_so, expr_begins, rel_stops, rel_again, counted_again, opens_not, opens_bracket, opens_delay, read_as, Again, part_again, conjunction_again, whole_again, or_is_no_and, nothing_again}

-- ---- numbers and names

outside_is : (n k : ℕ) → (1000000 < n) ⊎ ((k < 1) ⊎ (1000 < k)) → is_within n k ≡ false
outside_is n k (inl p) = and_left (leb n 1000000) (leb 1 k && leb k 1000) (lt-leb n 1000000 p)
outside_is n k (inr (inl p)) = and_right (leb n 1000000) (leb 1 k && leb k 1000) (and_left (leb 1 k) (leb k 1000) (lt-leb 1 k p))
outside_is n k (inr (inr p)) = and_right (leb n 1000000) (leb 1 k && leb k 1000) (and_right (leb 1 k) (leb k 1000) (lt-leb k 1000 p))

outside_number : (n : ℕ) (d : Option ℕ) → IsOutside n d → number_of n d ≡ Err Number
unfolding number_of
outside_number n d out = rw (outside_is n (unwrap_or d 1) out) refl

no_name_is : {X : Type 0} (own : Fault) (w : List ℕ) (f : Fault) (x : X) → NoName own w f → cond (is_keyword w) (Err own) (cond (leb (length w) 16) (Ok x) (Err Count)) ≡ Err f
no_name_is own w f x (inl (keyword, is)) = rw (keyword, is) refl
no_name_is own w f x (inr (free, long, is)) = rw (free, lt-leb (length w) 16 long, is) refl

name_missing : (style : Style) (tokens : List Token) (f : Fault) → NameMissing tokens f → name_by style tokens ≡ Err f
unfolding name_by word_by
name_missing style [] f is = rw is refl
name_missing style (word w ∷ tokens) f is = rw (no_name_is {X = List ℕ × List Token} Term w f (w, tokens) is) refl
name_missing style (number n d ∷ tokens) f is = rw is refl
name_missing style (sign s ∷ tokens) f is = rw is refl
name_missing style (wrong ∷ tokens) f is = rw is refl

digits_missing : (tokens : List Token) → NoDigits tokens → digits_by tokens ≡ Err (blame Term tokens)
unfolding digits_by blame
digits_missing [] none = refl
digits_missing (word w ∷ tokens) none = refl
digits_missing (number n None ∷ tokens) none = absurd none
digits_missing (number n (Some d) ∷ tokens) none = refl
digits_missing (sign s ∷ tokens) none = refl
digits_missing (wrong ∷ tokens) none = refl

flow_missing : (left : List Token) (f : Fault) → NoDigits left → f ≡ blame Term left → flow_by (sign Dot ∷ left) ≡ Err f
unfolding flow_by
flow_missing left f none is = rw (stands_there Dot left, digits_missing left none, is) refl

step_digits_missing : (w : List ℕ) (left : List Token) (f : Fault) → NoDigits left → f ≡ blame Term left → step_by w (sign At ∷ left) ≡ Err f
unfolding step_by
step_digits_missing w left f none is = rw (stands_there At left, digits_missing left none, is) refl

step_missing : (w : List ℕ) (left : List Token) (f : Fault) → (w ≡ codes "credit" → ⊥) → stands At left ≡ false → f ≡ blame Term left → step_by w left ≡ Err f
unfolding step_by
step_missing w left f no_credit none is =
    let other : bytes_eq w (codes "credit") ≡ false = false_from_ne_true (bytes_eq w (codes "credit")) (λ e. no_credit ((bytes_eq-Decides w (codes "credit")).0 e)) in
    rw (none, other, is) refl

-- a question's name, by its flow and its step
by_flow : (w : List ℕ) (tokens : List Token) (f : Fault) → IsNameWord w → flow_by tokens ≡ Err f → name_by Question (word w ∷ tokens) ≡ Err f
unfolding name_by named_by
by_flow w tokens f may err = rw (word_again w tokens may, err) refl

by_step : (w : List ℕ) (tokens rest : List Token) (o : Option ℕ) (f : Fault) → IsNameWord w → flow_by tokens ≡ Ok (o, rest) → step_by w rest ≡ Err f → name_by Question (word w ∷ tokens) ≡ Err f
unfolding name_by named_by
by_step w tokens rest o f may flow err = rw (word_again w tokens may, flow, err) refl

name_stops : {style : Style} {tokens : List Token} {f : Fault} → RefusesName style tokens f → name_by style tokens ≡ Err f
name_stops (in_word missing) = name_missing _ _ _ missing
name_stops (in_flow {w = w} {fault = f} left may none is) = by_flow w (sign Dot ∷ left) f may (flow_missing left f none is)
name_stops (in_step {w = w} {fs = fs} {f = o} {fault = f} left may flow none is) =
    by_step w (fs ++ sign At ∷ left) (sign At ∷ left) o f may (flow_again (sign At ∷ left) flow (at_ends_flow left flow)) (step_digits_missing w left f none is)
name_stops (without_step {w = w} {fs = fs} {f = o} {fault = f} left may no_credit flow ends none is) = by_step w (fs ++ left) left o f may (flow_again left flow ends) (step_missing w left f no_credit none is)

-- ---- terms and expressions

single_stops : (style : Style) (sg : Bool) (tokens : List Token) (f : Fault) → name_by style tokens ≡ Err f → single_by style sg tokens ≡ Err f
unfolding single_by
single_stops style sg tokens f err = rw err refl

factor_stops : (style : Style) (q : Num) (left : List Token) (f : Fault) → name_by style left ≡ Err f → factor_by style q (sign Times ∷ left) ≡ Err f
unfolding factor_by
factor_stops style q left f err = rw (stands_there Times left, err) refl

term_missing : (style : Style) (sg : Bool) (tokens : List Token) (f : Fault) → TermMissing tokens f → term_by style sg tokens ≡ Err f
unfolding term_by
term_missing style sg [] f is = single_stops style sg [] f (name_missing style [] f is)
term_missing style sg (word w ∷ tokens) f is = single_stops style sg (word w ∷ tokens) f (name_missing style (word w ∷ tokens) f is)
term_missing style sg (number n d ∷ tokens) f (out, is) = rw (outside_number n d out, is) refl
term_missing style sg (sign s ∷ tokens) f is = single_stops style sg (sign s ∷ tokens) f (name_missing style (sign s ∷ tokens) f is)
term_missing style sg (wrong ∷ tokens) f is = single_stops style sg (wrong ∷ tokens) f (name_missing style (wrong ∷ tokens) f is)

single_term : (style : Style) (sg : Bool) (w : List ℕ) (left : List Token) (f : Fault) → name_by style (word w ∷ left) ≡ Err f → term_by style sg (word w ∷ left) ≡ Err f
unfolding term_by
single_term style sg w left f err = single_stops style sg (word w ∷ left) f err

term_stops : {style : Style} {tokens : List Token} {f : Fault} (sg : Bool) → RefusesTerm style tokens f → term_by style sg tokens ≡ Err f
term_stops sg (in_front missing) = term_missing _ sg _ _ missing
term_stops {style} sg (in_multiple {n = n} {d = d} {q = q} {left = left} {fault = f} is name) = numbered_term style sg n d q (sign Times ∷ left) is ∙ factor_stops style (signed sg q) left f (name_stops name)
term_stops {style} sg (in_single {w = w} {left = left} {fault = f} name) = single_term style sg w left f (name_stops name)

first_stops : (style : Style) (room : ℕ) (sg : Bool) (tokens : List Token) (f : Fault) → term_by style sg tokens ≡ Err f → terms_by style (suc room) sg tokens ≡ Err f
unfolding terms_by
first_stops style room sg tokens f err = rw err refl

later_stops : (style : Style) (room : ℕ) (sg next : Bool) (tokens rest : List Token) (t : ETerm) (f : Fault) → term_by style sg tokens ≡ Ok (t, rest) → onward rest ≡ Some next → terms_by style room next (after rest) ≡ Err f
    → terms_by style (suc room) sg tokens ≡ Err f
unfolding terms_by
later_stops style room sg next tokens rest t f read on err = rw (read, on, err) refl

extra_term_is : (tokens : List Token) (f : Fault) → TermTooMany tokens f → f ≡ extra_term tokens
unfolding extra_term
extra_term_is [] f is = is
extra_term_is (word w ∷ tokens) f (inl (keyword, is)) = rw keyword is
extra_term_is (word w ∷ tokens) f (inr (free, is)) = rw free is
extra_term_is (number n d ∷ tokens) f (inl (out, is)) = rw (outside_is n (unwrap_or d 1) out) is
extra_term_is (number n d ∷ tokens) f (inr (inside, is)) = rw (within_from n d inside.0 inside.1) is
extra_term_is (sign s ∷ tokens) f is = is
extra_term_is (wrong ∷ tokens) f is = is

extra_stops : (style : Style) (sg : Bool) (tokens : List Token) (f : Fault) → f ≡ extra_term tokens → terms_by style zero sg tokens ≡ Err f
unfolding terms_by
extra_stops style sg tokens f is = rw is refl

terms_stop : {style : Style} {room : ℕ} {sg : Bool} {tokens : List Token} {f : Fault} → RefusesTerms style room sg tokens f → terms_by style room sg tokens ≡ Err f
terms_stop {style} {sg = sg} (in_first {room = room} {tokens = tokens} {fault = f} term) = first_stops style room sg tokens f (term_stops sg term)
terms_stop {style} {sg = sg} (in_later {room = room} {next = next} {front = front} {t = t} {fault = f} left term others) =
    later_stops style room sg next (front ++ joint_of next ∷ left) (joint_of next ∷ left) t f (term_again (joint_of next ∷ left) term (term_ends (joint_of next ∷ left) (joint_stops next left) term)) (onward_there next left)
    (ap (terms_by style room next) (joint_is_passed next left) ∙ terms_stop others)
terms_stop {style} {sg = sg} (one_too_many {tokens = tokens} {fault = f} is) = extra_stops style sg tokens f (extra_term_is tokens f is)

pub expr_stops : {style : Style} {tokens : List Token} {f : Fault} → RefusesExpr style tokens f → expr_by style tokens ≡ Err f
expr_stops {style} (unsigned_refused {tokens = tokens} none terms) = unsigned_again style tokens none ∙ terms_stop terms
expr_stops {style} (negative_refused {left = left} terms) = negative_again style left ∙ terms_stop terms

-- ---- comparisons and tests of delay

side_missing : (tokens : List Token) (f : Fault) → SideMissing tokens f → side_begins tokens ≡ Err f
unfolding side_begins
side_missing [] f is = rw is refl
side_missing (word w ∷ tokens) f is = no_name_is Part w f tt is
side_missing (number n d ∷ tokens) f (out, is) = rw (outside_is n (unwrap_or d 1) out, is) refl
side_missing (sign s ∷ tokens) f (none, is) = rw (none, is) refl
side_missing (wrong ∷ tokens) f is = rw is refl

rel_missing : (tokens : List Token) → NoRel tokens → rel_by tokens ≡ Err (blame Part tokens)
unfolding rel_by blame
rel_missing [] none = refl
rel_missing (word w ∷ tokens) none = refl
rel_missing (number n d ∷ tokens) none = refl
rel_missing (sign s ∷ tokens) none = ap (λ (o : Option Rel5). rel_or o tokens) none
rel_missing (wrong ∷ tokens) none = refl

rows_missing : (tokens : List Token) → NoNumber tokens → rows_by tokens ≡ Err (blame Part tokens)
unfolding rows_by blame
rows_missing [] none = refl
rows_missing (word w ∷ tokens) none = refl
rows_missing (number n d ∷ tokens) none = absurd none
rows_missing (sign s ∷ tokens) none = refl
rows_missing (wrong ∷ tokens) none = refl

rows_are_outside : (n : ℕ) (d : Option ℕ) (left : List Token) → IsOutside n d → rows_by (number n d ∷ left) ≡ Err Number
unfolding rows_by
rows_are_outside n d left out = rw (outside_number n d out) refl

counted_stops : (begun : ℕ) → 16 ≤ begun → counted begun ≡ Err Count
unfolding counted
counted_stops begun le = rw (le-leb 16 begun le) refl

module _ (style : Style) (begun : ℕ) (tokens : List Token) (f : Fault) where
  stops_at_side : side_begins tokens ≡ Err f → comparison_by style (pending begun tokens) ≡ Err f
  unfolding comparison_by
  stops_at_side err = rw err refl

  stops_at_count : side_begins tokens ≡ Ok tt → counted begun ≡ Err f → comparison_by style (pending begun tokens) ≡ Err f
  unfolding comparison_by
  stops_at_count begins err = rw (begins, err) refl

  stops_at_left : side_begins tokens ≡ Ok tt → begun < 16 → expr_by style tokens ≡ Err f → comparison_by style (pending begun tokens) ≡ Err f
  unfolding comparison_by
  stops_at_left begins lt err = rw (begins, counted_again begun lt, err) refl

  stops_at_rel : (ts : List ETerm) (left : List Token) → side_begins tokens ≡ Ok tt → begun < 16 → expr_by style tokens ≡ Ok (ts, left) → rel_by left ≡ Err f → comparison_by style (pending begun tokens) ≡ Err f
  unfolding comparison_by
  stops_at_rel ts left begins lt read err = rw (begins, counted_again begun lt, read, err) refl

  stops_at_right : (ts : List ETerm) (middle left : List Token) (rel : Rel5) → side_begins tokens ≡ Ok tt → begun < 16 → expr_by style tokens ≡ Ok (ts, middle) → rel_by middle ≡ Ok (rel, left) → expr_by style left ≡ Err f
      → comparison_by style (pending begun tokens) ≡ Err f
  unfolding comparison_by
  stops_at_right ts middle left rel begins lt read related err = rw (begins, counted_again begun lt, read, related, err) refl

module _ (begun : ℕ) (f : Fault) where
  delay_at_count : (left : List Token) → counted begun ≡ Err f → delay_by (pending begun (word (codes "delay") ∷ left)) ≡ Err f
  unfolding delay_by
  delay_at_count left err = rw err refl

  delay_at_relation : (left : List Token) → begun < 16 → stands AtLeast left ≡ false → f ≡ blame Part left → delay_by (pending begun (word (codes "delay") ∷ left)) ≡ Err f
  unfolding delay_by sign_by
  delay_at_relation left lt none is = rw (counted_again begun lt, none, is) refl

  delay_at_rows : (left : List Token) → begun < 16 → rows_by left ≡ Err f → delay_by (pending begun (word (codes "delay") ∷ sign AtLeast ∷ left)) ≡ Err f
  unfolding delay_by sign_by
  delay_at_rows left lt err = rw (counted_again begun lt, stands_there AtLeast left, err) refl

-- what opens a comparison is read as one
as_comparison : (style : Style) (part whole : Reader) (begun : ℕ) (tokens : List Token) (f : Fault) → opening_of style tokens ≡ opens.Comparison → comparison_by style (pending begun tokens) ≡ Err f
    → read_as style part whole (pending begun tokens) ≡ Err f
as_comparison style part whole begun tokens f opens_so err = ap (λ (o : Opening). opened_by style part whole o (pending begun tokens)) opens_so ∙ err

opens_none : (style : Style) (tokens : List Token) → NoPart style tokens → opening_of style tokens ≡ opens.Comparison
unfolding opening_of
opens_none Controller tokens is = rw (is.no_bracket, is.no_not, is.no_truth, is.no_falsity, is.no_delay refl) refl
opens_none Question tokens is = rw (is.no_bracket, is.no_not, is.no_truth, is.no_falsity) refl

simple_stops : {style : Style} {begun : ℕ} {tokens : List Token} {f : Fault} (part whole : Reader) → RefusesSimple style begun tokens f → read_as style part whole (pending begun tokens) ≡ Err f
simple_stops {style} {begun} part whole (in_side {tokens = tokens} {fault = f} unopened missing) = as_comparison style part whole begun tokens f (opens_none style tokens unopened) (stops_at_side style begun tokens f (side_missing tokens f missing))
simple_stops {style} {begun} part whole (extra_comparison {tokens = tokens} side le) =
    let begins = begins_so tokens side in
    as_comparison style part whole begun tokens Count (begins.opens_so style) (stops_at_count style begun tokens Count begins.begins (counted_stops begun le))
simple_stops {style} {begun} part whole (in_left {tokens = tokens} {fault = f} side lt left) =
    let begins = begins_so tokens side in
    as_comparison style part whole begun tokens f (begins.opens_so style) (stops_at_left style begun tokens f begins.begins lt (expr_stops left))
simple_stops {style} {begun} part whole (at_relation {front = front} {ts = ts} {fault = f} left lt spelled ends none is) =
    let begins = expr_begins left spelled in
    as_comparison style part whole begun (front ++ left) f (begins.opens_so style)
    (stops_at_rel style begun (front ++ left) f ts left begins.begins lt (expr_again left spelled ends) (rel_missing left none ∙ ap (λ (g : Fault). Err g) (sym is)))
simple_stops {style} {begun} part whole (in_right {front = front} {ts = ts} {rel = rel} {fault = f} s left lt spelled is right) =
    let begins = expr_begins (sign s ∷ left) spelled in
    as_comparison style part whole begun (front ++ sign s ∷ left) f (begins.opens_so style)
    (stops_at_right style begun (front ++ sign s ∷ left) f ts (sign s ∷ left) left rel begins.begins lt (expr_again (sign s ∷ left) spelled (expr_ends (sign s ∷ left) (rel_stops s rel is left) spelled)) (rel_again s rel left is) (expr_stops right))
simple_stops {begun = begun} part whole (extra_delay {left = left} le) = rw opens_delay (delay_at_count begun Count left (counted_stops begun le))
simple_stops {begun = begun} part whole (without_relation {left = left} {fault = f} lt none is) = rw opens_delay (delay_at_relation begun f left lt none is)
simple_stops {begun = begun} part whole (without_rows {left = left} {fault = f} lt none is) = rw opens_delay (delay_at_rows begun f left lt (rows_missing left none ∙ ap (λ (g : Fault). Err g) (sym is)))
simple_stops {begun = begun} part whole (rows_outside {n = n} {d = d} {left = left} lt out) = rw opens_delay (delay_at_rows begun Number (number n d ∷ left) lt (rows_are_outside n d left out))

-- ---- chains

-- what is refused stops the reader
abbrev pub Stops : Reader → Refusing → Type 0
Stops read Refuses = (begun : ℕ) (tokens : List Token) (f : Fault) → Refuses begun tokens f → read (pending begun tokens) ≡ Err f

module _ (joint : List ℕ) (part : Reader) where
  chain_stops_here : (most : ℕ) (s : Pending) (f : Fault) → part s ≡ Err f → chain_by joint part (suc most) s ≡ Err f
  unfolding chain_by
  chain_stops_here most s f err = rw err refl

  chain_stops_later : (most : ℕ) (s t : Pending) (c : Condition) (f : Fault) → part s ≡ Ok (c, t) → says joint t.tokens ≡ true → chain_by joint part most (behind t) ≡ Err f → chain_by joint part (suc most) s ≡ Err f
  unfolding chain_by
  chain_stops_later most s t c f read here err = rw (read, here, err) refl

module _ (joint : List ℕ) (part : Reader) (Spells : List Token → Condition → Type 0) (Ends : Ending Spells) (Refuses : Refusing) (again : Again part Spells Ends) (joins : (rest : List Token) → Always Spells Ends (word joint ∷ rest))
    (part_stops : Stops part Refuses) where
  chain_stops : {begun : ℕ} {tokens : List Token} {f : Fault} (most : ℕ) → length tokens ≤ most → RefusesChain joint Spells Refuses begun tokens f → chain_by joint part (suc most) (pending begun tokens) ≡ Err f
  chain_stops {begun} most enough (in_one {tokens = tokens} {fault = f} h) = chain_stops_here joint part most (pending begun tokens) f (part_stops begun tokens f h)
  chain_stops zero enough (in_others {front = front} left spelled le others) = absurd (omega (arith, enough, length-append front (word joint ∷ left)))
  chain_stops {begun} (suc most) enough (in_others {front = front} {c = c} {fault = f} left spelled le others) =
      let tokens : List Token = word joint ∷ left in
      chain_stops_later joint part (suc most) (pending begun (front ++ tokens)) (pending (begun + comparisons c) tokens) c f (again front c begun tokens spelled (joins left front c spelled) le) (says_there joint left)
      (chain_stops most (omega (arith, enough, length-append front (word joint ∷ left))) others)

module _ (style : Style) (room : ℕ) (part_stops : Stops (part_by style room) (RefusesPart style room)) where
  conjunction_stops : Stops (conjunction_by (part_by style room)) (RefusesChain (codes "and") (SpellsPart style room) (RefusesPart style room))
  unfolding conjunction_by
  conjunction_stops begun tokens f refused =
      let err = chain_stops (codes "and") (part_by style room) (SpellsPart style room) (EndsPart style room) (RefusesPart style room) (part_again style room)
      (λ left. part_ends (word (codes "and") ∷ left) (word_stops (codes "and") left) style room) part_stops (length tokens) (omega arith) refused in
      rw err refl

  whole_stops : Stops (joined_by (part_by style room)) (RefusesWhole (SpellsPart style room) (RefusesPart style room))
  unfolding joined_by
  whole_stops begun tokens f refused =
      let err = chain_stops (codes "or") (conjunction_by (part_by style room)) (SpellsConjunction (SpellsPart style room)) (EndsConjunction (SpellsPart style room) (EndsPart style room))
      (RefusesChain (codes "and") (SpellsPart style room) (RefusesPart style room)) (conjunction_again style room (part_again style room))
      (λ left. conjunction_ends (word (codes "or") ∷ left) (word_stops (codes "or") left) (or_is_no_and left) style room) conjunction_stops (length tokens) (omega arith) refused in
      rw err refl

-- ---- parts

unclosed_stops : (begun n : ℕ) (whole : Reader) (tokens left : List Token) (c : Condition) (f : Fault) → whole (pending begun tokens) ≡ Ok (c, pending n left) → stands Close left ≡ false → f ≡ blame Part left
    → bracketed_by whole (pending begun (sign Open ∷ tokens)) ≡ Err f
unfolding sign_by
unclosed_stops begun n whole tokens left c f read none is = rw (read, none, is) refl

negated_stops : (begun : ℕ) (part : Reader) (tokens : List Token) (f : Fault) → part (pending begun tokens) ≡ Err f → opposite_by part (pending begun (word (codes "not") ∷ tokens)) ≡ Err f
negated_stops begun part tokens f err = rw err refl

brackets_stop : (begun : ℕ) (whole : Reader) (tokens : List Token) (f : Fault) → whole (pending begun tokens) ≡ Err f → bracketed_by whole (pending begun (sign Open ∷ tokens)) ≡ Err f
brackets_stop begun whole tokens f err = rw err refl

opened_stops : (style : Style) (part whole : Reader) (Whole : List Token → Condition → Type 0) (WholeEnds : Ending Whole) (InPart InWhole : Refusing) → Again whole Whole WholeEnds → Stops part InPart → Stops whole InWhole
    → Stops (read_as style part whole) (RefusesOpened style Whole WholeEnds InPart InWhole)
opened_stops style part whole W WE P Q again p q begun tokens f (in_simple h) = simple_stops part whole h
opened_stops style part whole W WE P Q again p q begun tokens f (in_negated {left = left} h) = rw opens_not (negated_stops begun part left f (p begun left f h))
opened_stops style part whole W WE P Q again p q begun tokens f (in_brackets {left = left} h) = rw opens_bracket (brackets_stop begun whole left f (q begun left f h))
opened_stops style part whole W WE P Q again p q begun tokens f (unclosed {front = front} {c = c} left spelled ends le none is) =
    rw opens_bracket (unclosed_stops begun (begun + comparisons c) whole (front ++ left) left c f (again front c begun left spelled ends le) none is)

deep_stops : Stops too_deep TooDeep
deep_stops begun tokens f is = rw is refl

part_stops : (style : Style) (room : ℕ) → Stops (part_by style room) (RefusesPart style room)
unfolding part_by RefusesPart
part_stops style zero = opened_stops style too_deep too_deep Nothing Free TooDeep TooDeep (nothing_again too_deep Free) deep_stops deep_stops
part_stops style (suc room) =
    opened_stops style (part_by style room) (joined_by (part_by style room)) (SpellsJoined (SpellsPart style room)) (EndsWhole (SpellsPart style room) (EndsPart style room)) (RefusesPart style room)
    (RefusesWhole (SpellsPart style room) (RefusesPart style room)) (whole_again style room (part_again style room)) (part_stops style room) (whole_stops style room (part_stops style room))

pub condition_stops : (style : Style) (tokens : List Token) (f : Fault) → RefusesCond style tokens f → condition_by style tokens ≡ Err f
unfolding condition_by condition_within
condition_stops style tokens f refused = rw (whole_stops style 16 (part_stops style 16) 0 tokens f refused) refl
