-- What spells a condition is read, whatever follows that can't go on with it.
use Rattle.std.proofs.Common.{◌≡◌, ℕ, zero, suc, ◌+◌, ◌≤◌, ◌<◌, Bool, true, false, Option, Some, Ok, List, [], ◌∷◌, ◌++◌, length, length-append, refl, sym, ap, subst, ◌∙◌, append_assoc, arith}
use Rattle.std.specs.Prelude.{codes, ◌||◌, ◌&&◌}
use Rattle.std.specs.Str.{bytes_eq}
use Rattle.std.proofs.lemmas.Bool.{or_parts, le-leb, lt-leb}
use Rattle.source_text.specs.declared.lexemes.Sign.{Sign}
use Rattle.source_text.specs.declared.lexemes.Sign.TheVariants.{AtMost, Below, AtLeast, Above, Equal, Assign, Plus, Minus, Times, Open, Close, Dot, At}
use Rattle.source_text.specs.Tokens.{Token, word, number, sign, wrong}
use Rattle.weighing.specs.declared.scales.Num.{Num}
use Rattle.weighing.specs.declared.weighings.Rel5.{Rel5}
use Rattle.condition_syntax.specs.declared.conditions.Style.{Style}
use Rattle.condition_syntax.specs.declared.conditions.Style.TheVariants.{Controller}
use Rattle.condition_syntax.specs.declared.expressions.ETerm.{ETerm}
use Rattle.condition_syntax.specs.declared.openings.Opening.{Opening}
use Rattle.condition_syntax.specs.declared.openings.Opening.TheVariants as opens
use Rattle.condition_syntax.specs.Words.{is_keyword, rel_of}
use Rattle.condition_syntax.specs.Fronts.{stands, says}
use Rattle.condition_syntax.specs.Trees.{Condition, always, never, comparison, delay, opposite, conjoined, disjoined, comparisons}
use Rattle.condition_syntax.specs.Expressions.{expr_by}
use Rattle.condition_syntax.specs.Conditions.{Pending, pending, Reader, behind, side_begins, counted, rel_or, rel_by, comparison_by, rows_by, sign_by, delay_by, has_delays, opening_of, chain_by, conjunction_by, joined_by, opposite_by, bracketed_by, opened_by, too_deep, part_by, condition_within, condition_by}
use Rattle.condition_syntax.specs.Grammar.{IsNumber, IsNameWord, SpellsExpr, unsigned, negative, Joined, one, more, SpellsSimple, truth, falsity, test, compared, SpellsOpened, simple, negated, bracketed, Nothing, SpellsConjunction, SpellsJoined, SpellsPart, SpellsCond}
use Rattle.condition_syntax.specs.WrongTokens.{SideBegins}
use Rattle.condition_syntax.specs.Ends.{Ending, EndsSimple, EndsOpened, EndsJoined, EndsPart, EndsConjunction, EndsWhole, EndsCond, Free}
use Rattle.condition_syntax.proofs.EndLaws.{StopsExpr, Always, expr_ends, part_ends, conjunction_ends, whole_ends, word_stops, close_stops}
use Rattle.condition_syntax.proofs.FrontLaws.{stands_there, says_there}
use Rattle.condition_syntax.proofs.ExpressionsAgain.{within_from, number_again, Leads, by_number, by_word, terms_lead, expr_again}
use Rattle.condition_syntax.proofs.ConditionsTaken.{comparisons_in, comparisons-conjoined, comparisons-disjoined}

-- ---- comparisons

-- what begins a comparison opens nothing else
pub record Begins (tokens : List Token) : Type 0 where
  pub opens_so : (style : Style) → opening_of style tokens ≡ opens.Comparison
  pub begins : side_begins tokens ≡ Ok tt

no_keyword : (w : List ℕ) → is_keyword w ≡ false → (bytes_eq w (codes "not") ≡ false) × (bytes_eq w (codes "true") ≡ false) × (bytes_eq w (codes "false") ≡ false) × (bytes_eq w (codes "delay") ≡ false)
unfolding is_keyword
no_keyword w e =
    let a = or_parts (bytes_eq w (codes "and")) (bytes_eq w (codes "or") || (bytes_eq w (codes "not") || (bytes_eq w (codes "true") || (bytes_eq w (codes "false") || bytes_eq w (codes "delay"))))) e in
    let b = or_parts (bytes_eq w (codes "or")) (bytes_eq w (codes "not") || (bytes_eq w (codes "true") || (bytes_eq w (codes "false") || bytes_eq w (codes "delay")))) a.1 in
    let c = or_parts (bytes_eq w (codes "not")) (bytes_eq w (codes "true") || (bytes_eq w (codes "false") || bytes_eq w (codes "delay"))) b.1 in
    let d = or_parts (bytes_eq w (codes "true")) (bytes_eq w (codes "false") || bytes_eq w (codes "delay")) c.1 in
    let f = or_parts (bytes_eq w (codes "false")) (bytes_eq w (codes "delay")) d.1 in
    (c.0, d.0, f.0, f.1)

and_false : (b : Bool) → (b && false) ≡ false
and_false true = refl
and_false false = refl

word_begins : (w : List ℕ) (tokens : List Token) → IsNameWord w → Begins (word w ∷ tokens)
unfolding opening_of stands says side_begins
word_begins w tokens may =
    let k = no_keyword w may.free in
    record {
      opens_so = λ style. rw (k.0, k.1, k.2, k.3, and_false (has_delays style)) refl;
      begins = rw (may.free, le-leb (length w) 16 may.short) refl;
    }

number_begins : (n : ℕ) (d : Option ℕ) (q : Num) (tokens : List Token) → IsNumber n d q → Begins (number n d ∷ tokens)
unfolding opening_of stands says side_begins
number_begins n d q tokens is = record { opens_so = λ style. rw (and_false (has_delays style)) refl; begins = rw (within_from n d q is) refl }

minus_begins : (tokens : List Token) → Begins (sign Minus ∷ tokens)
unfolding opening_of stands says side_begins
minus_begins tokens = record { opens_so = λ style. rw (and_false (has_delays style)) refl; begins = refl }

pub begins_so : (tokens : List Token) → SideBegins tokens → Begins tokens
begins_so [] side = absurd side
begins_so (word w ∷ tokens) side = word_begins w tokens side
begins_so (number n d ∷ tokens) side = number_begins n d side.0 tokens side.1
begins_so (sign s ∷ tokens) side = subst (λ (t : Sign). Begins (sign t ∷ tokens)) (sym side) (minus_begins tokens)
begins_so (wrong ∷ tokens) side = absurd side

leads_begin : {tokens : List Token} → Leads tokens → Begins tokens
leads_begin (by_number is) = number_begins _ _ _ _ is
leads_begin (by_word may) = word_begins _ _ may

pub expr_begins : {style : Style} {front : List Token} {ts : List ETerm} (rest : List Token) → SpellsExpr style front ts → Begins (front ++ rest)
expr_begins rest (unsigned terms few) = leads_begin (terms_lead rest terms)
expr_begins rest (negative {front = front} terms few) = minus_begins (front ++ rest)

-- a relation ends an expression, and is read
pub rel_stops : (s : Sign) (rel : Rel5) → rel_of s ≡ Some rel → (rest : List Token) → StopsExpr (sign s ∷ rest)
unfolding stands
rel_stops AtMost rel is rest = record { term = record { no_times = refl; no_dot = refl; no_at = refl }; no_plus = refl; no_minus = refl }
rel_stops Below rel is rest = record { term = record { no_times = refl; no_dot = refl; no_at = refl }; no_plus = refl; no_minus = refl }
rel_stops AtLeast rel is rest = record { term = record { no_times = refl; no_dot = refl; no_at = refl }; no_plus = refl; no_minus = refl }
rel_stops Above rel is rest = record { term = record { no_times = refl; no_dot = refl; no_at = refl }; no_plus = refl; no_minus = refl }
rel_stops Equal rel is rest = record { term = record { no_times = refl; no_dot = refl; no_at = refl }; no_plus = refl; no_minus = refl }
rel_stops Assign rel is rest = absurd (cc)
rel_stops Plus rel is rest = absurd (cc)
rel_stops Minus rel is rest = absurd (cc)
rel_stops Times rel is rest = absurd (cc)
rel_stops Open rel is rest = absurd (cc)
rel_stops Close rel is rest = absurd (cc)
rel_stops Dot rel is rest = absurd (cc)
rel_stops At rel is rest = absurd (cc)

pub rel_again : (s : Sign) (rel : Rel5) (rest : List Token) → rel_of s ≡ Some rel → rel_by (sign s ∷ rest) ≡ Ok (rel, rest)
unfolding rel_by
rel_again s rel rest is = ap (λ (o : Option Rel5). rel_or o rest) is

pub counted_again : (begun : ℕ) → begun < 16 → counted begun ≡ Ok (begun + 1)
unfolding counted
counted_again begun lt = rw (lt-leb 16 begun lt) refl

compared_again : (style : Style) (begun : ℕ) (tokens middle later rest : List Token) (left right : List ETerm) (rel : Rel5) → side_begins tokens ≡ Ok tt → begun < 16
    → expr_by style tokens ≡ Ok (left, middle) → rel_by middle ≡ Ok (rel, later) → expr_by style later ≡ Ok (right, rest)
    → comparison_by style (pending begun tokens) ≡ Ok (comparison (record { terms = left }) rel (record { terms = right }), pending (begun + 1) rest)
unfolding comparison_by
compared_again style begun tokens middle later rest left right rel begins lt l r e = rw (begins, counted_again begun lt, l, r, e) refl

tested_again : (begun n : ℕ) (d : Option ℕ) (q : Num) (rest : List Token) → begun < 16 → IsNumber n d q
    → delay_by (pending begun (word (codes "delay") ∷ sign AtLeast ∷ number n d ∷ rest)) ≡ Ok (delay q, pending (begun + 1) rest)
unfolding delay_by sign_by rows_by
tested_again begun n d q rest lt is = rw (counted_again begun lt, stands_there AtLeast (number n d ∷ rest), number_again n d q is) refl

-- ---- chains

-- what is spelled so is read, where the rest ends it
abbrev pub Again : Reader → (Spells : List Token → Condition → Type 0) → Ending Spells → Type 0
Again read Spells Ends = (front : List Token) (c : Condition) (begun : ℕ) (rest : List Token) (spelled : Spells front c) → Ends front c spelled rest → begun + comparisons c ≤ 16
    → read (pending begun (front ++ rest)) ≡ Ok (c, pending (begun + comparisons c) rest)

-- there are no more parts than tokens, and one
pub parts_fit : {X : Type 0} {Spells : List Token → X → Type 0} {joint : Token} {front : List Token} {xs : List X} → Joined Spells joint front xs → length xs ≤ suc (length front)
parts_fit (one spelled) = omega arith
parts_fit {joint = joint} (more {front = front} {rest = rest} spelled others) = omega (arith, parts_fit others, length-append front (joint ∷ rest))

module _ (joint : List ℕ) (part : Reader) where
  chain_last : (most : ℕ) (s t : Pending) (c : Condition) → part s ≡ Ok (c, t) → says joint t.tokens ≡ false → chain_by joint part (suc most) s ≡ Ok (c ∷ [], t)
  unfolding chain_by
  chain_last most s t c read ends = rw (read, ends) refl

  chain_more : (most : ℕ) (s t u : Pending) (c : Condition) (cs : List Condition) → part s ≡ Ok (c, t) → says joint t.tokens ≡ true → chain_by joint part most (behind t) ≡ Ok (cs, u)
      → chain_by joint part (suc most) s ≡ Ok (c ∷ cs, u)
  unfolding chain_by
  chain_more most s t u c cs read here others = rw (read, here, others) refl

module _ (joint : List ℕ) (part : Reader) (Spells : List Token → Condition → Type 0) (Ends : Ending Spells) (again : Again part Spells Ends) (joins : (rest : List Token) → Always Spells Ends (word joint ∷ rest)) where
  pub chain_again : (most begun : ℕ) {front : List Token} {cs : List Condition} (rest : List Token) (joined : Joined Spells (word joint) front cs) → length cs ≤ most → EndsJoined Spells (word joint) Ends front cs joined rest → says joint rest ≡ false
      → begun + comparisons_in cs ≤ 16 → chain_by joint part most (pending begun (front ++ rest)) ≡ Ok (cs, pending (begun + comparisons_in cs) rest)
  chain_again zero begun rest (one spelled) few ends none le = absurd (omega arith)
  chain_again (suc most) begun rest (one {front = front} {x = c} spelled) few ends none le =
      let count : begun + (comparisons c + 0) ≡ begun + comparisons c = omega arith in
      chain_last joint part most (pending begun (front ++ rest)) (pending (begun + comparisons c) rest) c (again front c begun rest spelled ends (omega arith)) none
      ∙ ap (λ n. Ok (c ∷ [], pending n rest)) (sym count)
  chain_again zero begun rest (more spelled others) few ends none le = absurd (omega arith)
  chain_again (suc most) begun rest (more {front = front} {rest = later} {x = c} {xs = cs} spelled others) few ends none le =
      let tokens : List Token = word joint ∷ later ++ rest in
      let read : part (pending begun (front ++ tokens)) ≡ Ok (c, pending (begun + comparisons c) tokens) = again front c begun tokens spelled (joins (later ++ rest) front c spelled) (omega arith) in
      let left : chain_by joint part most (pending (begun + comparisons c) (later ++ rest)) ≡ Ok (cs, pending ((begun + comparisons c) + comparisons_in cs) rest) =
      chain_again most (begun + comparisons c) rest others (omega arith) ends none (omega arith) in
      let count : (begun + comparisons c) + comparisons_in cs ≡ begun + (comparisons c + comparisons_in cs) = omega arith in
      ap (λ (ts : List Token). chain_by joint part (suc most) (pending begun ts)) (append_assoc front (word joint ∷ later) rest)
      ∙ chain_more joint part most (pending begun (front ++ tokens)) (pending (begun + comparisons c) tokens) (pending ((begun + comparisons c) + comparisons_in cs) rest) c cs read (says_there joint (later ++ rest)) left
      ∙ ap (λ n. Ok (c ∷ cs, pending n rest)) count

pub or_is_no_and : (rest : List Token) → says (codes "and") (word (codes "or") ∷ rest) ≡ false
unfolding says
or_is_no_and rest = refl

module _ (style : Style) (room : ℕ) (again : Again (part_by style room) (SpellsPart style room) (EndsPart style room)) where
  pub conjunction_again : Again (conjunction_by (part_by style room)) (SpellsConjunction (SpellsPart style room)) (EndsConjunction (SpellsPart style room) (EndsPart style room))
  unfolding conjunction_by
  conjunction_again front c begun rest spelled ends le =
      let cs = spelled.0 in
      let count : comparisons c ≡ comparisons_in cs = ap comparisons spelled.1.1 ∙ comparisons-conjoined cs in
      let fits : length cs ≤ suc (length (front ++ rest)) = omega (arith, parts_fit spelled.1.0, length-append front rest) in
      let read : chain_by (codes "and") (part_by style room) (suc (length (front ++ rest))) (pending begun (front ++ rest)) ≡ Ok (cs, pending (begun + comparisons_in cs) rest) =
      chain_again (codes "and") (part_by style room) (SpellsPart style room) (EndsPart style room) again (λ left. part_ends (word (codes "and") ∷ left) (word_stops (codes "and") left) style room)
      (suc (length (front ++ rest))) begun rest spelled.1.0 fits ends.0 ends.1 (omega (arith, count)) in
      rw (read, spelled.1.1) (ap (λ n. Ok (conjoined cs, pending (begun + n) rest)) (sym (comparisons-conjoined cs)))

  pub whole_again : Again (joined_by (part_by style room)) (SpellsJoined (SpellsPart style room)) (EndsWhole (SpellsPart style room) (EndsPart style room))
  unfolding joined_by
  whole_again front c begun rest spelled ends le =
      let cs = spelled.0 in
      let count : comparisons c ≡ comparisons_in cs = ap comparisons spelled.1.1 ∙ comparisons-disjoined cs in
      let fits : length cs ≤ suc (length (front ++ rest)) = omega (arith, parts_fit spelled.1.0, length-append front rest) in
      let read : chain_by (codes "or") (conjunction_by (part_by style room)) (suc (length (front ++ rest))) (pending begun (front ++ rest)) ≡ Ok (cs, pending (begun + comparisons_in cs) rest) =
      chain_again (codes "or") (conjunction_by (part_by style room)) (SpellsConjunction (SpellsPart style room)) (EndsConjunction (SpellsPart style room) (EndsPart style room)) conjunction_again
      (λ left. conjunction_ends (word (codes "or") ∷ left) (word_stops (codes "or") left) (or_is_no_and left) style room)
      (suc (length (front ++ rest))) begun rest spelled.1.0 fits ends.0 ends.1 (omega (arith, count)) in
      rw (read, spelled.1.1) (ap (λ n. Ok (disjoined cs, pending (begun + n) rest)) (sym (comparisons-disjoined cs)))

-- ---- parts

pub opens_not : (style : Style) (rest : List Token) → opening_of style (word (codes "not") ∷ rest) ≡ opens.Not
unfolding opening_of stands says
opens_not style rest = refl

pub opens_bracket : (style : Style) (rest : List Token) → opening_of style (sign Open ∷ rest) ≡ opens.Bracket
unfolding opening_of stands
opens_bracket style rest = refl

opens_true : (style : Style) (rest : List Token) → opening_of style (word (codes "true") ∷ rest) ≡ opens.True
unfolding opening_of stands says
opens_true style rest = refl

opens_false : (style : Style) (rest : List Token) → opening_of style (word (codes "false") ∷ rest) ≡ opens.False
unfolding opening_of stands says
opens_false style rest = refl

pub opens_delay : (rest : List Token) → opening_of Controller (word (codes "delay") ∷ rest) ≡ opens.Delay
unfolding opening_of stands says
opens_delay rest = refl

closed_again : (rest : List Token) → sign_by Close (sign Close ∷ rest) ≡ Ok rest
unfolding sign_by
closed_again rest = rw (stands_there Close rest) refl

-- a part, by what its first token opens
abbrev pub read_as : Style → Reader → Reader → Reader
read_as style part whole s = opened_by style part whole (opening_of style s.tokens) s

pub simple_again : {style : Style} {front : List Token} {c : Condition} (part whole : Reader) (begun : ℕ) (rest : List Token) (s : SpellsSimple style front c) → EndsSimple style front c s rest → begun + comparisons c ≤ 16
    → read_as style part whole (pending begun (front ++ rest)) ≡ Ok (c, pending (begun + comparisons c) rest)
simple_again {style} part whole begun rest truth ends le = rw opens_true (ap (λ n. Ok (always, pending n rest)) (omega arith))
simple_again {style} part whole begun rest falsity ends le = rw opens_false (ap (λ n. Ok (never, pending n rest)) (omega arith))
simple_again part whole begun rest (test is) ends le = rw opens_delay (tested_again begun _ _ _ rest (omega arith) is)
simple_again {style} part whole begun rest (compared {l = l} {r = r} {left = left} {right = right} {rel = rel} s spelled_left is spelled_right) ends le =
    let tokens : List Token = sign s ∷ r ++ rest in
    let begins = expr_begins tokens spelled_left in
    let read = compared_again style begun (l ++ tokens) tokens (r ++ rest) rest left right rel begins.begins (omega arith) (expr_again tokens spelled_left (expr_ends tokens (rel_stops s rel is (r ++ rest)) spelled_left)) (rel_again s rel (r ++ rest) is) (expr_again rest spelled_right ends) in
    ap (λ (ts : List Token). read_as style part whole (pending begun ts)) (append_assoc l (sign s ∷ r) rest)
    ∙ ap (λ (o : Opening). opened_by style part whole o (pending begun (l ++ tokens))) (begins.opens_so style) ∙ read

negated_again : (part : Reader) (begun : ℕ) (tokens : List Token) (c : Condition) (t : Pending) → part (pending begun tokens) ≡ Ok (c, t) → opposite_by part (pending begun (word (codes "not") ∷ tokens)) ≡ Ok (opposite c, t)
negated_again part begun tokens c t read = rw read refl

bracketed_again : (whole : Reader) (begun n : ℕ) (tokens rest : List Token) (c : Condition) → whole (pending begun tokens) ≡ Ok (c, pending n (sign Close ∷ rest))
    → bracketed_by whole (pending begun (sign Open ∷ tokens)) ≡ Ok (c, pending n rest)
bracketed_again whole begun n tokens rest c read = rw (read, closed_again rest) refl

opened_again : (style : Style) (part whole : Reader) (Part Whole : List Token → Condition → Type 0) (PartEnds : Ending Part) (WholeEnds : Ending Whole) → Again part Part PartEnds → Again whole Whole WholeEnds
    → ((rest : List Token) → Always Whole WholeEnds (sign Close ∷ rest)) → Again (read_as style part whole) (SpellsOpened style Part Whole) (EndsOpened style Part Whole PartEnds)
opened_again style part whole P W PE WE part_again whole_again closes front c begun rest (simple spelled) ends le = simple_again part whole begun rest spelled ends le
opened_again style part whole P W PE WE part_again whole_again closes front c begun rest (negated {front = inner} {c = d} spelled) ends le =
    rw opens_not (negated_again part begun (inner ++ rest) d (pending (begun + comparisons d) rest) (part_again inner d begun rest spelled ends le))
opened_again style part whole P W PE WE part_again whole_again closes front c begun rest (bracketed {front = inner} spelled) ends le =
    let read = whole_again inner c begun (sign Close ∷ rest) spelled (closes rest inner c spelled) le in
    ap (λ (ts : List Token). read_as style part whole (pending begun (sign Open ∷ ts))) (append_assoc inner (sign Close ∷ []) rest)
    ∙ rw opens_bracket (bracketed_again whole begun (begun + comparisons c) (inner ++ sign Close ∷ rest) rest c read)

pub nothing_again : (read : Reader) (Ends : Ending Nothing) → Again read Nothing Ends
nothing_again read Ends front c begun rest spelled ends le = absurd spelled

pub part_again : (style : Style) (room : ℕ) → Again (part_by style room) (SpellsPart style room) (EndsPart style room)
unfolding part_by SpellsPart EndsPart
part_again style zero = opened_again style too_deep too_deep Nothing Nothing Free Free (nothing_again too_deep Free) (nothing_again too_deep Free) (λ rest front c spelled. tt)
part_again style (suc room) =
    opened_again style (part_by style room) (joined_by (part_by style room)) (SpellsPart style room) (SpellsJoined (SpellsPart style room)) (EndsPart style room) (EndsWhole (SpellsPart style room) (EndsPart style room))
    (part_again style room) (whole_again style room (part_again style room)) (λ rest. whole_ends (sign Close ∷ rest) (close_stops rest) style room)

pub condition_again : (style : Style) (front : List Token) (c : Condition) (rest : List Token) (spelled : SpellsCond style front c) → EndsCond style front c spelled rest → condition_by style (front ++ rest) ≡ Ok (c, rest)
unfolding condition_by condition_within
condition_again style front c rest spelled ends =
    let read = whole_again style 16 (part_again style 16) front c 0 rest spelled.derived ends (omega (arith, spelled.few)) in
    rw read refl
