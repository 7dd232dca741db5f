-- What spells an expression is read, whatever follows that can't go on with it.
use Rattle.std.proofs.Common.{◌≡◌, ℕ, zero, suc, ◌≤◌, Bool, true, false, cond, leb, ◌&&◌, Option, None, Some, Ok, Err, List, [], ◌∷◌, ◌++◌, length, refl, sym, ap, subst, ◌∙◌, append_assoc, arith}
use Rattle.std.specs.Prelude.{codes, unwrap_or}
use Rattle.std.specs.Str.{bytes_eq}
use Rattle.std.proofs.lemmas.Slice.Eq.{bytes_eq-Decides}
use Rattle.std.proofs.lemmas.Bool.{and_from, le-leb}
use Rattle.source_text.specs.declared.lexemes.Sign.{Sign}
use Rattle.source_text.specs.declared.lexemes.Sign.TheVariants.{Plus, Minus, Times, Dot, At}
use Rattle.source_text.specs.Tokens.{Token, word, number, sign, after}
use Rattle.weighing.specs.declared.scales.Num.{Num}
use Rattle.condition_syntax.specs.declared.conditions.Style.{Style}
use Rattle.condition_syntax.specs.declared.conditions.Style.TheVariants.{Controller, Question}
use Rattle.condition_syntax.specs.declared.expressions.Name.{Name}
use Rattle.condition_syntax.specs.declared.expressions.ETerm.{ETerm}
use Rattle.condition_syntax.specs.declared.faults.Fault.TheVariants.{Number, Term, Count}
use Rattle.condition_syntax.specs.Fronts.{stands}
use Rattle.condition_syntax.specs.Words.{fraction, signed}
use Rattle.condition_syntax.specs.Expressions.{is_within, number_of, word_by, digits_by, flow_by, step_by, named_by, name_by, factor_by, single_by, term_by, onward, terms_by, expr_by}
use Rattle.condition_syntax.specs.Grammar.{IsNumber, IsNameWord, SpellsFlow, no_flow, some_flow, SpellsStep, no_step, some_step, SpellsName, plain, placed, SpellsTerm, constant, multiple, single, joint_of, SpellsTerms, last_term, more_terms, SpellsExpr, unsigned, negative}
use Rattle.condition_syntax.specs.Ends.{EndsFlow, EndsStep, EndsPlaces, EndsName, EndsTerm, EndsTerms, EndsExpr}
use Rattle.condition_syntax.proofs.EndLaws.{term_ends, joint_stops}
use Rattle.condition_syntax.proofs.FrontLaws.{stands_there}

pub within_from : (n : ℕ) (d : Option ℕ) (q : Num) → IsNumber n d q → is_within n (unwrap_or d 1) ≡ true
within_from n d q is =
    and_from (leb n 1000000) (leb 1 (unwrap_or d 1) && leb (unwrap_or d 1) 1000) (le-leb _ _ is.num_to) (and_from (leb 1 (unwrap_or d 1)) (leb (unwrap_or d 1) 1000) (le-leb _ _ is.den_from) (le-leb _ _ is.den_to))

pub number_again : (n : ℕ) (d : Option ℕ) (q : Num) → IsNumber n d q → number_of n d ≡ Ok q
unfolding number_of
number_again n d q is =
    ap (λ (b : Bool). cond b (Ok (fraction n (unwrap_or d 1))) (Err Number)) (within_from n d q is) ∙ ap (λ (x : Num). Ok x) (sym is.value)

-- ---- names

pub word_again : (w : List ℕ) (rest : List Token) → IsNameWord w → word_by (word w ∷ rest) ≡ Ok (w, rest)
unfolding word_by
word_again w rest may =
    ap (λ (b : Bool). cond b (Err Term) (cond (leb (length w) 16) (Ok (w, rest)) (Err Count))) may.free
    ∙ ap (λ (b : Bool). cond b (Ok (w, rest)) (Err Count)) (le-leb (length w) 16 may.short)

flow_at : (n : ℕ) (rest : List Token) → flow_by (sign Dot ∷ number n None ∷ rest) ≡ Ok (Some n, rest)
unfolding flow_by digits_by
flow_at n rest = rw (stands_there Dot (number n None ∷ rest)) refl

no_flow_at : (rest : List Token) → stands Dot rest ≡ false → flow_by rest ≡ Ok (None, rest)
unfolding flow_by
no_flow_at rest absent = rw absent refl

step_at : (w : List ℕ) (n : ℕ) (rest : List Token) → step_by w (sign At ∷ number n None ∷ rest) ≡ Ok (Some n, rest)
unfolding step_by digits_by
step_at w n rest = rw (stands_there At (number n None ∷ rest)) refl

no_step_at : (w : List ℕ) (rest : List Token) → w ≡ codes "credit" → stands At rest ≡ false → step_by w rest ≡ Ok (None, rest)
unfolding step_by
no_step_at w rest is absent =
    let credit : bytes_eq w (codes "credit") ≡ true = (bytes_eq-Decides w (codes "credit")).1 is in
    rw (absent, credit) refl

pub flow_again : {fs : List Token} {f : Option ℕ} (rest : List Token) (flow : SpellsFlow fs f) → EndsFlow fs f flow rest → flow_by (fs ++ rest) ≡ Ok (f, rest)
flow_again rest no_flow ends = no_flow_at rest ends
flow_again rest (some_flow n) ends = flow_at n rest

step_again : {w : List ℕ} {ss : List Token} {s : Option ℕ} (rest : List Token) (step : SpellsStep w ss s) → EndsStep w ss s step rest → step_by w (ss ++ rest) ≡ Ok (s, rest)
step_again rest (no_step is) ends = no_step_at _ rest is ends
step_again rest (some_step n) ends = step_at _ n rest

pub at_ends_flow : {fs : List Token} {f : Option ℕ} (rest : List Token) (flow : SpellsFlow fs f) → EndsFlow fs f flow (sign At ∷ rest)
unfolding stands
at_ends_flow rest no_flow = refl
at_ends_flow rest (some_flow n) = tt

places_again : (w : List ℕ) (fs middle rest : List Token) (f s : Option ℕ) → flow_by (fs ++ middle) ≡ Ok (f, middle) → step_by w middle ≡ Ok (s, rest) → named_by Question w (fs ++ middle) ≡ Ok (record { text = w; flow = f; step = s }, rest)
unfolding named_by
places_again w fs middle rest f s flow step = rw (flow, step) refl

pub named_again : {w : List ℕ} {fs ss : List Token} {f s : Option ℕ} (rest : List Token) (flow : SpellsFlow fs f) (step : SpellsStep w ss s) → EndsPlaces fs f w ss s flow step rest
    → named_by Question w (fs ++ (ss ++ rest)) ≡ Ok (record { text = w; flow = f; step = s }, rest)
named_again {w} {fs} {ss} {f} {s} rest flow (no_step is) ends = places_again w fs rest rest f s (flow_again rest flow ends.0) (no_step_at w rest is ends.1)
named_again {w} {fs} {ss} {f} {s} rest flow (some_step n) ends =
    places_again w fs (sign At ∷ number n None ∷ rest) rest f s (flow_again (sign At ∷ number n None ∷ rest) flow (at_ends_flow (number n None ∷ rest) flow)) (step_at w n rest)

controller_name : (w : List ℕ) (rest : List Token) → IsNameWord w → name_by Controller (word w ∷ rest) ≡ Ok (record { text = w; flow = None; step = None }, rest)
unfolding name_by named_by
controller_name w rest may = rw (word_again w rest may) refl

question_name : {w : List ℕ} {fs ss : List Token} {f s : Option ℕ} (rest : List Token) → IsNameWord w → (flow : SpellsFlow fs f) (step : SpellsStep w ss s) → EndsPlaces fs f w ss s flow step rest
    → name_by Question (word w ∷ (fs ++ ss) ++ rest) ≡ Ok (record { text = w; flow = f; step = s }, rest)
unfolding name_by
question_name {w} {fs} {ss} {f} {s} rest may flow step ends =
    rw (word_again w ((fs ++ ss) ++ rest) may) (ap (named_by Question w) (append_assoc fs ss rest) ∙ named_again rest flow step ends)

pub name_again : {style : Style} {front : List Token} {x : Name} (rest : List Token) (name : SpellsName style front x) → EndsName style front x name rest → name_by style (front ++ rest) ≡ Ok (x, rest)
name_again rest (plain may) ends = controller_name _ rest may
name_again rest (placed may flow step) ends = question_name rest may flow step ends

-- ---- terms

-- the first token of a term is a number or a word that may name something
pub data Leads : List Token → Type 0 where
  by_number : {n : ℕ} {d : Option ℕ} {q : Num} {tokens : List Token} → IsNumber n d q → Leads (number n d ∷ tokens)
  by_word : {w : List ℕ} {tokens : List Token} → IsNameWord w → Leads (word w ∷ tokens)

name_leads : {style : Style} {front : List Token} {x : Name} (rest : List Token) → SpellsName style front x → Leads (front ++ rest)
name_leads rest (plain may) = by_word may
name_leads rest (placed may flow step) = by_word may

pub term_leads : {style : Style} {sg : Bool} {front : List Token} {t : ETerm} (rest : List Token) → SpellsTerm style sg front t → Leads (front ++ rest)
term_leads rest (constant is) = by_number is
term_leads rest (multiple is name) = by_number is
term_leads rest (single name) = name_leads rest name

pub no_sign_leads : {tokens : List Token} (s : Sign) → Leads tokens → stands s tokens ≡ false
unfolding stands
no_sign_leads s (by_number is) = refl
no_sign_leads s (by_word may) = refl

constant_again : (style : Style) (q : Num) (rest : List Token) → stands Times rest ≡ false → factor_by style q rest ≡ Ok (record { coef = q; name = None }, rest)
unfolding factor_by
constant_again style q rest absent = rw absent refl

multiple_again : {style : Style} {front : List Token} {x : Name} (q : Num) (rest : List Token) (name : SpellsName style front x) → EndsName style front x name rest
    → factor_by style q (sign Times ∷ front ++ rest) ≡ Ok (record { coef = q; name = Some x }, rest)
unfolding factor_by
multiple_again {style} {front} {x} q rest name ends = rw (stands_there Times (front ++ rest), name_again rest name ends) refl

single_again : {style : Style} {front : List Token} {x : Name} (sg : Bool) (rest : List Token) (name : SpellsName style front x) → EndsName style front x name rest
    → single_by style sg (front ++ rest) ≡ Ok (record { coef = signed sg (fraction 1 1); name = Some x }, rest)
unfolding single_by
single_again sg rest name ends = rw (name_again rest name ends) refl

-- a name begins no number
pub named_term : {style : Style} {front : List Token} {x : Name} (sg : Bool) (rest : List Token) → SpellsName style front x → term_by style sg (front ++ rest) ≡ single_by style sg (front ++ rest)
unfolding term_by
named_term sg rest (plain may) = refl
named_term sg rest (placed may flow step) = refl

pub numbered_term : (style : Style) (sg : Bool) (n : ℕ) (d : Option ℕ) (q : Num) (tokens : List Token) → IsNumber n d q → term_by style sg (number n d ∷ tokens) ≡ factor_by style (signed sg q) tokens
unfolding term_by
numbered_term style sg n d q tokens is = rw (number_again n d q is) refl

pub term_again : {style : Style} {sg : Bool} {front : List Token} {t : ETerm} (rest : List Token) (term : SpellsTerm style sg front t) → EndsTerm style sg front t term rest → term_by style sg (front ++ rest) ≡ Ok (t, rest)
term_again {style} {sg} rest (constant is) ends = numbered_term style sg _ _ _ rest is ∙ constant_again style _ rest ends
term_again {style} {sg} rest (multiple {front = front} is name) ends = numbered_term style sg _ _ _ (sign Times ∷ front ++ rest) is ∙ multiple_again _ rest name ends
term_again {style} {sg} rest (single name) ends = named_term sg rest name ∙ single_again sg rest name ends

-- ---- expressions

pub onward_there : (next : Bool) (rest : List Token) → onward (joint_of next ∷ rest) ≡ Some next
unfolding onward stands
onward_there false rest = refl
onward_there true rest = refl

onward_ends : (rest : List Token) → stands Plus rest ≡ false → stands Minus rest ≡ false → onward rest ≡ None
unfolding onward
onward_ends rest plus minus = rw (plus, minus) refl

one_term : (style : Style) (room : ℕ) (sg : Bool) (tokens rest : List Token) (t : ETerm) → term_by style sg tokens ≡ Ok (t, rest) → onward rest ≡ None
    → terms_by style (suc room) sg tokens ≡ Ok (t ∷ [], rest)
unfolding terms_by
one_term style room sg tokens rest t read ends = rw (read, ends) refl

term_and_more : (style : Style) (room : ℕ) (sg next : Bool) (tokens rest end : List Token) (t : ETerm) (ts : List ETerm) → term_by style sg tokens ≡ Ok (t, rest) → onward rest ≡ Some next
    → terms_by style room next (after rest) ≡ Ok (ts, end) → terms_by style (suc room) sg tokens ≡ Ok (t ∷ ts, end)
unfolding terms_by
term_and_more style room sg next tokens rest end t ts read on others = rw (read, on, others) refl

pub joint_is_passed : (next : Bool) (rest : List Token) → after (joint_of next ∷ rest) ≡ rest
joint_is_passed false rest = refl
joint_is_passed true rest = refl

pub terms_again : {style : Style} {sg : Bool} {front : List Token} {ts : List ETerm} (room : ℕ) (rest : List Token) (terms : SpellsTerms style sg front ts) → length ts ≤ room → EndsTerms style sg front ts terms rest
    → terms_by style room sg (front ++ rest) ≡ Ok (ts, rest)
terms_again zero rest (last_term term) few ends = absurd (omega arith)
terms_again {style} {sg} (suc room) rest (last_term term) few ends = one_term style room sg _ rest _ (term_again rest term ends.0) (onward_ends rest ends.1 ends.2)
terms_again zero rest (more_terms term others) few ends = absurd (omega arith)
terms_again {style} {sg} (suc room) rest (more_terms {next = next} {front = front} {rest = later} {t = t} {ts = ts} term others) few ends =
    let read : term_by style sg (front ++ (joint_of next ∷ later ++ rest)) ≡ Ok (t, joint_of next ∷ later ++ rest) = term_again (joint_of next ∷ later ++ rest) term (term_ends (joint_of next ∷ later ++ rest) (joint_stops next (later ++ rest)) term) in
    let left : terms_by style room next (after (joint_of next ∷ later ++ rest)) ≡ Ok (ts, rest) =
    ap (terms_by style room next) (joint_is_passed next (later ++ rest)) ∙ terms_again room rest others (omega arith) ends in
    ap (terms_by style (suc room) sg) (append_assoc front (joint_of next ∷ later) rest)
    ∙ term_and_more style room sg next (front ++ (joint_of next ∷ later ++ rest)) (joint_of next ∷ later ++ rest) rest t ts read (onward_there next (later ++ rest)) left

pub terms_lead : {style : Style} {sg : Bool} {front : List Token} {ts : List ETerm} (rest : List Token) → SpellsTerms style sg front ts → Leads (front ++ rest)
terms_lead rest (last_term term) = term_leads rest term
terms_lead rest (more_terms {next = next} {front = front} {rest = later} term others) = subst Leads (sym (append_assoc front (joint_of next ∷ later) rest)) (term_leads (joint_of next ∷ later ++ rest) term)

pub unsigned_again : (style : Style) (tokens : List Token) → stands Minus tokens ≡ false → expr_by style tokens ≡ terms_by style 16 false tokens
unfolding expr_by
unsigned_again style tokens absent = rw absent refl

pub negative_again : (style : Style) (tokens : List Token) → expr_by style (sign Minus ∷ tokens) ≡ terms_by style 16 true tokens
unfolding expr_by
negative_again style tokens = rw (stands_there Minus tokens) refl

pub expr_again : {style : Style} {front : List Token} {ts : List ETerm} (rest : List Token) (expr : SpellsExpr style front ts) → EndsExpr style front ts expr rest → expr_by style (front ++ rest) ≡ Ok (ts, rest)
expr_again {style} {front} rest (unsigned terms few) ends = unsigned_again style (front ++ rest) (no_sign_leads Minus (terms_lead rest terms)) ∙ terms_again 16 rest terms few ends
expr_again {style} rest (negative {front = front} terms few) ends = negative_again style (front ++ rest) ∙ terms_again 16 rest terms few ends
