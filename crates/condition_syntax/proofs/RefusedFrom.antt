-- Where reading stops with a fault, the line is refused so.
use Rattle.std.proofs.Common.{◌≡◌, ℕ, zero, suc, ◌<◌, Bool, true, false, cond, leb, ◌⊎◌, ⊎_elim, inl, inr, Option, None, Some, Result, Ok, Err, List, [], ◌∷◌, ◌++◌, length, refl, sym, ap, subst, ◌∙◌}
use Rattle.std.specs.Prelude.{codes, unwrap_or, ◌&&◌}
use Rattle.std.specs.Str.{bytes_eq}
use Rattle.std.proofs.lemmas.Slice.Eq.{bytes_eq-Decides}
use Rattle.std.proofs.lemmas.Bool.{and_cases, leb-false}
use Rattle.text_lines.specs.Steps.{◌>>=◌}
use Rattle.source_text.specs.declared.lexemes.Sign.{Sign}
use Rattle.source_text.specs.declared.lexemes.Sign.TheVariants.{Minus, Times, Dot, At}
use Rattle.source_text.specs.Tokens.{Token, word, number, sign, wrong, after}
use Rattle.weighing.specs.declared.scales.Num.{Num}
use Rattle.condition_syntax.specs.declared.conditions.Style.{Style}
use Rattle.condition_syntax.specs.declared.conditions.Style.TheVariants.{Controller, Question}
use Rattle.condition_syntax.specs.declared.expressions.Name.{Name}
use Rattle.condition_syntax.specs.declared.expressions.ETerm.{ETerm}
use Rattle.condition_syntax.specs.declared.faults.Fault.{Fault}
use Rattle.condition_syntax.specs.declared.faults.Fault.TheVariants.{WrongByte, Number, Term, Count}
use Rattle.condition_syntax.specs.Words.{is_keyword, fraction, signed}
use Rattle.condition_syntax.specs.Fronts.{stands, blame}
use Rattle.condition_syntax.specs.Expressions.{Read, is_within, number_of, word_by, digits_by, found, flow_by, step_by, named_by, name_by, factor_by, single_by, term_by, extra_term, onward, others_by, terms_by, expr_by}
use Rattle.condition_syntax.specs.Grammar.{IsNumber, IsNameWord, SpellsFlow, SpellsTerm}
use Rattle.condition_syntax.specs.Ends.{Taken, EndsFlow, EndsTerm}
use Rattle.condition_syntax.specs.WrongTokens.{IsInside, IsOutside, TermTooMany, NoName, NameMissing, NoDigits, RefusesName, in_word, in_flow, in_step, without_step, RefusesTerm, in_front, in_multiple, in_single, RefusesTerms, in_first, in_later, one_too_many, RefusesExpr, unsigned_refused, negative_refused}
use Rattle.condition_syntax.proofs.FrontLaws.{chosen, stands_is}
use Rattle.condition_syntax.proofs.ExpressionsTaken.{number_taken, word_taken, flow_taken, term_taken, onward_is}

-- a fault of a step, or of what follows it
pub bind_err : {A B E : Type 0} (r : Result A E) (f : A → Result B E) (e : E) → (r >>= f) ≡ Err e → (r ≡ Err e) ⊎ ((x : A) × ((r ≡ Ok x) × (f x ≡ Err e)))
bind_err (Ok x) f e h = inr (x, (refl, h))
bind_err (Err d) f e h = inl (cc)

pub err_is : {X : Type 0} (a b : Fault) → ◌≡◌ {A = Result X Fault} (Err a) (Err b) → b ≡ a
err_is a b e = cc

pub no_err : {X : Type 0} {P : Type 0} (x : X) (b : Fault) → ◌≡◌ {A = Result X Fault} (Ok x) (Err b) → P
no_err x b e = absurd (cc)

-- ---- numbers and names

pub outside_from : (n k : ℕ) → is_within n k ≡ false → (1000000 < n) ⊎ ((k < 1) ⊎ (1000 < k))
outside_from n k e =
    ⊎_elim (λ p. inl (leb-false n 1000000 p)) (λ p. inr (⊎_elim (λ q. inl (leb-false 1 k q)) (λ q. inr (leb-false k 1000 q)) (and_cases (leb 1 k) (leb k 1000) p))) (and_cases (leb n 1000000) (leb 1 k && leb k 1000) e)

pub number_refused : (n : ℕ) (d : Option ℕ) (f : Fault) → number_of n d ≡ Err f → IsOutside n d × (f ≡ Number)
unfolding number_of
number_refused n d f e = ⊎_elim (λ p. no_err (fraction n (unwrap_or d 1)) f p.1) (λ p. (outside_from n (unwrap_or d 1) p.0, err_is Number f p.1)) (chosen (is_within n (unwrap_or d 1)) (Ok (fraction n (unwrap_or d 1))) (Err Number) (Err f) e)

pub no_name : (own : Fault) (w : List ℕ) (f : Fault) {X : Type 0} (x : X) → cond (is_keyword w) (Err own) (cond (leb (length w) 16) (Ok x) (Err Count)) ≡ Err f → NoName own w f
no_name own w f {X} x e = by (is_keyword w) (leb (length w) 16) refl refl e
  where
    by : (k l : Bool) → is_keyword w ≡ k → leb (length w) 16 ≡ l → ◌≡◌ {A = Result X Fault} (cond k (Err own) (cond l (Ok x) (Err Count))) (Err f) → NoName own w f
    by true l p q e = inl (p, cc)
    by false true p q e = absurd (cc)
    by false false p q e = inr (p, leb-false (length w) 16 q, cc)

word_refused : (tokens : List Token) (f : Fault) → word_by tokens ≡ Err f → NameMissing tokens f
unfolding word_by
word_refused [] f e = cc
word_refused (word w ∷ tokens) f e = no_name Term w f (w, tokens) e
word_refused (number n d ∷ tokens) f e = cc
word_refused (sign s ∷ tokens) f e = cc
word_refused (wrong ∷ tokens) f e = cc

digits_refused : (tokens : List Token) (f : Fault) → digits_by tokens ≡ Err f → NoDigits tokens × (f ≡ blame Term tokens)
unfolding digits_by blame
digits_refused [] f e = (tt, cc)
digits_refused (word w ∷ tokens) f e = (tt, cc)
digits_refused (number n None ∷ tokens) f e = absurd (cc)
digits_refused (number n (Some d) ∷ tokens) f e = (tt, cc)
digits_refused (sign s ∷ tokens) f e = (tt, cc)
digits_refused (wrong ∷ tokens) f e = (tt, cc)

found_refused : (read : Read ℕ) (f : Fault) → found read ≡ Err f → read ≡ Err f
found_refused (Ok x) f e = absurd (cc)
found_refused (Err g) f e = cc

-- digits are missing behind a sign
record MarkRefused (s : Sign) (tokens : List Token) (f : Fault) : Type 0 where
  left : List Token
  parts : tokens ≡ sign s ∷ left
  none : NoDigits left
  is : f ≡ blame Term left

mark_refused : (s : Sign) (tokens : List Token) (f : Fault) → stands s tokens ≡ true → found (digits_by (after tokens)) ≡ Err f → MarkRefused s tokens f
mark_refused s tokens f here e =
    let d = digits_refused (after tokens) f (found_refused (digits_by (after tokens)) f e) in
    record { left = after tokens; parts = stands_is s tokens here; none = d.0; is = d.1 }

flow_refused : (tokens : List Token) (f : Fault) → flow_by tokens ≡ Err f → MarkRefused Dot tokens f
unfolding flow_by
flow_refused tokens f e =
    ⊎_elim (λ p. mark_refused Dot tokens f p.0 p.1) (λ p. no_err (None, tokens) f p.1) (chosen (stands Dot tokens) (found (digits_by (after tokens))) (Ok (None, tokens)) (Err f) e)

-- the step is missing
record StepMissing (w : List ℕ) (tokens : List Token) (f : Fault) : Type 0 where
  no_credit : w ≡ codes "credit" → ⊥
  none : stands At tokens ≡ false
  is : f ≡ blame Term tokens

step_refused : (w : List ℕ) (tokens : List Token) (f : Fault) → step_by w tokens ≡ Err f → MarkRefused At tokens f ⊎ StepMissing w tokens f
unfolding step_by
step_refused w tokens f e = ⊎_elim (λ p. inl (mark_refused At tokens f p.0 p.1)) bare (chosen (stands At tokens) (found (digits_by (after tokens))) (cond (bytes_eq w (codes "credit")) (Ok (None, tokens)) (Err (blame Term tokens))) (Err f) e)
  where
    by : (b : Bool) → bytes_eq w (codes "credit") ≡ b → stands At tokens ≡ false → ◌≡◌ {A = Read (Option ℕ)} (cond b (Ok (None, tokens)) (Err (blame Term tokens))) (Err f) → MarkRefused At tokens f ⊎ StepMissing w tokens f
    by true p none e = absurd (cc)
    by false p none e = inr (record { no_credit = λ is. (let h = sym p ∙ (bytes_eq-Decides w (codes "credit")).1 is in cc); none = none; is = err_is (blame Term tokens) f e })

    bare : (stands At tokens ≡ false) × (◌≡◌ {A = Read (Option ℕ)} (cond (bytes_eq w (codes "credit")) (Ok (None, tokens)) (Err (blame Term tokens))) (Err f)) → MarkRefused At tokens f ⊎ StepMissing w tokens f
    bare p = by (bytes_eq w (codes "credit")) refl p.0 p.1

-- behind the flow the step is refused
behind_flow : (w : List ℕ) (tokens : List Token) (x : Option ℕ × List Token) (f : Fault) → IsNameWord w → Taken SpellsFlow EndsFlow tokens x → MarkRefused At x.1 f ⊎ StepMissing w x.1 f → RefusesName Question (word w ∷ tokens) f
behind_flow w tokens x f may flow (inl m) =
    subst (λ (ts : List Token). RefusesName Question (word w ∷ ts) f) (sym (flow.parts ∙ ap (λ (ts : List Token). flow.front ++ ts) m.parts)) (in_step m.left may flow.spelled m.none m.is)
behind_flow w tokens x f may flow (inr m) =
    subst (λ (ts : List Token). RefusesName Question (word w ∷ ts) f) (sym flow.parts) (without_step x.1 may m.no_credit flow.spelled flow.ends m.none m.is)

named_refused : (style : Style) (w : List ℕ) (tokens : List Token) (f : Fault) → IsNameWord w → named_by style w tokens ≡ Err f → RefusesName style (word w ∷ tokens) f
unfolding named_by
named_refused Controller w tokens f may e = no_err (record { text = w; flow = None; step = None }, tokens) f e
named_refused Question w tokens f may e = ⊎_elim in_the_flow behind_it (bind_err (flow_by tokens) _ f e)
  where
    in_the_flow : flow_by tokens ≡ Err f → RefusesName Question (word w ∷ tokens) f
    in_the_flow e =
        let m = flow_refused tokens f e in
        subst (λ (ts : List Token). RefusesName Question (word w ∷ ts) f) (sym m.parts) (in_flow m.left may m.none m.is)

    step_too : (x : Option ℕ × List Token) → flow_by tokens ≡ Ok x → (step_by w x.1 ≡ Err f) ⊎ ((y : Option ℕ × List Token) × ((step_by w x.1 ≡ Ok y) × (◌≡◌ {A = Read Name} (Ok (record { text = w; flow = x.0; step = y.0 }, y.1)) (Err f))))
        → RefusesName Question (word w ∷ tokens) f
    step_too x read (inl h) = behind_flow w tokens x f may (flow_taken tokens x read) (step_refused w x.1 f h)
    step_too x read (inr (y, (h, g))) = no_err (record { text = w; flow = x.0; step = y.0 }, y.1) f g

    behind_it : ((x : Option ℕ × List Token) × ((flow_by tokens ≡ Ok x) × (◌≡◌ {A = Read Name} (step_by w x.1 >>= λ s. Ok (record { text = w; flow = x.0; step = s.0 }, s.1)) (Err f)))) → RefusesName Question (word w ∷ tokens) f
    behind_it (x, (read, h)) = step_too x read (bind_err (step_by w x.1) _ f h)

name_refused : (style : Style) (tokens : List Token) (f : Fault) → name_by style tokens ≡ Err f → RefusesName style tokens f
unfolding name_by
name_refused style tokens f e = ⊎_elim (λ h. in_word (word_refused tokens f h)) behind_it (bind_err (word_by tokens) _ f e)
  where
    behind_it : ((x : List ℕ × List Token) × ((word_by tokens ≡ Ok x) × (named_by style x.0 x.1 ≡ Err f))) → RefusesName style tokens f
    behind_it (x, (read, h)) =
        let w = word_taken tokens x read in
        subst (λ (ts : List Token). RefusesName style ts f) (sym w.parts) (named_refused style x.0 x.1 f w.may h)

-- ---- terms and expressions

pub inside_from : (n : ℕ) (d : Option ℕ) → is_within n (unwrap_or d 1) ≡ true → IsInside n d
unfolding number_of
inside_from n d e = (fraction n (unwrap_or d 1), number_taken n d (fraction n (unwrap_or d 1)) (rw e refl))

too_many : (tokens : List Token) (f : Fault) → f ≡ extra_term tokens → TermTooMany tokens f
unfolding extra_term
too_many [] f is = is
too_many (word w ∷ tokens) f is = by (is_keyword w) refl is
  where
    by : (k : Bool) → is_keyword w ≡ k → f ≡ cond k Term Count → ((is_keyword w ≡ true) × (f ≡ Term)) ⊎ ((is_keyword w ≡ false) × (f ≡ Count))
    by true p e = inl (p, e)
    by false p e = inr (p, e)
too_many (number n d ∷ tokens) f is = by (is_within n (unwrap_or d 1)) refl is
  where
    by : (b : Bool) → is_within n (unwrap_or d 1) ≡ b → f ≡ cond b Count Number → (IsOutside n d × (f ≡ Number)) ⊎ (IsInside n d × (f ≡ Count))
    by true p e = inr (inside_from n d p, e)
    by false p e = inl (outside_from n (unwrap_or d 1) p, e)
too_many (sign s ∷ tokens) f is = is
too_many (wrong ∷ tokens) f is = is

single_refused : (style : Style) (sg : Bool) (tokens : List Token) (f : Fault) → single_by style sg tokens ≡ Err f → name_by style tokens ≡ Err f
unfolding single_by
single_refused style sg tokens f e = ⊎_elim (λ h. h) (λ p. no_err _ f p.1.1) (bind_err (name_by style tokens) _ f e)

factor_refused : (style : Style) (n : ℕ) (d : Option ℕ) (q r : Num) (tokens : List Token) (f : Fault) → IsNumber n d q → factor_by style r tokens ≡ Err f → RefusesTerm style (number n d ∷ tokens) f
unfolding factor_by
factor_refused style n d q r tokens f is e =
    ⊎_elim times (λ p. no_err _ f p.1) (chosen (stands Times tokens) (name_by style (after tokens) >>= λ name. Ok (record { coef = r; name = Some name.0 }, name.1)) (Ok (record { coef = r; name = None }, tokens)) (Err f) e)
  where
    times : (stands Times tokens ≡ true) × (◌≡◌ {A = Read ETerm} (name_by style (after tokens) >>= λ name. Ok (record { coef = r; name = Some name.0 }, name.1)) (Err f)) → RefusesTerm style (number n d ∷ tokens) f
    times p =
        let name : name_by style (after tokens) ≡ Err f = ⊎_elim (λ h. h) (λ g. no_err _ f g.1.1) (bind_err (name_by style (after tokens)) (λ name. Ok (record { coef = r; name = Some name.0 }, name.1)) f p.1) in
        subst (λ (ts : List Token). RefusesTerm style (number n d ∷ ts) f) (sym (stands_is Times tokens p.0)) (in_multiple is (name_refused style (after tokens) f name))

-- what begins no word begins no name
no_word : (style : Style) (tokens : List Token) (own f : Fault) → word_by tokens ≡ Err own → name_by style tokens ≡ Err f → f ≡ own
unfolding name_by
no_word style tokens own f e h = let g : name_by style tokens ≡ Err own = rw e refl in err_is own f (sym g ∙ h)

term_refused : (style : Style) (sg : Bool) (tokens : List Token) (f : Fault) → term_by style sg tokens ≡ Err f → RefusesTerm style tokens f
unfolding term_by word_by
term_refused style sg [] f e = in_front (no_word style [] Term f refl (single_refused style sg [] f e))
term_refused style sg (word w ∷ tokens) f e = in_single (name_refused style (word w ∷ tokens) f (single_refused style sg (word w ∷ tokens) f e))
term_refused style sg (number n d ∷ tokens) f e =
    ⊎_elim (λ h. in_front (number_refused n d f h)) (λ p. factor_refused style n d p.0 (signed sg p.0) tokens f (number_taken n d p.0 p.1.0) p.1.1) (bind_err (number_of n d) (λ q. factor_by style (signed sg q) tokens) f e)
term_refused style sg (sign s ∷ tokens) f e = in_front (no_word style (sign s ∷ tokens) Term f refl (single_refused style sg (sign s ∷ tokens) f e))
term_refused style sg (wrong ∷ tokens) f e = in_front (no_word style (wrong ∷ tokens) WrongByte f refl (single_refused style sg (wrong ∷ tokens) f e))

others_refused : (style : Style) (room : ℕ) (sg : Bool) (tokens : List Token) (t : ETerm × List Token) (next : Option Bool) (f : Fault) → Taken (SpellsTerm style sg) (EndsTerm style sg) tokens t → onward t.1 ≡ next
    → ((joint : Bool) → terms_by style room joint (after t.1) ≡ Err f → RefusesTerms style room joint (after t.1) f)
    → others_by next (λ joint rest. terms_by style room joint (after rest)) t.1 ≡ Err f → RefusesTerms style (suc room) sg tokens f
others_refused style room sg tokens t None f first n others e = no_err ([], t.1) f e
others_refused style room sg tokens t (Some next) f first n others e =
    subst (λ (ts : List Token). RefusesTerms style (suc room) sg ts f) (sym (first.parts ∙ ap (λ (ts : List Token). first.front ++ ts) (onward_is t.1 next n))) (in_later (after t.1) first.spelled (others next e))

pub terms_refused : (style : Style) (room : ℕ) (sg : Bool) (tokens : List Token) (f : Fault) → terms_by style room sg tokens ≡ Err f → RefusesTerms style room sg tokens f
unfolding terms_by
terms_refused style zero sg tokens f e = one_too_many (too_many tokens f (err_is (extra_term tokens) f e))
terms_refused style (suc room) sg tokens f e = behind_term style room sg tokens f (λ t joint h. terms_refused style room joint (after t) f h) (bind_err (term_by style sg tokens) _ f e)
  where
    behind_term : (style : Style) (room : ℕ) (sg : Bool) (tokens : List Token) (f : Fault) → ((t : List Token) (joint : Bool) → terms_by style room joint (after t) ≡ Err f → RefusesTerms style room joint (after t) f)
        → (term_by style sg tokens ≡ Err f) ⊎ ((t : ETerm × List Token) × ((term_by style sg tokens ≡ Ok t)
        × (◌≡◌ {A = Read (List ETerm)} (others_by (onward t.1) (λ joint rest. terms_by style room joint (after rest)) t.1 >>= λ others. Ok (t.0 ∷ others.0, others.1)) (Err f))))
        → RefusesTerms style (suc room) sg tokens f
    behind_term style room sg tokens f more (inl h) = in_first (term_refused style sg tokens f h)
    behind_term style room sg tokens f more (inr (t, (read, h))) =
        let others : others_by (onward t.1) (λ joint rest. terms_by style room joint (after rest)) t.1 ≡ Err f =
        ⊎_elim (λ g. g) (λ g. no_err _ f g.1.1) (bind_err (others_by (onward t.1) (λ joint rest. terms_by style room joint (after rest)) t.1) (λ others. Ok (t.0 ∷ others.0, others.1)) f h) in
        others_refused style room sg tokens t (onward t.1) f (term_taken style sg tokens t read) refl (more t.1) others

pub expr_refused : (style : Style) (tokens : List Token) (f : Fault) → expr_by style tokens ≡ Err f → RefusesExpr style tokens f
unfolding expr_by
expr_refused style tokens f e =
    ⊎_elim (λ p. subst (λ (ts : List Token). RefusesExpr style ts f) (sym (stands_is Minus tokens p.0)) (negative_refused (terms_refused style 16 true (after tokens) f p.1)))
    (λ p. unsigned_refused p.0 (terms_refused style 16 false tokens f p.1)) (chosen (stands Minus tokens) (terms_by style 16 true (after tokens)) (terms_by style 16 false tokens) (Err f) e)
