-- An expression that is read is spelled by the tokens in front of what is left.
use Rattle.std.proofs.Common.{◌≡◌, ℕ, zero, suc, ◌≤◌, Bool, true, false, cond, leb, ◌&&◌, ⊎_elim, Option, None, Some, Ok, Err, List, [], ◌∷◌, ◌++◌, length, refl, sym, ap, subst, ◌∙◌, append_assoc, arith}
use Rattle.std.specs.Prelude.{codes, unwrap_or}
use Rattle.std.specs.Str.{bytes_eq}
use Rattle.std.proofs.lemmas.Slice.Eq.{bytes_eq-Decides}
use Rattle.std.proofs.lemmas.Bool.{and_parts, leb-true}
use Rattle.text_lines.specs.Steps.{◌>>=◌}
use Rattle.text_lines.proofs.StepLaws.{bind_ok, ok_is}
use Rattle.source_text.specs.declared.lexemes.Sign.{Sign}
use Rattle.source_text.specs.declared.lexemes.Sign.TheVariants.{Plus, Minus, Times, Dot, At}
use Rattle.source_text.specs.Tokens.{Token, word, number, sign, wrong, after}
use Rattle.weighing.specs.declared.scales.Num.{Num}
use Rattle.condition_syntax.specs.declared.conditions.Style.{Style}
use Rattle.condition_syntax.specs.declared.conditions.Style.TheVariants.{Controller, Question}
use Rattle.condition_syntax.specs.declared.expressions.Name.{Name}
use Rattle.condition_syntax.specs.declared.expressions.ETerm.{ETerm}
use Rattle.condition_syntax.specs.declared.faults.Fault.{Fault}
use Rattle.condition_syntax.specs.declared.faults.Fault.TheVariants.{Number, Term, Count}
use Rattle.condition_syntax.specs.Words.{is_keyword, fraction, signed}
use Rattle.condition_syntax.specs.Fronts.{stands, blame}
use Rattle.condition_syntax.specs.Expressions.{Read, is_within, number_of, word_by, digits_by, found, flow_by, step_by, named_by, name_by, factor_by, single_by, term_by, onward, others_by, terms_by, expr_by}
use Rattle.condition_syntax.specs.Grammar.{IsNumber, IsNameWord, SpellsFlow, no_flow, some_flow, SpellsStep, no_step, some_step, SpellsName, plain, placed, SpellsTerm, constant, multiple, single, joint_of, SpellsTerms, last_term, more_terms, SpellsExpr, unsigned, negative}
use Rattle.condition_syntax.specs.Ends.{Taken, EndsFlow, EndsStep, EndsPlaces, EndsName, EndsTerm, EndsTerms, EndsExpr}
use Rattle.condition_syntax.proofs.FrontLaws.{chosen, guard_ok, stands_is}

-- ---- numbers

pub within_parts : (n d : ℕ) → is_within n d ≡ true → (n ≤ 1000000) × (1 ≤ d) × (d ≤ 1000)
within_parts n d e =
    let a = and_parts (leb n 1000000) (leb 1 d && leb d 1000) e in
    let b = and_parts (leb 1 d) (leb d 1000) a.1 in
    (leb-true n 1000000 a.0, leb-true 1 d b.0, leb-true d 1000 b.1)

pub number_taken : (n : ℕ) (d : Option ℕ) (q : Num) → number_of n d ≡ Ok q → IsNumber n d q
unfolding number_of
number_taken n d q e =
    let g = guard_ok (is_within n (unwrap_or d 1)) (fraction n (unwrap_or d 1)) q Number e in
    let w = within_parts n (unwrap_or d 1) g.0 in
    record { value = sym g.1; num_to = w.0; den_from = w.1; den_to = w.2 }

-- ---- names

pub record WordTaken (tokens : List Token) (x : List ℕ × List Token) : Type 0 where
  pub parts : tokens ≡ word x.0 ∷ x.1
  pub may : IsNameWord x.0

pub word_taken : (tokens : List Token) (x : List ℕ × List Token) → word_by tokens ≡ Ok x → WordTaken tokens x
unfolding word_by
word_taken [] x e = absurd (cc)
word_taken (word w ∷ tokens) x e = by (is_keyword w) refl e
  where
    short : (b : Bool) → leb (length w) 16 ≡ b → is_keyword w ≡ false → cond b (Ok (w, tokens)) (Err Count) ≡ Ok x → WordTaken (word w ∷ tokens) x
    short true le free e = subst (WordTaken (word w ∷ tokens)) (ok_is {E = Fault} (w, tokens) x e) (record { parts = refl; may = record { free = free; short = leb-true _ _ le } })
    short false le free e = absurd (cc)

    by : (b : Bool) → is_keyword w ≡ b → cond b (Err Term) (cond (leb (length w) 16) (Ok (w, tokens)) (Err Count)) ≡ Ok x → WordTaken (word w ∷ tokens) x
    by true k e = absurd (cc)
    by false k e = short (leb (length w) 16) refl k e
word_taken (number n d ∷ tokens) x e = absurd (cc)
word_taken (sign s ∷ tokens) x e = absurd (cc)
word_taken (wrong ∷ tokens) x e = absurd (cc)

digits_taken : (tokens : List Token) (x : ℕ × List Token) → digits_by tokens ≡ Ok x → tokens ≡ number x.0 None ∷ x.1
unfolding digits_by
digits_taken [] x e = absurd (cc)
digits_taken (word w ∷ tokens) x e = absurd (cc)
digits_taken (number n None ∷ tokens) x e = cc
digits_taken (number n (Some d) ∷ tokens) x e = absurd (cc)
digits_taken (sign s ∷ tokens) x e = absurd (cc)
digits_taken (wrong ∷ tokens) x e = absurd (cc)

-- digits behind a sign
record MarkTaken (s : Sign) (tokens : List Token) (x : Option ℕ × List Token) : Type 0 where
  n : ℕ
  rest : List Token
  value : (Some n, rest) ≡ x
  parts : tokens ≡ sign s ∷ number n None ∷ rest

mark_taken : (s : Sign) (tokens : List Token) (x : Option ℕ × List Token) → stands s tokens ≡ true → found (digits_by (after tokens)) ≡ Ok x → MarkTaken s tokens x
mark_taken s tokens x here e =
    let a = bind_ok (digits_by (after tokens)) (λ n. Ok (Some n.0, n.1)) x e in
    record {
      n = a.0.0;
      rest = a.0.1;
      value = ok_is {E = Fault} (Some a.0.0, a.0.1) x a.2;
      parts = stands_is s tokens here ∙ ap (λ (ts : List Token). sign s ∷ ts) (digits_taken (after tokens) a.0 a.1);
    }

pub flow_taken : (tokens : List Token) (x : Option ℕ × List Token) → flow_by tokens ≡ Ok x → Taken SpellsFlow EndsFlow tokens x
unfolding flow_by
flow_taken tokens x e = ⊎_elim marked bare (chosen (stands Dot tokens) (found (digits_by (after tokens))) (Ok (None, tokens)) (Ok x) e)
  where
    marked : (stands Dot tokens ≡ true) × (found (digits_by (after tokens)) ≡ Ok x) → Taken SpellsFlow EndsFlow tokens x
    marked p =
        let m = mark_taken Dot tokens x p.0 p.1 in
        subst (Taken SpellsFlow EndsFlow tokens) m.value (record { front = sign Dot ∷ number m.n None ∷ []; parts = m.parts; spelled = some_flow m.n; ends = tt })

    bare : (stands Dot tokens ≡ false) × (◌≡◌ {A = Read (Option ℕ)} (Ok (None, tokens)) (Ok x)) → Taken SpellsFlow EndsFlow tokens x
    bare p = subst (Taken SpellsFlow EndsFlow tokens) (ok_is {E = Fault} (None, tokens) x p.1) (record { front = []; parts = refl; spelled = no_flow; ends = p.0 })

pub step_taken : (w : List ℕ) (tokens : List Token) (x : Option ℕ × List Token) → step_by w tokens ≡ Ok x → Taken (SpellsStep w) (EndsStep w) tokens x
unfolding step_by
step_taken w tokens x e = ⊎_elim marked bare (chosen (stands At tokens) (found (digits_by (after tokens))) (cond (bytes_eq w (codes "credit")) (Ok (None, tokens)) (Err (blame Term tokens))) (Ok x) e)
  where
    marked : (stands At tokens ≡ true) × (found (digits_by (after tokens)) ≡ Ok x) → Taken (SpellsStep w) (EndsStep w) tokens x
    marked p =
        let m = mark_taken At tokens x p.0 p.1 in
        subst (Taken (SpellsStep w) (EndsStep w) tokens) m.value (record { front = sign At ∷ number m.n None ∷ []; parts = m.parts; spelled = some_step m.n; ends = tt })

    bare : (stands At tokens ≡ false) × (cond (bytes_eq w (codes "credit")) (Ok (None, tokens)) (Err (blame Term tokens)) ≡ Ok x) → Taken (SpellsStep w) (EndsStep w) tokens x
    bare p =
        let g = guard_ok (bytes_eq w (codes "credit")) (None, tokens) x (blame Term tokens) p.1 in
        subst (Taken (SpellsStep w) (EndsStep w) tokens) g.1 (record { front = []; parts = refl; spelled = no_step ((bytes_eq-Decides w (codes "credit")).0 g.0); ends = p.0 })

places_end : {w : List ℕ} {fs ss : List Token} {f s : Option ℕ} (middle left : List Token) (flow : SpellsFlow fs f) (step : SpellsStep w ss s) → middle ≡ ss ++ left → EndsFlow fs f flow middle → EndsStep w ss s step left
    → EndsPlaces fs f w ss s flow step left
places_end {fs = fs} {f = f} middle left flow (no_step is) parts behind_flow behind_step = (subst (EndsFlow fs f flow) parts behind_flow, behind_step)
places_end middle left flow (some_step n) parts behind_flow behind_step = tt

-- the name that begins with this word
named_taken : (style : Style) (w : List ℕ) (tokens : List Token) (x : Name × List Token) → IsNameWord w → named_by style w tokens ≡ Ok x → Taken (SpellsName style) (EndsName style) (word w ∷ tokens) x
unfolding named_by
named_taken Controller w tokens x may e =
    subst (Taken (SpellsName Controller) (EndsName Controller) (word w ∷ tokens)) (ok_is {E = Fault} (record { text = w; flow = None; step = None }, tokens) x e)
    (record { front = word w ∷ []; parts = refl; spelled = plain may; ends = tt })
named_taken Question w tokens x may e =
    let a = bind_ok (flow_by tokens) _ x e in
    let b = bind_ok (step_by w a.0.1) _ x a.2 in
    let flow = flow_taken tokens a.0 a.1 in
    let step = step_taken w a.0.1 b.0 b.1 in
    let made : Name = record { text = w; flow = a.0.0; step = b.0.0 } in
    subst (Taken (SpellsName Question) (EndsName Question) (word w ∷ tokens)) (ok_is {E = Fault} (made, b.0.1) x b.2) (record {
      front = word w ∷ flow.front ++ step.front;
      parts = ap (λ (ts : List Token). word w ∷ ts) (flow.parts ∙ ap (λ (ts : List Token). flow.front ++ ts) step.parts ∙ sym (append_assoc flow.front step.front b.0.1));
      spelled = placed may flow.spelled step.spelled;
      ends = places_end a.0.1 b.0.1 flow.spelled step.spelled step.parts flow.ends step.ends;
    })

pub name_taken : (style : Style) (tokens : List Token) (x : Name × List Token) → name_by style tokens ≡ Ok x → Taken (SpellsName style) (EndsName style) tokens x
unfolding name_by
name_taken style tokens x e =
    let a = bind_ok (word_by tokens) _ x e in
    let w = word_taken tokens a.0 a.1 in
    subst (λ (ts : List Token). Taken (SpellsName style) (EndsName style) ts x) (sym w.parts) (named_taken style a.0.0 a.0.1 x w.may a.2)

-- ---- terms

factor_taken : (style : Style) (sg : Bool) (n : ℕ) (d : Option ℕ) (q : Num) (tokens : List Token) (x : ETerm × List Token) → IsNumber n d q
    → factor_by style (signed sg q) tokens ≡ Ok x → Taken (SpellsTerm style sg) (EndsTerm style sg) (number n d ∷ tokens) x
unfolding factor_by
factor_taken style sg n d q tokens x is e =
    ⊎_elim times alone (chosen (stands Times tokens) (name_by style (after tokens) >>= λ name. Ok (record { coef = signed sg q; name = Some name.0 }, name.1)) (Ok (record { coef = signed sg q; name = None }, tokens)) (Ok x) e)
  where
    times : (stands Times tokens ≡ true) × ((name_by style (after tokens) >>= λ name. Ok (record { coef = signed sg q; name = Some name.0 }, name.1)) ≡ Ok x) → Taken (SpellsTerm style sg) (EndsTerm style sg) (number n d ∷ tokens) x
    times p =
        let a = bind_ok (name_by style (after tokens)) _ x p.1 in
        let name = name_taken style (after tokens) a.0 a.1 in
        let made : ETerm = record { coef = signed sg q; name = Some a.0.0 } in
        subst (Taken (SpellsTerm style sg) (EndsTerm style sg) (number n d ∷ tokens)) (ok_is {E = Fault} (made, a.0.1) x a.2) (record {
          front = number n d ∷ sign Times ∷ name.front;
          parts = ap (λ (ts : List Token). number n d ∷ ts) (stands_is Times tokens p.0 ∙ ap (λ (ts : List Token). sign Times ∷ ts) name.parts);
          spelled = multiple is name.spelled;
          ends = name.ends;
        })

    alone : (stands Times tokens ≡ false) × (◌≡◌ {A = Read ETerm} (Ok (record { coef = signed sg q; name = None }, tokens)) (Ok x)) → Taken (SpellsTerm style sg) (EndsTerm style sg) (number n d ∷ tokens) x
    alone p =
        let made : ETerm = record { coef = signed sg q; name = None } in
        subst (Taken (SpellsTerm style sg) (EndsTerm style sg) (number n d ∷ tokens)) (ok_is {E = Fault} (made, tokens) x p.1) (record { front = number n d ∷ []; parts = refl; spelled = constant is; ends = p.0 })

single_taken : (style : Style) (sg : Bool) (tokens : List Token) (x : ETerm × List Token) → single_by style sg tokens ≡ Ok x → Taken (SpellsTerm style sg) (EndsTerm style sg) tokens x
unfolding single_by
single_taken style sg tokens x e =
    let a = bind_ok (name_by style tokens) _ x e in
    let name = name_taken style tokens a.0 a.1 in
    let made : ETerm = record { coef = signed sg (fraction 1 1); name = Some a.0.0 } in
    subst (Taken (SpellsTerm style sg) (EndsTerm style sg) tokens) (ok_is {E = Fault} (made, a.0.1) x a.2) (record { front = name.front; parts = name.parts; spelled = single name.spelled; ends = name.ends })

pub term_taken : (style : Style) (sg : Bool) (tokens : List Token) (x : ETerm × List Token) → term_by style sg tokens ≡ Ok x → Taken (SpellsTerm style sg) (EndsTerm style sg) tokens x
unfolding term_by
term_taken style sg [] x e = single_taken style sg [] x e
term_taken style sg (word w ∷ tokens) x e = single_taken style sg (word w ∷ tokens) x e
term_taken style sg (number n d ∷ tokens) x e =
    let a = bind_ok (number_of n d) _ x e in
    factor_taken style sg n d a.0 tokens x (number_taken n d a.0 a.1) a.2
term_taken style sg (sign s ∷ tokens) x e = single_taken style sg (sign s ∷ tokens) x e
term_taken style sg (wrong ∷ tokens) x e = single_taken style sg (wrong ∷ tokens) x e

-- ---- expressions

-- terms of which there are at most so many
pub record TermsTaken (style : Style) (room : ℕ) (sg : Bool) (tokens : List Token) (x : List ETerm × List Token) : Type 0 where
  pub taken : Taken (SpellsTerms style sg) (EndsTerms style sg) tokens x
  pub few : length x.0 ≤ room

-- the sign with which an expression goes on is the first token
pub onward_is : (tokens : List Token) (next : Bool) → onward tokens ≡ Some next → tokens ≡ joint_of next ∷ after tokens
unfolding onward
onward_is tokens next e = ⊎_elim plus other (chosen (stands Plus tokens) (Some false) (cond (stands Minus tokens) (Some true) None) (Some next) e)
  where
    by : (b : Bool) → Some b ≡ Some next → tokens ≡ joint_of b ∷ after tokens → tokens ≡ joint_of next ∷ after tokens
    by b e h = subst (λ (c : Bool). tokens ≡ joint_of c ∷ after tokens) (cc) h

    plus : (stands Plus tokens ≡ true) × (Some false ≡ Some next) → tokens ≡ joint_of next ∷ after tokens
    plus p = by false p.1 (stands_is Plus tokens p.0)

    minus : (stands Minus tokens ≡ true) × (Some true ≡ Some next) → tokens ≡ joint_of next ∷ after tokens
    minus p = by true p.1 (stands_is Minus tokens p.0)

    neither : (stands Minus tokens ≡ false) × (None ≡ Some next) → tokens ≡ joint_of next ∷ after tokens
    neither p = absurd (let h = p.1 in cc)

    other : (stands Plus tokens ≡ false) × (cond (stands Minus tokens) (Some true) None ≡ Some next) → tokens ≡ joint_of next ∷ after tokens
    other p = ⊎_elim minus neither (chosen (stands Minus tokens) (Some true) None (Some next) p.1)

-- an expression doesn't go on
none_onward : (tokens : List Token) → onward tokens ≡ None → (stands Plus tokens ≡ false) × (stands Minus tokens ≡ false)
unfolding onward
none_onward tokens e = by (stands Plus tokens) (stands Minus tokens) refl refl e
  where
    by : (p m : Bool) → stands Plus tokens ≡ p → stands Minus tokens ≡ m → cond p (Some false) (cond m (Some true) None) ≡ None → (stands Plus tokens ≡ false) × (stands Minus tokens ≡ false)
    by true m a b e = absurd (cc)
    by false true a b e = absurd (cc)
    by false false a b e = (a, b)

-- behind a term that was taken
others_taken : (style : Style) (room : ℕ) (sg : Bool) (tokens : List Token) (t : ETerm × List Token) (o : List ETerm × List Token) (next : Option Bool)
    → ((joint : Bool) (x : List ETerm × List Token) → terms_by style room joint (after t.1) ≡ Ok x → TermsTaken style room joint (after t.1) x)
    → Taken (SpellsTerm style sg) (EndsTerm style sg) tokens t → onward t.1 ≡ next
    → others_by next (λ joint rest. terms_by style room joint (after rest)) t.1 ≡ Ok o → TermsTaken style (suc room) sg tokens (t.0 ∷ o.0, o.1)
others_taken style room sg tokens t o None others first n e =
    subst (λ (p : List ETerm × List Token). TermsTaken style (suc room) sg tokens (t.0 ∷ p.0, p.1)) (ok_is {E = Fault} ([], t.1) o e)
    (record { taken = record { front = first.front; parts = first.parts; spelled = last_term first.spelled; ends = (first.ends, (none_onward t.1 n).0, (none_onward t.1 n).1) }; few = omega arith })
others_taken style room sg tokens t o (Some next) others first n e =
    let rest = others next o e in
    record {
      taken = record {
        front = first.front ++ joint_of next ∷ rest.taken.front;
        parts = first.parts ∙ ap (λ (ts : List Token). first.front ++ ts) (onward_is t.1 next n ∙ ap (λ (ts : List Token). joint_of next ∷ ts) rest.taken.parts)
            ∙ sym (append_assoc first.front (joint_of next ∷ rest.taken.front) o.1);
        spelled = more_terms first.spelled rest.taken.spelled;
        ends = rest.taken.ends;
      };
      few = omega (arith, rest.few);
    }

pub terms_taken : (style : Style) (room : ℕ) (sg : Bool) (tokens : List Token) (x : List ETerm × List Token) → terms_by style room sg tokens ≡ Ok x → TermsTaken style room sg tokens x
unfolding terms_by
terms_taken style zero sg tokens x e = absurd (cc)
terms_taken style (suc room) sg tokens x e =
    let a = bind_ok (term_by style sg tokens) _ x e in
    let read : Bool → List Token → Read (List ETerm) = λ joint rest. terms_by style room joint (after rest) in
    let b = bind_ok (others_by (onward a.0.1) read a.0.1) _ x a.2 in
    let made : List ETerm = a.0.0 ∷ b.0.0 in
    subst (TermsTaken style (suc room) sg tokens) (ok_is {E = Fault} (made, b.0.1) x b.2)
    (others_taken style room sg tokens a.0 b.0 (onward a.0.1) (λ joint y h. terms_taken style room joint (after a.0.1) y h) (term_taken style sg tokens a.0 a.1) refl b.1)

pub expr_taken : (style : Style) (tokens : List Token) (x : List ETerm × List Token) → expr_by style tokens ≡ Ok x → Taken (SpellsExpr style) (EndsExpr style) tokens x
unfolding expr_by
expr_taken style tokens x e = ⊎_elim minus plus (chosen (stands Minus tokens) (terms_by style 16 true (after tokens)) (terms_by style 16 false tokens) (Ok x) e)
  where
    minus : (stands Minus tokens ≡ true) × (terms_by style 16 true (after tokens) ≡ Ok x) → Taken (SpellsExpr style) (EndsExpr style) tokens x
    minus p =
        let t = terms_taken style 16 true (after tokens) x p.1 in
        record { front = sign Minus ∷ t.taken.front; parts = stands_is Minus tokens p.0 ∙ ap (λ (ts : List Token). sign Minus ∷ ts) t.taken.parts; spelled = negative t.taken.spelled t.few; ends = t.taken.ends }

    plus : (stands Minus tokens ≡ false) × (terms_by style 16 false tokens ≡ Ok x) → Taken (SpellsExpr style) (EndsExpr style) tokens x
    plus p =
        let t = terms_taken style 16 false tokens x p.1 in
        record { front = t.taken.front; parts = t.taken.parts; spelled = unsigned t.taken.spelled t.few; ends = t.taken.ends }
