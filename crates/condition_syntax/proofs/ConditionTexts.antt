-- The canonical text of a condition that can be read is read again as the condition, and nests no deeper.
use Rattle.std.proofs.Common.{◌≡◌, ℕ, zero, suc, Bool, true, false, Some, Ok, List, [], ◌∷◌, ◌++◌, refl, sym, ap, subst, ◌∙◌, append_assoc}
use Rattle.std.specs.Prelude.{codes, ◌||◌}
use Rattle.std.proofs.lemmas.List.{append-nil}
use Rattle.source_text.specs.declared.lexemes.Sign.{Sign}
use Rattle.source_text.specs.declared.lexemes.Sign.TheVariants as signs
use Rattle.source_text.specs.Tokens.{Token, word, number, sign}
use Rattle.source_text.specs.Spelling.{is_word}
use Rattle.source_text.specs.Printed.{AreFromLine}
use Rattle.weighing.specs.declared.weighings.Rel5.{Rel5}
use Rattle.weighing.specs.declared.weighings.Rel5.TheVariants.{AtMost, Below, AtLeast, Above, Equal}
use Rattle.condition_syntax.specs.declared.conditions.Style.{Style}
use Rattle.condition_syntax.specs.Trees.{Condition, opposite, conjunction, disjunction, conjoined, disjoined}
use Rattle.condition_syntax.specs.Words.{rel_of}
use Rattle.condition_syntax.specs.Grammar.{Joined, one, more, SpellsSimple, truth, falsity, test, compared, SpellsOpened, simple, negated, bracketed, Nothing, SpellsConjunction, SpellsJoined, SpellsPart, SpellsCond}
use Rattle.condition_syntax.specs.CanonicalText.{number_text, expr_text, rel_text, is_conjunction, is_disjunction, bracketed_if, condition_text}
use Rattle.condition_syntax.specs.CanonicalTokens.{Shows, Prints, EndsToken}
use Rattle.condition_syntax.proofs.TextShows.{shows_word, shows_space, shows_then, shows_spaced, shows_word_then, shows_sign_then, shows_sign_tight, shows_closed, from_line_parts}
use Rattle.condition_syntax.proofs.TextLaws.{is_conjunction-conjunction, is_disjunction-conjunction, is_disjunction-disjunction, and_part, or_part, listed, text-conjunction, text-disjunction}
use Rattle.condition_syntax.specs.Conditions.{condition_by}
use Rattle.source_text.specs.Cutting.{tokens}
use Rattle.condition_syntax.proofs.EndLaws.{condition_ends, end_stops}
use Rattle.condition_syntax.proofs.ConditionsAgain.{condition_again}
use Rattle.condition_syntax.proofs.ExpressionTexts.{number_prints, expr_prints, shown_alone}

-- ---- more room

joined_by_more : {X : Type 0} {P Q : List Token → X → Type 0} {joint : Token} {front : List Token} {xs : List X} → ((f : List Token) (x : X) → P f x → Q f x) → Joined P joint front xs → Joined Q joint front xs
joined_by_more goes (one {front = front} {x = x} p) = one (goes front x p)
joined_by_more goes (more {front = front} {x = x} p others) = more (goes front x p) (joined_by_more goes others)

conjunction_by_more : (P Q : List Token → Condition → Type 0) (front : List Token) (c : Condition) → ((f : List Token) (x : Condition) → P f x → Q f x) → SpellsConjunction P front c → SpellsConjunction Q front c
conjunction_by_more P Q front c goes (cs, (spelled, is)) = (cs, (joined_by_more goes spelled, is))

whole_by_more : (P Q : List Token → Condition → Type 0) (front : List Token) (c : Condition) → ((f : List Token) (x : Condition) → P f x → Q f x) → SpellsJoined P front c → SpellsJoined Q front c
whole_by_more P Q front c goes (cs, (spelled, is)) = (cs, (joined_by_more (λ f x. conjunction_by_more P Q f x goes) spelled, is))

opened_by_more : {style : Style} {P Q R S : List Token → Condition → Type 0} {front : List Token} {c : Condition} → ((f : List Token) (x : Condition) → P f x → Q f x) → ((f : List Token) (x : Condition) → R f x → S f x)
    → SpellsOpened style P R front c → SpellsOpened style Q S front c
opened_by_more part whole (simple s) = simple s
opened_by_more part whole (negated {front = front} {c = c} p) = negated (part front c p)
opened_by_more part whole (bracketed {front = front} {c = c} w) = bracketed (whole front c w)

pub part_by_more : (style : Style) (room : ℕ) (front : List Token) (c : Condition) → SpellsPart style room front c → SpellsPart style (suc room) front c
unfolding SpellsPart
part_by_more style zero front c spelled = opened_by_more (λ f x h. absurd h) (λ f x h. absurd h) spelled
part_by_more style (suc room) front c spelled =
    opened_by_more (part_by_more style room) (λ f x. whole_by_more (SpellsPart style room) (SpellsPart style (suc room)) f x (part_by_more style room)) spelled

-- ---- what prints

abbrev pub Part : Style → ℕ → List Token → Condition → Type 0
Part style room = SpellsPart style room

abbrev pub Conj : Style → ℕ → List Token → Condition → Type 0
Conj style room = SpellsConjunction (SpellsPart style room)

abbrev pub Whole : Style → ℕ → List Token → Condition → Type 0
Whole style room = SpellsJoined (SpellsPart style room)

as_conj : (style : Style) (room : ℕ) {text : List ℕ} {c : Condition} → Prints (Part style room) text c → Prints (Conj style room) text c
as_conj style room {c = c} p = record { front = p.front; spelled = (c ∷ [], (one p.spelled, refl)); shows = p.shows }

as_whole : (style : Style) (room : ℕ) {text : List ℕ} {c : Condition} → Prints (Conj style room) text c → Prints (Whole style room) text c
as_whole style room {c = c} p = record { front = p.front; spelled = (c ∷ [], (one p.spelled, refl)); shows = p.shows }

part_more : (style : Style) (room : ℕ) {text : List ℕ} {c : Condition} → Prints (Part style room) text c → Prints (Part style (suc room)) text c
part_more style room {text} {c} p = record { front = p.front; spelled = part_by_more style room p.front c p.spelled; shows = p.shows }

conj_more : (style : Style) (room : ℕ) {text : List ℕ} {c : Condition} → Prints (Conj style room) text c → Prints (Conj style (suc room)) text c
conj_more style room {text} {c} p = record { front = p.front; spelled = conjunction_by_more (SpellsPart style room) (SpellsPart style (suc room)) p.front c (part_by_more style room) p.spelled; shows = p.shows }

whole_more : (style : Style) (room : ℕ) {text : List ℕ} {c : Condition} → Prints (Whole style room) text c → Prints (Whole style (suc room)) text c
whole_more style room {text} {c} p = record { front = p.front; spelled = whole_by_more (SpellsPart style room) (SpellsPart style (suc room)) p.front c (part_by_more style room) p.spelled; shows = p.shows }

-- brackets round a condition make a part of it, which needs more room
within_brackets : (style : Style) (room : ℕ) (text : List ℕ) (c : Condition) → Prints (Whole style room) text c → Prints (Part style (suc room)) (codes "(" ++ (text ++ codes ")")) c
unfolding SpellsPart
within_brackets style room text c p = record {
  front = sign signs.Open ∷ p.front ++ sign signs.Close ∷ [];
  spelled = bracketed p.spelled;
  shows = shows_sign_tight signs.Open (text ++ codes ")") (p.front ++ sign signs.Close ∷ []) refl (shows_closed text p.front p.shows);
}

-- a part prints where a part, a conjunction and a condition may stand
record PartPrints (style : Style) (room : ℕ) (c : Condition) : Type 0 where
  part : Prints (Part style room) (and_part c) c
  conj : Prints (Conj style room) (or_part c) c
  whole : Prints (Whole style room) (condition_text c) c

-- a conjunction prints where a conjunction and a condition may stand, and if it is none but a part alone, as a part
record ConjPrints (style : Style) (room : ℕ) (c : Condition) : Type 0 where
  part : is_conjunction c ≡ false → is_disjunction c ≡ false → Prints (Part style room) (condition_text c) c
  conj : Prints (Conj style room) (or_part c) c
  whole : Prints (Whole style room) (condition_text c) c

record WholePrints (style : Style) (room : ℕ) (c : Condition) : Type 0 where
  part : is_conjunction c ≡ false → is_disjunction c ≡ false → Prints (Part style room) (condition_text c) c
  conj : is_disjunction c ≡ false → Prints (Conj style room) (condition_text c) c
  whole : Prints (Whole style room) (condition_text c) c

no_brackets : (c : Condition) → is_conjunction c ≡ false → is_disjunction c ≡ false → and_part c ≡ condition_text c
no_brackets c p q = ap (λ b. bracketed_if (b || is_disjunction c) (condition_text c)) p ∙ ap (λ b. bracketed_if b (condition_text c)) q

or_brackets : (c : Condition) → is_disjunction c ≡ false → or_part c ≡ condition_text c
or_brackets c q = ap (λ b. bracketed_if b (condition_text c)) q

-- a part that is no And and no Or
plain_prints : (style : Style) (room : ℕ) (c : Condition) → is_conjunction c ≡ false → is_disjunction c ≡ false → Prints (Part style room) (condition_text c) c → PartPrints style room c
plain_prints style room c p q prints = record {
  part = subst (λ (text : List ℕ). Prints (Part style room) text c) (sym (no_brackets c p q)) prints;
  conj = subst (λ (text : List ℕ). Prints (Conj style room) text c) (sym (or_brackets c q)) (as_conj style room prints);
  whole = as_whole style room (as_conj style room prints);
}

-- ---- chains

-- the parts, each of which prints so
data EachPrints (P : List Token → Condition → Type 0) (text : Condition → List ℕ) : List Condition → Type 0 where
  last_one : {c : Condition} → Prints P (text c) c → EachPrints P text (c ∷ [])
  one_more : {c : Condition} {cs : List Condition} → Prints P (text c) c → EachPrints P text cs → EachPrints P text (c ∷ cs)

record ChainPrints (P : List Token → Condition → Type 0) (joint : List ℕ) (text : List ℕ) (cs : List Condition) : Type 0 where
  front : List Token
  spelled : Joined P (word joint) front cs
  shows : Shows text front

chain_prints : {P : List Token → Condition → Type 0} {part : Condition → List ℕ} {cs : List Condition} (joint : List ℕ) → is_word joint ≡ true → EachPrints P part cs
    → ChainPrints P joint (listed [] (32 ∷ joint ++ 32 ∷ []) part cs) cs
chain_prints {P} {part} joint is (last_one {c = c} p) = record { front = p.front; spelled = one p.spelled; shows = subst (λ (text : List ℕ). Shows text p.front) (sym (append-nil (part c))) p.shows }
chain_prints {P} {part} joint is (one_more {c = c} {cs = d ∷ cs} p others) = more_prints (chain_prints joint is others)
  where
    more_prints : ChainPrints P joint (listed [] (32 ∷ joint ++ 32 ∷ []) part (d ∷ cs)) (d ∷ cs) → ChainPrints P joint (listed [] (32 ∷ joint ++ 32 ∷ []) part (c ∷ d ∷ cs)) (c ∷ d ∷ cs)
    more_prints q =
        let text : List ℕ = part d ++ listed (32 ∷ joint ++ 32 ∷ []) (32 ∷ joint ++ 32 ∷ []) part cs in
        let grouped : part c ++ 32 ∷ (joint ++ 32 ∷ text) ≡ part c ++ ((32 ∷ joint ++ 32 ∷ []) ++ text) = ap (λ (bs : List ℕ). part c ++ 32 ∷ bs) (sym (append_assoc joint (32 ∷ []) text)) in
        record {
          front = p.front ++ word joint ∷ q.front;
          spelled = more p.spelled q.spelled;
          shows = subst (λ (bs : List ℕ). Shows bs (p.front ++ word joint ∷ q.front)) grouped (shows_spaced (part c) (joint ++ 32 ∷ text) p.front (word joint ∷ q.front) p.shows (shows_word_then joint text q.front is q.shows));
        }
chain_prints joint is (one_more {cs = []} p others) = elim others [ ]

each_prints : {P Q : List Token → Condition → Type 0} {text : Condition → List ℕ} {joint : Token} {front : List Token} {cs : List Condition}
    → ((f : List Token) (c : Condition) → P f c → AreFromLine f → Prints Q (text c) c) → Joined P joint front cs → AreFromLine front → EachPrints Q text cs
each_prints prints (one {front = front} {x = c} p) from = last_one (prints front c p from)
each_prints {joint = joint} prints (more {front = front} {rest = rest} {x = c} p others) from =
    let parts = from_line_parts front (joint ∷ rest) from in
    one_more (prints front c p parts.0) (each_prints prints others parts.1.1)

-- ---- conjunctions and conditions

conjunction_prints : (style : Style) (room : ℕ) (c d : Condition) (cs : List Condition) → EachPrints (Part style room) and_part (c ∷ d ∷ cs) → ConjPrints style room (conjunction (c ∷ d ∷ cs))
conjunction_prints style room c d cs each =
    let chain = chain_prints (codes "and") refl each in
    let whole : Condition = conjunction (c ∷ d ∷ cs) in
    let prints : Prints (Conj style room) (condition_text whole) whole =
    record { front = chain.front; spelled = (c ∷ d ∷ cs, (chain.spelled, refl)); shows = subst (λ (text : List ℕ). Shows text chain.front) (sym (text-conjunction (c ∷ d ∷ cs))) chain.shows } in
    record {
      part = λ p q. absurd (let h = sym (is_conjunction-conjunction (c ∷ d ∷ cs)) ∙ p in cc);
      conj = subst (λ (text : List ℕ). Prints (Conj style room) text whole) (sym (or_brackets whole (is_disjunction-conjunction (c ∷ d ∷ cs)))) prints;
      whole = as_whole style room prints;
    }

disjunction_prints : (style : Style) (room : ℕ) (c d : Condition) (cs : List Condition) → EachPrints (Conj style room) or_part (c ∷ d ∷ cs) → WholePrints style room (disjunction (c ∷ d ∷ cs))
disjunction_prints style room c d cs each =
    let chain = chain_prints (codes "or") refl each in
    let whole : Condition = disjunction (c ∷ d ∷ cs) in
    record {
      part = λ p q. absurd (let h = sym (is_disjunction-disjunction (c ∷ d ∷ cs)) ∙ q in cc);
      conj = λ q. absurd (let h = sym (is_disjunction-disjunction (c ∷ d ∷ cs)) ∙ q in cc);
      whole = record { front = chain.front; spelled = (c ∷ d ∷ cs, (chain.spelled, refl)); shows = subst (λ (text : List ℕ). Shows text chain.front) (sym (text-disjunction (c ∷ d ∷ cs))) chain.shows };
    }

-- one part alone
part_alone : (style : Style) (room : ℕ) (c : Condition) → PartPrints style room c → ConjPrints style room c
part_alone style room c p = record {
  part = λ a b. subst (λ (text : List ℕ). Prints (Part style room) text c) (no_brackets c a b) p.part;
  conj = p.conj;
  whole = p.whole;
}

conj_alone : (style : Style) (room : ℕ) (c : Condition) → ConjPrints style room c → WholePrints style room c
conj_alone style room c p = record {
  part = p.part;
  conj = λ b. subst (λ (text : List ℕ). Prints (Conj style room) text c) (or_brackets c b) p.conj;
  whole = p.whole;
}

module _ (style : Style) (room : ℕ) (parts_print : (front : List Token) (c : Condition) → SpellsPart style room front c → AreFromLine front → PartPrints style room c) where
  conjuncts_print : {front : List Token} {cs : List Condition} → Joined (SpellsPart style room) (word (codes "and")) front cs → AreFromLine front → ConjPrints style room (conjoined cs)
  conjuncts_print (one {front = front} {x = c} p) from = part_alone style room c (parts_print front c p from)
  conjuncts_print (more {front = front} {rest = rest} {x = c} {xs = d ∷ cs} p others) from =
      let parts = from_line_parts front (word (codes "and") ∷ rest) from in
      conjunction_prints style room c d cs (one_more (parts_print front c p parts.0).part (each_prints (λ f x h g. (parts_print f x h g).part) others parts.1.1))
  conjuncts_print (more {xs = []} p others) from = elim others [ ]

  conj_prints : (front : List Token) (c : Condition) → Conj style room front c → AreFromLine front → ConjPrints style room c
  conj_prints front c (cs, (spelled, is)) from = subst (ConjPrints style room) (sym is) (conjuncts_print spelled from)

  disjuncts_print : {front : List Token} {cs : List Condition} → Joined (Conj style room) (word (codes "or")) front cs → AreFromLine front → WholePrints style room (disjoined cs)
  disjuncts_print (one {front = front} {x = c} p) from = conj_alone style room c (conj_prints front c p from)
  disjuncts_print (more {front = front} {rest = rest} {x = c} {xs = d ∷ cs} p others) from =
      let parts = from_line_parts front (word (codes "or") ∷ rest) from in
      disjunction_prints style room c d cs (one_more (conj_prints front c p parts.0).conj (each_prints (λ f x h g. (conj_prints f x h g).conj) others parts.1.1))
  disjuncts_print (more {xs = []} p others) from = elim others [ ]

  whole_prints : (front : List Token) (c : Condition) → Whole style room front c → AreFromLine front → WholePrints style room c
  whole_prints front c (cs, (spelled, is)) from = subst (WholePrints style room) (sym is) (disjuncts_print spelled from)

-- ---- parts

-- a relation's text
record RelPrints (rel : Rel5) : Type 0 where
  by : Sign
  is : rel_of by ≡ Some rel
  shows : (text : List ℕ) (front : List Token) → Shows text front → Shows (rel_text rel ++ text) (sign by ∷ front)
  apart : (text rest : List ℕ) → EndsToken ((rel_text rel ++ text) ++ rest)

rel_prints : (rel : Rel5) → RelPrints rel
rel_prints AtMost = record { by = signs.AtMost; is = refl; shows = λ text front h. shows_space (60 ∷ 61 ∷ 32 ∷ text) (sign signs.AtMost ∷ front) (shows_sign_then signs.AtMost text front h); apart = λ text rest. refl }
rel_prints Below = record { by = signs.Below; is = refl; shows = λ text front h. shows_space (60 ∷ 32 ∷ text) (sign signs.Below ∷ front) (shows_sign_then signs.Below text front h); apart = λ text rest. refl }
rel_prints AtLeast = record { by = signs.AtLeast; is = refl; shows = λ text front h. shows_space (62 ∷ 61 ∷ 32 ∷ text) (sign signs.AtLeast ∷ front) (shows_sign_then signs.AtLeast text front h); apart = λ text rest. refl }
rel_prints Above = record { by = signs.Above; is = refl; shows = λ text front h. shows_space (62 ∷ 32 ∷ text) (sign signs.Above ∷ front) (shows_sign_then signs.Above text front h); apart = λ text rest. refl }
rel_prints Equal = record { by = signs.Equal; is = refl; shows = λ text front h. shows_space (61 ∷ 61 ∷ 32 ∷ text) (sign signs.Equal ∷ front) (shows_sign_then signs.Equal text front h); apart = λ text rest. refl }

simple_prints : {style : Style} {front : List Token} {c : Condition} → SpellsSimple style front c → AreFromLine front → Prints (SpellsSimple style) (condition_text c) c
unfolding condition_text
simple_prints truth from = record { front = word (codes "true") ∷ []; spelled = truth; shows = shows_word (codes "true") refl }
simple_prints falsity from = record { front = word (codes "false") ∷ []; spelled = falsity; shows = shows_word (codes "false") refl }
simple_prints (test {n = n} {d = d} {q = q} is) from =
    let p = number_prints false n d q is in
    record {
      front = word (codes "delay") ∷ sign signs.AtLeast ∷ number p.n p.d ∷ [];
      spelled = test p.is;
      shows = shows_word_then (codes "delay") (62 ∷ 61 ∷ 32 ∷ number_text q) (sign signs.AtLeast ∷ number p.n p.d ∷ []) refl (shows_sign_then signs.AtLeast (number_text q) (number p.n p.d ∷ []) p.shows);
    }
simple_prints (compared {l = l} {r = r} {left = left} {right = right} {rel = rel} s spelled_left is spelled_right) from =
    let parts = from_line_parts l (sign s ∷ r) from in
    let a = expr_prints spelled_left parts.0 in
    let b = expr_prints spelled_right parts.1.1 in
    let middle = rel_prints rel in
    record {
      front = a.front ++ sign middle.by ∷ b.front;
      spelled = compared middle.by a.spelled middle.is b.spelled;
      shows = shows_then (expr_text left) (rel_text rel ++ expr_text right) a.front (sign middle.by ∷ b.front) a.shows (middle.shows (expr_text right) b.front b.shows) (middle.apart (expr_text right));
    }

simple_alone : {style : Style} {front : List Token} {c : Condition} → SpellsSimple style front c → (is_conjunction c ≡ false) × (is_disjunction c ≡ false)
unfolding is_conjunction is_disjunction
simple_alone truth = (refl, refl)
simple_alone falsity = (refl, refl)
simple_alone (test is) = (refl, refl)
simple_alone (compared s l is r) = (refl, refl)

opposite_alone : (c : Condition) → (is_conjunction (opposite c) ≡ false) × (is_disjunction (opposite c) ≡ false)
unfolding is_conjunction is_disjunction
opposite_alone c = (refl, refl)

part_simply : (style : Style) (room : ℕ) (front : List Token) (c : Condition) → SpellsSimple style front c → SpellsPart style room front c
unfolding SpellsPart
part_simply style zero front c s = simple s
part_simply style (suc room) front c s = simple s

simple_part : (style : Style) (room : ℕ) (front : List Token) (c : Condition) → SpellsSimple style front c → AreFromLine front → PartPrints style room c
simple_part style room front c s from =
    let p = simple_prints s from in
    let alone = simple_alone s in
    plain_prints style room c alone.0 alone.1 (record { front = p.front; spelled = part_simply style room p.front c p.spelled; shows = p.shows })

negated_part : (style : Style) (room : ℕ) (c : Condition) → PartPrints style room c → PartPrints style (suc room) (opposite c)
unfolding SpellsPart condition_text
negated_part style room c p =
    let alone = opposite_alone c in
    plain_prints style (suc room) (opposite c) alone.0 alone.1 (record {
      front = word (codes "not") ∷ p.part.front;
      spelled = negated p.part.spelled;
      shows = shows_word_then (codes "not") (and_part c) p.part.front refl p.part.shows;
    })

bracketed_part : (style : Style) (room : ℕ) (c : Condition) → WholePrints style room c → PartPrints style (suc room) c
bracketed_part style room c w = by (is_conjunction c) (is_disjunction c) refl refl
  where
    by : (a b : Bool) → is_conjunction c ≡ a → is_disjunction c ≡ b → PartPrints style (suc room) c
    by true true p q = record {
      part = subst (λ (text : List ℕ). Prints (Part style (suc room)) text c) (sym (ap (λ t. bracketed_if (t || is_disjunction c) (condition_text c)) p)) (within_brackets style room (condition_text c) c w.whole);
      conj = subst (λ (text : List ℕ). Prints (Conj style (suc room)) text c) (sym (ap (λ t. bracketed_if t (condition_text c)) q)) (as_conj style (suc room) (within_brackets style room (condition_text c) c w.whole));
      whole = whole_more style room w.whole;
    }
    by true false p q = record {
      part = subst (λ (text : List ℕ). Prints (Part style (suc room)) text c) (sym (ap (λ t. bracketed_if (t || is_disjunction c) (condition_text c)) p)) (within_brackets style room (condition_text c) c w.whole);
      conj = subst (λ (text : List ℕ). Prints (Conj style (suc room)) text c) (sym (or_brackets c q)) (conj_more style room (w.conj q));
      whole = whole_more style room w.whole;
    }
    by false true p q = record {
      part = subst (λ (text : List ℕ). Prints (Part style (suc room)) text c) (sym (ap (λ t. bracketed_if (t || is_disjunction c) (condition_text c)) p ∙ ap (λ t. bracketed_if t (condition_text c)) q)) (within_brackets style room (condition_text c) c w.whole);
      conj = subst (λ (text : List ℕ). Prints (Conj style (suc room)) text c) (sym (ap (λ t. bracketed_if t (condition_text c)) q)) (as_conj style (suc room) (within_brackets style room (condition_text c) c w.whole));
      whole = whole_more style room w.whole;
    }
    by false false p q = plain_prints style (suc room) c p q (part_more style room (w.part p q))

part_prints : (style : Style) (room : ℕ) (front : List Token) (c : Condition) → SpellsPart style room front c → AreFromLine front → PartPrints style room c
unfolding SpellsPart
part_prints style zero front c spelled from = none spelled from
  where
    none : {f : List Token} {d : Condition} → SpellsOpened style Nothing Nothing f d → AreFromLine f → PartPrints style zero d
    none (simple {front = f} {c = d} s) from = simple_part style zero f d s from
    none (negated h) from = absurd h
    none (bracketed h) from = absurd h
part_prints style (suc room) front c spelled from =
    opened style room (λ f d h g. part_prints style room f d h g) (λ f d h g. whole_prints style room (part_prints style room) f d h g) spelled from
  where
    opened : (style : Style) (room : ℕ) → ((f : List Token) (d : Condition) → SpellsPart style room f d → AreFromLine f → PartPrints style room d)
        → ((f : List Token) (d : Condition) → SpellsJoined (SpellsPart style room) f d → AreFromLine f → WholePrints style room d)
        → {f : List Token} {d : Condition} → SpellsOpened style (SpellsPart style room) (SpellsJoined (SpellsPart style room)) f d → AreFromLine f → PartPrints style (suc room) d
    opened style room part whole (simple {front = f} {c = d} s) from = simple_part style (suc room) f d s from
    opened style room part whole (negated {front = f} {c = d} h) from = negated_part style room d (part f d h from.1)
    opened style room part whole (bracketed {front = f} {c = d} h) from = bracketed_part style room d (whole f d h (from_line_parts f (sign signs.Close ∷ []) from.1).0)

-- the text nests no deeper than what spells the condition
pub nests_no_deeper : (style : Style) (room : ℕ) (front : List Token) (c : Condition) → SpellsJoined (SpellsPart style room) front c → AreFromLine front → Prints (SpellsJoined (SpellsPart style room)) (condition_text c) c
nests_no_deeper style room front c spelled from = (whole_prints style room (part_prints style room) front c spelled from).whole

pub condition_prints : (style : Style) (front : List Token) (c : Condition) → SpellsCond style front c → AreFromLine front → Prints (SpellsCond style) (condition_text c) c
condition_prints style front c spelled from =
    let p = nests_no_deeper style 16 front c spelled.derived from in
    record { front = p.front; spelled = record { derived = p.spelled; few = spelled.few }; shows = p.shows }

-- the text alone is read as the condition
pub text_is_read : (style : Style) (front : List Token) (c : Condition) → SpellsCond style front c → AreFromLine front → condition_by style (tokens (condition_text c)) ≡ Ok (c, [])
text_is_read style front c spelled from =
    let p = condition_prints style front c spelled from in
    ap (condition_by style) (shown_alone (condition_text c) p.front p.shows) ∙ condition_again style p.front c [] p.spelled (condition_ends [] end_stops style p.front c p.spelled)
