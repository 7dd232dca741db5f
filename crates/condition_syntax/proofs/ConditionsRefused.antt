-- Where reading a condition stops with a fault, the line is refused so.
use Rattle.std.proofs.Common.{◌≡◌, ℕ, zero, suc, ◌+◌, ◌≤◌, ◌<◌, Bool, true, false, cond, leb, ◌⊎◌, ⊎_elim, inl, inr, Option, None, Some, Result, Ok, Err, List, [], ◌∷◌, ◌++◌, length, refl, sym, ap, subst, ◌∙◌, arith}
use Rattle.std.specs.Prelude.{codes, unwrap_or, ◌&&◌, if◌then◌else◌}
use Rattle.std.proofs.lemmas.Bool.{leb-true}
use Rattle.text_lines.specs.Steps.{◌>>=◌}
use Rattle.source_text.specs.declared.lexemes.Sign.{Sign}
use Rattle.source_text.specs.declared.lexemes.Sign.TheVariants.{AtLeast, Minus, Open, Close}
use Rattle.source_text.specs.Tokens.{Token, word, number, sign, wrong, after}
use Rattle.weighing.specs.declared.scales.Num.{Num}
use Rattle.weighing.specs.declared.weighings.Rel5.{Rel5}
use Rattle.condition_syntax.specs.declared.conditions.Style.{Style}
use Rattle.condition_syntax.specs.declared.conditions.Style.TheVariants.{Controller, Question}
use Rattle.condition_syntax.specs.declared.expressions.ETerm.{ETerm}
use Rattle.condition_syntax.specs.declared.faults.Fault.{Fault}
use Rattle.condition_syntax.specs.declared.faults.Fault.TheVariants.{Number, Part, Depth, Count}
use Rattle.condition_syntax.specs.declared.openings.Opening.{Opening}
use Rattle.condition_syntax.specs.declared.openings.Opening.TheVariants as opens
use Rattle.condition_syntax.specs.Fronts.{same_sign, stands, says, blame}
use Rattle.condition_syntax.specs.Trees.{Condition, comparison, delay, comparisons}
use Rattle.condition_syntax.specs.Expressions.{is_within, number_of, expr_by}
use Rattle.condition_syntax.specs.Words.{is_keyword, rel_of}
use Rattle.condition_syntax.specs.Conditions.{Pending, pending, Reader, behind, side_begins, counted, rel_or, rel_by, comparison_by, rows_by, sign_by, delay_by, has_delays, opening_of, chain_by, conjunction_by, joined_by, opposite_by, bracketed_by, opened_by, too_deep, part_by, condition_within, condition_by}
use Rattle.condition_syntax.specs.Grammar.{IsNameWord, SpellsExpr, Nothing, SpellsConjunction, SpellsJoined, SpellsPart}
use Rattle.condition_syntax.specs.Ends.{Ending, Taken, EndsExpr, EndsPart, EndsConjunction, EndsWhole, Free}
use Rattle.condition_syntax.specs.WrongTokens.{IsInside, IsOutside, NoPart, SideBegins, SideMissing, NoNumber, NoRel, RefusesExpr, RefusesSimple, in_side, extra_comparison, in_left, at_relation, in_right, extra_delay, without_relation, without_rows, rows_outside, Refusing, RefusesOpened, in_simple, in_negated, in_brackets, unclosed, TooDeep, RefusesChain, in_one, in_others, RefusesWhole, RefusesPart, RefusesCond}
use Rattle.condition_syntax.proofs.FrontLaws.{chosen, same_sign_is, says_is}
use Rattle.condition_syntax.proofs.ExpressionsTaken.{expr_taken}
use Rattle.condition_syntax.proofs.ConditionsTaken.{ReadsPart, Takes, shorter, counted_is, rel_taken, sign_taken, Opens, opening_is, conjunction_taken, part_taken, whole_taken, none_taken}
use Rattle.condition_syntax.proofs.RefusedFrom.{bind_err, err_is, no_err, inside_from, outside_from, number_refused, no_name, expr_refused}

-- ---- comparisons and tests of delay

side_refused : (tokens : List Token) (f : Fault) → side_begins tokens ≡ Err f → SideMissing tokens f
unfolding side_begins
side_refused [] f e = cc
side_refused (word w ∷ tokens) f e = no_name Part w f tt e
side_refused (number n d ∷ tokens) f e = by (is_within n (unwrap_or d 1)) refl e
  where
    by : (b : Bool) → is_within n (unwrap_or d 1) ≡ b → ◌≡◌ {A = Result (Unit {0}) Fault} (cond b (Ok tt) (Err Number)) (Err f) → IsOutside n d × (f ≡ Number)
    by true p e = absurd (cc)
    by false p e = (outside_from n (unwrap_or d 1) p, cc)
side_refused (sign s ∷ tokens) f e = by (stands Minus (sign s ∷ tokens)) refl e
  where
    by : (b : Bool) → stands Minus (sign s ∷ tokens) ≡ b → ◌≡◌ {A = Result (Unit {0}) Fault} (cond b (Ok tt) (Err Part)) (Err f) → (stands Minus (sign s ∷ tokens) ≡ false) × (f ≡ Part)
    by true p e = absurd (cc)
    by false p e = (p, cc)
side_refused (wrong ∷ tokens) f e = cc

side_begins_so : (tokens : List Token) → side_begins tokens ≡ Ok tt → SideBegins tokens
unfolding side_begins stands
side_begins_so [] e = absurd (cc)
side_begins_so (word w ∷ tokens) e = by (is_keyword w) (leb (length w) 16) refl refl e
  where
    by : (k l : Bool) → is_keyword w ≡ k → leb (length w) 16 ≡ l → ◌≡◌ {A = Result (Unit {0}) Fault} (cond k (Err Part) (cond l (Ok tt) (Err Count))) (Ok tt) → IsNameWord w
    by true l p q e = absurd (cc)
    by false true p q e = record { free = p; short = leb-true (length w) 16 q }
    by false false p q e = absurd (cc)
side_begins_so (number n d ∷ tokens) e = by (is_within n (unwrap_or d 1)) refl e
  where
    by : (b : Bool) → is_within n (unwrap_or d 1) ≡ b → ◌≡◌ {A = Result (Unit {0}) Fault} (cond b (Ok tt) (Err Number)) (Ok tt) → IsInside n d
    by true p e = inside_from n d p
    by false p e = absurd (cc)
side_begins_so (sign s ∷ tokens) e = by (same_sign Minus s) refl e
  where
    by : (b : Bool) → same_sign Minus s ≡ b → ◌≡◌ {A = Result (Unit {0}) Fault} (cond b (Ok tt) (Err Part)) (Ok tt) → s ≡ Minus
    by true p e = same_sign_is Minus s p
    by false p e = absurd (cc)
side_begins_so (wrong ∷ tokens) e = absurd (cc)

-- where a comparison is read, no other part opens
no_part : (style : Style) (tokens : List Token) → opening_of style tokens ≡ opens.Comparison → NoPart style tokens
unfolding opening_of
no_part style tokens e =
    by (stands Open tokens) (says (codes "not") tokens) (says (codes "true") tokens) (says (codes "false") tokens) (has_delays style && says (codes "delay") tokens)
    refl refl refl refl refl e
  where
    by : (a b c d f : Bool) → stands Open tokens ≡ a → says (codes "not") tokens ≡ b → says (codes "true") tokens ≡ c → says (codes "false") tokens ≡ d → (has_delays style && says (codes "delay") tokens) ≡ f
        → cond a opens.Bracket (cond b opens.Not (cond c opens.True (cond d opens.False (cond f opens.Delay opens.Comparison)))) ≡ opens.Comparison → NoPart style tokens
    by true b c d f p q r s t e = absurd (cc)
    by false true c d f p q r s t e = absurd (cc)
    by false false true d f p q r s t e = absurd (cc)
    by false false false true f p q r s t e = absurd (cc)
    by false false false false true p q r s t e = absurd (cc)
    by false false false false false p q r s t e = record {
      no_bracket = p;
      no_not = q;
      no_truth = r;
      no_falsity = s;
      no_delay = λ is. subst (λ (y : Style). (has_delays y && says (codes "delay") tokens) ≡ false) is t;
    }

counted_refused : (begun : ℕ) (f : Fault) → counted begun ≡ Err f → (16 ≤ begun) × (f ≡ Count)
unfolding counted
counted_refused begun f e = ⊎_elim (λ p. (leb-true 16 begun p.0, err_is Count f p.1)) (λ p. no_err (begun + 1) f p.1) (chosen (leb 16 begun) (Err Count) (Ok (begun + 1)) (Err f) e)

below : (begun n : ℕ) → counted begun ≡ Ok n → begun < 16
below begun n e = let c = counted_is begun n e in omega arith

rel_refused : (tokens : List Token) (f : Fault) → rel_by tokens ≡ Err f → NoRel tokens × (f ≡ blame Part tokens)
unfolding rel_by blame
rel_refused [] f e = (tt, cc)
rel_refused (word w ∷ tokens) f e = (tt, cc)
rel_refused (number n d ∷ tokens) f e = (tt, cc)
rel_refused (sign s ∷ tokens) f e = by (rel_of s) refl e
  where
    by : (o : Option Rel5) → rel_of s ≡ o → rel_or o tokens ≡ Err f → (rel_of s ≡ None) × (f ≡ Part)
    by None is e = (is, cc)
    by (Some rel) is e = absurd (cc)
rel_refused (wrong ∷ tokens) f e = (tt, cc)

-- no number stands, or one outside the limits
data RowsRefused : List Token → Fault → Type 0 where
  none_stands : {tokens : List Token} {f : Fault} → NoNumber tokens → f ≡ blame Part tokens → RowsRefused tokens f
  stands_outside : {n : ℕ} {d : Option ℕ} {tokens : List Token} {f : Fault} → IsOutside n d → f ≡ Number → RowsRefused (number n d ∷ tokens) f

rows_refused : (tokens : List Token) (f : Fault) → rows_by tokens ≡ Err f → RowsRefused tokens f
unfolding rows_by blame
rows_refused [] f e = none_stands tt (cc)
rows_refused (word w ∷ tokens) f e = none_stands tt (cc)
rows_refused (number n d ∷ tokens) f e = ⊎_elim (λ h. let r = number_refused n d f h in stands_outside r.0 r.1) (λ p. no_err _ f p.1.1) (bind_err (number_of n d) (λ q. Ok (q, tokens)) f e)
rows_refused (sign s ∷ tokens) f e = none_stands tt (cc)
rows_refused (wrong ∷ tokens) f e = none_stands tt (cc)

sign_refused : (s : Sign) (tokens : List Token) (f : Fault) → sign_by s tokens ≡ Err f → (stands s tokens ≡ false) × (f ≡ blame Part tokens)
unfolding sign_by
sign_refused s tokens f e = ⊎_elim (λ p. no_err (after tokens) f p.1) (λ p. (p.0, err_is (blame Part tokens) f p.1)) (chosen (stands s tokens) (Ok (after tokens)) (Err (blame Part tokens)) (Err f) e)

module _ (style : Style) (begun : ℕ) (tokens : List Token) (f : Fault) where
  -- behind the relation
  right_refused : (l : List ETerm × List Token) → begun < 16 → Taken (SpellsExpr style) (EndsExpr style) tokens l → (rel : Rel5 × List Token) → rel_by l.1 ≡ Ok rel → RefusesExpr style rel.1 f → RefusesSimple style begun tokens f
  right_refused l lt left rel read h =
      let r = rel_taken l.1 rel read in
      subst (λ (ts : List Token). RefusesSimple style begun ts f) (sym (left.parts ∙ ap (λ (ts : List Token). left.front ++ ts) r.parts)) (in_right r.by rel.1 lt left.spelled r.is h)

  -- behind the left side
  relation_refused : (l : List ETerm × List Token) → begun < 16 → Taken (SpellsExpr style) (EndsExpr style) tokens l → NoRel l.1 × (f ≡ blame Part l.1) → RefusesSimple style begun tokens f
  relation_refused l lt left h = subst (λ (ts : List Token). RefusesSimple style begun ts f) (sym left.parts) (at_relation l.1 lt left.spelled left.ends h.0 h.1)

comparison_refused : (style : Style) (s : Pending) (f : Fault) → opening_of style s.tokens ≡ opens.Comparison → comparison_by style s ≡ Err f → RefusesSimple style s.begun s.tokens f
unfolding comparison_by
comparison_refused style s f opens_so e = ⊎_elim (λ h. in_side (no_part style s.tokens opens_so) (side_refused s.tokens f h)) (λ (u, (begins, h)). at_count begins (bind_err (counted s.begun) _ f h)) (bind_err (side_begins s.tokens) _ f e)
  where
    at_right : (n : ℕ) → s.begun < 16 → (l : List ETerm × List Token) → Taken (SpellsExpr style) (EndsExpr style) s.tokens l → (rel : Rel5 × List Token) → rel_by l.1 ≡ Ok rel
        → (expr_by style rel.1 ≡ Err f) ⊎ ((r : List ETerm × List Token) × ((expr_by style rel.1 ≡ Ok r)
        × (◌≡◌ {A = Result (Condition × Pending) Fault} (Ok (comparison (record { terms = l.0 }) rel.0 (record { terms = r.0 }), record { begun = n; tokens = r.1 })) (Err f))))
        → RefusesSimple style s.begun s.tokens f
    at_right n lt l left rel read (inl h) = right_refused style s.begun s.tokens f l lt left rel read (expr_refused style rel.1 f h)
    at_right n lt l left rel read (inr (r, (g, h))) = no_err _ f h

    at_rel : (n : ℕ) → s.begun < 16 → (l : List ETerm × List Token) → Taken (SpellsExpr style) (EndsExpr style) s.tokens l
        → (rel_by l.1 ≡ Err f) ⊎ ((rel : Rel5 × List Token) × ((rel_by l.1 ≡ Ok rel)
        × (◌≡◌ {A = Result (Condition × Pending) Fault} (expr_by style rel.1 >>= λ right. Ok (comparison (record { terms = l.0 }) rel.0 (record { terms = right.0 }), record { begun = n; tokens = right.1 })) (Err f))))
        → RefusesSimple style s.begun s.tokens f
    at_rel n lt l left (inl h) = relation_refused style s.begun s.tokens f l lt left (rel_refused l.1 f h)
    at_rel n lt l left (inr (rel, (read, h))) = at_right n lt l left rel read (bind_err (expr_by style rel.1) _ f h)

    at_left : (n : ℕ) → s.begun < 16 → side_begins s.tokens ≡ Ok tt
        → (expr_by style s.tokens ≡ Err f) ⊎ ((l : List ETerm × List Token) × ((expr_by style s.tokens ≡ Ok l)
        × (◌≡◌ {A = Result (Condition × Pending) Fault} (rel_by l.1 >>= λ rel. expr_by style rel.1 >>= λ right. Ok (comparison (record { terms = l.0 }) rel.0 (record { terms = right.0 }), record { begun = n; tokens = right.1 })) (Err f))))
        → RefusesSimple style s.begun s.tokens f
    at_left n lt begins (inl h) = in_left (side_begins_so s.tokens begins) lt (expr_refused style s.tokens f h)
    at_left n lt begins (inr (l, (read, h))) = at_rel n lt l (expr_taken style s.tokens l read) (bind_err (rel_by l.1) _ f h)

    at_count : side_begins s.tokens ≡ Ok tt
        → (counted s.begun ≡ Err f) ⊎ ((n : ℕ) × ((counted s.begun ≡ Ok n)
        × (◌≡◌ {A = Result (Condition × Pending) Fault} (expr_by style s.tokens >>= λ l. rel_by l.1 >>= λ rel. expr_by style rel.1 >>= λ right. Ok (comparison (record { terms = l.0 }) rel.0 (record { terms = right.0 }), record { begun = n; tokens = right.1 })) (Err f))))
        → RefusesSimple style s.begun s.tokens f
    at_count begins (inl h) = let c = counted_refused s.begun f h in subst (RefusesSimple style s.begun s.tokens) (sym c.1) (extra_comparison (side_begins_so s.tokens begins) c.0)
    at_count begins (inr (n, (read, h))) = at_left n (below s.begun n read) begins (bind_err (expr_by style s.tokens) _ f h)

-- ---- tests of delay

-- from the relation on
delay_rest : (begun : ℕ) (tokens left : List Token) (f : Fault) → begun < 16 → tokens ≡ sign AtLeast ∷ left → RowsRefused left f → RefusesSimple Controller begun (word (codes "delay") ∷ tokens) f
delay_rest begun tokens left f lt parts (none_stands none is) = subst (λ (ts : List Token). RefusesSimple Controller begun (word (codes "delay") ∷ ts) f) (sym parts) (without_rows lt none is)
delay_rest begun tokens left f lt parts (stands_outside outside is) =
    subst (λ (ts : List Token). RefusesSimple Controller begun (word (codes "delay") ∷ ts) f) (sym parts) (subst (RefusesSimple Controller begun (word (codes "delay") ∷ sign AtLeast ∷ left)) (sym is) (rows_outside lt outside))

delay_behind : (s : Pending) (f : Fault) → delay_by s ≡ Err f → RefusesSimple Controller s.begun (word (codes "delay") ∷ after s.tokens) f
unfolding delay_by
delay_behind s f e = at_count (bind_err (counted s.begun) _ f e)
  where
    at_rows : (n : ℕ) → s.begun < 16 → (left : List Token) → after s.tokens ≡ sign AtLeast ∷ left
        → (rows_by left ≡ Err f) ⊎ ((q : Num × List Token) × ((rows_by left ≡ Ok q) × (◌≡◌ {A = Result (Condition × Pending) Fault} (Ok (delay q.0, record { begun = n; tokens = q.1 })) (Err f))))
        → RefusesSimple Controller s.begun (word (codes "delay") ∷ after s.tokens) f
    at_rows n lt left parts (inl h) = delay_rest s.begun (after s.tokens) left f lt parts (rows_refused left f h)
    at_rows n lt left parts (inr (q, (read, h))) = no_err _ f h

    at_sign : (n : ℕ) → s.begun < 16
        → (sign_by AtLeast (after s.tokens) ≡ Err f) ⊎ ((left : List Token) × ((sign_by AtLeast (after s.tokens) ≡ Ok left)
        × (◌≡◌ {A = Result (Condition × Pending) Fault} (rows_by left >>= λ q. Ok (delay q.0, record { begun = n; tokens = q.1 })) (Err f))))
        → RefusesSimple Controller s.begun (word (codes "delay") ∷ after s.tokens) f
    at_sign n lt (inl h) = let r = sign_refused AtLeast (after s.tokens) f h in without_relation lt r.0 r.1
    at_sign n lt (inr (left, (read, h))) = at_rows n lt left (sign_taken AtLeast (after s.tokens) left read) (bind_err (rows_by left) _ f h)

    at_count : (counted s.begun ≡ Err f) ⊎ ((n : ℕ) × ((counted s.begun ≡ Ok n)
        × (◌≡◌ {A = Result (Condition × Pending) Fault} (sign_by AtLeast (after s.tokens) >>= λ left. rows_by left >>= λ q. Ok (delay q.0, record { begun = n; tokens = q.1 })) (Err f))))
        → RefusesSimple Controller s.begun (word (codes "delay") ∷ after s.tokens) f
    at_count (inl h) = let c = counted_refused s.begun f h in subst (RefusesSimple Controller s.begun (word (codes "delay") ∷ after s.tokens)) (sym c.1) (extra_delay c.0)
    at_count (inr (n, (read, h))) = at_sign n (below s.begun n read) (bind_err (sign_by AtLeast (after s.tokens)) _ f h)

delay_refused : (style : Style) (s : Pending) (f : Fault) → has_delays style ≡ true → says (codes "delay") s.tokens ≡ true → delay_by s ≡ Err f → RefusesSimple style s.begun s.tokens f
delay_refused Controller s f has here e = subst (λ (ts : List Token). RefusesSimple Controller s.begun ts f) (sym (says_is (codes "delay") s.tokens here)) (delay_behind s f e)
delay_refused Question s f has here e = absurd (cc)

-- ---- chains

-- what a reader refuses is refused so
abbrev pub Refused : Reader → Refusing → Type 0
Refused read Refuses = (s : Pending) (f : Fault) → s.begun ≤ 16 → read s ≡ Err f → Refuses s.begun s.tokens f

module _ (joint : List ℕ) (part : Reader) (Spells : List Token → Condition → Type 0) (Ends : Ending Spells) (Refuses : Refusing) (takes : Takes part Spells Ends) (refused : Refused part Refuses) where
  -- another part was refused
  others_of : (s : Pending) (c : Condition × Pending) (f : Fault) → s.begun ≤ 16 → ReadsPart Spells Ends comparisons s c → says joint c.1.tokens ≡ true
      → RefusesChain joint Spells Refuses c.1.begun (after c.1.tokens) f → RefusesChain joint Spells Refuses s.begun s.tokens f
  others_of s c f le first here others =
      subst (λ (ts : List Token). RefusesChain joint Spells Refuses s.begun ts f) (sym (first.parts ∙ ap (λ (ts : List Token). first.front ++ ts) (says_is joint c.1.tokens here)))
      (in_others (after c.1.tokens) first.spelled (omega (arith, first.count, first.limit le)) (subst (λ n. RefusesChain joint Spells Refuses n (after c.1.tokens) f) first.count others))

  chain_behind : (most : ℕ) (s : Pending) (c : Condition × Pending) (f : Fault) → s.begun ≤ 16 → ReadsPart Spells Ends comparisons s c
      → (says joint c.1.tokens ≡ true → chain_by joint part most (behind c.1) ≡ Err f → RefusesChain joint Spells Refuses c.1.begun (after c.1.tokens) f)
      → (cond (says joint c.1.tokens) (chain_by joint part most (behind c.1)) (Ok ([], c.1)) ≡ Err f) ⊎ ((cs : List Condition × Pending) × ((cond (says joint c.1.tokens) (chain_by joint part most (behind c.1)) (Ok ([], c.1)) ≡ Ok cs)
      × (◌≡◌ {A = Result (List Condition × Pending) Fault} (Ok (c.0 ∷ cs.0, cs.1)) (Err f))))
      → RefusesChain joint Spells Refuses s.begun s.tokens f
  chain_behind most s c f le first others (inl h) =
      ⊎_elim (λ p. others_of s c f le first p.0 (others p.0 p.1)) (λ p. no_err _ f p.1) (chosen (says joint c.1.tokens) (chain_by joint part most (behind c.1)) (Ok ([], c.1)) (Err f) h)
  chain_behind most s c f le first others (inr (cs, (read, h))) = no_err _ f h

  chain_of : (most : ℕ) (s : Pending) (f : Fault) → s.begun ≤ 16
      → ((c : Condition × Pending) → ReadsPart Spells Ends comparisons s c → says joint c.1.tokens ≡ true → chain_by joint part most (behind c.1) ≡ Err f → RefusesChain joint Spells Refuses c.1.begun (after c.1.tokens) f)
      → (part s ≡ Err f) ⊎ ((c : Condition × Pending) × ((part s ≡ Ok c)
      × (◌≡◌ {A = Result (List Condition × Pending) Fault} ((if says joint c.1.tokens then chain_by joint part most (behind c.1) else Ok ([], c.1)) >>= λ cs. Ok (c.0 ∷ cs.0, cs.1)) (Err f))))
      → RefusesChain joint Spells Refuses s.begun s.tokens f
  chain_of most s f le others (inl h) = in_one (refused s f le h)
  chain_of most s f le others (inr (c, (read, h))) =
      let first = takes s c read in
      chain_behind most s c f le first (others c first) (bind_err (cond (says joint c.1.tokens) (chain_by joint part most (behind c.1)) (Ok ([], c.1))) _ f h)

  pub chain_refused : (most : ℕ) (s : Pending) (f : Fault) → length s.tokens ≤ most → s.begun ≤ 16 → chain_by joint part (suc most) s ≡ Err f → RefusesChain joint Spells Refuses s.begun s.tokens f
  unfolding chain_by
  chain_refused zero s f enough le e =
      chain_of zero s f le (λ c first here h. absurd (let shrinks = shorter Spells Ends comparisons s c first in let some = ap length (says_is joint c.1.tokens here) in omega (arith, shrinks, some))) (bind_err (part s) _ f e)
  chain_refused (suc most) s f enough le e =
      chain_of (suc most) s f le (λ c first here h.
      let shrinks = shorter Spells Ends comparisons s c first in
      let some = ap length (says_is joint c.1.tokens here) in
      chain_refused most (behind c.1) f (omega (arith, shrinks, some)) (first.limit le) h) (bind_err (part s) _ f e)

conjunction_refused : (part : Reader) (Spells : List Token → Condition → Type 0) (Ends : Ending Spells) (Refuses : Refusing) → Takes part Spells Ends → Refused part Refuses → Refused (conjunction_by part) (RefusesChain (codes "and") Spells Refuses)
unfolding conjunction_by
conjunction_refused part Spells Ends Refuses takes refused s f le e =
    ⊎_elim (λ h. chain_refused (codes "and") part Spells Ends Refuses takes refused (length s.tokens) s f (omega arith) le h) (λ p. no_err _ f p.1.1) (bind_err (chain_by (codes "and") part (suc (length s.tokens)) s) _ f e)

whole_refused : (part : Reader) (Spells : List Token → Condition → Type 0) (Ends : Ending Spells) (Refuses : Refusing) → Takes part Spells Ends → Refused part Refuses → Refused (joined_by part) (RefusesWhole Spells Refuses)
unfolding joined_by
whole_refused part Spells Ends Refuses takes refused s f le e =
    ⊎_elim (λ h. chain_refused (codes "or") (conjunction_by part) (SpellsConjunction Spells) (EndsConjunction Spells Ends) (RefusesChain (codes "and") Spells Refuses) (conjunction_taken part Spells Ends takes)
    (conjunction_refused part Spells Ends Refuses takes refused) (length s.tokens) s f (omega arith) le h) (λ p. no_err _ f p.1.1) (bind_err (chain_by (codes "or") (conjunction_by part) (suc (length s.tokens)) s) _ f e)

-- ---- parts

module _ (style : Style) (part whole : Reader) (Whole : List Token → Condition → Type 0) (WholeEnds : Ending Whole) (InPart InWhole : Refusing) (takes : Takes whole Whole WholeEnds)
    (part_refuses : Refused part InPart) (whole_refuses : Refused whole InWhole) where
  abbrev Opened : Pending → Fault → Type 0
  Opened s f = RefusesOpened style Whole WholeEnds InPart InWhole s.begun s.tokens f

  negated_refused : (s : Pending) (f : Fault) → s.begun ≤ 16 → s.tokens ≡ word (codes "not") ∷ after s.tokens → opposite_by part s ≡ Err f → Opened s f
  negated_refused s f le here e =
      ⊎_elim (λ h. subst (λ (ts : List Token). RefusesOpened style Whole WholeEnds InPart InWhole s.begun ts f) (sym here) (in_negated (part_refuses (behind s) f le h))) (λ p. no_err _ f p.1.1) (bind_err (part (behind s)) _ f e)

  unclosed_part : (s : Pending) (c : Condition × Pending) (f : Fault) → s.begun ≤ 16 → s.tokens ≡ sign Open ∷ after s.tokens → ReadsPart Whole WholeEnds comparisons (behind s) c
      → (stands Close c.1.tokens ≡ false) × (f ≡ blame Part c.1.tokens) → Opened s f
  unclosed_part s c f le here inner missing =
      subst (λ (ts : List Token). RefusesOpened style Whole WholeEnds InPart InWhole s.begun ts f) (sym (here ∙ ap (λ (ts : List Token). sign Open ∷ ts) inner.parts))
      (unclosed c.1.tokens inner.spelled inner.ends (omega (arith, inner.count, inner.limit le)) missing.0 missing.1)

  brackets_refused : (s : Pending) (f : Fault) → s.begun ≤ 16 → s.tokens ≡ sign Open ∷ after s.tokens → bracketed_by whole s ≡ Err f → Opened s f
  brackets_refused s f le here e = ⊎_elim inside (λ (c, (read, h)). at_close c (takes (behind s) c read) (bind_err (sign_by Close c.1.tokens) _ f h)) (bind_err (whole (behind s)) _ f e)
    where
      inside : whole (behind s) ≡ Err f → Opened s f
      inside h = subst (λ (ts : List Token). RefusesOpened style Whole WholeEnds InPart InWhole s.begun ts f) (sym here) (in_brackets (whole_refuses (behind s) f le h))

      at_close : (c : Condition × Pending) → ReadsPart Whole WholeEnds comparisons (behind s) c
          → (sign_by Close c.1.tokens ≡ Err f) ⊎ ((rest : List Token) × ((sign_by Close c.1.tokens ≡ Ok rest) × (◌≡◌ {A = Result (Condition × Pending) Fault} (Ok (c.0, record { begun = c.1.begun; tokens = rest })) (Err f)))) → Opened s f
      at_close c inner (inl h) = unclosed_part s c f le here inner (sign_refused Close c.1.tokens f h)
      at_close c inner (inr (rest, (read, h))) = no_err _ f h

  opened_refused : (s : Pending) (f : Fault) (o : Opening) → s.begun ≤ 16 → opening_of style s.tokens ≡ o → Opens style s.tokens o → opened_by style part whole o s ≡ Err f → Opened s f
  opened_refused s f opens.Not le is here e = negated_refused s f le here e
  opened_refused s f opens.Bracket le is here e = brackets_refused s f le here e
  opened_refused s f opens.True le is here e = no_err _ f e
  opened_refused s f opens.False le is here e = no_err _ f e
  opened_refused s f opens.Delay le is here e = in_simple (delay_refused style s f here.0 here.1 e)
  opened_refused s f opens.Comparison le is here e = in_simple (comparison_refused style s f is e)

deep_refused : Refused too_deep TooDeep
deep_refused s f le e = err_is Depth f e

pub part_refused : (style : Style) (room : ℕ) → Refused (part_by style room) (RefusesPart style room)
unfolding part_by RefusesPart
part_refused style zero s f le e =
    opened_refused style too_deep too_deep Nothing Free TooDeep TooDeep (none_taken Free) deep_refused deep_refused s f (opening_of style s.tokens) le refl (opening_is style s.tokens) e
part_refused style (suc room) s f le e =
    opened_refused style (part_by style room) (joined_by (part_by style room)) (SpellsJoined (SpellsPart style room)) (EndsWhole (SpellsPart style room) (EndsPart style room)) (RefusesPart style room)
    (RefusesWhole (SpellsPart style room) (RefusesPart style room)) (whole_taken style room) (part_refused style room)
    (whole_refused (part_by style room) (SpellsPart style room) (EndsPart style room) (RefusesPart style room) (part_taken style room) (part_refused style room)) s f (opening_of style s.tokens) le refl (opening_is style s.tokens) e

pub condition_refused : (style : Style) (tokens : List Token) (f : Fault) → condition_by style tokens ≡ Err f → RefusesCond style tokens f
unfolding condition_by condition_within
condition_refused style tokens f e =
    ⊎_elim (λ h. whole_refused (part_by style 16) (SpellsPart style 16) (EndsPart style 16) (RefusesPart style 16) (part_taken style 16) (part_refused style 16) (pending 0 tokens) f (omega arith) h)
    (λ p. no_err _ f p.1.1) (bind_err (joined_by (part_by style 16) (pending 0 tokens)) _ f e)
