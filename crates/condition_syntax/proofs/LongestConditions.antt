-- Behind a condition that is read no more is left than behind any that is spelled: it is the longest.
use Rattle.std.proofs.Common.{◌≡◌, ℕ, zero, suc, ◌+◌, ◌≤◌, Bool, true, false, cond, ⊎_elim, Some, Result, Ok, List, [], ◌∷◌, ◌++◌, length, length-append, append_assoc, sym, ap, ◌∙◌, arith}
use Rattle.std.specs.Prelude.{codes}
use Rattle.text_lines.proofs.StepLaws.{bind_ok, ok_is}
use Rattle.source_text.specs.declared.lexemes.Sign.{Sign}
use Rattle.source_text.specs.Tokens.{Token, word, sign, after}
use Rattle.weighing.specs.declared.weighings.Rel5.{Rel5}
use Rattle.condition_syntax.specs.declared.conditions.Style.{Style}
use Rattle.condition_syntax.specs.declared.expressions.ETerm.{ETerm}
use Rattle.condition_syntax.specs.declared.faults.Fault.{Fault}
use Rattle.condition_syntax.specs.declared.openings.Opening.{Opening}
use Rattle.condition_syntax.specs.Words.{rel_of}
use Rattle.condition_syntax.specs.Fronts.{says}
use Rattle.condition_syntax.specs.Trees.{Condition, opposite, comparisons}
use Rattle.condition_syntax.specs.Expressions.{expr_by}
use Rattle.condition_syntax.specs.Conditions.{Pending, pending, Reader, behind, side_begins, counted, rel_by, comparison_by, chain_by, conjunction_by, joined_by, opposite_by, opened_by, too_deep, part_by, condition_within, condition_by}
use Rattle.condition_syntax.specs.Grammar.{SpellsExpr, Joined, one, more, SpellsSimple, truth, falsity, test, compared, SpellsOpened, simple, negated, bracketed, Nothing, SpellsConjunction, SpellsJoined, SpellsPart, SpellsCond}
use Rattle.condition_syntax.specs.Ends.{Ending, EndsOpened, EndsPart, EndsConjunction, EndsCond, Free}
use Rattle.condition_syntax.proofs.FrontLaws.{chosen, says_there}
use Rattle.condition_syntax.proofs.EndLaws.{Always, expr_ends, part_ends, conjunction_ends, word_stops}
use Rattle.condition_syntax.proofs.ExpressionsAgain.{expr_again}
use Rattle.condition_syntax.proofs.LongestExpressions.{left_is, after_le, expr_reaches}
use Rattle.condition_syntax.proofs.ConditionsTaken.{Takes, chain_taken, comparisons_in, comparisons-conjoined, comparisons-disjoined, conjunction_taken, part_taken}
use Rattle.condition_syntax.proofs.ConditionsAgain.{Again, read_as, expr_begins, rel_stops, rel_again, opens_not, or_is_no_and, conjunction_again, part_again, condition_again}

-- a reader leaves no more than stands behind what is spelled
abbrev Reaches : Reader → (List Token → Condition → Type 0) → Type 0
Reaches read Spells = (front rest : List Token) (c : Condition) (begun : ℕ) (y : Condition × Pending) → Spells front c → comparisons c ≤ 16 → begun ≤ 16
    → read (pending begun (front ++ rest)) ≡ Ok y → length y.1.tokens ≤ length rest

left_there : {X : Type 0} (x : X) (p : Pending) (y : X × Pending) → ◌≡◌ {A = Result (X × Pending) Fault} (Ok (x, p)) (Ok y) → length y.1.tokens ≤ length p.tokens
left_there {X} x p y e =
    let same = ok_is {E = Fault} (x, p) y e in
    let at : p.tokens ≡ y.1.tokens = ap (λ (z : X × Pending). z.1.tokens) same in
    omega (arith, ap length at)

-- where the rest ends what is spelled, it is left
exact : (read : Reader) (Spells : List Token → Condition → Type 0) (Ends : Ending Spells) → Takes read Spells Ends → Again read Spells Ends
    → (front left : List Token) (c : Condition) (begun : ℕ) (y : Condition × Pending) (spelled : Spells front c) → Ends front c spelled left → comparisons c ≤ 16 → begun ≤ 16
    → read (pending begun (front ++ left)) ≡ Ok y → y.1.tokens ≡ left
exact read Spells Ends takes again front left c begun y spelled ends few le e =
    let t = takes (pending begun (front ++ left)) y e in
    let here = again front c 0 left spelled ends (omega (arith, few)) in
    let there = again t.front y.0 0 y.1.tokens t.spelled t.ends (omega (arith, t.count, t.limit le)) in
    let same = ok_is {E = Fault} (y.0, pending (0 + comparisons y.0) y.1.tokens) (c, pending (0 + comparisons c) left) (sym there ∙ ap (λ (ts : List Token). read (pending 0 ts)) (sym t.parts) ∙ here) in
    ap (λ (x : Condition × Pending). x.1.tokens) same

-- ---- chains

taken_then : {X : Type 0} (b : Bool) (x y z : X) → b ≡ true → cond b x y ≡ z → x ≡ z
taken_then true x y z is e = e
taken_then false x y z is e = absurd (cc)

module _ (joint : List ℕ) (part : Reader) (Spells : List Token → Condition → Type 0) (Ends : Ending Spells) (takes : Takes part Spells Ends) (again : Again part Spells Ends) (joins : (rest : List Token) → Always Spells Ends (word joint ∷ rest)) (reaches : Reaches part Spells) where
  others_shorten : (most : ℕ) (p : Pending) (o : List Condition × Pending) → cond (says joint p.tokens) (chain_by joint part most (behind p)) (Ok ([], p)) ≡ Ok o → length o.1.tokens ≤ length p.tokens
  others_shorten most p o e = ⊎_elim joined alone (chosen (says joint p.tokens) (chain_by joint part most (behind p)) (Ok ([], p)) (Ok o) e)
    where
      joined : (says joint p.tokens ≡ true) × (chain_by joint part most (behind p) ≡ Ok o) → length o.1.tokens ≤ length p.tokens
      joined h =
          let t = chain_taken joint part Spells Ends takes most (behind p) o h.1 in
          omega (arith, ap length t.parts, length-append t.front o.1.tokens, after_le p.tokens)

      alone : (says joint p.tokens ≡ false) × (◌≡◌ {A = Result (List Condition × Pending) Fault} (Ok ([], p)) (Ok o)) → length o.1.tokens ≤ length p.tokens
      alone h = left_there [] p o h.1

  chain_reaches : (most : ℕ) {front : List Token} {cs : List Condition} (rest : List Token) (begun : ℕ) (y : List Condition × Pending) → Joined Spells (word joint) front cs → comparisons_in cs ≤ 16 → begun ≤ 16
      → chain_by joint part most (pending begun (front ++ rest)) ≡ Ok y → length y.1.tokens ≤ length rest
  unfolding chain_by
  chain_reaches zero rest begun y (one spelled) few le e = absurd (cc)
  chain_reaches zero rest begun y (more spelled others) few le e = absurd (cc)
  chain_reaches (suc most) rest begun y (one {front = front} {x = c} spelled) few le e =
      let a = bind_ok (part (pending begun (front ++ rest))) _ y e in
      let b = bind_ok (cond (says joint a.0.1.tokens) (chain_by joint part most (behind a.0.1)) (Ok ([], a.0.1))) _ y a.2 in
      omega (arith, left_there _ b.0.1 y b.2, others_shorten most a.0.1 b.0 b.1, reaches front rest c begun a.0 spelled (omega arith) le a.1)
  chain_reaches (suc most) rest begun y (more {front = front} {rest = later} {x = c} {xs = cs} spelled others) few le e =
      let tokens : List Token = word joint ∷ later ++ rest in
      let read = sym (ap (λ (ts : List Token). chain_by joint part (suc most) (pending begun ts)) (append_assoc front (word joint ∷ later) rest)) ∙ e in
      let a = bind_ok (part (pending begun (front ++ tokens))) _ y read in
      let b = bind_ok (cond (says joint a.0.1.tokens) (chain_by joint part most (behind a.0.1)) (Ok ([], a.0.1))) _ y a.2 in
      let at : a.0.1.tokens ≡ tokens = exact part Spells Ends takes again front tokens c begun a.0 spelled (joins (later ++ rest) front c spelled) (omega arith) le a.1 in
      let went = taken_then (says joint a.0.1.tokens) (chain_by joint part most (behind a.0.1)) (Ok ([], a.0.1)) (Ok b.0) (ap (says joint) at ∙ says_there joint (later ++ rest)) b.1 in
      let onward : chain_by joint part most (pending a.0.1.begun (later ++ rest)) ≡ Ok b.0 = sym (ap (λ (ts : List Token). chain_by joint part most (pending a.0.1.begun (after ts))) at) ∙ went in
      omega (arith, left_there _ b.0.1 y b.2, chain_reaches most rest a.0.1.begun b.0 others (omega arith) ((takes (pending begun (front ++ tokens)) a.0 a.1).limit le) onward)

module _ (style : Style) (room : ℕ) (reaches : Reaches (part_by style room) (SpellsPart style room)) where
  conjunction_reaches : Reaches (conjunction_by (part_by style room)) (SpellsConjunction (SpellsPart style room))
  unfolding conjunction_by
  conjunction_reaches front rest c begun y spelled few le e =
      let count : comparisons c ≡ comparisons_in spelled.0 = ap comparisons spelled.1.1 ∙ comparisons-conjoined spelled.0 in
      let a = bind_ok (chain_by (codes "and") (part_by style room) (suc (length (front ++ rest))) (pending begun (front ++ rest))) _ y e in
      let left = chain_reaches (codes "and") (part_by style room) (SpellsPart style room) (EndsPart style room) (part_taken style room) (part_again style room)
      (λ left. part_ends (word (codes "and") ∷ left) (word_stops (codes "and") left) style room) reaches (suc (length (front ++ rest))) rest begun a.0 spelled.1.0 (omega (arith, few, count)) le a.1 in
      omega (arith, left_there _ a.0.1 y a.2, left)

  whole_reaches : Reaches (joined_by (part_by style room)) (SpellsJoined (SpellsPart style room))
  unfolding joined_by
  whole_reaches front rest c begun y spelled few le e =
      let count : comparisons c ≡ comparisons_in spelled.0 = ap comparisons spelled.1.1 ∙ comparisons-disjoined spelled.0 in
      let a = bind_ok (chain_by (codes "or") (conjunction_by (part_by style room)) (suc (length (front ++ rest))) (pending begun (front ++ rest))) _ y e in
      let left = chain_reaches (codes "or") (conjunction_by (part_by style room)) (SpellsConjunction (SpellsPart style room)) (EndsConjunction (SpellsPart style room) (EndsPart style room))
      (conjunction_taken (part_by style room) (SpellsPart style room) (EndsPart style room) (part_taken style room)) (conjunction_again style room (part_again style room))
      (λ left. conjunction_ends (word (codes "or") ∷ left) (word_stops (codes "or") left) (or_is_no_and left) style room) conjunction_reaches (suc (length (front ++ rest))) rest begun a.0 spelled.1.0
      (omega (arith, few, count)) le a.1 in
      omega (arith, left_there _ a.0.1 y a.2, left)

-- ---- parts

compared_reaches : (style : Style) (begun : ℕ) (l r rest : List Token) (left right : List ETerm) (rel : Rel5) (s : Sign) (y : Condition × Pending) → SpellsExpr style l left → rel_of s ≡ Some rel → SpellsExpr style r right
    → comparison_by style (pending begun (l ++ (sign s ∷ r ++ rest))) ≡ Ok y → length y.1.tokens ≤ length rest
unfolding comparison_by
compared_reaches style begun l r rest left right rel s y spelled_left is spelled_right e =
    let tokens : List Token = sign s ∷ r ++ rest in
    let a = bind_ok (side_begins (l ++ tokens)) _ y e in
    let b = bind_ok (counted begun) _ y a.2 in
    let c = bind_ok (expr_by style (l ++ tokens)) _ y b.2 in
    let d = bind_ok (rel_by c.0.1) _ y c.2 in
    let f = bind_ok (expr_by style d.0.1) _ y d.2 in
    let first : c.0.1 ≡ tokens =
    ap (λ (p : List ETerm × List Token). p.1) (ok_is {E = Fault} c.0 (left, tokens) (sym c.1 ∙ expr_again tokens spelled_left (expr_ends tokens (rel_stops s rel is (r ++ rest)) spelled_left))) in
    let second : d.0.1 ≡ r ++ rest = ap (λ (p : Rel5 × List Token). p.1) (ok_is {E = Fault} d.0 (rel, r ++ rest) (sym d.1 ∙ ap rel_by first ∙ rel_again s rel (r ++ rest) is)) in
    omega (arith, left_there _ _ y f.2, expr_reaches rest f.0 spelled_right (sym (ap (expr_by style) second) ∙ f.1))

module _ (part whole : Reader) (P W : List Token → Condition → Type 0) (PE : Ending P) where
  simple_reaches : {style : Style} {front : List Token} {c : Condition} → Takes (read_as style part whole) (SpellsOpened style P W) (EndsOpened style P W PE) → Again (read_as style part whole) (SpellsOpened style P W) (EndsOpened style P W PE)
      → (rest : List Token) (begun : ℕ) (y : Condition × Pending) → SpellsSimple style front c → comparisons c ≤ 16 → begun ≤ 16 → read_as style part whole (pending begun (front ++ rest)) ≡ Ok y → length y.1.tokens ≤ length rest
  simple_reaches {style} {front} {c} takes again rest begun y truth few le e =
      omega (arith, ap length (exact (read_as style part whole) (SpellsOpened style P W) (EndsOpened style P W PE) takes again front rest c begun y (simple truth) tt few le e))
  simple_reaches {style} {front} {c} takes again rest begun y falsity few le e =
      omega (arith, ap length (exact (read_as style part whole) (SpellsOpened style P W) (EndsOpened style P W PE) takes again front rest c begun y (simple falsity) tt few le e))
  simple_reaches {style} {front} {c} takes again rest begun y (test is) few le e =
      omega (arith, ap length (exact (read_as style part whole) (SpellsOpened style P W) (EndsOpened style P W PE) takes again front rest c begun y (simple (test is)) tt few le e))
  simple_reaches {style} takes again rest begun y (compared {l = l} {r = r} {left = left} {right = right} {rel = rel} s spelled_left is spelled_right) few le e =
      let tokens : List Token = sign s ∷ r ++ rest in
      let begins = expr_begins tokens spelled_left in
      compared_reaches style begun l r rest left right rel s y spelled_left is spelled_right
      (sym (ap (λ (o : Opening). opened_by style part whole o (pending begun (l ++ tokens))) (begins.opens_so style))
      ∙ sym (ap (λ (ts : List Token). read_as style part whole (pending begun ts)) (append_assoc l (sign s ∷ r) rest)) ∙ e)

  opened_reaches : (style : Style) → Takes (read_as style part whole) (SpellsOpened style P W) (EndsOpened style P W PE) → Again (read_as style part whole) (SpellsOpened style P W) (EndsOpened style P W PE) → Reaches part P
      → Reaches (read_as style part whole) (SpellsOpened style P W)
  opened_reaches style takes again reaches front rest c begun y (simple s) few le e = simple_reaches takes again rest begun y s few le e
  opened_reaches style takes again reaches front rest c begun y (negated {front = inner} {c = d} p) few le e =
      let negation : opposite_by part (pending begun (word (codes "not") ∷ inner ++ rest)) ≡ Ok y =
      sym (ap (λ (o : Opening). opened_by style part whole o (pending begun (word (codes "not") ∷ inner ++ rest))) (opens_not style (inner ++ rest))) ∙ e in
      let a = bind_ok (part (pending begun (inner ++ rest))) (λ (x : Condition × Pending). Ok (opposite x.0, x.1)) y negation in
      omega (arith, left_there _ a.0.1 y a.2, reaches inner rest d begun a.0 p few le a.1)
  opened_reaches style takes again reaches front rest c begun y (bracketed w) few le e =
      omega (arith, ap length (exact (read_as style part whole) (SpellsOpened style P W) (EndsOpened style P W PE) takes again _ rest c begun y (bracketed w) tt few le e))

part_reaches : (style : Style) (room : ℕ) → Reaches (part_by style room) (SpellsPart style room)
unfolding part_by SpellsPart EndsPart
part_reaches style zero = opened_reaches too_deep too_deep Nothing Nothing Free style (part_taken style zero) (part_again style zero) (λ front rest c begun y spelled few le e. absurd spelled)
part_reaches style (suc room) =
    opened_reaches (part_by style room) (joined_by (part_by style room)) (SpellsPart style room) (SpellsJoined (SpellsPart style room)) (EndsPart style room) style
    (part_taken style (suc room)) (part_again style (suc room)) (part_reaches style room)

condition_reaches : (style : Style) (front rest : List Token) (c : Condition) (y : Condition × List Token) → SpellsCond style front c → condition_by style (front ++ rest) ≡ Ok y → length y.1 ≤ length rest
unfolding condition_by condition_within
condition_reaches style front rest c y spelled e =
    let a = bind_ok (joined_by (part_by style 16) (pending 0 (front ++ rest))) _ y e in
    omega (arith, left_is _ a.0.1.tokens y a.2, whole_reaches style 16 (part_reaches style 16) front rest c 0 a.0 spelled.derived spelled.few (omega arith) a.1)

-- no longer front of the tokens is a condition
pub longest_condition : (style : Style) (front longer left rest : List Token) (c d : Condition) (p : SpellsCond style front c) → EndsCond style front c p left → SpellsCond style longer d
    → front ++ left ≡ longer ++ rest → length longer ≤ length front
longest_condition style front longer left rest c d p ends q same =
    let read : condition_by style (longer ++ rest) ≡ Ok (c, left) = ap (condition_by style) (sym same) ∙ condition_again style front c left p ends in
    let reached = condition_reaches style longer rest d (c, left) q read in
    omega (arith, ap length same, length-append front left, length-append longer rest)
