-- A line that is read is spelled by its tokens.
use Rattle.std.proofs.Common.{◌≡◌, ℕ, true, false, cond, ⊎_elim, Option, None, Some, Ok, Err, List, [], ◌∷◌, ◌++◌, refl, sym, ap, subst, ◌∙◌, append_assoc}
use Rattle.std.specs.Prelude.{codes}
use Rattle.std.proofs.lemmas.List.{append-nil}
use Rattle.text_lines.proofs.StepLaws.{bind_ok, ok_is}
use Rattle.whole.specs.declared.answers.Refusal.{Refusal}
use Rattle.source_text.specs.declared.lexemes.Sign.TheVariants.{Assign}
use Rattle.source_text.specs.Tokens.{Token, word, sign}
use Rattle.source_text.specs.Shown.{Ahead}
use Rattle.condition_syntax.specs.Fronts.{says}
use Rattle.condition_syntax.specs.Trees.{Condition}
use Rattle.condition_syntax.proofs.FrontLaws.{chosen, guard_ok}
use Rattle.ctrl_syntax.specs.declared.syntax.StateLine.{StateLine}
use Rattle.ctrl_syntax.specs.declared.syntax.SetLine.{SetLine}
use Rattle.ctrl_syntax.specs.declared.syntax.RateLine.{RateLine}
use Rattle.ctrl_syntax.specs.Rest.{behind}
use Rattle.ctrl_syntax.specs.Grammar.{kind_word, SpellsState, SpellsGuard, when, otherwise, SpellsSet, SpellsTitled}
use Rattle.ctrl_syntax.specs.Reading.{lacks, expr_at, condition_at, name_at, word_at, kind_at, bound_at, assign_at, done_at, guarded, guard_at, state_at, head_at, set_at, titled_at, end_at}
use Rattle.ctrl_syntax.proofs.PartsTaken.{Between, Reads, says_between, expr_reads, condition_reads, name_reads, word_reads, assign_reads, kind_reads, bound_reads, done_reads}

-- two fronts, one behind the other
joined : (a b c : Ahead) (front more : List Token) → Between a b front → Between b c more → Between a c (front ++ more)
joined a b c front more p q = record { parts = p.parts ∙ ap (λ (ts : List Token). front ++ ts) q.parts ∙ sym (append_assoc front more c.tokens); line = q.line ∙ p.line }

-- up to the line's end
to_the_end : (a b : Ahead) (front : List Token) → Between a b front → b.tokens ≡ [] → a.tokens ≡ front
to_the_end a b front p e = p.parts ∙ ap (λ (ts : List Token). front ++ ts) e ∙ append-nil front

pub state_spelled : (a : Ahead) (s : StateLine) → says (codes "state") a.tokens ≡ true → state_at a ≡ Ok s → SpellsState a s
unfolding state_at
state_spelled a s named e =
    let name = bind_ok (name_at 4 (behind a)) _ s e in
    let kind = bind_ok (kind_at name.0.1) _ s name.2 in
    let init = bind_ok (word_at (codes "init") 4 kind.0.1) _ s kind.2 in
    let lo = bind_ok (bound_at init.0) _ s init.2 in
    let hi = bind_ok (bound_at lo.0.1) _ s lo.2 in
    let done = bind_ok (done_at hi.0.1) _ s hi.2 in
    let n = name_reads 4 (behind a) name.0 name.1 in
    let l = bound_reads init.0 lo.0 lo.1 in
    let h = bound_reads lo.0.1 hi.0 hi.1 in
    let bounds = joined init.0 lo.0.1 hi.0.1 l.front h.front l.between h.between in
    let from_init = joined kind.0.1 init.0 hi.0.1 (word (codes "init") ∷ []) (l.front ++ h.front) (word_reads (codes "init") 4 kind.0.1 init.0 init.1) bounds in
    let from_kind = joined name.0.1 kind.0.1 hi.0.1 (word (kind_word kind.0.0) ∷ []) (word (codes "init") ∷ (l.front ++ h.front)) (kind_reads name.0.1 kind.0 kind.1) from_init in
    let from_name = joined (behind a) name.0.1 hi.0.1 (word name.0.0 ∷ []) (word (kind_word kind.0.0) ∷ word (codes "init") ∷ (l.front ++ h.front)) n.between from_kind in
    let all = joined a (behind a) hi.0.1 (word (codes "state") ∷ []) (word name.0.0 ∷ word (kind_word kind.0.0) ∷ word (codes "init") ∷ (l.front ++ h.front)) (says_between (codes "state") a named) from_name in
    let made : StateLine = record { name = name.0.0; count = kind.0.0; lo = lo.0.0; hi = hi.0.0; line = a.line } in
    subst (SpellsState a) (ok_is {E = Refusal} made s done.2) (record {
      lo = l.front;
      hi = h.front;
      tokens_are = to_the_end a hi.0.1 _ all (done_reads hi.0.1 done.0 done.1);
      short = n.short;
      lo_is = l.spelled;
      hi_is = h.spelled;
      line_is = refl;
    })

-- what stands behind `rule`
abbrev pub GuardIs : List Token → Option Condition → Type 0
GuardIs front guard = SpellsGuard (word (codes "rule") ∷ front) guard

guard_reads : (a : Ahead) (x : Option Condition × Ahead) → guard_at a ≡ Ok x → Reads GuardIs a x
unfolding guard_at
guard_reads a x e = ⊎_elim tested other (chosen (says (codes "when") a.tokens) (guarded (condition_at (behind a))) (cond (says (codes "otherwise") a.tokens) (Ok (None, behind a)) (Err (lacks 5 a))) (Ok x) e)
  where
    tested : (says (codes "when") a.tokens ≡ true) × (guarded (condition_at (behind a)) ≡ Ok x) → Reads GuardIs a x
    tested p =
        let c = bind_ok (condition_at (behind a)) (λ c. Ok (Some c.0, c.1)) x p.1 in
        let r = condition_reads (behind a) c.0 c.1 in
        subst (Reads GuardIs a) {x = (Some c.0.0, c.0.1)} (ok_is {E = Refusal} (Some c.0.0, c.0.1) x c.2) (record {
          front = word (codes "when") ∷ r.front;
          between = joined a (behind a) c.0.1 (word (codes "when") ∷ []) r.front (says_between (codes "when") a p.0) r.between;
          spelled = when r.spelled;
        })

    other : (says (codes "when") a.tokens ≡ false) × (cond (says (codes "otherwise") a.tokens) (Ok (None, behind a)) (Err (lacks 5 a)) ≡ Ok x) → Reads GuardIs a x
    other p =
        let g = guard_ok (says (codes "otherwise") a.tokens) (None, behind a) x (lacks 5 a) p.1 in
        subst (Reads GuardIs a) g.1 (record { front = word (codes "otherwise") ∷ []; between = says_between (codes "otherwise") a g.0; spelled = otherwise })

-- a rule's line
pub record SpellsHead (a : Ahead) (x : Option Condition × ℕ) : Type 0 where
  pub spelled : SpellsGuard a.tokens x.0
  pub line_is : x.1 ≡ a.line

pub head_spelled : (a : Ahead) (x : Option Condition × ℕ) → says (codes "rule") a.tokens ≡ true → head_at a ≡ Ok x → SpellsHead a x
unfolding head_at
head_spelled a x named e =
    let guard = bind_ok (guard_at (behind a)) _ x e in
    let done = bind_ok (done_at guard.0.1) _ x guard.2 in
    let r = guard_reads (behind a) guard.0 guard.1 in
    let all = joined a (behind a) guard.0.1 (word (codes "rule") ∷ []) r.front (says_between (codes "rule") a named) r.between in
    let tokens_are = to_the_end a guard.0.1 (word (codes "rule") ∷ r.front) all (done_reads guard.0.1 done.0 done.1) in
    subst (SpellsHead a) {x = (guard.0.0, a.line)} (ok_is {E = Refusal} (guard.0.0, a.line) x done.2) (record {
      spelled = subst (λ (ts : List Token). SpellsGuard ts guard.0.0) (sym tokens_are) r.spelled;
      line_is = refl;
    })

pub set_spelled : (a : Ahead) (s : SetLine) → says (codes "set") a.tokens ≡ true → set_at a ≡ Ok s → SpellsSet a s
unfolding set_at
set_spelled a s named e =
    let name = bind_ok (name_at 6 (behind a)) _ s e in
    let assign = bind_ok (assign_at name.0.1) _ s name.2 in
    let terms = bind_ok (expr_at assign.0) _ s assign.2 in
    let done = bind_ok (done_at terms.0.1) _ s terms.2 in
    let n = name_reads 6 (behind a) name.0 name.1 in
    let r = expr_reads assign.0 terms.0 terms.1 in
    let from_sign = joined name.0.1 assign.0 terms.0.1 (sign Assign ∷ []) r.front (assign_reads name.0.1 assign.0 assign.1) r.between in
    let from_name = joined (behind a) name.0.1 terms.0.1 (word name.0.0 ∷ []) (sign Assign ∷ r.front) n.between from_sign in
    let all = joined a (behind a) terms.0.1 (word (codes "set") ∷ []) (word name.0.0 ∷ sign Assign ∷ r.front) (says_between (codes "set") a named) from_name in
    let made : SetLine = record { name = name.0.0; expr = record { terms = terms.0.0 }; line = a.line } in
    subst (SpellsSet a) (ok_is {E = Refusal} made s done.2) (record {
      front = r.front;
      tokens_are = to_the_end a terms.0.1 _ all (done_reads terms.0.1 done.0 done.1);
      short = n.short;
      expr_is = r.spelled;
      line_is = refl;
    })

pub titled_spelled : (title : List ℕ) (a : Ahead) (x : RateLine) → says title a.tokens ≡ true → titled_at a ≡ Ok x → SpellsTitled title a x
unfolding titled_at
titled_spelled title a x named e =
    let terms = bind_ok (expr_at (behind a)) _ x e in
    let done = bind_ok (done_at terms.0.1) _ x terms.2 in
    let r = expr_reads (behind a) terms.0 terms.1 in
    let all = joined a (behind a) terms.0.1 (word title ∷ []) r.front (says_between title a named) r.between in
    let made : RateLine = record { expr = record { terms = terms.0.0 }; line = a.line } in
    subst (SpellsTitled title a) (ok_is {E = Refusal} made x done.2) (record {
      front = r.front;
      tokens_are = to_the_end a terms.0.1 _ all (done_reads terms.0.1 done.0 done.1);
      expr_is = r.spelled;
      line_is = refl;
    })

pub end_spelled : (a : Ahead) (x : Unit {0}) → says (codes "end") a.tokens ≡ true → end_at a ≡ Ok x → a.tokens ≡ word (codes "end") ∷ []
unfolding end_at
end_spelled a x named e = to_the_end a (behind a) (word (codes "end") ∷ []) (says_between (codes "end") a named) (done_reads (behind a) x e)
