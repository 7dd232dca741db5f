-- What the readers' exact clauses say of what is read, what is spelled and what is refused.
use Rattle.std.proofs.Common.{◌≡◌, ℕ, Result, Ok, Err, List, ◌++◌, ◌⊎◌, inl, inr, refl, sym, ap, subst, ◌∙◌}
use Rattle.std.specs.Prelude.{IfOk, IsErrOf}
use Rattle.text_lines.proofs.StepLaws.{ok_is}
use Rattle.whole.specs.declared.answers.ReadFault.{ReadFault}
use Rattle.whole.specs.declared.answers.ReadFault.TheVariants.{Refused, NoMemory as NoRoom}
use Rattle.whole.specs.declared.answers.Refusal.{Refusal}
use Rattle.whole.specs.declared.answers.NoMemory.{NoMemory}
use Rattle.std.specs.Global.{Vec}
use Rattle.source_text.specs.Printed.{AreFromLine}
use Rattle.condition_syntax.specs.CanonicalText.{condition_text, expr_text}
use Rattle.condition_syntax.specs.CanonicalTokens.{Prints}
use Rattle.condition_syntax.proofs.ExpressionTexts.{expr_prints}
use Rattle.condition_syntax.proofs.ConditionTexts.{condition_prints, nests_no_deeper}
use Rattle.text_lines.specs.Steps.{Fails}
use Rattle.source_text.specs.Tokens.{Token}
use Rattle.condition_syntax.specs.declared.conditions.Style.{Style}
use Rattle.condition_syntax.specs.declared.conditions.Cond.{Cond}
use Rattle.condition_syntax.specs.declared.expressions.Expr.{Expr}
use Rattle.condition_syntax.specs.declared.expressions.ETerm.{ETerm}
use Rattle.condition_syntax.specs.declared.faults.Fault.{Fault}
use Rattle.condition_syntax.specs.declared.faults.ReadStop.{ReadStop}
use Rattle.condition_syntax.specs.declared.faults.ReadStop.TheVariants.{Fault as Faulty, NoMemory as OutOfMemory}
use Rattle.condition_syntax.specs.Halts.{Halts}
use Rattle.condition_syntax.specs.RefusalRules.{refusal, fault_of, refused, GivesRead, IsRefusedBy}
use Rattle.condition_syntax.specs.WrongTokens.{RefusesExpr, RefusesCond}
use Rattle.condition_syntax.proofs.RefusedFrom.{expr_refused}
use Rattle.condition_syntax.proofs.ConditionsRefused.{condition_refused}
use Rattle.condition_syntax.proofs.RefusedAgain.{expr_stops, condition_stops}
use Rattle.condition_syntax.specs.Trees.{Condition, condition_of}
use Rattle.condition_syntax.specs.Expressions.{Read, expr_by}
use Rattle.condition_syntax.specs.Conditions.{condition_by}
use Rattle.condition_syntax.specs.Grammar.{SpellsExpr, SpellsCond, SpellsJoined, SpellsPart}
use Rattle.condition_syntax.specs.Ends.{Taken, EndsExpr, EndsCond}
use Rattle.condition_syntax.proofs.ExpressionsTaken.{expr_taken}
use Rattle.condition_syntax.proofs.ExpressionsAgain.{expr_again}
use Rattle.condition_syntax.proofs.ConditionsTaken.{condition_taken}
use Rattle.condition_syntax.proofs.ConditionsAgain.{condition_again}

not_refused : {X : Type 0} (style : Style) (line : ℕ) (r : Result X Fault) (x : X) → refused style line r ≡ Ok x → r ≡ Ok x
not_refused style line (Ok y) x e = cc
not_refused style line (Err fault) x e = absurd (cc)

-- a halt is the fault of what is read
pub halt_fails : {X : Type 0} (style : Style) (line : ℕ) (halt : ReadStop) (read : Result X Fault) → Halts halt read → Fails (fault_of style line halt) (refused style line read)
halt_fails style line (Faulty fault) read halts = ap (refused style line) halts
halt_fails style line OutOfMemory read halts = tt

module _ (style : Style) (line : ℕ) (tokens left : List Token) where
  pub expr_is_taken : (r : Result Expr ReadFault) → GivesRead (λ (e : Expr). e.terms) r left (refused style line (expr_by style tokens)) → IfOk r (λ e. Taken (SpellsExpr style) (EndsExpr style) tokens (e.terms, left))
  expr_is_taken (Ok e) gives = expr_taken style tokens (e.terms, left) (not_refused style line (expr_by style tokens) (e.terms, left) gives)
  expr_is_taken (Err fault) gives = tt

  pub expr_is_read : (r : Result Expr ReadFault) → GivesRead (λ (e : Expr). e.terms) r left (refused style line (expr_by style tokens))
      → (front rest : List Token) (ts : List ETerm) (spelled : SpellsExpr style front ts) → EndsExpr style front ts spelled rest → tokens ≡ front ++ rest → GivesRead (λ (e : Expr). e.terms) r left (Ok (ts, rest))
  expr_is_read r gives front rest ts spelled ends e =
      let read : refused style line (expr_by style tokens) ≡ Ok (ts, rest) = ap (λ (t : List Token). refused style line (expr_by style t)) e ∙ ap (refused style line) (expr_again rest spelled ends) in
      subst (GivesRead (λ (e : Expr). e.terms) r left) read gives

  pub condition_is_taken : (r : Result Cond ReadFault) → GivesRead condition_of r left (refused style line (condition_by style tokens)) → IfOk r (λ c. Taken (SpellsCond style) (EndsCond style) tokens (condition_of c, left))
  condition_is_taken (Ok c) gives = condition_taken style tokens (condition_of c, left) (not_refused style line (condition_by style tokens) (condition_of c, left) gives)
  condition_is_taken (Err fault) gives = tt

  pub condition_is_read : (r : Result Cond ReadFault) → GivesRead condition_of r left (refused style line (condition_by style tokens))
      → (front rest : List Token) (c : Condition) (spelled : SpellsCond style front c) → EndsCond style front c spelled rest → tokens ≡ front ++ rest → GivesRead condition_of r left (Ok (c, rest))
  condition_is_read r gives front rest c spelled ends e =
      let read : refused style line (condition_by style tokens) ≡ Ok (c, rest) = ap (λ (t : List Token). refused style line (condition_by style t)) e ∙ ap (refused style line) (condition_again style front c rest spelled ends) in
      subst (GivesRead condition_of r left) read gives

-- ---- refusals

err_of : {X : Type 0} (style : Style) (line : ℕ) (read : Result X Fault) (r : Refusal) → refused style line read ≡ Err r → (fault : Fault) × ((read ≡ Err fault) × (r ≡ refusal style line fault))
err_of style line (Ok x) r e = absurd (cc)
err_of style line (Err fault) r e = (fault, (refl, cc))

-- what a call refuses is refused by a fault of what is read
refused_by : {X Y : Type 0} (view : X → Y) (style : Style) (line : ℕ) (left : List Token) (read : Read Y) (Refuses : Fault → Type 0) → ((fault : Fault) → read ≡ Err fault → Refuses fault)
    → (result : Result X ReadFault) → GivesRead view result left (refused style line read) → (r : Refusal) → IsErrOf result (Refused r) → IsRefusedBy style line Refuses r
refused_by view style line left read Refuses from (Ok x) gives r is = absurd (cc)
refused_by view style line left read Refuses from (Err NoRoom) gives r is = absurd (cc)
refused_by {X} view style line left read Refuses from (Err (Refused s)) gives r is =
    let f = err_of style line read s gives in
    subst (IsRefusedBy style line Refuses) (refusal_is s r is) (f.0, (from f.0 f.1.0, f.1.1))
  where
    refusal_is : (s r : Refusal) → ◌≡◌ {A = Result X ReadFault} (Err (Refused s)) (Err (Refused r)) → s ≡ r
    refusal_is s r e = cc

module _ (style : Style) (line : ℕ) (tokens left : List Token) where
  pub expr_is_refused : (result : Result Expr ReadFault) → GivesRead (λ (e : Expr). e.terms) result left (refused style line (expr_by style tokens)) → (r : Refusal) → IsErrOf result (Refused r)
      → IsRefusedBy style line (RefusesExpr style tokens) r
  expr_is_refused = refused_by (λ (e : Expr). e.terms) style line left (expr_by style tokens) (RefusesExpr style tokens) (expr_refused style tokens)

  pub expr_is_first : (result : Result Expr ReadFault) → GivesRead (λ (e : Expr). e.terms) result left (refused style line (expr_by style tokens)) → (fault : Fault) → RefusesExpr style tokens fault
      → GivesRead (λ (e : Expr). e.terms) result left (Err (refusal style line fault))
  expr_is_first result gives fault is = subst (GivesRead (λ (e : Expr). e.terms) result left) (ap (refused style line) (expr_stops is)) gives

  pub condition_is_refused : (result : Result Cond ReadFault) → GivesRead condition_of result left (refused style line (condition_by style tokens)) → (r : Refusal) → IsErrOf result (Refused r)
      → IsRefusedBy style line (RefusesCond style tokens) r
  condition_is_refused = refused_by condition_of style line left (condition_by style tokens) (RefusesCond style tokens) (condition_refused style tokens)

  pub condition_is_first : (result : Result Cond ReadFault) → GivesRead condition_of result left (refused style line (condition_by style tokens)) → (fault : Fault) → RefusesCond style tokens fault
      → GivesRead condition_of result left (Err (refusal style line fault))
  condition_is_first result gives fault is = subst (GivesRead condition_of result left) (ap (refused style line) (condition_stops style tokens fault is)) gives

-- ---- tokens begin with one value alone, or are refused by one fault alone

same_value : {X : Type 0} (x y : X × List Token) → ◌≡◌ {A = Read X} (Ok x) (Ok y) → (x.0 ≡ y.0) × (x.1 ≡ y.1)
same_value x y e = let h = ok_is {E = Fault} x y e in (ap (λ (p : _). p.0) h, ap (λ (p : _). p.1) h)

same_fault : {X : Type 0} (a b : Fault) → ◌≡◌ {A = Result X Fault} (Err a) (Err b) → a ≡ b
same_fault a b e = cc

pub one_condition : (style : Style) (front longer left rest : List Token) (c d : Condition) (p : SpellsCond style front c) (q : SpellsCond style longer d) → EndsCond style front c p left → EndsCond style longer d q rest
    → front ++ left ≡ longer ++ rest → (c ≡ d) × (left ≡ rest)
one_condition style front longer left rest c d p q ends also e =
    same_value (c, left) (d, rest) (sym (condition_again style front c left p ends) ∙ ap (condition_by style) e ∙ condition_again style longer d rest q also)

pub one_condition_fault : (style : Style) (tokens : List Token) (a b : Fault) → RefusesCond style tokens a → RefusesCond style tokens b → a ≡ b
one_condition_fault style tokens a b p q = same_fault {X = Condition × List Token} a b (sym (condition_stops style tokens a p) ∙ condition_stops style tokens b q)

pub no_condition : (style : Style) (front left : List Token) (c : Condition) (a : Fault) (p : SpellsCond style front c) → EndsCond style front c p left → RefusesCond style (front ++ left) a → ⊥
no_condition style front left c a p ends q = let h = sym (condition_again style front c left p ends) ∙ condition_stops style (front ++ left) a q in cc

pub one_expr : (style : Style) (front longer left rest : List Token) (ts us : List ETerm) (p : SpellsExpr style front ts) (q : SpellsExpr style longer us) → EndsExpr style front ts p left → EndsExpr style longer us q rest
    → front ++ left ≡ longer ++ rest → (ts ≡ us) × (left ≡ rest)
one_expr style front longer left rest ts us p q ends also e = same_value (ts, left) (us, rest) (sym (expr_again left p ends) ∙ ap (expr_by style) e ∙ expr_again rest q also)

pub one_expr_fault : (style : Style) (tokens : List Token) (a b : Fault) → RefusesExpr style tokens a → RefusesExpr style tokens b → a ≡ b
one_expr_fault style tokens a b p q = same_fault {X = List ETerm × List Token} a b (sym (expr_stops p) ∙ expr_stops q)

pub no_expr : (style : Style) (front left : List Token) (ts : List ETerm) (a : Fault) (p : SpellsExpr style front ts) → EndsExpr style front ts p left → RefusesExpr style (front ++ left) a → ⊥
no_expr style front left ts a p ends q = let h = sym (expr_again left p ends) ∙ expr_stops q in cc

-- tokens begin with an expression, or are refused
pub either_expr : (style : Style) (tokens : List Token) → ((x : List ETerm × List Token) × Taken (SpellsExpr style) (EndsExpr style) tokens x) ⊎ ((a : Fault) × RefusesExpr style tokens a)
either_expr style tokens = by (expr_by style tokens) refl
  where
    by : (r : Read (List ETerm)) → expr_by style tokens ≡ r → ((x : List ETerm × List Token) × Taken (SpellsExpr style) (EndsExpr style) tokens x) ⊎ ((a : Fault) × RefusesExpr style tokens a)
    by (Ok x) e = inl (x, expr_taken style tokens x e)
    by (Err a) e = inr (a, expr_refused style tokens a e)

-- tokens begin with a condition, or are refused
pub either_condition : (style : Style) (tokens : List Token) → ((x : Condition × List Token) × Taken (SpellsCond style) (EndsCond style) tokens x) ⊎ ((a : Fault) × RefusesCond style tokens a)
either_condition style tokens = by (condition_by style tokens) refl
  where
    by : (r : Read Condition) → condition_by style tokens ≡ r → ((x : Condition × List Token) × Taken (SpellsCond style) (EndsCond style) tokens x) ⊎ ((a : Fault) × RefusesCond style tokens a)
    by (Ok x) e = inl (x, condition_taken style tokens x e)
    by (Err a) e = inr (a, condition_refused style tokens a e)

-- ---- printing

module _ (style : Style) (front : List Token) where
  pub condition_is_printed : (c : Condition) (r : Result (Vec ℕ) NoMemory) → IfOk r (λ v. v.items ≡ condition_text c) → SpellsCond style front c → AreFromLine front → IfOk r (λ v. Prints (SpellsCond style) v.items c)
  condition_is_printed c (Ok v) is spelled from = subst (λ (text : List ℕ). Prints (SpellsCond style) text c) (sym is) (condition_prints style front c spelled from)
  condition_is_printed c (Err fault) is spelled from = tt

  pub expr_is_printed : (ts : List ETerm) (r : Result (Vec ℕ) NoMemory) → IfOk r (λ v. v.items ≡ expr_text ts) → SpellsExpr style front ts → AreFromLine front → IfOk r (λ v. Prints (SpellsExpr style) v.items ts)
  expr_is_printed ts (Ok v) is spelled from = subst (λ (text : List ℕ). Prints (SpellsExpr style) text ts) (sym is) (expr_prints spelled from)
  expr_is_printed ts (Err fault) is spelled from = tt

-- the text nests no deeper
pub is_no_deeper : (style : Style) (room : ℕ) (front : List Token) (c : Condition) (r : Result (Vec ℕ) NoMemory) → IfOk r (λ v. v.items ≡ condition_text c) → SpellsJoined (SpellsPart style room) front c → AreFromLine front
    → IfOk r (λ v. Prints (SpellsJoined (SpellsPart style room)) v.items c)
is_no_deeper style room front c (Ok v) is spelled from = subst (λ (text : List ℕ). Prints (SpellsJoined (SpellsPart style room)) text c) (sym is) (nests_no_deeper style room front c spelled from)
is_no_deeper style room front c (Err fault) is spelled from = tt
