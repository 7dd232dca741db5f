-- The first broken rule: it is what the statements' tests answer, and there is only one.
use Rattle.std.proofs.Common.{◌≡◌, ℕ, zero, suc, ◌+◌, ◌<◌, ◌≤◌, Bool, true, false, inl, inr, Result, Ok, Err, List, [], ◌∷◌, length, refl, sym, ap, subst, ◌∙◌, arith}
use Rattle.std.specs.Prelude.{All}
use Rattle.std.proofs.lemmas.Bool.{cases_lt}
use Rattle.std.proofs.lemmas.List.Elements.{All-head, All-tail, All-weaker}
use Rattle.weighing.specs.First.{and_then, first}
use Rattle.weighing.proofs.Events.{each_passed, first-append, first_is_first}
use Rattle.whole.specs.declared.answers.Refusal.{Refusal}
use Rattle.ctrl_syntax.specs.declared.syntax.StateLine.{StateLine}
use Rattle.ctrl_syntax.specs.Sections.{Sections}
use Rattle.ctrl_types.specs.declared.breaches.Breach.{Breach}
use Rattle.ctrl_types.specs.declared.breaches.Breach.TheVariants.{Reserved, Unknown, Kinds, Bounds, Twice, Otherwise, Delay, Denominators, Count}
use Rattle.ctrl_types.specs.Resolving.{demand, on_line}
use Rattle.ctrl_types.specs.Statements.{IsFirstBroken, IsUnbroken, IsWhole, Statement, breaks, line_of, number_of, refusal_of, statements}
use Rattle.ctrl_types.proofs.EndAlike.{asked, breaches, judged, verdict}

-- ---- the rules by their numbers

breach_at : ℕ → Breach
breach_at zero = Reserved
breach_at (suc zero) = Reserved
breach_at (suc (suc zero)) = Unknown
breach_at (suc (suc (suc zero))) = Kinds
breach_at (suc (suc (suc (suc zero)))) = Bounds
breach_at (suc (suc (suc (suc (suc zero))))) = Twice
breach_at (suc (suc (suc (suc (suc (suc zero)))))) = Otherwise
breach_at (suc (suc (suc (suc (suc (suc (suc zero))))))) = Delay
breach_at (suc (suc (suc (suc (suc (suc (suc (suc zero)))))))) = Denominators
breach_at (suc (suc (suc (suc (suc (suc (suc (suc (suc n))))))))) = Count

at_number : (b : Breach) → breach_at (number_of b) ≡ b
unfolding breach_at
at_number Reserved = refl
at_number Unknown = refl
at_number Kinds = refl
at_number Bounds = refl
at_number Twice = refl
at_number Otherwise = refl
at_number Delay = refl
at_number Denominators = refl
at_number Count = refl

same_breach : (b c : Breach) → number_of b ≡ number_of c → b ≡ c
same_breach b c e = sym (at_number b) ∙ ap breach_at e ∙ at_number c

record IsNumbered (b : Breach) : Type 0 where
  from : 1 ≤ number_of b
  to : number_of b < 10

numbered : (b : Breach) → IsNumbered b
numbered Reserved = record { from = omega arith; to = omega arith }
numbered Unknown = record { from = omega arith; to = omega arith }
numbered Kinds = record { from = omega arith; to = omega arith }
numbered Bounds = record { from = omega arith; to = omega arith }
numbered Twice = record { from = omega arith; to = omega arith }
numbered Otherwise = record { from = omega arith; to = omega arith }
numbered Delay = record { from = omega arith; to = omega arith }
numbered Denominators = record { from = omega arith; to = omega arith }
numbered Count = record { from = omega arith; to = omega arith }

-- the rules stand by their numbers from n on
abbrev AreInOrder : ℕ → List Breach → Type 0
AreInOrder n [] = Unit {0}
AreInOrder n (c ∷ cs) = (number_of c ≡ n) × AreInOrder (n + 1) cs

in_order : AreInOrder 1 breaches
in_order = (refl, (refl, (refl, (refl, (refl, (refl, (refl, (refl, (refl, tt)))))))))

-- ---- one statement

module _ (states : List StateLine) (x : Statement) where
  -- the rule that a statement breaks first
  record IsLeast (n : ℕ) (b : Breach) : Type 0 where
    broken : breaks states x b ≡ true
    least : (c : Breach) → n ≤ number_of c → number_of c < number_of b → breaks states x c ≡ false

  least_in : (n : ℕ) (cs : List Breach) (b : Breach) → AreInOrder n cs → first (asked states x) cs ≡ Err b → IsLeast n b
  least_in n [] b order e = absurd (cc)
  least_in n (c ∷ cs) b order e = by (breaks states x c) refl e (λ p. least_in (n + 1) cs b order.1 p)
    where
      by : (t : Bool) → breaks states x c ≡ t → and_then (demand t c) (first (asked states x) cs) ≡ Err b
          → (first (asked states x) cs ≡ Err b → IsLeast (n + 1) b) → IsLeast n b
      by true p q rest =
          let same : c ≡ b = cc in
          record { broken = subst (λ d. breaks states x d ≡ true) same p; least = λ d from below. let at : number_of b ≡ n = ap number_of (sym same) ∙ order.0 in absurd (omega arith) }
      by false p q rest =
          let later = rest q in
          record {
            broken = later.broken;
            least = λ d from below. elim (cases_lt n (number_of d)) [
              | inl above ↦ later.least d (omega arith) below
              | inr here ↦ let at : number_of c ≡ number_of d = order.0 ∙ omega arith in subst (λ k. breaks states x k ≡ false) (same_breach c d at) p
            ];
          }

  whole_in : (n : ℕ) (cs : List Breach) → AreInOrder n cs → first (asked states x) cs ≡ Ok tt → (c : Breach) → n ≤ number_of c → number_of c < n + length cs → breaks states x c ≡ false
  whole_in n [] order e c from to = absurd (omega arith)
  whole_in n (d ∷ cs) order e c from to = by (breaks states x d) refl e (λ p below. whole_in (n + 1) cs order.1 p c below (omega arith))
    where
      by : (t : Bool) → breaks states x d ≡ t → and_then (demand t d) (first (asked states x) cs) ≡ Ok tt
          → (first (asked states x) cs ≡ Ok tt → n + 1 ≤ number_of c → breaks states x c ≡ false) → breaks states x c ≡ false
      by true p q rest = absurd (cc)
      by false p q rest = elim (cases_lt n (number_of c)) [
        | inl above ↦ rest q (omega arith)
        | inr here ↦ let at : number_of d ≡ number_of c = order.0 ∙ omega arith in subst (λ k. breaks states x k ≡ false) (same_breach d c at) p
      ]

  -- and back
  again_least : (n : ℕ) (cs : List Breach) (b : Breach) → AreInOrder n cs → n ≤ number_of b → number_of b < n + length cs → IsLeast n b → first (asked states x) cs ≡ Err b
  again_least n [] b order from to is = absurd (omega arith)
  again_least n (c ∷ cs) b order from to is = elim (cases_lt n (number_of b)) [
    | inl above ↦
        let fewer : number_of c < number_of b = omega (arith, order.0) in
        let passed = is.least c (omega (arith, order.0)) fewer in
        ap (λ t. and_then (demand t c) (first (asked states x) cs)) passed
        ∙ again_least (n + 1) cs b order.1 (omega arith) (omega arith) (record { broken = is.broken; least = λ d from_d below. is.least d (omega arith) below })
    | inr here ↦
        let at : number_of c ≡ number_of b = order.0 ∙ omega arith in
        let same = same_breach c b at in
        let breaks_it : breaks states x c ≡ true = subst (λ k. breaks states x k ≡ true) (sym same) is.broken in
        ap (λ t. and_then (demand t c) (first (asked states x) cs)) breaks_it ∙ ap (λ k. Err k) same
  ]

  again_whole : (cs : List Breach) → IsWhole states x → first (asked states x) cs ≡ Ok tt
  again_whole [] whole = refl
  again_whole (c ∷ cs) whole = ap (λ t. and_then (demand t c) (first (asked states x) cs)) (whole c) ∙ again_whole cs whole

  whole_is : judged states x ≡ Ok tt → IsWhole states x
  whole_is e c = by (verdict states x) refl e
    where
      by : (v : Result (Unit {0}) Breach) → verdict states x ≡ v → on_line (line_of x.says) v ≡ Ok tt → breaks states x c ≡ false
      by (Ok _) p q = let number = numbered c in whole_in 1 breaches in_order p c number.from number.to
      by (Err b) p q = absurd (cc)

  -- what a statement is refused for
  record IsBroken (r : Refusal) : Type 0 where
    breach : Breach
    broken : breaks states x breach ≡ true
    least : (b : Breach) → number_of b < number_of breach → breaks states x b ≡ false
    refusal : r ≡ refusal_of breach (line_of x.says)

  broken_is : (r : Refusal) → judged states x ≡ Err r → IsBroken r
  broken_is r e = by (verdict states x) refl e
    where
      by : (v : Result (Unit {0}) Breach) → verdict states x ≡ v → on_line (line_of x.says) v ≡ Err r → IsBroken r
      by (Ok _) p q = absurd (cc)
      by (Err b) p q =
          let is = least_in 1 breaches b in_order p in
          record { breach = b; broken = is.broken; least = λ c below. let number = numbered c in is.least c number.from below; refusal = cc }

  judged_again : (b : Breach) → breaks states x b ≡ true → ((c : Breach) → number_of c < number_of b → breaks states x c ≡ false) → judged states x ≡ Err (refusal_of b (line_of x.says))
  judged_again b broken least =
      let number = numbered b in
      ap (on_line (line_of x.says)) (again_least 1 breaches b in_order number.from number.to (record { broken = broken; least = λ c from below. least c below }))

-- ---- all statements

pub first_broken : (sections : Sections) (r : Refusal) → first (judged sections.states) (statements sections) ≡ Err r → IsFirstBroken sections r
first_broken sections r e =
    let is = first_is_first (judged sections.states) (statements sections) r e in
    let broken = broken_is sections.states is.stop r is.answer in
    record {
      before = is.before;
      stop = is.stop;
      after = is.after;
      parts = is.parts;
      whole = All-weaker (λ x. judged sections.states x ≡ Ok tt) (IsWhole sections.states) (λ x passed. whole_is sections.states x passed) is.before is.passed;
      breach = broken.breach;
      broken = broken.broken;
      least = broken.least;
      refusal = broken.refusal;
    }

pub unbroken : (sections : Sections) → first (judged sections.states) (statements sections) ≡ Ok tt → IsUnbroken sections
unbroken sections e =
    All-weaker (λ x. judged sections.states x ≡ Ok tt) (IsWhole sections.states) (λ x passed. whole_is sections.states x passed) (statements sections)
    (each_passed (judged sections.states) (statements sections) e)

all_whole : (states : List StateLine) (xs : List Statement) → All (IsWhole states) xs → first (judged states) xs ≡ Ok tt
all_whole states [] each = refl
all_whole states (x ∷ xs) each =
    let here : judged states x ≡ Ok tt = ap (on_line (line_of x.says)) (again_whole states x breaches (All-head (IsWhole states) x xs each)) in
    ap (λ t. and_then t (first (judged states) xs)) here ∙ all_whole states xs (All-tail (IsWhole states) x xs each)

pub unbroken_again : (sections : Sections) → IsUnbroken sections → first (judged sections.states) (statements sections) ≡ Ok tt
unbroken_again sections whole = all_whole sections.states (statements sections) whole

pub broken_again : (sections : Sections) (r : Refusal) → IsFirstBroken sections r → first (judged sections.states) (statements sections) ≡ Err r
broken_again sections r is =
    let states : List StateLine = sections.states in
    let here : judged states is.stop ≡ Err r = judged_again states is.stop is.breach is.broken is.least ∙ ap (λ s. Err s) (sym is.refusal) in
    ap (first (judged states)) is.parts
    ∙ first-append (judged states) is.before (is.stop ∷ is.after)
    ∙ ap (λ t. and_then t (first (judged states) (is.stop ∷ is.after))) (all_whole states is.before is.whole)
    ∙ ap (λ t. and_then t (first (judged states) is.after)) here

-- a text has one first broken rule at most
pub first_broken_is_one : (sections : Sections) (r s : Refusal) → IsFirstBroken sections r → IsFirstBroken sections s → r ≡ s
first_broken_is_one sections r s one two =
    let a = broken_again sections r one in
    let b = broken_again sections s two in
    cc

pub never_both : (sections : Sections) (r : Refusal) → IsFirstBroken sections r → IsUnbroken sections → ⊥
never_both sections r broken whole =
    let a = broken_again sections r broken in
    let b = unbroken_again sections whole in
    absurd (cc)
