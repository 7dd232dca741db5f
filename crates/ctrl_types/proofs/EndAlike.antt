-- What is read of a text and what is asked of its statements end alike.
use Rattle.std.proofs.Common.{◌≡◌, ℕ, Bool, true, false, ◌||◌, Option, Some, None, Result, Ok, Err, List, [], ◌∷◌, refl, sym, ap, subst, ◌∙◌}
use Rattle.std.specs.Prelude.{is_none}
use Rattle.text_lines.specs.Steps.{◌>>=◌}
use Rattle.weighing.specs.First.{and_then, first}
use Rattle.whole.specs.declared.answers.Refusal.{Refusal}
use Rattle.ctrl_syntax.specs.declared.syntax.StateLine.{StateLine}
use Rattle.ctrl_types.specs.declared.breaches.Breach.{Breach}
use Rattle.ctrl_types.specs.declared.breaches.Breach.TheVariants.{Reserved, Unknown, Kinds, Bounds, Twice, Otherwise, Delay, Denominators, Count}
use Rattle.ctrl_types.specs.Statements.{Statement, breaks, line_of, refusal_of}
use Rattle.ctrl_types.specs.Resolving.{demand, wanted, on_line}

-- a value of which P holds where nothing stops, or the same error
pub data Agrees {X E : Type 0} (P : X → Type 0) : Result X E → Result (Unit {0}) E → Type 0 where
  fine : (x : X) → P x → Agrees P (Ok x) (Ok tt)
  stops : (e : E) → Agrees P (Err e) (Err e)

pub agrees_then : {X Y E : Type 0} {P : X → Type 0} {Q : Y → Type 0} {r : Result X E} {t u : Result (Unit {0}) E} {f : X → Result Y E}
    → Agrees P r t → ((x : X) → P x → Agrees Q (f x) u) → Agrees Q (r >>= f) (and_then t u)
agrees_then (fine x is) next = next x is
agrees_then (stops e) next = stops e

-- the last step
pub agrees_map : {X Y E : Type 0} {P : X → Type 0} {Q : Y → Type 0} {r : Result X E} {t : Result (Unit {0}) E} {f : X → Result Y E}
    → Agrees P r t → ((x : X) → P x → Agrees Q (f x) (Ok tt)) → Agrees Q (r >>= f) t
agrees_map (fine x is) next = next x is
agrees_map (stops e) next = stops e

pub agrees_weaker : {X E : Type 0} {P Q : X → Type 0} {r : Result X E} {t : Result (Unit {0}) E} → Agrees P r t → ((x : X) → P x → Q x) → Agrees Q r t
agrees_weaker (fine x is) to = fine x (to x is)
agrees_weaker (stops e) to = stops e

pub agrees_demand : (broken : Bool) (breach : Breach) → Agrees (λ _. broken ≡ false) (demand broken breach) (demand broken breach)
agrees_demand true breach = stops breach
agrees_demand false breach = fine tt refl

-- the same of a test that is asked otherwise
pub agrees_same : (broken same : Bool) (breach : Breach) → broken ≡ same → Agrees (λ _. same ≡ false) (demand broken breach) (demand same breach)
agrees_same broken same breach e = subst (λ b. Agrees (λ _. same ≡ false) (demand b breach) (demand same breach)) (sym e) (agrees_demand same breach)

pub agrees_wanted : {X : Type 0} (found : Option X) (broken : Bool) (breach : Breach) → broken ≡ is_none found
    → Agrees (λ x. (found ≡ Some x) × (broken ≡ false)) (wanted found breach) (demand broken breach)
agrees_wanted None true breach e = stops breach
agrees_wanted None false breach e = absurd (cc)
agrees_wanted (Some x) true breach e = absurd (cc)
agrees_wanted (Some x) false breach e = fine x (refl, refl)

pub agrees_line : {X : Type 0} {P : X → Type 0} {r : Result X Breach} {t : Result (Unit {0}) Breach} (line : ℕ) → Agrees P r t → Agrees P (on_line line r) (on_line line t)
agrees_line line (fine x is) = fine x is
agrees_line line (stops breach) = stops (refusal_of breach line)

pub demand-or : (a b : Bool) (breach : Breach) → demand (a || b) breach ≡ and_then (demand a breach) (demand b breach)
demand-or true b breach = refl
demand-or false b breach = refl

then_assoc : {E : Type 0} (t u v : Result (Unit {0}) E) → and_then (and_then t u) v ≡ and_then t (and_then u v)
then_assoc (Ok _) u v = refl
then_assoc (Err e) u v = refl

-- one rule that is asked in two steps
pub agrees_or : {X Y : Type 0} {P : X → Type 0} {Q : Y → Type 0} {r : Result X Breach} {f : X → Result Y Breach} (a b : Bool) (breach : Breach) (u : Result (Unit {0}) Breach)
    → Agrees P r (demand a breach) → ((x : X) → P x → Agrees Q (f x) (and_then (demand b breach) u)) → Agrees Q (r >>= f) (and_then (demand (a || b) breach) u)
agrees_or {Q} {r} {f} a b breach u one next =
    subst (Agrees Q (r >>= f)) (sym (ap (λ t. and_then t u) (demand-or a b breach) ∙ then_assoc (demand a breach) (demand b breach) u)) (agrees_then one next)

-- ---- the rules of one statement, in their order

abbrev pub breaches : List Breach
breaches = Reserved ∷ Unknown ∷ Kinds ∷ Bounds ∷ Twice ∷ Otherwise ∷ Delay ∷ Denominators ∷ Count ∷ []

abbrev pub asked : List StateLine → Statement → Breach → Result (Unit {0}) Breach
asked states x breach = demand (breaks states x breach) breach

-- the first rule that a statement breaks
abbrev pub verdict : List StateLine → Statement → Result (Unit {0}) Breach
verdict states x = first (asked states x) breaches

-- with its line
abbrev pub judged : List StateLine → Statement → Result (Unit {0}) Refusal
judged states x = on_line (line_of x.says) (verdict states x)
