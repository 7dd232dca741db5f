-- Epsilon, variable by variable.
use Rattle.std.proofs.Common.{◌≡◌, ℕ, ◌+◌, ◌<◌, ◌⊎◌, Bool, true, false, Option, None, Some, Result, Ok, Err, inl, inr, refl, sym, subst, ◌∙◌, pos, arith}
use Rattle.std.specs.Result.{IfErr}
use Rattle.std.proofs.lemmas.Bool.{cases_order}
use Rattle.ordered_field.specs.Rational.{ℚ, whole}
use Rattle.ordered_field.specs.Order.{◌<ℚ◌}
use Rattle.ordered_field.specs.Delta.{DeltaValue}
use Rattle.ordered_field.proofs.Fractions.{whole-<ℚ}
use Rattle.tableau.specs.Tables.{variables}
use Rattle.whole.specs.declared.answers.Stuck.{Stuck}
use Rattle.simplex.specs.Corners.{Corner}
use Rattle.simplex.specs.InForce.{number_in_force}
use Rattle.corner_values.specs.Epsilon.{IsLeastOf, MeetAt, Orders, IsQuotientOn, IsQuotient, IsEpsilon}
use Rattle.corner_values.specs.Faults.{IsStuckMeeting, IsStuckOn, IsStuckEpsilon}
use Rattle.corner_values.proofs.LeastLaws.{least_of_none, least_like, least_more, least_positive}
use Rattle.corner_values.proofs.MeetingLaws.{meet_positive}

some_injective : {A : Type 0} (x y : A) (o : Option A) → o ≡ Some x → o ≡ Some y → x ≡ y
some_injective x y o e f = let h : Some x ≡ Some y = sym e ∙ f in cc

not_none : {A : Type 0} (x : A) (o : Option A) → o ≡ None → o ≡ Some x → ⊥
not_none x o e f = let h : None ≡ Some x = sym e ∙ f in cc

pub if_err : {T E : Type 0} (r : Result T E) {P Q : E → Type 0} → ((e : E) → P e → Q e) → IfErr r P → IfErr r Q
if_err (Ok x) f h = h
if_err (Err e) f h = f e h

-- ---- one side: which two numbers are ordered there

-- the two numbers that a limit orders are these
pub record AreOrdered {F : Type 0} (c : Corner F) (upper : Bool) (v : ℕ) (x y : DeltaValue) : Type 0 where
  pub there : Orders c upper v x y
  pub only : (x' y' : DeltaValue) → Orders c upper v x' y' → (x' ≡ x) × (y' ≡ y)

pub ordered_below : {F : Type 0} (c : Corner F) (v : ℕ) (x y : DeltaValue) → number_in_force false v c.limits ≡ Some x → y ≡ c.value v → AreOrdered c false v x y
ordered_below c v x y e f = record { there = (e, f); only = λ x' y' h. (some_injective x' x _ h.0 e, h.1 ∙ sym f) }

pub ordered_above : {F : Type 0} (c : Corner F) (v : ℕ) (x y : DeltaValue) → number_in_force true v c.limits ≡ Some y → x ≡ c.value v → AreOrdered c true v x y
ordered_above c v x y e f = record { there = (f, e); only = λ x' y' h. (h.0 ∙ sym f, some_injective y' y _ h.1 e) }

pub unordered : {F : Type 0} (c : Corner F) (upper : Bool) (v : ℕ) → number_in_force upper v c.limits ≡ None → (x y : DeltaValue) → Orders c upper v x y → ⊥
unordered c true v e x y h = not_none y _ e h.1
unordered c false v e x y h = not_none x _ e h.0

-- ---- the quotient of one side

pub least_on : {F : Type 0} (c : Corner F) (upper : Bool) (v : ℕ) (x y : DeltaValue) (old new : ℚ) → AreOrdered c upper v x y → IsLeastOf old (MeetAt x y) new → IsLeastOf old (IsQuotientOn c upper v) new
least_on c upper v x y old new ordered least =
    least_like old (MeetAt x y) (IsQuotientOn c upper v) new to back least
  where
    to : (q : ℚ) → MeetAt x y q → IsQuotientOn c upper v q
    to q meet = record { lesser = x; greater = y; orders = ordered.there; meet = meet }

    back : (q : ℚ) → IsQuotientOn c upper v q → MeetAt x y q
    back q on =
        let e = ordered.only on.lesser on.greater on.orders in
        subst (λ z. MeetAt x z q) e.1 (subst (λ z. MeetAt z on.greater q) e.0 on.meet)

pub least_on-none : {F : Type 0} (c : Corner F) (upper : Bool) (v : ℕ) (old : ℚ) → number_in_force upper v c.limits ≡ None → IsLeastOf old (IsQuotientOn c upper v) old
least_on-none c upper v old e = least_of_none old (IsQuotientOn c upper v) (λ q on. unordered c upper v e on.lesser on.greater on.orders)

pub stuck_on : {F : Type 0} (limit : ℕ) (c : Corner F) (upper : Bool) (v : ℕ) (x y : DeltaValue) (s : Stuck) → AreOrdered c upper v x y → IsStuckMeeting limit v x y s → IsStuckOn limit c upper v s
stuck_on limit c upper v x y s ordered h = record { lesser = x; greater = y; orders = ordered.there; meeting = h }

pub kept_on : {F : Type 0} (limit : ℕ) (c : Corner F) (upper : Bool) (v : ℕ) (x y : DeltaValue) (s : Stuck) → AreOrdered c upper v x y → (IsStuckMeeting limit v x y s → ⊥) → IsStuckOn limit c upper v s → ⊥
kept_on limit c upper v x y s ordered n on =
    let e = ordered.only on.lesser on.greater on.orders in
    n (subst (λ z. IsStuckMeeting limit v x z s) e.1 (subst (λ z. IsStuckMeeting limit v z on.greater s) e.0 on.meeting))

pub kept_on-none : {F : Type 0} (limit : ℕ) (c : Corner F) (upper : Bool) (v : ℕ) (s : Stuck) → number_in_force upper v c.limits ≡ None → IsStuckOn limit c upper v s → ⊥
kept_on-none limit c upper v s e on = unordered c upper v e on.lesser on.greater on.orders

-- ---- both sides

pub least_of_variable : {F : Type 0} (c : Corner F) (v : ℕ) (old middle new : ℚ) → IsLeastOf old (IsQuotientOn c false v) middle → IsLeastOf middle (IsQuotientOn c true v) new → IsLeastOf old (λ q. (upper : Bool) × IsQuotientOn c upper v q) new
least_of_variable c v old middle new low high =
    least_more old (IsQuotientOn c false v) (IsQuotientOn c true v) (λ q. (upper : Bool) × IsQuotientOn c upper v q) middle new (λ q h. (false, h)) (λ q h. (true, h)) (λ q h. by q h.0 h.1) low high
  where
    by : (q : ℚ) (upper : Bool) → IsQuotientOn c upper v q → IsQuotientOn c false v q ⊎ IsQuotientOn c true v q
    by q false h = inl h
    by q true h = inr h

pub kept_of_variable : {F : Type 0} (limit : ℕ) (c : Corner F) (v : ℕ) (s : Stuck) → (IsStuckOn limit c false v s → ⊥) → (IsStuckOn limit c true v s → ⊥) → (upper : Bool) → IsStuckOn limit c upper v s → ⊥
kept_of_variable limit c v s low high false h = low h
kept_of_variable limit c v s low high true h = high h

-- ---- all variables

-- the quotients of the first n variables
pub record IsQuotientBefore {F : Type 0} (c : Corner F) (n : ℕ) (q : ℚ) : Type 0 where
  pub variable : ℕ
  pub before : variable < n
  pub upper : Bool
  pub quotient : IsQuotientOn c upper variable q

pub least_before-none : {F : Type 0} (c : Corner F) (x : ℚ) → IsLeastOf x (IsQuotientBefore c 0) x
least_before-none c x = least_of_none x (IsQuotientBefore c 0) (λ q h. absurd (omega (arith, h.before)))

last_or_before : (v n : ℕ) → v < n + 1 → (v < n) ⊎ (v ≡ n)
last_or_before v n h = by (cases_order v n)
  where
    by : (v ≡ n) ⊎ ((v < n) ⊎ (n < v)) → (v < n) ⊎ (v ≡ n)
    by (inl same) = inr same
    by (inr (inl less)) = inl less
    by (inr (inr more)) = absurd (omega arith)

pub least_before-more : {F : Type 0} (c : Corner F) (n : ℕ) (x old new : ℚ) → IsLeastOf x (IsQuotientBefore c n) old → IsLeastOf old (λ q. (upper : Bool) × IsQuotientOn c upper n q) new → IsLeastOf x (IsQuotientBefore c (n + 1)) new
least_before-more c n x old new first second =
    least_more x (IsQuotientBefore c n) (λ q. (upper : Bool) × IsQuotientOn c upper n q) (IsQuotientBefore c (n + 1)) old new earlier last split first second
  where
    earlier : (q : ℚ) → IsQuotientBefore c n q → IsQuotientBefore c (n + 1) q
    earlier q h = record { variable = h.variable; before = omega (arith, h.before); upper = h.upper; quotient = h.quotient }

    last : (q : ℚ) → (upper : Bool) × IsQuotientOn c upper n q → IsQuotientBefore c (n + 1) q
    last q h = record { variable = n; before = omega arith; upper = h.0; quotient = h.1 }

    by : (q : ℚ) (h : IsQuotientBefore c (n + 1) q) → (h.variable < n) ⊎ (h.variable ≡ n) → IsQuotientBefore c n q ⊎ ((upper : Bool) × IsQuotientOn c upper n q)
    by q h (inl less) = inl (record { variable = h.variable; before = less; upper = h.upper; quotient = h.quotient })
    by q h (inr same) = inr (h.upper, subst (λ v. IsQuotientOn c h.upper v q) same h.quotient)

    split : (q : ℚ) → IsQuotientBefore c (n + 1) q → IsQuotientBefore c n q ⊎ ((upper : Bool) × IsQuotientOn c upper n q)
    split q h = by q h (last_or_before h.variable n h.before)

pub epsilon_at_end : {F : Type 0} (c : Corner F) (n : ℕ) (e : ℚ) → n ≡ variables c.table → IsLeastOf (whole (pos 1)) (IsQuotientBefore c n) e → IsEpsilon c e
epsilon_at_end c n e all least = least_like (whole (pos 1)) (IsQuotientBefore c n) (IsQuotient c) e to back least
  where
    to : (q : ℚ) → IsQuotientBefore c n q → IsQuotient c q
    to q h = record { variable = h.variable; within = subst (λ m. h.variable < m) all h.before; upper = h.upper; quotient = h.quotient }

    back : (q : ℚ) → IsQuotient c q → IsQuotientBefore c n q
    back q h = record { variable = h.variable; before = subst (λ m. h.variable < m) (sym all) h.within; upper = h.upper; quotient = h.quotient }

-- no operation is too wide for the first n variables
abbrev pub KeptBefore : {F : Type 0} → ℕ → Corner F → ℕ → Type 0
KeptBefore limit c n = (s : Stuck) (v : ℕ) (upper : Bool) → v < n → IsStuckOn limit c upper v s → ⊥

pub kept_before-more : {F : Type 0} (limit : ℕ) (c : Corner F) (n : ℕ) → KeptBefore limit c n → ((s : Stuck) (upper : Bool) → IsStuckOn limit c upper n s → ⊥) → KeptBefore limit c (n + 1)
kept_before-more limit c n first second s v upper within stuck = by (last_or_before v n within)
  where
    by : (v < n) ⊎ (v ≡ n) → ⊥
    by (inl less) = first s v upper less stuck
    by (inr same) = second s upper (subst (λ u. IsStuckOn limit c upper u s) same stuck)

pub kept_at_end : {F : Type 0} (limit : ℕ) (c : Corner F) (n : ℕ) → n ≡ variables c.table → KeptBefore limit c n → (s : Stuck) → IsStuckEpsilon limit c s → ⊥
kept_at_end limit c n all kept s stuck = kept s stuck.variable stuck.upper (subst (λ m. stuck.variable < m) (sym all) stuck.within) stuck.on_side

-- ---- it is above zero

pub epsilon-positive : {F : Type 0} (c : Corner F) (e : ℚ) → IsEpsilon c e → whole (pos 0) <ℚ e
epsilon-positive c e is = least_positive (whole (pos 1)) (IsQuotient c) e (whole-<ℚ (pos 0) (pos 1) (omega arith)) (λ q h. meet_positive h.quotient.lesser h.quotient.greater q h.quotient.meet) is
