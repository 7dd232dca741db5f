-- Values within all limits give a common solution of the literals told: a number small enough stands for the infinitesimal.
use Rattle.std.proofs.Common.{◌≡◌, ℕ, ◌+◌, ◌-◌, ◌<◌, ◌≤◌, nat_lt, cond, List, [], ◌∷◌, Bool, true, false, not, All, Option, None, Some, slice_get, ◌⊎◌, inl, inr, ℤ, pos, ◌*ℤ◌, ◌≤ℤ◌, ◌<ℤ◌, refl, sym, ap, subst, ◌∙◌, arith}
use Rattle.std.specs.Option.{IfSome, IsSomeAnd, option_map_or}
use Rattle.std.proofs.lemmas.Bool.{cases_lt, lt-ltb, le-ltb}
use Rattle.std.proofs.lemmas.Int.{ints}
use Rattle.std.proofs.lemmas.List.Elements.{All-head, All-tail}
use Rattle.ordered_field.specs.Rational.{ℚ, whole, by_one, by_two, ◌+ℚ◌, ◌*ℚ◌, neg_ℚ}
use Rattle.ordered_field.specs.Order.{◌≤ℚ◌, ◌<ℚ◌}
use Rattle.ordered_field.specs.Delta.{DeltaValue, delta_at, ◌≤δ◌}
use Rattle.ordered_field.proofs.DeltaOrder.{≤δ-parts}
use Rattle.ordered_field.proofs.FieldLaws.{inverse_of}
use Rattle.ordered_field.proofs.Fractions.{whole-<ℚ, <ℚ-whole, ≤ℚ-whole, whole-sum, whole-product}
use Rattle.ordered_field.proofs.OrderFacts.{≤ℚ_from_same, <ℚ-apart, <ℚ-not_≥, <ℚ_from_not_≥, ≤ℚ_total, <ℚ-≤ℚ_trans, ≤ℚ-<ℚ_trans, +ℚ-≤ℚ_right, +ℚ-<ℚ_right, +ℚ-<ℚ_left, +ℚ-≤ℚ, *ℚ-<ℚ_left, *ℚ-≤ℚ_left, *ℚ-positive, neg_ℚ-negative}
use Rattle.ordered_field.proofs.OrderLaws.{≤ℚ_refl, ≤ℚ_trans, <ℚ-≤ℚ, trichotomy}
use Rattle.ordered_field.proofs.Points.{equal_4, same_point}
use Rattle.ordered_field.proofs.RingLaws.{+ℚ-zero, +ℚ-neg, +ℚ-exchange, +ℚ-*ℚ, neg_ℚ-*ℚ, one-*ℚ, *ℚ-one, *ℚ-zero, zero-*ℚ, *ℚ_comm, *ℚ_assoc}
use Rattle.farkas_cert.specs.declared.literals.Lit.{Lit}
use Rattle.linear_form.specs.declared.lists.Term.{Term}
use Rattle.linear_form.specs.NormalForm.{Bounds}
use Rattle.linear_form.specs.Sums.{sum_of}
use Rattle.clause_form.specs.declared.clauses.Atom.{Atom}
use Rattle.clause_form.specs.declared.clauses.Atom.TheVariants.{Row, Named}
use Rattle.clause_form.specs.Derivations.{Rows}
use Rattle.clause_form.specs.Models.{form_value, RowHolds}
use Rattle.clause_form.specs.Theories.{AreMet, HasSolution}
use Rattle.simplex.specs.declared.limits.Limit.{Limit}
use Rattle.simplex.specs.declared.outcome.Bound.{Bound}
use Rattle.simplex.specs.Bounds.{IsLimitOf, infinitesimal_of}
use Rattle.simplex.specs.Limits.{IsMet, IsMetOn}
use Rattle.simplex.proofs.BoundLaws.{positive-apart}
use Rattle.lra_theory.specs.Forms.{sum_at, MeetsForms, variables_of}
use Rattle.lra_theory.specs.Literals.{bound_if, bound_of, bound_of_atom, HasLimit}
use Rattle.lra_theory.specs.Soundness.{IsGood}
use Rattle.lra_theory.proofs.Denominators.{IsOver, common_over}
use Rattle.lra_theory.proofs.FormLaws.{some_at}
use Rattle.lra_theory.proofs.GivenLaws.{bound-good}

-- ---- small enough

-- the fact holds of all numbers above zero that are small enough
pub record Eventually (P : ℚ → Type 0) : Type 0 where
  pub most : ℚ
  pub some : whole (pos 0) <ℚ most
  pub holds : (e : ℚ) → whole (pos 0) <ℚ e → e ≤ℚ most → P e

eventually_always : (P : ℚ → Type 0) → ((e : ℚ) → whole (pos 0) <ℚ e → P e) → Eventually P
eventually_always P always =
    record { most = whole (pos 1); some = whole-<ℚ (pos 0) (pos 1) (omega (arith, ints)); holds = λ e some small. always e some }

eventually_both : (P Q : ℚ → Type 0) → Eventually P → Eventually Q → Eventually (λ e. P e × Q e)
eventually_both P Q p q = by (≤ℚ_total p.most q.most)
  where
    by : (p.most ≤ℚ q.most) ⊎ (q.most ≤ℚ p.most) → Eventually (λ e. P e × Q e)
    by (inl less) =
        record { most = p.most; some = p.some; holds = λ e some small. (p.holds e some small, q.holds e some (≤ℚ_trans e p.most q.most small less)) }
    by (inr less) =
        record { most = q.most; some = q.some; holds = λ e some small. (p.holds e some (≤ℚ_trans e q.most p.most small less), q.holds e some small) }

-- ---- an order with infinitesimals is one with small numbers

left : (a b d e : ℚ) → (b +ℚ neg_ℚ d) *ℚ e +ℚ (a +ℚ d *ℚ e) ≡ a +ℚ b *ℚ e
unfolding ◌+ℚ◌ ◌*ℚ◌ neg_ℚ by_two by_one
left = equal_4 (λ a b d e. (b +ℚ neg_ℚ d) *ℚ e +ℚ (a +ℚ d *ℚ e)) (λ a b d e. a +ℚ b *ℚ e) (λ a b c d. same_point _ _ (omega arith))

right : (a c d e : ℚ) → (c +ℚ neg_ℚ a) +ℚ (a +ℚ d *ℚ e) ≡ c +ℚ d *ℚ e
unfolding ◌+ℚ◌ ◌*ℚ◌ neg_ℚ by_two by_one
right = equal_4 (λ a c d e. (c +ℚ neg_ℚ a) +ℚ (a +ℚ d *ℚ e)) (λ a c d e. c +ℚ d *ℚ e) (λ a b c d. same_point _ _ (omega arith))

moved : (a b c d e : ℚ) → (b +ℚ neg_ℚ d) *ℚ e ≤ℚ c +ℚ neg_ℚ a → a +ℚ b *ℚ e ≤ℚ c +ℚ d *ℚ e
moved a b c d e h =
    subst (λ x. x ≤ℚ c +ℚ d *ℚ e) (left a b d e) (subst (λ y. (b +ℚ neg_ℚ d) *ℚ e +ℚ (a +ℚ d *ℚ e) ≤ℚ y) (right a c d e) (+ℚ-≤ℚ_right ((b +ℚ neg_ℚ d) *ℚ e) (c +ℚ neg_ℚ a) (a +ℚ d *ℚ e) h))

difference-positive : (x y : ℚ) → x <ℚ y → whole (pos 0) <ℚ y +ℚ neg_ℚ x
difference-positive x y h =
    subst (λ z. z <ℚ y +ℚ neg_ℚ x) (none x) (+ℚ-<ℚ_right x y (neg_ℚ x) h)
  where
    none : (x : ℚ) → x +ℚ neg_ℚ x ≡ whole (pos 0)
    none x = +ℚ-neg x

-- the inverse of a number above zero is above zero
inverse-positive : (x i : ℚ) → whole (pos 0) <ℚ x → i *ℚ x ≡ whole (pos 1) → whole (pos 0) <ℚ i
inverse-positive x i some inverse =
    <ℚ_from_not_≥ (whole (pos 0)) i (λ low. <ℚ-not_≥ (whole (pos 0)) (whole (pos 1)) (whole-<ℚ (pos 0) (pos 1) (omega (arith, ints))) (subst (λ y. y ≤ℚ whole (pos 0)) (*ℚ_comm x i ∙ inverse) (subst (λ y. x *ℚ i ≤ℚ y) (*ℚ-zero x) (*ℚ-≤ℚ_left x i (whole (pos 0)) (<ℚ-≤ℚ (whole (pos 0)) x some) low))))

pub eventually_at_most : (x y : DeltaValue) → x ≤δ y → Eventually (λ e. delta_at x e ≤ℚ delta_at y e)
eventually_at_most x y h = by (≤δ-parts x y h).either
  where
    slower : x.real ≤ℚ y.real → x.inf ≤ℚ y.inf → (e : ℚ) → whole (pos 0) <ℚ e → delta_at x e ≤ℚ delta_at y e
    slower real inf e some =
        +ℚ-≤ℚ x.real y.real (x.inf *ℚ e) (y.inf *ℚ e) real (subst (λ z. z ≤ℚ y.inf *ℚ e) (*ℚ_comm e x.inf) (subst (λ z. e *ℚ x.inf ≤ℚ z) (*ℚ_comm e y.inf) (*ℚ-≤ℚ_left e x.inf y.inf (<ℚ-≤ℚ (whole (pos 0)) e some) inf)))

    faster : x.real <ℚ y.real → y.inf <ℚ x.inf → Eventually (λ e. delta_at x e ≤ℚ delta_at y e)
    faster real inf =
        let gap = y.real +ℚ neg_ℚ x.real in
        let speed = x.inf +ℚ neg_ℚ y.inf in
        let some_gap = difference-positive x.real y.real real in
        let some_speed = difference-positive y.inf x.inf inf in
        let inverse = inverse_of speed (λ none. <ℚ-apart (whole (pos 0)) speed some_speed (sym none)) in
        record {
          most = inverse.0 *ℚ gap;
          some = *ℚ-positive inverse.0 gap (inverse-positive speed inverse.0 some_speed inverse.1) some_gap;
          holds = λ e some small. moved x.real x.inf y.real y.inf e (subst (λ z. speed *ℚ e ≤ℚ z) (cancelled speed inverse.0 gap inverse.1) (*ℚ-≤ℚ_left speed e (inverse.0 *ℚ gap) (<ℚ-≤ℚ (whole (pos 0)) speed some_speed) small));
        }
      where
        cancelled : (s i g : ℚ) → i *ℚ s ≡ whole (pos 1) → s *ℚ (i *ℚ g) ≡ g
        cancelled s i g e =
            sym (*ℚ_assoc s i g) ∙ ap (λ z. z *ℚ g) (*ℚ_comm s i ∙ e) ∙ *ℚ_comm (whole (pos 1)) g ∙ *ℚ-one g

    by : (x.real <ℚ y.real) ⊎ ((x.real ≡ y.real) × (x.inf ≤ℚ y.inf)) → Eventually (λ e. delta_at x e ≤ℚ delta_at y e)
    by (inr (same, inf)) = eventually_always _ (slower (≤ℚ_from_same x.real y.real same) inf)
    by (inl real) = by_inf (trichotomy x.inf y.inf)
      where
        by_inf : (x.inf <ℚ y.inf) ⊎ ((x.inf ≡ y.inf) ⊎ (y.inf <ℚ x.inf)) → Eventually (λ e. delta_at x e ≤ℚ delta_at y e)
        by_inf (inl less) =
            eventually_always _ (slower (<ℚ-≤ℚ x.real y.real real) (<ℚ-≤ℚ x.inf y.inf less))
        by_inf (inr (inl same)) =
            eventually_always _ (slower (<ℚ-≤ℚ x.real y.real real) (≤ℚ_from_same x.inf y.inf same))
        by_inf (inr (inr more)) = faster real more

-- ---- one literal

-- d * x stands so to n: at most, or below where strict, and for a lower bound at least or above
abbrev pub KeepsOn : Bool → Bool → ℚ → ℚ → ℚ → Type 0
KeepsOn true true d n x = d *ℚ x <ℚ n
KeepsOn true false d n x = d *ℚ x ≤ℚ n
KeepsOn false true d n x = n <ℚ d *ℚ x
KeepsOn false false d n x = n ≤ℚ d *ℚ x

abbrev pub Keeps : Bound → ℚ → Type 0
Keeps b x = KeepsOn b.upper b.strict (whole b.den) (whole b.num) x

minus-below : (a e : ℚ) → whole (pos 0) <ℚ e → a +ℚ neg_ℚ (whole (pos 1)) *ℚ e <ℚ a
minus-below a e some = subst (λ y. a +ℚ neg_ℚ (whole (pos 1)) *ℚ e <ℚ y) (+ℚ-zero a) (+ℚ-<ℚ_left (neg_ℚ (whole (pos 1)) *ℚ e) (whole (pos 0)) a below)
  where
    opposite : (e : ℚ) → neg_ℚ (whole (pos 1)) *ℚ e ≡ neg_ℚ e
    opposite e = neg_ℚ-*ℚ (whole (pos 1)) e ∙ ap neg_ℚ (one-*ℚ e)

    below : neg_ℚ (whole (pos 1)) *ℚ e <ℚ whole (pos 0)
    below = subst (λ y. y <ℚ whole (pos 0)) (sym (opposite e)) (neg_ℚ-negative e some)

plus-above : (a e : ℚ) → whole (pos 0) <ℚ e → a <ℚ a +ℚ whole (pos 1) *ℚ e
plus-above a e some = subst (λ y. y <ℚ a +ℚ whole (pos 1) *ℚ e) (+ℚ-zero a) (+ℚ-<ℚ_left (whole (pos 0)) (whole (pos 1) *ℚ e) a (subst (λ y. whole (pos 0) <ℚ y) (sym (one-*ℚ e)) some))

plus-none : (a e : ℚ) → a +ℚ whole (pos 0) *ℚ e ≡ a
plus-none a e = ap (λ y. a +ℚ y) (zero-*ℚ e) ∙ +ℚ-zero a

module _ (d n : ℚ) (positive : whole (pos 0) <ℚ d) (at : DeltaValue) (number : at.real *ℚ d ≡ n) where
  times : d *ℚ at.real ≡ n
  times = *ℚ_comm d at.real ∙ number

  finish : (u s : Bool) (x e : ℚ) → whole (pos 0) <ℚ e → at.inf ≡ cond s (cond u (neg_ℚ (whole (pos 1))) (whole (pos 1))) (whole (pos 0)) → cond u (x ≤ℚ delta_at at e) (delta_at at e ≤ℚ x) → KeepsOn u s d n x
  finish true true x e some inf h =
      let at_e : delta_at at e ≡ at.real +ℚ neg_ℚ (whole (pos 1)) *ℚ e = ap (λ i. at.real +ℚ i *ℚ e) inf in
      subst (λ y. d *ℚ x <ℚ y) times (*ℚ-<ℚ_left d x at.real positive (≤ℚ-<ℚ_trans x (at.real +ℚ neg_ℚ (whole (pos 1)) *ℚ e) at.real (subst (λ y. x ≤ℚ y) at_e h) (minus-below at.real e some)))
  finish true false x e some inf h =
      let at_e : delta_at at e ≡ at.real = ap (λ i. at.real +ℚ i *ℚ e) inf ∙ plus-none at.real e in
      subst (λ y. d *ℚ x ≤ℚ y) times (*ℚ-≤ℚ_left d x at.real (<ℚ-≤ℚ (whole (pos 0)) d positive) (subst (λ y. x ≤ℚ y) at_e h))
  finish false true x e some inf h =
      let at_e : delta_at at e ≡ at.real +ℚ whole (pos 1) *ℚ e = ap (λ i. at.real +ℚ i *ℚ e) inf in
      subst (λ y. y <ℚ d *ℚ x) times (*ℚ-<ℚ_left d at.real x positive (<ℚ-≤ℚ_trans at.real (at.real +ℚ whole (pos 1) *ℚ e) x (plus-above at.real e some) (subst (λ y. y ≤ℚ x) at_e h)))
  finish false false x e some inf h =
      let at_e : delta_at at e ≡ at.real = ap (λ i. at.real +ℚ i *ℚ e) inf ∙ plus-none at.real e in
      subst (λ y. y ≤ℚ d *ℚ x) times (*ℚ-≤ℚ_left d at.real x (<ℚ-≤ℚ (whole (pos 0)) d positive) (subst (λ y. y ≤ℚ x) at_e h))

  pub eventually_keeps : (u s : Bool) (x : DeltaValue) → at.inf ≡ cond s (cond u (neg_ℚ (whole (pos 1))) (whole (pos 1))) (whole (pos 0)) → IsMetOn u x at → Eventually (λ e. KeepsOn u s d n (delta_at x e))
  eventually_keeps true s x inf met =
      let ev = eventually_at_most x at met in
      record { most = ev.most; some = ev.some; holds = λ e some small. finish true s (delta_at x e) e some inf (ev.holds e some small) }
  eventually_keeps false s x inf met =
      let ev = eventually_at_most at x met in
      record { most = ev.most; some = ev.some; holds = λ e some small. finish false s (delta_at x e) e some inf (ev.holds e some small) }

-- each bound has a limit
pub limit_of_bound : (b : Bound) (position : ℕ) → pos 1 ≤ℤ b.den → (l : Limit DeltaValue) × IsLimitOf b position l
limit_of_bound b position some =
    let inverse = inverse_of (whole b.den) (positive-apart b.den some) in (
      record { var = b.var; upper = b.upper; at = record { real = whole b.num *ℚ inverse.0; inf = infinitesimal_of b }; tag = position },
      record {
        var = refl;
        upper = refl;
        tag = refl;
        number = *ℚ_assoc (whole b.num) inverse.0 (whole b.den) ∙ ap (λ x. whole b.num *ℚ x) inverse.1 ∙ *ℚ-one (whole b.num);
        strict = refl;
      },
    )

-- ---- all literals

module _ (rows : Rows) (good : IsGood rows) (value : ℕ → DeltaValue) where
  -- each literal's limit is met
  abbrev pub AreMetAt : ℕ → List Lit → Type 0
  AreMetAt position [] = Unit {0}
  AreMetAt position (l ∷ ls) = ((limit : Limit DeltaValue) → HasLimit rows position l limit → IsMet (value limit.var) limit) × AreMetAt (position + 1) ls

  -- each literal's bound holds
  abbrev pub AreHeld : (ℕ → ℚ) → List Lit → Type 0
  AreHeld x [] = Unit {0}
  AreHeld x (l ∷ ls) = ((b : Bound) → bound_of rows l ≡ Some b → Keeps b (x b.var)) × AreHeld x ls

  -- the values with a number in the place of the infinitesimal
  abbrev pub at_number : ℚ → ℕ → ℚ
  at_number e v = delta_at (value v) e

  one_held : (position : ℕ) (l : Lit) → ((limit : Limit DeltaValue) → HasLimit rows position l limit → IsMet (value limit.var) limit) → Eventually (λ e. (b : Bound) → bound_of rows l ≡ Some b → Keeps b (at_number e b.var))
  one_held position l met = by (bound_of rows l) refl
    where
      by : (o : Option Bound) → bound_of rows l ≡ o → Eventually (λ e. (b : Bound) → bound_of rows l ≡ Some b → Keeps b (at_number e b.var))
      by None none =
          eventually_always _ (λ e some b is. absurd (let h : None ≡ Some b = sym none ∙ is in cc))
      by (Some b) is =
          let g = bound-good rows good l b is in
          let limit = limit_of_bound b position g.some in
          let has = subst (λ o. IsSomeAnd o (λ b. IsLimitOf b position limit.0)) (sym is) limit.1 in
          let den : whole (pos 0) <ℚ whole b.den = whole-<ℚ (pos 0) b.den (let h = g.some in omega (arith, ints, h)) in
          let ev = eventually_keeps (whole b.den) (whole b.num) den limit.0.at limit.1.number b.upper b.strict (value b.var) limit.1.strict (subst (λ u. IsMetOn u (value b.var) limit.0.at) limit.1.upper (subst (λ v. IsMetOn limit.0.upper (value v) limit.0.at) limit.1.var (met limit.0 has))) in
          record {
            most = ev.most;
            some = ev.some;
            holds = λ e some small c other. (let same : b ≡ c = (let h : Some b ≡ Some c = sym is ∙ other in cc) in subst (λ k. Keeps k (at_number e k.var)) same (ev.holds e some small));
          }

  pub all_held : (position : ℕ) (ls : List Lit) → AreMetAt position ls → Eventually (λ e. AreHeld (at_number e) ls)
  all_held position [] met = eventually_always _ (λ e some. tt)
  all_held position (l ∷ ls) met =
      let both = eventually_both _ _ (one_held position l met.0) (all_held (position + 1) ls met.1) in
      record { most = both.most; some = both.some; holds = λ e some small. (both.holds e some small) }

-- ---- whole values

one : (c x y e : ℚ) → c *ℚ (x +ℚ y *ℚ e) ≡ c *ℚ x +ℚ (c *ℚ y) *ℚ e
unfolding ◌+ℚ◌ ◌*ℚ◌ by_two by_one
one = equal_4 (λ c x y e. c *ℚ (x +ℚ y *ℚ e)) (λ c x y e. c *ℚ x +ℚ (c *ℚ y) *ℚ e) (λ a b c d. same_point _ _ (omega arith))

sum_at-scaled : (ts : List Term) (x y : ℕ → ℚ) (e : ℚ) → sum_at ts (λ v. x v +ℚ y v *ℚ e) ≡ sum_at ts x +ℚ sum_at ts y *ℚ e
sum_at-scaled [] x y e = sym (ap (λ z. whole (pos 0) +ℚ z) (zero-*ℚ e) ∙ +ℚ-zero (whole (pos 0)))
sum_at-scaled (t ∷ ts) x y e =
    ap (λ s. whole t.coef *ℚ (x t.column +ℚ y t.column *ℚ e) +ℚ s) (sum_at-scaled ts x y e) ∙ spread (whole t.coef) (x t.column) (y t.column) e (sum_at ts x) (sum_at ts y)
  where
    two : (a b c d e : ℚ) → (a +ℚ b *ℚ e) +ℚ (c +ℚ d *ℚ e) ≡ (a +ℚ c) +ℚ (b +ℚ d) *ℚ e
    two a b c d e = +ℚ-exchange a (b *ℚ e) c (d *ℚ e) ∙ ap (λ z. (a +ℚ c) +ℚ z) (sym (+ℚ-*ℚ b d e))

    spread : (c x y e s t : ℚ) → c *ℚ (x +ℚ y *ℚ e) +ℚ (s +ℚ t *ℚ e) ≡ (c *ℚ x +ℚ s) +ℚ (c *ℚ y +ℚ t) *ℚ e
    spread c x y e s t = ap (λ z. z +ℚ (s +ℚ t *ℚ e)) (one c x y e) ∙ two (c *ℚ x) (c *ℚ y) s t e

together : (c x s o : ℚ) → c *ℚ (x *ℚ o) +ℚ s *ℚ o ≡ (c *ℚ x +ℚ s) *ℚ o
unfolding ◌+ℚ◌ ◌*ℚ◌ by_two by_one
together = equal_4 (λ c x s o. c *ℚ (x *ℚ o) +ℚ s *ℚ o) (λ c x s o. (c *ℚ x +ℚ s) *ℚ o) (λ a b c d. same_point _ _ (omega arith))

sum_of-over : (ts : List Term) (n over : ℕ) (x : ℕ → ℚ) (value : ℕ → ℤ) → All (λ t. t.column < n) ts → IsOver x n over value → whole (sum_of value ts) ≡ sum_at ts x *ℚ whole (pos over)
sum_of-over [] n over x value within is = sym (zero-*ℚ (whole (pos over)))
sum_of-over (t ∷ ts) n over x value within is =
    whole-sum (t.coef *ℤ value t.column) (sum_of value ts)
    ∙ ap (λ z. z +ℚ whole (sum_of value ts)) (whole-product t.coef (value t.column) ∙ ap (λ z. whole t.coef *ℚ z) (sym (is t.column (All-head (λ u. u.column < n) t ts within))))
    ∙ ap (λ z. whole t.coef *ℚ (x t.column *ℚ whole (pos over)) +ℚ z) (sum_of-over ts n over x value (All-tail (λ u. u.column < n) t ts within) is)
    ∙ together (whole t.coef) (x t.column) (sum_at ts x) (whole (pos over))

module _ (rows : Rows) (good : IsGood rows) (x : ℕ → ℚ) (meets : MeetsForms rows x) (over : ℕ) (some : 0 < over) (value : ℕ → ℤ) (is : IsOver x rows.columns over value) where
  value-over : (form : ℕ) → form < variables_of rows → whole (form_value rows.columns rows.forms value form) ≡ x form *ℚ whole (pos over)
  value-over form within = by (cases_lt form rows.columns)
    where
      by : (form < rows.columns) ⊎ (rows.columns ≤ form) → whole (cond (nat_lt form rows.columns) (value form) (option_map_or (λ f. sum_of value f.terms) (slice_get rows.forms (form - rows.columns)) (pos 0))) ≡ x form *ℚ whole (pos over)
      by (inl less) =
          ap (λ b. whole (cond b (value form) (option_map_or (λ f. sum_of value f.terms) (slice_get rows.forms (form - rows.columns)) (pos 0)))) (lt-ltb form rows.columns less) ∙ sym (is form less)
      by (inr most) =
          let found = some_at rows.forms (form - rows.columns) (omega (arith, within)) in
          let back : rows.columns + (form - rows.columns) ≡ form = omega arith in
          ap (λ b. whole (cond b (value form) (option_map_or (λ f. sum_of value f.terms) (slice_get rows.forms (form - rows.columns)) (pos 0)))) (le-ltb form rows.columns most)
          ∙ ap (λ o. whole (option_map_or (λ f. sum_of value f.terms) o (pos 0))) found.1
          ∙ sum_of-over found.0.terms rows.columns over x value (good.forms (form - rows.columns) found.0 found.1).in_range is
          ∙ ap (λ z. z *ℚ whole (pos over)) (sym (meets (form - rows.columns) found.0 found.1) ∙ ap x back)

  over_some : whole (pos 0) <ℚ whole (pos over)
  over_some = whole-<ℚ (pos 0) (pos over) (omega (arith, ints, some))

  -- both sides times the denominator
  scaled_below : (a b : ℚ) (s t : ℤ) → whole s ≡ a *ℚ whole (pos over) → whole t ≡ b *ℚ whole (pos over) → a <ℚ b → s <ℤ t
  scaled_below a b s t e f h =
      <ℚ-whole s t (subst (λ z. z <ℚ whole t) (sym e) (subst (λ z. a *ℚ whole (pos over) <ℚ z) (sym f) (subst (λ z. z <ℚ b *ℚ whole (pos over)) (*ℚ_comm (whole (pos over)) a) (subst (λ z. whole (pos over) *ℚ a <ℚ z) (*ℚ_comm (whole (pos over)) b) (*ℚ-<ℚ_left (whole (pos over)) a b over_some h)))))

  scaled_most : (a b : ℚ) (s t : ℤ) → whole s ≡ a *ℚ whole (pos over) → whole t ≡ b *ℚ whole (pos over) → a ≤ℚ b → s ≤ℤ t
  scaled_most a b s t e f h =
      ≤ℚ-whole s t (subst (λ z. z ≤ℚ whole t) (sym e) (subst (λ z. a *ℚ whole (pos over) ≤ℚ z) (sym f) (subst (λ z. z ≤ℚ b *ℚ whole (pos over)) (*ℚ_comm (whole (pos over)) a) (subst (λ z. whole (pos over) *ℚ a ≤ℚ z) (*ℚ_comm (whole (pos over)) b) (*ℚ-≤ℚ_left (whole (pos over)) a b (<ℚ-≤ℚ (whole (pos 0)) (whole (pos over)) over_some) h)))))

  row_holds : (positive : Bool) (form : ℕ) (num den : ℤ) (strict : Bool) → form < variables_of rows → Keeps (bound_if positive form num den strict) (x form) → RowHolds rows.columns rows.forms value over positive (Row form num den strict)
  row_holds positive form num den strict within keeps = by positive strict keeps
    where
      left : whole (den *ℤ form_value rows.columns rows.forms value form) ≡ (whole den *ℚ x form) *ℚ whole (pos over)
      left =
          whole-product den (form_value rows.columns rows.forms value form) ∙ ap (λ z. whole den *ℚ z) (value-over form within) ∙ sym (*ℚ_assoc (whole den) (x form) (whole (pos over)))

      right : whole (num *ℤ pos over) ≡ whole num *ℚ whole (pos over)
      right = whole-product num (pos over)

      by : (p s : Bool) → KeepsOn p (cond p s (not s)) (whole den) (whole num) (x form) → Bounds s p (den *ℤ form_value rows.columns rows.forms value form) (num *ℤ pos over)
      by true true h = scaled_below _ _ _ _ left right h
      by true false h = scaled_most _ _ _ _ left right h
      by false true h = scaled_most _ _ _ _ right left h
      by false false h = scaled_below _ _ _ _ right left h

  pub are_met : (v : ℕ → DeltaValue) (ls : List Lit) → AreHeld rows good v x ls → AreMet rows value over ls
  are_met v [] held = tt
  are_met v (l ∷ ls) held = (by (slice_get rows.atoms l.atom) refl, are_met v ls held.1)
    where
      by : (o : Option Atom) → slice_get rows.atoms l.atom ≡ o → IfSome o (RowHolds rows.columns rows.forms value over l.positive)
      by None at = tt
      by (Some (Row form num den strict)) at =
          row_holds l.positive form num den strict (good.atoms l.atom form num den strict at).in_range (held.0 (bound_if l.positive form num den strict) (ap (λ o. option_map_or (bound_of_atom l.positive) o None) at))
      by (Some Named) at = tt

-- ---- a solution

pub has_solution : (rows : Rows) (good : IsGood rows) (value : ℕ → DeltaValue) (ls : List Lit) → MeetsForms rows (λ v. (value v).real) → MeetsForms rows (λ v. (value v).inf) → AreMetAt rows good value 0 ls → HasSolution rows ls
has_solution rows good value ls real inf met =
    let ev = all_held rows good value 0 ls met in
    let e = ev.most in
    let x = at_number rows good value ev.most in
    let over = common_over x rows.columns in
    (over.1.1.0, over.0, over.1.0, are_met rows good x meets over.0 over.1.0 over.1.1.0 over.1.1.1 value ls (ev.holds ev.most ev.some (≤ℚ_refl ev.most)))
  where
    meets : MeetsForms rows (at_number rows good value (all_held rows good value 0 ls met).most)
    meets j f some =
        let e = (all_held rows good value 0 ls met).most in
        ap (λ z. z +ℚ (value (rows.columns + j)).inf *ℚ e) (real j f some) ∙ ap (λ z. sum_at f.terms (λ v. (value v).real) +ℚ z *ℚ e) (inf j f some) ∙ sym (sum_at-scaled f.terms (λ v. (value v).real) (λ v. (value v).inf) e)
