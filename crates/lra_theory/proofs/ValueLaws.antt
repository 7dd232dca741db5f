-- Values that keep the limits in force meet the rows of all literals told.
use Rattle.std.proofs.Common.{◌≡◌, ℕ, zero, suc, ◌+◌, ◌<◌, List, [], ◌∷◌, ◌++◌, map, length, Bool, true, false, cond, Option, None, Some, slice_get, unsigned_abs, ◌⊎◌, inl, inr, ℤ, pos, ◌≤ℤ◌, refl, sym, ap, subst, ◌∙◌, arith}
use Rattle.std.specs.Option.{IfSome, IsSomeAnd, MatchOption, option_map}
use Rattle.std.proofs.lemmas.Int.{ints}
use Rattle.ordered_field.specs.Rational.{ℚ, whole, ◌*ℚ◌, neg_ℚ}
use Rattle.ordered_field.specs.Order.{◌≤ℚ◌, ◌<ℚ◌}
use Rattle.ordered_field.specs.Delta.{DeltaValue, delta_at_most, ◌≤δ◌, ◌<δ◌}
use Rattle.ordered_field.proofs.DeltaOrder.{≤δ-parts}
use Rattle.ordered_field.proofs.Fractions.{whole-<ℚ}
use Rattle.ordered_field.proofs.OrderFacts.{<ℚ-≤ℚ_trans, ≤ℚ-<ℚ_trans, *ℚ-<ℚ_left, *ℚ-≤ℚ_left, neg_ℚ-negative}
use Rattle.ordered_field.proofs.OrderLaws.{≤ℚ_refl, ≤ℚ_trans, <ℚ-≤ℚ}
use Rattle.ordered_field.proofs.RingLaws.{*ℚ_comm}
use Rattle.linear_form.specs.Sums.{entry}
use Rattle.tableau.specs.Tables.{variables}
use Rattle.farkas_cert.specs.declared.literals.Lit.{Lit}
use Rattle.clause_form.specs.Derivations.{Rows}
use Rattle.clause_form.specs.Theories.{AreMet}
use Rattle.simplex.specs.declared.limits.Limit.{Limit}
use Rattle.simplex.specs.declared.outcome.Bound.{Bound}
use Rattle.simplex.specs.Bounds.{IsLimitOf}
use Rattle.simplex.specs.InForce.{number_in_force}
use Rattle.simplex.specs.Limits.{last_of, in_force, concerns, IsImplied, IsNoStronger, IsMetOn, Contradicts}
use Rattle.simplex.specs.States.{corner, limits_in, value_in, IsSound as IsSoundSimplex, State as SimplexState}
use Rattle.simplex.proofs.LimitLaws.{concerns_own, in_force-here, in_force-side, within-limit}
use Rattle.corner_values.specs.Values.{IsAtLeast, IsAtMost, IsSolution}
use Rattle.simplex.specs.Checks.{AllWithin}
use Rattle.lra_theory.specs.declared.fault.LraFault.{LraFault}
use Rattle.lra_theory.specs.declared.trail.Told.{Told}
use Rattle.lra_theory.specs.Relations.{HasViolated}
use Rattle.lra_theory.specs.Standings.{lits_of, state_of}
use Rattle.lra_theory.specs.Forms.{variables_of}
use Rattle.lra_theory.specs.Literals.{bound_of, HasLimit}
use Rattle.lra_theory.specs.Soundness.{AreGiven, Gives, IsKept, IsSound}
use Rattle.lra_theory.proofs.Denominators.{IsOver}
use Rattle.lra_theory.proofs.GivenLaws.{Each-in_force, IsOfTold, bound-good, given-met, given-rest, limit_found}
use Rattle.lra_theory.proofs.Solutions.{AreHeld, Keeps, KeepsOn, are_met, limit_of_bound}
use Rattle.lra_theory.proofs.TellLaws.{limits-told_here}
use Rattle.lra_theory.proofs.UnitLaws.{is_size, size_some}

-- ---- a limit stays in force, or a later one is

last_of-some : (u : Bool) (v : ℕ) (before : Limit DeltaValue) (ls : List (Limit DeltaValue)) → (h : Limit DeltaValue) × (last_of u v (Some before) ls ≡ Some h)
last_of-some u v before [] = (before, refl)
last_of-some u v before (l ∷ ls) = by (concerns u v l) (last_of-some u v l ls) (last_of-some u v before ls)
  where
    by : (b : Bool) → (h : Limit DeltaValue) × (last_of u v (Some l) ls ≡ Some h) → (h : Limit DeltaValue) × (last_of u v (Some before) ls ≡ Some h) → (h : Limit DeltaValue) × (last_of u v (cond b (Some l) (Some before)) ls ≡ Some h)
    by true new old = new
    by false new old = old

last_of-append : (u : Bool) (v : ℕ) (before : Option (Limit DeltaValue)) (ls ms : List (Limit DeltaValue)) → last_of u v before (ls ++ ms) ≡ last_of u v (last_of u v before ls) ms
last_of-append u v before [] ms = refl
last_of-append u v before (l ∷ ls) ms = last_of-append u v (cond (concerns u v l) (Some l) before) ls ms

in_force-grows : (u : Bool) (v : ℕ) (ls ms : List (Limit DeltaValue)) (h : Limit DeltaValue) → in_force u v ls ≡ Some h → (k : Limit DeltaValue) × (in_force u v (ls ++ ms) ≡ Some k)
unfolding in_force
in_force-grows u v ls ms h e =
    let later = last_of-some u v h ms in
    (later.0, last_of-append u v None ls ms ∙ ap (λ o. last_of u v o ms) e ∙ later.1)

-- the literal's limit has one in force on its side
gives-in_force : (rows : Rows) (position : ℕ) (before : List (Limit DeltaValue)) (l : Lit) (more : List (Limit DeltaValue)) (b : Bound) → bound_of rows l ≡ Some b → Gives rows position before l more → (h : Limit DeltaValue) × (in_force b.upper b.var (before ++ more) ≡ Some h)
gives-in_force rows position before l more b is gives = by (subst (λ o. MatchOption o (more ≡ []) (λ b. (limit : Limit DeltaValue) × IsLimitOf b position limit × (¬ Contradicts before limit) × ((IsImplied before limit × (more ≡ [])) ⊎ ((¬ IsImplied before limit) × (more ≡ limit ∷ []))))) is gives)
  where
    held : (limit : Limit DeltaValue) (o : Option (Limit DeltaValue)) → in_force limit.upper limit.var before ≡ o → IsSomeAnd o (λ h. IsNoStronger limit.upper limit.at h.at) → (h : Limit DeltaValue) × (in_force limit.upper limit.var before ≡ Some h)
    held limit None e none = absurd none
    held limit (Some h) e weaker = (h, e)

    moved : (limit : Limit DeltaValue) → IsLimitOf b position limit → (ls : List (Limit DeltaValue)) (h : Limit DeltaValue) → in_force limit.upper limit.var ls ≡ Some h → in_force b.upper b.var ls ≡ Some h
    moved limit is_limit ls h e =
        ap (λ u. in_force u b.var ls) (sym is_limit.upper) ∙ ap (λ v. in_force limit.upper v ls) (sym is_limit.var) ∙ e

    by : ((limit : Limit DeltaValue) × IsLimitOf b position limit × (¬ Contradicts before limit) × ((IsImplied before limit × (more ≡ [])) ⊎ ((¬ IsImplied before limit) × (more ≡ limit ∷ [])))) → (h : Limit DeltaValue) × (in_force b.upper b.var (before ++ more) ≡ Some h)
    by (limit, is_limit, agrees, inl implied) =
        let h = held limit (in_force limit.upper limit.var before) refl implied.0 in
        in_force-grows b.upper b.var before more h.0 (moved limit is_limit before h.0 h.1)
    by (limit, is_limit, agrees, inr put) =
        (limit, ap (λ m. in_force b.upper b.var (before ++ m)) put.1 ∙ moved limit is_limit (before ++ limit ∷ []) limit (in_force-here limit.upper limit.var before limit (concerns_own limit)))

given-in_force : (rows : Rows) (position : ℕ) (before : List (Limit DeltaValue)) (ts : List Told) (limits : List (Limit DeltaValue)) → AreGiven rows position before ts limits → (k : ℕ) (t : Told) → slice_get ts k ≡ Some t → (b : Bound) → bound_of rows t.lit ≡ Some b → (h : Limit DeltaValue) × (in_force b.upper b.var limits ≡ Some h)
given-in_force rows position before [] limits given k t some b is = absurd (cc)
given-in_force rows position before (u ∷ us) limits (more, mark, gives, given) zero t some b is =
    let same : u ≡ t = cc in
    let here = gives-in_force rows position before u.lit more b (ap (λ w. bound_of rows w.lit) same ∙ is) gives in
    let rest = given-rest rows (position + 1) (before ++ more) us limits given in
    let later = in_force-grows b.upper b.var (before ++ more) rest.0 here.0 here.1 in
    (later.0, ap (λ ls. in_force b.upper b.var ls) rest.1.0 ∙ later.1)
given-in_force rows position before (u ∷ us) limits (more, mark, gives, given) (suc k) t some b is =
    given-in_force rows (position + 1) (before ++ more) us limits given k t some b is

-- ---- a number that keeps a limit keeps a weaker one

-- the infinitesimal part of a limit of this side, strict or not
abbrev pub inf_of : Bool → Bool → ℚ
inf_of u s = cond s (cond u (neg_ℚ (whole (pos 1))) (whole (pos 1))) (whole (pos 0))

minus_one : neg_ℚ (whole (pos 1)) <ℚ whole (pos 0)
minus_one = neg_ℚ-negative (whole (pos 1)) (whole-<ℚ (pos 0) (pos 1) (omega (arith, ints)))

plus_one : whole (pos 0) <ℚ whole (pos 1)
plus_one = whole-<ℚ (pos 0) (pos 1) (omega (arith, ints))

at_most_none : (s : Bool) → inf_of true s ≤ℚ whole (pos 0)
at_most_none true = <ℚ-≤ℚ (neg_ℚ (whole (pos 1))) (whole (pos 0)) minus_one
at_most_none false = ≤ℚ_refl (whole (pos 0))

at_least_none : (s : Bool) → whole (pos 0) ≤ℚ inf_of false s
at_least_none true = <ℚ-≤ℚ (whole (pos 0)) (whole (pos 1)) plus_one
at_least_none false = ≤ℚ_refl (whole (pos 0))

-- x keeps the limit with these parts
abbrev KeepsReal : Bool → Bool → ℚ → ℚ → Type 0
KeepsReal true true x r = x <ℚ r
KeepsReal true false x r = x ≤ℚ r
KeepsReal false true x r = r <ℚ x
KeepsReal false false x r = r ≤ℚ x

keeps-upper : (s s' : Bool) (x : ℚ) (h l : DeltaValue) → h.inf ≡ inf_of true s' → l.inf ≡ inf_of true s → IsAtMost x h → h ≤δ l → KeepsReal true s x l.real
keeps-upper s s' x h l h_inf l_inf kept weaker = by s (≤δ-parts h l weaker).either l_inf
  where
    below : x ≤ℚ h.real
    below = kept.not_above (subst (λ y. y ≤ℚ whole (pos 0)) (sym h_inf) (at_most_none s'))

    by : (s : Bool) → (h.real <ℚ l.real) ⊎ ((h.real ≡ l.real) × (h.inf ≤ℚ l.inf)) → l.inf ≡ inf_of true s → KeepsReal true s x l.real
    by true (inl less) e = ≤ℚ-<ℚ_trans x h.real l.real below less
    by false (inl less) e = ≤ℚ_trans x h.real l.real below (<ℚ-≤ℚ h.real l.real less)
    by true (inr (same, inf)) e =
        subst (λ r. x <ℚ r) same (kept.below (≤ℚ-<ℚ_trans h.inf (neg_ℚ (whole (pos 1))) (whole (pos 0)) (subst (λ y. h.inf ≤ℚ y) e inf) minus_one))
    by false (inr (same, inf)) e = subst (λ r. x ≤ℚ r) same below

keeps-lower : (s s' : Bool) (x : ℚ) (h l : DeltaValue) → h.inf ≡ inf_of false s' → l.inf ≡ inf_of false s → IsAtLeast x h → l ≤δ h → KeepsReal false s x l.real
keeps-lower s s' x h l h_inf l_inf kept weaker = by s (≤δ-parts l h weaker).either l_inf
  where
    above : h.real ≤ℚ x
    above = kept.not_below (subst (λ y. whole (pos 0) ≤ℚ y) (sym h_inf) (at_least_none s'))

    by : (s : Bool) → (l.real <ℚ h.real) ⊎ ((l.real ≡ h.real) × (l.inf ≤ℚ h.inf)) → l.inf ≡ inf_of false s → KeepsReal false s x l.real
    by true (inl less) e = <ℚ-≤ℚ_trans l.real h.real x less above
    by false (inl less) e = ≤ℚ_trans l.real h.real x (<ℚ-≤ℚ l.real h.real less) above
    by true (inr (same, inf)) e =
        subst (λ r. r <ℚ x) (sym same) (kept.above (<ℚ-≤ℚ_trans (whole (pos 0)) (whole (pos 1)) h.inf plus_one (subst (λ y. y ≤ℚ h.inf) e inf)))
    by false (inr (same, inf)) e = subst (λ r. r ≤ℚ x) (sym same) above

-- times the denominator
scaled : (u s : Bool) (d n x r : ℚ) → whole (pos 0) <ℚ d → r *ℚ d ≡ n → KeepsReal u s x r → KeepsOn u s d n x
scaled true true d n x r some e h = subst (λ y. d *ℚ x <ℚ y) (*ℚ_comm d r ∙ e) (*ℚ-<ℚ_left d x r some h)
scaled true false d n x r some e h =
    subst (λ y. d *ℚ x ≤ℚ y) (*ℚ_comm d r ∙ e) (*ℚ-≤ℚ_left d x r (<ℚ-≤ℚ (whole (pos 0)) d some) h)
scaled false true d n x r some e h = subst (λ y. y <ℚ d *ℚ x) (*ℚ_comm d r ∙ e) (*ℚ-<ℚ_left d r x some h)
scaled false false d n x r some e h =
    subst (λ y. y ≤ℚ d *ℚ x) (*ℚ_comm d r ∙ e) (*ℚ-≤ℚ_left d r x (<ℚ-≤ℚ (whole (pos 0)) d some) h)

-- ---- all literals

module _ {F : Type 0} (value : F → ℚ) (rows : Rows) (ts : List Told) (s : SimplexState F) (sound : IsSound value rows ts s) (count : variables s.table ≡ variables_of rows) (simplex : IsSoundSimplex value s) (over : ℤ) (values : List ℤ) (solution : IsSolution value (corner value s) over values) where
  x : ℕ → ℚ
  x = solution.of_variable

  limits : List (Limit DeltaValue)
  limits = limits_in value s.limits

  -- the infinitesimal part of a limit in force
  part_in_force : (u : Bool) (v : ℕ) (h : Limit DeltaValue) → in_force u v (limits_in value s.limits) ≡ Some h → (strict : Bool) × (h.at.inf ≡ inf_of u strict)
  part_in_force u v h held =
      let from = Each-in_force (IsOfTold rows (map (λ t. t.lit) ts)) u v (limits_in value s.limits) h (limits-told_here value rows ts s sound) held in
      let bound = limit_found rows h.tag from.0 h from.1.1 in
      let side : bound.0.upper ≡ u = sym bound.1.1.upper ∙ (in_force-side u v (limits_in value s.limits) h held).0 in
      (bound.0.strict, bound.1.1.strict ∙ ap (λ w. cond bound.0.strict (cond w (neg_ℚ (whole (pos 1))) (whole (pos 1))) (whole (pos 0))) side)

  number-held : (u : Bool) (v : ℕ) (h : Limit DeltaValue) (P : DeltaValue → Type 0) → in_force u v (limits_in value s.limits) ≡ Some h → IfSome (number_in_force u v (limits_in value s.limits)) P → P h.at
  number-held u v h P held kept = subst (λ o. IfSome (option_map (λ l. l.at) o) P) held kept

  kept : (k : ℕ) (t : Told) → slice_get ts k ≡ Some t → (b : Bound) → bound_of rows t.lit ≡ Some b → Keeps b (solution.of_variable b.var)
  kept k t some b is =
      let good = bound-good rows sound.good t.lit b is in
      let limit = limit_of_bound b (0 + k) good.some in
      let has : HasLimit rows (0 + k) t.lit limit.0 = subst (λ o. IsSomeAnd o (λ b. IsLimitOf b (0 + k) limit.0)) (sym is) limit.1 in
      let held = given-in_force rows 0 [] ts (limits_in value s.limits) sound.given k t some b is in
      let met = subst (λ u. IsMetOn u held.0.at limit.0.at) limit.1.upper (given-met rows sound.good 0 [] ts (limits_in value s.limits) b.var held.0.at sound.given simplex.orderly (within-limit (limits_in value s.limits) b.upper b.var held.0 simplex.orderly held.1) k t some limit.0 has limit.1.var) in
      let part = part_in_force b.upper b.var held.0 held.1 in
      let den : whole (pos 0) <ℚ whole b.den = whole-<ℚ (pos 0) b.den (let h = good.some in omega (arith, ints, h)) in
      let within : b.var < variables s.table = subst (λ n. b.var < n) (sym count) good.var in
      scaled b.upper b.strict (whole b.den) (whole b.num) (solution.of_variable b.var) limit.0.at.real den limit.1.number (by b.upper held.0 held.1 part within limit.0.at limit.1.strict met)
    where
      by : (u : Bool) (h : Limit DeltaValue) → in_force u b.var (limits_in value s.limits) ≡ Some h → (strict : Bool) × (h.at.inf ≡ inf_of u strict) → b.var < variables s.table → (l : DeltaValue) → l.inf ≡ inf_of u b.strict → IsMetOn u h.at l → KeepsReal u b.strict (solution.of_variable b.var) l.real
      by true h held part within l inf met =
          keeps-upper b.strict part.0 (solution.of_variable b.var) h.at l part.1 inf (number-held true b.var h (IsAtMost (solution.of_variable b.var)) held (solution.upper b.var within)) met
      by false h held part within l inf met =
          keeps-lower b.strict part.0 (solution.of_variable b.var) h.at l part.1 inf (number-held false b.var h (IsAtLeast (solution.of_variable b.var)) held (solution.lower b.var within)) met

  held_all : (us : List Told) → ((k : ℕ) (u : Told) → slice_get us k ≡ Some u → (b : Bound) → bound_of rows u.lit ≡ Some b → Keeps b (solution.of_variable b.var)) → AreHeld rows sound.good (λ v. (corner value s).value v) solution.of_variable (map (λ t. t.lit) us)
  held_all [] each = tt
  held_all (u ∷ us) each = (each 0 u refl, held_all us (λ k w some. each (suc k) w some))

  entry-get : (ns : List ℤ) (j : ℕ) → j < length ns → slice_get ns j ≡ Some (entry ns j)
  entry-get [] j less = absurd (omega arith)
  entry-get (n ∷ ns) zero less = refl
  entry-get (n ∷ ns) (suc j) less = entry-get ns j (omega arith)

  pub values_meet : s.table.columns ≡ rows.columns → (n : ℕ) → over ≡ pos n → 0 < n → AreMet rows (entry values) n (map (λ t. t.lit) ts)
  values_meet columns n is some =
      are_met rows sound.good solution.of_variable ((sound.exact solution.of_variable).0 solution.rows) n some (entry values) over_is (λ v. (corner value s).value v) (map (λ t. t.lit) ts) (held_all ts kept)
    where
      over_is : IsOver solution.of_variable rows.columns n (entry values)
      over_is j less =
          let count_is : length values ≡ rows.columns = solution.count ∙ columns in
          let within : j < length values = subst (λ m. j < m) (sym count_is) less in
          ap (λ z. solution.of_variable j *ℚ whole z) (sym is) ∙ solution.columns j (entry values j) (entry-get values j within)

-- ---- no variable is violated

≤δ_from_not_> : (x y : DeltaValue) → (y <δ x → ⊥) → x ≤δ y
≤δ_from_not_> x y n = by (delta_at_most x y) refl
  where
    by : (b : Bool) → delta_at_most x y ≡ b → x ≤δ y
    by true e = e
    by false e = absurd (n e)

not_below : (o : Option (Limit DeltaValue)) (x : DeltaValue) → (IsSomeAnd o (λ l. x <δ l.at) → ⊥) → IfSome o (λ l. l.at ≤δ x)
not_below None x calm = tt
not_below (Some l) x calm = ≤δ_from_not_> l.at x calm

not_above : (o : Option (Limit DeltaValue)) (x : DeltaValue) → (IsSomeAnd o (λ l. l.at <δ x) → ⊥) → IfSome o (λ l. x ≤δ l.at)
not_above None x calm = tt
not_above (Some l) x calm = ≤δ_from_not_> x l.at calm

pub all_within : {F : Type 0} (most : ℕ) (value : F → ℚ) (rows : Rows) (lits : List Lit) (s : SimplexState F) → (HasViolated (state_of value rows lits s) → ⊥) → AllWithin most value (corner value s)
all_within most value rows lits s calm v less = record {
  lower = not_below (in_force false v (limits_in value s.limits)) (value_in value s.values v) (λ h. calm (false, (v, h)));
  upper = not_above (in_force true v (limits_in value s.limits)) (value_in value s.values v) (λ h. calm (true, (v, h)));
}

module _ {F : Type 0} (value : F → ℚ) (rows : Rows) (ts : List Told) (refused : Option Lit) (s : SimplexState F) (fine owes : Bool) (rest : Option LraFault) (kept : IsKept value rows ts refused s fine owes rest) (stands : fine ≡ true) (simplex : IsSoundSimplex value s) (over : ℤ) (values : List ℤ) (solution : IsSolution value (corner value s) over values) where
  works : s.rest ≡ None
  works = kept.works (kept.settled stands).works

  pub kept-met : pos 1 ≤ℤ over → AreMet rows (entry values) (unsigned_abs over) (lits_of ts refused)
  kept-met some =
      subst (λ r. AreMet rows (entry values) (unsigned_abs over) (lits_of ts r)) (sym (kept.settled stands).agrees)
      (values_meet value rows ts s kept.sound (kept.sound.count works) simplex over values solution (kept.sound.columns works) (unsigned_abs over) (is_size over some) (size_some over some))

  pub kept-count : length values ≡ rows.columns
  kept-count = solution.count ∙ kept.sound.columns works
