-- What a check does and answers.
use Rattle.std.proofs.Common.{◌≡◌, ◌↔◌, ℕ, suc, ◌+◌, ◌<◌, ◌≤◌, List, [], ◌∷◌, ◌++◌, map, take, length, Bool, true, false, Option, None, Some, slice_get, ◌⊎◌, inl, inr, refl, sym, ap, subst, ◌∙◌, arith}
use Rattle.std.specs.Option.{IfSome, IsSomeAnd}
use Rattle.std.proofs.lemmas.Bool.{cases_lt}
use Rattle.std.proofs.lemmas.List.{take_all}
use Rattle.ordered_field.specs.Rational.{ℚ}
use Rattle.ordered_field.specs.Delta.{DeltaValue, ◌<δ◌, ◌≤δ◌}
use Rattle.ordered_field.proofs.DeltaOrder.{<δ-not_≥}
use Rattle.whole.specs.Budget.{counts, Counts, spent}
use Rattle.whole.specs.declared.answers.Stuck.{Stuck}
use Rattle.whole.specs.declared.budget.Budget.{Budget}
use Rattle.tableau.specs.Tables.{variables, entry, Meets}
use Rattle.farkas_cert.specs.declared.journals.Journal.{Journal}
use Rattle.farkas_cert.specs.declared.journals.Move.TheVariants.{Pivot}
use Rattle.farkas_cert.specs.declared.literals.Lit.{Lit}
use Rattle.clause_form.specs.declared.theory.Heard.{Heard}
use Rattle.clause_form.specs.declared.theory.Heard.TheVariants as heard
use Rattle.clause_form.specs.Derivations.{Rows}
use Rattle.clause_form.specs.Theories.{HasSolution, HearsCheck, HearsCheckAtWork, MadePivots, PivotsLead as TheoryLeads, StuckAfterPivots}
use Rattle.simplex.specs.declared.limits.Limit.{Limit}
use Rattle.simplex.specs.declared.outcome.Bound.{Bound}
use Rattle.simplex.specs.declared.outcome.Share.{Share}
use Rattle.simplex.specs.Bounds.{IsLimitOf}
use Rattle.simplex.specs.declared.outcome.Outcome.{Outcome}
use Rattle.simplex.specs.declared.outcome.Outcome.TheVariants as outcome
use Rattle.simplex.specs.Checks.{AllWithin, AnswersCheck, AnswersCheckAtWork, CannotBeHelped, EndsIn, Made, MayPivot as SimplexMayPivot, pivots_charged}
use Rattle.simplex.specs.Corners.{Corner, PivotsLead}
use Rattle.simplex.specs.Limits.{in_force, IsMet, IsViolated, IsWithin}
use Rattle.simplex.specs.Moves.{IsStuckPivot}
use Rattle.simplex.specs.Shares.{Weight, AreOfRow}
use Rattle.simplex.specs.States.{corner, limits_in, value_in, IsSound as IsSoundSimplex, State as SimplexState}
use Rattle.lra_theory.specs.declared.trail.Told.{Told}
use Rattle.lra_theory.specs.Clashes.{AreOfClash, AnswersClash, IsFarkas}
use Rattle.lra_theory.specs.Forms.{variables_of}
use Rattle.lra_theory.specs.Literals.{bound_of, HasLimit}
use Rattle.lra_theory.specs.Relations.{relations, HasViolated}
use Rattle.lra_theory.specs.Soundness.{AreGiven, IsSound}
use Rattle.lra_theory.specs.Standings.{after, at_work, is_fine, rest_after, rest_of, seen, state_of}
use Rattle.lra_theory.specs.States.{State}
use Rattle.lra_theory.proofs.FarkasLaws.{farkas_of_row, holders_count}
use Rattle.lra_theory.proofs.GivenLaws.{bound-good, given-met, given-var}
use Rattle.lra_theory.proofs.Solutions.{AreMetAt, has_solution}
use Rattle.lra_theory.proofs.TellLaws.{limits-told_here, not_opposed}

-- ---- pivots

module _ {F : Type 0} (most : ℕ) (value : F → ℚ) (rows : Rows) (told : List Lit) where
  abbrev pub at : Corner F → State F
  at c = record { rows = rows; told = told; corner = c }

  pub leads : (c : Corner F) (ps : List (ℕ × ℕ)) (d : Corner F) → PivotsLead value c ps d → TheoryLeads (relations most value) (at c) ps (at d)
  leads c [] d same = ap (λ k. at k) same
  leads c (p ∷ ps) d (upper, choice, (e, after, rest)) =
      ((upper, choice), (at e, record { rows = refl; told = refl; upper = upper; choice = choice; after = after }, leads e ps d rest))

  pub stuck_in : (k : Stuck) (c : Corner F) (ps : List (ℕ × ℕ)) → EndsIn most value c ps (λ c upper b o. IsStuckPivot most value c upper b o k) → StuckAfterPivots (relations most value) (at c) ps k
  stuck_in k c ps ends =
      inl (ends.front, (ends.basic, ends.other), at ends.at, ends.all, leads c ends.front ends.at ends.leads, (ends.upper, ends.choice), (ends.upper, (ends.choice, ends.last)))

-- ---- the limits are met

within-not_violated : (u : Bool) (ls : List (Limit DeltaValue)) (v : ℕ) (x : DeltaValue) → IsWithin ls v x → IsViolated u ls v x → ⊥
within-not_violated true ls v x within violated = by (in_force true v ls) within.upper violated
  where
    by : (o : Option (Limit DeltaValue)) → IfSome o (λ l. x ≤δ l.at) → IsSomeAnd o (λ l. l.at <δ x) → ⊥
    by None met broken = broken
    by (Some l) met broken = <δ-not_≥ l.at x broken met
within-not_violated false ls v x within violated = by (in_force false v ls) within.lower violated
  where
    by : (o : Option (Limit DeltaValue)) → IfSome o (λ l. l.at ≤δ x) → IsSomeAnd o (λ l. x <δ l.at) → ⊥
    by None met broken = broken
    by (Some l) met broken = <δ-not_≥ x l.at broken met

violated-in_force : (u : Bool) (ls : List (Limit DeltaValue)) (v : ℕ) (x : DeltaValue) → IsViolated u ls v x → (l : Limit DeltaValue) × (in_force u v ls ≡ Some l)
violated-in_force true ls v x violated = by (in_force true v ls) refl violated
  where
    by : (o : Option (Limit DeltaValue)) → in_force true v ls ≡ o → IsSomeAnd o (λ l. l.at <δ x) → (l : Limit DeltaValue) × (in_force true v ls ≡ Some l)
    by None e broken = absurd broken
    by (Some l) e broken = (l, e)
violated-in_force false ls v x violated = by (in_force false v ls) refl violated
  where
    by : (o : Option (Limit DeltaValue)) → in_force false v ls ≡ o → IsSomeAnd o (λ l. x <δ l.at) → (l : Limit DeltaValue) × (in_force false v ls ≡ Some l)
    by None e broken = absurd broken
    by (Some l) e broken = (l, e)

module _ {F : Type 0} (most : ℕ) (value : F → ℚ) (rows : Rows) (ts : List Told) (t : SimplexState F) (sound : IsSound value rows ts t) (works : t.rest ≡ None) (simplex : IsSoundSimplex value t) where
  lits : List Lit
  lits = map (λ t. t.lit) ts

  pub not_violated : AllWithin most value (corner value t) → HasViolated (state_of value rows (map (λ t. t.lit) ts) t) → ⊥
  not_violated within (upper, (v, violated)) = by (cases_lt v (variables t.table))
    where
      by : (v < variables t.table) ⊎ (variables t.table ≤ v) → ⊥
      by (inl less) = within-not_violated upper (limits_in value t.limits) v (value_in value t.values v) (within v less) violated
      by (inr beyond) =
          let held = violated-in_force upper (limits_in value t.limits) v (value_in value t.values v) violated in
          let less = given-var rows sound.good (map (λ t. t.lit) ts) (limits_in value t.limits) upper v held.0 (limits-told_here value rows ts t sound) held.1 in
          let count : variables t.table ≡ variables_of rows = sound.count works in omega arith

  limit-within : (position : ℕ) (l : Lit) (limit : Limit DeltaValue) → HasLimit rows position l limit → limit.var < variables t.table
  limit-within position l limit has = by (bound_of rows l) refl has
    where
      by : (o : Option Bound) → bound_of rows l ≡ o → IsSomeAnd o (λ b. IsLimitOf b position limit) → limit.var < variables t.table
      by None e none = absurd none
      by (Some b) e is =
          subst (λ n. limit.var < n) (sym (sound.count works)) (subst (λ v. v < variables_of rows) (sym is.var) (bound-good rows sound.good l b e).var)

  met_list : (position : ℕ) (us : List Told) → ((k : ℕ) (u : Told) → slice_get us k ≡ Some u → (limit : Limit DeltaValue) → HasLimit rows (position + k) u.lit limit → IsMet (value_in value t.values limit.var) limit) → AreMetAt rows sound.good (value_in value t.values) position (map (λ t. t.lit) us)
  met_list position [] each = tt
  met_list position (u ∷ us) each = (
    λ limit has. each 0 u refl limit (let n : position ≡ position + 0 = omega arith in subst (λ p. HasLimit rows p u.lit limit) n has),
    met_list (position + 1) us (λ k w some limit has. each (suc k) w some limit (let n : position + 1 + k ≡ position + suc k = omega arith in subst (λ p. HasLimit rows p w.lit limit) n has)),
  )

  pub solved : AllWithin most value (corner value t) → HasSolution rows (map (λ t. t.lit) ts)
  solved within =
      has_solution rows sound.good (value_in value t.values) (map (λ t. t.lit) ts) ((sound.exact (λ v. (value_in value t.values v).real)).0 simplex.at.real) ((sound.exact (λ v. (value_in value t.values v).inf)).0 simplex.at.inf) (met_list 0 ts (λ k u some limit has. given-met rows sound.good 0 [] ts (limits_in value t.limits) limit.var (value_in value t.values limit.var) sound.given simplex.orderly (within limit.var (limit-within (0 + k) u.lit limit has)) k u some limit has refl))

  -- ---- a conflict

  module _ (shares : List (Share F)) (conflict : CannotBeHelped most value (corner value t) shares) where
    weights : List Weight
    weights = conflict.1.1.2.weights

    few : (ws : List Weight) → AreOfRow value (corner value t) conflict.0 conflict.1.0 ws → length ws ≤ 2049
    few [] none = absurd none
    few (w ∷ ws) (held, one, are) =
        let count = holders_count (corner value t).limits conflict.0 (entry value t.table conflict.1.0) (variables t.table) ws (λ v beyond. simplex.at.table.beyond conflict.1.0 v beyond) are in
        let all : variables t.table ≡ variables_of rows = sound.count works in
        let limit : variables_of rows ≤ 2048 = sound.good.few in omega arith

    pub conflict-farkas : IsFarkas rows (map (λ t. t.lit) ts) conflict.1.1.2.weights
    conflict-farkas =
        farkas_of_row value rows (map (λ t. t.lit) ts) t.table (limits_in value t.limits) conflict.1.1.2.weights sound.good sound.exact (limits-told_here value rows ts t sound) (few conflict.1.1.2.weights conflict.1.1.2.of_row) conflict.1.1.2.contradiction

    pub conflict-of_clash : AreOfClash value (state_of value rows (map (λ t. t.lit) ts) t) conflict.1.1.2.weights
    conflict-of_clash =
        inr (record { upper = conflict.0; basic = conflict.1.0; violated = conflict.1.1.0; helpless = conflict.1.1.1; of_row = conflict.1.1.2.of_row })

-- ---- answers

-- the pivots that were charged and written
pub record AreCharged (ps : List (ℕ × ℕ)) (before after : Budget) (journal written : Journal) : Type 0 where
  pub charged : counts after ≡ pivots_charged (length ps) (counts before)
  pub moves : written.moves ≡ journal.moves ++ map (λ p. Pivot p.0 p.1) ps

module _ {F : Type 0} (most : ℕ) (value : F → ℚ) (rows : Rows) (ts : List Told) (s t : SimplexState F) (before after' : Budget) (journal written : Journal) where
  pub answered : (ps : List (ℕ × ℕ)) (answer : Heard) (fine owes : Bool) → AreCharged ps before after' journal written → HearsCheckAtWork (relations most value) (seen value (at_work fine owes rows ts None s)) ps answer (seen value (after (is_fine answer) answer rows ts None t)) (counts after') → HearsCheck (relations most value) (seen value (at_work fine owes rows ts None s)) answer (seen value (after (is_fine answer) answer rows ts None t)) before after' journal written
  answered ps answer fine owes charged at_work =
      record { pivots = ps; charged = charged.charged; moves = charged.moves; at_work = λ _. at_work; at_rest = tt }

  made : (ps : List (ℕ × ℕ)) (answer : Heard) (fine owes : Bool) → PivotsLead value (corner value s) ps (corner value t) → rest_after answer ≡ None → MadePivots (relations most value) (seen value (at_work fine owes rows ts None s)) ps (seen value (after (is_fine answer) answer rows ts None t))
  made ps answer fine owes led works = record {
    rows = refl;
    told = refl;
    state = leads most value rows (map (λ t. t.lit) ts) (corner value s) ps (corner value t) led;
    rest = ap rest_of works;
  }

  pub fine-answers : (sound : IsSound value rows ts t) → IsSoundSimplex value t → Made most value s t → AllWithin most value (corner value t) → (fine owes : Bool) → HearsCheckAtWork (relations most value) (seen value (at_work fine owes rows ts None s)) t.pivots heard.Fine (seen value (after true heard.Fine rows ts None t)) (counts after')
  fine-answers sound simplex leads within fine owes =
      (made t.pivots heard.Fine fine owes leads.leads refl, refl, refl, not_opposed value rows ts t sound simplex.orderly, not_violated most value rows ts t sound leads.rest simplex within, solved most value rows ts t sound leads.rest simplex within)

  pub spent-answers : Made most value s t → spent (counts after') ≡ (counts after').limit → SimplexMayPivot most value (corner value t) → (fine owes : Bool) → HearsCheckAtWork (relations most value) (seen value (at_work fine owes rows ts None s)) t.pivots heard.Spent (seen value (after false heard.Spent rows ts None t)) (counts after')
  spent-answers leads all may fine owes =
      (made t.pivots heard.Spent fine owes leads.leads refl, refl, refl, all, (may.1.0, may.1.1.0, (may.0, may.1.1.1)))

  pub stuck-answers : (k : Stuck) → EndsIn most value (corner value s) t.pivots (λ c upper b o. IsStuckPivot most value c upper b o k) → (fine owes : Bool) → HearsCheckAtWork (relations most value) (seen value (at_work fine owes rows ts None s)) t.pivots (heard.Stuck k) (seen value (after false (heard.Stuck k) rows ts None t)) (counts after')
  stuck-answers k ends fine owes =
      (refl, refl, stuck_in most value rows (map (λ t. t.lit) ts) k (corner value s) t.pivots ends)

  pub clash-answers : (answer : Heard) → Made most value s t → AnswersClash value (state_of value rows (map (λ t. t.lit) ts) t) answer → (fine owes : Bool) → HearsCheckAtWork (relations most value) (seen value (at_work fine owes rows ts None s)) t.pivots answer (seen value (after (is_fine answer) answer rows ts None t)) (counts after')
  clash-answers heard.Fine leads none fine owes = absurd none
  clash-answers (heard.Clash parts) leads leaf fine owes =
      (made t.pivots (heard.Clash parts) fine owes leads.leads refl, refl, refl, record { few = leaf.few; contradiction = leaf.contradiction; fits = leaf.fits; clash = (leaf.weights, (leaf.of_clash, leaf.literals)) })
  clash-answers heard.Spent leads none fine owes = absurd none
  clash-answers (heard.Stuck k) made stuck fine owes =
      (refl, refl, inr (state_of value rows (map (λ t. t.lit) ts) t, leads most value rows (map (λ t. t.lit) ts) (corner value s) t.pivots (corner value t) made.leads, stuck))
  clash-answers heard.NoMemory leads none fine owes = (refl, refl)

-- ---- what a check of the simplex keeps

-- as many variables and columns
abbrev HasShape : {F : Type 0} → SimplexState F → SimplexState F → Type 0
HasShape s t = (variables t.table ≡ variables s.table) × (t.table.columns ≡ s.table.columns)

leads-shape : {F : Type 0} (value : F → ℚ) (c : Corner F) (ps : List (ℕ × ℕ)) (d : Corner F) → PivotsLead value c ps d → (variables d.table ≡ variables c.table) × (d.table.columns ≡ c.table.columns)
leads-shape value c [] d same = (ap (λ k. variables k.table) (sym same), ap (λ k. k.table.columns) (sym same))
leads-shape value c (p ∷ ps) d (upper, choice, (e, after, rest)) =
    let later = leads-shape value e ps d rest in
    (later.0 ∙ after.exchanged.count, later.1 ∙ after.exchanged.columns)

check-sound : {F : Type 0} (value : F → ℚ) (rows : Rows) (ts : List Told) (s t : SimplexState F) → IsSound value rows ts s → s.rest ≡ None → t.limits ≡ s.limits → ((x : ℕ → ℚ) → Meets value t.table x ↔ Meets value s.table x) → (t.rest ≡ None → HasShape s t) → IsSound value rows ts t
check-sound value rows ts s t sound works limits same shape = record {
  good = sound.good;
  columns = λ e. (shape e).1 ∙ sound.columns works;
  count = λ e. (shape e).0 ∙ sound.count works;
  exact = λ x. (λ h. (sound.exact x).0 ((same x).0 h), λ h. (same x).1 ((sound.exact x).1 h));
  given = subst (λ ls. AreGiven rows 0 [] ts (limits_in value ls)) (sym limits) sound.given;
}

checked-shape : {F : Type 0} (most : ℕ) (value : F → ℚ) (s t : SimplexState F) (after : Counts) (answer : Outcome F) → AnswersCheckAtWork most value s answer t after → t.rest ≡ None → HasShape s t
checked-shape most value s t after outcome.Fine answers works = leads-shape value (corner value s) t.pivots (corner value t) answers.0.leads
checked-shape most value s t after (outcome.Conflict shares) answers works = leads-shape value (corner value s) t.pivots (corner value t) answers.0.leads
checked-shape most value s t after outcome.Spent answers works = leads-shape value (corner value s) t.pivots (corner value t) answers.0.leads
checked-shape most value s t after (outcome.Stuck k) answers works = absurd (let h = sym works ∙ answers.1 in cc)
checked-shape most value s t after outcome.NoMemory answers works = absurd (let h = sym works ∙ answers.1 in cc)

pub checked-sound : {F : Type 0} (most : ℕ) (value : F → ℚ) (rows : Rows) (ts : List Told) (s t : SimplexState F) (before after : Counts) (answer : Outcome F) → IsSound value rows ts s → s.rest ≡ None → AnswersCheck most value s answer t before after → ((x : ℕ → ℚ) → Meets value t.table x ↔ Meets value s.table x) → IsSound value rows ts t
checked-sound most value rows ts s t before after answer sound works answers same =
    check-sound value rows ts s t sound works answers.limits same (λ works_t. checked-shape most value s t after answer (answers.at_work works) works_t)

-- all pivots are charged and written
pub written-all : (ps qs : List (ℕ × ℕ)) (n : ℕ) (before after : Budget) (journal written : Journal) → qs ≡ ps → n ≤ length qs → length qs ≤ n → counts after ≡ pivots_charged n (counts before) → written.moves ≡ journal.moves ++ map (λ p. Pivot p.0 p.1) (take n qs) → AreCharged ps before after journal written
written-all ps qs n before after journal written same most least charged moves = record {
  charged = let count : length qs ≡ length ps = ap length same in let at : n ≡ length ps = omega arith in charged ∙ ap (λ k. pivots_charged k (counts before)) at;
  moves = moves ∙ ap (λ ls. journal.moves ++ map (λ p. Pivot p.0 p.1) ls) (take_all n qs least ∙ same);
}

-- what is spent of the two budgets
pub spent-same : (n m : ℕ) (before : Counts) (after trial : Counts) → n ≡ m → after ≡ pivots_charged n before → trial ≡ pivots_charged m before → spent trial ≡ trial.limit → spent after ≡ after.limit
spent-same n m before after trial same a b e =
    subst (λ c. spent c ≡ c.limit) (b ∙ ap (λ k. pivots_charged k before) (sym same) ∙ sym a) e
