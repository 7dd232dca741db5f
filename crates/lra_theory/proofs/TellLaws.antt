-- What telling a literal does and answers.
use Rattle.std.proofs.Common.{◌≡◌, ◌↔◌, ℕ, suc, ◌+◌, ◌≤◌, List, [], ◌∷◌, ◌++◌, map, length, Bool, false, not, All, Option, None, Some, slice_get, ◌⊎◌, inl, inr, refl, sym, ap, subst, ◌∙◌, arith}
use Rattle.std.specs.Option.{IsSomeAnd, MatchOption}
use Rattle.std.proofs.lemmas.List.{append-nil}
use Rattle.ordered_field.specs.Rational.{ℚ}
use Rattle.ordered_field.specs.Delta.{DeltaValue}
use Rattle.ordered_field.specs.declared.delta.Delta.{Delta}
use Rattle.whole.specs.declared.answers.Stuck.{Stuck}
use Rattle.tableau.specs.Tables.{variables, Meets}
use Rattle.farkas_cert.specs.declared.literals.Lit.{Lit}
use Rattle.clause_form.specs.declared.theory.Heard.{Heard}
use Rattle.clause_form.specs.declared.theory.Heard.TheVariants as heard
use Rattle.clause_form.specs.Derivations.{Rows}
use Rattle.clause_form.specs.Theories.{HearsLiteralAtWork, TookLiteral}
use Rattle.simplex.specs.declared.limits.Limit.{Limit}
use Rattle.simplex.specs.declared.outcome.Bound.{Bound}
use Rattle.simplex.specs.declared.outcome.Share.{Share}
use Rattle.simplex.specs.Bounds.{IsLimitOf, IsPutInForce as IsPutInForceIn, IsSet, IsStuckBound, IsRefused, IsStuckSetting as IsStuckBoundSetting, both_limits}
use Rattle.simplex.specs.Limits.{in_force, IsImplied, Contradicts, Excludes, AreOrderly}
use Rattle.simplex.specs.Shares.{Weight, AreShares}
use Rattle.simplex.specs.States.{corner, limits_in, State as SimplexState}
use Rattle.lra_theory.specs.declared.trail.Told.{Told}
use Rattle.lra_theory.specs.Clashes.{AreOfClash, AnswersClash, IsFarkas, IsTold}
use Rattle.lra_theory.specs.Literals.{bound_of, HasLimit}
use Rattle.lra_theory.specs.Relations.{relations, IsOpposed}
use Rattle.lra_theory.specs.Setting.{SetsBound, SetsLimit, IsStuckMoving}
use Rattle.lra_theory.specs.Forms.{MeetsForms}
use Rattle.simplex.proofs.CompareLaws.{is_some_and-by}
use Rattle.lra_theory.specs.Soundness.{AreGiven, Gives, IsSound}
use Rattle.lra_theory.specs.Standings.{after, at_work, kept, lits_of, rest_after, rest_of, seen, state_of}
use Rattle.lra_theory.specs.States.{State}
use Rattle.lra_theory.proofs.FarkasLaws.{farkas_of_opposed, shares_count, shares_told}
use Rattle.lra_theory.proofs.GivenLaws.{Each, Each-in_force, IsOfTold, given-agrees, given-append, given-told, slice_get-front, slice_get-last, slice_get-told, told_at}

pub lits-append : (ts : List Told) (t : Told) → map (λ t. t.lit) (ts ++ t ∷ []) ≡ map (λ t. t.lit) ts ++ t.lit ∷ []
lits-append [] t = refl
lits-append (u ∷ us) t = ap (λ ls. u.lit ∷ ls) (lits-append us t)

pub lits-count : (ts : List Told) → length (map (λ t. t.lit) ts) ≡ length ts
lits-count [] = refl
lits-count (t ∷ ts) = ap (λ n. suc n) (lits-count ts)

pub limits-length : {F : Type 0} (value : F → ℚ) (ls : List (Limit (Delta F))) → length (limits_in value ls) ≡ length ls
limits-length value [] = refl
limits-length value (l ∷ ls) = ap (λ n. suc n) (limits-length value ls)

-- each limit is that of the literal told at its tag
pub limits-told : {F : Type 0} (value : F → ℚ) (rows : Rows) (ts : List Told) (s : SimplexState F) (more : List Lit) → IsSound value rows ts s → Each (IsOfTold rows (map (λ t. t.lit) ts ++ more)) (limits_in value s.limits)
limits-told value rows ts s more sound =
    given-told rows (map (λ t. t.lit) ts ++ more) 0 [] ts (limits_in value s.limits) sound.given (λ k t some. let n : k ≡ 0 + k = omega arith in subst (λ p. slice_get (map (λ t. t.lit) ts ++ more) p ≡ Some t.lit) n (slice_get-front (map (λ t. t.lit) ts) more k t.lit (slice_get-told ts k t some))) tt

pub limits-told_here : {F : Type 0} (value : F → ℚ) (rows : Rows) (ts : List Told) (s : SimplexState F) → IsSound value rows ts s → Each (IsOfTold rows (map (λ t. t.lit) ts)) (limits_in value s.limits)
limits-told_here value rows ts s sound =
    given-told rows (map (λ t. t.lit) ts) 0 [] ts (limits_in value s.limits) sound.given (λ k t some. let n : k ≡ 0 + k = omega arith in subst (λ p. slice_get (map (λ t. t.lit) ts) p ≡ Some t.lit) n (slice_get-told ts k t some)) tt

-- nothing contradicts while each literal's bound is set
pub not_opposed : {F : Type 0} (value : F → ℚ) (rows : Rows) (ts : List Told) (s : SimplexState F) → IsSound value rows ts s → AreOrderly [] (limits_in value s.limits) → IsOpposed (state_of value rows (map (λ t. t.lit) ts) s) → ⊥
not_opposed value rows ts s sound orderly (position, (limit, (other, opposes))) =
    let t = told_at ts position opposes.lit opposes.told in
    given-agrees rows sound.good ts (limits_in value s.limits) sound.given orderly position t.0 t.1.0 limit other (subst (λ l. HasLimit rows position l limit) (sym t.1.1) opposes.gives) opposes.in_force opposes.excludes

pub tag-is : (ts : List Told) (refused : Option Lit) (n : ℕ) → refused ≡ None → n ≡ length (lits_of ts refused) → n ≡ length ts
tag-is ts refused n none e = e ∙ ap (λ r. length (lits_of ts r)) none ∙ lits-count ts

module _ {F : Type 0} (most : ℕ) (value : F → ℚ) (rows : Rows) (ts : List Told) (s : SimplexState F) (sound : IsSound value rows ts s) (l : Lit) where
  limits-count : length s.limits ≡ length (limits_in value s.limits)
  limits-count = sym (limits-length value s.limits)

  given-more : (more : List (Limit DeltaValue)) → Gives rows (length ts) (limits_in value s.limits) l more → AreGiven rows 0 [] (ts ++ record { lit = l; mark = length s.limits } ∷ []) (limits_in value s.limits ++ more)
  given-more more gives =
      given-append rows 0 [] ts (limits_in value s.limits) (record { lit = l; mark = length s.limits }) more sound.given limits-count (let n : length ts ≡ 0 + length ts = omega arith in subst (λ p. Gives rows p (limits_in value s.limits) l more) n gives)

  took : (fine owes : Bool) (t : SimplexState F) → SetsBound value (state_of value rows (map (λ t. t.lit) ts) s) l (corner value t) → (lits : List Lit) → lits ≡ map (λ t. t.lit) ts ++ l ∷ [] → (told : List Told) (refused : Option Lit) → lits_of told refused ≡ lits → (answer : Heard) → rest_after answer ≡ None → TookLiteral (relations most value) (seen value (at_work fine owes rows ts None s)) l (seen value (after false answer rows told refused t))
  took fine owes t sets lits are told refused same answer works = record {
    rows = refl;
    told = same ∙ are;
    state = record { rows = refl; told = same ∙ are; bound = sets };
    fine = refl;
    rest = ap rest_of works;
  }

  -- ---- a literal without a bound

  module _ (none : bound_of rows l ≡ None) where
    gives_none : (more : List (Limit DeltaValue)) → more ≡ [] → Gives rows (length ts) (limits_in value s.limits) l more
    gives_none more e =
        subst (λ o. MatchOption o (more ≡ []) (λ b. (limit : Limit DeltaValue) × IsLimitOf b (length ts) limit × (¬ Contradicts (limits_in value s.limits) limit) × ((IsImplied (limits_in value s.limits) limit × (more ≡ [])) ⊎ ((¬ IsImplied (limits_in value s.limits) limit) × (more ≡ limit ∷ []))))) (sym none) e

    pub named-sound : IsSound value rows (ts ++ record { lit = l; mark = length s.limits } ∷ []) s
    named-sound = record {
      good = sound.good;
      columns = sound.columns;
      count = sound.count;
      exact = sound.exact;
      given = subst (λ ls. AreGiven rows 0 [] (ts ++ record { lit = l; mark = length s.limits } ∷ []) ls) (append-nil (limits_in value s.limits)) (given-more [] (gives_none [] refl));
    }

    pub named-answers : (orderly : AreOrderly [] (limits_in value s.limits)) (fine owes : Bool) → HearsLiteralAtWork (relations most value) (seen value (at_work fine owes rows ts None s)) l heard.Fine (seen value (after false heard.Fine rows (ts ++ record { lit = l; mark = length s.limits } ∷ []) None s))
    named-answers orderly fine owes = (
      took fine owes s (subst (λ o. MatchOption o (corner value s ≡ corner value s) (λ b. (limit : Limit DeltaValue) × IsLimitOf b (length (map (λ t. t.lit) ts)) limit × SetsLimit value (corner value s) limit (corner value s))) (sym none) refl) (map (λ t. t.lit) ts ++ l ∷ []) refl (ts ++ record { lit = l; mark = length s.limits } ∷ []) None (lits-append ts (record { lit = l; mark = length s.limits })) heard.Fine refl,
      refl,
      not_opposed value rows (ts ++ record { lit = l; mark = length s.limits } ∷ []) s named-sound orderly,
    )

    pub named-returns : AreOrderly [] (limits_in value s.limits) → (news : List Told) (mark : ℕ) (refused : Option Lit) → news ≡ ts ++ record { lit = l; mark = mark } ∷ [] → mark ≡ length s.limits → refused ≡ None → (fine owes : Bool) → HearsLiteralAtWork (relations most value) (seen value (at_work fine owes rows ts None s)) l heard.Fine (seen value (after false heard.Fine rows news refused s))
    named-returns orderly news mark refused are at none_refused fine owes =
        subst (λ r. HearsLiteralAtWork (relations most value) (seen value (at_work fine owes rows ts None s)) l heard.Fine (seen value (after false heard.Fine rows news r s))) (sym none_refused) (subst (λ ls. HearsLiteralAtWork (relations most value) (seen value (at_work fine owes rows ts None s)) l heard.Fine (seen value (after false heard.Fine rows ls None s))) (sym (are ∙ ap (λ m. ts ++ record { lit = l; mark = m } ∷ []) at)) (named-answers orderly fine owes))

    pub named-keeps : (news : List Told) (mark : ℕ) → news ≡ ts ++ record { lit = l; mark = mark } ∷ [] → mark ≡ length s.limits → IsSound value rows news s
    named-keeps news mark are at =
        subst (λ ls. IsSound value rows ls s) (sym (are ∙ ap (λ m. ts ++ record { lit = l; mark = m } ∷ []) at)) named-sound

  -- ---- a literal with a bound

  module _ (b : Bound) (is : bound_of rows l ≡ Some b) (t : SimplexState F) where
    set-limits : IsSet most value s b (length ts) t → (more : List (Limit DeltaValue)) × (Gives rows (length ts) (limits_in value s.limits) l more × (limits_in value t.limits ≡ limits_in value s.limits ++ more))
    set-limits set = by set.does
      where
        gives : (more : List (Limit DeltaValue)) → ((IsImplied (limits_in value s.limits) set.limit × (more ≡ [])) ⊎ ((¬ IsImplied (limits_in value s.limits) set.limit) × (more ≡ set.limit ∷ []))) → Gives rows (length ts) (limits_in value s.limits) l more
        gives more does =
            subst (λ o. MatchOption o (more ≡ []) (λ b. (limit : Limit DeltaValue) × IsLimitOf b (length ts) limit × (¬ Contradicts (limits_in value s.limits) limit) × ((IsImplied (limits_in value s.limits) limit × (more ≡ [])) ⊎ ((¬ IsImplied (limits_in value s.limits) limit) × (more ≡ limit ∷ []))))) (sym is) (set.limit, set.is_limit, set.agrees, does)

        by : ((IsImplied (corner value s).limits set.limit × (t ≡ s)) ⊎ ((¬ IsImplied (corner value s).limits set.limit) × IsPutInForceIn value s set.limit t)) → (more : List (Limit DeltaValue)) × (Gives rows (length ts) (limits_in value s.limits) l more × (limits_in value t.limits ≡ limits_in value s.limits ++ more))
        by (inl (implied, same)) =
            ([], (gives [] (inl (implied, refl)), ap (λ k. limits_in value k.limits) same ∙ sym (append-nil (limits_in value s.limits))))
        by (inr (stronger, put)) = (set.limit ∷ [], (gives (set.limit ∷ []) (inr (stronger, refl)), put.limits))

    set-table : IsSet most value s b (length ts) t → t.table ≡ s.table
    set-table set = by set.does
      where
        by : ((IsImplied (corner value s).limits set.limit × (t ≡ s)) ⊎ ((¬ IsImplied (corner value s).limits set.limit) × IsPutInForceIn value s set.limit t)) → t.table ≡ s.table
        by (inl (implied, same)) = ap (λ k. k.table) same
        by (inr (stronger, put)) = put.table

    pub set-works : s.rest ≡ None → IsSet most value s b (length ts) t → t.rest ≡ None
    set-works works set = by set.does
      where
        by : ((IsImplied (corner value s).limits set.limit × (t ≡ s)) ⊎ ((¬ IsImplied (corner value s).limits set.limit) × IsPutInForceIn value s set.limit t)) → t.rest ≡ None
        by (inl (implied, same)) = ap (λ k. k.rest) same ∙ works
        by (inr (stronger, put)) = put.rest

    pub set-sound : s.rest ≡ None → IsSet most value s b (length ts) t → IsSound value rows (ts ++ record { lit = l; mark = length s.limits } ∷ []) t
    set-sound works set =
        let limits = set-limits set in
        let same = set-table set in
        record {
          good = sound.good;
          columns = λ _. ap (λ k. k.columns) same ∙ sound.columns works;
          count = λ _. ap variables same ∙ sound.count works;
          exact = subst (λ k. (x : ℕ → ℚ) → Meets value k x ↔ MeetsForms rows x) (sym same) sound.exact;
          given = subst (λ ls. AreGiven rows 0 [] (ts ++ record { lit = l; mark = length s.limits } ∷ []) ls) (sym limits.1.1) (given-more limits.0 limits.1.0);
        }

    sets-by : (limit : Limit DeltaValue) → IsLimitOf b (length ts) limit → SetsLimit value (corner value s) limit (corner value t) → SetsBound value (state_of value rows (map (λ t. t.lit) ts) s) l (corner value t)
    sets-by limit is_limit sets =
        subst (λ o. MatchOption o (corner value t ≡ corner value s) (λ b. (limit : Limit DeltaValue) × IsLimitOf b (length (map (λ t. t.lit) ts)) limit × SetsLimit value (corner value s) limit (corner value t))) (sym is) (limit, subst (λ n. IsLimitOf b n limit) (sym (lits-count ts)) is_limit, sets)

    set-sets : IsSet most value s b (length ts) t → SetsBound value (state_of value rows (map (λ t. t.lit) ts) s) l (corner value t)
    set-sets set = sets-by set.limit set.is_limit (by set.does)
      where
        by : ((IsImplied (corner value s).limits set.limit × (t ≡ s)) ⊎ ((¬ IsImplied (corner value s).limits set.limit) × IsPutInForceIn value s set.limit t)) → SetsLimit value (corner value s) set.limit (corner value t)
        by (inl (implied, same)) = inl (inr implied, ap (corner value) same)
        by (inr (stronger, put)) =
            inr (set.agrees, stronger, record { table = put.table; limits = put.limits; values = put.values })

    pub set-answers : s.rest ≡ None → IsSet most value s b (length ts) t → AreOrderly [] (limits_in value t.limits) → (fine owes : Bool) → HearsLiteralAtWork (relations most value) (seen value (at_work fine owes rows ts None s)) l heard.Fine (seen value (after false heard.Fine rows (ts ++ record { lit = l; mark = length s.limits } ∷ []) None t))
    set-answers works set orderly fine owes = (
      took fine owes t (set-sets set) (map (λ t. t.lit) ts ++ l ∷ []) refl (ts ++ record { lit = l; mark = length s.limits } ∷ []) None (lits-append ts (record { lit = l; mark = length s.limits })) heard.Fine refl,
      refl,
      not_opposed value rows (ts ++ record { lit = l; mark = length s.limits } ∷ []) t (set-sound works set) orderly,
    )

    pub set-returns : s.rest ≡ None → IsSet most value s b (length ts) t → AreOrderly [] (limits_in value t.limits) → (news : List Told) (mark : ℕ) (refused : Option Lit) → news ≡ ts ++ record { lit = l; mark = mark } ∷ [] → mark ≡ length s.limits → refused ≡ None → (fine owes : Bool) → HearsLiteralAtWork (relations most value) (seen value (at_work fine owes rows ts None s)) l heard.Fine (seen value (after false heard.Fine rows news refused t))
    set-returns works set orderly news mark refused are at none_refused fine owes =
        subst (λ r. HearsLiteralAtWork (relations most value) (seen value (at_work fine owes rows ts None s)) l heard.Fine (seen value (after false heard.Fine rows news r t))) (sym none_refused) (subst (λ ls. HearsLiteralAtWork (relations most value) (seen value (at_work fine owes rows ts None s)) l heard.Fine (seen value (after false heard.Fine rows ls None t))) (sym (are ∙ ap (λ m. ts ++ record { lit = l; mark = m } ∷ []) at)) (set-answers works set orderly fine owes))

    pub set-keeps : s.rest ≡ None → IsSet most value s b (length ts) t → (news : List Told) (mark : ℕ) → news ≡ ts ++ record { lit = l; mark = mark } ∷ [] → mark ≡ length s.limits → IsSound value rows news t
    set-keeps works set news mark are at =
        subst (λ ls. IsSound value rows ls t) (sym (are ∙ ap (λ m. ts ++ record { lit = l; mark = m } ∷ []) at)) (set-sound works set)

    -- ---- its bound contradicts

    module _ (shares : List (Share F)) (refused : IsRefused most value s b (length ts) shares t) where
      has-limit : HasLimit rows (length ts) l refused.limit
      has-limit = subst (λ o. IsSomeAnd o (λ b. IsLimitOf b (length ts) refused.limit)) (sym is) refused.is_limit

      last : slice_get (map (λ t. t.lit) ts ++ l ∷ []) (length ts) ≡ Some l
      last = ap (λ n. slice_get (map (λ t. t.lit) ts ++ l ∷ []) n) (sym (lits-count ts)) ∙ slice_get-last (map (λ t. t.lit) ts) l

      pub refused-sound : IsSound value rows ts t
      refused-sound = subst (λ k. IsSound value rows ts k) (sym refused.same) sound

      pub refused-of_clash : AreOfClash value (state_of value rows (map (λ t. t.lit) ts ++ l ∷ []) t) (both_limits refused.limit refused.other)
      refused-of_clash = subst (λ k. AreOfClash value (state_of value rows (map (λ t. t.lit) ts ++ l ∷ []) k) (both_limits refused.limit refused.other)) (sym refused.same) (inl (record {
        position = length ts;
        limit = refused.limit;
        other = refused.other;
        opposes = record { lit = l; told = last; gives = has-limit; in_force = refused.in_force; excludes = refused.excludes };
        both = refl;
      }))

      pub refused-farkas : IsFarkas rows (map (λ t. t.lit) ts ++ l ∷ []) (both_limits refused.limit refused.other)
      refused-farkas =
          farkas_of_opposed rows (map (λ t. t.lit) ts ++ l ∷ []) (limits_in value s.limits) refused.limit refused.other refused.in_force refused.excludes (l, (ap (λ n. slice_get (map (λ t. t.lit) ts ++ l ∷ []) n) refused.is_limit.tag ∙ last, subst (λ n. HasLimit rows n l refused.limit) (sym refused.is_limit.tag) has-limit)) (Each-in_force (IsOfTold rows (map (λ t. t.lit) ts ++ l ∷ [])) (not refused.limit.upper) refused.limit.var (limits_in value s.limits) refused.other (limits-told value rows ts s (l ∷ []) sound) refused.in_force)

      pub refused-told : All (IsTold rows (lits_of ts (Some l))) shares
      refused-told = shares_told value rows (map (λ t. t.lit) ts ++ l ∷ []) (both_limits refused.limit refused.other) shares refused.shares refused-farkas.of_told

      pub refused-few : length shares ≤ 2049
      refused-few =
          let count : length shares ≡ length (both_limits refused.limit refused.other) = shares_count value (both_limits refused.limit refused.other) shares refused.shares in
          let few : length (both_limits refused.limit refused.other) ≤ 2049 = refused-farkas.few in omega arith

      refused-sets : SetsBound value (state_of value rows (map (λ t. t.lit) ts) s) l (corner value t)
      refused-sets =
          sets-by refused.limit refused.is_limit (inl (inl (is_some_and-by (λ h. Excludes refused.limit.upper refused.limit.at h.at) (in_force (not refused.limit.upper) refused.limit.var (corner value s).limits) refused.other refused.in_force refused.excludes), ap (corner value) refused.same))

      pub refused-answers : (answer : Heard) → AnswersClash value (state_of value rows (map (λ t. t.lit) ts ++ l ∷ []) t) answer → (fine owes : Bool) → HearsLiteralAtWork (relations most value) (seen value (at_work fine owes rows ts None s)) l answer (seen value (after false answer rows ts (kept answer l) t))
      refused-answers heard.Fine none fine owes = absurd none
      refused-answers (heard.Clash parts) leaf fine owes = (
        took fine owes t refused-sets (map (λ t. t.lit) ts ++ l ∷ []) refl ts (Some l) refl (heard.Clash parts) refl,
        refl,
        record { few = leaf.few; contradiction = leaf.contradiction; fits = leaf.fits; clash = (leaf.weights, (leaf.of_clash, leaf.literals)) },
      )
      refused-answers heard.Spent none fine owes = absurd none
      refused-answers (heard.Stuck k) stuck fine owes =
          (refl, refl, inr (state_of value rows (map (λ t. t.lit) ts ++ l ∷ []) t, record { rows = refl; told = refl; bound = refused-sets }, stuck))
      refused-answers heard.NoMemory none fine owes = (refl, refl)

      pub refused-returns : (answer : Heard) (left : Option Lit) → ((st : State F) (ws : List Weight) → st.rows ≡ rows → st.told ≡ lits_of ts (Some l) → AreShares value ws shares → AreOfClash value st ws → IsFarkas rows st.told ws → AnswersClash value st answer) → left ≡ kept answer l → (fine owes : Bool) → HearsLiteralAtWork (relations most value) (seen value (at_work fine owes rows ts None s)) l answer (seen value (after false answer rows ts left t))
      refused-returns answer left says are fine owes =
          subst (λ r. HearsLiteralAtWork (relations most value) (seen value (at_work fine owes rows ts None s)) l answer (seen value (after false answer rows ts r t))) (sym are) (refused-answers answer (says (state_of value rows (map (λ t. t.lit) ts ++ l ∷ []) t) (both_limits refused.limit refused.other) refl refl refused.shares refused-of_clash refused-farkas) fine owes)

    -- ---- an operation is too wide

    pub stuck-answers : (k : Stuck) → IsStuckBoundSetting most value s b (length ts) k → (fine owes : Bool) (ls : List Told) → HearsLiteralAtWork (relations most value) (seen value (at_work fine owes rows ts None s)) l (heard.Stuck k) (seen value (after false (heard.Stuck k) rows ls None t))
    stuck-answers k stuck fine owes ls = (refl, refl, inl (subst (λ o. IsSomeAnd o (λ b. IsStuckBound most b k ⊎ ((limit : Limit DeltaValue) × IsLimitOf b (length (map (λ t. t.lit) ts)) limit × IsStuckMoving value most (corner value s) limit k))) (sym is) (by stuck)))
      where
        by : IsStuckBoundSetting most value s b (length ts) k → IsStuckBound most b k ⊎ ((limit : Limit DeltaValue) × IsLimitOf b (length (map (λ t. t.lit) ts)) limit × IsStuckMoving value most (corner value s) limit k)
        by (inl wide) = inl wide
        by (inr moving) =
            inr (moving.limit, subst (λ n. IsLimitOf b n moving.limit) (sym (lits-count ts)) moving.is_limit, record { agrees = moving.agrees; new = moving.new; non_basic = moving.non_basic; outside = moving.outside; move = moving.move })

    pub stuck-returns : (k : Stuck) (refused : Option Lit) → refused ≡ None → IsStuckBoundSetting most value s b (length ts) k → (fine owes : Bool) → HearsLiteralAtWork (relations most value) (seen value (at_work fine owes rows ts None s)) l (heard.Stuck k) (seen value (after false (heard.Stuck k) rows ts refused t))
    stuck-returns k refused none stuck fine owes =
        subst (λ r. HearsLiteralAtWork (relations most value) (seen value (at_work fine owes rows ts None s)) l (heard.Stuck k) (seen value (after false (heard.Stuck k) rows ts r t))) (sym none) (stuck-answers k stuck fine owes ts)
