-- Which limits the literals told gave, and what follows from their order.
use Rattle.std.proofs.Common.{◌≡◌, ℕ, zero, suc, ◌+◌, ◌<◌, ◌≤◌, cond, List, [], ◌∷◌, ◌++◌, map, take, length, Bool, true, false, not, Option, None, Some, slice_get, ◌⊎◌, inl, inr, pos, ◌≤ℤ◌, refl, sym, ap, subst, ◌∙◌, arith, length-append}
use Rattle.std.specs.Option.{IsSomeAnd, MatchOption, option_map_or}
use Rattle.std.proofs.lemmas.Bool.{lt-ltb, le-ltb}
use Rattle.std.proofs.lemmas.List.{append-nil, append_assoc}
use Rattle.ordered_field.specs.Rational.{whole}
use Rattle.ordered_field.specs.Delta.{DeltaValue, ◌≤δ◌}
use Rattle.ordered_field.proofs.DeltaLaws.{same_delta}
use Rattle.ordered_field.proofs.FieldLaws.{*ℚ_cancel}
use Rattle.ordered_field.proofs.DeltaOrder.{≤δ_trans, <δ-not_≥}
use Rattle.farkas_cert.specs.declared.literals.Lit.{Lit}
use Rattle.clause_form.specs.declared.clauses.Atom.{Atom}
use Rattle.clause_form.specs.declared.clauses.Atom.TheVariants.{Row, Named}
use Rattle.clause_form.specs.Derivations.{Rows}
use Rattle.simplex.specs.declared.limits.Limit.{Limit}
use Rattle.simplex.specs.declared.outcome.Bound.{Bound}
use Rattle.simplex.specs.Bounds.{IsLimitOf}
use Rattle.simplex.specs.Limits.{concerns, last_of, in_force, IsWithin, IsMet, IsMetOn, IsImplied, IsNoStronger, Contradicts, Excludes, AreOrderly}
use Rattle.simplex.proofs.BoundLaws.{positive-apart}
use Rattle.simplex.proofs.LimitLaws.{concerns_own, in_force-here, in_force-side, within-undone, within-limit, if_some-at}
use Rattle.lra_theory.specs.declared.trail.Told.{Told}
use Rattle.lra_theory.specs.Forms.{variables_of}
use Rattle.lra_theory.specs.Literals.{bound_if, bound_of, bound_of_atom, HasLimit}
use Rattle.lra_theory.specs.Setting.{given_by_first}
use Rattle.lra_theory.specs.Soundness.{Gives, AreGiven, IsGood, IsGoodBound}

abbrev pub Each : {A : Type 0} → (A → Type 0) → List A → Type 0
Each P [] = Unit {0}
Each P (x ∷ xs) = P x × Each P xs

pub Each-append : {A : Type 0} (P : A → Type 0) (xs ys : List A) → Each P xs → Each P ys → Each P (xs ++ ys)
Each-append P [] ys p q = q
Each-append P (x ∷ xs) ys p q = (p.0, Each-append P xs ys p.1 q)

pub Each-map : {A : Type 0} (P Q : A → Type 0) (xs : List A) → ((x : A) → P x → Q x) → Each P xs → Each Q xs
Each-map P Q [] f p = tt
Each-map P Q (x ∷ xs) f p = (f x p.0, Each-map P Q xs f p.1)

-- the bound of a limit's literal
pub limit_found : (rows : Rows) (position : ℕ) (l : Lit) (limit : Limit DeltaValue) → HasLimit rows position l limit → (b : Bound) × ((bound_of rows l ≡ Some b) × IsLimitOf b position limit)
limit_found rows position l limit has = by (bound_of rows l) refl has
  where
    by : (o : Option Bound) → bound_of rows l ≡ o → IsSomeAnd o (λ b. IsLimitOf b position limit) → (b : Bound) × ((bound_of rows l ≡ Some b) × IsLimitOf b position limit)
    by None e none = absurd none
    by (Some b) e is = (b, (e, is))

-- ---- what one literal gives

-- the limit that the literal gave, if it is one
abbrev pub IsFrom : Rows → ℕ → Lit → Limit DeltaValue → Type 0
IsFrom rows position l limit = HasLimit rows position l limit × (limit.tag ≡ position)

some_and : {A : Type 0} (P : A → Type 0) (o : Option A) (x : A) → o ≡ Some x → P x → IsSomeAnd o P
some_and P o x e p = subst (λ o'. IsSomeAnd o' P) (sym e) p

pub gives-each : (rows : Rows) (position : ℕ) (before : List (Limit DeltaValue)) (l : Lit) (more : List (Limit DeltaValue)) → Gives rows position before l more → Each (IsFrom rows position l) more
gives-each rows position before l more gives = by (bound_of rows l) refl gives
  where
    nothing : (m : List (Limit DeltaValue)) → m ≡ [] → Each (IsFrom rows position l) m
    nothing m e = subst (λ m'. Each (IsFrom rows position l) m') (sym e) tt

    by : (o : Option Bound) → bound_of rows l ≡ o → MatchOption o (more ≡ []) (λ b. (limit : Limit DeltaValue) × IsLimitOf b position limit × (¬ Contradicts before limit) × ((IsImplied before limit × (more ≡ [])) ⊎ ((¬ IsImplied before limit) × (more ≡ limit ∷ [])))) → Each (IsFrom rows position l) more
    by None e none = nothing more none
    by (Some b) e (limit, is, agrees, inl implied) = nothing more implied.1
    by (Some b) e (limit, is, agrees, inr put) =
        subst (λ m'. Each (IsFrom rows position l) m') (sym put.1) ((some_and (λ b. IsLimitOf b position limit) (bound_of rows l) b e is, is.tag), tt)

pub gives-few : (rows : Rows) (position : ℕ) (before : List (Limit DeltaValue)) (l : Lit) (more : List (Limit DeltaValue)) → Gives rows position before l more → length more ≤ 1
gives-few rows position before l more gives = by (bound_of rows l) gives
  where
    by : (o : Option Bound) → MatchOption o (more ≡ []) (λ b. (limit : Limit DeltaValue) × IsLimitOf b position limit × (¬ Contradicts before limit) × ((IsImplied before limit × (more ≡ [])) ⊎ ((¬ IsImplied before limit) × (more ≡ limit ∷ [])))) → length more ≤ 1
    by None none = let h : length more ≡ 0 = ap length none in omega arith
    by (Some b) (limit, is, agrees, inl implied) = let h : length more ≡ 0 = ap length implied.1 in omega arith
    by (Some b) (limit, is, agrees, inr put) = let h : length more ≡ 1 = ap length put.1 in omega arith

-- ---- all of them

-- what the literals from a position on gave is put after what was there
pub given-rest : (rows : Rows) (position : ℕ) (before : List (Limit DeltaValue)) (ts : List Told) (limits : List (Limit DeltaValue)) → AreGiven rows position before ts limits → (rest : List (Limit DeltaValue)) × ((limits ≡ before ++ rest) × Each (λ l. position ≤ l.tag) rest)
given-rest rows position before [] limits given = ([], (sym given ∙ sym (append-nil before), tt))
given-rest rows position before (t ∷ ts) limits (more, mark, gives, given) =
    let later = given-rest rows (position + 1) (before ++ more) ts limits given in (
      more ++ later.0,
      (
        later.1.0 ∙ append_assoc before more later.0,
        Each-append (λ l. position ≤ l.tag) more later.0 (Each-map (IsFrom rows position t.lit) (λ l. position ≤ l.tag) more (λ l from. let e = from.1 in omega arith) (gives-each rows position before t.lit more gives)) (Each-map (λ l. position + 1 ≤ l.tag) (λ l. position ≤ l.tag) later.0 (λ l h. omega arith) later.1.1),
      ),
    )

pub given-few : (rows : Rows) (position : ℕ) (before : List (Limit DeltaValue)) (ts : List Told) (limits : List (Limit DeltaValue)) → AreGiven rows position before ts limits → length limits ≤ length before + length ts
given-few rows position before [] limits given = let h : length before ≡ length limits = ap length given in omega arith
given-few rows position before (t ∷ ts) limits (more, mark, gives, given) =
    let later = given-few rows (position + 1) (before ++ more) ts limits given in
    let one = gives-few rows position before t.lit more gives in
    let sum : length (before ++ more) ≡ length before + length more = length-append before more in omega arith

pub given-append : (rows : Rows) (position : ℕ) (before : List (Limit DeltaValue)) (ts : List Told) (limits : List (Limit DeltaValue)) (t : Told) (more : List (Limit DeltaValue)) → AreGiven rows position before ts limits → t.mark ≡ length limits → Gives rows (position + length ts) limits t.lit more → AreGiven rows position before (ts ++ t ∷ []) (limits ++ more)
given-append rows position before [] limits t more given mark gives = (
  more,
  mark ∙ ap length (sym given),
  subst (λ ls. Gives rows position ls t.lit more) (sym given) (let n : position + 0 ≡ position = omega arith in subst (λ p. Gives rows p limits t.lit more) n gives),
  ap (λ ls. ls ++ more) given,
)
given-append rows position before (u ∷ us) limits t more given mark gives = (
  given.0,
  given.1,
  given.2,
  given-append rows (position + 1) (before ++ given.0) us limits t more given.3 mark (let n : position + suc (length us) ≡ position + 1 + length us = omega arith in subst (λ p. Gives rows p limits t.lit more) n gives),
)

-- ---- a cut

pub record IsGivenUpTo (rows : Rows) (position : ℕ) (before : List (Limit DeltaValue)) (ts : List Told) (limits : List (Limit DeltaValue)) (mark length_is : ℕ) : Type 0 where
  pub front : List (Limit DeltaValue)
  pub rest : List (Limit DeltaValue)
  pub all : limits ≡ front ++ rest
  pub count : length front ≡ length_is
  pub given : AreGiven rows position before (take mark ts) front
  pub early : Each (λ l. l.tag < position + mark) front
  pub late : Each (λ l. position + mark ≤ l.tag) rest

pub given-cut : (rows : Rows) (position : ℕ) (before : List (Limit DeltaValue)) (ts : List Told) (limits : List (Limit DeltaValue)) (mark : ℕ) (t : Told) → AreGiven rows position before ts limits → Each (λ l. l.tag < position) before → slice_get ts mark ≡ Some t → IsGivenUpTo rows position before ts limits mark t.mark
given-cut rows position before [] limits mark t given early some = absurd (cc)
given-cut rows position before (u ∷ us) limits zero t given early some =
    let rest = given-rest rows position before (u ∷ us) limits given in
    let same : u ≡ t = cc in
    record {
      front = before;
      rest = rest.0;
      all = rest.1.0;
      count = sym given.1 ∙ ap (λ k. k.mark) same;
      given = refl;
      early = Each-map (λ l. l.tag < position) (λ l. l.tag < position + 0) before (λ l h. omega arith) early;
      late = Each-map (λ l. position ≤ l.tag) (λ l. position + 0 ≤ l.tag) rest.0 (λ l h. omega arith) rest.1.1;
    }
given-cut rows position before (u ∷ us) limits (suc mark) t (more, at, gives, given) early some =
    let next = Each-append (λ l. l.tag < position + 1) before more (Each-map (λ l. l.tag < position) (λ l. l.tag < position + 1) before (λ l h. omega arith) early) (Each-map (IsFrom rows position u.lit) (λ l. l.tag < position + 1) more (λ l from. let e = from.1 in omega arith) (gives-each rows position before u.lit more gives)) in
    let later = given-cut rows (position + 1) (before ++ more) us limits mark t given next some in
    record {
      front = later.front;
      rest = later.rest;
      all = later.all;
      count = later.count;
      given = (more, at, gives, later.given);
      early = Each-map (λ l. l.tag < position + 1 + mark) (λ l. l.tag < position + suc mark) later.front (λ l h. omega arith) later.early;
      late = Each-map (λ l. position + 1 + mark ≤ l.tag) (λ l. position + suc mark ≤ l.tag) later.rest (λ l h. omega arith) later.late;
    }

pub given-early : (rows : Rows) (position : ℕ) (before : List (Limit DeltaValue)) (ts : List Told) (limits : List (Limit DeltaValue)) → AreGiven rows position before ts limits → Each (λ l. l.tag < position) before → Each (λ l. l.tag < position + length ts) limits
given-early rows position before [] limits given early =
    subst (λ ls. Each (λ l. l.tag < position + 0) ls) given (Each-map (λ l. l.tag < position) (λ l. l.tag < position + 0) before (λ l h. omega arith) early)
given-early rows position before (t ∷ ts) limits (more, mark, gives, given) early =
    let next = Each-append (λ l. l.tag < position + 1) before more (Each-map (λ l. l.tag < position) (λ l. l.tag < position + 1) before (λ l h. omega arith) early) (Each-map (IsFrom rows position t.lit) (λ l. l.tag < position + 1) more (λ l from. let e = from.1 in omega arith) (gives-each rows position before t.lit more gives)) in
    Each-map (λ l. l.tag < position + 1 + length ts) (λ l. l.tag < position + suc (length ts)) limits (λ l h. omega arith) (given-early rows (position + 1) (before ++ more) ts limits given next)

filter-early : (mark : ℕ) (ls rest : List (Limit DeltaValue)) → Each (λ l. l.tag < mark) ls → given_by_first mark (ls ++ rest) ≡ ls ++ given_by_first mark rest
filter-early mark [] rest early = refl
filter-early mark (l ∷ ls) rest early =
    ap (λ b. cond b (l ∷ given_by_first mark (ls ++ rest)) (given_by_first mark (ls ++ rest))) (lt-ltb l.tag mark early.0) ∙ ap (λ ks. l ∷ ks) (filter-early mark ls rest early.1)

filter-late : (mark : ℕ) (ls : List (Limit DeltaValue)) → Each (λ l. mark ≤ l.tag) ls → given_by_first mark ls ≡ []
filter-late mark [] late = refl
filter-late mark (l ∷ ls) late =
    ap (λ b. cond b (l ∷ given_by_first mark ls) (given_by_first mark ls)) (le-ltb l.tag mark late.0) ∙ filter-late mark ls late.1

pub filter-cut : (mark : ℕ) (front rest : List (Limit DeltaValue)) → Each (λ l. l.tag < mark) front → Each (λ l. mark ≤ l.tag) rest → given_by_first mark (front ++ rest) ≡ front
filter-cut mark front rest early late =
    filter-early mark front rest early ∙ ap (λ ls. front ++ ls) (filter-late mark rest late) ∙ append-nil front

pub filter-all : (mark : ℕ) (ls : List (Limit DeltaValue)) → Each (λ l. l.tag < mark) ls → given_by_first mark ls ≡ ls
filter-all mark ls early = ap (given_by_first mark) (sym (append-nil ls)) ∙ filter-cut mark ls [] early tt

-- ---- where a limit comes from

-- the limit is that of the literal told at its tag
abbrev pub IsOfTold : Rows → List Lit → Limit DeltaValue → Type 0
IsOfTold rows lits limit = (l : Lit) × ((slice_get lits limit.tag ≡ Some l) × HasLimit rows limit.tag l limit)

pub given-told : (rows : Rows) (lits : List Lit) (position : ℕ) (before : List (Limit DeltaValue)) (ts : List Told) (limits : List (Limit DeltaValue)) → AreGiven rows position before ts limits → ((k : ℕ) (t : Told) → slice_get ts k ≡ Some t → slice_get lits (position + k) ≡ Some t.lit) → Each (IsOfTold rows lits) before → Each (IsOfTold rows lits) limits
given-told rows lits position before [] limits given at early = subst (λ ls. Each (IsOfTold rows lits) ls) given early
given-told rows lits position before (t ∷ ts) limits (more, mark, gives, given) at early =
    given-told rows lits (position + 1) (before ++ more) ts limits given (λ k u some. let n : position + 1 + k ≡ position + suc k = omega arith in ap (λ p. slice_get lits p) n ∙ at (suc k) u some) (Each-append (IsOfTold rows lits) before more early (Each-map (IsFrom rows position t.lit) (IsOfTold rows lits) more own (gives-each rows position before t.lit more gives)))
  where
    here : slice_get lits position ≡ Some t.lit
    here = let n : position ≡ position + 0 = omega arith in ap (λ p. slice_get lits p) n ∙ at 0 t refl

    own : (l : Limit DeltaValue) → IsFrom rows position t.lit l → IsOfTold rows lits l
    own l from =
        (t.lit, (ap (λ p. slice_get lits p) from.1 ∙ here, subst (λ p. HasLimit rows p t.lit l) (sym from.1) from.0))

Each-last_of : (Q : Limit DeltaValue → Type 0) (u : Bool) (v : ℕ) (before : Option (Limit DeltaValue)) (ls : List (Limit DeltaValue)) (l : Limit DeltaValue) → ((m : Limit DeltaValue) → before ≡ Some m → Q m) → Each Q ls → last_of u v before ls ≡ Some l → Q l
Each-last_of Q u v before [] l first each e = first l e
Each-last_of Q u v before (m ∷ ms) l first each e =
    Each-last_of Q u v (cond (concerns u v m) (Some m) before) ms l (λ k h. by (concerns u v m) k h) each.1 e
  where
    by : (b : Bool) (k : Limit DeltaValue) → cond b (Some m) before ≡ Some k → Q k
    by true k h = let same : m ≡ k = cc in subst Q same each.0
    by false k h = first k h

-- what holds of each limit holds of one in force
pub Each-in_force : (Q : Limit DeltaValue → Type 0) (u : Bool) (v : ℕ) (ls : List (Limit DeltaValue)) (l : Limit DeltaValue) → Each Q ls → in_force u v ls ≡ Some l → Q l
unfolding in_force
Each-in_force Q u v ls l each e = Each-last_of Q u v None ls l (λ m h. absurd (cc)) each e

-- ---- what is within the limits in force meets each limit that was given

met_by : (u : Bool) (x at held : DeltaValue) → IsNoStronger u at held → IsMetOn u x held → IsMetOn u x at
met_by true x at held weaker met = ≤δ_trans x held at met weaker
met_by false x at held weaker met = ≤δ_trans at held x weaker met

within-side : (u : Bool) (ls : List (Limit DeltaValue)) (v : ℕ) (x : DeltaValue) (h : Limit DeltaValue) → IsWithin ls v x → in_force u v ls ≡ Some h → IsMetOn u x h.at
within-side true ls v x h within e = if_some-at (λ m. x ≤δ m.at) _ h e within.upper
within-side false ls v x h within e = if_some-at (λ m. m.at ≤δ x) _ h e within.lower

implied-met : (ls : List (Limit DeltaValue)) (l : Limit DeltaValue) (x : DeltaValue) → IsImplied ls l → IsWithin ls l.var x → IsMet x l
implied-met ls l x implied within = by (in_force l.upper l.var ls) refl implied
  where
    by : (o : Option (Limit DeltaValue)) → in_force l.upper l.var ls ≡ o → IsSomeAnd o (λ h. IsNoStronger l.upper l.at h.at) → IsMetOn l.upper x l.at
    by None e none = absurd none
    by (Some h) e weaker = met_by l.upper x l.at h.at weaker (within-side l.upper ls l.var x h within e)

put-met : (ls : List (Limit DeltaValue)) (l : Limit DeltaValue) (x : DeltaValue) → IsWithin (ls ++ l ∷ []) l.var x → IsMet x l
put-met ls l x within =
    within-side l.upper (ls ++ l ∷ []) l.var x l within (in_force-here l.upper l.var ls l (concerns_own l))

-- the literal has no limit, or x meets it
abbrev pub Meets : Rows → ℕ → ℕ → Lit → DeltaValue → Type 0
Meets rows v position l x = (limit : Limit DeltaValue) → HasLimit rows position l limit → limit.var ≡ v → IsMet x limit

has_limit-at : (rows : Rows) (position : ℕ) (l : Lit) (limit : Limit DeltaValue) (b : Bound) → bound_of rows l ≡ Some b → HasLimit rows position l limit → IsLimitOf b position limit
has_limit-at rows position l limit b e has = subst (λ o. IsSomeAnd o (λ b. IsLimitOf b position limit)) e has

no_limit-at : (rows : Rows) (position : ℕ) (l : Lit) (limit : Limit DeltaValue) → bound_of rows l ≡ None → HasLimit rows position l limit → ⊥
no_limit-at rows position l limit e has = subst (λ o. IsSomeAnd o (λ b. IsLimitOf b position limit)) e has

same_parts : (l m : Limit DeltaValue) → l.var ≡ m.var → l.upper ≡ m.upper → l.at ≡ m.at → l.tag ≡ m.tag → l ≡ m
same_parts l m var upper at tag =
    ap (λ v. record { var = v; upper = l.upper; at = l.at; tag = l.tag }) var
    ∙ ap (λ u. record { var = m.var; upper = u; at = l.at; tag = l.tag }) upper
    ∙ ap (λ x. record { var = m.var; upper = m.upper; at = x; tag = l.tag }) at
    ∙ ap (λ n. record { var = m.var; upper = m.upper; at = m.at; tag = n }) tag

-- a bound has one limit
same_limit : (b : Bound) (position : ℕ) (l m : Limit DeltaValue) → pos 1 ≤ℤ b.den → IsLimitOf b position l → IsLimitOf b position m → l ≡ m
same_limit b position l m some a c =
    let at : l.at ≡ m.at = same_delta l.at m.at (*ℚ_cancel l.at.real m.at.real (whole b.den) (positive-apart b.den some) (a.number ∙ sym c.number)) (a.strict ∙ sym c.strict) in
    let var : l.var ≡ m.var = a.var ∙ sym c.var in
    let upper : l.upper ≡ m.upper = a.upper ∙ sym c.upper in
    let tag : l.tag ≡ m.tag = a.tag ∙ sym c.tag in
    same_parts l m var upper at tag

module _ (rows : Rows) (good : IsGood rows) where
  pub bound-good : (l : Lit) (b : Bound) → bound_of rows l ≡ Some b → IsGoodBound rows b
  bound-good l b e = by (slice_get rows.atoms l.atom) refl e
    where
      by : (o : Option Atom) → slice_get rows.atoms l.atom ≡ o → option_map_or (bound_of_atom l.positive) o None ≡ Some b → IsGoodBound rows b
      by None at e = absurd (cc)
      by (Some (Row form num den strict)) at e =
          let g = good.atoms l.atom form num den strict at in
          let same : bound_if l.positive form num den strict ≡ b = cc in
          subst (λ b'. IsGoodBound rows b') same (record { var = g.in_range; num = g.num_small; den = g.den_small; some = g.den_some })
      by (Some Named) at e = absurd (cc)

  gives-met : (position : ℕ) (before : List (Limit DeltaValue)) (l : Lit) (more : List (Limit DeltaValue)) (v : ℕ) (x : DeltaValue) → Gives rows position before l more → IsWithin (before ++ more) v x → Meets rows v position l x
  gives-met position before l more v x gives within limit has at = by (bound_of rows l) refl gives
    where
      by : (o : Option Bound) → bound_of rows l ≡ o → MatchOption o (more ≡ []) (λ b. (limit : Limit DeltaValue) × IsLimitOf b position limit × (¬ Contradicts before limit) × ((IsImplied before limit × (more ≡ [])) ⊎ ((¬ IsImplied before limit) × (more ≡ limit ∷ [])))) → IsMet x limit
      by None e none = absurd (no_limit-at rows position l limit e has)
      by (Some b) e (own, is, agrees, inl implied) =
          let same : own ≡ limit = same_limit b position own limit (bound-good l b e).some is (has_limit-at rows position l limit b e has) in
          let here : IsWithin before limit.var x = subst (λ u. IsWithin before u x) (sym at) (subst (λ ls. IsWithin ls v x) (ap (λ m. before ++ m) implied.1 ∙ append-nil before) within) in
          implied-met before limit x (subst (λ k. IsImplied before k) same implied.0) here
      by (Some b) e (own, is, agrees, inr put) =
          let same : own ≡ limit = same_limit b position own limit (bound-good l b e).some is (has_limit-at rows position l limit b e has) in
          let here : IsWithin (before ++ limit ∷ []) limit.var x = subst (λ u. IsWithin (before ++ limit ∷ []) u x) (sym at) (subst (λ ls. IsWithin ls v x) (ap (λ m. before ++ m) (put.1 ∙ ap (λ k. k ∷ []) same)) within) in
          put-met before limit x here

  pub given-met : (position : ℕ) (before : List (Limit DeltaValue)) (ts : List Told) (limits : List (Limit DeltaValue)) (v : ℕ) (x : DeltaValue) → AreGiven rows position before ts limits → AreOrderly [] limits → IsWithin limits v x → (k : ℕ) (t : Told) → slice_get ts k ≡ Some t → Meets rows v (position + k) t.lit x
  given-met position before [] limits v x given orderly within k t some = absurd (cc)
  given-met position before (u ∷ us) limits v x (more, mark, gives, given) orderly within zero t some =
      let rest = given-rest rows (position + 1) (before ++ more) us limits given in
      let here = within-undone (before ++ more) rest.0 v x (subst (λ ls. AreOrderly [] ls) rest.1.0 orderly) (subst (λ ls. IsWithin ls v x) rest.1.0 within) in
      let same : u ≡ t = cc in
      let n : position ≡ position + 0 = omega arith in
      subst (λ w. Meets rows v (position + 0) w.lit x) same (subst (λ p. Meets rows v p u.lit x) n (gives-met position before u.lit more v x gives here))
  given-met position before (u ∷ us) limits v x (more, mark, gives, given) orderly within (suc k) t some =
      let n : position + 1 + k ≡ position + suc k = omega arith in
      subst (λ p. Meets rows v p t.lit x) n (given-met (position + 1) (before ++ more) us limits v x given orderly within k t some)

  met-not_excluded : (u : Bool) (l h : DeltaValue) → IsMetOn u h l → Excludes u l h → ⊥
  met-not_excluded true l h met excludes = <δ-not_≥ l h excludes met
  met-not_excluded false l h met excludes = <δ-not_≥ h l excludes met

  -- no literal's limit contradicts those in force
  pub given-agrees : (ts : List Told) (limits : List (Limit DeltaValue)) → AreGiven rows 0 [] ts limits → AreOrderly [] limits → (k : ℕ) (t : Told) → slice_get ts k ≡ Some t → (limit other : Limit DeltaValue) → HasLimit rows k t.lit limit → in_force (not limit.upper) limit.var limits ≡ Some other → Excludes limit.upper limit.at other.at → ⊥
  given-agrees ts limits given orderly k t some limit other has held excludes =
      let n : k ≡ 0 + k = omega arith in
      met-not_excluded limit.upper limit.at other.at (given-met 0 [] ts limits limit.var other.at given orderly (within-limit limits (not limit.upper) limit.var other orderly held) k t some limit (subst (λ p. HasLimit rows p t.lit limit) n has) refl) excludes

  told-var : (lits : List Lit) (limit : Limit DeltaValue) → IsOfTold rows lits limit → limit.var < variables_of rows
  told-var lits limit (l, (at, has)) = by (bound_of rows l) refl has
    where
      by : (o : Option Bound) → bound_of rows l ≡ o → IsSomeAnd o (λ b. IsLimitOf b limit.tag limit) → limit.var < variables_of rows
      by None e none = absurd none
      by (Some b) e is = subst (λ n. n < variables_of rows) (sym is.var) (bound-good l b e).var

  -- only variables have limits
  pub given-var : (lits : List Lit) (ls : List (Limit DeltaValue)) (u : Bool) (v : ℕ) (l : Limit DeltaValue) → Each (IsOfTold rows lits) ls → in_force u v ls ≡ Some l → v < variables_of rows
  given-var lits ls u v l each e =
      subst (λ n. n < variables_of rows) (sym (in_force-side u v ls l e).1) (told-var lits l (Each-in_force (IsOfTold rows lits) u v ls l each e))

pub slice_get-told : (ts : List Told) (k : ℕ) (t : Told) → slice_get ts k ≡ Some t → slice_get (map (λ t. t.lit) ts) k ≡ Some t.lit
slice_get-told [] k t some = absurd (cc)
slice_get-told (u ∷ us) zero t some = let same : u ≡ t = cc in ap (λ w. Some w.lit) same
slice_get-told (u ∷ us) (suc k) t some = slice_get-told us k t some

pub slice_get-front : {A : Type 0} (xs ys : List A) (k : ℕ) (x : A) → slice_get xs k ≡ Some x → slice_get (xs ++ ys) k ≡ Some x
slice_get-front [] ys k x some = absurd (cc)
slice_get-front (z ∷ zs) ys zero x some = some
slice_get-front (z ∷ zs) ys (suc k) x some = slice_get-front zs ys k x some

pub slice_get-last : {A : Type 0} (xs : List A) (x : A) → slice_get (xs ++ x ∷ []) (length xs) ≡ Some x
slice_get-last [] x = refl
slice_get-last (z ∷ zs) x = slice_get-last zs x

-- the literal at a position of a list was told there
pub told_at : (ts : List Told) (k : ℕ) (l : Lit) → slice_get (map (λ t. t.lit) ts) k ≡ Some l → (t : Told) × ((slice_get ts k ≡ Some t) × (t.lit ≡ l))
told_at [] k l some = absurd (cc)
told_at (u ∷ us) zero l some = (u, (refl, cc))
told_at (u ∷ us) (suc k) l some = told_at us k l some
