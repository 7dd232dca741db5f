-- What a cut of the list of literals does.
use Rattle.std.proofs.Common.{◌≡◌, ℕ, zero, suc, ◌+◌, ◌<◌, ◌≤◌, List, [], ◌∷◌, ◌++◌, map, take, length, Option, None, Some, slice_get, refl, sym, ap, subst, ◌∙◌, arith, length-append}
use Rattle.std.proofs.lemmas.List.{take_all, take-append-le}
use Rattle.std.proofs.Math.Seq.{take-append_seam}
use Rattle.ordered_field.specs.Rational.{ℚ}
use Rattle.farkas_cert.specs.declared.literals.Lit.{Lit}
use Rattle.clause_form.specs.Derivations.{Rows}
use Rattle.simplex.specs.Limits.{limit_value}
use Rattle.simplex.specs.States.{limits_in, State as SimplexState}
use Rattle.lra_theory.specs.declared.trail.Told.{Told}
use Rattle.lra_theory.specs.Setting.{given_by_first}
use Rattle.lra_theory.specs.Soundness.{AreGiven, IsCut, IsSound}
use Rattle.lra_theory.specs.Relations.{IsAfterUndo}
use Rattle.lra_theory.specs.Standings.{lits_of, state_of}
use Rattle.lra_theory.proofs.GivenLaws.{Each-map, IsGivenUpTo, filter-all, filter-cut, given-cut, given-early}
use Rattle.lra_theory.proofs.TellLaws.{limits-length, lits-count}

map-take : {A B : Type 0} (f : A → B) (n : ℕ) (xs : List A) → map f (take n xs) ≡ take n (map f xs)
map-take f zero xs = refl
map-take f (suc n) [] = refl
map-take f (suc n) (x ∷ xs) = ap (λ ys. f x ∷ ys) (map-take f n xs)

below : (n : ℕ) (xs : List Told) (x : Told) → slice_get xs n ≡ Some x → n < length xs
below n [] x e = absurd (cc)
below zero (y ∷ ys) x e = omega arith
below (suc n) (y ∷ ys) x e = let h = below n ys x e in omega arith

past : (xs : List Told) (n : ℕ) → slice_get xs n ≡ None → length xs ≤ n
past [] n e = omega arith
past (x ∷ xs) zero e = absurd (cc)
past (x ∷ xs) (suc n) e = let h = past xs n e in omega arith

lits-cut : (ts : List Told) (refused : Option Lit) (mark : ℕ) → mark ≤ length ts → map (λ t. t.lit) (take mark ts) ≡ take mark (lits_of ts refused)
lits-cut ts None mark within = map-take (λ t. t.lit) mark ts
lits-cut ts (Some l) mark within =
    let count : length (map (λ t. t.lit) ts) ≡ length ts = lits-count ts in
    let few : mark ≤ length (map (λ t. t.lit) ts) = omega arith in
    map-take (λ t. t.lit) mark ts ∙ sym (take-append-le mark (map (λ t. t.lit) ts) (l ∷ []) few)

module _ {F : Type 0} (value : F → ℚ) (ts : List Told) (refused : Option Lit) (s : SimplexState F) (mark : ℕ) where
  -- a literal whose bound was set is cut, with those after it
  module _ (t : Told) (at : slice_get ts mark ≡ Some t) where
    up_to : (rows : Rows) → IsSound value rows ts s → IsGivenUpTo rows 0 [] ts (limits_in value s.limits) mark t.mark
    up_to rows sound = given-cut rows 0 [] ts (limits_in value s.limits) mark t sound.given tt at

    pub mark-within : (rows : Rows) → IsSound value rows ts s → t.mark ≤ length s.limits
    mark-within rows sound =
        let u = up_to rows sound in
        let all : length (limits_in value s.limits) ≡ length u.front + length u.rest = ap length u.all ∙ length-append u.front u.rest in
        let count : length u.front ≡ t.mark = u.count in
        let same : length (limits_in value s.limits) ≡ length s.limits = limits-length value s.limits in omega arith

    front-limits : (rows : Rows) (sound : IsSound value rows ts s) → limits_in value (take t.mark s.limits) ≡ (up_to rows sound).front
    front-limits rows sound =
        let u = up_to rows sound in
        map-take (limit_value value) t.mark s.limits ∙ ap (take t.mark) u.all ∙ ap (λ n. take n (u.front ++ u.rest)) (sym u.count) ∙ take-append_seam u.front u.rest

    pub cut-told : (rows : Rows) → IsSound value rows ts s → (u : SimplexState F) → u ≡ record s { limits = take t.mark s.limits } → (kept : List Told) → kept ≡ take mark ts → IsCut value mark ts refused s kept None u
    cut-told rows sound u same kept are =
        subst (λ k. IsCut value mark ts refused s kept None k) (sym same) (subst (λ ks. IsCut value mark ts refused s ks None (record s { limits = take t.mark s.limits })) (sym are) (record {
          lits = let h = below mark ts t at in lits-cut ts refused mark (omega arith);
          none = refl;
          table = refl;
          values = refl;
          limits = front-limits rows sound ∙ sym (let v = up_to rows sound in ap (given_by_first mark) v.all ∙ filter-cut mark v.front v.rest (Each-map (λ l. l.tag < 0 + mark) (λ l. l.tag < mark) v.front (λ l h. omega arith) v.early) (Each-map (λ l. 0 + mark ≤ l.tag) (λ l. mark ≤ l.tag) v.rest (λ l h. omega arith) v.late));
          rest = refl;
          sound = λ other o. record {
            good = o.good;
            columns = o.columns;
            count = o.count;
            exact = o.exact;
            given = subst (λ ls. AreGiven other 0 [] (take mark ts) ls) (sym (front-limits other o)) (up_to other o).given;
          };
        }))

  -- only the literal that contradicts is cut
  pub cut-refused : (rows : Rows) → IsSound value rows ts s → slice_get ts mark ≡ None → mark < length (lits_of ts refused) → IsCut value mark ts refused s ts None s
  cut-refused rows sound none some = by refused some
    where
      by : (r : Option Lit) → mark < length (lits_of ts r) → IsCut value mark ts r s ts None s
      by None less =
          let h = past ts mark none in let count : length (map (λ t. t.lit) ts) ≡ length ts = lits-count ts in absurd (omega arith)
      by (Some l) less =
          let h = past ts mark none in
          let count : length (map (λ t. t.lit) ts) ≡ length ts = lits-count ts in
          let more : length (map (λ t. t.lit) ts ++ l ∷ []) ≡ length (map (λ t. t.lit) ts) + 1 = length-append (map (λ t. t.lit) ts) (l ∷ []) in
          let at : mark ≡ length ts = omega arith in
          record {
            lits = sym (take_all mark (map (λ t. t.lit) ts) (omega arith)) ∙ sym (take-append-le mark (map (λ t. t.lit) ts) (l ∷ []) (omega arith));
            none = refl;
            table = refl;
            values = refl;
            limits = sym (filter-all mark (limits_in value s.limits) (Each-map (λ l. l.tag < 0 + length ts) (λ l. l.tag < mark) (limits_in value s.limits) (λ l h. omega arith) (given-early rows 0 [] ts (limits_in value s.limits) sound.given tt)));
            rest = refl;
            sound = λ other o. o;
          }

  -- a cut at the whole length keeps all
  pub cut-nothing : (rows : Rows) → IsSound value rows ts s → length ts ≤ mark → given_by_first mark (limits_in value s.limits) ≡ limits_in value s.limits
  cut-nothing rows sound most =
      filter-all mark (limits_in value s.limits) (Each-map (λ l. l.tag < 0 + length ts) (λ l. l.tag < mark) (limits_in value s.limits) (λ l h. omega arith) (given-early rows 0 [] ts (limits_in value s.limits) sound.given tt))

  -- nothing changes
  pub undo-nothing : (rows : Rows) → IsSound value rows ts s → length (lits_of ts refused) ≤ mark → IsAfterUndo (state_of value rows (lits_of ts refused) s) mark (state_of value rows (lits_of ts refused) s)
  undo-nothing rows sound most = record {
    rows = refl;
    told = sym (take_all mark (lits_of ts refused) most);
    table = refl;
    values = refl;
    limits = sym (cut-nothing rows sound (by refused most));
  }
    where
      by : (r : Option Lit) → length (lits_of ts r) ≤ mark → length ts ≤ mark
      by None h = let count : length (map (λ t. t.lit) ts) ≡ length ts = lits-count ts in omega arith
      by (Some l) h =
          let count : length (map (λ t. t.lit) ts) ≡ length ts = lits-count ts in
          let more : length (map (λ t. t.lit) ts ++ l ∷ []) ≡ length (map (λ t. t.lit) ts) + 1 = length-append (map (λ t. t.lit) ts) (l ∷ []) in omega arith
