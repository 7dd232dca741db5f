-- Lists that are resolved one element after another: what came before, and what is still to come.
use Rattle.std.proofs.Common.{◌≡◌, ℕ, suc, ◌+◌, ◌<◌, ◌≤◌, Bool, true, false, cond, arith, Ok, Err, Option, None, Some, List, [], ◌∷◌, ◌++◌, length, map, get_or, drop, drop_of_length-le, append_assoc, refl, sym, ap, ◌∙◌}
use Rattle.std.proofs.lemmas.List.{drop_more, append-nil}
use Rattle.std.specs.List.{position_from}
use Rattle.condition_syntax.specs.declared.expressions.ETerm.{ETerm}
use Rattle.condition_syntax.specs.declared.expressions.Expr.{Expr}
use Rattle.ctrl_types.specs.declared.breaches.Breach.TheVariants.{Unknown}
use Rattle.ctrl_types.specs.Resolving.{wanted}
use Rattle.ctrl_syntax.specs.declared.syntax.StateLine.{StateLine}
use Rattle.ctrl_types.specs.declared.expressions.LinTerm.{LinTerm}
use Rattle.ctrl_types.specs.declared.expressions.Source.{Source}
use Rattle.ctrl_types.specs.Names.{has_name, state_named, source_of, terms_of, lin_of, behind_term}
use Rattle.ctrl_types.specs.Denominators.{with_number, with_numbers}

-- ---- terms

-- a list in front of the terms that are found
abbrev pub front_terms : List LinTerm → Option (List LinTerm) → Option (List LinTerm)
front_terms front None = None
front_terms front (Some terms) = Some (front ++ terms)

one_more : (front : List LinTerm) (t : LinTerm) (read : Option (List LinTerm)) → front_terms front (behind_term (Some t) read) ≡ front_terms (front ++ t ∷ []) read
one_more front t None = refl
one_more front t (Some terms) = ap (λ (ts : List LinTerm). Some ts) (sym (append_assoc front (t ∷ []) terms))

module _ (states : List StateLine) (signals : Bool) (items : List ETerm) (i : ℕ) (front : List LinTerm) (total : Option (List LinTerm))
    (so_far : front_terms front (terms_of states signals (drop i items)) ≡ total) where
  -- the term at this place is the next
  drop_is : (t : ETerm) → t ≡ get_or items i t → i < length items → drop i items ≡ t ∷ drop (i + 1) items
  drop_is t here inside = drop_more items i t inside ∙ ap (λ (x : ETerm). x ∷ drop (i + 1) items) (sym here)

  pub terms_go_on : (t : ETerm) (of : Source) → t ≡ get_or items i t → i < length items → source_of states signals t.name ≡ Some of
      → front_terms (front ++ record { coef = t.coef; of = of } ∷ []) (terms_of states signals (drop (i + 1) items)) ≡ total
  unfolding terms_of
  terms_go_on t of item inside is =
      let made : LinTerm = record { coef = t.coef; of = of } in
      let next = drop_is t item inside in
      let here : front_terms front (terms_of states signals (drop i items)) ≡ front_terms front (behind_term (Some made) (terms_of states signals (drop (i + 1) items))) =
      rw (next, is) refl in
      sym (one_more front made (terms_of states signals (drop (i + 1) items))) ∙ sym here ∙ so_far

  pub terms_stop : (t : ETerm) → t ≡ get_or items i t → i < length items → source_of states signals t.name ≡ None → total ≡ None
  unfolding terms_of
  terms_stop t item inside is =
      let next = drop_is t item inside in
      let here : front_terms front (terms_of states signals (drop i items)) ≡ None = rw (next, is) refl in
      sym so_far ∙ here

  pub terms_end : length items ≤ i → total ≡ Some front
  unfolding terms_of
  terms_end done =
      let here : front_terms front (terms_of states signals (drop i items)) ≡ Some front = rw (drop_of_length-le items done) (ap (λ (ts : List LinTerm). Some ts) (append-nil front)) in
      sym so_far ∙ here

-- ---- denominators

pub numbers_go_on : (terms : List LinTerm) (i : ℕ) (d : LinTerm) (s next total : Option ℕ) → i < length terms → next ≡ with_number s (get_or terms i d).coef
    → with_numbers s (map (λ (t : LinTerm). t.coef) (drop i terms)) ≡ total → with_numbers next (map (λ (t : LinTerm). t.coef) (drop (i + 1) terms)) ≡ total
unfolding with_numbers
numbers_go_on terms i d s next total inside is so_far =
    let here : with_numbers s (map (λ (t : LinTerm). t.coef) (drop i terms)) ≡ with_numbers (with_number s (get_or terms i d).coef) (map (λ (t : LinTerm). t.coef) (drop (i + 1) terms)) =
    rw (drop_more terms i d inside) refl in
    ap (λ (o : Option ℕ). with_numbers o (map (λ (t : LinTerm). t.coef) (drop (i + 1) terms))) is ∙ sym here ∙ so_far

pub numbers_end : (terms : List LinTerm) (i : ℕ) (s total : Option ℕ) → length terms ≤ i → with_numbers s (map (λ (t : LinTerm). t.coef) (drop i terms)) ≡ total → s ≡ total
unfolding with_numbers
numbers_end terms i s total done so_far =
    let here : with_numbers s (map (λ (t : LinTerm). t.coef) (drop i terms)) ≡ s = rw (drop_of_length-le terms done) refl in
    sym here ∙ so_far

-- ---- expressions

pub lin_found : (states : List StateLine) (signals : Bool) (expr : Expr) (terms : List LinTerm) → terms_of states signals expr.terms ≡ Some terms
    → wanted (lin_of states signals expr) Unknown ≡ Ok (record { terms = terms })
unfolding lin_of
lin_found states signals expr terms is = rw is refl

pub lin_missing : (states : List StateLine) (signals : Bool) (expr : Expr) → terms_of states signals expr.terms ≡ None
    → wanted (lin_of states signals expr) Unknown ≡ Err Unknown
unfolding lin_of
lin_missing states signals expr is = rw is refl

-- the state that has a name is one of the states
place_within : (w : List ℕ) (states : List StateLine) (i k : ℕ) → position_from (has_name w) i states ≡ Some k → k < i + length states
place_within w [] i k is = absurd (cc)
place_within w (s ∷ states) i k is = by (has_name w s) refl is (λ rest. place_within w states (i + 1) k rest)
  where
    by : (t : Bool) → has_name w s ≡ t → cond t (Some i) (position_from (has_name w) (i + 1) states) ≡ Some k
        → (position_from (has_name w) (i + 1) states ≡ Some k → k < i + 1 + length states) → k < i + suc (length states)
    by true p q rest = let here : i ≡ k = cc in omega arith
    by false p q rest = let later = rest q in omega arith

pub state_within : (w : List ℕ) (states : List StateLine) (k : ℕ) → state_named states w ≡ Some k → k < length states
unfolding state_named
state_within w states k is = let within = place_within w states 0 k is in omega arith
