-- Terms of flow after flow.
use Rattle.std.proofs.Common.{◌≡◌, ◌∙◌, ap, sym, subst, ℕ, suc, ◌+◌, ℤ, List, [], ◌∷◌, ◌++◌, add-one, to_z, of_z}
use Rattle.std.proofs.lemmas.List.Sums.{fold-append}
use Rattle.std.proofs.lemmas.Int.{to_z-of_z, fits_signed_from_abs}
use Rattle.std.specs.Int.{w128}
use Rattle.whole.specs.Numbers.{IsWithin}
use Rattle.weighing.specs.Weight.{Weight}
use Rattle.weighing.specs.Weighed.{added, start, times, weighed, weighed_from}
use Rattle.path_server.specs.Claims.{Factors}
use Rattle.weighing.specs.declared.weighings.Summand.{Summand}
use Rattle.claims.specs.Subjects.{each_flow}

pub weighed-append : (w : Weight) (xs ys : List Summand) → weighed_from w (xs ++ ys) ≡ weighed_from (weighed_from w xs) ys
weighed-append w xs ys = fold-append (λ (a : Weight) (t : Summand). added a t.0 t.1) w xs ys

-- the terms of one more flow
pub one_more_flow : (w u v : Weight) (terms : ℕ → List Summand) (n : ℕ)
    → u ≡ weighed_from w (each_flow terms n) → v ≡ weighed_from u (terms (n + 1))
    → v ≡ weighed_from w (each_flow terms (n + 1))
one_more_flow w u v terms n before here =
    let step : v ≡ weighed_from u (terms (suc n)) = subst (λ m. v ≡ weighed_from u (terms m)) (add-one n) here in
    subst (λ m. v ≡ weighed_from w (each_flow terms m)) (sym (add-one n))
    (step ∙ ap (λ a. weighed_from a (terms (suc n))) before ∙ sym (weighed-append w (each_flow terms n) (terms (suc n))))

-- a number as it was passed: the number itself
abbrev pub given : ℤ → ℤ
given z = to_z w128 (of_z w128 z)

pub given_is : (z : ℤ) → IsWithin z → given z ≡ z
given_is z within = to_z-of_z w128 z (fits_signed_from_abs w128 z within)

pub given_term : (k y e : ℤ) → IsWithin k → IsWithin y → y ≡ e → times (given k) (given y) ≡ times k e
given_term k y e small within same =
    ap (λ a. times a (given y)) (given_is k small) ∙ ap (times k) (given_is y within ∙ same)

pub one_term : (w : Weight) (k y e : ℤ) → IsWithin k → IsWithin y → y ≡ e
    → weighed_from w (times (given k) (given y) ∷ []) ≡ weighed_from w (times k e ∷ [])
one_term w k y e small within same = ap (λ t. weighed_from w (t ∷ [])) (given_term k y e small within same)

pub two_terms : (w : Weight) (k y e l z f : ℤ) → IsWithin k → IsWithin y → y ≡ e → IsWithin l → IsWithin z → z ≡ f
    → weighed_from w (times (given k) (given y) ∷ times (given l) (given z) ∷ [])
    ≡ weighed_from w (times k e ∷ times l f ∷ [])
two_terms w k y e l z f small within same small' within' same' =
    ap (λ t. weighed_from w (t ∷ times (given l) (given z) ∷ [])) (given_term k y e small within same)
    ∙ ap (λ t. weighed_from w (times k e ∷ t ∷ [])) (given_term l z f small' within' same')

-- ---- a weighing that is made part by part, each at factors of its own

pub two_parts : (row : ℕ) (w0 w1 w2 : Weight) (first second : Factors → List Summand) (s t a b : Factors)
    → w0 ≡ start row → w1 ≡ weighed_from w0 (first s) → w2 ≡ weighed_from w1 (second t) → s ≡ a → t ≡ b
    → w2 ≡ weighed row (first a ++ second b)
two_parts row w0 w1 w2 first second s t a b begun one two same same' =
    two ∙ ap (λ w. weighed_from w (second t)) one ∙ sym (weighed-append w0 (first s) (second t))
    ∙ ap (λ w. weighed_from w (first s ++ second t)) begun
    ∙ ap (λ e. weighed row (first e ++ second t)) same ∙ ap (λ e. weighed row (first a ++ second e)) same'

pub three_parts : (row : ℕ) (w0 w1 w2 w3 : Weight) (first second third : Factors → List Summand) (s t u a b d : Factors)
    → w0 ≡ start row → w1 ≡ weighed_from w0 (first s) → w2 ≡ weighed_from w1 (second t) → w3 ≡ weighed_from w2 (third u)
    → s ≡ a → t ≡ b → u ≡ d → w3 ≡ weighed row ((first a ++ second b) ++ third d)
three_parts row w0 w1 w2 w3 first second third s t u a b d begun one two three same same' same'' =
    three ∙ ap (λ w. weighed_from w (third u)) (two_parts row w0 w1 w2 first second s t a b begun one two same same')
    ∙ sym (weighed-append (start row) (first a ++ second b) (third u))
    ∙ ap (λ e. weighed row ((first a ++ second b) ++ third e)) same''
