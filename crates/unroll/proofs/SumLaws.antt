-- Sums that are made part by part.
use Rattle.std.proofs.Common.{◌≡◌, ◌∙◌, ap, sym, subst, ℕ, suc, ◌+◌, List, ◌++◌, add-one}
use Rattle.std.proofs.lemmas.List.Sums.{fold-append}
use Rattle.run_rows.specs.declared.shapes.Shape.{Shape}
use Rattle.claims.specs.Subjects.{Part, each_flow}
use Rattle.path_server.specs.Claims.{Factors}
use Rattle.unroll.specs.Sums.{ColumnSum, no_sum, summed, with_part, with_parts}

pub with_parts-append : (s : Shape) (w : ColumnSum) (xs ys : List Part) → with_parts s w (xs ++ ys) ≡ with_parts s (with_parts s w xs) ys
with_parts-append s w xs ys = fold-append (λ (t : ColumnSum) (p : Part). with_part s t p.coefficient p.of) w xs ys

-- the parts of one more flow
pub one_more_flow : (s : Shape) (w u v : ColumnSum) (parts : ℕ → List Part) (n : ℕ)
    → u ≡ with_parts s w (each_flow parts n) → v ≡ with_parts s u (parts (n + 1))
    → v ≡ with_parts s w (each_flow parts (n + 1))
one_more_flow s w u v parts n before here =
    let step : v ≡ with_parts s u (parts (suc n)) = subst (λ m. v ≡ with_parts s u (parts m)) (add-one n) here in
    subst (λ m. v ≡ with_parts s w (each_flow parts m)) (sym (add-one n))
    (step ∙ ap (λ a. with_parts s a (parts (suc n))) before ∙ sym (with_parts-append s w (each_flow parts n) (parts (suc n))))

-- two lists of parts, and three, each at factors of its own
pub two_lists : (s : Shape) (w0 w1 w2 : ColumnSum) (first second : Factors → List Part) (f g a b : Factors)
    → w0 ≡ no_sum → w1 ≡ with_parts s w0 (first f) → w2 ≡ with_parts s w1 (second g) → f ≡ a → g ≡ b
    → w2 ≡ summed s (first a ++ second b)
two_lists s w0 w1 w2 first second f g a b begun one two same same' =
    two ∙ ap (λ w. with_parts s w (second g)) one ∙ sym (with_parts-append s w0 (first f) (second g))
    ∙ ap (λ w. with_parts s w (first f ++ second g)) begun
    ∙ ap (λ e. summed s (first e ++ second g)) same ∙ ap (λ e. summed s (first a ++ second e)) same'

pub three_lists : (s : Shape) (w0 w1 w2 w3 : ColumnSum) (first second third : Factors → List Part) (f g h a b d : Factors)
    → w0 ≡ no_sum → w1 ≡ with_parts s w0 (first f) → w2 ≡ with_parts s w1 (second g) → w3 ≡ with_parts s w2 (third h)
    → f ≡ a → g ≡ b → h ≡ d → w3 ≡ summed s ((first a ++ second b) ++ third d)
three_lists s w0 w1 w2 w3 first second third f g h a b d begun one two three same same' same'' =
    three ∙ ap (λ w. with_parts s w (third h)) (two_lists s w0 w1 w2 first second f g a b begun one two same same')
    ∙ sym (with_parts-append s no_sum (first a ++ second b) (third h))
    ∙ ap (λ e. summed s ((first a ++ second b) ++ third e)) same''
