-- Claims that are made of a condition, leaf by leaf, and of expressions, term by term.
use Rattle.std.proofs.Common.{◌≡◌, List, [], ◌∷◌, ◌++◌, ℤ, map, refl, sym, ◌∙◌, ap}
use Rattle.std.specs.List.{flat_map}
use Rattle.std.specs.Prelude.{All}
use Rattle.std.proofs.lemmas.List.{map-append}
use Rattle.std.proofs.lemmas.List.Elements.{All-head, All-tail}
use Rattle.condition_tree.specs.Trees.{Tree, always, never, leaf, opposite, end_of_all, all_of, end_of_any, any_of, EachLeaf, with_leaves}
use Rattle.weighing.specs.Claim.{Claims, Compared}
use Rattle.run_rows.specs.declared.shapes.Shape.{Shape}
use Rattle.claims.specs.Subjects.{Part, Subject, Symbolic, made, with_terms}
use Rattle.claims.specs.Columns.{EachIn, IsOver}
use Rattle.claims.proofs.Made.{both_in}

-- a comparison with other terms
abbrev pub remade : {T : Type 0} → (ℤ → Subject → T) → Compared Part → Compared T
remade term c = record { terms = map (made term) c.terms; rel = c.rel }

-- where each leaf's comparison is remade so, so is the whole claim
pub leaves_made : {L T : Type 0} (term : ℤ → Subject → T) (f : L → Compared Part) (g : L → Compared T) → ((l : L) → remade term (f l) ≡ g l)
    → (c : Tree L) → with_terms (made term) (with_leaves f c) ≡ with_leaves g c
leaves_made term f g each always = refl
leaves_made term f g each never = refl
leaves_made term f g each (leaf l) = ap leaf (each l)
leaves_made term f g each (opposite c) = ap opposite (leaves_made term f g each c)
leaves_made term f g each end_of_all = refl
leaves_made term f g each (all_of c d) =
    ap (λ x. all_of x (with_terms (made term) (with_leaves f d))) (leaves_made term f g each c) ∙ ap (all_of (with_leaves g c)) (leaves_made term f g each d)
leaves_made term f g each end_of_any = refl
leaves_made term f g each (any_of c d) =
    ap (λ x. any_of x (with_terms (made term) (with_leaves f d))) (leaves_made term f g each c) ∙ ap (any_of (with_leaves g c)) (leaves_made term f g each d)

-- where each leaf's comparison is over the shape, so is the whole claim
pub leaves_over : {L : Type 0} (s : Shape) (P : L → Type 0) (f : L → Compared Part) → ((l : L) → P l → EachIn s (f l).terms)
    → (c : Tree L) → EachLeaf P c → IsOver s (with_leaves f c)
leaves_over s P f each always is = tt
leaves_over s P f each never is = tt
leaves_over s P f each (leaf l) is = each l is
leaves_over s P f each (opposite c) is = leaves_over s P f each c is
leaves_over s P f each end_of_all is = tt
leaves_over s P f each (all_of c d) is = (leaves_over s P f each c is.0, leaves_over s P f each d is.1)
leaves_over s P f each end_of_any is = tt
leaves_over s P f each (any_of c d) is = (leaves_over s P f each c is.0, leaves_over s P f each d is.1)

-- terms that are made of each element of a list
pub flat_map_made : {X T : Type 0} (term : ℤ → Subject → T) (f : X → List Part) (g : X → List T) → ((x : X) → map (made term) (f x) ≡ g x)
    → (xs : List X) → map (made term) (flat_map f xs) ≡ flat_map g xs
flat_map_made term f g each [] = refl
flat_map_made term f g each (x ∷ xs) =
    map-append (made term) (f x) (flat_map f xs)
    ∙ ap (λ ts. ts ++ map (made term) (flat_map f xs)) (each x)
    ∙ ap (λ ts. g x ++ ts) (flat_map_made term f g each xs)

pub flat_map_in : {X : Type 0} (s : Shape) (P : X → Type 0) (f : X → List Part) → ((x : X) → P x → EachIn s (f x))
    → (xs : List X) → All P xs → EachIn s (flat_map f xs)
flat_map_in s P f each [] is = tt
flat_map_in s P f each (x ∷ xs) is =
    both_in s (f x) (flat_map f xs) (each x (All-head P x xs is)) (flat_map_in s P f each xs (All-tail P x xs is))
