-- Rows that are put in place, and what stands at each variable then.
use Rattle.std.proofs.Common.{◌≡◌, ℕ, zero, suc, ◌<◌, List, [], ◌∷◌, ◌++◌, length, get_or, set, ◌⊎◌, inl, inr, refl, sym, ap, subst, ◌∙◌, arith, get_or-set_same, get_or-set_other}
use Rattle.std.specs.List.{All, Any}
use Rattle.std.proofs.lemmas.List.{length-set, get_or_append_left, length-append}
use Rattle.std.proofs.lemmas.List.Elements.{All-head, All-tail}
use Rattle.std.proofs.lemmas.Bool.{cases_eq}
use Rattle.field_rows.specs.declared.row.Entry.{Entry}
use Rattle.tableau.specs.Layout.{placed}
use Rattle.tableau.specs.declared.exchange.Followed.{Followed}

-- ---- some element

pub Any-more : {X : Type 0} (P : X → Type 0) (xs : List X) (y : X) → Any P xs → Any P (xs ++ y ∷ [])
Any-more P xs y (k, x, inside, is, p) =
    (k, x, omega (arith, length-append xs (y ∷ [])), get_or_append_left xs (y ∷ []) x k inside ∙ is, p)

pub Any-behind : {X : Type 0} (P : X → Type 0) (x : X) (xs : List X) → Any P xs → Any P (x ∷ xs)
Any-behind P x xs (k, y, inside, is, p) = (suc k, y, omega arith, is, p)

pub Any-front : {X : Type 0} (P : X → Type 0) (x : X) (xs : List X) → P x → Any P (x ∷ xs)
Any-front P x xs p = (0, x, omega arith, refl, p)

pub Any-weaker : {X : Type 0} (P Q : X → Type 0) (xs : List X) → ((x : X) → P x → Q x) → Any P xs → Any Q xs
Any-weaker P Q xs f (k, x, inside, is, p) = (k, x, inside, is, f x p)

pub Any-none : {X : Type 0} (P : X → Type 0) → Any P [] → ⊥
Any-none P (k, x, inside, is, p) = absurd (omega arith)

-- ---- putting rows in place

pub length-placed : {F : Type 0} (rows : List (List (Entry F))) (fs : List (Followed F)) → length (placed rows fs) ≡ length rows
length-placed rows [] = refl
length-placed rows (f ∷ fs) = length-set (placed rows fs) f.variable f.row ∙ length-placed rows fs

-- the last row is put in place first
pub placed-push : {F : Type 0} (rows : List (List (Entry F))) (fs : List (Followed F)) (f : Followed F) → placed rows (fs ++ f ∷ []) ≡ placed (set rows f.variable f.row) fs
placed-push rows [] f = refl
placed-push rows (g ∷ gs) f = ap (λ r. set r g.variable g.row) (placed-push rows gs f)

-- at each variable stands one of the rows that were put in place, or the old one, where none was
pub placed_cases : {F : Type 0} (rows : List (List (Entry F))) (fs : List (Followed F)) (r : ℕ) → All (λ f. f.variable < length rows) fs → ((Any (λ f. f.variable ≡ r) fs → ⊥) × (get_or (placed rows fs) r [] ≡ get_or rows r [])) ⊎ Any (λ f. (f.variable ≡ r) × (get_or (placed rows fs) r [] ≡ f.row)) fs
placed_cases rows [] r inside = inl (Any-none (λ f. f.variable ≡ r), refl)
placed_cases rows (f ∷ fs) r inside =
    by_variable (cases_eq r f.variable) (placed_cases rows fs r (All-tail (λ g. g.variable < length rows) f fs inside))
  where
    at_head : f.variable < length (placed rows fs)
    at_head = subst (λ n. f.variable < n) (sym (length-placed rows fs)) (All-head (λ g. g.variable < length rows) f fs inside)

    none_in_front : (r ≡ f.variable → ⊥) → (Any (λ g. g.variable ≡ r) fs → ⊥) → Any (λ g. g.variable ≡ r) (f ∷ fs) → ⊥
    none_in_front apart none (zero, g, within, is, p) = apart (sym p ∙ ap (λ h. h.variable) (sym is))
    none_in_front apart none (suc k, g, within, is, p) = none (k, g, omega arith, is, p)

    by_variable : (r ≡ f.variable) ⊎ (r ≡ f.variable → ⊥) → ((Any (λ g. g.variable ≡ r) fs → ⊥) × (get_or (placed rows fs) r [] ≡ get_or rows r [])) ⊎ Any (λ g. (g.variable ≡ r) × (get_or (placed rows fs) r [] ≡ g.row)) fs → ((Any (λ g. g.variable ≡ r) (f ∷ fs) → ⊥) × (get_or (set (placed rows fs) f.variable f.row) r [] ≡ get_or rows r [])) ⊎ Any (λ g. (g.variable ≡ r) × (get_or (set (placed rows fs) f.variable f.row) r [] ≡ g.row)) (f ∷ fs)
    by_variable (inl here) rest =
        inr (0, f, omega arith, refl, (sym here, ap (λ k. get_or (set (placed rows fs) f.variable f.row) k []) here ∙ get_or-set_same (placed rows fs) f.variable f.row [] at_head))
    by_variable (inr apart) (inl none) =
        inl (none_in_front apart none.0, get_or-set_other (placed rows fs) f.variable r f.row [] apart ∙ none.1)
    by_variable (inr apart) (inr some) =
        inr (Any-behind _ f fs (Any-weaker (λ g. (g.variable ≡ r) × (get_or (placed rows fs) r [] ≡ g.row)) (λ g. (g.variable ≡ r) × (get_or (set (placed rows fs) f.variable f.row) r [] ≡ g.row)) fs (λ g p. (p.0, get_or-set_other (placed rows fs) f.variable r f.row [] apart ∙ p.1)) some))
