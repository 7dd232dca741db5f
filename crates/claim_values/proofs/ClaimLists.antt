-- Claims together: what two of them say, what holds of each of a list, and conjunctions.
use Rattle.std.proofs.Common.{◌≡◌, ℕ, zero, suc, ◌≤◌, ◌⊎◌, inl, inr, List, [], ◌∷◌, ◌++◌, map, refl, ◌∙◌, ap, subst, arith}
use Rattle.std.specs.Prelude.{All}
use Rattle.std.proofs.lemmas.Bool.{cases_lt}
use Rattle.std.proofs.lemmas.List.{map-append}
use Rattle.std.proofs.lemmas.List.Elements.{All-append, All-cons, All-head, All-nil, All-tail}
use Rattle.condition_tree.specs.Trees.{EachLeaf, Tree, Truth, all_of, conjunction, with_leaves}
use Rattle.claims.specs.Subjects.{each_flow}
use Rattle.path_server.proofs.RuleLaws.{Means}

-- ---- two claims

pub both_mean : (P Q R S : Type 0) → Means P Q → Means R S → Means (P × R) (Q × S)
both_mean P Q R S one two = (λ h. (one.0 h.0, two.0 h.1), λ h. (one.1 h.0, two.1 h.1))

pub either_means : (P Q R S : Type 0) → Means P Q → Means R S → Means (P ⊎ R) (Q ⊎ S)
either_means P Q R S one two = (
  λ h. elim h [ inl p ↦ inl (one.0 p) | inr r ↦ inr (two.0 r) ],
  λ h. elim h [ inl q ↦ inl (one.1 q) | inr s ↦ inr (two.1 s) ],
)

-- ---- each of a list

pub both_halves : {A : Type 0} (P : A → Type 0) (xs ys : List A) → All P (xs ++ ys) → All P xs × All P ys
both_halves P [] ys each = (All-nil P, each)
both_halves P (x ∷ xs) ys each =
    let rest = both_halves P xs ys (All-tail P x (xs ++ ys) each) in
    (All-cons P x xs (All-head P x (xs ++ ys) each) rest.0, rest.1)

pub each_of_map : {A B : Type 0} (P : B → Type 0) (g : A → B) (xs : List A) → All P (map g xs) → All (λ x. P (g x)) xs
each_of_map {A} P g [] each = All-nil (λ (x : A). P (g x))
each_of_map {A} P g (x ∷ xs) each =
    let Q : A → Type 0 = λ y. P (g y) in
    All-cons Q x xs (All-head P (g x) (map g xs) each) (each_of_map P g xs (All-tail P (g x) (map g xs) each))

-- what holds of whatever is made holds of each of a list that is made
pub map_all : {A B : Type 0} (P : B → Type 0) (g : A → B) → ((x : A) → P (g x)) → (xs : List A) → All P (map g xs)
map_all P g each [] = All-nil P
map_all P g each (x ∷ xs) = All-cons P (g x) (map g xs) (each x) (map_all P g each xs)

-- what holds of each of some lists, one for each flow
pub each_of_flows : {A : Type 0} (P : A → Type 0) (terms : ℕ → List A) (n f : ℕ) → All P (each_flow terms n) → 1 ≤ f → f ≤ n → All P (terms f)
each_of_flows P terms zero f each from to = absurd (omega arith)
each_of_flows P terms (suc n) f each from to =
    let halves = both_halves P (each_flow terms n) (terms (suc n)) each in
    elim (cases_lt n f) [
      | inl last ↦ subst (λ g. All P (terms g)) (let same : suc n ≡ f = omega arith in same) halves.1
      | inr before ↦ each_of_flows P terms n f halves.0 from (omega arith)
    ]

pub flows_of_each : {A : Type 0} (P : A → Type 0) (terms : ℕ → List A) (n : ℕ) → ((f : ℕ) → 1 ≤ f → f ≤ n → All P (terms f)) → All P (each_flow terms n)
flows_of_each P terms zero each = All-nil P
flows_of_each P terms (suc n) each =
    All-append P (each_flow terms n) (terms (suc n)) (flows_of_each P terms n (λ f from to. each f from (omega arith))) (each (suc n) (omega arith) (omega arith))

-- ---- lists that are made otherwise

-- functions that agree on what the elements have make the same list
pub maps_agree : {A B : Type 0} (P : A → Type 0) (g h : A → B) → ((x : A) → P x → g x ≡ h x) → (xs : List A) → All P xs → map g xs ≡ map h xs
maps_agree P g h same [] each = refl
maps_agree P g h same (x ∷ xs) each =
    ap (λ y. y ∷ map g xs) (same x (All-head P x xs each)) ∙ ap (λ ys. h x ∷ ys) (maps_agree P g h same xs (All-tail P x xs each))

pub maps_made : {A B C : Type 0} (make : B → C) (g : A → B) (h : A → C) → ((x : A) → make (g x) ≡ h x) → (xs : List A) → map make (map g xs) ≡ map h xs
maps_made make g h same [] = refl
maps_made make g h same (x ∷ xs) = ap (λ y. y ∷ map make (map g xs)) (same x) ∙ ap (λ ys. h x ∷ ys) (maps_made make g h same xs)

pub each_flows_made : {A B : Type 0} (make : A → B) (g : ℕ → List A) (h : ℕ → List B) → ((f : ℕ) → map make (g f) ≡ h f) → (n : ℕ)
    → map make (each_flow g n) ≡ each_flow h n
each_flows_made make g h same zero = refl
each_flows_made make g h same (suc n) =
    map-append make (each_flow g n) (g (suc n)) ∙ ap (λ ys. ys ++ map make (g (suc n))) (each_flows_made make g h same n)
    ∙ ap (λ ys. each_flow h n ++ ys) (same (suc n))

pub joined_made : {A B : Type 0} (make : A → B) (xs ys : List A) (us vs : List B) → map make xs ≡ us → map make ys ≡ vs → map make (xs ++ ys) ≡ us ++ vs
joined_made make xs ys us vs one two = map-append make xs ys ∙ ap (λ zs. zs ++ map make ys) one ∙ ap (λ zs. us ++ zs) two

-- ---- conjunctions

-- a conjunction is true exactly where each of its parts is
pub conjunction_means : {L : Type 0} (meaning : L → Type 0) (cs : List (Tree L)) → Means (Truth meaning (conjunction cs)) (All (Truth meaning) cs)
conjunction_means meaning [] = (λ h. All-nil (Truth meaning), λ h. tt)
conjunction_means meaning (c ∷ cs) =
    let rest = conjunction_means meaning cs in
    (λ h. All-cons (Truth meaning) c cs h.0 (rest.0 h.1), λ h. (All-head (Truth meaning) c cs h, rest.1 (All-tail (Truth meaning) c cs h)))

pub conjunction_leaves : {L : Type 0} (P : L → Type 0) (cs : List (Tree L)) → All (EachLeaf P) cs → EachLeaf P (conjunction cs)
conjunction_leaves P [] each = tt
conjunction_leaves P (c ∷ cs) each = (All-head (EachLeaf P) c cs each, conjunction_leaves P cs (All-tail (EachLeaf P) c cs each))

pub conjunction_with : {L M : Type 0} (f : L → M) (cs : List (Tree L)) → with_leaves f (conjunction cs) ≡ conjunction (map (with_leaves f) cs)
conjunction_with f [] = refl
conjunction_with f (c ∷ cs) = ap (λ d. all_of (with_leaves f c) d) (conjunction_with f cs)
