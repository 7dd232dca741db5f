-- The first items of a list, and one more.
use Rattle.std.proofs.Common.{◌≡◌, ℕ, zero, suc, ◌+◌, ◌<◌, List, [], ◌∷◌, ◌++◌, All, map, take, drop, get_or, length, refl, sym, ap, subst, ◌∙◌, arith}
use Rattle.std.proofs.lemmas.List.{length-take-le, take_more}
use Rattle.std.proofs.lemmas.List.Elements.{All-append}

All-one : {A : Type 0} (P : A → Type 0) (x : A) → P x → All P (x ∷ [])
All-one P x p zero d within = p
All-one P x p (suc k) d within = absurd (omega arith)

pub all_more : {A : Type 0} (P : A → Type 0) (xs : List A) (i : ℕ) (d : A) → i < length xs → All P (take i xs) → P (get_or xs i d) → All P (take (i + 1) xs)
all_more P xs i d within first here =
    subst (λ ys. All P ys) (sym (take_more xs i d within)) (All-append P (take i xs) (get_or xs i d ∷ []) first (All-one P (get_or xs i d) here))

pub all_last : {A : Type 0} (P : A → Type 0) (xs ys : List A) (x : A) → ys ≡ xs ++ x ∷ [] → All P xs → P x → All P ys
all_last P xs ys x is first here = subst (λ zs. All P zs) (sym is) (All-append P xs (x ∷ []) first (All-one P x here))

pub split_at : {A : Type 0} (xs : List A) (i : ℕ) (d : A) → i < length xs → xs ≡ take i xs ++ get_or xs i d ∷ drop (i + 1) xs
split_at [] i d within = absurd (omega arith)
split_at (x ∷ xs) zero d within = refl
split_at (x ∷ xs) (suc i) d within =
    let next : suc (i + 1) ≡ suc i + 1 = omega arith in
    subst (λ n. x ∷ xs ≡ x ∷ (take i xs ++ get_or xs i d ∷ drop n (x ∷ xs))) next (ap (λ ys. x ∷ ys) (split_at xs i d (omega arith)))

map-last : {A B : Type 0} (f : A → B) (xs : List A) (x : A) → map f (xs ++ x ∷ []) ≡ map f xs ++ f x ∷ []
map-last f [] x = refl
map-last f (y ∷ ys) x = ap (λ zs. f y ∷ zs) (map-last f ys x)

pub map_more : {A B : Type 0} (f : A → B) (xs : List A) (i : ℕ) (d : A) (ys zs : List B) (y : B) → i < length xs → ys ≡ map f (take i xs) → zs ≡ ys ++ y ∷ [] → y ≡ f (get_or xs i d) → zs ≡ map f (take (i + 1) xs)
map_more f xs i d ys zs y within before are is =
    are ∙ ap (λ l. l ++ y ∷ []) before ∙ ap (λ v. map f (take i xs) ++ v ∷ []) is ∙ sym (map-last f (take i xs) (get_or xs i d)) ∙ ap (map f) (sym (take_more xs i d within))

pub length_take : {A : Type 0} (xs : List A) (i : ℕ) → i < length xs → i ≡ length (take i xs)
length_take xs i within = sym (length-take-le i xs (omega arith))
