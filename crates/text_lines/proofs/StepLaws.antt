-- Laws of steps that follow each other.
use Rattle.std.proofs.Common.{◌≡◌, ℕ, zero, suc, ◌+◌, ◌-◌, ◌<◌, ◌≤◌, Result, Ok, Err, List, [], ◌∷◌, ◌++◌, length, get_or, refl, sym, ap, subst, ◌∙◌, append_assoc, arith}
use Rattle.std.proofs.lemmas.List.{append-nil}
use Rattle.text_lines.specs.Steps.{◌>>=◌, each, AllNumbered}

-- the value of a step that did not fail
pub bind_ok : {A B E : Type 0} (r : Result A E) (f : A → Result B E) (y : B) → (r >>= f) ≡ Ok y → (x : A) × (r ≡ Ok x) × (f x ≡ Ok y)
bind_ok (Ok x) f y e = (x, refl, e)
bind_ok (Err d) f y e = absurd (cc)

pub ok_is : {A E : Type 0} (x y : A) → ◌≡◌ {A = Result A E} (Ok x) (Ok y) → x ≡ y
ok_is x y e = cc

pub bind_assoc : {A B C E : Type 0} (r : Result A E) (f : A → Result B E) (g : B → Result C E) → ((r >>= f) >>= g) ≡ (r >>= λ x. f x >>= g)
bind_assoc (Ok x) f g = refl
bind_assoc (Err e) f g = refl

-- ---- a loop over steps: what was read before, and what is still read

abbrev pub with_front : {X R E : Type 0} → List X → Result (List X × R) E → Result (List X × R) E
with_front front read = read >>= λ x. Ok (front ++ x.0, x.1)

pub regroup : {X R E : Type 0} (front : List X) (x : X) (read : Result (List X × R) E) → with_front front (read >>= λ xs. Ok (x ∷ xs.0, xs.1)) ≡ with_front (front ++ x ∷ []) read
regroup front x (Ok xs) = ap (λ (ys : List _). Ok (ys, xs.1)) (sym (append_assoc front (x ∷ []) xs.0))
regroup front x (Err fault) = refl

-- step k was done, and step m is next
pub each_goes_on : {X R E : Type 0} (step : ℕ → R → Result (X × R) E) (count i k m : ℕ) (front : List X) (rest : R) (x : X) (after : R) (total : Result (List X × R) E)
    → i < count → m ≡ k + 1 → step k rest ≡ Ok (x, after)
    → with_front front (each step (count - i) k rest) ≡ total → with_front (front ++ x ∷ []) (each step (count - (i + 1)) m after) ≡ total
unfolding each
each_goes_on step count i k m front rest x after total lt next done so_far =
    let more : count - i ≡ suc (count - (i + 1)) = omega arith in
    let one : with_front front (each step (count - i) k rest) ≡ with_front (front ++ x ∷ []) (each step (count - (i + 1)) m after) = rw (more, done, ← next) (regroup front x (each step (count - (i + 1)) m after)) in
    sym one ∙ so_far

-- step k failed
pub each_stops : {X R E : Type 0} (fault : E) (step : ℕ → R → Result (X × R) E) (count i k : ℕ) (front : List X) (rest : R) (total : Result (List X × R) E)
    → i < count → step k rest ≡ Err fault
    → with_front front (each step (count - i) k rest) ≡ total → total ≡ Err fault
unfolding each
each_stops fault step count i k front rest total lt failed so_far =
    let more : count - i ≡ suc (count - (i + 1)) = omega arith in
    let one : with_front front (each step (count - i) k rest) ≡ Err fault = rw (more, failed) refl in
    sym so_far ∙ one

-- all steps were done
pub each_is_done : {X R E : Type 0} (step : ℕ → R → Result (X × R) E) (count i k : ℕ) (front : List X) (rest : R) (total : Result (List X × R) E)
    → count ≤ i → with_front front (each step (count - i) k rest) ≡ total → total ≡ Ok (front, rest)
unfolding each
each_is_done step count i k front rest total le so_far =
    let none : count - i ≡ 0 = omega arith in
    let one : with_front front (each step (count - i) k rest) ≡ Ok (front, rest) = rw none (ap (λ (xs : List _). Ok (xs, rest)) (append-nil front)) in
    sym so_far ∙ one

-- what holds of each value and its number, at a place
pub AllNumbered-at : {X : Type 0} (P : ℕ → X → Type 0) (d : X) (first : ℕ) (xs : List X) → AllNumbered P first xs → (i : ℕ) → i < length xs → P (first + i) (get_or xs i d)
unfolding AllNumbered
AllNumbered-at P d first [] all i lt = absurd (omega arith)
AllNumbered-at P d first (x ∷ xs) all zero lt = subst (λ k. P k x) (omega arith) all.0
AllNumbered-at P d first (x ∷ xs) all (suc i) lt = subst (λ k. P k (get_or xs i d)) (omega arith) (AllNumbered-at P d (first + 1) xs all.1 i (omega arith))

pub AllNumbered-from : {X : Type 0} (P : ℕ → X → Type 0) (d : X) (first : ℕ) (xs : List X) → ((i : ℕ) → i < length xs → P (first + i) (get_or xs i d)) → AllNumbered P first xs
unfolding AllNumbered
AllNumbered-from P d first [] at = tt
AllNumbered-from P d first (x ∷ xs) at = (subst (λ k. P k x) (omega arith) (at 0 (omega arith)), AllNumbered-from P d (first + 1) xs (λ i lt. subst (λ k. P k (get_or xs i d)) (omega arith) (at (suc i) (omega arith))))
