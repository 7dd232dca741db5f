-- What loops that make lists keep.
use Rattle.std.proofs.Common.{◌≡◌, ℕ, ◌+◌, ◌<◌, List, [], ◌∷◌, ◌++◌, length, get_or, take, map, refl, sym, ap, ◌∙◌}
use Rattle.std.specs.List.{range_with_len}
use Rattle.std.proofs.lemmas.List.{map-append, take_more}
use Rattle.std.proofs.lemmas.List.FromFn.{map-range_with_len_more}

pub made_goes_on : {X : Type 0} (f : ℕ → X) (a n j : ℕ) (old new : List X) (x : X) → a + n ≡ j → old ≡ map f (range_with_len a n)
    → new ≡ old ++ x ∷ [] → x ≡ f j → new ≡ map f (range_with_len a (n + 1))
made_goes_on f a n j old new x at before pushed is =
    pushed ∙ ap (λ xs. xs ++ x ∷ []) before ∙ ap (λ y. map f (range_with_len a n) ++ y ∷ []) is ∙ sym (map-range_with_len_more f a n j at)

pub named_goes_on : {X Y : Type 0} (f : Y → X) (xs : List X) (i : ℕ) (d : X) (old new : List Y) (y : Y) → i < length xs → map f old ≡ take i xs
    → new ≡ old ++ y ∷ [] → f y ≡ get_or xs i d → map f new ≡ take (i + 1) xs
named_goes_on f xs i d old new y lt before pushed is =
    ap (map f) pushed ∙ map-append f old (y ∷ []) ∙ ap (λ ys. ys ++ f y ∷ []) before ∙ ap (λ x. take i xs ++ x ∷ []) is ∙ sym (take_more xs i d lt)
