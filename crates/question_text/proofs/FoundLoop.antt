-- What is found for each of a list, one element after another: what came before, and what is still to come.
use Rattle.std.proofs.Common.{◌≡◌, ℕ, ◌+◌, ◌<◌, ◌≤◌, Option, None, Some, List, [], ◌∷◌, ◌++◌, length, get_or, drop, drop_of_length-le, append_assoc, refl, sym, ap, ◌∙◌}
use Rattle.std.proofs.lemmas.List.{drop_more, append-nil}
use Rattle.question_text.specs.NamedValues.{each_found, in_front}

-- a list in front of what is found
abbrev pub behind : {X : Type 0} → List X → Option (List X) → Option (List X)
behind front None = None
behind front (Some xs) = Some (front ++ xs)

one_more : {X : Type 0} (front : List X) (x : X) (found : Option (List X)) → behind front (in_front (Some x) found) ≡ behind (front ++ x ∷ []) found
one_more front x None = refl
one_more front x (Some xs) = ap (λ (ys : List _). Some ys) (sym (append_assoc front (x ∷ []) xs))

-- the element at this place is the next
pub next_is : {X : Type 0} (items : List X) (i : ℕ) (x : X) → x ≡ get_or items i x → i < length items → drop i items ≡ x ∷ drop (i + 1) items
next_is items i x here inside = drop_more items i x inside ∙ ap (λ (y : _). y ∷ drop (i + 1) items) (sym here)

module _ {X Y : Type 0} (find : X → Option Y) (items : List X) (i : ℕ) (front : List Y) (total : Option (List Y))
    (so_far : behind front (each_found find (drop i items)) ≡ total) where
  pub goes_on : (x : X) (y : Y) → x ≡ get_or items i x → i < length items → find x ≡ Some y → behind (front ++ y ∷ []) (each_found find (drop (i + 1) items)) ≡ total
  unfolding each_found
  goes_on x y item inside is =
      let next = next_is items i x item inside in
      let here : behind front (each_found find (drop i items)) ≡ behind front (in_front (Some y) (each_found find (drop (i + 1) items))) = rw (next, is) refl in
      sym (one_more front y (each_found find (drop (i + 1) items))) ∙ sym here ∙ so_far

  pub stops : (x : X) → x ≡ get_or items i x → i < length items → find x ≡ None → total ≡ None
  unfolding each_found
  stops x item inside is =
      let next = next_is items i x item inside in
      let here : behind front (each_found find (drop i items)) ≡ None = rw (next, is) refl in
      sym so_far ∙ here

  pub ends : length items ≤ i → total ≡ Some front
  unfolding each_found
  ends done =
      let here : behind front (each_found find (drop i items)) ≡ Some front = rw (drop_of_length-le items done) (ap (λ (ys : List Y). Some ys) (append-nil front)) in
      sym so_far ∙ here
