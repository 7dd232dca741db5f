-- A sum with like columns added: the columns ascend, and no coefficient is 0.
use Rattle.std.specs.Prelude.{◌≢◌, ℕ, ◌==◌, ◌<◌, List, [], ◌∷◌, ◌++◌, pos, ◌+ℤ◌, nat_lt, if◌then◌else◌}
use Rattle.std.specs.Ordering.{int_eq}
use Rattle.linear_form.specs.declared.lists.Term.{Term}

-- a term before a list, or nothing more where its coefficient is 0
abbrev pub put : Term → List Term → List Term
put t ts = if int_eq t.coef (pos 0) then ts else t ∷ ts

-- one term more in a list whose columns ascend: a like column takes it in
abbrev pub add_term : Term → List Term → List Term
add_term t [] = put t []
add_term t (u ∷ us) = if nat_lt t.column u.column then put t (u ∷ us) else (if t.column == u.column then put (record { column = u.column; coef = t.coef +ℤ u.coef }) us else u ∷ add_term t us)

-- the terms with like columns added and zeros left out, in column order
abbrev pub reduced : List Term → List Term
reduced [] = []
reduced (t ∷ ts) = add_term t (reduced ts)

-- the first column, if there is one, is above this one
abbrev pub StartsAbove : ℕ → List Term → Type 0
StartsAbove column [] = Unit {0}
StartsAbove column (t ∷ ts) = column < t.column

-- the columns ascend strictly, and no coefficient is 0
abbrev pub IsReduced : List Term → Type 0
IsReduced [] = Unit {0}
IsReduced (t ∷ ts) = (t.coef ≢ pos 0) × StartsAbove t.column ts × IsReduced ts

-- a term after a list, or nothing more where its coefficient is 0
abbrev pub closed : List Term → Term → List Term
closed ts t = if int_eq t.coef (pos 0) then ts else ts ++ t ∷ []
