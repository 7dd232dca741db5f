-- Lists of names grow, and keep what they have.
use Rattle.std.proofs.Common.{◌≡◌, ℕ, zero, suc, ◌<◌, List, [], ◌∷◌, ◌++◌, length, get_or, set, take, drop, ◌⊎◌, inl, inr, refl, sym, ap, subst, ◌∙◌, get_or-set_same, get_or-set_other}
use Rattle.std.specs.List.{All, Contains, insert}
use Rattle.std.proofs.lemmas.List.{take-append-drop, length-set}
use Rattle.std.proofs.lemmas.List.Elements.{Contains-append_cases, Contains-append_left, Contains-append_right, All-weaker}
use Rattle.std.proofs.lemmas.Bool.{cases_eq}
use Rattle.field_rows.specs.declared.row.Entry.{Entry}
use Rattle.std.proofs.Common.{Result, Ok, Err}
use Rattle.std.specs.Result.{OnOk}
use Rattle.tableau.specs.Layout.{IsGrown, AreBelow}
use Rattle.tableau.specs.declared.exchange.Followed.{Followed}

-- what a list has, it has after an insertion
pub Contains-insert : {X : Type 0} (xs : List X) (i : ℕ) (y x : X) → Contains xs x → Contains (insert xs i y) x
Contains-insert xs i y x has =
    by_side (Contains-append_cases (take i xs) (drop i xs) x (subst (λ l. Contains l x) (sym (take-append-drop i xs)) has))
  where
    by_side : Contains (take i xs) x ⊎ Contains (drop i xs) x → Contains (insert xs i y) x
    by_side (inl left) = Contains-append_left (take i xs) (y ∷ drop i xs) x left
    by_side (inr right) =
        Contains-append_right (take i xs) (y ∷ drop i xs) x (Contains-append_right (y ∷ []) (drop i xs) x right)

-- the default at the end of a list changes no read
pub get_or-push_default : {X : Type 0} (xs : List X) (d : X) (k : ℕ) → get_or (xs ++ d ∷ []) k d ≡ get_or xs k d
get_or-push_default [] d zero = refl
get_or-push_default [] d (suc k) = refl
get_or-push_default (x ∷ xs) d zero = refl
get_or-push_default (x ∷ xs) d (suc k) = get_or-push_default xs d k

-- ---- growth

pub IsGrown-none : (users : List (List ℕ)) → IsGrown users users
IsGrown-none users = record { count = refl; kept = λ v b has. has }

pub IsGrown-more : (a b c : List (List ℕ)) → IsGrown a b → IsGrown b c → IsGrown a c
IsGrown-more a b c first second = record {
  count = second.count ∙ first.count;
  kept = λ v x has. second.kept v x (first.kept v x has);
}

-- one list has grown
pub IsGrown-at : (users : List (List ℕ)) (v : ℕ) (names : List ℕ) → v < length users → ((b : ℕ) → Contains (get_or users v []) b → Contains names b) → IsGrown users (set users v names)
IsGrown-at users v names inside kept = record {
  count = length-set users v names;
  kept = λ u b has. kept_at u b has (cases_eq u v);
}
  where
    kept_at : (u b : ℕ) → Contains (get_or users u []) b → (u ≡ v) ⊎ (u ≡ v → ⊥) → Contains (get_or (set users v names) u []) b
    kept_at u b has (inl here) =
        subst (λ l. Contains l b) (sym (ap (λ k. get_or (set users v names) k []) here ∙ get_or-set_same users v names [] inside)) (kept b (subst (λ k. Contains (get_or users k []) b) here has))
    kept_at u b has (inr apart) =
        subst (λ l. Contains l b) (sym (get_or-set_other users v u names [] apart)) has

pub AreBelow-at : (n : ℕ) (users : List (List ℕ)) (v : ℕ) (names : List ℕ) → v < length users → (All (λ b. b < n) (get_or users v []) → All (λ b. b < n) names) → AreBelow n users → AreBelow n (set users v names)
AreBelow-at n users v names inside within each u = by_place (cases_eq u v)
  where
    by_place : (u ≡ v) ⊎ (u ≡ v → ⊥) → All (λ b. b < n) (get_or (set users v names) u [])
    by_place (inl here) =
        subst (λ l. All (λ b. b < n) l) (sym (ap (λ k. get_or (set users v names) k []) here ∙ get_or-set_same users v names [] inside)) (within (each v))
    by_place (inr apart) = subst (λ l. All (λ b. b < n) l) (sym (get_or-set_other users v u names [] apart)) (each u)

-- a name at some entries' variables stays there
pub named_still : {F : Type 0} (old new : List (List ℕ)) (name : ℕ) (row : List (Entry F)) → IsGrown old new → All (λ e. Contains (get_or old e.variable []) name) row → All (λ e. Contains (get_or new e.variable []) name) row
named_still old new name row grown named =
    All-weaker (λ e. Contains (get_or old e.variable []) name) (λ e. Contains (get_or new e.variable []) name) (λ e has. grown.kept e.variable name has) row named

-- names at all of these entries' variables stay there
pub all_named_still : {F : Type 0} (old new : List (List ℕ)) (row : List (Entry F)) (fs : List (Followed F)) → IsGrown old new → All (λ f. All (λ e. Contains (get_or old e.variable []) f.variable) row) fs → All (λ f. All (λ e. Contains (get_or new e.variable []) f.variable) row) fs
all_named_still old new row fs grown named =
    All-weaker (λ f. All (λ e. Contains (get_or old e.variable []) f.variable) row) (λ f. All (λ e. Contains (get_or new e.variable []) f.variable) row) (λ f all. named_still old new f.variable row grown all) fs named

pub on_ok : {T E : Type 0} (r : Result T E) {P Q : Type 0} → (P → Q) → OnOk r P → OnOk r Q
on_ok (Ok x) f h = f h
on_ok (Err e) f h = h
