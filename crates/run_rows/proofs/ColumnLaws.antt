-- What callers need of columns: each entry of the shape has one of its own, and the value there is the entry's.
use Rattle.std.proofs.Common.{◌≡◌, ℕ, zero, suc, ◌+◌, Bool, true, false, ◌&&◌, pos, Some, List, [], ◌∷◌, refl, sym, ◌∙◌, ap, arith}
use Rattle.std.proofs.lemmas.Bool.{eq-eqb, eqb-true}
use Rattle.std.specs.Prelude.{◌==◌, cond, not, slice_get}
use Rattle.std.specs.List.{position_or_len}
use Rattle.std.specs.Option.{option_map_or}
use Rattle.run_rows.specs.Columns.{HasEntry, column_of, entries_before, entries_of, same_entry, value_at, value_of}
use Rattle.run_rows.specs.declared.columns.Entry.{Entry}
use Rattle.run_rows.specs.declared.columns.Entry.TheVariants.{Credit, W, A, S, L, X}
use Rattle.run_rows.specs.declared.rows.Run.{Run}
use Rattle.run_rows.specs.declared.shapes.Shape.{Shape}
use Rattle.run_rows.proofs.EntryPlaces.{flow_found, located, place_in, row_place, state_found}
use Rattle.run_rows.proofs.Pieces.{slice_get_right}

-- ---- the test of entries

eqb_same : (n : ℕ) → (n == n) ≡ true
eqb_same n = eq-eqb n n refl

and_parts : (a b : Bool) → (a && b) ≡ true → (a ≡ true) × (b ≡ true)
and_parts true b e = (refl, e)
and_parts false b e = absurd (cc)

two_same : (i k f g : ℕ) → (i == k && f == g) ≡ true → (i ≡ k) × (f ≡ g)
two_same i k f g e = let parts = and_parts (i == k) (f == g) e in (eqb-true i k parts.0, eqb-true f g parts.1)

same_entry_same : (e : Entry) → same_entry e e ≡ true
same_entry_same Credit = refl
same_entry_same (W i) = eqb_same i
same_entry_same (A i f) = simp eqb_same
same_entry_same (S i f) = simp eqb_same
same_entry_same (L i f) = simp eqb_same
same_entry_same (X i f j) = simp eqb_same

same_entry_is : (e x : Entry) → same_entry e x ≡ true → e ≡ x
same_entry_is Credit Credit h = refl
same_entry_is (W i) (W k) h = ap W (eqb-true i k h)
same_entry_is (A i f) (A k g) h = let parts = two_same i k f g h in cc
same_entry_is (S i f) (S k g) h = let parts = two_same i k f g h in cc
same_entry_is (L i f) (L k g) h = let parts = two_same i k f g h in cc
same_entry_is (X i f j) (X k g m) h =
    let parts = and_parts (i == k && f == g) (j == m) h in
    let first = two_same i k f g parts.0 in
    let last = eqb-true j m parts.1 in cc
same_entry_is _ _ h = absurd (cc)

-- ---- the place that is found is the entry's

one_step : (e x : Entry) (xs : List Entry) (n : ℕ) (same : Bool) → same_entry e x ≡ same → (same ≡ false → slice_get xs n ≡ Some e)
    → slice_get (x ∷ xs) (cond (not same) (1 + n) 0) ≡ Some e
one_step e x xs n true is later = ap Some (sym (same_entry_is e x is))
one_step e x xs n false is later = slice_get_right (x ∷ []) xs (1 + n) n refl ∙ later refl

place_found : (e : Entry) (xs : List Entry) (c : ℕ) → slice_get xs c ≡ Some e → slice_get xs (position_or_len (same_entry e) xs) ≡ Some e
place_found e [] c there = absurd (cc)
place_found e (x ∷ xs) zero there =
    one_step e x xs (position_or_len (same_entry e) xs) (same_entry e x) refl
    (λ differs. absurd (let same : x ≡ e = cc in let yes = ap (same_entry e) same ∙ same_entry_same e in cc))
place_found e (x ∷ xs) (suc c) there =
    one_step e x xs (position_or_len (same_entry e) xs) (same_entry e x) refl (λ differs. place_found e xs c there)

-- an entry stands in its column and in no other
pub column_of_is : (s : Shape) (c : ℕ) (e : Entry) → slice_get (entries_of s) c ≡ Some e → column_of s e ≡ c
unfolding column_of
column_of_is s c e there =
    (located s (column_of s e) e (place_found e (entries_of s) c there)).place ∙ sym (located s c e there).place

pub one_column : (s : Shape) (c k : ℕ) (e : Entry) → slice_get (entries_of s) c ≡ Some e → slice_get (entries_of s) k ≡ Some e → c ≡ k
one_column s c k e one two = sym (column_of_is s c e one) ∙ column_of_is s k e two

plus_none : (n : ℕ) → n ≡ n + 0
plus_none n = omega arith

-- what the shape has is listed
pub listed_in_place : (s : Shape) (e : Entry) → HasEntry s e → slice_get (entries_of s) (place_in s e) ≡ Some e
unfolding entries_before
listed_in_place s Credit stands = refl
listed_in_place s (W i) stands = ap (slice_get (entries_of s)) (plus_none _) ∙ row_place s i 0 (W i) stands refl
listed_in_place s (A i f) stands = ap (slice_get (entries_of s)) (plus_none _) ∙ flow_found s i f 0 (A i f) stands refl
listed_in_place s (S i f) stands = flow_found s i f 1 (S i f) stands refl
listed_in_place s (L i f) stands = flow_found s i f 2 (L i f) stands refl
listed_in_place s (X i f j) stands = flow_found s i f (3 + j) (X i f j) stands.0 (state_found s i f j stands.1)

pub listed : (s : Shape) (e : Entry) → HasEntry s e → slice_get (entries_of s) (column_of s e) ≡ Some e
listed s e stands =
    let there = listed_in_place s e stands in ap (slice_get (entries_of s)) (column_of_is s (place_in s e) e there) ∙ there

-- different entries of the shape have different columns
pub same_from_column_of : (s : Shape) (e x : Entry) → HasEntry s e → HasEntry s x → column_of s e ≡ column_of s x → e ≡ x
same_from_column_of s e x one two same =
    let first = listed s e one in
    let second = listed s x two in
    let moved = ap (slice_get (entries_of s)) same in cc

-- ---- values

pub value_at_is : (s : Shape) (r : Run) (c : ℕ) (e : Entry) → slice_get (entries_of s) c ≡ Some e → value_at s r c ≡ value_of r e
unfolding value_at
value_at_is s r c e there = ap (λ o. option_map_or (value_of r) o (pos 0)) there

pub value_at-column_of : (s : Shape) (r : Run) (e : Entry) → HasEntry s e → value_at s r (column_of s e) ≡ value_of r e
value_at-column_of s r e stands = value_at_is s r (column_of s e) e (listed s e stands)
