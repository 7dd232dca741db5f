-- Where each entry of a shape stands, and that it stands nowhere else.
use Rattle.std.proofs.Common.{◌≡◌, ℕ, zero, suc, ◌+◌, ◌*◌, ◌-◌, ◌<◌, ◌≤◌, ◌⊎◌, inl, inr, Option, Some, None, List, [], ◌∷◌, ◌++◌, length, take, map, refl, sym, ◌∙◌, ap, subst, arith, length-append}
use Rattle.std.proofs.lemmas.Bool.{cases_lt, lt-ltb, lt-leb}
use Rattle.std.proofs.lemmas.Option.{slice_get-map}
use Rattle.std.proofs.lemmas.List.Concat.{flat_map-append}
use Rattle.std.proofs.lemmas.List.FromFn.{length-range_with_len, length-map-range_with_len}
use Rattle.std.specs.Prelude.{flat_map, slice_get, option_map, cond}
use Rattle.std.specs.List.{range_with_len}
use Rattle.run_rows.specs.Columns.{HasFlow, HasEntry, entries_before, entries_of, flow_entries, row_entries, rows_of}
use Rattle.run_rows.specs.Runs.{state_count}
use Rattle.run_rows.specs.declared.columns.Entry.{Entry}
use Rattle.run_rows.specs.declared.columns.Entry.TheVariants.{Credit, W, A, S, L, X}
use Rattle.run_rows.specs.declared.shapes.Shape.{Shape}
use Rattle.run_rows.proofs.Pieces.{length-flat_map_even, of_range_with_len, piece_of, range_with_len_more, slice_get-flat_map, slice_get-range_with_len, slice_get_right, take-range_with_len}

-- ---- how many entries there are

pub state_count_before : (s : Shape) (i : ℕ) → i < s.h → state_count s i ≡ 0
state_count_before s i h = ap (λ b. cond b 0 s.states) (lt-ltb i s.h h)

pub state_count_after : (s : Shape) (i : ℕ) → s.h ≤ i → state_count s i ≡ s.states
state_count_after s i h = ap (λ b. cond b 0 s.states) (lt-leb (suc i) s.h (omega arith))

length-flow_entries : (s : Shape) (i f : ℕ) → length (flow_entries s i f) ≡ 3 + state_count s i
length-flow_entries s i f = omega (arith, length-map-range_with_len (X i f) 0 (state_count s i))

-- flows of a row, from flow 1 on
length-flows : (s : Shape) (i n : ℕ) → length (flat_map (flow_entries s i) (range_with_len 1 n)) ≡ n * (3 + state_count s i)
length-flows s i n =
    length-flat_map_even (flow_entries s i) (3 + state_count s i) (range_with_len 1 n) (length-flow_entries s i)
    ∙ ap (λ k. k * (3 + state_count s i)) (length-range_with_len 1 n)

pub length-row_entries : (s : Shape) (i : ℕ) → length (row_entries s i) ≡ 1 + s.flows * (3 + state_count s i)
length-row_entries s i = omega (arith, length-flows s i s.flows)

-- one more row
pub length-entries_before-suc : (s : Shape) (i : ℕ) → length (entries_before s (suc i)) ≡ length (entries_before s i) + length (row_entries s i)
unfolding entries_before
length-entries_before-suc s i =
    let rows : List ℕ = range_with_len 0 i in
    let here : flat_map (row_entries s) ((0 + i) ∷ []) ≡ row_entries s i ++ [] = ap (λ k. row_entries s k ++ []) (let e : 0 + i ≡ i = omega arith in e) in
    let parted : flat_map (row_entries s) (range_with_len 0 (suc i)) ≡ flat_map (row_entries s) rows ++ (row_entries s i ++ []) =
    ap (flat_map (row_entries s)) (range_with_len_more 0 i) ∙ flat_map-append (row_entries s) rows ((0 + i) ∷ []) ∙ ap (λ xs. flat_map (row_entries s) rows ++ xs) here in
    omega (arith, ap length parted, length-append (flat_map (row_entries s) rows) (row_entries s i ++ []), length-append (row_entries s i) [])

-- a row takes a place for its waste and three for each flow, and from the opening row on places for the states
pub length-entries_before : (s : Shape) (i : ℕ) → length (entries_before s i) ≡ 1 + i * (1 + 3 * s.flows) + (i - s.h) * (s.flows * s.states)
unfolding entries_before
length-entries_before s zero = let none : zero - s.h ≡ 0 = omega arith in omega (arith, ap (λ n. n * (s.flows * s.states)) none)
length-entries_before s (suc i) = by (length-entries_before s i) (cases_lt i s.h)
  where
    by : length (entries_before s i) ≡ 1 + i * (1 + 3 * s.flows) + (i - s.h) * (s.flows * s.states) → (i < s.h) ⊎ (s.h ≤ i) → length (entries_before s (suc i)) ≡ 1 + suc i * (1 + 3 * s.flows) + (suc i - s.h) * (s.flows * s.states)
    by before (inl h) =
        let now : suc i - s.h ≡ i - s.h = omega arith in
        omega (arith, length-entries_before-suc s i, before, length-row_entries s i, ap (λ n. s.flows * n) (state_count_before s i h), ap (λ n. n * (s.flows * s.states)) now)
    by before (inr h) =
        let now : suc i - s.h ≡ (i - s.h) + 1 = omega arith in
        omega (arith, length-entries_before-suc s i, before, length-row_entries s i, ap (λ n. s.flows * n) (state_count_after s i h), ap (λ n. n * (s.flows * s.states)) now)

-- ---- each entry has its place

pub row_place : (s : Shape) (i j : ℕ) (e : Entry) → i < rows_of s → slice_get (row_entries s i) j ≡ Some e
    → slice_get (entries_of s) (length (entries_before s i) + j) ≡ Some e
unfolding entries_before
row_place s i j e h there =
    let rows : List ℕ = range_with_len 0 (rows_of s) in
    let before : flat_map (row_entries s) (take i rows) ≡ flat_map (row_entries s) (range_with_len 0 i) =
    ap (flat_map (row_entries s)) (take-range_with_len 0 (rows_of s) i (omega arith)) in
    let row : slice_get rows i ≡ Some i = slice_get-range_with_len 0 (rows_of s) i h ∙ ap Some (omega arith) in
    slice_get_right (Credit ∷ []) (flat_map (row_entries s) rows) _ (length (flat_map (row_entries s) (take i rows)) + j) (omega (arith, ap length before))
    ∙ slice_get-flat_map (row_entries s) rows i j i e row there

-- the places before a flow on its row
abbrev pub flow_offset : Shape → ℕ → ℕ → ℕ
flow_offset s i f = 1 + (f - 1) * (3 + state_count s i)

pub flow_place : (s : Shape) (i f j : ℕ) (e : Entry) → 1 ≤ f → f ≤ s.flows → slice_get (flow_entries s i f) j ≡ Some e
    → slice_get (row_entries s i) (flow_offset s i f + j) ≡ Some e
flow_place s i f j e from to there =
    let flows : List ℕ = range_with_len 1 s.flows in
    let before : length (flat_map (flow_entries s i) (take (f - 1) flows)) ≡ (f - 1) * (3 + state_count s i) =
    ap (λ xs. length (flat_map (flow_entries s i) xs)) (take-range_with_len 1 s.flows (f - 1) (omega arith)) ∙ length-flows s i (f - 1) in
    let flow : slice_get flows (f - 1) ≡ Some f = slice_get-range_with_len 1 s.flows (f - 1) (omega arith) ∙ ap Some (omega arith) in
    slice_get_right (W i ∷ []) (flat_map (flow_entries s i) flows) _ (length (flat_map (flow_entries s i) (take (f - 1) flows)) + j) (omega (arith, before))
    ∙ slice_get-flat_map (flow_entries s i) flows (f - 1) j f e flow there

-- a state, behind the three other entries of its flow
pub state_found : (s : Shape) (i f j : ℕ) → j < state_count s i → slice_get (flow_entries s i f) (3 + j) ≡ Some (X i f j)
state_found s i f j h =
    slice_get_right (A i f ∷ S i f ∷ L i f ∷ []) (map (X i f) (range_with_len 0 (state_count s i))) (3 + j) j refl
    ∙ slice_get-map (X i f) (range_with_len 0 (state_count s i)) j
    ∙ ap (option_map (X i f)) (slice_get-range_with_len 0 (state_count s i) j h ∙ ap Some (let e : 0 + j ≡ j = omega arith in e))

-- the place of the flow's first entry
abbrev pub flow_start : Shape → ℕ → ℕ → ℕ
flow_start s i f = length (entries_before s i) + flow_offset s i f

pub flow_found : (s : Shape) (i f j : ℕ) (e : Entry) → HasFlow s i f → slice_get (flow_entries s i f) j ≡ Some e
    → slice_get (entries_of s) (flow_start s i f + j) ≡ Some e
flow_found s i f j e stands there =
    ap (slice_get (entries_of s)) (let same : flow_start s i f + j ≡ length (entries_before s i) + (flow_offset s i f + j) = omega arith in same)
    ∙ row_place s i (flow_offset s i f + j) e stands.row_in (flow_place s i f j e stands.flow_from stands.flow_to there)

abbrev pub place_in : Shape → Entry → ℕ
place_in s Credit = 0
place_in s (W i) = length (entries_before s i)
place_in s (A i f) = flow_start s i f
place_in s (S i f) = flow_start s i f + 1
place_in s (L i f) = flow_start s i f + 2
place_in s (X i f j) = flow_start s i f + (3 + j)

-- ---- and no other

-- what stands in the list of a flow's entries
record IsItem (s : Shape) (i f k : ℕ) (e : Entry) : Type 0 where
  place : place_in s e ≡ flow_start s i f + k
  stands : HasFlow s i f → HasEntry s e

some_is : {A : Type 0} (x y : A) → Some x ≡ Some y → x ≡ y
some_is x y e = cc

item_is : (s : Shape) (i f k : ℕ) (e x : Entry) → Some x ≡ Some e → IsItem s i f k x → IsItem s i f k e
item_is s i f k e x same item = subst (IsItem s i f k) (some_is x e same) item

item_of : (s : Shape) (i f k : ℕ) (e : Entry) → slice_get (flow_entries s i f) k ≡ Some e → IsItem s i f k e
item_of s i f zero e there = item_is s i f 0 e (A i f) there (record { place = omega arith; stands = λ h. h })
item_of s i f (suc zero) e there = item_is s i f 1 e (S i f) there (record { place = refl; stands = λ h. h })
item_of s i f (suc (suc zero)) e there = item_is s i f 2 e (L i f) there (record { place = refl; stands = λ h. h })
item_of s i f (suc (suc (suc m))) e there = by (slice_get (range_with_len 0 (state_count s i)) m) refl
  where
    by : (o : Option ℕ) → slice_get (range_with_len 0 (state_count s i)) m ≡ o → IsItem s i f (suc (suc (suc m))) e
    by None none = absurd (let f = slice_get-map (X i f) (range_with_len 0 (state_count s i)) m in cc)
    by (Some j) some =
        let found : Some (X i f j) ≡ Some e = (ap (option_map (X i f)) (sym some) ∙ sym (slice_get-map (X i f) (range_with_len 0 (state_count s i)) m) ∙ there) in
        let known = of_range_with_len 0 (state_count s i) m j some in
        item_is s i f (suc (suc (suc m))) e (X i f j) found (record { place = omega (arith, known); stands = λ h. (h, omega (arith, known)) })

-- an entry stands at its place alone, and the shape has it
pub record IsLocated (s : Shape) (c : ℕ) (e : Entry) : Type 0 where
  pub place : c ≡ place_in s e
  pub stands : HasEntry s e

in_row : (s : Shape) (i j : ℕ) (e : Entry) → i < rows_of s → slice_get (row_entries s i) j ≡ Some e → IsLocated s (length (entries_before s i) + j) e
in_row s i zero e h there =
    subst (IsLocated s (length (entries_before s i) + 0)) (some_is (W i) e there) (record { place = omega arith; stands = h })
in_row s i (suc j) e h there =
    let piece = piece_of (flow_entries s i) (range_with_len 1 s.flows) j e there in
    let flow = of_range_with_len 1 s.flows piece.index piece.piece piece.is_piece in
    let item = item_of s i piece.piece piece.place e piece.is_there in
    let before : length (flat_map (flow_entries s i) (take piece.index (range_with_len 1 s.flows))) ≡ (piece.piece - 1) * (3 + state_count s i) =
    ap (λ xs. length (flat_map (flow_entries s i) xs)) (take-range_with_len 1 s.flows piece.index (omega (arith, flow)))
    ∙ length-flows s i piece.index
    ∙ ap (λ n. n * (3 + state_count s i)) (let e : piece.index ≡ piece.piece - 1 = omega (arith, flow) in e) in record {
      place = omega (arith, item.place, piece.column, before);
      stands = item.stands (record { row_in = h; flow_from = omega (arith, flow); flow_to = omega (arith, flow) });
    }

pub located : (s : Shape) (c : ℕ) (e : Entry) → slice_get (entries_of s) c ≡ Some e → IsLocated s c e
unfolding entries_before
located s zero e there = subst (IsLocated s 0) (some_is Credit e there) (record { place = refl; stands = tt })
located s (suc c) e there =
    let rows : List ℕ = range_with_len 0 (rows_of s) in
    let piece = piece_of (row_entries s) rows c e there in
    let row = of_range_with_len 0 (rows_of s) piece.index piece.piece piece.is_piece in
    let here = in_row s piece.piece piece.place e (omega (arith, row)) piece.is_there in
    let before : flat_map (row_entries s) (take piece.index rows) ≡ flat_map (row_entries s) (range_with_len 0 piece.piece) =
    ap (flat_map (row_entries s)) (take-range_with_len 0 (rows_of s) piece.index (omega (arith, row)) ∙ ap (range_with_len 0) (let e : piece.index ≡ piece.piece = omega (arith, row) in e)) in record {
      place = omega (arith, here.place, piece.column, ap length before);
      stands = here.stands;
    }
