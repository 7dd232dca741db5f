-- The loop that changes each element of a list in place.
use Rattle.std.proofs.Common.{◌≡◌, ℕ, ◌+◌, ◌<◌, List, [], ◌∷◌, ◌++◌, map, take, drop, length, slice_index_or, slice_set, sym, ◌∙◌, ap, arith, add-one, drop-cons, append_assoc}
use Rattle.std.proofs.Math.Seq.{set-append_seam, get_or-append_seam}
use Rattle.std.proofs.lemmas.List.{length-map, map-append, length-take-le, take_more}

-- the first i elements are changed, and the element at i comes next
pub changed_step : {X : Type 0} (q : X → X) (initial now : List X) (i : ℕ) (d v : X) → i < length initial → now ≡ map q (take i initial) ++ drop i initial → v ≡ q (slice_index_or now i d) → slice_set now i v ≡ map q (take (i + 1) initial) ++ drop (i + 1) initial
changed_step {X} q initial now i d v there e is =
    let t : X = slice_index_or initial i d in
    let done : List X = map q (take i initial) in
    let rest : List X = drop (i + 1) initial in
    let long : length done ≡ i = length-map (take i initial) q ∙ length-take-le i initial (omega arith) in
    let cut : drop i initial ≡ t ∷ rest = rw (add-one, drop-cons initial i d) in
    let parts : now ≡ done ++ t ∷ rest = e ∙ ap (λ xs. done ++ xs) cut in
    let read : slice_index_or now i d ≡ t =
    ap (λ xs. slice_index_or xs i d) parts ∙ ap (λ n. slice_index_or (done ++ t ∷ rest) n d) (sym long) ∙ get_or-append_seam done t rest d in
    let written : slice_set now i v ≡ done ++ v ∷ rest =
    ap (λ xs. slice_set xs i v) parts ∙ ap (λ n. slice_set (done ++ t ∷ rest) n v) (sym long) ∙ set-append_seam done t rest v in
    let more : map q (take (i + 1) initial) ≡ done ++ q t ∷ [] =
    ap (map q) (take_more initial i d there) ∙ map-append q (take i initial) (t ∷ []) in
    written ∙ ap (λ x. done ++ x ∷ rest) (is ∙ ap q read) ∙ sym (ap (λ xs. xs ++ rest) more ∙ append_assoc done (q t ∷ []) rest)
