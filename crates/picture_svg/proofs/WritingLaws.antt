-- What loops that write texts keep.
use Rattle.std.specs.Result.{OnOk, is_ok}
use Rattle.std.specs.Bool.{if◌then◌else◌}
use Rattle.std.proofs.lemmas.Result.{on_ok_weaker}
use Rattle.std.proofs.Common.{Result, Ok, Err, add-one, ◌≡◌, ℕ, ◌+◌, ◌<◌, ◌≤◌, List, [], ◌∷◌, ◌++◌, length, get_or, drop, refl, sym, ap, ◌∙◌, append_assoc}
use Rattle.std.proofs.lemmas.List.{append-nil}
use Rattle.std.proofs.Math.Seq.{drop-cons}
use Rattle.std.proofs.Math.ListN.{drop_of_length-le}
use Rattle.text_lines.specs.Steps.{numbered}
use Rattle.picture_svg.specs.Shapes.{listed}

-- a piece was written, and the rest is left
goes_on : (old now new piece rest all : List ℕ) → now ++ (piece ++ rest) ≡ old ++ all → new ≡ now ++ piece → new ++ rest ≡ old ++ all
goes_on old now new piece rest all left wrote = ap (λ (x : List ℕ). x ++ rest) wrote ∙ append_assoc now piece rest ∙ left

is_done : (old now rest all : List ℕ) → now ++ rest ≡ old ++ all → rest ≡ [] → now ≡ old ++ all
is_done old now rest all left none = sym (append-nil now) ∙ ap (λ (x : List ℕ). now ++ x) (sym none) ∙ left

pub listed_goes_on : {X : Type 0} (item : X → List ℕ) (d : X) (xs : List X) (i : ℕ) (old now new all : List ℕ) → i < length xs
    → now ++ listed item (drop i xs) ≡ old ++ all → new ≡ now ++ item (get_or xs i d) → new ++ listed item (drop (i + 1) xs) ≡ old ++ all
unfolding listed
listed_goes_on item d xs i old now new all lt left wrote =
    let step : listed item (drop i xs) ≡ item (get_or xs i d) ++ listed item (drop (i + 1) xs) = rw (add-one, drop-cons xs i d) refl in
    goes_on old now new (item (get_or xs i d)) (listed item (drop (i + 1) xs)) all (ap (λ (x : List ℕ). now ++ x) (sym step) ∙ left) wrote

pub listed_is_done : {X : Type 0} (item : X → List ℕ) (xs : List X) (i : ℕ) (old now all : List ℕ) → length xs ≤ i → now ++ listed item (drop i xs) ≡ old ++ all → now ≡ old ++ all
unfolding listed
listed_is_done item xs i old now all le left = is_done old now (listed item (drop i xs)) all left (rw (drop_of_length-le xs le) refl)

pub numbered_goes_on : {X : Type 0} (lines : ℕ → X → List ℕ) (d : X) (xs : List X) (i m : ℕ) (old now new all : List ℕ) → i < length xs → m ≡ i + 1
    → now ++ numbered lines i (drop i xs) ≡ old ++ all → new ≡ now ++ lines i (get_or xs i d) → new ++ numbered lines m (drop (i + 1) xs) ≡ old ++ all
unfolding numbered
numbered_goes_on lines d xs i m old now new all lt next left wrote =
    let step : numbered lines i (drop i xs) ≡ lines i (get_or xs i d) ++ numbered lines m (drop (i + 1) xs) = rw (add-one, drop-cons xs i d, next) refl in
    goes_on old now new (lines i (get_or xs i d)) (numbered lines m (drop (i + 1) xs)) all (ap (λ (x : List ℕ). now ++ x) (sym step) ∙ left) wrote

pub numbered_is_done : {X : Type 0} (lines : ℕ → X → List ℕ) (xs : List X) (i : ℕ) (old now all : List ℕ) → length xs ≤ i → now ++ numbered lines i (drop i xs) ≡ old ++ all → now ≡ old ++ all
unfolding numbered
numbered_is_done lines xs i old now all le left = is_done old now (numbered lines i (drop i xs)) all left (rw (drop_of_length-le xs le) refl)

-- the same of an item that the code borrows
pub listed_item : {X : Type 0} (item : X → List ℕ) (x : X) (xs : List X) (i : ℕ) (old now new all : List ℕ) → i < length xs → x ≡ get_or xs i x
    → now ++ listed item (drop i xs) ≡ old ++ all → new ≡ now ++ item x → new ++ listed item (drop (i + 1) xs) ≡ old ++ all
listed_item {X} item x xs i old now new all lt is left wrote =
    listed_goes_on item x xs i old now new all lt left (wrote ∙ ap (λ (y : X). now ++ item y) is)

pub numbered_item : {X : Type 0} (lines : ℕ → X → List ℕ) (x : X) (xs : List X) (i m : ℕ) (old now new all : List ℕ) → i < length xs → x ≡ get_or xs i x
    → m ≡ i + 1 → now ++ numbered lines i (drop i xs) ≡ old ++ all → new ≡ now ++ lines i x → new ++ numbered lines m (drop (i + 1) xs) ≡ old ++ all
numbered_item {X} lines x xs i m old now new all lt is next left wrote =
    numbered_goes_on lines x xs i m old now new all lt next left (wrote ∙ ap (λ (y : X). now ++ lines i y) is)

-- ---- pieces that are written one after another

pub joins : (old a b w z : List ℕ) → w ≡ old ++ a → z ≡ w ++ b → z ≡ old ++ (a ++ b)
joins old a b w z first next = next ∙ ap (λ (x : List ℕ). x ++ b) first ∙ append_assoc old a b

pub ends_2 : {T E : Type 0} (r : Result T E) (old a b w z : List ℕ) → w ≡ old ++ a → OnOk r (z ≡ w ++ b) → OnOk r (z ≡ old ++ (a ++ b))
ends_2 r old a b w z first last = on_ok_weaker r (λ (next : z ≡ w ++ b). joins old a b w z first next) last

pub ends_3 : {T E : Type 0} (r : Result T E) (old a b c w x z : List ℕ) → w ≡ old ++ a → x ≡ w ++ b → OnOk r (z ≡ x ++ c)
    → OnOk r (z ≡ old ++ (a ++ (b ++ c)))
ends_3 r old a b c w x z first second last = ends_2 r old a (b ++ c) w z first (ends_2 r w b c x z second last)

pub ends_4 : {T E : Type 0} (r : Result T E) (old a b c d w x y z : List ℕ) → w ≡ old ++ a → x ≡ w ++ b → y ≡ x ++ c → OnOk r (z ≡ y ++ d)
    → OnOk r (z ≡ old ++ (a ++ (b ++ (c ++ d))))
ends_4 r old a b c d w x y z first second third last = ends_2 r old a (b ++ (c ++ d)) w z first (ends_3 r w b c d x y z second third last)

pub ends_5 : {T E : Type 0} (r : Result T E) (old a b c d e v w x y z : List ℕ) → v ≡ old ++ a → w ≡ v ++ b → x ≡ w ++ c → y ≡ x ++ d → OnOk r (z ≡ y ++ e)
    → OnOk r (z ≡ old ++ (a ++ (b ++ (c ++ (d ++ e)))))
ends_5 r old a b c d e v w x y z first second third fourth last =
    ends_2 r old a (b ++ (c ++ (d ++ e))) v z first (ends_4 r v b c d e w x y z second third fourth last)

-- what a push says of its result
pub pushed : {T E : Type 0} (r : Result T E) (w b z : List ℕ) → z ≡ (if is_ok r then w ++ b else w) → OnOk r (z ≡ w ++ b)
pushed (Ok x) w b z is = is
pushed (Err e) w b z is = tt
