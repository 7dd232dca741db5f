-- The tokens of a line are those that it is cut into, and no others.
use Rattle.std.proofs.Common.{◌≡◌, ℕ, zero, suc, ◌+◌, ◌<◌, ◌≤◌, true, false, List, [], ◌∷◌, ◌++◌, length, take, drop, Some, inl, inr, ⊎_elim, refl, sym, ap, subst, ◌∙◌, arith}
use Rattle.std.specs.List.{prefix_len}
use Rattle.std.proofs.Math.Seq.{take-append_seam, drop-append_seam}
use Rattle.std.proofs.lemmas.List.{append-nil, take-append-drop, length-append}
use Rattle.std.proofs.lemmas.Grind.{common_steps}
use Rattle.source_text.specs.Tokens.{Token, word, number, sign, wrong}
use Rattle.source_text.specs.Cutting.{Cut, first_cut, tokens_by, tokens}
use Rattle.source_text.specs.Bytes.{is_blank, begins_with, behind_blanks}
use Rattle.source_text.specs.Spelling.{Spells, IsFirst, BeginsNone, are_blank, IsCutInto, ends, stops, goes_on}
use Rattle.source_text.proofs.ByteLaws.{front_passes, behind_is, behind_stops}
use Rattle.source_text.proofs.SpellLaws.{Begins, letter, digit, mark, spelled_front, spells_one}
use Rattle.source_text.proofs.LongestLaws.{IsRight, first_right}
use Rattle.source_text.proofs.TokenLaws.{blanks_le, tokens_is, tokens_of_nothing}

-- ---- one first token at most

same_fronts : (front rest longer more : List ℕ) → length front ≡ length longer → front ++ rest ≡ longer ++ more → (front ≡ longer) × (rest ≡ more)
same_fronts front rest longer more size e = (
  sym (take-append_seam front rest) ∙ ap (λ (n : ℕ). take n (front ++ rest)) size ∙ ap (take (length longer)) e ∙ take-append_seam longer more,
  sym (drop-append_seam front rest) ∙ ap (λ (n : ℕ). drop n (front ++ rest)) size ∙ ap (drop (length longer)) e ∙ drop-append_seam longer more,
)

pub one_first : (bytes : List ℕ) (s t : Token) (rest more : List ℕ) → IsFirst bytes s rest → IsFirst bytes t more → (s ≡ t) × (rest ≡ more)
one_first bytes s t rest more p q =
    let size : length p.front ≡ length q.front = omega (arith, p.longest q.front more t q.begins q.spelled, q.longest p.front rest s p.begins p.spelled) in
    let same = same_fronts p.front rest q.front more size (sym p.begins ∙ q.begins) in
    (spells_one q.front s t (subst (λ (bs : List ℕ). Spells bs s) same.0 p.spelled) q.spelled, same.1)

same_cut : (s t : Token) (rest more : List ℕ) → s ≡ t → rest ≡ more → ◌≡◌ {A = Cut} (s, rest) (t, more)
same_cut s t rest more p q = cc

first_again : (b : ℕ) (bytes : List ℕ) (t : Token) (behind : List ℕ) → IsFirst (b ∷ bytes) t behind → first_cut (b ∷ bytes) ≡ Some (t, behind)
first_again b bytes t behind is =
    let right = first_right b bytes in
    right.1.0 ∙ ⊎_elim
    (λ first. let same = one_first (b ∷ bytes) right.0.0 t right.0.1 behind first is in ap (λ (c : Cut). Some c) (same_cut right.0.0 t right.0.1 behind same.0 same.1))
    (λ none. absurd (none.1 is.front behind t is.begins is.spelled))
    right.1.1

none_again : (b : ℕ) (bytes : List ℕ) → BeginsNone (b ∷ bytes) → first_cut (b ∷ bytes) ≡ Some (wrong, [])
none_again b bytes is =
    let right = first_right b bytes in
    right.1.0 ∙ ⊎_elim (λ first. absurd (is first.front right.0.1 right.0.0 first.begins first.spelled)) (λ none. ap (λ (c : Cut). Some c) none.0) right.1.1

-- ---- blanks in front

pub behind_these_blanks : (blanks bytes : List ℕ) → are_blank blanks ≡ true → begins_with is_blank bytes ≡ false → behind_blanks (blanks ++ bytes) ≡ bytes
unfolding behind_blanks
behind_these_blanks blanks bytes are apart = behind_is is_blank blanks bytes are apart

-- a token begins with no blank
pub no_blank : (b : ℕ) (t : Token) → Begins b t → is_blank b ≡ false
no_blank b (word w) (letter is) = grind (arith, common_steps)
no_blank b (number n d) (digit is) = grind (arith, common_steps)
no_blank b (sign s) (mark base is apart) = apart.no_blank
no_blank b wrong kind = elim kind [ ]

pub record Blanks (bytes : List ℕ) : Type 0 where
  pub blanks : List ℕ
  pub are : are_blank blanks ≡ true
  pub whole : bytes ≡ blanks ++ behind_blanks bytes
  pub not_blank : begins_with is_blank (behind_blanks bytes) ≡ false

pub blanks_of : (bytes : List ℕ) → Blanks bytes
unfolding behind_blanks
blanks_of bytes =
    record {
      blanks = take (prefix_len is_blank bytes) bytes;
      are = front_passes is_blank bytes;
      whole = sym (take-append-drop (prefix_len is_blank bytes) bytes);
      not_blank = behind_stops is_blank bytes;
    }

-- ---- the tokens

tokens_then : (bytes : List ℕ) (cut : Cut) (more : List ℕ) → behind_blanks bytes ≡ more → first_cut more ≡ Some cut → tokens bytes ≡ cut.0 ∷ tokens cut.1
tokens_then bytes cut more behind first = tokens_is bytes ∙ ap (λ (bs : List ℕ). tokens_by tokens (first_cut bs)) behind ∙ ap (tokens_by tokens) first

pub tokens_of_blanks : (bytes : List ℕ) → behind_blanks bytes ≡ [] → tokens bytes ≡ []
unfolding first_cut
tokens_of_blanks bytes behind = tokens_is bytes ∙ ap (λ (bs : List ℕ). tokens_by tokens (first_cut bs)) behind

-- a token, the first behind blanks
pub tokens_behind : (blanks more behind : List ℕ) (t : Token) → are_blank blanks ≡ true → IsFirst more t behind → tokens (blanks ++ more) ≡ t ∷ tokens behind
tokens_behind blanks more behind t are is =
    let front = spelled_front is.front t is.spelled in
    let bytes_are : more ≡ front.first ∷ (front.others ++ behind) = is.begins ∙ ap (λ (bs : List ℕ). bs ++ behind) front.bytes_are in
    let first : first_cut more ≡ Some (t, behind) =
    ap first_cut bytes_are ∙ first_again front.first (front.others ++ behind) t behind (subst (λ (bs : List ℕ). IsFirst bs t behind) bytes_are is) in
    let not_blank : begins_with is_blank more ≡ false = ap (begins_with is_blank) bytes_are ∙ no_blank front.first t front.kind in
    tokens_then (blanks ++ more) (t, behind) more (behind_these_blanks blanks more are not_blank) first

-- what a line is cut into are its tokens
pub tokens_again : (bytes : List ℕ) (ts : List Token) → IsCutInto bytes ts → ts ≡ tokens bytes
tokens_again bytes [] (ends are) =
    sym (tokens_of_blanks bytes (ap behind_blanks (sym (append-nil bytes)) ∙ behind_these_blanks bytes [] are refl))
tokens_again bytes ts (stops blanks b rest whole are not_blank none) =
    sym (tokens_then bytes (wrong, []) (b ∷ rest) (ap behind_blanks whole ∙ behind_these_blanks blanks (b ∷ rest) are not_blank) (none_again b rest none)
    ∙ ap (λ (others : List Token). wrong ∷ others) tokens_of_nothing)
tokens_again bytes ts (goes_on {token = t} {tokens = others} blanks more behind whole are first cut) =
    ap (λ (ts : List Token). t ∷ ts) (tokens_again behind others cut) ∙ sym (ap tokens whole ∙ tokens_behind blanks more behind t are first)

-- a line is cut into one list of tokens
pub one_cut : (bytes : List ℕ) (ts us : List Token) → IsCutInto bytes ts → IsCutInto bytes us → ts ≡ us
one_cut bytes ts us p q = tokens_again bytes ts p ∙ sym (tokens_again bytes us q)

-- what is behind a token is shorter
behind_lt : (bytes behind : List ℕ) (t : Token) → IsFirst bytes t behind → length behind < length bytes
behind_lt bytes behind t is =
    let front = spelled_front is.front t is.spelled in
    let size : length bytes ≡ length is.front + length behind = ap length is.begins ∙ length-append is.front behind in
    let front_size : length is.front ≡ suc (length front.others) = ap length front.bytes_are in
    omega arith

cut_by : (bytes more : List ℕ) → behind_blanks bytes ≡ more → begins_with is_blank more ≡ false → ((bs : List ℕ) → length bs < length more → IsCutInto bs (tokens bs)) → IsCutInto bytes (tokens bytes)
cut_by bytes [] behind apart others =
    let front = blanks_of bytes in
    let alone : bytes ≡ front.blanks = front.whole ∙ ap (λ (bs : List ℕ). front.blanks ++ bs) behind ∙ append-nil front.blanks in
    subst (λ (ts : List Token). IsCutInto bytes ts) (sym (tokens_of_blanks bytes behind)) (ends (ap are_blank alone ∙ front.are))
cut_by bytes (b ∷ rest) behind apart others = by_cut (first_right b rest)
  where
    front : Blanks bytes
    front = blanks_of bytes

    whole : bytes ≡ front.blanks ++ (b ∷ rest)
    whole = front.whole ∙ ap (λ (bs : List ℕ). front.blanks ++ bs) behind

    by_cut : (cut : Cut) × ((first_cut (b ∷ rest) ≡ Some cut) × IsRight (b ∷ rest) cut) → IsCutInto bytes (tokens bytes)
    by_cut (cut, (is, inl first)) =
        subst (λ (ts : List Token). IsCutInto bytes ts) (sym (tokens_then bytes cut (b ∷ rest) behind is))
        (goes_on front.blanks (b ∷ rest) cut.1 whole front.are first (others cut.1 (behind_lt (b ∷ rest) cut.1 cut.0 first)))
    by_cut (cut, (is, inr none)) =
        let wrong_is : tokens bytes ≡ wrong ∷ [] =
        tokens_then bytes (wrong, []) (b ∷ rest) behind (is ∙ ap (λ (c : Cut). Some c) none.0) ∙ ap (λ (ts : List Token). wrong ∷ ts) tokens_of_nothing in
        subst (λ (ts : List Token). IsCutInto bytes ts) (sym wrong_is) (stops front.blanks b rest whole front.are apart none.1)

cut_within : (most : ℕ) (bytes : List ℕ) → length bytes ≤ most → IsCutInto bytes (tokens bytes)
cut_within zero bytes short =
    cut_by bytes (behind_blanks bytes) refl (blanks_of bytes).not_blank (λ bs lt. absurd (omega (arith, blanks_le bytes)))
cut_within (suc most) bytes short =
    cut_by bytes (behind_blanks bytes) refl (blanks_of bytes).not_blank (λ bs lt. cut_within most bs (omega (arith, blanks_le bytes)))

-- a line is cut into its tokens
pub tokens_cut : (bytes : List ℕ) → IsCutInto bytes (tokens bytes)
tokens_cut bytes = cut_within (length bytes) bytes (omega arith)
