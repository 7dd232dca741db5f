-- The form of a first word.
use Rattle.std.proofs.Common.{◌≡◌, ◌∙◌, ◌&&◌, Bool, true, false, List, [], ◌∷◌, Option, Some, None, ap, sym, refl, subst, cond, drop, map, find, option_and_then, option_map}
use Rattle.std.specs.Prelude.{slice_get}
use Rattle.std.specs.List.{list_all}
use Rattle.std.specs.Str.{bytes_eq}
use Rattle.std.proofs.lemmas.Bool.{and_parts}
use Rattle.command_words.specs.Forms.{Entry, asked_by, asked_of, entry_of}
use Rattle.command_words.specs.Words.{Text}
use Rattle.command_words.specs.declared.forms.Form.{Form}

passes_on : {X : Type 0} (p : X → Bool) (b all : Bool) (y x : X) (rest : Option X) → (p y && all) ≡ true → cond b (Some y) rest ≡ Some x → (all ≡ true → rest ≡ Some x → p x ≡ true) → p x ≡ true
passes_on p true all y x rest every found more = let same : y ≡ x = cc in subst (λ z. p z ≡ true) same (and_parts _ _ every).0
passes_on p false all y x rest every found more = more (and_parts _ _ every).1 found

-- what is found in a list of which each passes, passes
found_passes : {X : Type 0} (p q : X → Bool) (xs : List X) (x : X) → list_all p xs ≡ true → find q xs ≡ Some x → p x ≡ true
found_passes p q [] x every found = absurd (cc)
found_passes p q (y ∷ xs) x every found = passes_on p (q y) (list_all p xs) y x (find q xs) every found (found_passes p q xs x)

-- ---- lists that are seen otherwise

module _ {X Y : Type 0} (see : X → Y) where
  all_seen : (p : Y → Bool) (xs : List X) → list_all p (map see xs) ≡ list_all (λ x. p (see x)) xs
  all_seen p [] = refl
  all_seen p (x ∷ xs) = ap (λ b. p (see x) && b) (all_seen p xs)

  seen_first : (b : Bool) (x : X) (rest : Option X) → cond b (Some (see x)) (option_map see rest) ≡ option_map see (cond b (Some x) rest)
  seen_first true x rest = refl
  seen_first false x rest = refl

  found_seen : (p : Y → Bool) (xs : List X) → find p (map see xs) ≡ option_map see (find (λ x. p (see x)) xs)
  found_seen p [] = refl
  found_seen p (x ∷ xs) = ap (λ o. cond (p (see x)) (Some (see x)) o) (found_seen p xs) ∙ seen_first (p (see x)) x (find (λ y. p (see y)) xs)

-- ---- the table

-- a form that is found in a table is one of its entries
pub form_passes : (p : Entry → Bool) (forms : List Form) (form : Form) (name : Text) → list_all p (map entry_of forms) ≡ true → find (λ f. bytes_eq f.word.now name) forms ≡ Some form
    → p (entry_of form) ≡ true
form_passes p forms form name every found =
    found_passes (λ f. p (entry_of f)) (λ f. bytes_eq f.word.now name) forms form (sym (all_seen entry_of p forms) ∙ every) found

-- what is found in a table for the first word is found among its entries
first_found : {W : Type 0} (bytes_of : W → Text) (forms : List Form) (found : Option Form) (words : List W) (word : W) (name : Text) → name ≡ bytes_of word → Some word ≡ slice_get words 0
    → found ≡ find (λ f. bytes_eq f.word.now name) forms
    → option_and_then (λ (e : Entry). asked_by e (drop 1 (map bytes_of words))) (option_map entry_of found) ≡ asked_of (map entry_of forms) (map bytes_of words)
first_found bytes_of forms found [] word name is first finds = absurd (cc)
first_found bytes_of forms found (x ∷ words) word name is first finds =
    let same : word ≡ x = cc in
    ap (option_and_then (λ (e : Entry). asked_by e (map bytes_of words)))
    (ap (option_map entry_of) (finds ∙ ap (λ (n : Text). find (λ f. bytes_eq f.word.now n) forms) (is ∙ ap bytes_of same)) ∙ sym (found_seen entry_of (λ e. bytes_eq e.word (bytes_of x)) forms))

-- the words ask for what the entry of the first makes of the others
pub first_word : {W : Type 0} (bytes_of : W → Text) (forms : List Form) (form : Form) (words : List W) (word : W) (name : Text) → name ≡ bytes_of word → Some word ≡ slice_get words 0
    → Some form ≡ find (λ f. bytes_eq f.word.now name) forms → asked_by (entry_of form) (drop 1 (map bytes_of words)) ≡ asked_of (map entry_of forms) (map bytes_of words)
first_word bytes_of forms form words word name is first found = first_found bytes_of forms (Some form) words word name is first found

-- the first is no word of the table
pub first_unknown : {W : Type 0} (bytes_of : W → Text) (forms : List Form) (words : List W) (word : W) (name : Text) → name ≡ bytes_of word → Some word ≡ slice_get words 0
    → None ≡ find (λ f. bytes_eq f.word.now name) forms → None ≡ asked_of (map entry_of forms) (map bytes_of words)
first_unknown bytes_of forms words word name is first found = first_found bytes_of forms None words word name is first found
