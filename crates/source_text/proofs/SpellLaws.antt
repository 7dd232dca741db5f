-- What spells a token, by its first byte; and that the same bytes spell one token.
use Rattle.std.proofs.Common.{◌≡◌, ℕ, Bool, true, false, cond, eqb, List, [], ◌∷◌, ◌++◌, take, drop, Option, Some, None, refl, sym, ap, subst, ◌∙◌, arith}
use Rattle.std.specs.Char.{is_ascii_digit, is_ascii_alphabetic}
use Rattle.std.specs.List.{prefix_len, list_all}
use Rattle.std.proofs.lemmas.Bool.{eqb-true}
use Rattle.std.proofs.lemmas.List.{append-nil}
use Rattle.std.proofs.lemmas.Grind.{common_steps}
use Rattle.text_lines.specs.Numbers.{all_digits, value}
use Rattle.source_text.specs.declared.lexemes.Sign.{Sign}
use Rattle.source_text.specs.declared.lexemes.Sign.TheVariants.{AtMost, Below, AtLeast, Above, Equal, Assign, Plus, Minus, Times, Open, Close, Dot, At}
use Rattle.source_text.specs.Tokens.{Token, word, number, sign, wrong}
use Rattle.source_text.specs.Signs.{sign_text, sign_of, with_equals}
use Rattle.source_text.specs.Cutting.{saturated}
use Rattle.source_text.specs.Bytes.{is_blank, is_word_byte}
use Rattle.source_text.specs.Spelling.{is_word, is_number, Spells}
use Rattle.source_text.proofs.ByteLaws.{both_true, front_is, behind_is}

-- ---- signs

-- a sign is one byte, or the `=` behind another sign
pub data SignShape : Sign → Type 0 where
  one_byte : {s : Sign} (b : ℕ) → sign_text s ≡ b ∷ [] → sign_of b ≡ Some s → SignShape s
  two_bytes : {s : Sign} (b : ℕ) (base : Sign) → sign_text s ≡ b ∷ 61 ∷ [] → sign_of b ≡ Some base → with_equals base ≡ Some s → SignShape s

pub sign_shape : (s : Sign) → SignShape s
unfolding sign_of
sign_shape AtMost = two_bytes 60 Below refl refl refl
sign_shape Below = one_byte 60 refl refl
sign_shape AtLeast = two_bytes 62 Above refl refl refl
sign_shape Above = one_byte 62 refl refl
sign_shape Equal = two_bytes 61 Assign refl refl refl
sign_shape Assign = one_byte 61 refl refl
sign_shape Plus = one_byte 43 refl refl
sign_shape Minus = one_byte 45 refl refl
sign_shape Times = one_byte 42 refl refl
sign_shape Open = one_byte 40 refl refl
sign_shape Close = one_byte 41 refl refl
sign_shape Dot = one_byte 46 refl refl
sign_shape At = one_byte 64 refl refl

-- what a byte that is a sign isn't
pub record IsSignByte (b : ℕ) : Type 0 where
  pub no_letter : is_ascii_alphabetic b ≡ false
  pub no_digit : is_ascii_digit b ≡ false
  pub no_blank : is_blank b ≡ false

pub some_is : {X : Type 0} {x y : X} → Some x ≡ Some y → x ≡ y
some_is e = cc

pub none_is : {X : Type 0} {x : X} → ◌≡◌ {A = Option X} None (Some x) → ⊥
none_is e = cc

abbrev IsOneByte : ℕ → Sign → Type 0
IsOneByte b s = (sign_text s ≡ b ∷ []) × IsSignByte b

apart : (b : ℕ) → is_ascii_alphabetic b ≡ false → is_ascii_digit b ≡ false → is_blank b ≡ false → IsSignByte b
apart b p q r = record { no_letter = p; no_digit = q; no_blank = r }

by_byte : (b k : ℕ) (this s : Sign) (others : Option Sign) → IsOneByte k this → (others ≡ Some s → IsOneByte b s) → cond (eqb b k) (Some this) others ≡ Some s → IsOneByte b s
by_byte b k this s others at_k otherwise e = by_test (eqb b k) refl e
  where
    by_test : (t : Bool) → eqb b k ≡ t → cond t (Some this) others ≡ Some s → IsOneByte b s
    by_test true same is =
        let family : ℕ × Sign → Type 0 = λ x. IsOneByte x.0 x.1 in
        subst family (ap (λ n. (n, this)) (sym (eqb-true b k same)) ∙ ap (λ (x : Sign). (b, x)) (some_is is)) at_k
    by_test false other is = otherwise is

pub sign_byte : (b : ℕ) (s : Sign) → sign_of b ≡ Some s → (sign_text s ≡ b ∷ []) × IsSignByte b
unfolding sign_of
sign_byte b s e =
    by_byte b 60 Below s _ (refl, apart 60 refl refl refl)
    (by_byte b 62 Above s _ (refl, apart 62 refl refl refl)
    (by_byte b 61 Assign s _ (refl, apart 61 refl refl refl)
    (by_byte b 43 Plus s _ (refl, apart 43 refl refl refl)
    (by_byte b 45 Minus s _ (refl, apart 45 refl refl refl)
    (by_byte b 42 Times s _ (refl, apart 42 refl refl refl)
    (by_byte b 40 Open s _ (refl, apart 40 refl refl refl)
    (by_byte b 41 Close s _ (refl, apart 41 refl refl refl)
    (by_byte b 46 Dot s _ (refl, apart 46 refl refl refl)
    (by_byte b 64 At s _ (refl, apart 64 refl refl refl) (λ none. absurd (none_is none)))))))))))
    e

-- the sign with a `=` behind it
pub longer_text : (one both : Sign) (b : ℕ) → sign_text one ≡ b ∷ [] → with_equals one ≡ Some both → sign_text both ≡ b ∷ 61 ∷ []
longer_text Below both b p e = ap sign_text (sym (some_is e)) ∙ ap (λ (bs : List ℕ). bs ++ (61 ∷ [])) p
longer_text Above both b p e = ap sign_text (sym (some_is e)) ∙ ap (λ (bs : List ℕ). bs ++ (61 ∷ [])) p
longer_text Assign both b p e = ap sign_text (sym (some_is e)) ∙ ap (λ (bs : List ℕ). bs ++ (61 ∷ [])) p
longer_text AtMost both b p e = absurd (none_is e)
longer_text AtLeast both b p e = absurd (none_is e)
longer_text Equal both b p e = absurd (none_is e)
longer_text Plus both b p e = absurd (none_is e)
longer_text Minus both b p e = absurd (none_is e)
longer_text Times both b p e = absurd (none_is e)
longer_text Open both b p e = absurd (none_is e)
longer_text Close both b p e = absurd (none_is e)
longer_text Dot both b p e = absurd (none_is e)
longer_text At both b p e = absurd (none_is e)

-- ---- the first byte tells the kind

pub data Begins : ℕ → Token → Type 0 where
  letter : {b : ℕ} {w : List ℕ} → is_ascii_alphabetic b ≡ true → Begins b (word w)
  digit : {b n : ℕ} {d : Option ℕ} → is_ascii_digit b ≡ true → Begins b (number n d)
  mark : {b : ℕ} {s : Sign} (base : Sign) → sign_of b ≡ Some base → IsSignByte b → Begins b (sign s)

pub record HasFront (bytes : List ℕ) (token : Token) : Type 0 where
  pub first : ℕ
  pub others : List ℕ
  pub bytes_are : bytes ≡ first ∷ others
  pub kind : Begins first token

number_front : (n : ℕ) (d : Option ℕ) (digits more : List ℕ) → is_number digits ≡ true → HasFront (digits ++ more) (number n d)
number_front n d [] more is = absurd (cc)
number_front n d (b ∷ digits) more is =
    record { first = b; others = digits ++ more; bytes_are = refl; kind = digit (both_true (is_ascii_digit b) (all_digits digits) is).0 }

sign_front : (bytes : List ℕ) (s : Sign) → SignShape s → bytes ≡ sign_text s → HasFront bytes (sign s)
sign_front bytes s (one_byte b text is) e =
    record { first = b; others = []; bytes_are = e ∙ text; kind = mark s is (sign_byte b s is).1 }
sign_front bytes s (two_bytes b base text is longer) e =
    record { first = b; others = 61 ∷ []; bytes_are = e ∙ text; kind = mark base is (sign_byte b base is).1 }

pub spelled_front : (bytes : List ℕ) (token : Token) → Spells bytes token → HasFront bytes token
spelled_front [] (word w) spelled = absurd (no_word w spelled.0 spelled.1)
  where
    no_word : (v : List ℕ) → [] ≡ v → is_word v ≡ true → ⊥
    no_word [] e is = cc
    no_word (b ∷ bytes) e is = cc
spelled_front (b ∷ bytes) (word w) spelled =
    let is : is_word (b ∷ bytes) ≡ true = ap is_word spelled.0 ∙ spelled.1 in
    record { first = b; others = bytes; bytes_are = refl; kind = letter (both_true (is_ascii_alphabetic b) (list_all is_word_byte bytes) is).0 }
spelled_front bytes (number n None) spelled = subst (λ (bs : List ℕ). HasFront bs (number n None)) (append-nil bytes) (number_front n None bytes [] spelled.0)
spelled_front bytes (number n (Some d)) spelled =
    subst (λ (bs : List ℕ). HasFront bs (number n (Some d))) (sym spelled.1.1.0) (number_front n (Some d) spelled.0 (47 ∷ spelled.1.0) spelled.1.1.1.0)
spelled_front bytes (sign s) spelled = sign_front bytes s (sign_shape s) spelled
spelled_front bytes wrong spelled = absurd spelled

-- ---- bytes spell one token at most

pub cons_is : {b c : ℕ} {bs cs : List ℕ} → b ∷ bs ≡ c ∷ cs → (b ≡ c) × (bs ≡ cs)
cons_is e = (cc, cc)

pub nil_is : {b : ℕ} {bs : List ℕ} → ◌≡◌ {A = List ℕ} [] (b ∷ bs) → ⊥
nil_is e = cc

pub not_both : {b : Bool} → b ≡ true → b ≡ false → ⊥
not_both p q = cc

pub letter_no_digit : (b : ℕ) → is_ascii_alphabetic b ≡ true → is_ascii_digit b ≡ false
letter_no_digit b is = grind (arith, common_steps)

-- tokens of different kinds
abbrev pub AreOfOneKind : Token → Token → Type 0
AreOfOneKind (word w) (word v) = Unit {0}
AreOfOneKind (number n d) (number m e) = Unit {0}
AreOfOneKind (sign s) (sign t) = Unit {0}
AreOfOneKind s t = ⊥

pub one_kind : (b : ℕ) (s t : Token) → Begins b s → Begins b t → AreOfOneKind s t
one_kind b (word w) (word v) (letter p) (letter q) = tt
one_kind b (word w) (number n d) (letter p) (digit q) = absurd (not_both q (letter_no_digit b p))
one_kind b (word w) (sign s) (letter p) (mark base is q) = absurd (not_both p q.no_letter)
one_kind b (number n d) (word w) (digit p) (letter q) = absurd (not_both p (letter_no_digit b q))
one_kind b (number n d) (number m e) (digit p) (digit q) = tt
one_kind b (number n d) (sign s) (digit p) (mark base is q) = absurd (not_both p q.no_digit)
one_kind b (sign s) (word w) (mark base is p) (letter q) = absurd (not_both q p.no_letter)
one_kind b (sign s) (number n d) (mark base is p) (digit q) = absurd (not_both q p.no_digit)
one_kind b (sign s) (sign t) (mark base is p) (mark other was q) = tt
one_kind b (word w) wrong p q = elim q [ ]
one_kind b (number n d) wrong p q = elim q [ ]
one_kind b (sign s) wrong p q = elim q [ ]
one_kind b wrong t p q = elim p [ ]

-- fronts of the same bytes begin with the same byte
pub fronts_of_one_kind : (s t : Token) (front rest longer more : List ℕ) → front ++ rest ≡ longer ++ more → HasFront front s → HasFront longer t → AreOfOneKind s t
fronts_of_one_kind s t front rest longer more e p q =
    let same : p.first ∷ (p.others ++ rest) ≡ q.first ∷ (q.others ++ more) = sym (ap (λ (bs : List ℕ). bs ++ rest) p.bytes_are) ∙ e ∙ ap (λ (bs : List ℕ). bs ++ more) q.bytes_are in
    one_kind q.first s t (subst (λ b. Begins b s) (cons_is same).0 p.kind) q.kind

pub all_of_number : (digits : List ℕ) → is_number digits ≡ true → all_digits digits ≡ true
all_of_number [] is = absurd (cc)
all_of_number (b ∷ digits) is = is

slash_in_digits : (num den : List ℕ) → all_digits (num ++ (47 ∷ den)) ≡ true → ⊥
slash_in_digits [] den all = cc
slash_in_digits (b ∷ num) den all = slash_in_digits num den (both_true (is_ascii_digit b) (all_digits (num ++ (47 ∷ den))) all).1

-- what stands before and behind the slash
pub parts_are : (num den bytes : List ℕ) → all_digits num ≡ true → bytes ≡ num ++ (47 ∷ den)
    → (take (prefix_len is_ascii_digit bytes) bytes ≡ num) × (drop (prefix_len is_ascii_digit bytes) bytes ≡ 47 ∷ den)
parts_are num den bytes all e = (
  ap (λ (bs : List ℕ). take (prefix_len is_ascii_digit bs) bs) e ∙ front_is is_ascii_digit num (47 ∷ den) all refl,
  ap (λ (bs : List ℕ). drop (prefix_len is_ascii_digit bs) bs) e ∙ behind_is is_ascii_digit num (47 ∷ den) all refl,
)

same_text : (s t : Sign) → SignShape s → SignShape t → sign_text s ≡ sign_text t → s ≡ t
same_text s t (one_byte b p is) (one_byte c q was) e =
    let same = cons_is (sym p ∙ e ∙ q) in
    some_is (sym is ∙ ap sign_of same.0 ∙ was)
same_text s t (one_byte b p is) (two_bytes c base q was longer) e = absurd (nil_is (cons_is (sym p ∙ e ∙ q)).1)
same_text s t (two_bytes b base p is longer) (one_byte c q was) e = absurd (nil_is (sym (cons_is (sym p ∙ e ∙ q)).1))
same_text s t (two_bytes b base p is longer) (two_bytes c other q was more) e =
    let same = cons_is (sym p ∙ e ∙ q) in
    let bases : base ≡ other = some_is (sym is ∙ ap sign_of same.0 ∙ was) in
    some_is (sym longer ∙ ap with_equals bases ∙ more)

number_is : (n m d e : ℕ) → n ≡ m → d ≡ e → number n (Some d) ≡ number m (Some e)
number_is n m d e p q = cc

both_parts : (n m : ℕ) (d e : ℕ) (bytes : List ℕ) → Spells bytes (number n (Some d)) → Spells bytes (number m (Some e)) → number n (Some d) ≡ number m (Some e)
both_parts n m d e bytes p q =
    let first = parts_are p.0 p.1.0 bytes (all_of_number p.0 p.1.1.1.0) p.1.1.0 in
    let second = parts_are q.0 q.1.0 bytes (all_of_number q.0 q.1.1.1.0) q.1.1.0 in
    let nums : p.0 ≡ q.0 = sym first.0 ∙ second.0 in
    let dens : p.1.0 ≡ q.1.0 = (cons_is (sym first.1 ∙ second.1)).1 in
    number_is n m d e
    (sym p.1.1.1.1 ∙ ap (λ (ds : List ℕ). saturated (value ds)) nums ∙ q.1.1.1.1)
    (sym p.1.1.2.1 ∙ ap (λ (ds : List ℕ). saturated (value ds)) dens ∙ q.1.1.2.1)

of_one_kind : (bytes : List ℕ) (s t : Token) → AreOfOneKind s t → Spells bytes s → Spells bytes t → s ≡ t
of_one_kind bytes (word w) (word v) kind p q = ap word (sym p.0 ∙ q.0)
of_one_kind bytes (number n None) (number m None) kind p q = ap (λ k. number k None) (sym p.1 ∙ q.1)
of_one_kind bytes (number n None) (number m (Some e)) kind p q = absurd (slash_in_digits q.0 q.1.0 (ap all_digits (sym q.1.1.0) ∙ all_of_number bytes p.0))
of_one_kind bytes (number n (Some d)) (number m None) kind p q = absurd (slash_in_digits p.0 p.1.0 (ap all_digits (sym p.1.1.0) ∙ all_of_number bytes q.0))
of_one_kind bytes (number n (Some d)) (number m (Some e)) kind p q = both_parts n m d e bytes p q
of_one_kind bytes (sign s) (sign t) kind p q = ap sign (same_text s t (sign_shape s) (sign_shape t) (sym p ∙ q))
of_one_kind bytes s t kind p q = absurd kind

pub spells_one : (bytes : List ℕ) (s t : Token) → Spells bytes s → Spells bytes t → s ≡ t
spells_one bytes s t p q =
    of_one_kind bytes s t (fronts_of_one_kind s t bytes [] bytes [] refl (spelled_front bytes s p) (spelled_front bytes t q)) p q
