-- What a test of the first token says.
use Rattle.std.proofs.Common.{◌≡◌, ℕ, Bool, true, false, cond, ◌⊎◌, inl, inr, Ok, Err, List, [], ◌∷◌, refl, ap}
use Rattle.std.proofs.lemmas.Slice.Eq.{bytes_eq-Decides}
use Rattle.source_text.specs.declared.lexemes.Sign.{Sign}
use Rattle.source_text.specs.declared.lexemes.Sign.TheVariants.{AtMost, Below, AtLeast, Above, Equal, Assign, Plus, Minus, Times, Open, Close, Dot, At}
use Rattle.source_text.specs.Tokens.{Token, word, number, sign, wrong, after}
use Rattle.condition_syntax.specs.Fronts.{same_sign, stands, says}

-- which way a test went
pub chosen : {X : Type 0} (b : Bool) (x y z : X) → cond b x y ≡ z → ((b ≡ true) × (x ≡ z)) ⊎ ((b ≡ false) × (y ≡ z))
chosen true x y z e = inl (refl, e)
chosen false x y z e = inr (refl, e)

-- a test that was passed
pub guard_ok : {X E : Type 0} (b : Bool) (x y : X) (d : E) → cond b (Ok x) (Err d) ≡ Ok y → (b ≡ true) × (x ≡ y)
guard_ok true x y d e = (refl, cc)
guard_ok false x y d e = absurd (cc)

pub same_sign_itself : (s : Sign) → same_sign s s ≡ true
same_sign_itself AtMost = refl
same_sign_itself Below = refl
same_sign_itself AtLeast = refl
same_sign_itself Above = refl
same_sign_itself Equal = refl
same_sign_itself Assign = refl
same_sign_itself Plus = refl
same_sign_itself Minus = refl
same_sign_itself Times = refl
same_sign_itself Open = refl
same_sign_itself Close = refl
same_sign_itself Dot = refl
same_sign_itself At = refl

pub same_sign_is : (s t : Sign) → same_sign s t ≡ true → t ≡ s
same_sign_is AtMost AtMost e = refl
same_sign_is Below Below e = refl
same_sign_is AtLeast AtLeast e = refl
same_sign_is Above Above e = refl
same_sign_is Equal Equal e = refl
same_sign_is Assign Assign e = refl
same_sign_is Plus Plus e = refl
same_sign_is Minus Minus e = refl
same_sign_is Times Times e = refl
same_sign_is Open Open e = refl
same_sign_is Close Close e = refl
same_sign_is Dot Dot e = refl
same_sign_is At At e = refl
same_sign_is _ _ e = absurd (cc)

pub stands_is : (s : Sign) (tokens : List Token) → stands s tokens ≡ true → tokens ≡ sign s ∷ after tokens
unfolding stands
stands_is s [] e = absurd (cc)
stands_is s (word w ∷ tokens) e = absurd (cc)
stands_is s (number n d ∷ tokens) e = absurd (cc)
stands_is s (sign t ∷ tokens) e = ap (λ (u : Sign). sign u ∷ tokens) (same_sign_is s t e)
stands_is s (wrong ∷ tokens) e = absurd (cc)

pub stands_there : (s : Sign) (tokens : List Token) → stands s (sign s ∷ tokens) ≡ true
unfolding stands
stands_there s tokens = same_sign_itself s

pub says_is : (w : List ℕ) (tokens : List Token) → says w tokens ≡ true → tokens ≡ word w ∷ after tokens
unfolding says
says_is w [] e = absurd (cc)
says_is w (word v ∷ tokens) e = ap (λ (u : List ℕ). word u ∷ tokens) ((bytes_eq-Decides v w).0 e)
says_is w (number n d ∷ tokens) e = absurd (cc)
says_is w (sign t ∷ tokens) e = absurd (cc)
says_is w (wrong ∷ tokens) e = absurd (cc)

pub says_there : (w : List ℕ) (tokens : List Token) → says w (word w ∷ tokens) ≡ true
unfolding says
says_there w tokens = (bytes_eq-Decides w w).1 refl
