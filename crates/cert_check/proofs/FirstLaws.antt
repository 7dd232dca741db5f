-- The first event of an ordered list at which something is found.
use Rattle.std.proofs.Common.{◌≡◌, ◌≢◌, ◌↔◌, ℕ, suc, List, [], ◌∷◌, ◌++◌, refl, sym, ◌∙◌, ap, subst}
use Rattle.cert_check.specs.declared.found.Found.{Found}
use Rattle.cert_check.specs.declared.found.Found.TheVariants.{Sound, Breaks, Overflows}
use Rattle.cert_check.specs.Causes.{Event, numbered}
use Rattle.cert_check.specs.Verdicts.{Verdict, proved, fails, wide, verdict_at, first_of, EachFound, IsSound, IsFirst}

-- what is found at each place is so
abbrev pub Each : (Found → Type 0) → List Found → Type 0
Each P [] = Unit {0}
Each P (f ∷ fs) = P f × Each P fs

pub Each-append : (P : Found → Type 0) (xs ys : List Found) → Each P (xs ++ ys) ↔ (Each P xs × Each P ys)
Each-append P [] ys = (λ h. (tt, h), λ h. h.1)
Each-append P (x ∷ xs) ys =
    let rest = Each-append P xs ys in
    (λ h. ((h.0, (rest.0 h.1).0), (rest.0 h.1).1), λ h. (h.0.0, rest.1 (h.0.1, h.1)))

pub EachFound-append : (P : Found → Type 0) (xs ys : List Event) → EachFound P (xs ++ ys) ↔ (EachFound P xs × EachFound P ys)
EachFound-append P [] ys = (λ h. (tt, h), λ h. h.1)
EachFound-append P (x ∷ xs) ys =
    let rest = EachFound-append P xs ys in
    (λ h. ((h.0, (rest.0 h.1).0), (rest.0 h.1).1), λ h. (h.0.0, rest.1 (h.0.1, h.1)))

pub EachFound-numbered : (P : Found → Type 0) (lemma node : ℕ) (fs : List Found) → EachFound P (numbered lemma node fs) ↔ Each P fs
EachFound-numbered P lemma node [] = (λ h. tt, λ h. tt)
EachFound-numbered P lemma node (f ∷ fs) =
    let rest = EachFound-numbered P lemma (suc node) fs in
    (λ h. (h.0, rest.0 h.1), λ h. (h.0, rest.1 h.1))

-- ---- proved

pub sound_first : (es : List Event) → EachFound IsSound es → first_of es ≡ proved
sound_first [] all = refl
sound_first (e ∷ es) all = ap (λ f. verdict_at e.lemma e.node f (first_of es)) all.0 ∙ sound_first es all.1

proved_step : (lemma node : ℕ) (found : Found) (rest : Verdict) → verdict_at lemma node found rest ≡ proved → (found ≡ Sound) × (rest ≡ proved)
proved_step lemma node Sound rest e = (refl, e)
proved_step lemma node (Breaks cause) rest e = absurd (cc)
proved_step lemma node (Overflows column) rest e = absurd (cc)

pub first_sound : (es : List Event) → first_of es ≡ proved → EachFound IsSound es
first_sound [] e = tt
first_sound (x ∷ es) e =
    let step = proved_step x.lemma x.node x.found (first_of es) e in
    (step.0, first_sound es step.1)

-- ---- the first at which something is found

-- what an event's verdict is
abbrev pub verdict_of : Event → Verdict
verdict_of e = verdict_at e.lemma e.node e.found proved

skip : (before : List Event) (rest : List Event) → EachFound IsSound before → first_of (before ++ rest) ≡ first_of rest
skip [] rest all = refl
skip (e ∷ es) rest all = ap (λ f. verdict_at e.lemma e.node f (first_of (es ++ rest))) all.0 ∙ skip es rest all.1

unskipped : (lemma node : ℕ) (found : Found) (rest : Verdict) → found ≢ Sound → verdict_at lemma node found rest ≡ verdict_at lemma node found proved
unskipped lemma node Sound rest some = absurd (some refl)
unskipped lemma node (Breaks cause) rest some = refl
unskipped lemma node (Overflows column) rest some = refl

pub IsFirst-verdict : (es : List Event) (e : Event) → IsFirst es e → first_of es ≡ verdict_of e
IsFirst-verdict es e first =
    ap first_of first.stands ∙ skip first.before (e ∷ first.after) first.all_sound ∙ unskipped e.lemma e.node e.found (first_of first.after) first.found

first_here : (e : Event) (es : List Event) → e.found ≢ Sound → IsFirst (e ∷ es) e
first_here e es some = record { before = []; after = es; stands = refl; all_sound = tt; found = some }

first_later : (x : Event) (es : List Event) (e : Event) → x.found ≡ Sound → IsFirst es e → IsFirst (x ∷ es) e
first_later x es e is first = record {
  before = x ∷ first.before;
  after = first.after;
  stands = ap (λ l. x ∷ l) first.stands;
  all_sound = (is, first.all_sound);
  found = first.found;
}

-- ---- each answer and its event

abbrev pub failing : ℕ → ℕ → ℕ → Event
failing lemma node cause = record { lemma = lemma; node = node; found = Breaks cause }

abbrev pub overflowing : ℕ → ℕ → ℕ → Event
overflowing lemma node column = record { lemma = lemma; node = node; found = Overflows column }

fails_first : (es : List Event) (l n k : ℕ) → first_of es ≡ fails l n k → IsFirst es (failing l n k)
fails_first [] l n k v = absurd (cc)
fails_first (x ∷ es) l n k v = by x.lemma x.node x.found v (fails_first es l n k)
  where
    by : (lemma node : ℕ) (found : Found) → verdict_at lemma node found (first_of es) ≡ fails l n k → (first_of es ≡ fails l n k → IsFirst es (failing l n k)) → IsFirst (record { lemma = lemma; node = node; found = found } ∷ es) (failing l n k)
    by lemma node Sound v rest =
        first_later (record { lemma = lemma; node = node; found = Sound }) es (failing l n k) refl (rest v)
    by lemma node (Breaks cause) v rest =
        let p : l ≡ lemma = cc in let q : n ≡ node = cc in let r : k ≡ cause = cc in
        let same : failing l n k ≡ failing lemma node cause = ap (λ x. failing x n k) p ∙ ap (λ x. failing lemma x k) q ∙ ap (failing lemma node) r in
        subst (λ (e : Event). IsFirst (e ∷ es) (failing l n k)) same (first_here (failing l n k) es (λ e. cc))
    by lemma node (Overflows column) v rest = absurd (cc)

overflows_first : (es : List Event) (l n k : ℕ) → first_of es ≡ wide l n k → IsFirst es (overflowing l n k)
overflows_first [] l n k v = absurd (cc)
overflows_first (x ∷ es) l n k v = by x.lemma x.node x.found v (overflows_first es l n k)
  where
    by : (lemma node : ℕ) (found : Found) → verdict_at lemma node found (first_of es) ≡ wide l n k → (first_of es ≡ wide l n k → IsFirst es (overflowing l n k)) → IsFirst (record { lemma = lemma; node = node; found = found } ∷ es) (overflowing l n k)
    by lemma node Sound v rest =
        first_later (record { lemma = lemma; node = node; found = Sound }) es (overflowing l n k) refl (rest v)
    by lemma node (Breaks cause) v rest = absurd (cc)
    by lemma node (Overflows column) v rest =
        let p : l ≡ lemma = cc in let q : n ≡ node = cc in let r : k ≡ column = cc in
        let same : overflowing l n k ≡ overflowing lemma node column = ap (λ x. overflowing x n k) p ∙ ap (λ x. overflowing lemma x k) q ∙ ap (overflowing lemma node) r in
        subst (λ (e : Event). IsFirst (e ∷ es) (overflowing l n k)) same (first_here (overflowing l n k) es (λ e. cc))

pub first_fails : (es : List Event) (l n k : ℕ) → (first_of es ≡ fails l n k) ↔ IsFirst es (failing l n k)
first_fails es l n k = (fails_first es l n k, IsFirst-verdict es (failing l n k))

pub first_wide : (es : List Event) (l n k : ℕ) → (first_of es ≡ wide l n k) ↔ IsFirst es (overflowing l n k)
first_wide es l n k = (overflows_first es l n k, IsFirst-verdict es (overflowing l n k))

-- ---- there is one first event

abbrev event : ℕ → ℕ → Found → Event
event lemma node f = record { lemma = lemma; node = node; found = f }

same_numbers : (f : ℕ → ℕ → ℕ → Event) (a b c x y z : ℕ) → a ≡ x → b ≡ y → c ≡ z → f a b c ≡ f x y z
same_numbers f a b c x y z p q r = ap (λ n. f n b c) p ∙ ap (λ n. f x n c) q ∙ ap (f x y) r

same_event : (l n : ℕ) (f : Found) (m k : ℕ) (g : Found) → f ≢ Sound → g ≢ Sound → verdict_at l n f proved ≡ verdict_at m k g proved → event l n f ≡ event m k g
same_event l n Sound m k g some_f some_g e = absurd (some_f refl)
same_event l n (Breaks c) m k Sound some_f some_g e = absurd (some_g refl)
same_event l n (Breaks c) m k (Breaks d) some_f some_g e = same_numbers failing l n c m k d (cc) (cc) (cc)
same_event l n (Breaks c) m k (Overflows d) some_f some_g e = absurd (cc)
same_event l n (Overflows c) m k Sound some_f some_g e = absurd (some_g refl)
same_event l n (Overflows c) m k (Breaks d) some_f some_g e = absurd (cc)
same_event l n (Overflows c) m k (Overflows d) some_f some_g e = same_numbers overflowing l n c m k d (cc) (cc) (cc)

pub one_first : (es : List Event) (a b : Event) → IsFirst es a → IsFirst es b → a ≡ b
one_first es a b p q =
    same_event a.lemma a.node a.found b.lemma b.node b.found p.found q.found (sym (IsFirst-verdict es a p) ∙ IsFirst-verdict es b q)
