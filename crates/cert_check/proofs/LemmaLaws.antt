-- What is found first at a list of places, and how the lemmas follow one another.
use Rattle.std.proofs.Common.{◌≡◌, ◌≢◌, ℕ, zero, suc, ◌+◌, ◌-◌, ◌^◌, ◌<◌, ◌≤◌, nat_lt, Bool, true, false, cond, List, [], ◌∷◌, ◌++◌, map, length, take, drop, get_or, Option, None, Some, slice_get, refl, sym, ◌∙◌, ap, subst, arith, append_assoc, add-one, take-suc, drop-cons}
use Rattle.std.proofs.lemmas.Bool.{ltb-true, lt-ltb}
use Rattle.std.proofs.lemmas.List.{map-append}
use Rattle.linear_form.proofs.ReducedLists.{true_not_false}
use Rattle.farkas_cert.specs.Literals.{negation}
use Rattle.farkas_cert.specs.Trees.{Tree, split, Derived, derived}
use Rattle.farkas_cert.specs.declared.certificates.Lemma.{Lemma}
use Rattle.farkas_cert.specs.declared.literals.Lit.{Lit}
use Rattle.farkas_cert.specs.declared.certificates.Cert.{Cert}
use Rattle.clause_form.specs.declared.clauses.Clauses.{Clauses}
use Rattle.clause_form.specs.Derivations.{Rows, rows_of}
use Rattle.cert_check.specs.declared.found.Found.{Found}
use Rattle.cert_check.specs.declared.found.Found.TheVariants.{Sound, Breaks, Overflows}
use Rattle.cert_check.specs.declared.found.Checked.{Checked}
use Rattle.cert_check.specs.declared.found.Checked.TheVariants.{Proved, Fails}
use Rattle.cert_check.specs.Answers.{first_found, count_if_sound, sound_before, named, answer_of}
use Rattle.cert_check.specs.Causes.{then_ask, asked, Event, names_once, of_split, founds, numbered, lemma_founds, lemma_events, is_empty, end_event, has_sizes, events}
use Rattle.cert_check.specs.Known.{known_with}
use Rattle.cert_check.specs.Tables.{Assumed, without_first}
use Rattle.cert_check.specs.Verdicts.{Verdict, proved, verdict_at, first_of, verdict}

-- ---- one after the other

then_ask_assoc : (a b c : Found) → then_ask (then_ask a b) c ≡ then_ask a (then_ask b c)
then_ask_assoc Sound b c = refl
then_ask_assoc (Breaks k) b c = refl
then_ask_assoc (Overflows k) b c = refl

pub first_found-append : (xs ys : List Found) → first_found (xs ++ ys) ≡ then_ask (first_found xs) (first_found ys)
first_found-append [] ys = refl
first_found-append (x ∷ xs) ys =
    ap (then_ask x) (first_found-append xs ys) ∙ sym (then_ask_assoc x (first_found xs) (first_found ys))

grown : (n : ℕ) → n ≡ 0 + n
grown n = omega arith

pub before_sound : (xs ys : List Found) → first_found xs ≡ Sound → sound_before (xs ++ ys) ≡ sound_before xs + sound_before ys
before_sound [] ys e = grown (sound_before ys)
before_sound (Sound ∷ xs) ys e =
    up (sound_before (xs ++ ys)) (sound_before xs) (sound_before ys) (before_sound xs ys e)
  where
    up : (a b d : ℕ) → a ≡ b + d → suc a ≡ suc b + d
    up a b d h = omega arith
before_sound (Breaks k ∷ xs) ys e = absurd (cc)
before_sound (Overflows k ∷ xs) ys e = absurd (cc)

pub before_fault : (xs ys : List Found) → first_found xs ≢ Sound → sound_before (xs ++ ys) ≡ sound_before xs
before_fault [] ys some = absurd (some refl)
before_fault (Sound ∷ xs) ys some = ap (λ n. suc n) (before_fault xs ys some)
before_fault (Breaks k ∷ xs) ys some = refl
before_fault (Overflows k ∷ xs) ys some = refl

pub then_fault : (a b : Found) → a ≢ Sound → then_ask a b ≡ a
then_fault Sound b some = absurd (some refl)
then_fault (Breaks k) b some = refl
then_fault (Overflows k) b some = refl

-- ---- names

not_low : (a b : ℕ) → (a < b → ⊥) → b ≤ a
not_low a b refuted = omega (arith, refuted)

pub named_more : (n k : ℕ) → named (named n + k) ≡ named (n + k)
named_more n k = by (nat_lt n (2 ^ 32)) refl
  where
    large : (m : ℕ) → 2 ^ 32 - 1 ≤ m → named m ≡ 2 ^ 32 - 1
    large m high = at (nat_lt m (2 ^ 32)) refl
      where
        at : (b : Bool) → nat_lt m (2 ^ 32) ≡ b → cond b m (2 ^ 32 - 1) ≡ 2 ^ 32 - 1
        at true e = let low : m < 2 ^ 32 = ltb-true m (2 ^ 32) e in omega arith
        at false e = refl

    by : (b : Bool) → nat_lt n (2 ^ 32) ≡ b → named (cond b n (2 ^ 32 - 1) + k) ≡ named (n + k)
    by true e = refl
    by false e =
        let high : 2 ^ 32 ≤ n = not_low n (2 ^ 32) (λ low. true_not_false (sym (lt-ltb n (2 ^ 32) low) ∙ e)) in
        large (2 ^ 32 - 1 + k) (omega arith) ∙ sym (large (n + k) (omega arith))

-- ---- the events of the lemmas

pub first_numbered : (lemma node : ℕ) (fs : List Found) (es : List Event) → first_of (numbered lemma node fs ++ es) ≡ verdict_at lemma (node + sound_before fs) (first_found fs) (first_of es)
first_numbered lemma node [] es = refl
first_numbered lemma node (Sound ∷ fs) es =
    first_numbered lemma (suc node) fs es ∙ ap (λ n. verdict_at lemma n (first_found fs) (first_of es)) (moved node (sound_before fs))
  where
    moved : (a b : ℕ) → suc a + b ≡ a + suc b
    moved a b = omega arith
first_numbered lemma node (Breaks k ∷ fs) es =
    ap (λ n. verdict_at lemma n (Breaks k) (first_of es)) (still node)
  where
    still : (a : ℕ) → a ≡ a + 0
    still a = omega arith
first_numbered lemma node (Overflows k ∷ fs) es =
    ap (λ n. verdict_at lemma n (Overflows k) (first_of es)) (still node)
  where
    still : (a : ℕ) → a ≡ a + 0
    still a = omega arith

-- the verdict from a lemma on
abbrev pub judged_from : Rows → List Lemma → List (List Lit) → ℕ → List Lemma → Verdict
judged_from c all known lemma ls = first_of (lemma_events c known lemma (map derived ls) ++ end_event 0 (map derived all) ∷ [])

pub judged_step : (c : Rows) (all : List Lemma) (known : List (List Lit)) (i : ℕ) (l : Lemma) (ls : List Lemma) → judged_from c all known i (l ∷ ls) ≡ verdict_at i (sound_before (lemma_founds c known (derived l))) (first_found (lemma_founds c known (derived l))) (judged_from c all (known ++ l.clause ∷ []) (suc i) ls)
judged_step c all known i l ls =
    ap first_of (append_assoc (numbered i 0 (lemma_founds c known (derived l))) (lemma_events c (known ++ l.clause ∷ []) (suc i) (map derived ls)) (end_event 0 (map derived all) ∷ [])) ∙ first_numbered i 0 (lemma_founds c known (derived l)) (lemma_events c (known ++ l.clause ∷ []) (suc i) (map derived ls) ++ end_event 0 (map derived all) ∷ []) ∙ ap (λ n. verdict_at i n (first_found (lemma_founds c known (derived l))) (judged_from c all (known ++ l.clause ∷ []) (suc i) ls)) (sym (grown (sound_before (lemma_founds c known (derived l)))))

pub known_more : (clauses : List (List Lit)) (ls : List Lemma) (i : ℕ) (l : Lemma) → slice_get ls i ≡ Some l → known_with clauses (take (suc i) ls) ≡ known_with clauses (take i ls) ++ l.clause ∷ []
known_more clauses ls i l e =
    ap (λ front. known_with clauses front) (split ls i l e) ∙ ap (λ m. clauses ++ m) (map-append (λ m. m.clause) (take i ls) (l ∷ [])) ∙ sym (append_assoc clauses (map (λ m. m.clause) (take i ls)) (l.clause ∷ []))
  where
    split : (ls : List Lemma) (i : ℕ) (l : Lemma) → slice_get ls i ≡ Some l → take (suc i) ls ≡ take i ls ++ l ∷ []
    split [] i l e = absurd (cc)
    split (m ∷ ms) zero l e = let same : m ≡ l = cc in ap (λ x. x ∷ []) same
    split (m ∷ ms) (suc i) l e = ap (λ t. m ∷ t) (split ms i l e)

pub drop_more : (ls : List Lemma) (i : ℕ) (l : Lemma) → slice_get ls i ≡ Some l → drop i ls ≡ l ∷ drop (suc i) ls
drop_more [] i l e = absurd (cc)
drop_more (m ∷ ms) zero l e = let same : m ≡ l = cc in ap (λ x. x ∷ ms) same
drop_more (m ∷ ms) (suc i) l e = drop_more ms i l e

-- a sound lemma: the next
pub judged_next : (c : Rows) (all : List Lemma) (clauses : List (List Lit)) (i : ℕ) (l : Lemma) → slice_get all i ≡ Some l → first_found (lemma_founds c (known_with clauses (take i all)) (derived l)) ≡ Sound → judged_from c all (known_with clauses (take i all)) i (drop i all) ≡ judged_from c all (known_with clauses (take (i + 1) all)) (i + 1) (drop (i + 1) all)
judged_next c all clauses i l e found =
    let known : List (List Lit) = known_with clauses (take i all) in
    ap (judged_from c all known i) (drop_more all i l e) ∙ judged_step c all known i l (drop (suc i) all) ∙ ap (λ f. verdict_at i (sound_before (lemma_founds c known (derived l))) f (judged_from c all (known ++ l.clause ∷ []) (suc i) (drop (suc i) all))) found ∙ ap (λ k. judged_from c all k (suc i) (drop (suc i) all)) (sym (known_more clauses all i l e)) ∙ ap (λ n. judged_from c all (known_with clauses (take n all)) n (drop n all)) (sym (add-one i))

-- a lemma with a fault: the verdict
pub judged_fault : (c : Rows) (all : List Lemma) (clauses : List (List Lit)) (i : ℕ) (l : Lemma) → slice_get all i ≡ Some l → first_found (lemma_founds c (known_with clauses (take i all)) (derived l)) ≢ Sound → judged_from c all (known_with clauses (take i all)) i (drop i all) ≡ verdict_at i (sound_before (lemma_founds c (known_with clauses (take i all)) (derived l))) (first_found (lemma_founds c (known_with clauses (take i all)) (derived l))) proved
judged_fault c all clauses i l e some =
    let known : List (List Lit) = known_with clauses (take i all) in
    ap (judged_from c all known i) (drop_more all i l e) ∙ judged_step c all known i l (drop (suc i) all) ∙ unskipped i (sound_before (lemma_founds c known (derived l))) (first_found (lemma_founds c known (derived l))) (judged_from c all (known ++ l.clause ∷ []) (suc i) (drop (suc i) all)) some
  where
    unskipped : (lemma node : ℕ) (found : Found) (rest : Verdict) → found ≢ Sound → verdict_at lemma node found rest ≡ verdict_at lemma node found proved
    unskipped lemma node Sound rest some = absurd (some refl)
    unskipped lemma node (Breaks cause) rest some = refl
    unskipped lemma node (Overflows column) rest some = refl

-- ---- the end

end_of : (lemma : ℕ) (ls : List Lemma) (l : Lemma) (k : ℕ) → slice_get ls k ≡ Some l → length ls ≡ suc k → end_event lemma (map derived ls) ≡ record { lemma = lemma + k; node = 0; found = asked 8 (is_empty l.clause) }
end_of lemma [] l k e long = absurd (cc)
end_of lemma (m ∷ []) l zero e long =
    let same : m ≡ l = cc in
    ap (λ (x : Lemma). end_event lemma (map derived (x ∷ []))) same ∙ ap (λ (n : ℕ). event n l) (still lemma)
  where
    event : ℕ → Lemma → Event
    event n x = record { lemma = n; node = 0; found = asked 8 (is_empty x.clause) }

    still : (a : ℕ) → a ≡ a + 0
    still a = omega arith
end_of lemma (m ∷ []) l (suc k) e long = absurd (omega arith)
end_of lemma (m ∷ n ∷ ls) l zero e long = absurd (omega arith)
end_of lemma (m ∷ n ∷ ls) l (suc k) e long =
    end_of (suc lemma) (n ∷ ls) l k e (omega arith) ∙ ap (λ (a : ℕ). event a l) (moved lemma k)
  where
    event : ℕ → Lemma → Event
    event n x = record { lemma = n; node = 0; found = asked 8 (is_empty x.clause) }

    moved : (a b : ℕ) → suc a + b ≡ a + suc b
    moved a b = omega arith

-- the answer at the end
abbrev pub answer_at_end : List Lemma → Checked
answer_at_end ls = answer_of (first_of (end_event 0 (map derived ls) ∷ []))

pub end_none : (ls : List Lemma) → length ls ≡ 0 → Fails 0 0 8 ≡ answer_at_end ls
unfolding answer_of
end_none [] e = refl
end_none (l ∷ ls) e = absurd (omega arith)

is_empty_none : (lits : List Lit) → lits ≡ [] → is_empty lits ≡ true
is_empty_none lits e = ap is_empty e

is_empty_some : (lits : List Lit) → (lits ≡ [] → ⊥) → is_empty lits ≡ false
is_empty_some [] some = absurd (some refl)
is_empty_some (l ∷ ls) some = refl

pub end_empty : (ls : List Lemma) (l : Lemma) (k : ℕ) → slice_get ls k ≡ Some l → length ls ≡ suc k → l.clause ≡ [] → Proved ≡ answer_at_end ls
unfolding answer_of
end_empty ls l k e long none =
    sym (ap (λ (v : Event). answer_of (first_of (v ∷ []))) (end_of 0 ls l k e long) ∙ ap (λ (b : Bool). answer_of (verdict_at (0 + k) 0 (asked 8 b) proved)) (is_empty_none l.clause none))

pub end_other : (ls : List Lemma) (l : Lemma) (k : ℕ) → slice_get ls k ≡ Some l → length ls ≡ suc k → (l.clause ≡ [] → ⊥) → Fails (named k) 0 8 ≡ answer_at_end ls
unfolding answer_of
end_other ls l k e long some =
    sym (ap (λ (v : Event). answer_of (first_of (v ∷ []))) (end_of 0 ls l k e long) ∙ ap (λ (b : Bool). answer_of (verdict_at (0 + k) 0 (asked 8 b) proved)) (is_empty_some l.clause some) ∙ ap (λ (n : ℕ). Fails (named n) 0 8) (sym (grown k)))

-- ---- the two sides of a split

pub split_fault : (x : Found) (rest : List Found) → x ≢ Sound → (first_found (x ∷ rest) ≡ x) × (sound_before (x ∷ rest) ≡ 0)
split_fault Sound rest some = absurd (some refl)
split_fault (Breaks k) rest some = (refl, refl)
split_fault (Overflows k) rest some = (refl, refl)

pub yes_fault : (x : Found) (ys ns : List Found) → x ≡ Sound → first_found ys ≢ Sound → (first_found (x ∷ (ys ++ ns)) ≡ first_found ys) × (sound_before (x ∷ (ys ++ ns)) ≡ suc (sound_before ys))
yes_fault Sound ys ns e some =
    (first_found-append ys ns ∙ then_fault (first_found ys) (first_found ns) some, ap (λ n. suc n) (before_fault ys ns some))
yes_fault (Breaks k) ys ns e some = absurd (cc)
yes_fault (Overflows k) ys ns e some = absurd (cc)

pub both_sides : (x : Found) (ys ns : List Found) → x ≡ Sound → first_found ys ≡ Sound → (first_found (x ∷ (ys ++ ns)) ≡ first_found ns) × (sound_before (x ∷ (ys ++ ns)) ≡ suc (sound_before ys + sound_before ns))
both_sides Sound ys ns e all =
    (first_found-append ys ns ∙ ap (λ f. then_ask f (first_found ns)) all, ap (λ n. suc n) (before_sound ys ns all))
both_sides (Breaks k) ys ns e all = absurd (cc)
both_sides (Overflows k) ys ns e all = absurd (cc)

-- where the node's number stands after a first node and one tree, or two
pub after_one : (start first second a : ℕ) → first ≡ named (start + 1) → second ≡ named (first + a) → second ≡ named (start + suc a)
after_one start first second a p q =
    q ∙ ap (λ n. named (n + a)) p ∙ named_more (start + 1) a ∙ ap named (moved start a)
  where
    moved : (s a : ℕ) → (s + 1) + a ≡ s + suc a
    moved s a = omega arith

pub after_two : (start second third a b : ℕ) → second ≡ named (start + suc a) → third ≡ named (second + b) → third ≡ named (start + suc (a + b))
after_two start second third a b p q =
    q ∙ ap (λ n. named (n + b)) p ∙ named_more (start + suc a) b ∙ ap named (moved start a b)
  where
    moved : (s a b : ℕ) → (s + suc a) + b ≡ s + suc (a + b)
    moved s a b = omega arith

-- a number of 32 bits is its own name
pub named_itself : (n : ℕ) → n < 2 ^ 32 → named n ≡ n
named_itself n less = ap (λ b. cond b n (2 ^ 32 - 1)) (lt-ltb n (2 ^ 32) less)

-- ---- what the code finds at a split

-- a node that was counted
pub counted_fault : (f : Found) (n : ℕ) → f ≢ Sound → n < 2 ^ 32 → n ≡ named (n + sound_before (f ∷ []))
counted_fault Sound n some less = absurd (some refl)
counted_fault (Breaks k) n some less = sym (named_itself n less) ∙ ap named (still n)
  where
    still : (a : ℕ) → a ≡ a + 0
    still a = omega arith
counted_fault (Overflows k) n some less = sym (named_itself n less) ∙ ap named (still n)
  where
    still : (a : ℕ) → a ≡ a + 0
    still a = omega arith

abbrev pub Reaches : List Found → ℕ → Found → ℕ → Type 0
Reaches fs start found node = (found ≡ first_found fs) × (node ≡ named (start + sound_before fs))

pub at_split : (x : Found) (rest : List Found) (start node : ℕ) → x ≢ Sound → node ≡ named (start + sound_before (x ∷ [])) → Reaches (x ∷ rest) start x node
at_split Sound rest start node some e = absurd (some refl)
at_split (Breaks k) rest start node some e = (refl, e)
at_split (Overflows k) rest start node some e = (refl, e)

pub at_yes : (x : Found) (ys ns : List Found) (f : Found) (start first node : ℕ) → x ≡ Sound → first ≡ named (start + sound_before (x ∷ [])) → f ≡ first_found ys → node ≡ named (first + sound_before ys) → f ≢ Sound → Reaches (x ∷ (ys ++ ns)) start f node
at_yes Sound ys ns f start first node e one found number some =
    let both = yes_fault Sound ys ns refl (λ s. some (found ∙ s)) in
    (found ∙ sym both.0, after_one start first node (sound_before ys) one number ∙ ap (λ (a : ℕ). named (start + a)) (sym both.1))
at_yes (Breaks k) ys ns f start first node e one found number some = absurd (cc)
at_yes (Overflows k) ys ns f start first node e one found number some = absurd (cc)

pub at_no : (x : Found) (ys ns : List Found) (f : Found) (start first second node : ℕ) → x ≡ Sound → first ≡ named (start + sound_before (x ∷ [])) → first_found ys ≡ Sound → second ≡ named (first + sound_before ys) → f ≡ first_found ns → node ≡ named (second + sound_before ns) → Reaches (x ∷ (ys ++ ns)) start f node
at_no Sound ys ns f start first second node e one held two found number =
    let both = both_sides Sound ys ns refl held in
    (found ∙ sym both.0, after_two start second node (sound_before ys) (sound_before ns) (after_one start first second (sound_before ys) one two) number ∙ ap (λ (a : ℕ). named (start + a)) (sym both.1))
at_no (Breaks k) ys ns f start first second node e one held two found number = absurd (cc)
at_no (Overflows k) ys ns f start first second node e one held two found number = absurd (cc)

-- ---- a split under its path

abbrev pub side : ℕ → Bool → Lit
side a sign = record { atom = a; positive = sign }

pub reaches_split : (c : Rows) (known : List (List Lit)) (path : List Lit) (tree : Tree) (a : ℕ) (y n : Tree) (x : Found) (start node : ℕ) → tree ≡ split a y n → x ≡ of_split c path a → x ≢ Sound → node ≡ named (start + sound_before (x ∷ [])) → Reaches (founds c known path tree) start x node
reaches_split c known path tree a y n x start node e xe some number =
    let ys : List Found = founds c known (side a true ∷ path) y in
    let ns : List Found = founds c known (side a false ∷ path) n in
    subst (λ (t : Tree). Reaches (founds c known path t) start x node) (sym e) (subst (λ (v : Found). Reaches (v ∷ (ys ++ ns)) start x node) xe (at_split x (ys ++ ns) start node some number))

pub reaches_yes : (c : Rows) (known : List (List Lit)) (path first_path : List Lit) (tree : Tree) (a : ℕ) (y n : Tree) (x f : Found) (start first node : ℕ) → tree ≡ split a y n → x ≡ of_split c path a → x ≡ Sound → first ≡ named (start + sound_before (x ∷ [])) → first_path ≡ side a true ∷ path → f ≡ first_found (founds c known first_path y) → node ≡ named (first + sound_before (founds c known first_path y)) → f ≢ Sound → Reaches (founds c known path tree) start f node
reaches_yes c known path first_path tree a y n x f start first node e xe all one pe found number some =
    let ys : List Found = founds c known (side a true ∷ path) y in
    let ns : List Found = founds c known (side a false ∷ path) n in
    let found_here : f ≡ first_found ys = found ∙ ap (λ (p : List Lit). first_found (founds c known p y)) pe in
    let number_here : node ≡ named (first + sound_before ys) = number ∙ ap (λ (p : List Lit). named (first + sound_before (founds c known p y))) pe in
    subst (λ (t : Tree). Reaches (founds c known path t) start f node) (sym e) (subst (λ (v : Found). Reaches (v ∷ (ys ++ ns)) start f node) xe (at_yes x ys ns f start first node all one found_here number_here some))

pub reaches_no : (c : Rows) (known : List (List Lit)) (path first_path second_path : List Lit) (tree : Tree) (a : ℕ) (y n : Tree) (x f g : Found) (start first second node : ℕ) → tree ≡ split a y n → x ≡ of_split c path a → x ≡ Sound → first ≡ named (start + sound_before (x ∷ [])) → first_path ≡ side a true ∷ path → f ≡ first_found (founds c known first_path y) → f ≡ Sound → second ≡ named (first + sound_before (founds c known first_path y)) → second_path ≡ side a false ∷ path → g ≡ first_found (founds c known second_path n) → node ≡ named (second + sound_before (founds c known second_path n)) → Reaches (founds c known path tree) start g node
reaches_no c known path first_path second_path tree a y n x f g start first second node e xe all one pe found held two qe last number =
    let ys : List Found = founds c known (side a true ∷ path) y in
    let ns : List Found = founds c known (side a false ∷ path) n in
    let held_here : first_found ys ≡ Sound = sym (found ∙ ap (λ (p : List Lit). first_found (founds c known p y)) pe) ∙ held in
    let two_here : second ≡ named (first + sound_before ys) = two ∙ ap (λ (p : List Lit). named (first + sound_before (founds c known p y))) pe in
    let last_here : g ≡ first_found ns = last ∙ ap (λ (p : List Lit). first_found (founds c known p n)) qe in
    let number_here : node ≡ named (second + sound_before ns) = number ∙ ap (λ (p : List Lit). named (second + sound_before (founds c known p n))) qe in
    subst (λ (t : Tree). Reaches (founds c known path t) start g node) (sym e) (subst (λ (v : Found). Reaches (v ∷ (ys ++ ns)) start g node) xe (at_no x ys ns g start first second node all one held_here two_here last_here number_here))

-- the path of the second side, from that of the first
pub turned_path : (a : ℕ) (path : List Lit) (first after back second : Assumed) → first.lits ≡ side a true ∷ path → after ≡ first → back.lits ≡ without_first after.lits → second.lits ≡ side a false ∷ back.lits → second.lits ≡ side a false ∷ path
turned_path a path first after back second one same cut last =
    last ∙ ap (λ (ls : List Lit). side a false ∷ ls) (cut ∙ ap (λ (p : Assumed). without_first p.lits) same ∙ ap without_first one)

-- ---- the whole certificate

pub verdict_sized : (c : Clauses) (cert : Cert) (ls : List Lemma) → has_sizes c cert ≡ true → ls ≡ cert.lemmas → verdict c cert ≡ judged_from (rows_of c) ls c.clauses 0 ls
unfolding verdict events
verdict_sized c cert ls sizes e =
    ap (λ (b : Bool). verdict_at 0 0 (asked 1 b) (judged_from (rows_of c) cert.lemmas c.clauses 0 cert.lemmas)) sizes ∙ ap (λ (l : List Lemma). judged_from (rows_of c) l c.clauses 0 l) (sym e)

-- ---- a lemma: its clause, and then its tree

pub lemma_stops : (c : Rows) (known : List (List Lit)) (d : Derived) → names_once (length c.atoms) d.lits ≡ false → (Breaks 2 ≡ first_found (lemma_founds c known d)) × (0 ≡ sound_before (lemma_founds c known d))
lemma_stops c known d e =
    let nodes : List Found = founds c known (map negation d.lits) d.tree in
    (sym (ap (λ (b : Bool). first_found (asked 2 b ∷ nodes)) e), sym (ap (λ (b : Bool). sound_before (asked 2 b ∷ nodes)) e))

pub lemma_goes : (c : Rows) (known : List (List Lit)) (d : Derived) (path : List Lit) (f : Found) (start one node : ℕ) → names_once (length c.atoms) d.lits ≡ true → path ≡ map negation d.lits → start ≡ 0 → one ≡ named (start + 1) → f ≡ first_found (founds c known path d.tree) → node ≡ named (one + sound_before (founds c known path d.tree)) → (f ≡ first_found (lemma_founds c known d)) × (node ≡ named (sound_before (lemma_founds c known d)))
lemma_goes c known d path f start one node e pe none first found number =
    let nodes : List Found = founds c known (map negation d.lits) d.tree in
    let found_here : f ≡ first_found nodes = found ∙ ap (λ (p : List Lit). first_found (founds c known p d.tree)) pe in
    let number_here : node ≡ named (one + sound_before nodes) = number ∙ ap (λ (p : List Lit). named (one + sound_before (founds c known p d.tree))) pe in
    let named_first : named (start + suc (sound_before nodes)) ≡ named (suc (sound_before nodes)) = ap (λ (s : ℕ). named (s + suc (sound_before nodes))) none ∙ ap named (sym (grown (suc (sound_before nodes)))) in (
      found_here ∙ sym (ap (λ (b : Bool). first_found (asked 2 b ∷ nodes)) e),
      after_one start one node (sound_before nodes) first number_here ∙ named_first ∙ sym (ap (λ (b : Bool). named (sound_before (asked 2 b ∷ nodes))) e),
    )
