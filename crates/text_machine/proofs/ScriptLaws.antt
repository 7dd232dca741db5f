-- Reading listed lines, one after another and in loops.
use Rattle.std.proofs.Common.{◌≡◌, ℕ, suc, ◌+◌, ◌-◌, ◌<◌, ◌≤◌, ℤ, cond, Result, Ok, Err, List, [], ◌∷◌, ◌++◌, length, refl, sym, ap, subst, ◌∙◌, append_assoc, arith}
use Rattle.std.proofs.lemmas.List.{append-nil}
use Rattle.whole.specs.declared.answers.ReadFault.{ReadFault}
use Rattle.whole.specs.declared.answers.ReadFault.TheVariants.{Refused, NoMemory}
use Rattle.whole.specs.declared.answers.Refusal.{Refusal}
use Rattle.text_lines.specs.Lines.{Unread, next, is_over, is_finished}
use Rattle.text_lines.specs.Pieces.{pieces}
use Rattle.text_lines.specs.Steps.{◌>>=◌, Fails, numbered, AllNumbered}
use Rattle.text_machine.specs.Lines.{read_line}
use Rattle.text_machine.specs.Texts.{Table, named, finish, step, read_pieces}
use Rattle.text_machine.specs.Scripts.{Line, Script, wants, listed, lines_from, scripted, line_by, lines_by, EachOf}

abbrev pub unread : ℕ → List (List ℕ) → Unread
unread k left = record { line = k; pieces = left }

-- the text from here on, by this script
abbrev pub script_by : {R : Type 0} → (ℕ → R) → Script R → Unread → Result Table R
script_by behind script rest = read_pieces (scripted behind) script rest.line rest.pieces

-- a line was taken only where a piece stands behind it
abbrev pub SomePiece : List (List ℕ) → Type 0
SomePiece [] = ⊥
SomePiece (piece ∷ left) = Unit {0}

-- a line, and then what follows it
pub script_wants : {R : Type 0} (behind : ℕ → R) (one : Line R) (then : List ℤ → Script R) (k : ℕ) (piece : List ℕ) (left : List (List ℕ))
    → script_by behind (wants one then) (unread k (piece ∷ left)) ≡ (line_by one (unread k (piece ∷ left)) >>= λ x. script_by behind (then x.0) x.1 >>= λ ts. Ok (x.0 ∷ ts))
unfolding read_pieces finish step line_by next
script_wants behind one then k piece [] = refl
script_wants {R} behind one then k piece (more ∷ left) = by_line (named (one.blame k) (read_line one.form (pieces 32 piece)))
  where
    by_line : (found : Result (List ℤ) R)
        → (◌>>=◌ {B = List ℤ × Script R} found (λ zs. Ok (zs, then zs)) >>= λ x. read_pieces (scripted behind) x.1 (k + 1) (more ∷ left) >>= λ ts. Ok (x.0 ∷ ts))
        ≡ (◌>>=◌ {B = List ℤ × Unread} found (λ zs. Ok (zs, unread (k + 1) (more ∷ left))) >>= λ x. script_by behind (then x.0) x.1 >>= λ ts. Ok (x.0 ∷ ts))
    by_line (Ok zs) = refl
    by_line (Err r) = refl

-- lines are taken one after another
pub lines_by-append : {R : Type 0} (front back : List (Line R)) (rest : Unread)
    → lines_by (front ++ back) rest ≡ (lines_by front rest >>= λ x. lines_by back x.1 >>= λ y. Ok (x.0 ++ y.0, y.1))
unfolding lines_by
lines_by-append {R} [] back rest = kept (lines_by back rest)
  where
    kept : (found : Result (Table × Unread) R) → found ≡ (◌>>=◌ {B = Table × Unread} found (λ y. Ok (y.0, y.1)))
    kept (Ok y) = refl
    kept (Err r) = refl
lines_by-append {R} (one ∷ front) back rest = by_line (line_by one rest) (λ (x : List ℤ × Unread). lines_by-append front back x.1)
  where
    Later : List ℤ × Unread → Type 0
    Later x = lines_by (front ++ back) x.1 ≡ (lines_by front x.1 >>= λ y. lines_by back y.1 >>= λ z. Ok (y.0 ++ z.0, z.1))

    onto : List ℤ → Table × Unread → Result (Table × Unread) R
    onto zs y = Ok (zs ∷ y.0, y.1)

    join : Table → Table × Unread → Result (Table × Unread) R
    join ts y = Ok (ts ++ y.0, y.1)

    by_back : (zs : List ℤ) (ts : Table) (found : Result (Table × Unread) R) → ((found >>= join ts) >>= onto zs) ≡ (found >>= join (zs ∷ ts))
    by_back zs ts (Ok y) = refl
    by_back zs ts (Err r) = refl

    by_front : (zs : List ℤ) (found : Result (Table × Unread) R)
        → ((found >>= λ y. lines_by back y.1 >>= join y.0) >>= onto zs) ≡ ((found >>= onto zs) >>= λ y. lines_by back y.1 >>= join y.0)
    by_front zs (Ok y) = by_back zs y.0 (lines_by back y.1)
    by_front zs (Err r) = refl

    by_line : (found : Result (List ℤ × Unread) R) → ((x : List ℤ × Unread) → Later x)
        → (found >>= λ x. lines_by (front ++ back) x.1 >>= onto x.0) ≡ ((found >>= λ x. lines_by front x.1 >>= onto x.0) >>= λ y. lines_by back y.1 >>= join y.0)
    by_line (Ok x) later = ap (λ (r : Result (Table × Unread) R). r >>= onto x.0) (later x) ∙ by_front x.0 (lines_by front x.1)
    by_line (Err r) later = refl

-- ---- a loop over things, each of which has its lines

pub numbered-push : {X Y : Type 0} (lines : ℕ → X → List Y) (first k : ℕ) (front : List X) (x : X) → k ≡ first + length front → numbered lines first (front ++ x ∷ []) ≡ numbered lines first front ++ lines k x
unfolding numbered
numbered-push lines first k [] x e = append-nil (lines first x) ∙ ap (λ n. lines n x) (omega arith)
numbered-push lines first k (y ∷ front) x e =
    ap (λ (rest : List _). lines first y ++ rest) (numbered-push lines (first + 1) k front x (omega arith)) ∙ sym (append_assoc (lines first y) (numbered lines (first + 1) front) (lines k x))

AllNumbered-push : {X : Type 0} (P : ℕ → X → Type 0) (first k : ℕ) (front : List X) (x : X) → k ≡ first + length front → AllNumbered P first front → P k x → AllNumbered P first (front ++ x ∷ [])
unfolding AllNumbered
AllNumbered-push P first k [] x e all p = (subst (λ n. P n x) (omega arith) p, tt)
AllNumbered-push P first k (y ∷ front) x e all p = (all.0, AllNumbered-push P (first + 1) k front x (omega arith) all.1 p)

length-push : {X : Type 0} (front : List X) (x : X) → length (front ++ x ∷ []) ≡ length front + 1
length-push [] x = omega arith
length-push (y ∷ front) x = omega (arith, length-push front x)

-- the things before thing i were read, and what is read in all is what was read and what is still read
pub record Along {X R : Type 0} (lines : ℕ → List (Line R)) (table : ℕ → X → Table) (Sized : ℕ → X → Type 0) (first count i : ℕ) (front : List X) (rest : Unread) (total : Result (Table × Unread) R) : Type 0 where
  pub counted : length front ≡ i
  pub sized : AllNumbered Sized first front
  pub so_far : (lines_by (lines_from lines (count - i) (first + i)) rest >>= λ y. Ok (numbered table first front ++ y.0, y.1)) ≡ total

pub along_start : {X R : Type 0} (lines : ℕ → List (Line R)) (table : ℕ → X → Table) (Sized : ℕ → X → Type 0) (first count : ℕ) (rest : Unread)
    → Along lines table Sized first count 0 [] rest (lines_by (lines_from lines count first) rest)
unfolding numbered AllNumbered
along_start {X} {R} lines table Sized first count rest = record {
  counted = refl;
  sized = tt;
  so_far = ap (λ n. ◌>>=◌ {B = Table × Unread} (lines_by (lines_from lines n (first + 0)) rest) (λ y. Ok (y.0, y.1))) (omega arith)
      ∙ ap (λ n. ◌>>=◌ {B = Table × Unread} (lines_by (lines_from lines count n) rest) (λ y. Ok (y.0, y.1))) (omega arith) ∙ kept (lines_by (lines_from lines count first) rest);
}
  where
    kept : (found : Result (Table × Unread) R) → (◌>>=◌ {B = Table × Unread} found (λ y. Ok (y.0, y.1))) ≡ found
    kept (Ok y) = refl
    kept (Err r) = refl

-- the lines of thing k and of those behind it
next_things : {R : Type 0} (lines : ℕ → List (Line R)) (first count i k : ℕ) → i < count → k ≡ first + i → lines_from lines (count - i) (first + i) ≡ lines k ++ lines_from lines (count - (i + 1)) (first + (i + 1))
unfolding lines_from
next_things lines first count i k lt is =
    let more : count - i ≡ suc (count - (i + 1)) = omega arith in
    ap (λ n. lines_from lines n (first + i)) more ∙ ap (λ n. lines n ++ lines_from lines (count - (i + 1)) (first + i + 1)) (sym is) ∙ ap (λ n. lines k ++ lines_from lines (count - (i + 1)) n) (omega arith)

pub along_more : {X R : Type 0} (lines : ℕ → List (Line R)) (table : ℕ → X → Table) (Sized : ℕ → X → Type 0) (first count i k : ℕ) (front : List X) (rest : Unread) (x : X) (after : Unread) (total : Result (Table × Unread) R)
    → i < count → k ≡ first + i → lines_by (lines k) rest ≡ Ok (table k x, after) → Sized k x
    → Along lines table Sized first count i front rest total → Along lines table Sized first count (i + 1) (front ++ x ∷ []) after total
along_more {X} {R} lines table Sized first count i k front rest x after total lt is done size so_far =
    let behind = lines_from lines (count - (i + 1)) (first + (i + 1)) in
    let here : k ≡ first + length front = omega (arith, so_far.counted) in
    record {
      counted = length-push front x ∙ ap (λ n. n + 1) so_far.counted;
      sized = AllNumbered-push Sized first k front x here so_far.sized size;
      so_far =
          sym (ap (λ (ls : List (Line R)). lines_by ls rest >>= onto (numbered table first front)) (next_things lines first count i k lt is)
          ∙ ap (λ (r : Result (Table × Unread) R). r >>= onto (numbered table first front)) (lines_by-append (lines k) behind rest ∙ ap (λ (r : Result (Table × Unread) R). r >>= λ y. lines_by behind y.1 >>= onto y.0) done)
          ∙ regroup (numbered table first front) (table k x) (lines_by behind after)
          ∙ ap (λ (ts : Table). lines_by behind after >>= onto ts) (sym (numbered-push table first k front x here)))
          ∙ so_far.so_far;
    }
  where
    onto : Table → Table × Unread → Result (Table × Unread) R
    onto ts y = Ok (ts ++ y.0, y.1)

    regroup : (ts us : Table) (found : Result (Table × Unread) R) → ((found >>= onto us) >>= onto ts) ≡ (found >>= onto (ts ++ us))
    regroup ts us (Ok y) = ap (λ (vs : Table). Ok (vs, y.1)) (sym (append_assoc ts us y.0))
    regroup ts us (Err r) = refl

pub along_fails : {X : Type 0} (fault : ReadFault) (lines : ℕ → List (Line Refusal)) (table : ℕ → X → Table) (Sized : ℕ → X → Type 0) (first count i k : ℕ) (front : List X) (rest : Unread) (total : Result (Table × Unread) Refusal)
    → i < count → k ≡ first + i → Fails fault (lines_by (lines k) rest) → Along lines table Sized first count i front rest total → Fails fault total
along_fails NoMemory lines table Sized first count i k front rest total lt is failed so_far = tt
along_fails (Refused refusal) lines table Sized first count i k front rest total lt is failed so_far =
    let behind = lines_from lines (count - (i + 1)) (first + (i + 1)) in
    sym so_far.so_far
    ∙ ap (λ (ls : List (Line Refusal)). ◌>>=◌ {B = Table × Unread} (lines_by ls rest) (λ y. Ok (numbered table first front ++ y.0, y.1))) (next_things lines first count i k lt is)
    ∙ ap (λ (r : Result (Table × Unread) Refusal). ◌>>=◌ {B = Table × Unread} r (λ y. Ok (numbered table first front ++ y.0, y.1)))
    (lines_by-append (lines k) behind rest ∙ ap (λ (r : Result (Table × Unread) Refusal). r >>= λ y. lines_by behind y.1 >>= λ z. Ok (y.0 ++ z.0, z.1)) failed)

pub along_done : {X R : Type 0} (lines : ℕ → List (Line R)) (table : ℕ → X → Table) (Sized : ℕ → X → Type 0) (first count i : ℕ) (front : List X) (rest : Unread) (total : Result (Table × Unread) R)
    → count ≤ i → i ≤ count → Along lines table Sized first count i front rest total → EachOf Sized count first front × (total ≡ Ok (numbered table first front, rest))
unfolding lines_from lines_by
along_done {X} {R} lines table Sized first count i front rest total ge le so_far =
    let none : count - i ≡ 0 = omega arith in (
      record { counted = omega (arith, so_far.counted); all = so_far.sized },
      sym so_far.so_far ∙ ap (λ n. ◌>>=◌ {B = Table × Unread} (lines_by (lines_from lines n (first + i)) rest) (λ y. Ok (numbered table first front ++ y.0, y.1))) none
          ∙ ap (λ (ts : Table). Ok (ts, rest)) (append-nil (numbered table first front)),
    )

-- ---- a whole script, part by part: `k` is what is done behind each part

some_after : {R : Type 0} (one : Line R) (line : ℕ) (left : List (List ℕ)) (x : List ℤ × Unread) → line_by one (unread line left) ≡ Ok x → SomePiece x.1.pieces
unfolding line_by next
some_after one line [] x e = absurd (cc)
some_after one line (piece ∷ []) x e = absurd (cc)
some_after {R} one line (piece ∷ more ∷ left) x e = by_read (named (one.blame line) (read_line one.form (pieces 32 piece))) e
  where
    by_read : (found : Result (List ℤ) R) → (◌>>=◌ {B = List ℤ × Unread} found (λ zs. Ok (zs, unread (line + 1) (more ∷ left)))) ≡ Ok x → SomePiece x.1.pieces
    by_read (Ok zs) q = subst (λ (y : List ℤ × Unread). SomePiece y.1.pieces) (pair_is (zs, unread (line + 1) (more ∷ left)) x q) tt
      where
        pair_is : (y z : List ℤ × Unread) → ◌≡◌ {A = Result (List ℤ × Unread) R} (Ok y) (Ok z) → y ≡ z
        pair_is y z r = cc
    by_read (Err r) q = absurd (cc)

pub script_step : {R : Type 0} (behind : ℕ → R) (one : Line R) (then : List ℤ → Script R) (rest : Unread) (k : List ℤ × Unread → Result Table R) → SomePiece rest.pieces
    → ((x : List ℤ × Unread) → SomePiece x.1.pieces → script_by behind (then x.0) x.1 ≡ k x)
    → script_by behind (wants one then) rest ≡ (line_by one rest >>= λ x. k x >>= λ ts. Ok (x.0 ∷ ts))
script_step {R} behind one then rest k some later = by_pieces rest.line rest.pieces some
  where
    by_line : (line : ℕ) (left : List (List ℕ)) (found : Result (List ℤ × Unread) R) → line_by one (unread line left) ≡ found
        → (found >>= λ x. script_by behind (then x.0) x.1 >>= λ ts. Ok (x.0 ∷ ts)) ≡ (found >>= λ x. k x >>= λ ts. Ok (x.0 ∷ ts))
    by_line line left (Ok x) e = ap (λ (r : Result Table R). r >>= λ ts. Ok (x.0 ∷ ts)) (later x (some_after one line left x e))
    by_line line left (Err r) e = refl

    by_pieces : (line : ℕ) (left : List (List ℕ)) → SomePiece left → script_by behind (wants one then) (unread line left) ≡ (line_by one (unread line left) >>= λ x. k x >>= λ ts. Ok (x.0 ∷ ts))
    by_pieces line [] s = absurd s
    by_pieces line (piece ∷ left) s = script_wants behind one then line piece left ∙ by_line line (piece ∷ left) (line_by one (unread line (piece ∷ left))) refl

pub script_lines : {R : Type 0} (behind : ℕ → R) (lines back : List (Line R)) (rest : Unread) (k : Unread → Result Table R) → SomePiece rest.pieces
    → ((left : Unread) → SomePiece left.pieces → script_by behind (listed back) left ≡ k left)
    → script_by behind (listed (lines ++ back)) rest ≡ (lines_by lines rest >>= λ x. k x.1 >>= λ ts. Ok (x.0 ++ ts))
unfolding listed lines_by
script_lines {R} behind [] back rest k some later = later rest some ∙ kept (k rest)
  where
    kept : (found : Result Table R) → found ≡ (found >>= λ ts. Ok ts)
    kept (Ok ts) = refl
    kept (Err r) = refl
script_lines {R} behind (one ∷ lines) back rest k some later =
    script_step behind one (λ _. listed (lines ++ back)) rest (λ x. lines_by lines x.1 >>= λ y. k y.1 >>= λ ts. Ok (y.0 ++ ts)) some (λ x s. script_lines behind lines back x.1 k s later)
    ∙ by_line (line_by one rest)
  where
    by_rest : (zs : List ℤ) (front : Table) (found : Result Table R) → ((found >>= λ ts. Ok (front ++ ts)) >>= λ ts. Ok (zs ∷ ts)) ≡ (found >>= λ ts. Ok ((zs ∷ front) ++ ts))
    by_rest zs front (Ok ts) = refl
    by_rest zs front (Err r) = refl

    by_lines : (zs : List ℤ) (found : Result (Table × Unread) R)
        → ((found >>= λ y. k y.1 >>= λ ts. Ok (y.0 ++ ts)) >>= λ ts. Ok (zs ∷ ts)) ≡ (◌>>=◌ {B = Table × Unread} found (λ y. Ok (zs ∷ y.0, y.1)) >>= λ y. k y.1 >>= λ ts. Ok (y.0 ++ ts))
    by_lines zs (Ok y) = by_rest zs y.0 (k y.1)
    by_lines zs (Err r) = refl

    by_line : (found : Result (List ℤ × Unread) R)
        → (found >>= λ x. (lines_by lines x.1 >>= λ y. k y.1 >>= λ ts. Ok (y.0 ++ ts)) >>= λ ts. Ok (x.0 ∷ ts))
        ≡ ((found >>= λ x. ◌>>=◌ {B = Table × Unread} (lines_by lines x.1) (λ y. Ok (x.0 ∷ y.0, y.1))) >>= λ y. k y.1 >>= λ ts. Ok (y.0 ++ ts))
    by_line (Ok x) = by_lines x.0 (lines_by lines x.1)
    by_line (Err r) = refl

pub script_over : {R : Type 0} (behind : ℕ → R) (rest : Unread) → SomePiece rest.pieces → script_by behind (listed []) rest ≡ cond (is_finished rest) (Ok []) (Err (behind rest.line))
unfolding listed read_pieces finish step is_over
script_over {R} behind rest some = by_pieces rest.line rest.pieces some
  where
    by_pieces : (line : ℕ) (left : List (List ℕ)) → SomePiece left → script_by behind (listed []) (unread line left) ≡ cond (is_over left) (Ok []) (Err (behind line))
    by_pieces line [] s = absurd s
    by_pieces line ([] ∷ []) s = refl
    by_pieces line ((b ∷ bytes) ∷ []) s = refl
    by_pieces line ([] ∷ piece ∷ left) s = refl
    by_pieces line ((b ∷ bytes) ∷ piece ∷ left) s = refl

-- ---- one line is a list of lines

pub one_line : {R : Type 0} (one : Line R) (rest : Unread) (x : List ℤ × Unread) → line_by one rest ≡ Ok x → lines_by (one ∷ []) rest ≡ Ok (x.0 ∷ [], x.1)
unfolding lines_by
one_line {R} one rest x e = ap (λ (r : Result (List ℤ × Unread) R). r >>= λ y. ◌>>=◌ {A = Table × Unread} {B = Table × Unread} (Ok ([], y.1)) (λ ts. Ok (y.0 ∷ ts.0, ts.1))) e

pub one_fails : (fault : ReadFault) (one : Line Refusal) (rest : Unread) → Fails fault (line_by one rest) → Fails fault (lines_by (one ∷ []) rest)
unfolding lines_by
one_fails NoMemory one rest f = tt
one_fails (Refused refusal) one rest f = ap (λ (r : Result (List ℤ × Unread) Refusal). r >>= λ y. ◌>>=◌ {A = Table × Unread} {B = Table × Unread} (Ok ([], y.1)) (λ ts. Ok (y.0 ∷ ts.0, ts.1))) f
