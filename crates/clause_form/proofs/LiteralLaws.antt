-- The literals of conjunctions and disjunctions, from those of their parts.
use Rattle.std.proofs.Common.{◌≡◌, Bool, true, false, List, [], ◌∷◌, ◌++◌, map, Result, Ok, Err, refl, sym, ap, subst, ◌∙◌, append_assoc}
use Rattle.std.proofs.lemmas.List.{append-nil}
use Rattle.std.specs.Global.{Vec}
use Rattle.condition_tree.specs.Trees.{Tree, conjunction, disjunction}
use Rattle.farkas_cert.specs.declared.literals.Lit.{Lit}
use Rattle.clause_form.specs.declared.clauses.What.{What}
use Rattle.clause_form.specs.declared.keys.Connective.TheVariants.{And, Or}
use Rattle.clause_form.specs.declared.clauses.BuildFault.{BuildFault}
use Rattle.clause_form.specs.declared.clauses.BuildFault.TheVariants.{Large, NoMemory}
use Rattle.clause_form.specs.declared.simple.RowLit.{RowLit}
use Rattle.clause_form.specs.declared.simple.Simple.{Simple}
use Rattle.clause_form.specs.declared.simple.Simple.TheOpen.{Simple-F}
use Rattle.clause_form.specs.declared.simple.Simple.TheFolds.{fold-roll-Simple}
use Rattle.clause_form.specs.declared.simple.Simple.TheVariants.{All, Any, rolls-All, rolls-Any}
use Rattle.clause_form.specs.Answers.{Fails, Gives}
use Rattle.clause_form.specs.Simplified.{simple_of, simple_step}
use Rattle.clause_form.specs.Building.{Build, Value, all_lits, any_lits, and_then, conjunct_lits, disjunct_lits, sealed, value, literal, literals, named, one_of, demanded, demanded_each}

-- ---- a conjunction or disjunction of a list

abbrev pub with_all : Build × List Lit → Result (Build × Value) What
with_all q = Ok (q.0, all_lits q.1)

abbrev pub with_any : Build × List Lit → Result (Build × Value) What
with_any q = Ok (q.0, any_lits q.1)

pub value-conjunction : (ts : List (Tree RowLit)) (s : Build) → value (conjunction ts) s ≡ and_then (literals ts s) with_all
unfolding literal
value-conjunction [] s = refl
value-conjunction (t ∷ ts) s = whole (value t s) (value-conjunction ts)
  where
    last : (l : Lit) (r : Result (Build × List Lit) What)
        → and_then (and_then r with_all) (λ w. and_then (conjunct_lits w.0 w.1) (λ q. Ok (q.0, all_lits (l ∷ q.1))))
        ≡ and_then (and_then r (λ q. Ok (q.0, l ∷ q.1))) with_all
    last l (Err what) = refl
    last l (Ok q) = refl

    next : (r : Result (Build × Lit) What) → ((u : Build) → value (conjunction ts) u ≡ and_then (literals ts u) with_all)
        → and_then r (λ p. and_then (value (conjunction ts) p.0) (λ w. and_then (conjunct_lits w.0 w.1) (λ q. Ok (q.0, all_lits (p.1 ∷ q.1)))))
        ≡ and_then (and_then r (λ p. and_then (literals ts p.0) (λ q. Ok (q.0, p.1 ∷ q.1)))) with_all
    next (Err what) more = refl
    next (Ok p) more =
        ap (λ (r : Result (Build × Value) What). and_then r (λ w. and_then (conjunct_lits w.0 w.1) (λ q. Ok (q.0, all_lits (p.1 ∷ q.1))))) (more p.0)
        ∙ last p.1 (literals ts p.0)

    whole : (r : Result (Build × Value) What) → ((u : Build) → value (conjunction ts) u ≡ and_then (literals ts u) with_all)
        → and_then r (λ v. and_then (sealed v.0 v.1) (λ p. and_then (value (conjunction ts) p.0) (λ w. and_then (conjunct_lits w.0 w.1) (λ q. Ok (q.0, all_lits (p.1 ∷ q.1))))))
        ≡ and_then (and_then (and_then r (λ v. sealed v.0 v.1)) (λ p. and_then (literals ts p.0) (λ q. Ok (q.0, p.1 ∷ q.1)))) with_all
    whole (Err what) more = refl
    whole (Ok v) more = next (sealed v.0 v.1) more

pub value-disjunction : (ts : List (Tree RowLit)) (s : Build) → value (disjunction ts) s ≡ and_then (literals ts s) with_any
unfolding literal
value-disjunction [] s = refl
value-disjunction (t ∷ ts) s = whole (value t s) (value-disjunction ts)
  where
    last : (l : Lit) (r : Result (Build × List Lit) What)
        → and_then (and_then r with_any) (λ w. and_then (disjunct_lits w.0 w.1) (λ q. Ok (q.0, any_lits (l ∷ q.1))))
        ≡ and_then (and_then r (λ q. Ok (q.0, l ∷ q.1))) with_any
    last l (Err what) = refl
    last l (Ok q) = refl

    next : (r : Result (Build × Lit) What) → ((u : Build) → value (disjunction ts) u ≡ and_then (literals ts u) with_any)
        → and_then r (λ p. and_then (value (disjunction ts) p.0) (λ w. and_then (disjunct_lits w.0 w.1) (λ q. Ok (q.0, any_lits (p.1 ∷ q.1)))))
        ≡ and_then (and_then r (λ p. and_then (literals ts p.0) (λ q. Ok (q.0, p.1 ∷ q.1)))) with_any
    next (Err what) more = refl
    next (Ok p) more =
        ap (λ (r : Result (Build × Value) What). and_then r (λ w. and_then (disjunct_lits w.0 w.1) (λ q. Ok (q.0, any_lits (p.1 ∷ q.1))))) (more p.0)
        ∙ last p.1 (literals ts p.0)

    whole : (r : Result (Build × Value) What) → ((u : Build) → value (disjunction ts) u ≡ and_then (literals ts u) with_any)
        → and_then r (λ v. and_then (sealed v.0 v.1) (λ p. and_then (value (disjunction ts) p.0) (λ w. and_then (disjunct_lits w.0 w.1) (λ q. Ok (q.0, any_lits (p.1 ∷ q.1))))))
        ≡ and_then (and_then (and_then r (λ v. sealed v.0 v.1)) (λ p. and_then (literals ts p.0) (λ q. Ok (q.0, p.1 ∷ q.1)))) with_any
    whole (Err what) more = refl
    whole (Ok v) more = next (sealed v.0 v.1) more

sealed_all : (r : Result (Build × List Lit) What) → and_then (and_then r with_all) (λ v. sealed v.0 v.1) ≡ and_then r (λ q. named q.0 And q.1)
sealed_all (Err what) = refl
sealed_all (Ok q) = refl

sealed_any : (r : Result (Build × List Lit) What) → and_then (and_then r with_any) (λ v. sealed v.0 v.1) ≡ and_then r (λ q. named q.0 Or q.1)
sealed_any (Err what) = refl
sealed_any (Ok q) = refl

pub literal-conjunction : (ts : List (Tree RowLit)) (s : Build) → literal (conjunction ts) s ≡ and_then (literals ts s) (λ q. named q.0 And q.1)
unfolding literal
literal-conjunction ts s = ap (λ (r : Result (Build × Value) What). and_then r (λ v. sealed v.0 v.1)) (value-conjunction ts s) ∙ sealed_all (literals ts s)

pub literal-disjunction : (ts : List (Tree RowLit)) (s : Build) → literal (disjunction ts) s ≡ and_then (literals ts s) (λ q. named q.0 Or q.1)
unfolding literal
literal-disjunction ts s = ap (λ (r : Result (Build × Value) What). and_then r (λ v. sealed v.0 v.1)) (value-disjunction ts s) ∙ sealed_any (literals ts s)

all_lits_of : (r : Result (Build × List Lit) What) → and_then (and_then r with_all) (λ v. conjunct_lits v.0 v.1) ≡ r
all_lits_of (Err what) = refl
all_lits_of (Ok q) = refl

any_lits_of : (r : Result (Build × List Lit) What) → and_then (and_then r with_any) (λ v. disjunct_lits v.0 v.1) ≡ r
any_lits_of (Err what) = refl
any_lits_of (Ok q) = refl

-- a conjunction is false where one of its parts is, and a disjunction true where one of its parts is
pub demanded-false-conjunction : (ts : List (Tree RowLit)) (s : Build) → demanded false (conjunction ts) s ≡ one_of false (literals ts s)
demanded-false-conjunction [] s = refl
demanded-false-conjunction (t ∷ ts) s =
    ap (one_of false) (ap (λ (r : Result (Build × Value) What). and_then r (λ v. conjunct_lits v.0 v.1)) (value-conjunction (t ∷ ts) s) ∙ all_lits_of (literals (t ∷ ts) s))

pub demanded-true-disjunction : (ts : List (Tree RowLit)) (s : Build) → demanded true (disjunction ts) s ≡ one_of true (literals ts s)
demanded-true-disjunction [] s = refl
demanded-true-disjunction (t ∷ ts) s =
    ap (one_of true) (ap (λ (r : Result (Build × Value) What). and_then r (λ v. disjunct_lits v.0 v.1)) (value-disjunction (t ∷ ts) s) ∙ any_lits_of (literals (t ∷ ts) s))

after_one : (r : Result Build What) (f g : Build → Result Build What) → ((u : Build) → f u ≡ g u) → and_then r f ≡ and_then r g
after_one (Err what) f g same = refl
after_one (Ok u) f g same = same u

pub demanded-true-conjunction : (ts : List (Tree RowLit)) (s : Build) → demanded true (conjunction ts) s ≡ demanded_each true ts s
demanded-true-conjunction [] s = refl
demanded-true-conjunction (t ∷ ts) s = after_one (demanded true t s) (demanded true (conjunction ts)) (demanded_each true ts) (demanded-true-conjunction ts)

pub demanded-false-disjunction : (ts : List (Tree RowLit)) (s : Build) → demanded false (disjunction ts) s ≡ demanded_each false ts s
demanded-false-disjunction [] s = refl
demanded-false-disjunction (t ∷ ts) s = after_one (demanded false t s) (demanded false (disjunction ts)) (demanded_each false ts) (demanded-false-disjunction ts)

-- ---- the same of the code's trees

simple_of-All : (parts : Vec Simple) → simple_of (All parts) ≡ conjunction (map simple_of parts.items)
simple_of-All parts = ap simple_of (sym (rolls-All parts)) ∙ fold-roll-Simple (Tree RowLit) simple_step (Simple-F.All parts)

simple_of-Any : (parts : Vec Simple) → simple_of (Any parts) ≡ disjunction (map simple_of parts.items)
simple_of-Any parts = ap simple_of (sym (rolls-Any parts)) ∙ fold-roll-Simple (Tree RowLit) simple_step (Simple-F.Any parts)

module _ (f : Simple) (parts : Vec Simple) (s : Build) where
  literal-as : (t : Tree RowLit) → simple_of f ≡ t → literal (simple_of f) s ≡ literal t s
  literal-as t is = ap (λ (u : Tree RowLit). literal u s) is

  pub literal-All : f ≡ All parts → literal (simple_of f) s ≡ and_then (literals (map simple_of parts.items) s) (λ q. named q.0 And q.1)
  literal-All is = literal-as _ (ap simple_of is ∙ simple_of-All parts) ∙ literal-conjunction (map simple_of parts.items) s

  pub literal-Any : f ≡ Any parts → literal (simple_of f) s ≡ and_then (literals (map simple_of parts.items) s) (λ q. named q.0 Or q.1)
  literal-Any is = literal-as _ (ap simple_of is ∙ simple_of-Any parts) ∙ literal-disjunction (map simple_of parts.items) s

  demanded-as : (sign : Bool) (t : Tree RowLit) → simple_of f ≡ t → demanded sign (simple_of f) s ≡ demanded sign t s
  demanded-as sign t is = ap (λ (u : Tree RowLit). demanded sign u s) is

  module _ (sign : Bool) where
    with_sign : (b : Bool) → sign ≡ b → demanded sign (simple_of f) s ≡ demanded b (simple_of f) s
    with_sign b is = ap (λ (v : Bool). demanded v (simple_of f) s) is

    pub demanded-All-each : f ≡ All parts → sign ≡ true → demanded sign (simple_of f) s ≡ demanded_each true (map simple_of parts.items) s
    demanded-All-each is positive =
        with_sign true positive ∙ demanded-as true _ (ap simple_of is ∙ simple_of-All parts) ∙ demanded-true-conjunction (map simple_of parts.items) s

    pub demanded-All-one : f ≡ All parts → sign ≡ false → demanded sign (simple_of f) s ≡ one_of false (literals (map simple_of parts.items) s)
    demanded-All-one is negative =
        with_sign false negative ∙ demanded-as false _ (ap simple_of is ∙ simple_of-All parts) ∙ demanded-false-conjunction (map simple_of parts.items) s

    pub demanded-Any-one : f ≡ Any parts → sign ≡ true → demanded sign (simple_of f) s ≡ one_of true (literals (map simple_of parts.items) s)
    demanded-Any-one is positive =
        with_sign true positive ∙ demanded-as true _ (ap simple_of is ∙ simple_of-Any parts) ∙ demanded-true-disjunction (map simple_of parts.items) s

    pub demanded-Any-each : f ≡ Any parts → sign ≡ false → demanded sign (simple_of f) s ≡ demanded_each false (map simple_of parts.items) s
    demanded-Any-each is negative =
        with_sign false negative ∙ demanded-as false _ (ap simple_of is ∙ simple_of-Any parts) ∙ demanded-false-disjunction (map simple_of parts.items) s

-- ---- what the code answers

pub gives_as : {X Y : Type 0} (seen : X → Y) (r : Result X BuildFault) (a b : Result Y What) → a ≡ b → Gives seen r b → Gives seen r a
gives_as {X} {Y} seen r a b e gives = subst (λ (x : Result Y What). Gives seen r x) (sym e) gives

pub fails_after : {Y Z : Type 0} (fault : BuildFault) (a : Result Y What) (f : Y → Result Z What) (b : Result Z What) → b ≡ and_then a f → Fails fault a → Fails fault b
fails_after NoMemory a f b e fails = tt
fails_after {Y} {Z} (Large what limit) a f b e fails = (e ∙ ap (λ (x : Result Y What). and_then x f) fails.0, fails.1)

-- ---- literals, one after another

-- literals in front of those to come
abbrev pub in_front : List Lit → Result (Build × List Lit) What → Result (Build × List Lit) What
in_front ls (Err what) = Err what
in_front ls (Ok q) = Ok (q.0, ls ++ q.1)

pub one_more : (ls : List Lit) (l : Lit) (r : Result (Build × List Lit) What) → in_front ls (and_then r (λ q. Ok (q.0, l ∷ q.1))) ≡ in_front (ls ++ l ∷ []) r
one_more ls l (Err what) = refl
one_more ls l (Ok q) = ap (λ (ms : List Lit). Ok (q.0, ms)) (sym (append_assoc ls (l ∷ []) q.1))

pub no_more : (ls : List Lit) (s : Build) → in_front ls (Ok (s, [])) ≡ Ok (s, ls)
no_more ls s = ap (λ (ms : List Lit). Ok (s, ms)) (append-nil ls)
