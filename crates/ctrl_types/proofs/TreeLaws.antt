-- The trees of guards that the code makes, and the parts of conditions.
use Rattle.std.proofs.Common.{◌≡◌, List, [], ◌∷◌, map, Result, Ok, Err, refl, sym, ap, subst, ◌∙◌}
use Rattle.std.specs.Global.{Vec}
use Rattle.text_lines.specs.Steps.{◌>>=◌}
use Rattle.condition_syntax.specs.Trees as conditions
use Rattle.condition_syntax.specs.Trees.{Condition, condition_of}
use Rattle.condition_syntax.specs.declared.conditions.Cond.{Cond}
use Rattle.condition_syntax.specs.declared.conditions.Cond.TheVariants as conds
use Rattle.condition_syntax.proofs.TreeLaws.{condition_of-And, condition_of-Or}
use Rattle.ctrl_syntax.specs.declared.syntax.StateLine.{StateLine}
use Rattle.ctrl_types.specs.declared.breaches.Breach.{Breach}
use Rattle.ctrl_types.specs.declared.breaches.ResolveStop.{ResolveStop}
use Rattle.ctrl_types.specs.declared.breaches.ResolveStop.TheVariants.{Broken, NoMemory}
use Rattle.ctrl_types.specs.declared.gates.Gate.{Gate}
use Rattle.ctrl_types.specs.declared.gates.Gate.TheOpen.{Gate-F}
use Rattle.ctrl_types.specs.declared.gates.Gate.TheFolds.{fold-roll-Gate}
use Rattle.ctrl_types.specs.declared.gates.Gate.TheVariants.{And, Or, rolls-And, rolls-Or}
use Rattle.ctrl_types.specs.declared.surveys.Survey.{Survey}
use Rattle.ctrl_types.specs.Tests as tests
use Rattle.ctrl_types.specs.Tests.{Test, test_of, test_step}
use Rattle.ctrl_types.specs.Resolving.{AreReadable, EachReadable, Halts, gate_by, gates_by}

pub test_of-And : (parts : Vec Gate) → test_of (And parts) ≡ tests.conjunction (map test_of parts.items)
test_of-And parts = ap test_of (sym (rolls-And parts)) ∙ fold-roll-Gate Test test_step (Gate-F.And parts)

pub test_of-Or : (parts : Vec Gate) → test_of (Or parts) ≡ tests.disjunction (map test_of parts.items)
test_of-Or parts = ap test_of (sym (rolls-Or parts)) ∙ fold-roll-Gate Test test_step (Gate-F.Or parts)

parts_of_all : (cs : List Condition) → AreReadable (conditions.conjunction cs) → EachReadable cs
parts_of_all [] are = tt
parts_of_all (c ∷ cs) are = ((are.0.0, are.1.0), parts_of_all cs (are.0.1, are.1.1))

parts_of_any : (cs : List Condition) → AreReadable (conditions.disjunction cs) → EachReadable cs
parts_of_any [] are = tt
parts_of_any (c ∷ cs) are = ((are.0.0, are.1.0), parts_of_any cs (are.0.1, are.1.1))

pub parts_of_And : (c : Cond) (parts : Vec Cond) → c ≡ conds.And parts → AreReadable (condition_of c) → EachReadable (map condition_of parts.items)
parts_of_And c parts is are = parts_of_all (map condition_of parts.items) (subst AreReadable (ap condition_of is ∙ condition_of-And parts) are)

pub parts_of_Or : (c : Cond) (parts : Vec Cond) → c ≡ conds.Or parts → AreReadable (condition_of c) → EachReadable (map condition_of parts.items)
parts_of_Or c parts is are = parts_of_any (map condition_of parts.items) (subst AreReadable (ap condition_of is ∙ condition_of-Or parts) are)

-- what the parts of a conjunction give is what the conjunction gives
abbrev joined : (List Test → Test) → Result (List Test × Survey) Breach → Result (Test × Survey) Breach
joined join read = read >>= λ ts. Ok (join ts.0, ts.1)

gate_by-conjunction : (states : List StateLine) (cs : List Condition) (s : Survey)
    → gate_by states (conditions.conjunction cs) s ≡ joined tests.conjunction (gates_by states cs s)
unfolding gate_by gates_by
gate_by-conjunction states [] s = refl
gate_by-conjunction states (c ∷ cs) s = by (gate_by states c s) (λ u. gate_by-conjunction states cs u)
  where
    rest : (t : Test) (r : Result (List Test × Survey) Breach)
        → (joined tests.conjunction r >>= λ u. Ok (tests.all_of t u.0, u.1)) ≡ joined tests.conjunction (r >>= λ ts. Ok (t ∷ ts.0, ts.1))
    rest t (Ok x) = refl
    rest t (Err breach) = refl

    by : (r : Result (Test × Survey) Breach) → ((u : Survey) → gate_by states (conditions.conjunction cs) u ≡ joined tests.conjunction (gates_by states cs u))
        → (r >>= λ t. gate_by states (conditions.conjunction cs) t.1 >>= λ u. Ok (tests.all_of t.0 u.0, u.1))
        ≡ joined tests.conjunction (r >>= λ t. gates_by states cs t.1 >>= λ ts. Ok (t.0 ∷ ts.0, ts.1))
    by (Ok t) others =
        ap (λ (g : Result (Test × Survey) Breach). g >>= λ u. Ok (tests.all_of t.0 u.0, u.1)) (others t.1)
        ∙ rest t.0 (gates_by states cs t.1)
    by (Err breach) others = refl

gate_by-disjunction : (states : List StateLine) (cs : List Condition) (s : Survey)
    → gate_by states (conditions.disjunction cs) s ≡ joined tests.disjunction (gates_by states cs s)
unfolding gate_by gates_by
gate_by-disjunction states [] s = refl
gate_by-disjunction states (c ∷ cs) s = by (gate_by states c s) (λ u. gate_by-disjunction states cs u)
  where
    rest : (t : Test) (r : Result (List Test × Survey) Breach)
        → (joined tests.disjunction r >>= λ u. Ok (tests.any_of t u.0, u.1)) ≡ joined tests.disjunction (r >>= λ ts. Ok (t ∷ ts.0, ts.1))
    rest t (Ok x) = refl
    rest t (Err breach) = refl

    by : (r : Result (Test × Survey) Breach) → ((u : Survey) → gate_by states (conditions.disjunction cs) u ≡ joined tests.disjunction (gates_by states cs u))
        → (r >>= λ t. gate_by states (conditions.disjunction cs) t.1 >>= λ u. Ok (tests.any_of t.0 u.0, u.1))
        ≡ joined tests.disjunction (r >>= λ t. gates_by states cs t.1 >>= λ ts. Ok (t.0 ∷ ts.0, ts.1))
    by (Ok t) others =
        ap (λ (g : Result (Test × Survey) Breach). g >>= λ u. Ok (tests.any_of t.0 u.0, u.1)) (others t.1)
        ∙ rest t.0 (gates_by states cs t.1)
    by (Err breach) others = refl

pub all_gives : (states : List StateLine) (cs : List Condition) (s u : Survey) (ts : List Test)
    → gates_by states cs s ≡ Ok (ts, u) → gate_by states (conditions.conjunction cs) s ≡ Ok (tests.conjunction ts, u)
all_gives states cs s u ts read = gate_by-conjunction states cs s ∙ ap (joined tests.conjunction) read

pub any_gives : (states : List StateLine) (cs : List Condition) (s u : Survey) (ts : List Test)
    → gates_by states cs s ≡ Ok (ts, u) → gate_by states (conditions.disjunction cs) s ≡ Ok (tests.disjunction ts, u)
any_gives states cs s u ts read = gate_by-disjunction states cs s ∙ ap (joined tests.disjunction) read

all_breaks : (states : List StateLine) (cs : List Condition) (s : Survey) (breach : Breach)
    → gates_by states cs s ≡ Err breach → gate_by states (conditions.conjunction cs) s ≡ Err breach
all_breaks states cs s breach read = gate_by-conjunction states cs s ∙ ap (joined tests.conjunction) read

any_breaks : (states : List StateLine) (cs : List Condition) (s : Survey) (breach : Breach)
    → gates_by states cs s ≡ Err breach → gate_by states (conditions.disjunction cs) s ≡ Err breach
any_breaks states cs s breach read = gate_by-disjunction states cs s ∙ ap (joined tests.disjunction) read

pub all_halts : (states : List StateLine) (cs : List Condition) (s : Survey) (halt : ResolveStop)
    → Halts halt (gates_by states cs s) → Halts halt (gate_by states (conditions.conjunction cs) s)
all_halts states cs s NoMemory read = tt
all_halts states cs s (Broken breach) read = all_breaks states cs s breach read

pub any_halts : (states : List StateLine) (cs : List Condition) (s : Survey) (halt : ResolveStop)
    → Halts halt (gates_by states cs s) → Halts halt (gate_by states (conditions.disjunction cs) s)
any_halts states cs s NoMemory read = tt
any_halts states cs s (Broken breach) read = any_breaks states cs s breach read
