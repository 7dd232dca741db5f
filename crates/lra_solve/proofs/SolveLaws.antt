-- The search's answers, said of the clauses: it began at the opening of their rows' theory.
use Rattle.std.proofs.Common.{◌≡◌, ◌∙◌, ℕ, ◌≤◌, ◌^◌, unsigned_abs, Bool, List, Option, None, Some, inl, inr, sym, ap, subst, rules, arith}
use Rattle.std.specs.Prelude.{IfSome, IsSome, IsSomeAnd}
use Rattle.whole.specs.Budget.{Counts, counts, opening}
use Rattle.whole.specs.declared.answers.Stuck.{Stuck}
use Rattle.whole.specs.declared.budget.Budget.{Budget}
use Rattle.fraction.specs.Mixed.{limit}
use Rattle.fraction.specs.declared.mixed.MixedFrac.{MixedFrac}
use Rattle.linear_form.specs.Sums.{entry}
use Rattle.farkas_cert.specs.declared.certificates.Cert.{Cert}
use Rattle.clause_form.specs.Derivations.{Rows, rows_of}
use Rattle.clause_form.specs.Theories.{AreMet, HasSolution, Relations, TheoryView}
use Rattle.clause_form.specs.WellFormed.{IsWellFormed}
use Rattle.clause_form.specs.declared.clauses.Clauses.{Clauses}
use Rattle.clause_search.specs.Answers.{IsAssignment, starting_at}
use Rattle.clause_search.specs.Answers as search
use Rattle.clause_search.specs.declared.found.Found.{Found}
use Rattle.clause_search.specs.declared.found.Found.TheVariants as found
use Rattle.farkas_cert.specs.declared.journals.Move.{Move}
use Rattle.corner_guide.specs.Models.{IsCornerModel}
use Rattle.corner_guide.specs.declared.model.CornerModel.{CornerModel}
use Rattle.corner_values.specs.Faults.{IsStuckValue}
use Rattle.corner_values.specs.Values.{AreValuesAt}
use Rattle.corner_values.specs.declared.answer.Values.{Values}
use Rattle.lra_theory.specs.Relations.{HasViolated, IsOpeningOf, relations}
use Rattle.lra_theory.specs.Standings.{IsFresh}
use Rattle.lra_theory.specs.States.{State}
use Rattle.lra_solve.specs.Solving.{Answers, AreModelAt, AreValuesOf, IsCalmAt, IsCounted, IsFound, IsFoundTotal, IsLightProof, IsSpent, IsStuck, IsStuckTotal, IsTotalAt, IsValued, MayValue, Solves, SolvesTotal, value_of}
use Rattle.lra_solve.specs.declared.solved.Solved.{Solved}
use Rattle.lra_solve.specs.declared.solved.Solved.TheVariants as solved
use Rattle.lra_solve.specs.declared.solved.Spent.{Spent}
use Rattle.lra_solve.proofs.CountLaws.{charged_are, charged_spent}
use Rattle.lra_solve.proofs.ModelLaws.{told_model}
use Rattle.lra_solve.proofs.OpeningLaws.{open_learning_so, open_so, reaches_learning_so, reaches_so, sticks_learning_so, sticks_so}

abbrev the_relations : Relations (State MixedFrac)
the_relations = relations limit value_of

-- the theory of these clauses' rows, to which nothing was told, is one to begin with, and nothing is spent
pub search_starts : (c : Clauses) (budget : ℕ) (s : TheoryView (State MixedFrac)) (n : Counts) → IsWellFormed c → IsFresh limit value_of c s → budget ≤ 2 ^ 31
    → n ≡ opening budget → search.IsStart the_relations c s n
search_starts c budget s n formed fresh few none =
    let within : n.limit ≡ budget = ap (λ (m : Counts). m.limit) none in
    record {
      formed = formed;
      rows = fresh.rows;
      untold = fresh.told;
      paid = fresh.owes;
      at_work = fresh.rest;
      opens = fresh.state.opening;
      unspent = none ∙ ap opening (sym within);
      limit = subst (λ k. k ≤ 2 ^ 31) (sym within) few;
    }

module _ (c : Clauses) (budget : ℕ) (start : State MixedFrac) (opens : IsOpeningOf limit value_of c start) where
  abbrev from_start : Relations (State MixedFrac)
  from_start = starting_at start the_relations

  opened : (s : State MixedFrac) → s ≡ start → IsOpeningOf limit value_of c s
  opened s is = subst (λ (t : State MixedFrac). IsOpeningOf limit value_of c t) (sym is) opens

  counted : (spent : Spent) → spent.budget.limit ≡ budget → search.IsTally spent.journal.moves (counts spent.budget) → IsCounted c budget spent
  counted spent within tally =
      let all = charged_spent spent.journal.moves (counts spent.budget) tally in
      let most = spent.budget.within in
      record { limit_is = within; tally = tally; at_most = omega arith }

  -- a place that the journal reaches, where nothing is violated
  calm_at : (s : TheoryView (State MixedFrac)) (spent : Spent) → s.rows ≡ rows_of c → spent.budget.limit ≡ budget
      → search.IsTally spent.journal.moves (counts spent.budget) → HasSolution s.rows s.told → (HasViolated s.state → ⊥)
      → (reached : search.IsReached from_start c spent.journal.moves s) → IsCalmAt c budget reached.place spent
  calm_at s spent rows within tally solution calm reached = record {
    counted = counted spent within tally;
    reached = reaches_so the_relations c (λ t. t ≡ start) (IsOpeningOf limit value_of c) opened spent.journal.moves reached.place reached.reached;
    learned = reaches_learning_so the_relations c (λ t. t ≡ start) (IsOpeningOf limit value_of c) opened spent.journal.moves reached.place reached.learned;
    solution = subst (HasSolution (rows_of c)) (sym reached.trail) (subst (λ (r : Rows). HasSolution r s.told) rows solution);
    calm = subst (λ (t : State MixedFrac). HasViolated t → ⊥) (sym reached.state) calm;
  }

  total_at : (s : TheoryView (State MixedFrac)) (truths : List Bool) (spent : Spent) → s.rows ≡ rows_of c → spent.budget.limit ≡ budget
      → (total : search.IsTotal from_start c s (counts spent.budget) truths spent.journal.moves)
      → IsTotalAt c budget truths total.reached.place spent
  total_at s truths spent rows within total = record {
    at = calm_at s spent rows within total.tally total.solution total.calm total.reached;
    atoms = total.atoms;
    assignment = subst (IsAssignment truths) (sym total.reached.trail) total.assignment;
    clauses = total.clauses;
  }

  -- a model at the corner of the theory's state, which is that of the place reached
  model_at : (s : TheoryView (State MixedFrac)) (moves : List Move) (m : CornerModel) → s.rows ≡ rows_of c
      → (reached : search.IsReached from_start c moves s) → IsCornerModel c s m → AreModelAt c budget m.values m.truths reached.place
  model_at s moves m rows reached is = record {
    at_corner = subst (λ (t : State MixedFrac). AreValuesAt t.corner m.values.over m.values.values) (sym reached.state) is.at_corner;
    met =
        subst (AreMet (rows_of c) (entry m.values.values) (unsigned_abs m.values.over)) (sym reached.trail)
        (subst (λ (r : Rows). AreMet r (entry m.values.values) (unsigned_abs m.values.over) s.told) rows is.met);
    count = is.count;
    over_from = is.over_from;
    each_in = is.each_in;
    atoms = is.atoms;
    model = is.model;
  }

  -- a model where the search was stopped
  pub stopped_law : (s : TheoryView (State MixedFrac)) (m : CornerModel) (spent : Spent) → s.rows ≡ rows_of c → spent.budget.limit ≡ budget
      → search.IsStopped from_start c s (counts spent.budget) spent.journal.moves → IsCornerModel c s m
      → IsFound c budget m.values m.truths spent
  stopped_law s m spent rows within stopped is = record {
    place = stopped.reached.place;
    at = calm_at s spent rows within stopped.tally stopped.calm.solution stopped.calm.calm stopped.reached;
    is_model = model_at s spent.journal.moves m rows stopped.reached is;
  }

  -- the values of a total assignment are a model
  corner_model : (s : TheoryView (State MixedFrac)) (truths : List Bool) (values : Values) (spent : Spent) → s.rows ≡ rows_of c
      → search.IsTotal from_start c s (counts spent.budget) truths spent.journal.moves → AreValuesOf s values
      → IsCornerModel c s (record { values = values; truths = truths })
  corner_model s truths values spent rows total are =
      let met = subst (λ (r : Rows). AreMet r (entry values.values) (unsigned_abs values.over) s.told) rows are.met in
      record {
        at_corner = are.at_corner;
        met = are.met;
        count = are.count ∙ ap (λ (r : Rows). r.columns) rows;
        over_from = are.over_from;
        each_in = are.each_in;
        atoms = total.atoms;
        model = told_model c (entry values.values) (unsigned_abs values.over) truths s.told total.atoms total.assignment total.clauses met;
      }

  -- a model, at the corner of the state that the journal reaches
  found_law : (s : TheoryView (State MixedFrac)) (truths : List Bool) (values : Values) (spent : Spent) → s.rows ≡ rows_of c → spent.budget.limit ≡ budget
      → search.IsTotal from_start c s (counts spent.budget) truths spent.journal.moves → AreValuesOf s values
      → IsFoundTotal c budget values truths spent
  found_law s truths values spent rows within total are = record {
    place = total.reached.place;
    total = total_at s truths spent rows within total;
    is_model =
        model_at s spent.journal.moves (record { values = values; truths = truths }) rows total.reached (corner_model s truths values spent rows total are);
  }

  stuck_total : (s : TheoryView (State MixedFrac)) (truths : List Bool) (stuck : Stuck) (spent : Spent) → s.rows ≡ rows_of c → spent.budget.limit ≡ budget
      → search.IsTotal from_start c s (counts spent.budget) truths spent.journal.moves → IsStuckValue limit s.state.corner stuck
      → IsStuck c budget stuck spent
  stuck_total s truths stuck spent rows within total overflows =
      let at = total_at s truths spent rows within total in
      let there : IsStuckTotal c budget stuck spent = record {
        truths = truths;
        place = total.reached.place;
        total = at;
        overflows = subst (λ (t : State MixedFrac). IsStuckValue limit t.corner stuck) (sym total.reached.state) overflows;
      } in
      record { counted = at.at.counted; overflows = inr there; learned = inr there }

  -- the answer of the values of a total assignment
  valued_law : (s : TheoryView (State MixedFrac)) (truths : List Bool) (spent : Spent) (answer : Solved) → s.rows ≡ rows_of c → spent.budget.limit ≡ budget
      → search.IsTotal from_start c s (counts spent.budget) truths spent.journal.moves → IsValued s truths spent answer → SolvesTotal c budget answer
  valued_law s truths spent (solved.Model values same kept) rows within total is =
      subst (λ (ts : List Bool). IsFoundTotal c budget values ts kept) (sym is.0)
      (subst (λ (x : Spent). IsFoundTotal c budget values truths x) (sym is.1) (found_law s truths values spent rows within total is.2))
  valued_law s truths spent (solved.Closed cert) rows within total is = absurd is
  valued_law s truths spent (solved.Spent kept) rows within total is = absurd is
  valued_law s truths spent (solved.Stuck stuck kept) rows within total is =
      subst (λ (x : Spent). IsStuck c budget stuck x) (sym is.0) (stuck_total s truths stuck spent rows within total is.1)
  valued_law s truths spent solved.NoMemory rows within total is = tt

  closed_law : (cert : Cert) → search.IsClosed from_start c cert → IsLightProof c budget cert
  closed_law cert closed = record { proves = closed.proves; few = closed.few; light = closed.light }

  spent_law : (spent : Spent) → spent.budget.limit ≡ budget → search.IsSpent from_start c (counts spent.budget) spent.journal.moves
      → IsSpent c budget spent
  spent_law spent within is = record {
    counted = counted spent within is.tally;
    all = sym (charged_are from_start c spent.journal.moves) ∙ is.all ∙ within;
    goes_on = open_so the_relations c (λ t. t ≡ start) (IsOpeningOf limit value_of c) opened spent.journal.moves is.goes_on;
    learned = open_learning_so the_relations c (λ t. t ≡ start) (IsOpeningOf limit value_of c) opened spent.journal.moves is.learned;
  }

  stuck_law : (stuck : Stuck) (spent : Spent) → spent.budget.limit ≡ budget
      → search.IsStuck from_start c (counts spent.budget) stuck spent.journal.moves → IsStuck c budget stuck spent
  stuck_law stuck spent within is = record {
    counted = counted spent within is.tally;
    overflows = inl (sticks_so the_relations c (λ t. t ≡ start) (IsOpeningOf limit value_of c) opened spent.journal.moves stuck is.sticks);
    learned = inl (sticks_learning_so the_relations c (λ t. t ≡ start) (IsOpeningOf limit value_of c) opened spent.journal.moves stuck is.learned);
  }

  -- the answer of a search that ended by itself
  pub answered_law : (s : TheoryView (State MixedFrac)) (kept : Budget) (found : Found) (answer : Solved) → s.rows ≡ rows_of c → kept.limit ≡ budget
      → search.Finds from_start c s (counts kept) found → Answers s kept found answer → SolvesTotal c budget answer
  answered_law s kept (found.Total truths journal) answer rows within is answers =
      valued_law s truths (record { budget = kept; journal = journal }) answer rows within is answers
  answered_law s kept (found.Closed cert) answer rows within is answers =
      subst (λ (x : Solved). SolvesTotal c budget x) (sym answers) (closed_law cert is)
  answered_law s kept (found.Spent journal) answer rows within is answers =
      subst (λ (x : Solved). SolvesTotal c budget x) (sym answers) (spent_law (record { budget = kept; journal = journal }) within is)
  answered_law s kept (found.Stuck stuck journal) answer rows within is answers =
      subst (λ (x : Solved). SolvesTotal c budget x) (sym answers) (stuck_law stuck (record { budget = kept; journal = journal }) within is)
  answered_law s kept found.NoMemory answer rows within is answers = subst (λ (x : Solved). SolvesTotal c budget x) (sym answers) tt

-- ---- the two kinds of answers

-- a model at a total assignment is one
pub total_found : (c : Clauses) (budget : ℕ) (values : Values) (truths : List Bool) (spent : Spent) → IsFoundTotal c budget values truths spent
    → IsFound c budget values truths spent
total_found c budget values truths spent found = record { place = found.place; at = found.total.at; is_model = found.is_model }

pub total_solves : (c : Clauses) (budget : ℕ) (answer : Solved) → SolvesTotal c budget answer → Solves c budget answer
total_solves c budget (solved.Model values truths spent) is = total_found c budget values truths spent is
total_solves c budget (solved.Closed cert) is = is
total_solves c budget (solved.Spent spent) is = is
total_solves c budget (solved.Stuck stuck spent) is = is
total_solves c budget solved.NoMemory is = tt

-- a guide that stopped the search holds a model
pub holds_some : (guide : Option CornerModel) (P : CornerModel → Type 0) → IsSomeAnd guide P → IsSome guide
holds_some None P is = absurd is
holds_some (Some m) P is = search rules

-- at a total assignment the theory's last answer was Fine
pub may_value : (R : Relations (State MixedFrac)) (c : Clauses) (s : TheoryView (State MixedFrac)) (n : Counts) (found : Found) → search.Finds R c s n found
    → MayValue s found
may_value R c s n (found.Total truths journal) is = is.fine
may_value R c s n (found.Closed cert) is = tt
may_value R c s n (found.Spent journal) is = tt
may_value R c s n (found.Stuck stuck journal) is = tt
may_value R c s n found.NoMemory is = tt

-- the model of a guide that stopped the search
pub stopped_solves : (c : Clauses) (budget : ℕ) (s : TheoryView (State MixedFrac)) (guide : Option CornerModel) (spent : Spent) (answer : Solved)
    → (start : State MixedFrac) → IsOpeningOf limit value_of c start → s.rows ≡ rows_of c → spent.budget.limit ≡ budget
    → search.IsStopped (starting_at start the_relations) c s (counts spent.budget) spent.journal.moves
    → IsSomeAnd guide (IsCornerModel c s) → IfSome guide (λ m. answer ≡ solved.Model m.values m.truths spent) → Solves c budget answer
stopped_solves c budget s None spent answer start opens rows within stopped is answers = absurd is
stopped_solves c budget s (Some m) spent answer start opens rows within stopped is answers =
    subst (λ (x : Solved). Solves c budget x) (sym answers) (stopped_law c budget start opens s m spent rows within stopped is)
