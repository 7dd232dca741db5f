-- The trees of conditions that the code makes, and the parts of conditions.
use Rattle.std.proofs.Common.{◌≡◌, ℕ, ◌+◌, ◌<◌, ◌≤◌, List, [], ◌∷◌, ◌++◌, map, length, get_or, drop, Option, None, Some, Result, Ok, Err, refl, sym, ap, ◌∙◌}
use Rattle.std.specs.Option.{option_map}
use Rattle.std.specs.Global.{Vec}
use Rattle.std.proofs.lemmas.List.{map-append}
use Rattle.text_lines.specs.Steps.{Fails}
use Rattle.whole.specs.declared.answers.ReadFault.{ReadFault}
use Rattle.whole.specs.declared.answers.ReadFault.TheVariants.{Refused, NoMemory}
use Rattle.whole.specs.declared.answers.Refusal.{Refusal}
use Rattle.path_server.specs.declared.settings.Setting.{Setting}
use Rattle.condition_syntax.specs.Trees as written
use Rattle.condition_syntax.specs.declared.conditions.Cond.{Cond}
use Rattle.condition_syntax.specs.declared.conditions.Cond.TheVariants as conds
use Rattle.condition_syntax.proofs.TreeLaws.{condition_of-And as written_of-And, condition_of-Or as written_of-Or}
use Rattle.ctrl_types.specs.declared.controllers.State.{State}
use Rattle.question_syntax.specs.Reading.{refusal}
use Rattle.question_text.specs.declared.conditions.QCond.{QCond}
use Rattle.question_text.specs.declared.conditions.QCond.TheOpen.{QCond-F}
use Rattle.question_text.specs.declared.conditions.QCond.TheFolds.{fold-roll-QCond}
use Rattle.question_text.specs.declared.conditions.QCond.TheVariants.{And, Or, rolls-And, rolls-Or}
use Rattle.question_text.specs.Conditions.{Condition, conjunction, disjunction, all_of, any_of, condition_of, condition_step}
use Rattle.question_text.specs.NamedValues.{each_found, in_front, lin_meant, lin_of_terms, of_written, term_meant}
use Rattle.question_text.specs.declared.conditions.Of.{Of}
use Rattle.question_text.specs.declared.conditions.QTerm.{QTerm}
use Rattle.condition_syntax.specs.declared.expressions.ETerm.{ETerm}
use Rattle.condition_syntax.specs.declared.expressions.Expr.{Expr}
use Rattle.question_text.specs.StatementRules.{joined, meant}
use Rattle.question_text.specs.Resolution.{wanted}
use Rattle.question_text.proofs.FoundLoop.{behind, goes_on, stops, ends}

pub condition_of-And : (parts : Vec QCond) → condition_of (And parts) ≡ conjunction (map condition_of parts.items)
condition_of-And parts = ap condition_of (sym (rolls-And parts)) ∙ fold-roll-QCond Condition condition_step (QCond-F.And parts)

pub condition_of-Or : (parts : Vec QCond) → condition_of (Or parts) ≡ disjunction (map condition_of parts.items)
condition_of-Or parts = ap condition_of (sym (rolls-Or parts)) ∙ fold-roll-QCond Condition condition_step (QCond-F.Or parts)

-- ---- what the parts mean together

pub meant-conjunction : (states : List State) (s : Setting) (cs : List written.Condition)
    → meant states s (written.conjunction cs) ≡ option_map conjunction (each_found (meant states s) cs)
unfolding meant each_found
meant-conjunction states s [] = refl
meant-conjunction states s (c ∷ cs) = ap (joined all_of (meant states s c)) (meant-conjunction states s cs) ∙ by (meant states s c) (each_found (meant states s) cs)
  where
    by : (d : Option Condition) (ds : Option (List Condition)) → joined all_of d (option_map conjunction ds) ≡ option_map conjunction (in_front d ds)
    by None ds = refl
    by (Some d) None = refl
    by (Some d) (Some ds) = refl

pub meant-disjunction : (states : List State) (s : Setting) (cs : List written.Condition)
    → meant states s (written.disjunction cs) ≡ option_map disjunction (each_found (meant states s) cs)
unfolding meant each_found
meant-disjunction states s [] = refl
meant-disjunction states s (c ∷ cs) = ap (joined any_of (meant states s c)) (meant-disjunction states s cs) ∙ by (meant states s c) (each_found (meant states s) cs)
  where
    by : (d : Option Condition) (ds : Option (List Condition)) → joined any_of d (option_map disjunction ds) ≡ option_map disjunction (in_front d ds)
    by None ds = refl
    by (Some d) None = refl
    by (Some d) (Some ds) = refl

-- ---- what a call gives for the whole, from what it gives for the parts

some_wanted : {X : Type 0} (x y : X) → ◌≡◌ {A = Result X Refusal} (Ok x) (Ok y) → x ≡ y
some_wanted x y e = cc

refused_so : {X Y : Type 0} (r t : Refusal) → ◌≡◌ {A = Result X Refusal} (Err r) (Err t) → ◌≡◌ {A = Result Y Refusal} (Err r) (Err t)
refused_so {X} {Y} r t e = let same : r ≡ t = cc in ap (λ (u : Refusal). Err u) same

not_refused : {X : Type 0} (x : X) (r : Refusal) → ◌≡◌ {A = Result X Refusal} (Ok x) (Err r) → ⊥
not_refused x r e = cc

all_gives : {X Y : Type 0} (join : List X → Y) (found : Option (List X)) (whole : Option Y) (n line : ℕ) (xs : List X) → whole ≡ option_map join found
    → wanted found n line ≡ Ok xs → wanted whole n line ≡ Ok (join xs)
all_gives join None whole n line xs is e = absurd (cc)
all_gives {X} {Y} join (Some ys) whole n line xs is e =
    ap (λ (w : Option Y). wanted w n line) is ∙ ap (λ (zs : List X). Ok (join zs)) (some_wanted ys xs e)

all_fail : {X Y : Type 0} (join : List X → Y) (found : Option (List X)) (whole : Option Y) (n line : ℕ) (fault : ReadFault) → whole ≡ option_map join found
    → Fails fault (wanted found n line) → Fails fault (wanted whole n line)
all_fail join found whole n line NoMemory is fails = tt
all_fail {X} {Y} join None whole n line (Refused r) is fails =
    ap (λ (w : Option Y). wanted w n line) is ∙ refused_so {X = List X} {Y = Y} (refusal n line) r fails
all_fail join (Some xs) whole n line (Refused r) is fails = absurd (not_refused xs r fails)

module _ (states : List State) (s : Setting) (line : ℕ) (cond : Cond) (parts : Vec Cond) where
  module _ (is : cond ≡ conds.And parts) where
    whole_all : meant states s (written.condition_of cond) ≡ option_map conjunction (each_found (meant states s) (map written.condition_of parts.items))
    whole_all = ap (λ (x : Cond). meant states s (written.condition_of x)) is ∙ ap (meant states s) (written_of-And parts) ∙ meant-conjunction states s (map written.condition_of parts.items)

    pub And_gives : (made : Vec QCond) → wanted (each_found (meant states s) (map written.condition_of parts.items)) 12 line ≡ Ok (map condition_of made.items)
        → wanted (meant states s (written.condition_of cond)) 12 line ≡ Ok (condition_of (And made))
    And_gives made e = all_gives conjunction _ _ 12 line (map condition_of made.items) whole_all e ∙ ap (λ (c : Condition). Ok c) (sym (condition_of-And made))

    pub And_fails : (fault : ReadFault) → Fails fault (wanted (each_found (meant states s) (map written.condition_of parts.items)) 12 line)
        → Fails fault (wanted (meant states s (written.condition_of cond)) 12 line)
    And_fails fault fails = all_fail conjunction _ _ 12 line fault whole_all fails

  module _ (is : cond ≡ conds.Or parts) where
    whole_any : meant states s (written.condition_of cond) ≡ option_map disjunction (each_found (meant states s) (map written.condition_of parts.items))
    whole_any = ap (λ (x : Cond). meant states s (written.condition_of x)) is ∙ ap (meant states s) (written_of-Or parts) ∙ meant-disjunction states s (map written.condition_of parts.items)

    pub Or_gives : (made : Vec QCond) → wanted (each_found (meant states s) (map written.condition_of parts.items)) 12 line ≡ Ok (map condition_of made.items)
        → wanted (meant states s (written.condition_of cond)) 12 line ≡ Ok (condition_of (Or made))
    Or_gives made e = all_gives disjunction _ _ 12 line (map condition_of made.items) whole_any e ∙ ap (λ (c : Condition). Ok c) (sym (condition_of-Or made))

    pub Or_fails : (fault : ReadFault) → Fails fault (wanted (each_found (meant states s) (map written.condition_of parts.items)) 12 line)
        → Fails fault (wanted (meant states s (written.condition_of cond)) 12 line)
    Or_fails fault fails = all_fail disjunction _ _ 12 line fault whole_any fails

-- ---- terms

module _ (states : List State) (s : Setting) where
  pub term_found : (t : ETerm) (of : Of) → Some of ≡ of_written states s t.name → term_meant states s t ≡ Some (record { coef = t.coef; of = of })
  term_found t of is = ap (option_map (λ (x : Of). record { coef = t.coef; of = x })) (sym is)

  pub term_missing : (t : ETerm) → None ≡ of_written states s t.name → term_meant states s t ≡ None
  term_missing t is = ap (option_map (λ (x : Of). record { coef = t.coef; of = x })) (sym is)

  pub lin_found : (expr : Expr) (line : ℕ) (items : List ETerm) (terms : List QTerm) → items ≡ expr.terms → each_found (term_meant states s) items ≡ Some terms
      → wanted (lin_meant states s expr) 12 line ≡ Ok (lin_of_terms terms)
  unfolding lin_meant
  lin_found expr line items terms same is =
      ap (λ (ts : List ETerm). wanted (option_map lin_of_terms (each_found (term_meant states s) ts)) 12 line) (sym same)
      ∙ ap (λ (o : Option (List QTerm)). wanted (option_map lin_of_terms o) 12 line) is

  pub lin_missing : (expr : Expr) (line : ℕ) (items : List ETerm) → items ≡ expr.terms → each_found (term_meant states s) items ≡ None
      → wanted (lin_meant states s expr) 12 line ≡ Err (refusal 12 line)
  unfolding lin_meant
  lin_missing expr line items same is =
      ap (λ (ts : List ETerm). wanted (option_map lin_of_terms (each_found (term_meant states s) ts)) 12 line) (sym same)
      ∙ ap (λ (o : Option (List QTerm)). wanted (option_map lin_of_terms o) 12 line) is

-- ---- the parts, one after another

abbrev pub part_meant : List State → Setting → Cond → Option Condition
part_meant states s part = meant states s (written.condition_of part)

pub each_found-map : {X Y Z : Type 0} (find : Y → Option Z) (g : X → Y) (xs : List X) → each_found find (map g xs) ≡ each_found (λ x. find (g x)) xs
unfolding each_found
each_found-map find g [] = refl
each_found-map find g (x ∷ xs) = ap (in_front (find (g x))) (each_found-map find g xs)

found_by : {X : Type 0} (found : Option X) (n line : ℕ) (x : X) → wanted found n line ≡ Ok x → found ≡ Some x
found_by None n line x e = absurd (cc)
found_by {X} (Some y) n line x e = ap (λ (z : X). Some z) (some_wanted y x e)

missing_fails : {X Y : Type 0} (found : Option X) (all : Option Y) (n line : ℕ) (r : Refusal) → (found ≡ None → all ≡ None)
    → wanted found n line ≡ Err r → wanted all n line ≡ Err r
missing_fails {X} {Y} None all n line r none e = ap (λ (o : Option Y). wanted o n line) (none refl) ∙ refused_so {X = X} {Y = Y} (refusal n line) r e
missing_fails (Some x) all n line r none e = absurd (not_refused x r e)

module _ (states : List State) (s : Setting) (line : ℕ) (parts : List Cond) (i : ℕ) (made : List QCond) (total : Option (List Condition))
    (so_far : behind (map condition_of made) (each_found (part_meant states s) (drop i parts)) ≡ total) where
  pub parts_go_on : (part : Cond) (inner : QCond) (more : List QCond) → part ≡ get_or parts i part → i < length parts → wanted (part_meant states s part) 12 line ≡ Ok (condition_of inner)
      → more ≡ made ++ inner ∷ [] → behind (map condition_of more) (each_found (part_meant states s) (drop (i + 1) parts)) ≡ total
  parts_go_on part inner more here inside e pushed =
      let front : map condition_of more ≡ map condition_of made ++ condition_of inner ∷ [] = ap (map condition_of) pushed ∙ map-append condition_of made (inner ∷ []) in
      ap (λ (cs : List Condition). behind cs (each_found (part_meant states s) (drop (i + 1) parts))) front
      ∙ goes_on (part_meant states s) parts i (map condition_of made) total so_far part (condition_of inner) here inside (found_by (part_meant states s part) 12 line (condition_of inner) e)

  pub parts_fail : (part : Cond) (fault : ReadFault) → part ≡ get_or parts i part → i < length parts → Fails fault (wanted (part_meant states s part) 12 line)
      → Fails fault (wanted total 12 line)
  parts_fail part NoMemory here inside e = tt
  parts_fail part (Refused r) here inside e =
      missing_fails (part_meant states s part) total 12 line r (stops (part_meant states s) parts i (map condition_of made) total so_far part here inside) e

  pub parts_end : length parts ≤ i → wanted total 12 line ≡ Ok (map condition_of made)
  parts_end done = ap (λ (o : Option (List Condition)). wanted o 12 line) (ends (part_meant states s) parts i (map condition_of made) total so_far done)
