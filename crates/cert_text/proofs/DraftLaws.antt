-- Adding a line to a certificate that is half read.
use Rattle.std.proofs.Common.{◌≡◌, ℕ, suc, ◌+◌, ◌≤◌, ℤ, pos, Bool, true, false, Result, Ok, Err, List, [], ◌∷◌, ◌++◌, length, map, None, Some, refl, sym, ap, subst, ◌∙◌, append_assoc, arith}
use Rattle.std.proofs.lemmas.List.{append-nil, length-append, map-append}
use Rattle.std.specs.Prelude.{OnOk}
use Rattle.std.specs.List.{AllByRecursion}
use Rattle.whole.specs.declared.answers.ReadFault.{ReadFault}
use Rattle.whole.specs.declared.answers.ReadFault.TheVariants.{Refused, NoMemory}
use Rattle.whole.specs.declared.answers.Refusal.{Refusal}
use Rattle.text_lines.specs.Lines.{is_over}
use Rattle.text_lines.specs.Steps.{◌>>=◌, Fails, numbered}
use Rattle.text_machine.specs.Texts.{Table, step, finish}
use Rattle.text_machine.proofs.ScriptLaws.{numbered-push}
use Rattle.farkas_cert.specs.declared.literals.Lit.{Lit}
use Rattle.farkas_cert.specs.declared.trees.Part.{Part}
use Rattle.farkas_cert.specs.declared.trees.Proof.{Proof}
use Rattle.farkas_cert.specs.declared.certificates.Lemma.{Lemma}
use Rattle.farkas_cert.specs.Trees.{Tree, split, farkas, clause, tree_of, derived}
use Rattle.cert_text.specs.declared.wants.Want.{Want}
use Rattle.cert_text.specs.declared.wants.Want.TheVariants.{Header, Size, Next, Node, Nothing}
use Rattle.cert_text.specs.declared.wants.Line.{Line}
use Rattle.cert_text.specs.declared.wants.Line.TheVariants.{Header as HeaderLine, Size as SizeLine, Lemma as LemmaLine, Split, Clause, Farkas, End}
use Rattle.cert_text.specs.declared.splits.Open.{Open}
use Rattle.cert_text.specs.declared.splits.Open.TheVariants.{First, Second}
use Rattle.cert_text.specs.declared.drafts.Draft.{Draft}
use Rattle.cert_text.specs.Rules.{refusal, form_of, rule_of, ended, line_read, cert_format, Stage, within, behind_tree, behind_line}
use Rattle.cert_text.specs.Tables.{one_number, clause_numbers, farkas_numbers, size_numbers, line_numbers, IsHeader, IsSize, IsOuter, MayStand, tree_table, lemma_table, front_table}
use Rattle.cert_text.specs.Drafts.{due_from, due, open_table, splits_table, Closes, stage, table, Agrees, Taken, TreeTaken, Fed, is_whole, last_rule, finished}

-- ---- open splits

due_first : (depth : ℕ) (later : List ℕ) (splits : List Open) (atom : ℕ) → due_from depth later (splits ++ First atom ∷ []) ≡ (depth + length splits + 1) ∷ due_from depth later splits
due_first depth later [] atom = ap (λ n. n ∷ later) (omega arith)
due_first depth later (First a ∷ splits) atom =
    due_first (depth + 1) ((depth + 1) ∷ later) splits atom ∙ ap (λ n. n ∷ due_from (depth + 1) ((depth + 1) ∷ later) splits) (omega arith)
due_first depth later (Second a held ∷ splits) atom = due_first (depth + 1) later splits atom ∙ ap (λ n. n ∷ due_from (depth + 1) later splits) (omega arith)

due_second : (depth : ℕ) (later : List ℕ) (splits : List Open) (atom : ℕ) (held : Proof) → due_from depth later (splits ++ Second atom held ∷ []) ≡ due_from depth later splits
due_second depth later [] atom held = refl
due_second depth later (First a ∷ splits) atom held = due_second (depth + 1) ((depth + 1) ∷ later) splits atom held
due_second depth later (Second a h ∷ splits) atom held = due_second (depth + 1) later splits atom held

due_pushed : (splits : List Open) (atom : ℕ) → due (splits ++ First atom ∷ []) ≡ (length splits + 1) ∷ due splits
due_pushed splits atom = due_first 0 [] splits atom ∙ ap (λ n. n ∷ due splits) (omega arith)

table_push : (splits : List Open) (open_one : Open) → splits_table (splits ++ open_one ∷ []) ≡ splits_table splits ++ open_table open_one
table_push [] open_one = append-nil (open_table open_one)
table_push (s ∷ splits) open_one = ap (λ (t : Table). open_table s ++ t) (table_push splits open_one) ∙ sym (append_assoc (open_table s) (splits_table splits) (open_table open_one))

-- a tree ends the first side of the innermost split: its second side comes next
pub first_ended : (old splits rest new : List Open) (atom : ℕ) (tree : Proof) (leaf : Tree) → splits ≡ rest ++ First atom ∷ [] → new ≡ rest ++ Second atom tree ∷ []
    → due splits ≡ due old → splits_table splits ++ tree_table (tree_of tree) ≡ splits_table old ++ tree_table leaf
    → (due old ≡ length new ∷ due new) × (splits_table new ≡ splits_table old ++ tree_table leaf)
first_ended old splits rest new atom tree leaf was is same read = (
  sym same ∙ ap due was ∙ due_pushed rest atom
      ∙ ap (λ n. n ∷ due rest) (sym (ap (λ (s : List Open). length s) is ∙ length-append rest (Second atom tree ∷ [])))
      ∙ ap (λ (d : List ℕ). length new ∷ d) (sym (ap due is ∙ due_second 0 [] rest atom tree)),
  ap splits_table is ∙ table_push rest (Second atom tree) ∙ sym (append_assoc (splits_table rest) (open_table (First atom)) (tree_table (tree_of tree)))
      ∙ ap (λ (t : Table). t ++ tree_table (tree_of tree)) (sym (ap splits_table was ∙ table_push rest (First atom))) ∙ read,
)

-- a tree ends the second side of the innermost split, which is a tree of the splits around it
pub second_ended : (splits rest : List Open) (atom : ℕ) (held tree whole : Proof) (d : List ℕ) (total : Table) → splits ≡ rest ++ Second atom held ∷ [] → tree_of whole ≡ split atom (tree_of held) (tree_of tree)
    → due splits ≡ d → splits_table splits ++ tree_table (tree_of tree) ≡ total
    → (due rest ≡ d) × (splits_table rest ++ tree_table (tree_of whole) ≡ total)
unfolding tree_table
second_ended splits rest atom held tree whole d total was is same read = (
  sym (ap due was ∙ due_second 0 [] rest atom held) ∙ same,
  ap (λ (t : Tree). splits_table rest ++ tree_table t) is
      ∙ sym (append_assoc (splits_table rest) (open_table (Second atom held)) (tree_table (tree_of tree)))
      ∙ ap (λ (t : Table). t ++ tree_table (tree_of tree)) (sym (ap splits_table was ∙ table_push rest (Second atom held))) ∙ read,
)

-- ---- lines that aren't nodes

abbrev draft : ℕ → ℕ → ℕ → List Lemma → List Lit → List Open → Want → Draft
draft columns atoms clauses lemmas lits splits want = record { columns = columns; atoms = atoms; clauses = clauses; lemmas = lemmas; clause = lits; splits = splits; want = want }

same_length : (lemmas : List Lemma) → length lemmas ≤ suc (length lemmas)
same_length lemmas = omega arith

pub header_taken : (columns atoms clauses : ℕ) (lemmas : List Lemma) (lits : List Lit) (splits : List Open) (want : Want) (version : ℕ) → MayStand want (HeaderLine version) → Agrees (draft columns atoms clauses lemmas lits splits want)
    → Taken (draft columns atoms clauses lemmas lits splits want) (line_numbers want (HeaderLine version)) (draft columns atoms clauses lemmas lits splits Size)
unfolding MayStand Agrees stage table line_numbers behind_line
header_taken columns atoms clauses lemmas lits splits Header version may agrees =
    record { leads = refl; grown = ap (λ n. one_number n ∷ []) (sym may); agrees = agrees; few = same_length lemmas }
header_taken columns atoms clauses lemmas lits splits Size version may agrees = absurd may
header_taken columns atoms clauses lemmas lits splits (Next j) version may agrees = absurd may
header_taken columns atoms clauses lemmas lits splits (Node depth) version may agrees = absurd may.1
header_taken columns atoms clauses lemmas lits splits Nothing version may agrees = absurd may

pub size_taken : (columns atoms clauses : ℕ) (lemmas : List Lemma) (lits : List Lit) (splits : List Open) (want : Want) (a b c : ℕ) → MayStand want (SizeLine a b c) → Agrees (draft columns atoms clauses lemmas lits splits want)
    → Taken (draft columns atoms clauses lemmas lits splits want) (line_numbers want (SizeLine a b c)) (draft a b c lemmas lits splits (Next 0))
unfolding MayStand Agrees stage table line_numbers behind_line numbered
size_taken columns atoms clauses lemmas lits splits Header a b c may agrees = absurd may
size_taken columns atoms clauses lemmas lits splits Size a b c may agrees =
    record {
      leads = refl;
      grown = ap (λ (ls : List Lemma). front_table a b c (map derived ls)) agrees.0;
      agrees = (ap (λ (ls : List Lemma). length ls) (sym agrees.0), agrees.1);
      few = same_length lemmas;
    }
size_taken columns atoms clauses lemmas lits splits (Next j) a b c may agrees = absurd may
size_taken columns atoms clauses lemmas lits splits (Node depth) a b c may agrees = absurd may.1
size_taken columns atoms clauses lemmas lits splits Nothing a b c may agrees = absurd may

pub lemma_taken : (columns atoms clauses : ℕ) (lemmas : List Lemma) (lits : List Lit) (splits : List Open) (want : Want) (new : List Lit) → MayStand want (LemmaLine new) → Agrees (draft columns atoms clauses lemmas lits splits want)
    → Taken (draft columns atoms clauses lemmas lits splits want) (line_numbers want (LemmaLine new)) (draft columns atoms clauses lemmas new splits (Node 0))
unfolding MayStand Agrees stage table line_numbers behind_line
lemma_taken columns atoms clauses lemmas lits splits Header new may agrees = absurd may
lemma_taken columns atoms clauses lemmas lits splits Size new may agrees = absurd may
lemma_taken columns atoms clauses lemmas lits splits (Next j) new may agrees =
    record {
      leads = ap (λ k. within k 0 []) agrees.0 ∙ ap (λ (os : List Open). within (length lemmas) 0 (due os)) (sym agrees.1);
      grown =
          ap (λ (os : List Open). front_table columns atoms clauses (map derived lemmas) ++ (pos 0 ∷ clause_numbers (length lemmas) new) ∷ splits_table os) agrees.1
          ∙ ap (λ k. front_table columns atoms clauses (map derived lemmas) ++ (pos 0 ∷ clause_numbers k new) ∷ []) (sym agrees.0);
      agrees = ap (λ (os : List Open). length os) (sym agrees.1);
      few = same_length lemmas;
    }
lemma_taken columns atoms clauses lemmas lits splits (Node depth) new may agrees = absurd may.1
lemma_taken columns atoms clauses lemmas lits splits Nothing new may agrees = absurd may

pub end_taken : (columns atoms clauses : ℕ) (lemmas : List Lemma) (lits : List Lit) (splits : List Open) (want : Want) → MayStand want End → Agrees (draft columns atoms clauses lemmas lits splits want)
    → Taken (draft columns atoms clauses lemmas lits splits want) (line_numbers want End) (draft columns atoms clauses lemmas lits splits Nothing)
unfolding MayStand Agrees stage table line_numbers behind_line
end_taken columns atoms clauses lemmas lits splits Header may agrees = absurd may
end_taken columns atoms clauses lemmas lits splits Size may agrees = absurd may
end_taken columns atoms clauses lemmas lits splits (Next j) may agrees = record { leads = refl; grown = refl; agrees = tt; few = same_length lemmas }
end_taken columns atoms clauses lemmas lits splits (Node depth) may agrees = absurd may.1
end_taken columns atoms clauses lemmas lits splits Nothing may agrees = absurd may

-- ---- nodes

pub split_taken : (columns atoms clauses : ℕ) (lemmas : List Lemma) (lits : List Lit) (splits : List Open) (want : Want) (atom : ℕ) → MayStand want (Split atom) → Agrees (draft columns atoms clauses lemmas lits splits want)
    → Taken (draft columns atoms clauses lemmas lits splits want) (line_numbers want (Split atom)) (draft columns atoms clauses lemmas lits (splits ++ First atom ∷ []) (Node (length splits + 1)))
unfolding MayStand Agrees stage table line_numbers behind_line
split_taken columns atoms clauses lemmas lits splits Header atom may agrees = absurd may
split_taken columns atoms clauses lemmas lits splits Size atom may agrees = absurd may
split_taken columns atoms clauses lemmas lits splits (Next j) atom may agrees = absurd may
split_taken columns atoms clauses lemmas lits splits (Node depth) atom may agrees =
    let head = front_table columns atoms clauses (map derived lemmas) in
    let first = pos 0 ∷ clause_numbers (length lemmas) lits in
    record {
      leads = ap (λ n. within (length lemmas) (n + 1) ((n + 1) ∷ due splits)) agrees ∙ ap (λ (d : List ℕ). within (length lemmas) (length splits + 1) d) (sym (due_pushed splits atom));
      grown = ap (λ (t : Table). head ++ first ∷ t) (table_push splits (First atom)) ∙ sym (append_assoc head (first ∷ splits_table splits) (open_table (First atom)));
      agrees = sym (length-append splits (First atom ∷ []));
      few = same_length lemmas;
    }
split_taken columns atoms clauses lemmas lits splits Nothing atom may agrees = absurd may

-- a leaf is a tree of one line
pub clause_taken : (old new : Draft) (number : ℕ) → MayStand old.want (Clause number) → Agrees old → TreeTaken old (clause number) new → Taken old (line_numbers old.want (Clause number)) new
unfolding tree_table line_numbers stage behind_line MayStand
clause_taken old new number may agrees taken = by_want old.want refl may
  where
    by_want : (want : Want) → old.want ≡ want → MayStand want (Clause number) → Taken old (line_numbers old.want (Clause number)) new
    by_want Header e m = absurd m
    by_want Size e m = absurd m
    by_want (Next j) e m = absurd m
    by_want (Node depth) e m =
        record { leads = ap (λ w. behind_line (stage_with w) (pos 3 ∷ one_number number)) e ∙ taken.leads; grown = taken.grown; agrees = taken.agrees; few = taken.few }
      where
        stage_with : Want → Stage
        stage_with w = stage (draft old.columns old.atoms old.clauses old.lemmas old.clause old.splits w)
    by_want Nothing e m = absurd m

pub farkas_taken : (old new : Draft) (parts : List Part) → MayStand old.want (Farkas parts) → Agrees old → TreeTaken old (farkas parts) new → Taken old (line_numbers old.want (Farkas parts)) new
unfolding tree_table line_numbers stage behind_line MayStand
farkas_taken old new parts may agrees taken = by_want old.want refl may
  where
    by_want : (want : Want) → old.want ≡ want → MayStand want (Farkas parts) → Taken old (line_numbers old.want (Farkas parts)) new
    by_want Header e m = absurd m
    by_want Size e m = absurd m
    by_want (Next j) e m = absurd m
    by_want (Node depth) e m =
        record { leads = ap (λ w. behind_line (stage_with w) (pos 4 ∷ farkas_numbers parts)) e ∙ taken.leads; grown = taken.grown; agrees = taken.agrees; few = taken.few }
      where
        stage_with : Want → Stage
        stage_with w = stage (draft old.columns old.atoms old.clauses old.lemmas old.clause old.splits w)
    by_want Nothing e m = absurd m

-- ---- the end of a tree

-- other sides are due
pub tree_goes_on : (columns atoms clauses : ℕ) (lemmas : List Lemma) (lits : List Lit) (old new : List Open) (tree : Tree) → Closes old tree new None
    → TreeTaken (draft columns atoms clauses lemmas lits old (Node (length old))) tree (draft columns atoms clauses lemmas lits new (Node (length new)))
unfolding Agrees stage table
tree_goes_on columns atoms clauses lemmas lits old new tree closes =
    let head = front_table columns atoms clauses (map derived lemmas) in
    let first = pos 0 ∷ clause_numbers (length lemmas) lits in
    record {
      leads = ap (behind_tree (length lemmas)) closes.0;
      grown = ap (λ (t : Table). head ++ first ∷ t) closes.1 ∙ sym (append_assoc head (first ∷ splits_table old) (tree_table tree));
      agrees = refl;
      few = same_length lemmas;
    }

-- the lemma is whole
pub lemma_ends : (columns atoms clauses : ℕ) (lemmas : List Lemma) (lits : List Lit) (old new : List Open) (tree : Tree) (proof : Proof) → Closes old tree new (Some proof)
    → TreeTaken (draft columns atoms clauses lemmas lits old (Node (length old))) tree (draft columns atoms clauses (lemmas ++ record { clause = lits; proof = proof } ∷ []) [] new (Next (length lemmas + 1)))
unfolding Agrees stage table
lemma_ends columns atoms clauses lemmas lits old new tree proof closes =
    let one : Lemma = record { clause = lits; proof = proof } in
    let head = front_table columns atoms clauses (map derived lemmas) in
    let first = pos 0 ∷ clause_numbers (length lemmas) lits in
    record {
      leads = ap (behind_tree (length lemmas)) closes.0;
      grown =
          ap (front_table columns atoms clauses) (map-append derived lemmas (one ∷ []))
          ∙ ap (λ (t : Table). one_number 1 ∷ size_numbers columns atoms clauses ∷ t) (numbered-push lemma_table 0 (length lemmas) (map derived lemmas) (derived one) (omega (arith, length_map lemmas)))
          ∙ ap (λ (t : Table). head ++ first ∷ t) closes.1.1
          ∙ sym (append_assoc head (first ∷ splits_table old) (tree_table tree));
      agrees = (sym (length-append lemmas (one ∷ [])), closes.1.0);
      few = omega (arith, length-append lemmas (one ∷ []));
    }
  where
    length_map : (ls : List Lemma) → length (map derived ls) ≡ length ls
    length_map [] = refl
    length_map (l ∷ ls) = ap suc (length_map ls)

-- ---- the end of the text

pub whole_is : (columns atoms clauses : ℕ) (lemmas : List Lemma) (lits : List Lit) (splits : List Open) (want : Want) (k : ℕ) (rest : List ℕ) (over_now : Bool) → is_whole want over_now ≡ true → over_now ≡ is_over (rest ∷ [])
    → finished (draft columns atoms clauses lemmas lits splits want) k rest ≡ Ok (front_table columns atoms clauses (map derived lemmas) ++ one_number 1 ∷ [])
unfolding stage table finish form_of is_over
whole_is columns atoms clauses lemmas lits splits Nothing k [] now w e = ap (λ (t : Table). Ok t) (append-nil (front_table columns atoms clauses (map derived lemmas) ++ one_number 1 ∷ []))
whole_is columns atoms clauses lemmas lits splits Nothing k (b ∷ rest) now w e = absurd (cc)
whole_is columns atoms clauses lemmas lits splits Header k rest now w e = absurd (cc)
whole_is columns atoms clauses lemmas lits splits Size k rest now w e = absurd (cc)
whole_is columns atoms clauses lemmas lits splits (Next j) k rest now w e = absurd (cc)
whole_is columns atoms clauses lemmas lits splits (Node depth) k rest now w e = absurd (cc)

pub unfinished_is : (columns atoms clauses : ℕ) (lemmas : List Lemma) (lits : List Lit) (splits : List Open) (want : Want) (k : ℕ) (rest : List ℕ) (over_now : Bool) → is_whole want over_now ≡ false → over_now ≡ is_over (rest ∷ [])
    → finished (draft columns atoms clauses lemmas lits splits want) k rest ≡ Err (refusal (last_rule want over_now) k)
unfolding stage table finish form_of ended is_over
unfinished_is columns atoms clauses lemmas lits splits Nothing k [] now w e = absurd (cc)
unfinished_is columns atoms clauses lemmas lits splits Nothing k (b ∷ rest) now w e = refl
unfinished_is columns atoms clauses lemmas lits splits Header k [] now w e = ap (λ t. Err (refusal (last_rule Header t) k)) (sym e)
unfinished_is columns atoms clauses lemmas lits splits Header k (b ∷ rest) now w e = ap (λ t. Err (refusal (last_rule Header t) k)) (sym e)
unfinished_is columns atoms clauses lemmas lits splits Size k rest now w e = refl
unfinished_is columns atoms clauses lemmas lits splits (Next j) k rest now w e = refl
unfinished_is columns atoms clauses lemmas lits splits (Node depth) k rest now w e = refl

-- ---- what is wanted where a node may stand

node_at : (columns atoms clauses : ℕ) (lemmas : List Lemma) (lits : List Lit) (splits : List Open) (want : Want) (line : Line) → (IsHeader line → ⊥) → (IsSize line → ⊥) → (IsOuter line → ⊥)
    → MayStand want line → Agrees (draft columns atoms clauses lemmas lits splits want) → (want ≡ Node (length splits)) × (length splits ≤ 4096)
unfolding MayStand Agrees
node_at columns atoms clauses lemmas lits splits Header line a b c may agrees = absurd (a may)
node_at columns atoms clauses lemmas lits splits Size line a b c may agrees = absurd (b may)
node_at columns atoms clauses lemmas lits splits (Next j) line a b c may agrees = absurd (c may)
node_at columns atoms clauses lemmas lits splits (Node depth) line a b c may agrees = (ap (λ n. Node n) agrees, subst (λ n. n ≤ 4096) agrees may.0)
node_at columns atoms clauses lemmas lits splits Nothing line a b c may agrees = absurd may

pub node_wanted : (d : Draft) (line : Line) → (IsHeader line → ⊥) → (IsSize line → ⊥) → (IsOuter line → ⊥) → MayStand d.want line → Agrees d → (d.want ≡ Node (length d.splits)) × (length d.splits ≤ 4096)
node_wanted d line a b c may agrees = node_at d.columns d.atoms d.clauses d.lemmas d.clause d.splits d.want line a b c may agrees

-- ---- the next line of a draft

step_is : (columns atoms clauses : ℕ) (lemmas : List Lemma) (lits : List Lit) (splits : List Open) (want : Want) (k : ℕ) (line : List ℕ)
    → step cert_format (stage (draft columns atoms clauses lemmas lits splits want)) k line
    ≡ (line_read want k line >>= λ zs. Ok (zs, behind_line (stage (draft columns atoms clauses lemmas lits splits want)) zs))
unfolding step stage line_read form_of rule_of
step_is columns atoms clauses lemmas lits splits Header k line = refl
step_is columns atoms clauses lemmas lits splits Size k line = refl
step_is columns atoms clauses lemmas lits splits (Next j) k line = refl
step_is columns atoms clauses lemmas lits splits (Node depth) k line = refl
step_is columns atoms clauses lemmas lits splits Nothing k line = refl

abbrev Stepped : Type 0
Stepped = List ℤ × Stage

draft_step : (d : Draft) (k : ℕ) (line : List ℕ) → step cert_format (stage d) k line ≡ (line_read d.want k line >>= λ zs. Ok (zs, behind_line (stage d) zs))
draft_step d k line = step_is d.columns d.atoms d.clauses d.lemmas d.clause d.splits d.want k line

pub fed_by : (old new : Draft) (k : ℕ) (line : List ℕ) (zs : List ℤ) → line_read old.want k line ≡ Ok zs → Taken old zs new → Fed old k line new
fed_by old new k line zs read taken = record {
  numbers = zs;
  read = draft_step old k line ∙ ap (λ (r : Result (List ℤ) Refusal). r >>= λ ys. Ok (ys, behind_line (stage old) ys)) read ∙ ap (λ (s : Stage). Ok (zs, s)) taken.leads;
  grown = taken.grown;
  agrees = taken.agrees;
  few = taken.few;
}

pub fed_fails : (old : Draft) (k : ℕ) (line : List ℕ) (fault : ReadFault) → Fails fault (line_read old.want k line) → Fails fault (step cert_format (stage old) k line)
fed_fails old k line NoMemory failed = tt
fed_fails old k line (Refused r) failed = draft_step old k line ∙ ap (λ (x : Result (List ℤ) Refusal). x >>= λ ys. Ok (ys, behind_line (stage old) ys)) failed

-- ---- a leaf

due_bounded : (depth : ℕ) (later : List ℕ) (splits : List Open) (bound : ℕ) → depth + length splits ≤ bound → AllByRecursion (λ n. n ≤ bound) later → AllByRecursion (λ n. n ≤ bound) (due_from depth later splits)
due_bounded depth later [] bound le all = all
due_bounded depth later (First atom ∷ splits) bound le all = due_bounded (depth + 1) ((depth + 1) ∷ later) splits bound (omega (arith, le)) (omega (arith, le), all)
due_bounded depth later (Second atom held ∷ splits) bound le all = due_bounded (depth + 1) later splits bound (omega (arith, le)) all

pub closes_shorter : (old new : List Open) (tree : Tree) → Closes old tree new None → length new ≤ length old
closes_shorter old new tree closes = (subst (AllByRecursion (λ n. n ≤ length old)) closes.0 (due_bounded 0 [] old (length old) (omega arith) tt)).0

pub put_on : (d : Draft) (tree : Tree) (new : List Open) → d.want ≡ Node (length d.splits) → Closes d.splits tree new None
    → TreeTaken d tree (draft d.columns d.atoms d.clauses d.lemmas d.clause new (Node (length new)))
put_on d tree new wanted closes =
    subst (λ (w : Want). TreeTaken (draft d.columns d.atoms d.clauses d.lemmas d.clause d.splits w) tree (draft d.columns d.atoms d.clauses d.lemmas d.clause new (Node (length new)))) (sym wanted)
    (tree_goes_on d.columns d.atoms d.clauses d.lemmas d.clause d.splits new tree closes)

pub put_last : {E : Type 0} (d : Draft) (tree : Tree) (new : List Open) (proof : Proof) (result : Result (Unit {0}) E) (after : Draft) → d.want ≡ Node (length d.splits) → Closes d.splits tree new (Some proof)
    → OnOk result (after ≡ draft d.columns d.atoms d.clauses (d.lemmas ++ record { clause = d.clause; proof = proof } ∷ []) [] new (Next (length d.lemmas + 1)))
    → OnOk result (TreeTaken d tree after)
put_last d tree new proof (Err e) after wanted closes is = is
put_last d tree new proof (Ok x) after wanted closes is =
    subst (TreeTaken d tree) (sym is)
    (subst (λ (w : Want). TreeTaken (draft d.columns d.atoms d.clauses d.lemmas d.clause d.splits w) tree (draft d.columns d.atoms d.clauses (d.lemmas ++ record { clause = d.clause; proof = proof } ∷ []) [] new (Next (length d.lemmas + 1)))) (sym wanted)
    (lemma_ends d.columns d.atoms d.clauses d.lemmas d.clause d.splits new tree proof closes))
