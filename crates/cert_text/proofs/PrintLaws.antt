-- Writing a certificate.
use Rattle.std.proofs.Common.{add-one, ◌≡◌, ℕ, ◌+◌, ◌<◌, ◌≤◌, Result, Ok, Err, List, [], ◌∷◌, ◌++◌, length, map, get_or, drop, refl, sym, ap, ◌∙◌, append_assoc}
use Rattle.std.specs.Prelude.{OnOk}
use Rattle.std.specs.Fmt.{signed_decimal}
use Rattle.std.specs.Global.{Box}
use Rattle.std.proofs.lemmas.List.{append-nil}
use Rattle.std.proofs.Math.Seq.{drop-cons}
use Rattle.std.proofs.Math.ListN.{drop_of_length-le}
use Rattle.text_lines.specs.Pieces.{ended, spaced, text}
use Rattle.text_lines.specs.Steps.{numbered}
use Rattle.text_lines.proofs.PieceLaws.{text-append, text-push, text_of_one, line_then}
use Rattle.farkas_cert.specs.declared.trees.Part.{Part}
use Rattle.farkas_cert.specs.declared.trees.Proof.{Proof}
use Rattle.farkas_cert.specs.declared.trees.Proof.TheOpen.{Proof-F}
use Rattle.farkas_cert.specs.declared.trees.Proof.TheFolds.{fold-roll-Proof}
use Rattle.farkas_cert.specs.declared.trees.Proof.TheVariants.{Split, Farkas, Clause, rolls-Split, rolls-Farkas, rolls-Clause}
use Rattle.farkas_cert.specs.Trees.{Tree, split, farkas, clause, tree_step, tree_of}
use Rattle.cert_text.specs.Spelling.{Certificate, literal_item, part_items, split_line, clause_line, farkas_line, tree_lines, header, size_line, lemma_lines, end_line, cert_lines, IsWithin, IsCertText}

-- a part was written
pub parts_go_on : (d : Part) (parts : List Part) (i : ℕ) (old now middle new : List ℕ) (all : List ℕ) → i < length parts → now ++ spaced (part_items (drop i parts)) ≡ old ++ all
    → middle ≡ now ++ (32 ∷ literal_item (get_or parts i d).lit) → new ≡ middle ++ (32 ∷ signed_decimal (get_or parts i d).mult)
    → new ++ spaced (part_items (drop (i + 1) parts)) ≡ old ++ all
unfolding spaced
parts_go_on d parts i old now middle new all lt left first second =
    let p = get_or parts i d in
    let rest = spaced (part_items (drop (i + 1) parts)) in
    let step : spaced (part_items (drop i parts)) ≡ (32 ∷ literal_item p.lit) ++ ((32 ∷ signed_decimal p.mult) ++ rest) = rw (add-one, drop-cons parts i d) refl in
    ap (λ (x : List ℕ). x ++ rest) second ∙ append_assoc middle (32 ∷ signed_decimal p.mult) rest
    ∙ ap (λ (x : List ℕ). x ++ ((32 ∷ signed_decimal p.mult) ++ rest)) first ∙ append_assoc now (32 ∷ literal_item p.lit) ((32 ∷ signed_decimal p.mult) ++ rest)
    ∙ ap (λ (x : List ℕ). now ++ x) (sym step) ∙ left

pub parts_are_done : (parts : List Part) (i : ℕ) (old now all : List ℕ) → length parts ≤ i → now ++ spaced (part_items (drop i parts)) ≡ old ++ all → now ≡ old ++ all
unfolding spaced
parts_are_done parts i old now all le left =
    let none : spaced (part_items (drop i parts)) ≡ [] = rw (drop_of_length-le parts le) refl in
    sym (append-nil now) ∙ ap (λ (x : List ℕ). now ++ x) (sym none) ∙ left

-- a split and its two sides were written
pub split_written : (atom : ℕ) (held failed whole : Tree) (a b c d : List ℕ) → whole ≡ split atom held failed → b ≡ a ++ ended (split_line atom) → c ≡ b ++ text (tree_lines held) → d ≡ c ++ text (tree_lines failed)
    → d ≡ a ++ text (tree_lines whole)
unfolding tree_lines
split_written atom held failed whole a b c d is one two three =
    line_then a b d (split_line atom) (tree_lines held ++ tree_lines failed) one
    (three ∙ ap (λ (x : List ℕ). x ++ text (tree_lines failed)) two ∙ append_assoc b (text (tree_lines held)) (text (tree_lines failed))
    ∙ ap (λ (x : List ℕ). b ++ x) (sym (text-append (tree_lines held) (tree_lines failed))))
    ∙ ap (λ (t : Tree). a ++ text (tree_lines t)) (sym is)

pub farkas_written : (parts slice : List Part) (whole : Tree) (a b : List ℕ) → whole ≡ farkas parts → slice ≡ parts → b ≡ a ++ ended (farkas_line slice) → b ≡ a ++ text (tree_lines whole)
unfolding tree_lines
farkas_written parts slice whole a b is same one =
    one ∙ ap (λ (ps : List Part). a ++ ended (farkas_line ps)) same ∙ ap (λ (x : List ℕ). a ++ x) (sym (text_of_one (farkas_line parts))) ∙ ap (λ (t : Tree). a ++ text (tree_lines t)) (sym is)

pub clause_written : (number : ℕ) (whole : Tree) (a b : List ℕ) → whole ≡ clause number → b ≡ a ++ ended (clause_line number) → b ≡ a ++ text (tree_lines whole)
unfolding tree_lines
clause_written number whole a b is one = one ∙ ap (λ (x : List ℕ). a ++ x) (sym (text_of_one (clause_line number))) ∙ ap (λ (t : Tree). a ++ text (tree_lines t)) (sym is)

-- the lines of values are those of what they stand for
pub numbered-map : {X Y Z : Type 0} (lines : ℕ → Y → List Z) (f : X → Y) (first : ℕ) (xs : List X) → numbered (λ i x. lines i (f x)) first xs ≡ numbered lines first (map f xs)
unfolding numbered
numbered-map lines f first [] = refl
numbered-map lines f first (x ∷ xs) = ap (λ (rest : List _). lines first (f x) ++ rest) (numbered-map lines f (first + 1) xs)

pub spells : (bytes : List ℕ) (c : Certificate) → bytes ≡ text (cert_lines c) → IsWithin c → IsCertText bytes c
spells bytes c is within = record { within = within; text_is = is }

-- ---- the trees of the code

pub tree_of-Split : (atom : ℕ) (held failed : Box Proof) → tree_of (Split atom held failed) ≡ split atom (tree_of held.value) (tree_of failed.value)
tree_of-Split atom held failed = ap tree_of (sym (rolls-Split atom held failed)) ∙ fold-roll-Proof Tree tree_step (Proof-F.Split atom held failed)

pub tree_of-Farkas : (parts : List Part) → tree_of (Farkas parts) ≡ farkas parts
tree_of-Farkas parts = ap tree_of (sym (rolls-Farkas parts)) ∙ fold-roll-Proof Tree tree_step (Proof-F.Farkas parts)

pub tree_of-Clause : (number : ℕ) → tree_of (Clause number) ≡ clause number
tree_of-Clause number = ap tree_of (sym (rolls-Clause number)) ∙ fold-roll-Proof Tree tree_step (Proof-F.Clause number)

pub carried : {A E P Q : Type 0} (result : Result A E) → (P → Q) → OnOk result P → OnOk result Q
carried (Ok x) onward held = onward held
carried (Err e) onward held = held

-- ---- the whole text

pub cert_written : (c : Certificate) (start a b d e : List ℕ) → start ≡ [] → a ≡ start ++ ended header → b ≡ a ++ ended (size_line c.columns c.atoms c.clauses) → d ≡ b ++ text (numbered lemma_lines 0 c.lemmas) → e ≡ d ++ ended end_line
    → e ≡ text (cert_lines c)
unfolding cert_lines
cert_written c start a b d e none one two three four =
    let lemmas = numbered lemma_lines 0 c.lemmas in
    let size = size_line c.columns c.atoms c.clauses in
    line_then start a e header (size ∷ (lemmas ++ end_line ∷ [])) one
    (line_then a b e size (lemmas ++ end_line ∷ []) two
    (four ∙ ap (λ (x : List ℕ). x ++ ended end_line) three ∙ append_assoc b (text lemmas) (ended end_line) ∙ ap (λ (x : List ℕ). b ++ x) (sym (text-push lemmas end_line))))
    ∙ ap (λ (x : List ℕ). x ++ text (cert_lines c)) none
