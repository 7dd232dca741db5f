-- The literals of a clause, and the parts of a Farkas leaf, are read one after another.
use Rattle.std.proofs.Common.{◌≡◌, ℕ, zero, suc, ◌+◌, ◌^◌, ◌≤◌, ℤ, cond, subst, pos, negsuc, Result, Ok, Err, List, [], ◌∷◌, ◌++◌, map, append_assoc, refl, sym, ap, ◌∙◌}
use Rattle.std.proofs.lemmas.List.{append-nil, map-append}
use Rattle.std.proofs.lemmas.Bool.{le-leb}
use Rattle.text_lines.specs.Pieces.{pieces}
use Rattle.text_lines.specs.Steps.{◌>>=◌, each}
use Rattle.text_machine.specs.declared.faults.Fault.{Fault}
use Rattle.text_machine.specs.Items.{literal, below, read_item}
use Rattle.text_machine.specs.Given.{GivesLine}
use Rattle.text_machine.specs.Lines.{take, take_all, take_end, read_line}
use Rattle.farkas_cert.specs.declared.literals.Lit.{Lit}
use Rattle.farkas_cert.specs.declared.trees.Part.{Part}
use Rattle.text_machine.specs.declared.lists.LineFault.{LineFault}
use Rattle.cert_text.specs.declared.wants.Want.{Want}
use Rattle.cert_text.specs.declared.wants.Want.TheVariants.{Node}
use Rattle.cert_text.specs.declared.wants.Line.{Line}
use Rattle.cert_text.specs.Rules.{index_limit, pairs, node_form, deep_form, form_of, form_read}
use Rattle.cert_text.specs.Tables.{lit_number, lit_of, part_from, part_numbers, part_at, line_numbers}

pub lit_back : (z : ℤ) → lit_number (lit_of z) ≡ z
lit_back (pos n) = refl
lit_back (negsuc n) = refl

abbrev Number : Type 0
Number = ℤ × List (List ℕ)

abbrev Parts : Type 0
Parts = List Part × List (List ℕ)

-- the numbers of the parts, and nothing behind them
abbrev closed : Parts → Result (List ℤ) Fault
closed x = take_end x.1 >>= λ _. Ok (part_numbers x.0)

end_kept : (items : List (List ℕ)) → take_end items ≡ (take_end items >>= λ _. Ok [])
unfolding take_end
end_kept [] = refl
end_kept (item ∷ items) = refl

one_more : (z y : ℤ) (x : Parts) (found : Result (List ℤ) Fault)
    → (((found >>= λ _. Ok (part_numbers x.0)) >>= λ zs. Ok (y ∷ zs)) >>= λ zs. Ok (z ∷ zs)) ≡ (found >>= λ _. Ok (part_numbers (part_from z y ∷ x.0)))
one_more z y x (Ok zs) = ap (λ k. Ok (k ∷ y ∷ part_numbers x.0)) (sym (lit_back z))
one_more z y x (Err f) = refl

parts_more : (z y : ℤ) (found : Result Parts Fault)
    → (((found >>= closed) >>= λ zs. Ok (y ∷ zs)) >>= λ zs. Ok (z ∷ zs)) ≡ (◌>>=◌ {B = Parts} found (λ x. Ok (part_from z y ∷ x.0, x.1)) >>= closed)
parts_more z y (Ok x) = one_more z y x (take_end x.1)
parts_more z y (Err f) = refl

mult_more : (z : ℤ) (count first : ℕ) → ((items : List (List ℕ)) → read_line (pairs count) items ≡ (each (λ _. part_at) count first items >>= closed))
    → (found : Result Number Fault)
    → ((found >>= λ y. read_line (pairs count) y.1 >>= λ zs. Ok (y.0 ∷ zs)) >>= λ zs. Ok (z ∷ zs))
    ≡ ((◌>>=◌ {B = Part × List (List ℕ)} found (λ y. Ok (part_from z y.0, y.1)) >>= λ p. ◌>>=◌ {B = Parts} (each (λ _. part_at) count first p.1) (λ x. Ok (p.0 ∷ x.0, x.1))) >>= closed)
mult_more z count first others (Ok y) = ap (λ (r : Result (List ℤ) Fault). (r >>= λ zs. Ok (y.0 ∷ zs)) >>= λ zs. Ok (z ∷ zs)) (others y.1) ∙ parts_more z y.0 (each (λ _. part_at) count first y.1)
mult_more z count first others (Err f) = refl

lit_more : (count first : ℕ) → ((items : List (List ℕ)) → read_line (pairs count) items ≡ (each (λ _. part_at) count first items >>= closed))
    → (found : Result Number Fault)
    → (found >>= λ x. (take (below (2 ^ 127)) x.1 >>= λ y. read_line (pairs count) y.1 >>= λ zs. Ok (y.0 ∷ zs)) >>= λ zs. Ok (x.0 ∷ zs))
    ≡ (((found >>= λ x. ◌>>=◌ {B = Part × List (List ℕ)} (take (below (2 ^ 127)) x.1) (λ y. Ok (part_from x.0 y.0, y.1))) >>= λ p. ◌>>=◌ {B = Parts} (each (λ _. part_at) count first p.1) (λ x. Ok (p.0 ∷ x.0, x.1))) >>= closed)
lit_more count first others (Ok x) = mult_more x.0 count first others (take (below (2 ^ 127)) x.1)
lit_more count first others (Err f) = refl

pairs_read : (count first : ℕ) (items : List (List ℕ)) → read_line (pairs count) items ≡ (each (λ _. part_at) count first items >>= closed)
unfolding read_line pairs each part_at
pairs_read zero first items = end_kept items
pairs_read (suc count) first items = lit_more count (first + 1) (pairs_read count (first + 1)) (take (literal index_limit) items)

pub pairs_reads : (count : ℕ) (items : List (List ℕ)) → read_line (pairs count) items ≡ (each (λ _. part_at) count 0 items >>= λ x. take_end x.1 >>= λ _. Ok (part_numbers x.0))
pairs_reads count items = pairs_read count 0 items

-- ---- a list of literals up to the line's end

abbrev pub so_far : List Lit → Result (List ℤ) Fault → Result (List ℤ) Fault
so_far lits left = left >>= λ zs. Ok (map lit_number lits ++ zs)

pub lits_start : (items : List (List ℕ)) → so_far [] (take_all (literal index_limit) items) ≡ take_all (literal index_limit) items
lits_start items = kept (take_all (literal index_limit) items)
  where
    kept : (found : Result (List ℤ) Fault) → (found >>= λ zs. Ok zs) ≡ found
    kept (Ok zs) = refl
    kept (Err f) = refl

pub lits_go_on : (lits grown : List Lit) (lit : Lit) (item : List ℕ) (items rest : List (List ℕ)) (total : Result (List ℤ) Fault) → grown ≡ lits ++ lit ∷ [] → items ≡ item ∷ rest
    → read_item (literal index_limit) item ≡ Ok (lit_number lit) → so_far lits (take_all (literal index_limit) items) ≡ total → so_far grown (take_all (literal index_limit) rest) ≡ total
unfolding take_all
lits_go_on lits grown lit item items rest total longer is one before =
    ap (λ (ls : List Lit). so_far ls (take_all (literal index_limit) rest)) longer
    ∙ onward (take_all (literal index_limit) rest)
    ∙ ap (λ (r : Result ℤ Fault). so_far lits (r >>= λ z. take_all (literal index_limit) rest >>= λ zs. Ok (z ∷ zs))) (sym one)
    ∙ ap (λ (left : List (List ℕ)). so_far lits (take_all (literal index_limit) left)) (sym is) ∙ before
  where
    onward : (found : Result (List ℤ) Fault) → so_far (lits ++ lit ∷ []) found ≡ so_far lits (found >>= λ zs. Ok (lit_number lit ∷ zs))
    onward (Ok zs) = ap (λ (ys : List ℤ). Ok (ys ++ zs)) (map-append lit_number lits (lit ∷ [])) ∙ ap (λ (ys : List ℤ). Ok ys) (append_assoc (map lit_number lits) (lit_number lit ∷ []) zs)
    onward (Err f) = refl

pub lits_stop : (lits : List Lit) (fault : Fault) (item : List ℕ) (items rest : List (List ℕ)) (total : Result (List ℤ) Fault) → items ≡ item ∷ rest → read_item (literal index_limit) item ≡ Err fault
    → so_far lits (take_all (literal index_limit) items) ≡ total → total ≡ Err fault
unfolding take_all
lits_stop lits fault item items rest total is failed before =
    sym before ∙ ap (λ (left : List (List ℕ)). so_far lits (take_all (literal index_limit) left)) is
    ∙ ap (λ (r : Result ℤ Fault). so_far lits (r >>= λ z. take_all (literal index_limit) rest >>= λ zs. Ok (z ∷ zs))) failed

pub lits_are_done : (lits : List Lit) (items : List (List ℕ)) (total : Result (List ℤ) Fault) → items ≡ [] → so_far lits (take_all (literal index_limit) items) ≡ total → total ≡ Ok (map lit_number lits)
unfolding take_all
lits_are_done lits items total is before =
    sym before ∙ ap (λ (left : List (List ℕ)). so_far lits (take_all (literal index_limit) left)) is ∙ ap (λ (zs : List ℤ). Ok zs) (append-nil (map lit_number lits))

-- ---- a node that isn't too deep

pub node_given : (want : Want) (depth : ℕ) (line : List ℕ) (result : Result Line LineFault) → want ≡ Node depth → depth ≤ 4096 → GivesLine (line_numbers want) result (read_line node_form (pieces 32 line))
    → GivesLine (line_numbers want) result (form_read (form_of want) (pieces 32 line))
unfolding form_of
node_given want depth line result is le given =
    subst (λ (w : Want). GivesLine (line_numbers want) result (form_read (form_of w) (pieces 32 line))) (sym is)
    (subst (λ t. GivesLine (line_numbers want) result (read_line (cond t node_form deep_form) (pieces 32 line))) (sym (le-leb depth 4096 le)) given)
