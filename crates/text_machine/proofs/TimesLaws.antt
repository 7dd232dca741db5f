-- So many numbers, one after another, with nothing behind them.
use Rattle.std.proofs.Common.{◌≡◌, ℕ, zero, suc, ◌+◌, ℤ, pos, Result, Ok, Err, List, [], ◌∷◌, length, map, refl, ap, ◌∙◌, arith}
use Rattle.std.specs.Prelude.{All}
use Rattle.text_lines.specs.Steps.{◌>>=◌, each}
use Rattle.text_machine.specs.declared.faults.Fault.{Fault}
use Rattle.text_machine.specs.Items.{Want, spell_item, IsWithin}
use Rattle.text_machine.specs.Lines.{stop, times, take, take_end, spell_line, Suits, read_line}

abbrev Row : Type 0
Row = List ℤ × List (List ℕ)

-- the numbers of a line of so many, and nothing behind them
times_read : (want : Want) (count first : ℕ) (items : List (List ℕ)) → read_line (times count want stop) items ≡ (each (λ _. take want) count first items >>= λ x. take_end x.1 >>= λ _. Ok x.0)
unfolding read_line each take_end
times_read want zero first items = by_end items
  where
    by_end : (left : List (List ℕ)) → take_end left ≡ (take_end left >>= λ _. Ok [])
    by_end [] = refl
    by_end (item ∷ left) = refl
times_read want (suc count) first items = by_first (take want items) (λ (x : ℤ × List (List ℕ)). times_read want count (first + 1) x.1)
  where
    by_rest : (z : ℤ) (found : Result Row Fault) → ((found >>= λ x. take_end x.1 >>= λ _. Ok x.0) >>= λ zs. Ok (z ∷ zs)) ≡ (◌>>=◌ {B = Row} found (λ x. Ok (z ∷ x.0, x.1)) >>= λ x. take_end x.1 >>= λ _. Ok x.0)
    by_rest z (Err f) = refl
    by_rest z (Ok x) = by_end (take_end x.1)
      where
        by_end : (found : Result (List ℤ) Fault) → ((found >>= λ _. Ok x.0) >>= λ zs. Ok (z ∷ zs)) ≡ (found >>= λ _. Ok (z ∷ x.0))
        by_end (Ok zs) = refl
        by_end (Err f) = refl

    by_first : (found : Result (ℤ × List (List ℕ)) Fault)
        → ((x : ℤ × List (List ℕ)) → read_line (times count want stop) x.1 ≡ (each (λ _. take want) count (first + 1) x.1 >>= λ y. take_end y.1 >>= λ _. Ok y.0))
        → (found >>= λ x. read_line (times count want stop) x.1 >>= λ zs. Ok (x.0 ∷ zs))
        ≡ ((found >>= λ x. ◌>>=◌ {B = Row} (each (λ _. take want) count (first + 1) x.1) (λ y. Ok (x.0 ∷ y.0, y.1))) >>= λ y. take_end y.1 >>= λ _. Ok y.0)
    by_first (Err f) others = refl
    by_first (Ok x) others = ap (λ (r : Result (List ℤ) Fault). r >>= λ zs. Ok (x.0 ∷ zs)) (others x) ∙ by_rest x.0 (each (λ _. take want) count (first + 1) x.1)

pub times_reads : (want : Want) (count : ℕ) (items : List (List ℕ)) → read_line (times count want stop) items ≡ (each (λ _. take want) count 0 items >>= λ x. take_end x.1 >>= λ _. Ok x.0)
times_reads want count items = times_read want count 0 items

-- ---- the numbers of such a line

pub times_suit : (want : Want) (count : ℕ) (zs : List ℤ) → length zs ≡ count → All (IsWithin want) zs → Suits (times count want stop) zs
unfolding Suits
times_suit want zero [] l all = tt
times_suit want zero (z ∷ zs) l all = absurd (omega arith)
times_suit want (suc count) [] l all = absurd (omega arith)
times_suit want (suc count) (z ∷ zs) l all = (all 0 (pos 0) (omega arith), times_suit want count zs (omega arith) (λ k d lt. all (suc k) d (omega arith)))

pub times_fit : (want : Want) (count : ℕ) (zs : List ℤ) → Suits (times count want stop) zs → (length zs ≡ count) × All (IsWithin want) zs
unfolding Suits
times_fit want zero [] s = (refl, (λ k d lt. absurd (omega arith)))
times_fit want zero (z ∷ zs) s = absurd s
times_fit want (suc count) [] s = absurd s
times_fit want (suc count) (z ∷ zs) s =
    let others = times_fit want count zs s.1 in
    (ap suc others.0, at others.1)
  where
    at : All (IsWithin want) zs → All (IsWithin want) (z ∷ zs)
    at all zero d lt = s.0
    at all (suc k) d lt = all k d (omega arith)

pub times_spelled : (want : Want) (count : ℕ) (zs : List ℤ) → Suits (times count want stop) zs → spell_line (times count want stop) zs ≡ map (spell_item want) zs
unfolding Suits spell_line
times_spelled want zero [] s = refl
times_spelled want zero (z ∷ zs) s = absurd s
times_spelled want (suc count) [] s = absurd s
times_spelled want (suc count) (z ∷ zs) s = ap (λ (is : List (List ℕ)). spell_item want z ∷ is) (times_spelled want count zs s.1)
