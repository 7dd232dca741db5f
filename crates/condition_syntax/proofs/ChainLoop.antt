-- Parts that are read one after another: what was read before, and what is still read.
use Rattle.std.proofs.Common.{◌≡◌, ℕ, suc, pred, ◌≤◌, true, false, Result, Ok, Err, List, [], ◌∷◌, ◌++◌, length, refl, sym, ap, ◌∙◌, arith}
use Rattle.text_lines.proofs.StepLaws.{with_front, regroup}
use Rattle.source_text.specs.Tokens.{after}
use Rattle.condition_syntax.specs.declared.faults.Fault.{Fault}
use Rattle.condition_syntax.specs.declared.faults.ReadStop.{ReadStop}
use Rattle.condition_syntax.specs.declared.faults.ReadStop.TheVariants.{Fault as Faulty, NoMemory}
use Rattle.condition_syntax.specs.Halts.{Halts}
use Rattle.condition_syntax.specs.Fronts.{says}
use Rattle.condition_syntax.specs.Trees.{Condition}
use Rattle.condition_syntax.specs.Conditions.{Pending, Reader, behind, chain_by}
use Rattle.condition_syntax.proofs.FrontLaws.{says_is}

abbrev pub Chain : Type 0
Chain = Result (List Condition × Pending) Fault

-- these parts were read, and the whole chain is `total`; there are enough steps for the tokens that are left
pub record ChainSoFar (joint : List ℕ) (part : Reader) (front : List Condition) (s : Pending) (total : Chain) : Type 0 where
  pub most : ℕ
  pub enough : length s.tokens ≤ most
  pub told : with_front front (chain_by joint part (suc most) s) ≡ total

module _ (joint : List ℕ) (part : Reader) where
  pub chain_starts : (s : Pending) → ChainSoFar joint part [] s (chain_by joint part (suc (length s.tokens)) s)
  chain_starts s = record { most = length s.tokens; enough = omega arith; told = by (chain_by joint part (suc (length s.tokens)) s) }
    where
      by : (r : Chain) → with_front [] r ≡ r
      by (Ok x) = refl
      by (Err fault) = refl

  module _ (front : List Condition) (s : Pending) (total : Chain) (so_far : ChainSoFar joint part front s total) where
    -- a part was read, and another is to come
    pub chain_goes_on : (c : Condition) (t : Pending) → part s ≡ Ok (c, t) → says joint t.tokens ≡ true → length t.tokens ≤ length s.tokens
        → ChainSoFar joint part (front ++ c ∷ []) (behind t) total
    unfolding chain_by
    chain_goes_on c t read here le =
        let fewer : length t.tokens ≡ suc (length (after t.tokens)) = ap length (says_is joint t.tokens here) in
        let enough : length (after t.tokens) ≤ pred so_far.most = omega (arith, so_far.enough) in
        let more : so_far.most ≡ suc (pred so_far.most) = omega (arith, so_far.enough) in
        let one : with_front front (chain_by joint part (suc so_far.most) s) ≡ with_front (front ++ c ∷ []) (chain_by joint part (suc (pred so_far.most)) (behind t)) =
        rw (read, here) (regroup front c (chain_by joint part so_far.most (behind t)) ∙ ap (λ n. with_front (front ++ c ∷ []) (chain_by joint part n (behind t))) more) in
        record { most = pred so_far.most; enough = enough; told = sym one ∙ so_far.told }

    -- the last part was read
    pub chain_ends : (c : Condition) (t : Pending) → part s ≡ Ok (c, t) → says joint t.tokens ≡ false → total ≡ Ok (front ++ c ∷ [], t)
    unfolding chain_by
    chain_ends c t read here =
        let one : with_front front (chain_by joint part (suc so_far.most) s) ≡ Ok (front ++ c ∷ [], t) = rw (read, here) refl in
        sym so_far.told ∙ one

    chain_stops : (fault : Fault) → part s ≡ Err fault → total ≡ Err fault
    unfolding chain_by
    chain_stops fault read =
        let one : with_front front (chain_by joint part (suc so_far.most) s) ≡ Err fault = rw read refl in
        sym so_far.told ∙ one

    -- a part failed
    pub chain_fails : (halt : ReadStop) → Halts halt (part s) → Halts halt total
    chain_fails NoMemory read = tt
    chain_fails (Faulty fault) read = chain_stops fault read
