-- The leaf of a clash answers it, and so does an operation that overflows on the way.
use Rattle.std.proofs.Common.{◌≡◌, ◌≤◌, List, map, length, sym, subst, arith}
use Rattle.ordered_field.specs.Rational.{ℚ}
use Rattle.ordered_field.specs.LowestTerms.{Ratio, InLowestTerms}
use Rattle.farkas_cert.specs.declared.literals.Lit.{Lit}
use Rattle.farkas_cert.specs.declared.trees.Part.{Part}
use Rattle.clause_form.specs.declared.theory.Heard.TheVariants as heard
use Rattle.clause_form.specs.Derivations.{Rows, IsContradiction, SumsFit}
use Rattle.simplex.specs.declared.outcome.Share.{Share}
use Rattle.simplex.specs.Shares.{Weight, AreShares}
use Rattle.lra_theory.specs.declared.clash.Piece.{Piece}
use Rattle.lra_theory.specs.declared.fault.LraFault.{LraFault}
use Rattle.lra_theory.specs.declared.fault.LraFault.TheVariants as fault
use Rattle.lra_theory.specs.Clashes.{AnswersClash, AreLiterals, AreOfClash, ArePieces, IsFarkas, IsLeaf, IsStuckLeaf, common, parts_of, piece_of}
use Rattle.lra_theory.specs.Soundness.{IsGood}
use Rattle.lra_theory.specs.Standings.{IfStuck, heard_of}
use Rattle.lra_theory.specs.States.{State}
use Rattle.lra_theory.proofs.FarkasLaws.{pieces-are}
use Rattle.lra_theory.proofs.LeafLaws.{contradiction-of, literals-of, pieces-count}

module _ {F : Type 0} (pair : F → Ratio) (value : F → ℚ) (meaning : (x : F) → InLowestTerms (pair x) (value x)) (rows : Rows) (told : List Lit) (good : IsGood rows) (shares : List (Share F)) where
  pieces : List Piece
  pieces = map (piece_of pair rows told) shares

  module _ (s : State F) (ws : List Weight) (same_rows : s.rows ≡ rows) (same_told : s.told ≡ told) (are : AreShares value ws shares) (of_clash : AreOfClash value s ws) (farkas : IsFarkas rows s.told ws) where
    farkas_here : IsFarkas rows told ws
    farkas_here = subst (λ ls. IsFarkas rows ls ws) same_told farkas

    are_pieces : ArePieces rows told ws (map (piece_of pair rows told) shares)
    are_pieces = pieces-are pair value meaning rows told ws shares are farkas_here.of_told

    pub leaf-answers : (parts : List Part) → parts ≡ parts_of (map (piece_of pair rows told) shares) → SumsFit rows parts → AnswersClash value s (heard.Clash parts)
    leaf-answers parts same fits =
        subst (λ ps. IsLeaf value s ps) (sym same) (record {
          few = let count : length (parts_of (map (piece_of pair rows told) shares)) ≡ length ws = pieces-count rows good told (common 1 (map (piece_of pair rows told) shares)) ws (map (piece_of pair rows told) shares) are_pieces in let most : length ws ≤ 2049 = farkas_here.few in omega arith;
          contradiction = subst (λ r. IsContradiction r s.told (parts_of (map (piece_of pair rows told) shares))) (sym same_rows) (subst (λ ls. IsContradiction rows ls (parts_of (map (piece_of pair rows told) shares))) (sym same_told) (contradiction-of rows good told ws (map (piece_of pair rows told) shares) farkas_here are_pieces));
          fits = subst (λ r. SumsFit r (parts_of (map (piece_of pair rows told) shares))) (sym same_rows) (subst (λ ps. SumsFit rows ps) same fits);
          weights = ws;
          of_clash = of_clash;
          literals = subst (λ ls. AreLiterals ls ws (map (λ p. p.lit) (parts_of (map (piece_of pair rows told) shares)))) (sym same_told) (literals-of rows good told (common 1 (map (piece_of pair rows told) shares)) ws (map (piece_of pair rows told) shares) are_pieces);
        })

    pub fault-answers : (f : LraFault) → IfStuck f (IsStuckLeaf rows (map (piece_of pair rows told) shares)) → AnswersClash value s (heard_of f)
    fault-answers (fault.Stuck k) stuck = record {
      weights = ws;
      of_clash = of_clash;
      pieces = map (piece_of pair rows told) shares;
      are_pieces = subst (λ r. ArePieces r s.told ws (map (piece_of pair rows told) shares)) (sym same_rows) (subst (λ ls. ArePieces rows ls ws (map (piece_of pair rows told) shares)) (sym same_told) are_pieces);
      operation = subst (λ r. IsStuckLeaf r (map (piece_of pair rows told) shares) k) (sym same_rows) stuck;
    }
    fault-answers fault.NoMemory stuck = tt
