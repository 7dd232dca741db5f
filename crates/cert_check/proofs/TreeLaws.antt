-- The trees that the code reads, as trees of the logic.
use Rattle.std.proofs.Common.{◌≡◌, ℕ, sym, ap, ◌∙◌}
use Rattle.std.specs.Global.{Box}
use Rattle.farkas_cert.specs.Trees.{Tree, tree_step, tree_of, split}
use Rattle.farkas_cert.specs.declared.trees.Proof.{Proof}
use Rattle.farkas_cert.specs.declared.trees.Proof.TheOpen.{Proof-F}
use Rattle.farkas_cert.specs.declared.trees.Proof.TheFolds.{fold-roll-Proof}
use Rattle.farkas_cert.specs.declared.trees.Proof.TheVariants.{Split, rolls-Split}

tree_of-Split : (atom : ℕ) (held failed : Box Proof) → tree_of (Split atom held failed) ≡ split atom (tree_of held.value) (tree_of failed.value)
tree_of-Split atom held failed =
    ap tree_of (sym (rolls-Split atom held failed)) ∙ fold-roll-Proof Tree tree_step (Proof-F.Split atom held failed)

-- a tree that is a split, whose sides are these
pub tree_sides : (tree : Proof) (atom : ℕ) (held failed : Box Proof) (first second : Proof) → tree ≡ Split atom held failed → first ≡ held.value → second ≡ failed.value → tree_of tree ≡ split atom (tree_of first) (tree_of second)
tree_sides tree atom held failed first second is one two =
    ap tree_of is ∙ tree_of-Split atom held failed ∙ ap (λ (p : Proof). split atom (tree_of p) (tree_of failed.value)) (sym one) ∙ ap (λ (p : Proof). split atom (tree_of first) (tree_of p)) (sym two)
