use Rattle.std.proofs.Common.{◌≡◌, ◌++◌, length}
use Rattle.farkas_cert.specs.Trees.{tree_of}
use Rattle.cert_text.specs.Tables.{tree_table}
use Rattle.cert_text.specs.Drafts.{due, splits_table}
use Rattle.cert_text.proofs.splits.close.Given as goal

-- the same trees are due, and the same lines were read
abbrev pub invariant-loop-split : goal.invariant-loop-split
invariant-loop-split l =
    (due l.splits ≡ due l.initial.splits) × (splits_table l.splits ++ tree_table (tree_of l.tree) ≡ splits_table l.initial.splits ++ tree_table (tree_of l.initial.tree))

abbrev pub decreases-loop-split : goal.decreases-loop-split
decreases-loop-split l = length l.splits
