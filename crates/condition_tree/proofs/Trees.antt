-- Laws of trees: a truth that is decided at each leaf, other meanings, other leaves, and what each leaf has.
use Rattle.std.proofs.Common.{Bool, true, false, not, ◌&&◌, ◌||◌, ◌⊎◌, inl, inr}
use Rattle.condition_tree.specs.Trees.{Tree, always, never, leaf, opposite, end_of_all, all_of, end_of_any, any_of, Truth, is_true, EachLeaf, with_leaves, Says}

pub not_says : (t : Bool) (P : Type 0) → Says t P → Says (not t) (P → ⊥)
not_says true P p = λ n. n p
not_says false P p = p

pub both_say : (t u : Bool) (P Q : Type 0) → Says t P → Says u Q → Says (t && u) (P × Q)
both_say true true P Q p q = (p, q)
both_say true false P Q p q = λ h. q h.1
both_say false u P Q p q = λ h. p h.0

pub either_says : (t u : Bool) (P Q : Type 0) → Says t P → Says u Q → Says (t || u) (P ⊎ Q)
either_says true u P Q p q = inl p
either_says false true P Q p q = inr q
either_says false false P Q p q = λ h. elim h [ inl l ↦ p l | inr r ↦ q r ]

-- where each leaf's test says whether the leaf holds, the whole test says whether the condition holds
pub truth_is_decided : {L : Type 0} (test : L → Bool) (meaning : L → Type 0) (c : Tree L)
    → EachLeaf (λ l. Says (test l) (meaning l)) c → Says (is_true test c) (Truth meaning c)
truth_is_decided test meaning always each = tt
truth_is_decided test meaning never each = λ n. n
truth_is_decided test meaning (leaf l) each = each
truth_is_decided test meaning (opposite c) each =
    not_says (is_true test c) (Truth meaning c) (truth_is_decided test meaning c each)
truth_is_decided test meaning end_of_all each = tt
truth_is_decided test meaning (all_of c rest) each =
    both_say (is_true test c) (is_true test rest) (Truth meaning c) (Truth meaning rest)
    (truth_is_decided test meaning c each.0) (truth_is_decided test meaning rest each.1)
truth_is_decided test meaning end_of_any each = λ n. n
truth_is_decided test meaning (any_of c rest) each =
    either_says (is_true test c) (is_true test rest) (Truth meaning c) (Truth meaning rest)
    (truth_is_decided test meaning c each.0) (truth_is_decided test meaning rest each.1)

-- leaves whose meanings are the same facts make the same truth
pub truth_carries : {L M : Type 0} (f : L → M) (meaning : L → Type 0) (other : M → Type 0) (c : Tree L)
    → EachLeaf (λ l. (meaning l → other (f l)) × (other (f l) → meaning l)) c
    → (Truth meaning c → Truth other (with_leaves f c)) × (Truth other (with_leaves f c) → Truth meaning c)
truth_carries f meaning other always each = ((λ h. h), (λ h. h))
truth_carries f meaning other never each = ((λ h. h), (λ h. h))
truth_carries f meaning other (leaf l) each = each
truth_carries f meaning other (opposite c) each =
    let same = truth_carries f meaning other c each in
    ((λ h. λ t. h (same.1 t)), (λ h. λ t. h (same.0 t)))
truth_carries f meaning other end_of_all each = ((λ h. h), (λ h. h))
truth_carries f meaning other (all_of c rest) each =
    let same = truth_carries f meaning other c each.0 in
    let others = truth_carries f meaning other rest each.1 in
    ((λ h. (same.0 h.0, others.0 h.1)), (λ h. (same.1 h.0, others.1 h.1)))
truth_carries f meaning other end_of_any each = ((λ h. h), (λ h. h))
truth_carries f meaning other (any_of c rest) each =
    let same = truth_carries f meaning other c each.0 in
    let others = truth_carries f meaning other rest each.1 in (
      (λ h. elim h [ inl l ↦ inl (same.0 l) | inr r ↦ inr (others.0 r) ]),
      (λ h. elim h [ inl l ↦ inl (same.1 l) | inr r ↦ inr (others.1 r) ]),
    )

-- a fact of each leaf gives another of each leaf
pub each_leaf_gives : {L : Type 0} (P Q : L → Type 0) (c : Tree L) → ((l : L) → P l → Q l) → EachLeaf P c → EachLeaf Q c
each_leaf_gives P Q always gives each = tt
each_leaf_gives P Q never gives each = tt
each_leaf_gives P Q (leaf l) gives each = gives l each
each_leaf_gives P Q (opposite c) gives each = each_leaf_gives P Q c gives each
each_leaf_gives P Q end_of_all gives each = tt
each_leaf_gives P Q (all_of c rest) gives each =
    (each_leaf_gives P Q c gives each.0, each_leaf_gives P Q rest gives each.1)
each_leaf_gives P Q end_of_any gives each = tt
each_leaf_gives P Q (any_of c rest) gives each =
    (each_leaf_gives P Q c gives each.0, each_leaf_gives P Q rest gives each.1)
