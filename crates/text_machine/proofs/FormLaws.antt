-- A line is read just where it is the line of its numbers, and is refused just where its first wrong item says so.
use Rattle.std.proofs.Common.{◌≡◌, ◌≢◌, ℕ, ℤ, Bool, true, false, cond, Result, Ok, Err, List, [], ◌∷◌, refl, sym, ap, subst, ◌∙◌, inl, inr, ◌⊎◌}
use Rattle.std.specs.Str.{bytes_eq}
use Rattle.std.proofs.lemmas.Slice.Eq.{bytes_eq-Decides}
use Rattle.text_lines.specs.Steps.{◌>>=◌}
use Rattle.text_lines.specs.Pieces.{AreItems}
use Rattle.text_lines.proofs.StepLaws.{bind_ok, ok_is}
use Rattle.text_machine.specs.declared.faults.Fault.{Fault}
use Rattle.text_machine.specs.declared.faults.Fault.TheVariants.{Form}
use Rattle.text_machine.specs.Items.{Want, spell_item, IsItemOf, ItemFails, read_item}
use Rattle.text_machine.specs.Lines.{LineForm, stop, word, number, many, ends, fails, spell_many, AllWithin, spell_line, Suits, IsLineOf, ManyFail, LineFails, take_word, take, take_all, take_end, read_line}
use Rattle.text_machine.proofs.ItemLaws.{item_taken, item_read, item_failed, fails_item, item_by_test, number_is_item}

-- the fault of a step that failed: it failed at once, or what follows did
pub bind_err : {A B E : Type 0} (r : Result A E) (f : A → Result B E) (e : E) → (r >>= f) ≡ Err e → (r ≡ Err e) ⊎ ((x : A) × ((r ≡ Ok x) × (f x ≡ Err e)))
bind_err (Ok x) f e p = inr (x, (refl, p))
bind_err (Err d) f e p = inl (cc)

-- ---- one item, and the items behind it

take_taken : (want : Want) (item : List ℕ) (items : List (List ℕ)) (x : ℤ × List (List ℕ)) → take want (item ∷ items) ≡ Ok x → IsItemOf want item x.0 × (items ≡ x.1)
unfolding take
take_taken want item items x e =
    let b = bind_ok (read_item want item) (λ z. Ok (z, items)) x e in
    let same = ok_is {E = Fault} (b.0, items) x b.2 in
    (subst (IsItemOf want item) (ap (λ (y : ℤ × List (List ℕ)). y.0) same) (item_taken want item b.0 b.1), ap (λ (y : ℤ × List (List ℕ)). y.1) same)

take_failed : (want : Want) (item : List ℕ) (items : List (List ℕ)) (f : Fault) → take want (item ∷ items) ≡ Err f → ItemFails want item f
unfolding take
take_failed want item items f e = elim (bind_err (read_item want item) (λ z. Ok (z, items)) f e) [ inl p ↦ item_failed want item f p | inr x ↦ absurd (not_err x.0 x.1.1) ]
  where
    not_err : (z : ℤ) → ◌≡◌ {A = Result (ℤ × List (List ℕ)) Fault} (Ok (z, items)) (Err f) → ⊥
    not_err z q = cc

take_read : (want : Want) (item : List ℕ) (items : List (List ℕ)) (z : ℤ) → IsItemOf want item z → take want (item ∷ items) ≡ Ok (z, items)
unfolding take
take_read want item items z is = ap (λ (r : Result ℤ Fault). r >>= λ y. Ok (y, items)) (item_read want item z is)

take_fails : (want : Want) (item : List ℕ) (items : List (List ℕ)) (f : Fault) → ItemFails want item f → take want (item ∷ items) ≡ Err f
unfolding take
take_fails want item items f b = ap (λ (r : Result ℤ Fault). r >>= λ y. Ok (y, items)) (fails_item want item f b)

word_found : (text item : List ℕ) (items rest : List (List ℕ)) → take_word text (item ∷ items) ≡ Ok rest → (item ≡ text) × (items ≡ rest)
unfolding take_word
word_found text item items rest e = by_test (bytes_eq item text) refl e
  where
    by_test : (t : Bool) → bytes_eq item text ≡ t → cond t (Ok items) (Err Form) ≡ Ok rest → (item ≡ text) × (items ≡ rest)
    by_test true p q = ((bytes_eq-Decides item text).0 p, ok_is {E = Fault} items rest q)
    by_test false p q = absurd (cc)

word_missing : (text item : List ℕ) (items : List (List ℕ)) (f : Fault) → take_word text (item ∷ items) ≡ Err f → (item ≢ text) × (f ≡ Form)
unfolding take_word
word_missing text item items f e = by_test (bytes_eq item text) refl e
  where
    differs : bytes_eq item text ≡ false → item ≡ text → ⊥
    differs p same = clash (bytes_eq item text) ((bytes_eq-Decides item text).1 same) p
      where
        clash : (t : Bool) → t ≡ true → t ≡ false → ⊥
        clash t a b = cc

    by_test : (t : Bool) → bytes_eq item text ≡ t → cond t (Ok items) (Err Form) ≡ Err f → (item ≢ text) × (f ≡ Form)
    by_test true p q = absurd (cc)
    by_test false p q = (differs p, cc)

word_again : (text : List ℕ) (items : List (List ℕ)) → take_word text (text ∷ items) ≡ Ok items
unfolding take_word
word_again text items = ap (λ t. cond t (Ok items) (Err Form)) ((bytes_eq-Decides text text).1 refl)

word_fails : (text item : List ℕ) (items : List (List ℕ)) → item ≢ text → take_word text (item ∷ items) ≡ Err Form
unfolding take_word
word_fails text item items differs = by_test (bytes_eq item text) refl
  where
    by_test : (t : Bool) → bytes_eq item text ≡ t → cond t (Ok items) (Err Form) ≡ Err Form
    by_test true p = absurd (differs ((bytes_eq-Decides item text).0 p))
    by_test false p = refl

-- ---- any number of items

many_taken : (want : Want) (items : List (List ℕ)) (zs : List ℤ) → take_all want items ≡ Ok zs → (items ≡ spell_many want zs) × AllWithin want zs
unfolding take_all
many_taken want [] zs e = subst (λ (ys : List ℤ). ([] ≡ spell_many want ys) × AllWithin want ys) (ok_is {E = Fault} [] zs e) (refl, tt)
many_taken want (item ∷ items) zs e =
    let a = bind_ok (read_item want item) (λ z. take_all want items >>= λ ys. Ok (z ∷ ys)) zs e in
    let b = bind_ok (take_all want items) (λ ys. Ok (a.0 ∷ ys)) zs a.2 in
    let first = item_taken want item a.0 a.1 in
    let others = many_taken want items b.0 b.1 in
    subst (λ (ys : List ℤ). (item ∷ items ≡ spell_many want ys) × AllWithin want ys) (ok_is {E = Fault} (a.0 ∷ b.0) zs b.2)
    (ap (λ (i : List ℕ). i ∷ items) first.spelled ∙ ap (λ (is : List (List ℕ)). spell_item want a.0 ∷ is) others.0, (first.within, others.1))

many_again : (want : Want) (zs : List ℤ) → AllWithin want zs → take_all want (spell_many want zs) ≡ Ok zs
unfolding take_all
many_again want [] all = refl
many_again want (z ∷ zs) all =
    ap (λ (r : Result ℤ Fault). r >>= λ y. take_all want (spell_many want zs) >>= λ ys. Ok (y ∷ ys)) (item_read want (spell_item want z) z (record { spelled = refl; within = all.0 }))
    ∙ ap (λ (r : Result (List ℤ) Fault). r >>= λ ys. Ok (z ∷ ys)) (many_again want zs all.1)

pub cons_err : (z : ℤ) (r : Result (List ℤ) Fault) (f : Fault) → (r >>= λ ys. Ok (z ∷ ys)) ≡ Err f → r ≡ Err f
cons_err z (Ok ys) f e = absurd (cc)
cons_err z (Err g) f e = cc

many_failed : (want : Want) (items : List (List ℕ)) (f : Fault) → take_all want items ≡ Err f → ManyFail want items f
unfolding take_all
many_failed want [] f e = absurd (cc)
many_failed want (item ∷ items) f e =
    elim (bind_err (read_item want item) (λ z. take_all want items >>= λ ys. Ok (z ∷ ys)) f e) [
      | inl p ↦ inl (item_failed want item f p)
      | inr x ↦ inr (x.0, (item_taken want item x.0 x.1.0, many_failed want items f (cons_err x.0 (take_all want items) f x.1.1)))
    ]

many_fail : (want : Want) (items : List (List ℕ)) (f : Fault) → ManyFail want items f → take_all want items ≡ Err f
unfolding take_all
many_fail want [] f b = absurd b
many_fail want (item ∷ items) f (inl b) = ap (λ (r : Result ℤ Fault). r >>= λ z. take_all want items >>= λ ys. Ok (z ∷ ys)) (fails_item want item f b)
many_fail want (item ∷ items) f (inr (z, (is, b))) =
    ap (λ (r : Result ℤ Fault). r >>= λ y. take_all want items >>= λ ys. Ok (y ∷ ys)) (item_read want item z is)
    ∙ ap (λ (r : Result (List ℤ) Fault). r >>= λ ys. Ok (z ∷ ys)) (many_fail want items f b)

-- ---- a line

pub line_taken : (form : LineForm) (items : List (List ℕ)) (zs : List ℤ) → read_line form items ≡ Ok zs → IsLineOf form items zs
unfolding read_line spell_line Suits take_end take_word take
line_taken stop [] zs e = subst (IsLineOf stop []) (ok_is {E = Fault} [] zs e) (record { spelled = refl; suits = tt })
line_taken stop (item ∷ items) zs e = absurd (cc)
line_taken (word text ok form) [] zs e = absurd (cc)
line_taken (word text ok form) (item ∷ items) zs e =
    let b = bind_ok (take_word text (item ∷ items)) (λ rest. read_line form rest) zs e in
    let first = word_found text item items b.0 b.1 in
    let others = line_taken form b.0 zs b.2 in
    record { spelled = ap (λ (i : List ℕ). i ∷ items) first.0 ∙ ap (λ (is : List (List ℕ)). text ∷ is) (first.1 ∙ others.spelled); suits = others.suits }
line_taken (number want form) [] zs e = absurd (cc)
line_taken (number want form) (item ∷ items) zs e =
    let a = bind_ok (take want (item ∷ items)) (λ x. read_line (form x.0) x.1 >>= λ ys. Ok (x.0 ∷ ys)) zs e in
    let b = bind_ok (read_line (form a.0.0) a.0.1) (λ ys. Ok (a.0.0 ∷ ys)) zs a.2 in
    let first = take_taken want item items a.0 a.1 in
    let others = line_taken (form a.0.0) a.0.1 b.0 b.1 in
    subst (IsLineOf (number want form) (item ∷ items)) (ok_is {E = Fault} (a.0.0 ∷ b.0) zs b.2) (record {
      spelled = ap (λ (i : List ℕ). i ∷ items) first.0.spelled ∙ ap (λ (is : List (List ℕ)). spell_item want a.0.0 ∷ is) (first.1 ∙ others.spelled);
      suits = (first.0.within, others.suits);
    })
line_taken (many want) items zs e =
    let t = many_taken want items zs e in
    record { spelled = t.0; suits = t.1 }
line_taken (ends reason) [] zs e = absurd (cc)
line_taken (ends reason) (item ∷ items) zs e = absurd (cc)
line_taken (fails reason) items zs e = absurd (cc)

pub line_again : (form : LineForm) (zs : List ℤ) → Suits form zs → read_line form (spell_line form zs) ≡ Ok zs
unfolding read_line spell_line Suits take_end
line_again stop [] suits = refl
line_again stop (z ∷ zs) suits = absurd suits
line_again (word text ok form) zs suits =
    ap (λ (r : Result (List (List ℕ)) Fault). r >>= λ rest. read_line form rest) (word_again text (spell_line form zs)) ∙ line_again form zs suits
line_again (number want form) [] suits = absurd suits
line_again (number want form) (z ∷ zs) suits =
    ap (λ (r : Result (ℤ × List (List ℕ)) Fault). r >>= λ x. read_line (form x.0) x.1 >>= λ ys. Ok (x.0 ∷ ys))
    (take_read want (spell_item want z) (spell_line (form z) zs) z (record { spelled = refl; within = suits.0 }))
    ∙ ap (λ (r : Result (List ℤ) Fault). r >>= λ ys. Ok (z ∷ ys)) (line_again (form z) zs suits.1)
line_again (many want) zs suits = many_again want zs suits
line_again (ends reason) zs suits = absurd suits
line_again (fails reason) zs suits = absurd suits

pub line_failed : (form : LineForm) (items : List (List ℕ)) (f : Fault) → read_line form items ≡ Err f → LineFails form items f
unfolding read_line LineFails take_end take_word take
line_failed stop [] f e = absurd (cc)
line_failed stop (item ∷ items) f e = cc
line_failed (word text ok form) [] f e = cc
line_failed (word text ok form) (item ∷ items) f e =
    elim (bind_err (take_word text (item ∷ items)) (λ rest. read_line form rest) f e) [
      | inl p ↦ inl (word_missing text item items f p)
      | inr x ↦ let first = word_found text item items x.0 x.1.0 in inr (first.0, line_failed form items f (ap (read_line form) first.1 ∙ x.1.1))
    ]
line_failed (number want form) [] f e = cc
line_failed (number want form) (item ∷ items) f e =
    elim (bind_err (take want (item ∷ items)) (λ x. read_line (form x.0) x.1 >>= λ ys. Ok (x.0 ∷ ys)) f e) [
      | inl p ↦ inl (take_failed want item items f p)
      | inr x ↦
          let first = take_taken want item items x.0 x.1.0 in
          inr (x.0.0, (first.0, line_failed (form x.0.0) items f (ap (read_line (form x.0.0)) first.1 ∙ cons_err x.0.0 (read_line (form x.0.0) x.0.1) f x.1.1)))
    ]
line_failed (many want) items f e = many_failed want items f e
line_failed (ends reason) [] f e = cc
line_failed (ends reason) (item ∷ items) f e = cc
line_failed (fails reason) items f e = cc

pub fails_line : (form : LineForm) (items : List (List ℕ)) (f : Fault) → LineFails form items f → read_line form items ≡ Err f
unfolding read_line LineFails take_end take_word take
fails_line stop [] f b = absurd b
fails_line stop (item ∷ items) f b = ap (λ g. Err g) (sym b)
fails_line (word text ok form) [] f b = ap (λ g. Err g) (sym b)
fails_line (word text ok form) (item ∷ items) f (inl b) =
    ap (λ (r : Result (List (List ℕ)) Fault). r >>= λ rest. read_line form rest) (word_fails text item items b.0) ∙ ap (λ g. Err g) (sym b.1)
fails_line (word text ok form) (item ∷ items) f (inr b) =
    ap (λ (i : List ℕ). take_word text (i ∷ items) >>= λ rest. read_line form rest) b.0
    ∙ ap (λ (r : Result (List (List ℕ)) Fault). r >>= λ rest. read_line form rest) (word_again text items) ∙ fails_line form items f b.1
fails_line (number want form) [] f b = ap (λ g. Err g) (sym b)
fails_line (number want form) (item ∷ items) f (inl b) =
    ap (λ (r : Result (ℤ × List (List ℕ)) Fault). r >>= λ x. read_line (form x.0) x.1 >>= λ ys. Ok (x.0 ∷ ys)) (take_fails want item items f b)
fails_line (number want form) (item ∷ items) f (inr (z, (is, b))) =
    ap (λ (r : Result (ℤ × List (List ℕ)) Fault). r >>= λ x. read_line (form x.0) x.1 >>= λ ys. Ok (x.0 ∷ ys)) (take_read want item items z is)
    ∙ ap (λ (r : Result (List ℤ) Fault). r >>= λ ys. Ok (z ∷ ys)) (fails_line (form z) items f b)
fails_line (many want) items f b = many_fail want items f b
fails_line (ends reason) [] f b = ap (λ g. Err g) (sym b)
fails_line (ends reason) (item ∷ items) f b = ap (λ g. Err g) (sym b)
fails_line (fails reason) items f b = ap (λ g. Err g) (sym b)

-- ---- what is spelled are items

many_are_items : (want : Want) (zs : List ℤ) → AllWithin want zs → AreItems (spell_many want zs)
many_are_items want [] all = tt
many_are_items want (z ∷ zs) all = (number_is_item want z all.0, many_are_items want zs all.1)

pub line_is_items : (form : LineForm) (zs : List ℤ) → Suits form zs → AreItems (spell_line form zs)
unfolding spell_line Suits
line_is_items stop zs suits = tt
line_is_items (word text ok form) zs suits = (item_by_test text ok, line_is_items form zs suits)
line_is_items (number want form) [] suits = tt
line_is_items (number want form) (z ∷ zs) suits = (number_is_item want z suits.0, line_is_items (form z) zs suits.1)
line_is_items (many want) zs suits = many_are_items want zs suits
line_is_items (ends reason) zs suits = tt
line_is_items (fails reason) zs suits = tt
