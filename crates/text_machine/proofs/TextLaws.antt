-- Of every format: a text is the text of one table, or has one first refusal, and not both. A whole text is its lines,
-- fed one after another, and then its rest.
use Rattle.std.proofs.Common.{◌≡◌, ℕ, ◌+◌, ℤ, Option, None, Some, Result, Ok, Err, List, [], ◌∷◌, ◌++◌, length, map, arith, refl, sym, ap, subst, ◌∙◌, inl, inr, ◌⊎◌}
use Rattle.std.specs.List.{AllByRecursion}
use Rattle.text_lines.specs.Steps.{◌>>=◌}
use Rattle.text_lines.specs.Pieces.{pieces, line_of, AreItems}
use Rattle.text_lines.proofs.StepLaws.{bind_ok, ok_is}
use Rattle.text_lines.proofs.PieceLaws.{pieces_joined, some_piece, items_of_line, lines_of_text, text_of_lines}
use Rattle.text_machine.specs.declared.faults.Fault.{Fault}
use Rattle.text_machine.specs.Lines.{LineForm, spell_line, IsLineOf, read_line}
use Rattle.text_machine.specs.Texts.{Table, Format, spell_by, HasItems, SuitsBy, spell_lines, IsWhole, IsTextOf, IsLineBy, LineRefused, RestRefused, FirstRefused, named, read_by, step, finish_by, finish, read_pieces, read_text, feed}
use Rattle.text_machine.proofs.FormLaws.{bind_err, line_taken, line_again, line_failed, fails_line, line_is_items}

-- ---- one line in a state

not_named : {X R : Type 0} (name : Fault → R) (r : Result X Fault) (x : X) → named name r ≡ Ok x → r ≡ Ok x
not_named name (Ok y) x e = cc
not_named name (Err f) x e = absurd (cc)

by_taken : {S R : Type 0} (format : Format S R) (form : Option LineForm) (s : S) (k : ℕ) (items : List (List ℕ)) (zs : List ℤ) → read_by format form s k items ≡ Ok zs → IsLineBy form items zs
by_taken format None s k items zs e = absurd (cc)
by_taken format (Some form) s k items zs e = line_taken form items zs (not_named (format.blame s k) (read_line form items) zs e)

by_again : {S R : Type 0} (format : Format S R) (form : Option LineForm) (s : S) (k : ℕ) (items : List (List ℕ)) (zs : List ℤ) → IsLineBy form items zs → read_by format form s k items ≡ Ok zs
by_again format None s k items zs is = absurd is
by_again format (Some form) s k items zs is = ap (named (format.blame s k)) (ap (read_line form) is.spelled ∙ line_again form zs is.suits)

by_failed : {S R : Type 0} (format : Format S R) (form : Option LineForm) (s : S) (k : ℕ) (items : List (List ℕ)) (r : R) → read_by format form s k items ≡ Err r → LineRefused format form s k items r
by_failed format None s k items r e = cc
by_failed {S} {R} format (Some form) s k items r e = by_read (read_line form items) refl e
  where
    by_read : (found : Result (List ℤ) Fault) → read_line form items ≡ found → named (format.blame s k) found ≡ Err r → LineRefused format (Some form) s k items r
    by_read (Ok zs) p q = absurd (cc)
    by_read (Err f) p q = (f, (line_failed form items f p, cc))

fails_by : {S R : Type 0} (format : Format S R) (form : Option LineForm) (s : S) (k : ℕ) (items : List (List ℕ)) (r : R) → LineRefused format form s k items r → read_by format form s k items ≡ Err r
fails_by format None s k items r b = ap (λ x. Err x) (sym b)
fails_by format (Some form) s k items r (f, (b, is)) = ap (named (format.blame s k)) (fails_line form items f b) ∙ ap (λ x. Err x) (sym is)

-- a line that was read, and the state that it leads to
pub record Steps {S R : Type 0} (format : Format S R) (s : S) (line : List ℕ) (zs : List ℤ) (t : S) : Type 0 where
  pub is_line : IsLineBy (format.form s) (pieces 32 line) zs
  pub leads : format.next s zs ≡ t

pub step_taken : {S R : Type 0} (format : Format S R) (s : S) (k : ℕ) (line : List ℕ) (x : List ℤ × S) → step format s k line ≡ Ok x → Steps format s line x.0 x.1
unfolding step
step_taken {S} {R} format s k line x e =
    let b = bind_ok (read_by format (format.form s) s k (pieces 32 line)) (λ zs. Ok (zs, format.next s zs)) x e in
    let family : List ℤ × S → Type 0 = λ y. Steps format s line y.0 y.1 in
    subst family (ok_is {E = R} (b.0, format.next s b.0) x b.2) (record { is_line = by_taken format (format.form s) s k (pieces 32 line) b.0 b.1; leads = refl })

pub step_again : {S R : Type 0} (format : Format S R) (s : S) (k : ℕ) (line : List ℕ) (zs : List ℤ) → IsLineBy (format.form s) (pieces 32 line) zs → step format s k line ≡ Ok (zs, format.next s zs)
unfolding step
step_again {S} {R} format s k line zs is = ap (λ (r : Result (List ℤ) R). r >>= λ ys. Ok (ys, format.next s ys)) (by_again format (format.form s) s k (pieces 32 line) zs is)

pub step_failed : {S R : Type 0} (format : Format S R) (s : S) (k : ℕ) (line : List ℕ) (r : R) → step format s k line ≡ Err r → LineRefused format (format.form s) s k (pieces 32 line) r
unfolding step
step_failed {S} {R} format s k line r e =
    by_failed format (format.form s) s k (pieces 32 line) r (forget_next (read_by format (format.form s) s k (pieces 32 line)) e)
  where
    forget_next : (found : Result (List ℤ) R) → (◌>>=◌ {B = List ℤ × S} found (λ zs. Ok (zs, format.next s zs))) ≡ Err r → found ≡ Err r
    forget_next (Ok zs) q = absurd (cc)
    forget_next (Err f) q = cc

step_fails : {S R : Type 0} (format : Format S R) (s : S) (k : ℕ) (line : List ℕ) (r : R) → LineRefused format (format.form s) s k (pieces 32 line) r → step format s k line ≡ Err r
unfolding step
step_fails {S} {R} format s k line r b = ap (λ (x : Result (List ℤ) R). x >>= λ ys. Ok (ys, format.next s ys)) (fails_by format (format.form s) s k (pieces 32 line) r b)

-- ---- the rest

finish_taken : {S R : Type 0} (format : Format S R) (form : Option LineForm) (s : S) (k : ℕ) (rest : List ℕ) (table : Table) → finish_by format form s k rest ≡ Ok table → (form ≡ None) × (rest ≡ []) × (table ≡ [])
finish_taken format None s k [] table e = (refl, refl, cc)
finish_taken format None s k (b ∷ bytes) table e = absurd (cc)
finish_taken format (Some form) s k rest table e = absurd (cc)

finish_failed : {S R : Type 0} (format : Format S R) (form : Option LineForm) (s : S) (k : ℕ) (rest : List ℕ) (r : R) → finish_by format form s k rest ≡ Err r → RestRefused format form s k rest r
finish_failed format None s k [] r e = absurd (cc)
finish_failed format None s k (b ∷ bytes) r e = ((λ h. cc), cc)
finish_failed format (Some form) s k rest r e = cc

fails_finish : {S R : Type 0} (format : Format S R) (form : Option LineForm) (s : S) (k : ℕ) (rest : List ℕ) (r : R) → RestRefused format form s k rest r → finish_by format form s k rest ≡ Err r
fails_finish format None s k [] r b = absurd (b.0 refl)
fails_finish format None s k (c ∷ bytes) r b = ap (λ x. Err x) (sym b.1)
fails_finish format (Some form) s k rest r b = ap (λ x. Err x) (sym b)

-- ---- the whole text

-- a line that was cut has an item
by_suits : (form : Option LineForm) (line : List ℕ) (zs : List ℤ) → IsLineBy form (pieces 32 line) zs → SuitsBy form zs × (line ≡ line_of (spell_by form zs))
by_suits None line zs is = absurd is
by_suits (Some form) line zs is =
    let p = some_piece 32 line in
    ((is.suits, subst HasItems (sym p.1.1 ∙ is.spelled) tt), sym (pieces_joined 32 line) ∙ ap line_of is.spelled)

-- the pieces are the lines of the table, with nothing behind them
pub record AreLines {S R : Type 0} (format : Format S R) (s : S) (left : List (List ℕ)) (table : Table) : Type 0 where
  pub parts : left ≡ map line_of (spell_lines format s table) ++ ([] ∷ [])
  pub is_whole : IsWhole format s table

pieces_taken : {S R : Type 0} (format : Format S R) (s : S) (k : ℕ) (piece : List ℕ) (left : List (List ℕ)) (table : Table) → read_pieces format s k (piece ∷ left) ≡ Ok table → AreLines format s (piece ∷ left) table
unfolding read_pieces finish spell_lines IsWhole
pieces_taken format s k rest [] table e =
    let t = finish_taken format (format.form s) s k rest table e in
    subst (AreLines format s (rest ∷ [])) (sym t.2) (record { parts = ap (λ (b : List ℕ). b ∷ []) t.1; is_whole = t.0 })
pieces_taken {S} {R} format s k line (piece ∷ left) table e =
    let a = bind_ok (step format s k line) (λ x. read_pieces format x.1 (k + 1) (piece ∷ left) >>= λ ts. Ok (x.0 ∷ ts)) table e in
    let b = bind_ok (read_pieces format a.0.1 (k + 1) (piece ∷ left)) (λ ts. Ok (a.0.0 ∷ ts)) table a.2 in
    let first = step_taken format s k line a.0 a.1 in
    let suits = by_suits (format.form s) line a.0.0 first.is_line in
    let others = subst (λ (t : S). AreLines format t (piece ∷ left) b.0) (sym first.leads) (pieces_taken format a.0.1 (k + 1) piece left b.0 b.1) in
    subst (AreLines format s (line ∷ piece ∷ left)) (ok_is {E = R} (a.0.0 ∷ b.0) table b.2) (record {
      parts = ap (λ (l : List ℕ). l ∷ piece ∷ left) suits.1 ∙ ap (λ (ps : List (List ℕ)). line_of (spell_by (format.form s) a.0.0) ∷ ps) others.parts;
      is_whole = (suits.0, others.is_whole);
    })

suits_items : (form : Option LineForm) (zs : List ℤ) → SuitsBy form zs → AreItems (spell_by form zs)
suits_items None zs suits = absurd suits
suits_items (Some form) zs suits = line_is_items form zs suits.0

suits_line : (form : Option LineForm) (zs : List ℤ) → SuitsBy form zs → IsLineBy form (pieces 32 (line_of (spell_by form zs))) zs
suits_line None zs suits = absurd suits
suits_line (Some form) zs suits = by_items (spell_line form zs) refl suits.1
  where
    by_items : (items : List (List ℕ)) → spell_line form zs ≡ items → HasItems items → IsLineOf form (pieces 32 (line_of (spell_line form zs))) zs
    by_items [] is some = absurd some
    by_items (item ∷ items) is some = record {
      spelled = ap (λ (i : List (List ℕ)). pieces 32 (line_of i)) is ∙ items_of_line item items (subst AreItems is (line_is_items form zs suits.0)) ∙ sym is;
      suits = suits.0;
    }

all_items : {S R : Type 0} (format : Format S R) (s : S) (table : Table) → IsWhole format s table → AllByRecursion AreItems (spell_lines format s table)
unfolding spell_lines IsWhole
all_items format s [] whole = tt
all_items format s (zs ∷ table) whole = (suits_items (format.form s) zs whole.0, all_items format (format.next s zs) table whole.1)

-- where something stands behind it, a piece is a line
read_more : {S R : Type 0} (format : Format S R) (s : S) (k : ℕ) (line : List ℕ) (left : List (List ℕ)) → HasItems left
    → read_pieces format s k (line ∷ left) ≡ (step format s k line >>= λ x. read_pieces format x.1 (k + 1) left >>= λ ts. Ok (x.0 ∷ ts))
unfolding read_pieces
read_more format s k line [] some = absurd some
read_more format s k line (piece ∷ left) some = refl

some_behind : (lines : List (List (List ℕ))) → HasItems (map line_of lines ++ ([] ∷ []))
some_behind [] = tt
some_behind (line ∷ lines) = tt

pieces_again : {S R : Type 0} (format : Format S R) (s : S) (k : ℕ) (table : Table) → IsWhole format s table → read_pieces format s k (map line_of (spell_lines format s table) ++ ([] ∷ [])) ≡ Ok table
unfolding read_pieces finish spell_lines IsWhole
pieces_again format s k [] whole = ap (λ (form : Option LineForm). finish_by format form s k []) whole
pieces_again {S} {R} format s k (zs ∷ table) whole =
    let behind = map line_of (spell_lines format (format.next s zs) table) ++ ([] ∷ []) in
    read_more format s k (line_of (spell_by (format.form s) zs)) behind (some_behind (spell_lines format (format.next s zs) table))
    ∙ ap (λ (r : Result (List ℤ × S) R). r >>= λ x. read_pieces format x.1 (k + 1) behind >>= λ ts. Ok (x.0 ∷ ts)) (step_again format s k (line_of (spell_by (format.form s) zs)) zs (suits_line (format.form s) zs whole.0))
    ∙ ap (λ (r : Result Table R). r >>= λ ts. Ok (zs ∷ ts)) (pieces_again format (format.next s zs) (k + 1) table whole.1)

pub text_taken : {S R : Type 0} (format : Format S R) (s : S) (bytes : List ℕ) (table : Table) → read_text format s bytes ≡ Ok table → IsTextOf format s bytes table
text_taken {S} {R} format s bytes table e =
    let p = some_piece 10 bytes in
    let are = pieces_taken format s 1 p.0 p.1.0 table (ap (read_pieces format s 1) (sym p.1.1) ∙ e) in
    record { text_is = text_of_lines (spell_lines format s table) bytes (p.1.1 ∙ are.parts); is_whole = are.is_whole }

pub text_again : {S R : Type 0} (format : Format S R) (s : S) (bytes : List ℕ) (table : Table) → IsTextOf format s bytes table → read_text format s bytes ≡ Ok table
text_again format s bytes table is =
    ap (read_pieces format s 1) (ap (pieces 10) is.text_is ∙ lines_of_text (spell_lines format s table) (all_items format s table is.is_whole)) ∙ pieces_again format s 1 table is.is_whole

-- ---- the first refusal

pieces_failed : {S R : Type 0} (format : Format S R) (s : S) (k : ℕ) (left : List (List ℕ)) (r : R) → read_pieces format s k left ≡ Err r → FirstRefused format s k left r
unfolding read_pieces finish FirstRefused
pieces_failed format s k [] r e = absurd (cc)
pieces_failed format s k (rest ∷ []) r e = finish_failed format (format.form s) s k rest r e
pieces_failed {S} {R} format s k (line ∷ piece ∷ left) r e =
    elim (bind_err (step format s k line) (λ x. read_pieces format x.1 (k + 1) (piece ∷ left) >>= λ ts. Ok (x.0 ∷ ts)) r e) [
      | inl p ↦ inl (step_failed format s k line r p)
      | inr x ↦
          let first = step_taken format s k line x.0 x.1.0 in
          inr (
            x.0.0,
            (
              first.is_line,
              pieces_failed format (format.next s x.0.0) (k + 1) (piece ∷ left) r
                  (ap (λ (t : S). read_pieces format t (k + 1) (piece ∷ left)) first.leads ∙ cons_err x.0.0 (read_pieces format x.0.1 (k + 1) (piece ∷ left)) x.1.1),
            ),
          )
    ]
  where
    cons_err : (zs : List ℤ) (found : Result Table R) → (found >>= λ ts. Ok (zs ∷ ts)) ≡ Err r → found ≡ Err r
    cons_err zs (Ok ts) q = absurd (cc)
    cons_err zs (Err f) q = cc

fails_pieces : {S R : Type 0} (format : Format S R) (s : S) (k : ℕ) (left : List (List ℕ)) (r : R) → FirstRefused format s k left r → read_pieces format s k left ≡ Err r
unfolding read_pieces finish FirstRefused
fails_pieces format s k [] r b = absurd b
fails_pieces format s k (rest ∷ []) r b = fails_finish format (format.form s) s k rest r b
fails_pieces {S} {R} format s k (line ∷ piece ∷ left) r (inl b) =
    ap (λ (x : Result (List ℤ × S) R). x >>= λ y. read_pieces format y.1 (k + 1) (piece ∷ left) >>= λ ts. Ok (y.0 ∷ ts)) (step_fails format s k line r b)
fails_pieces {S} {R} format s k (line ∷ piece ∷ left) r (inr (zs, (is, b))) =
    ap (λ (x : Result (List ℤ × S) R). x >>= λ y. read_pieces format y.1 (k + 1) (piece ∷ left) >>= λ ts. Ok (y.0 ∷ ts)) (step_again format s k line zs is)
    ∙ ap (λ (x : Result Table R). x >>= λ ts. Ok (zs ∷ ts)) (fails_pieces format (format.next s zs) (k + 1) (piece ∷ left) r b)

pub text_refused : {S R : Type 0} (format : Format S R) (s : S) (bytes : List ℕ) (r : R) → read_text format s bytes ≡ Err r → FirstRefused format s 1 (pieces 10 bytes) r
text_refused format s bytes r e = pieces_failed format s 1 (pieces 10 bytes) r e

pub refused_text : {S R : Type 0} (format : Format S R) (s : S) (bytes : List ℕ) (r : R) → FirstRefused format s 1 (pieces 10 bytes) r → read_text format s bytes ≡ Err r
refused_text format s bytes r b = fails_pieces format s 1 (pieces 10 bytes) r b

-- a text is that of a table, or it has a first refusal
pub either : {S R : Type 0} (format : Format S R) (s : S) (bytes : List ℕ) → ((table : Table) × IsTextOf format s bytes table) ⊎ ((r : R) × FirstRefused format s 1 (pieces 10 bytes) r)
either {S} {R} format s bytes = by_read (read_text format s bytes) refl
  where
    by_read : (found : Result Table R) → read_text format s bytes ≡ found → ((table : Table) × IsTextOf format s bytes table) ⊎ ((r : R) × FirstRefused format s 1 (pieces 10 bytes) r)
    by_read (Ok table) e = inl (table, text_taken format s bytes table e)
    by_read (Err r) e = inr (r, text_refused format s bytes r e)

-- ---- lines fed one after another

some_rest : (lines : List (List ℕ)) (rest : List ℕ) → HasItems (lines ++ rest ∷ [])
some_rest [] rest = tt
some_rest (line ∷ lines) rest = tt

-- a whole text is its lines, fed one after another, and then its rest
pub fed : {S R : Type 0} (format : Format S R) (s : S) (k : ℕ) (lines : List (List ℕ)) (rest : List ℕ)
    → read_pieces format s k (lines ++ rest ∷ []) ≡ (feed format s k lines >>= λ y. finish format y.1 (k + length lines) rest >>= λ ts. Ok (y.0 ++ ts))
unfolding feed read_pieces
fed {S} {R} format s k [] rest = kept (finish format s k rest) ∙ ap (λ n. finish format s n rest >>= λ ts. Ok ts) (omega arith)
  where
    kept : (found : Result Table R) → found ≡ (found >>= λ ts. Ok ts)
    kept (Ok ts) = refl
    kept (Err r) = refl
fed {S} {R} format s k (line ∷ lines) rest =
    read_more format s k line (lines ++ rest ∷ []) (some_rest lines rest)
    ∙ by_step (step format s k line) (λ (x : List ℤ × S). fed format x.1 (k + 1) lines rest)
  where
    by_finish : (zs : List ℤ) (front : Table) (found : Result Table R) → ((found >>= λ ts. Ok (front ++ ts)) >>= λ ts. Ok (zs ∷ ts)) ≡ (found >>= λ ts. Ok ((zs ∷ front) ++ ts))
    by_finish zs front (Ok ts) = refl
    by_finish zs front (Err r) = refl

    by_feed : (zs : List ℤ) (found : Result (Table × S) R)
        → ((found >>= λ y. finish format y.1 (k + 1 + length lines) rest >>= λ ts. Ok (y.0 ++ ts)) >>= λ ts. Ok (zs ∷ ts))
        ≡ (◌>>=◌ {B = Table × S} found (λ y. Ok (zs ∷ y.0, y.1)) >>= λ y. finish format y.1 (k + length (line ∷ lines)) rest >>= λ ts. Ok (y.0 ++ ts))
    by_feed zs (Err r) = refl
    by_feed zs (Ok y) =
        by_finish zs y.0 (finish format y.1 (k + 1 + length lines) rest)
        ∙ ap (λ n. finish format y.1 n rest >>= λ ts. Ok ((zs ∷ y.0) ++ ts)) (omega arith)

    by_step : (found : Result (List ℤ × S) R)
        → ((x : List ℤ × S) → read_pieces format x.1 (k + 1) (lines ++ rest ∷ []) ≡ (feed format x.1 (k + 1) lines >>= λ y. finish format y.1 (k + 1 + length lines) rest >>= λ ts. Ok (y.0 ++ ts)))
        → (found >>= λ x. read_pieces format x.1 (k + 1) (lines ++ rest ∷ []) >>= λ ts. Ok (x.0 ∷ ts))
        ≡ ((found >>= λ x. ◌>>=◌ {B = Table × S} (feed format x.1 (k + 1) lines) (λ y. Ok (x.0 ∷ y.0, y.1))) >>= λ y. finish format y.1 (k + length (line ∷ lines)) rest >>= λ ts. Ok (y.0 ++ ts))
    by_step (Err r) others = refl
    by_step (Ok x) others = ap (λ (r : Result Table R). r >>= λ ts. Ok (x.0 ∷ ts)) (others x) ∙ by_feed x.0 (feed format x.1 (k + 1) lines)
