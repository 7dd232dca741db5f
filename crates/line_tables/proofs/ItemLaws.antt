-- The items of a line are taken one after another, and their numbers come behind those that were taken before.
use Rattle.std.proofs.Common.{◌≡◌, ℕ, zero, suc, unsigned_abs, ◌+◌, ◌-◌, ◌<◌, ◌≤◌, ℤ, Result, Ok, Err, List, [], ◌∷◌, ◌++◌, drop, length, map, refl, sym, ap, ◌∙◌, append_assoc, arith}
use Rattle.std.proofs.Math.ListN.{drop_of_length-le}
use Rattle.std.specs.Fmt.{signed_decimal}
use Rattle.text_lines.specs.Steps.{◌>>=◌}
use Rattle.text_machine.specs.declared.faults.Fault.{Fault}
use Rattle.text_machine.specs.declared.lists.LineFault.{LineFault}
use Rattle.text_machine.specs.declared.lists.LineFault.TheVariants.{Item as OfItem, NoMemory}
use Rattle.text_machine.specs.Items.{Want, natural, whole}
use Rattle.text_machine.specs.Lines.{LineForm, number, times, take, take_end, spell_line, Suits, read_line}
use Rattle.text_machine.specs.Given.{FailsLine}
use Rattle.line_tables.specs.declared.tables.Item.{Item}
use Rattle.line_tables.specs.declared.tables.Item.TheVariants.{Natural, Whole, Wholes}
use Rattle.line_tables.specs.Tables.{form_of}
use Rattle.line_tables.specs.Given.{onto}

-- ---- one number

pub number_taken : (want : Want) (form : ℤ → LineForm) (front : List ℤ) (items rest : List (List ℕ)) (z : ℤ) → take want items ≡ Ok (z, rest)
    → onto front (read_line (number want form) items) ≡ onto (front ++ z ∷ []) (read_line (form z) rest)
unfolding read_line
number_taken want form front items rest z e =
    ap (λ (r : Result (ℤ × List (List ℕ)) Fault). onto front (r >>= λ x. read_line (form x.0) x.1 >>= λ zs. Ok (x.0 ∷ zs))) e ∙ regroup (read_line (form z) rest)
  where
    regroup : (found : Result (List ℤ) Fault) → onto front (found >>= λ zs. Ok (z ∷ zs)) ≡ onto (front ++ z ∷ []) found
    regroup (Ok zs) = ap (λ (ys : List ℤ). Ok ys) (sym (append_assoc front (z ∷ []) zs))
    regroup (Err f) = refl

pub number_failed : (want : Want) (form : ℤ → LineForm) (front : List ℤ) (items : List (List ℕ)) (f : Fault) → take want items ≡ Err f → onto front (read_line (number want form) items) ≡ Err f
unfolding read_line
number_failed want form front items f e = ap (λ (r : Result (ℤ × List (List ℕ)) Fault). onto front (r >>= λ x. read_line (form x.0) x.1 >>= λ zs. Ok (x.0 ∷ zs))) e

-- ---- a fault of what is still read is one of what is read in all

pub fails_along : (fault : LineFault) (x y : Result (List ℤ) Fault) → x ≡ y → FailsLine fault y → FailsLine fault x
fails_along NoMemory x y e f = tt
fails_along (OfItem g) x y e f = e ∙ f

-- ---- so many numbers

pub one_of_times : (count i : ℕ) (form : LineForm) (front : List ℤ) (items : List (List ℕ)) → i < count
    → onto front (read_line (times (count - i) whole form) items) ≡ onto front (read_line (number whole (λ _. times (count - (i + 1)) whole form)) items)
one_of_times count i form front items lt =
    let more : count - i ≡ suc (count - (i + 1)) = omega arith in
    ap (λ n. onto front (read_line (times n whole form) items)) more

-- ---- the kinds, one after another

pub last_kind : (kinds : List Item) (i : ℕ) (front : List ℤ) (items : List (List ℕ)) → length kinds ≤ i → onto front (read_line (form_of (drop i kinds)) items) ≡ onto front (take_end items)
unfolding form_of read_line
last_kind kinds i front items le =
    let none : drop i kinds ≡ [] = rw (drop_of_length-le kinds le) refl in
    ap (λ (left : List Item). onto front (read_line (form_of left) items)) none

-- a kind that is of this form
pub as_natural : (low high : ℕ) (kind : Item) (kinds : List Item) (front : List ℤ) (items : List (List ℕ)) → kind ≡ Natural low high
    → onto front (read_line (form_of (kind ∷ kinds)) items) ≡ onto front (read_line (number (natural low high) (λ _. form_of kinds)) items)
unfolding form_of
as_natural low high kind kinds front items is = ap (λ (k : Item). onto front (read_line (form_of (k ∷ kinds)) items)) is

pub as_whole : (kind : Item) (kinds : List Item) (front : List ℤ) (items : List (List ℕ)) → kind ≡ Whole
    → onto front (read_line (form_of (kind ∷ kinds)) items) ≡ onto front (read_line (number whole (λ _. form_of kinds)) items)
unfolding form_of
as_whole kind kinds front items is = ap (λ (k : Item). onto front (read_line (form_of (k ∷ kinds)) items)) is

pub as_wholes : (most : ℕ) (kind : Item) (kinds : List Item) (front : List ℤ) (items : List (List ℕ)) → kind ≡ Wholes most
    → onto front (read_line (form_of (kind ∷ kinds)) items) ≡ onto front (read_line (number (natural 0 most) (λ count. times (unsigned_abs count) whole (form_of kinds))) items)
unfolding form_of
as_wholes most kind kinds front items is = ap (λ (k : Item). onto front (read_line (form_of (k ∷ kinds)) items)) is

-- ---- what is spelled

many_spelled : (count : ℕ) (form : LineForm) → ((zs : List ℤ) → Suits form zs → spell_line form zs ≡ map signed_decimal zs)
    → (zs : List ℤ) → Suits (times count whole form) zs → spell_line (times count whole form) zs ≡ map signed_decimal zs
unfolding spell_line Suits
many_spelled zero form others zs suits = others zs suits
many_spelled (suc count) form others [] suits = absurd suits
many_spelled (suc count) form others (z ∷ zs) suits = ap (λ (items : List (List ℕ)). signed_decimal z ∷ items) (many_spelled count form others zs suits.1)

pub kinds_spelled : (kinds : List Item) (zs : List ℤ) → Suits (form_of kinds) zs → spell_line (form_of kinds) zs ≡ map signed_decimal zs
unfolding form_of spell_line Suits
kinds_spelled [] [] suits = refl
kinds_spelled [] (z ∷ zs) suits = absurd suits
kinds_spelled (Natural low high ∷ kinds) [] suits = absurd suits
kinds_spelled (Natural low high ∷ kinds) (z ∷ zs) suits = ap (λ (items : List (List ℕ)). signed_decimal z ∷ items) (kinds_spelled kinds zs suits.1)
kinds_spelled (Whole ∷ kinds) [] suits = absurd suits
kinds_spelled (Whole ∷ kinds) (z ∷ zs) suits = ap (λ (items : List (List ℕ)). signed_decimal z ∷ items) (kinds_spelled kinds zs suits.1)
kinds_spelled (Wholes most ∷ kinds) [] suits = absurd suits
kinds_spelled (Wholes most ∷ kinds) (z ∷ zs) suits =
    ap (λ (items : List (List ℕ)). signed_decimal z ∷ items) (many_spelled (unsigned_abs z) (form_of kinds) (λ ys t. kinds_spelled kinds ys t) zs suits.1)
