-- What files are answered with that were fetched, or that a folder tells.
use Rattle.std.proofs.Common.{◌≡◌, ap, subst, sym, refl, ℕ, suc, ◌-◌, ◌^◌, ◌<◌, ◌≤◌, List, [], ◌∷◌, length, arith}
use Rattle.std.specs.Prelude.{IfSome}
use Rattle.ccac_ports.specs.Ports.{Tells, Told}
use Rattle.file_reports.specs.Fetched.{AreFetched, AreShort, FetchEnds, Fetches, Holds, IsFetched, IsTold, faulty, goes_on, longer, no_more, one_more, stops}
use Rattle.file_reports.specs.Had.{ByText, ByTexts, had_all}
use Rattle.file_reports.specs.Reports.{Answer, read_fault, too_long}
use Rattle.file_reports.specs.Sources.{limit_of}
use Rattle.file_reports.specs.declared.sources.Source.{Source}
use Rattle.file_reports.specs.declared.sources.Source.TheVariants.{Controller, Question, Trace, Cert}

-- ---- files that are told

-- a file that is told is fetched as it is told to be, and its bytes decide
pub told_decides : (old new : Told) (source : Source) (name held : List ℕ) (Then : ByText) (a : Answer) → IsTold old new source name held
    → Fetches old new source name Then a → Then held a
told_decides old new source name held Then a is (stops (faulty rose)) = absurd (is.no_fault rose)
told_decides old new source name held Then a is (stops (longer rose past)) =
    let longer_still : limit_of source < length held =
    subst (λ told. IfSome told (λ bytes. limit_of source < length bytes)) is.content past
    in
    let within = is.within in absurd (omega arith)
told_decides old new source name held Then a is (goes_on bytes fetched decides) =
    let same : bytes ≡ held = subst (λ told. Tells told bytes) is.content fetched.told in
    subst (λ got. Then got a) same decides

same_file : (old new : Told) (source : Source) (name : List ℕ) (Then Other : ByText) (a b : Answer)
    → ((bytes : List ℕ) → Then bytes a → Other bytes b → a ≡ b) → Fetches old new source name Then a → Holds old new source name Other b → a ≡ b
same_file old new source name Then Other a b once fetches held =
    once held.bytes (told_decides old new source name held.bytes Then a held.told fetches) held.decides

-- what is answered once to the bytes is answered once to files that are told
pub told_once : (old new : Told) (files : List Source) (names : List (List ℕ)) (Then Other : ByTexts) (a b : Answer)
    → ((texts : List (List ℕ)) → Then texts a → Other texts b → a ≡ b) → had_all (Fetches old new) files names Then a
    → had_all (Holds old new) files names Other b → a ≡ b
told_once old new files [] Then Other a b once one two = once [] one two
told_once old new [] (name ∷ names) Then Other a b once one two = absurd one
told_once old new (source ∷ files) (name ∷ names) Then Other a b once one two =
    same_file old new source name _ _ a b (λ bytes. told_once old new files names _ _ a b (λ texts. once (bytes ∷ texts))) one two

-- what is told can be fetched
fetched_so : (old new : Told) (source : Source) (name : List ℕ) (Then Other : ByText) (a : Answer) → ((bytes : List ℕ) → Then bytes a → Other bytes a)
    → Holds old new source name Then a → Fetches old new source name Other a
fetched_so old new source name Then Other a so held =
    goes_on held.bytes
    (record { told = subst (λ told. Tells told held.bytes) (sym held.told.content) refl; within = held.told.within })
    (so held.bytes held.decides)

pub told_fetched : (old new : Told) (files : List Source) (names : List (List ℕ)) (Then Other : ByTexts) (a : Answer)
    → ((texts : List (List ℕ)) → Then texts a → Other texts a) → had_all (Holds old new) files names Then a → had_all (Fetches old new) files names Other a
told_fetched old new files [] Then Other a so is = so [] is
told_fetched old new [] (name ∷ names) Then Other a so is = is
told_fetched old new (source ∷ files) (name ∷ names) Then Other a so is =
    fetched_so old new source name _ _ a (λ bytes. told_fetched old new files names _ _ a (λ texts. so (bytes ∷ texts))) is

-- ---- files that were fetched

-- the status says that a file couldn't be had: no other answer of a fetch is given
pub ends_high : (old new : Told) (source : Source) (name : List ℕ) (a : Answer) → FetchEnds old new source name a
    → (3 ≤ a.status) × (a.status ≡ 4 → ⊥)
unfolding read_fault too_long
ends_high old new source name _ (faulty rose) = (omega arith, λ four. omega arith)
ends_high old new source name _ (longer rose past) = (omega arith, λ four. omega arith)

-- there are as many texts as names
pub same_count : (folder : Told) (files : List Source) (names texts : List (List ℕ)) → AreFetched folder files names texts → length texts ≡ length names
same_count folder _ _ _ (no_more files) = refl
same_count folder _ _ _ (one_more source files name bytes names texts first rest) = ap suc (same_count folder files names texts rest)

limit_is_short : (source : Source) → limit_of source < 2 ^ 32 - 1
limit_is_short Controller = omega arith
limit_is_short Question = omega arith
limit_is_short Trace = omega arith
limit_is_short Cert = omega arith

pub fetched_short : (folder : Told) (files : List Source) (names texts : List (List ℕ)) → AreFetched folder files names texts → AreShort texts
fetched_short folder _ _ _ (no_more files) = tt
fetched_short folder _ _ _ (one_more source files name bytes names texts first rest) =
    (let short = limit_is_short source in let within = first.within in omega arith, fetched_short folder files names texts rest)

-- the files were fetched, and this is what their bytes are answered with
pub record AreAnswered (folder : Told) (files : List Source) (names : List (List ℕ)) (Then : ByTexts) (a : Answer) : Type 0 where
  pub texts : List (List ℕ)
  pub fetched : AreFetched folder files names texts
  pub answers : Then texts a

after_file : (folder : Told) (source : Source) (files : List Source) (name bytes : List ℕ) (names : List (List ℕ)) (Then : ByTexts) (a : Answer)
    → IsFetched folder source name bytes → AreAnswered folder files names (λ texts. Then (bytes ∷ texts)) a
    → AreAnswered folder (source ∷ files) (name ∷ names) Then a
after_file folder source files name bytes names Then a first are = record {
  texts = bytes ∷ are.texts;
  fetched = one_more source files name bytes names are.texts first are.fetched;
  answers = are.answers;
}

-- where no fetch ends a command with this answer, all its files were fetched
pub all_answered : (old new : Told) (files : List Source) (names : List (List ℕ)) (Then : ByTexts) (a : Answer)
    → ((source : Source) (name : List ℕ) → FetchEnds old new source name a → ⊥) → had_all (Fetches old new) files names Then a
    → AreAnswered old files names Then a
all_answered old new files [] Then a not_ended is = record { texts = []; fetched = no_more files; answers = is }
all_answered old new [] (name ∷ names) Then a not_ended is = absurd is
all_answered old new (source ∷ files) (name ∷ names) Then a not_ended (stops ends) = absurd (not_ended source name ends)
all_answered old new (source ∷ files) (name ∷ names) Then a not_ended (goes_on bytes first is) =
    after_file old source files name bytes names Then a first (all_answered old new files names (λ texts. Then (bytes ∷ texts)) a not_ended is)
