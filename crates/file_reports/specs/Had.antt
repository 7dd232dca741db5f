-- Files that are had one after the other, in whatever way, and then what their bytes are answered with.
use Rattle.std.specs.Prelude.{ℕ, List, [], ◌∷◌}
use Rattle.file_reports.specs.Reports.{Answer}
use Rattle.file_reports.specs.declared.sources.Source.{Source}

-- what the bytes of one file are answered with, and those of all
abbrev pub ByText : Type 1
ByText = List ℕ → Answer → Type 0

abbrev pub ByTexts : Type 1
ByTexts = List (List ℕ) → Answer → Type 0

-- a way to have a file by its name, and then to answer to its bytes
abbrev pub Had : Type 1
Had = Source → List ℕ → ByText → Answer → Type 0

-- the named files, each had in this way one after the other, and then what their bytes are answered with: each name stands for the file
-- at its place, and the last files may have no name
abbrev pub had_all : Had → List Source → List (List ℕ) → ByTexts → Answer → Type 0
had_all had files [] Then a = Then [] a
had_all had [] (name ∷ names) Then a = ⊥
had_all had (source ∷ files) (name ∷ names) Then a = had source name (λ bytes. had_all had files names (λ texts. Then (bytes ∷ texts))) a

-- no answer, whatever the bytes are
abbrev pub never : ByTexts
never texts a = ⊥

-- ---- what the texts of two files are answered with, of three, and of one or two

abbrev pub of_two : (List ℕ → ByText) → ByTexts
of_two Two [] a = ⊥
of_two Two (one ∷ []) a = ⊥
of_two Two (one ∷ two ∷ []) a = Two one two a
of_two Two (one ∷ two ∷ three ∷ more) a = ⊥

abbrev pub of_three : (List ℕ → List ℕ → ByText) → ByTexts
of_three Three [] a = ⊥
of_three Three (one ∷ []) a = ⊥
of_three Three (one ∷ two ∷ []) a = ⊥
of_three Three (one ∷ two ∷ three ∷ []) a = Three one two three a
of_three Three (one ∷ two ∷ three ∷ four ∷ more) a = ⊥

abbrev pub of_one_or_two : ByText → (List ℕ → ByText) → ByTexts
of_one_or_two One Two [] a = ⊥
of_one_or_two One Two (one ∷ []) a = One one a
of_one_or_two One Two (one ∷ two ∷ []) a = Two one two a
of_one_or_two One Two (one ∷ two ∷ three ∷ more) a = ⊥
