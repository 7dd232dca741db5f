-- Files that are fetched one after the other.
use Rattle.std.proofs.Common.{◌≡◌, ◌∙◌, subst, ℕ, ◌<◌, ◌≤◌, inl, inr, List, [], ◌∷◌, ◌++◌, length, get_or, Result, arith}
use Rattle.std.specs.Prelude.{IfSome}
use Rattle.ccac_ports.specs.Ports.{HasRisen, Tells, Told}
use Rattle.file_reports.specs.Fetched.{AreFetched, FetchEnds, Fetches, IsFetched, IsLater, faulty, goes_on, longer, no_more, one_more, stops}
use Rattle.file_reports.specs.Had.{ByText, ByTexts, had_all, never}
use Rattle.file_reports.specs.Halted.{HaltsBy, Replies}
use Rattle.file_reports.specs.Reports.{Answer}
use Rattle.file_reports.specs.Sources.{limit_of}
use Rattle.file_reports.specs.declared.reports.Report.{Report as Reported}
use Rattle.file_reports.specs.declared.sources.Source.{Source}
use Rattle.file_reports.specs.declared.early_end.EarlyEnd.{EarlyEnd}
use Rattle.file_reports.proofs.HaltLaws.{halts_so, replies_so}

-- ---- a fetch that comes after others

rises : (old middle new : ℕ) → old ≤ middle → HasRisen middle new → HasRisen old new
rises old middle new below (inl more) = inl (omega arith)
rises old middle new below (inr last) = inr last

pub later_still : (old middle new : Told) → IsLater old middle → IsLater middle new → IsLater old new
later_still old middle new first second = record {
  faults_stay = λ name. let one = first.faults_stay name in let two = second.faults_stay name in omega arith;
  excesses_stay = λ name. let one = first.excesses_stay name in let two = second.excesses_stay name in omega arith;
  kept = λ name. second.kept name ∙ first.kept name;
}

later_fetched : (old middle : Told) (source : Source) (name bytes : List ℕ) → IsLater old middle → IsFetched middle source name bytes
    → IsFetched old source name bytes
later_fetched old middle source name bytes later fetched = record {
  told = subst (λ told. Tells told bytes) (later.kept name) fetched.told;
  within = fetched.within;
}

later_ends : (old middle new : Told) (source : Source) (name : List ℕ) (answer : Answer) → IsLater old middle
    → FetchEnds middle new source name answer → FetchEnds old new source name answer
later_ends old middle new source name answer later (faulty rose) =
    faulty (rises (old.faults name) (middle.faults name) (new.faults name) (later.faults_stay name) rose)
later_ends old middle new source name answer later (longer rose past) =
    longer (rises (old.excesses name) (middle.excesses name) (new.excesses name) (later.excesses_stay name) rose)
    (subst (λ told. IfSome told (λ held. limit_of source < length held)) (later.kept name) past)

-- ---- the next file

-- the source stands in the files behind those that were fetched
abbrev pub IsNext : List Source → List (List ℕ) → Source → Type 0
IsNext files texts source = (length texts < length files) × (get_or files (length texts) source ≡ source)

fetched_next : (old : Told) (files : List Source) (names texts : List (List ℕ)) (source : Source) (name bytes : List ℕ) → AreFetched old files names texts
    → IsNext files texts source → IsFetched old source name bytes → AreFetched old files (names ++ name ∷ []) (texts ++ bytes ∷ [])
fetched_next old _ _ _ source name bytes (no_more []) is fetched = let below = is.0 in absurd (omega arith)
fetched_next old _ _ _ source name bytes (no_more (file ∷ files)) is fetched =
    one_more file files name bytes [] [] (subst (λ s. IsFetched old s name bytes) (is_last is.1) fetched) (no_more files)
  where
    is_last : file ≡ source → source ≡ file
    is_last same = cc
fetched_next old _ _ _ source name bytes (one_more file files one text names texts first rest) is fetched =
    one_more file files one text _ _ first
    (fetched_next old files names texts source name bytes rest (let below = is.0 in omega arith, is.1) fetched)

stops_next : (old new : Told) (files : List Source) (names more texts : List (List ℕ)) (source : Source) (name : List ℕ) (Then : ByTexts) (a : Answer)
    → AreFetched old files names texts → IsNext files texts source → FetchEnds old new source name a
    → had_all (Fetches old new) files (names ++ name ∷ more) Then a
stops_next old new _ _ more _ source name Then a (no_more []) is ends = let below = is.0 in absurd (omega arith)
stops_next old new _ _ more _ source name Then a (no_more (file ∷ files)) is ends =
    stops (subst (λ s. FetchEnds old new s name a) (is_last is.1) ends)
  where
    is_last : file ≡ source → source ≡ file
    is_last same = cc
stops_next old new _ _ more _ source name Then a (one_more file files one text names texts first rest) is ends =
    goes_on text first
    (stops_next old new files names more texts source name (λ ts. Then (text ∷ ts)) a rest (let below = is.0 in omega arith, is.1) ends)

pub next_fetched : (old middle : Told) (files : List Source) (names texts : List (List ℕ)) (source : Source) (name bytes : List ℕ) → IsLater old middle
    → AreFetched old files names texts → IsNext files texts source → IsFetched middle source name bytes
    → AreFetched old files (names ++ name ∷ []) (texts ++ bytes ∷ [])
next_fetched old middle files names texts source name bytes later are is fetched =
    fetched_next old files names texts source name bytes are is (later_fetched old middle source name bytes later fetched)

-- the fetch of a file that ends the command, whatever comes after it
pub next_stops : (old middle new : Told) (files : List Source) (names more texts : List (List ℕ)) (source : Source) (name : List ℕ) (halt : EarlyEnd)
    → IsLater old middle → AreFetched old files names texts → IsNext files texts source → HaltsBy (FetchEnds middle new source name) halt
    → HaltsBy (had_all (Fetches old new) files (names ++ name ∷ more) never) halt
next_stops old middle new files names more texts source name halt later are is ends =
    halts_so (FetchEnds middle new source name) (had_all (Fetches old new) files (names ++ name ∷ more) never) halt
    (λ a stop. stops_next old new files names more texts source name never a are is (later_ends old middle new source name a later stop)) ends

-- ---- all files

fetches_so : (old new : Told) (source : Source) (name : List ℕ) (Then More : ByText) (a : Answer) → ((bytes : List ℕ) → Then bytes a → More bytes a)
    → Fetches old new source name Then a → Fetches old new source name More a
fetches_so old new source name Then More a so (stops ends) = stops ends
fetches_so old new source name Then More a so (goes_on bytes fetched is) = goes_on bytes fetched (so bytes is)

pub all_so : (old new : Told) (files : List Source) (names : List (List ℕ)) (Then More : ByTexts) (a : Answer)
    → ((texts : List (List ℕ)) → Then texts a → More texts a) → had_all (Fetches old new) files names Then a → had_all (Fetches old new) files names More a
all_so old new files [] Then More a so is = so [] is
all_so old new [] (name ∷ names) Then More a so is = is
all_so old new (source ∷ files) (name ∷ names) Then More a so is =
    fetches_so old new source name _ _ a (λ bytes. all_so old new files names _ _ a (λ texts. so (bytes ∷ texts))) is

-- a fetch that ends a command, whatever the bytes are, ends it for any answers
pub stopped : (old new : Told) (files : List Source) (names : List (List ℕ)) (Then : ByTexts) (halt : EarlyEnd)
    → HaltsBy (had_all (Fetches old new) files names never) halt → HaltsBy (had_all (Fetches old new) files names Then) halt
stopped old new files names Then halt ends =
    halts_so (had_all (Fetches old new) files names never) (had_all (Fetches old new) files names Then) halt
    (λ a. all_so old new files names never Then a (λ texts no. absurd no)) ends

all_fetched : (old new : Told) (files : List Source) (names texts : List (List ℕ)) (Then : ByTexts) (a : Answer) → AreFetched old files names texts
    → Then texts a → had_all (Fetches old new) files names Then a
all_fetched old new _ _ _ Then a (no_more []) is = is
all_fetched old new _ _ _ Then a (no_more (file ∷ files)) is = is
all_fetched old new _ _ _ Then a (one_more file files name text names texts first rest) is =
    goes_on text first (all_fetched old new files names texts (λ ts. Then (text ∷ ts)) a rest is)

-- a report that the bytes of the fetched files allow is one that their names allow
pub settled : (old new : Told) (files : List Source) (names texts : List (List ℕ)) (Then : ByTexts) (result : Result Reported EarlyEnd)
    → AreFetched old files names texts → Replies (Then texts) result → Replies (had_all (Fetches old new) files names Then) result
settled old new files names texts Then result are answers =
    replies_so (Then texts) (had_all (Fetches old new) files names Then) result (λ a. all_fetched old new files names texts Then a are) answers
