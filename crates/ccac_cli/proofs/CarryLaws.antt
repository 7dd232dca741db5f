-- An order whose files are fetched by its command's entry, and whose bytes are then answered.
use Rattle.std.proofs.Common.{◌≡◌, ◌∙◌, ap, subst, sym, ℕ, ◌≤◌, List, length, map, Result}
use Rattle.std.proofs.lemmas.List.{length-map}
use Rattle.std.specs.Global.{Vec}
use Rattle.ccac_ports.specs.Ports.{Told}
use Rattle.file_reports.specs.Fetched.{AreFetched, AreShort, Fetches}
use Rattle.file_reports.specs.Had.{had_all, never}
use Rattle.file_reports.specs.Halted.{HaltsBy, Replies}
use Rattle.file_reports.specs.Shown.{texts_of}
use Rattle.file_reports.specs.declared.early_end.EarlyEnd.{EarlyEnd}
use Rattle.file_reports.specs.declared.reports.Report.{Report}
use Rattle.file_reports.specs.declared.sources.Source.{Source}
use Rattle.file_reports.proofs.FetchLaws.{settled, stopped}
use Rattle.file_reports.proofs.HadLaws.{fetched_short, same_count}
use Rattle.ccac_cli.specs.Commands.{EntryView, Takes, answers_of, entry_of}
use Rattle.ccac_cli.specs.Ended.{OrderAnswers}
use Rattle.ccac_cli.specs.Shown.{entry_seen}
use Rattle.ccac_cli.specs.declared.commands.Command.{Command}
use Rattle.ccac_cli.specs.declared.commands.Entry.{Entry}

module _ (command : Command) (entry : Entry) (is : entry_seen entry ≡ entry_of command) where
  files_are : entry.files.now ≡ (entry_of command).files
  files_are = ap (λ (e : EntryView). e.files) is

  -- the names that the command takes are those of files
  pub files_enough : (count : ℕ) → Takes command count → count ≤ length entry.files.now
  files_enough count takes = subst (λ (fs : List Source). count ≤ length fs) (sym files_are) takes.1

  module _ (old new : Told) (names : List (List ℕ)) where
    pub order_stops : (halt : EarlyEnd) → HaltsBy (had_all (Fetches old new) entry.files.now names never) halt
        → HaltsBy (OrderAnswers old new (record { command = command; names = names })) halt
    order_stops halt stops =
        stopped old new (entry_of command).files names (answers_of command) halt
        (subst (λ (fs : List Source). HaltsBy (had_all (Fetches old new) fs names never) halt) files_are stops)

    pub order_settled : (items same : List (Vec ℕ)) (result : Result Report EarlyEnd) → AreFetched old entry.files.now names (texts_of items)
        → same ≡ items → Replies (answers_of command (texts_of same)) result
        → Replies (OrderAnswers old new (record { command = command; names = names })) result
    order_settled items same result are is_same answers =
        settled old new (entry_of command).files names (texts_of items) (answers_of command) result
        (subst (λ (fs : List Source). AreFetched old fs names (texts_of items)) files_are are)
        (subst (λ (vs : List (Vec ℕ)). Replies (answers_of command (texts_of vs)) result) is_same answers)

-- there are as many texts as names, and each is short
pub texts_taken : {W : Type 0} (bytes_of : W → List ℕ) (command : Command) (old : Told) (files : List Source) (names : List W) (items same : List (Vec ℕ))
    → AreFetched old files (map bytes_of names) (texts_of items) → same ≡ items → Takes command (length names) → Takes command (length same)
texts_taken bytes_of command old files names items same are is takes =
    let count : length names ≡ length same =
    sym (length-map names bytes_of) ∙ sym (same_count old files (map bytes_of names) (texts_of items) are)
    ∙ length-map items (λ text. text.items) ∙ sym (ap (λ (vs : List (Vec ℕ)). length vs) is)
    in
    subst (Takes command) count takes

pub texts_short : (old : Told) (files : List Source) (names : List (List ℕ)) (items same : List (Vec ℕ)) → AreFetched old files names (texts_of items)
    → same ≡ items → AreShort (texts_of same)
texts_short old files names items same are is =
    subst (λ (vs : List (Vec ℕ)). AreShort (texts_of vs)) (sym is) (fetched_short old files names (texts_of items) are)
