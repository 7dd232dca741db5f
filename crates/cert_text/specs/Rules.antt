-- The lines of a certificate: what may stand on the next one, and the rule that it breaks otherwise.
use Rattle.std.specs.Prelude.{ℕ, zero, suc, ◌+◌, ◌^◌, nat_eq, nat_le, ℤ, pos, unsigned_abs, if◌then◌else◌, List, [], ◌∷◌, Option, None, Some, Result, Err, codes}
use Rattle.std.proofs.Common.{get_or, refl}
use Rattle.whole.specs.declared.answers.Refusal.{Refusal}
use Rattle.text_lines.specs.Pieces.{pieces}
use Rattle.text_machine.specs.declared.faults.Fault.{Fault}
use Rattle.text_machine.specs.declared.faults.Fault.TheVariants.{Form, Large, Negative, Misplaced, Early}
use Rattle.text_machine.specs.Items.{natural, index, below, literal, one_of}
use Rattle.text_machine.specs.Lines.{LineForm, stop, word, number, many, ends, fails, read_line}
use Rattle.text_machine.specs.Texts.{Format, FirstRefused, named}
use Rattle.cert_text.specs.declared.wants.Want.{Want}
use Rattle.cert_text.specs.declared.wants.Want.TheVariants.{Header, Size, Next, Node, Nothing}
use Rattle.cert_text.specs.Spelling.{deepest}

-- rule F of this number is broken on this line
abbrev pub refusal : ℕ → ℕ → Refusal
refusal rule k = record { letter = 70; number = rule; line = k }

-- ---- what may stand on a line

-- atoms, clauses, counts and sizes are below this
abbrev pub index_limit : ℕ
index_limit = 2 ^ 32

-- the words with which a line of a lemma, or the last one, begins
abbrev pub words : List (List ℕ)
words = codes "lemma" ∷ codes "end" ∷ codes "s" ∷ codes "c" ∷ codes "f" ∷ []

-- what is wanted behind the word with this place
abbrev pub form_at : List LineForm → ℤ → LineForm
form_at forms z = get_or forms (unsigned_abs z) (fails Form)

abbrev pub header_form : LineForm
header_form = word (codes "ccac-cert") refl (number (natural 1 1) (λ _. stop))

abbrev pub size_form : LineForm
size_form = word (codes "size") refl (number (index index_limit) (λ _. number (index index_limit) (λ _. number (index index_limit) (λ _. stop))))

-- behind `lemma`: its number, which is the next, and its clause
abbrev pub lemma_form : ℕ → LineForm
lemma_form j = number (natural j j) (λ _. many (literal index_limit))

-- behind `end`: no lemma is missing
abbrev pub end_form : ℕ → LineForm
end_form j = if nat_eq j 0 then ends Early else stop

-- behind `s` or `c`
abbrev pub index_form : LineForm
index_form = number (index index_limit) (λ _. stop)

-- so many literals, each with its multiplier
unfoldable pub pairs : ℕ → LineForm
pairs zero = stop
pairs (suc count) = number (literal index_limit) (λ _. number (below (2 ^ 127)) (λ _. pairs count))

-- behind `f`: how many parts, and the parts
abbrev pub farkas_form : LineForm
farkas_form = number (index index_limit) (λ count. pairs (unsigned_abs count))

abbrev pub next_forms : ℕ → List LineForm
next_forms j = lemma_form j ∷ end_form j ∷ fails Misplaced ∷ fails Misplaced ∷ fails Misplaced ∷ []

abbrev pub node_forms : List LineForm
node_forms = fails Misplaced ∷ fails Misplaced ∷ index_form ∷ index_form ∷ farkas_form ∷ []

abbrev pub next_form : ℕ → LineForm
next_form j = number (one_of words refl) (form_at (next_forms j))

abbrev pub node_form : LineForm
node_form = number (one_of words refl) (form_at node_forms)

-- no node may stand here
abbrev pub deep_forms : List LineForm
deep_forms = fails Misplaced ∷ fails Misplaced ∷ fails Form ∷ fails Form ∷ fails Form ∷ []

abbrev pub deep_form : LineForm
deep_form = number (one_of words refl) (form_at deep_forms)

unfoldable pub form_of : Want → Option LineForm
form_of Header = Some header_form
form_of Size = Some size_form
form_of (Next j) = Some (next_form j)
form_of (Node depth) = Some (if nat_le depth deepest then node_form else deep_form)
form_of Nothing = None

-- ---- the rules

-- F2, or F6 where a number is past its range
abbrev pub size_rule : Fault → ℕ
size_rule Large = 6
size_rule _ = 2

-- F3; or F6 where a number is past its range, F7 for a node, F9 for an `end` before the first lemma
abbrev pub next_rule : Fault → ℕ
next_rule Large = 6
next_rule Misplaced = 7
next_rule Early = 9
next_rule _ = 3

-- F5; or F4 where a multiplier is below 0, F6 where a number is past its range, F7 for `lemma` or `end`
abbrev pub node_rule : Fault → ℕ
node_rule Negative = 4
node_rule Large = 6
node_rule Misplaced = 7
node_rule _ = 5

-- F6, or F7 for `lemma` or `end`
abbrev pub deep_rule : Fault → ℕ
deep_rule Misplaced = 7
deep_rule _ = 6

-- the rule that a line breaks by this fault
unfoldable pub rule_of : Want → Fault → ℕ
rule_of Header fault = 1
rule_of Size fault = size_rule fault
rule_of (Next j) fault = next_rule fault
rule_of (Node depth) fault = if nat_le depth deepest then node_rule fault else deep_rule fault
rule_of Nothing fault = 9

abbrev pub blame : Want → ℕ → Fault → Refusal
blame want k fault = refusal (rule_of want fault) k

-- a text that ends before `end`: an empty one lacks its header
unfoldable pub ended : Want → ℕ → List ℕ → Refusal
ended Header k [] = refusal 1 k
ended _ k rest = refusal 8 k

-- the numbers of a line of this form
abbrev pub form_read : Option LineForm → List (List ℕ) → Result (List ℤ) Fault
form_read None items = Err Misplaced
form_read (Some form) items = read_line form items

-- the numbers of line k, or the first rule that it breaks
unfoldable pub line_read : Want → ℕ → List ℕ → Result (List ℤ) Refusal
line_read want k line = named (blame want k) (form_read (form_of want) (pieces 32 line))

-- ---- the state of a text that is read

pub data Stage : Type 0 where
  -- the header is wanted
  opening : Stage
  -- the sizes are wanted
  sizing : Stage
  -- so many lemmas were read: the next one or the end is wanted
  between : ℕ → Stage
  -- in lemma j a node below so many splits is wanted, and then nodes below so many splits each
  within : ℕ → ℕ → List ℕ → Stage
  -- the end was read
  over : Stage

abbrev pub want_at : Stage → Want
want_at opening = Header
want_at sizing = Size
want_at (between j) = Next j
want_at (within j depth due) = Node depth
want_at over = Nothing

-- a tree was read: the next tree that is due, or the next lemma
abbrev pub behind_tree : ℕ → List ℕ → Stage
behind_tree j [] = between (j + 1)
behind_tree j (depth ∷ due) = within j depth due

-- the place of a line's word
abbrev pub word_in : List ℤ → ℕ
word_in zs = unsigned_abs (get_or zs 0 (pos 0))

abbrev pub behind_node : ℕ → ℕ → List ℕ → List ℤ → Stage
behind_node j depth due zs = if nat_eq (word_in zs) 2 then within j (depth + 1) ((depth + 1) ∷ due) else behind_tree j due

abbrev pub behind_lemma : ℕ → List ℤ → Stage
behind_lemma j zs = if nat_eq (word_in zs) 0 then within j 0 [] else over

unfoldable pub behind_line : Stage → List ℤ → Stage
behind_line opening zs = sizing
behind_line sizing zs = between 0
behind_line (between j) zs = behind_lemma j zs
behind_line (within j depth due) zs = behind_node j depth due zs
behind_line over zs = over

abbrev pub cert_format : Format Stage Refusal
cert_format = record {
  form = λ s. form_of (want_at s);
  next = behind_line;
  blame = λ s k fault. blame (want_at s) k fault;
  ended = λ s k rest. ended (want_at s) k rest;
  behind = λ k. refusal 9 k;
}

-- the bytes are no certificate, by the first rule that they break
pub record IsRefused (bytes : List ℕ) (r : Refusal) : Type 0 where
  pub first : FirstRefused cert_format opening 1 (pieces 10 bytes) r
