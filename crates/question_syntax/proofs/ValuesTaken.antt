-- What the values of lines take of their tokens.
use Rattle.std.proofs.Common.{◌≡◌, ℕ, leb, Option, None, Some, Result, Ok, Err, List, [], ◌∷◌, refl, sym, ap, subst, ◌∙◌}
use Rattle.std.specs.Prelude.{codes, ◌&&◌}
use Rattle.std.specs.Str.{bytes_eq}
use Rattle.std.proofs.lemmas.Bool.{leb-true, and_parts}
use Rattle.std.proofs.lemmas.Slice.Eq.{bytes_eq-Decides}
use Rattle.text_lines.proofs.StepLaws.{bind_ok, ok_is}
use Rattle.whole.specs.declared.answers.Pair.{Pair}
use Rattle.whole.specs.declared.answers.Refusal.{Refusal}
use Rattle.source_text.specs.Tokens.{Token, word, number, sign, wrong, after}
use Rattle.source_text.specs.Shown.{Ahead}
use Rattle.condition_syntax.specs.declared.conditions.Style.TheVariants.{Question}
use Rattle.condition_syntax.specs.declared.faults.Fault.{Fault}
use Rattle.condition_syntax.specs.RefusalRules.{refused}
use Rattle.condition_syntax.specs.Expressions.{number_of}
use Rattle.condition_syntax.specs.Conditions.{condition_by}
use Rattle.condition_syntax.specs.Grammar.{SpellsCond}
use Rattle.condition_syntax.proofs.FrontLaws.{guard_ok}
use Rattle.condition_syntax.proofs.ExpressionsTaken.{number_taken}
use Rattle.condition_syntax.proofs.ConditionsTaken.{condition_taken}
use Rattle.ctrl_syntax.specs.Rest.{behind}
use Rattle.ctrl_syntax.specs.Reading.{Part}
use Rattle.ctrl_syntax.proofs.LinesAgain.{at}
use Rattle.ctrl_syntax.proofs.PartsTaken.{Between, Reads}
use Rattle.question_syntax.specs.Grammar.{SpellsCount, count, pair_of, SpellsRate, rate, SpellsBuffer, no_buffer, buffer, SpellsNothing}
use Rattle.question_syntax.specs.Reading.{refusal, lacks, count_or, count_at, positive, rate_or, rate_at, buffer_or, buffer_at, condition_at, nothing_at, done_or, done_at}

-- what a reading takes is spelled so
abbrev pub Taken : {X : Type 0} → (List Token → X → Type 0) → (Ahead → Part X) → Type 0
Taken {X} Spelled read = (a : Ahead) (x : X × Ahead) → read a ≡ Ok x → Reads Spelled a x

-- no fault became a refusal
pub refused_ok : {X : Type 0} (line : ℕ) (r : Result X Fault) (x : X) → refused Question line r ≡ Ok x → r ≡ Ok x
refused_ok line (Ok y) x e = cc
refused_ok line (Err fault) x e = absurd (cc)

-- the first token
first_between : (t : Token) (a : Ahead) (tokens : List Token) → a.tokens ≡ t ∷ tokens → after (t ∷ tokens) ≡ tokens → Between a (behind a) (t ∷ [])
first_between t a tokens is gone = record { parts = is ∙ ap (λ (ts : List Token). t ∷ ts) (sym gone ∙ ap after (sym is)); line = refl }

-- ---- counts

count_by_tokens : (low high : ℕ) (a : Ahead) (tokens : List Token) (x : ℕ × Ahead) → a.tokens ≡ tokens → count_or low high a tokens ≡ Ok x → Reads (SpellsCount low high) a x
count_by_tokens low high a [] x is e = absurd (cc)
count_by_tokens low high a (word w ∷ tokens) x is e = absurd (cc)
count_by_tokens low high a (number n None ∷ tokens) x is e =
    let g = guard_ok (leb low n && leb n high) (n, behind a) x (refusal 6 a.line) e in
    let both = and_parts (leb low n) (leb n high) g.0 in
    subst (Reads (SpellsCount low high) a) g.1
    (record { front = number n None ∷ []; between = first_between (number n None) a tokens is refl; spelled = count (leb-true low n both.0) (leb-true n high both.1) })
count_by_tokens low high a (number n (Some d) ∷ tokens) x is e = absurd (cc)
count_by_tokens low high a (sign s ∷ tokens) x is e = absurd (cc)
count_by_tokens low high a (wrong ∷ tokens) x is e = absurd (cc)

pub count_taken : (low high : ℕ) → Taken (SpellsCount low high) (count_at low high)
unfolding count_at
count_taken low high a x e = count_by_tokens low high a a.tokens x refl e

-- ---- numbers

rate_by_tokens : (a : Ahead) (tokens : List Token) (x : Pair × Ahead) → a.tokens ≡ tokens → rate_or a tokens ≡ Ok x → Reads SpellsRate a x
rate_by_tokens a [] x is e = absurd (cc)
rate_by_tokens a (word w ∷ tokens) x is e = absurd (cc)
rate_by_tokens a (number n d ∷ tokens) x is e =
    let q = bind_ok (refused Question a.line (number_of n d)) (λ q. positive n q a) x e in
    let g = guard_ok (leb 1 n) (pair_of q.0, behind a) x (refusal 6 a.line) q.2 in
    subst (Reads SpellsRate a) g.1
    (record { front = number n d ∷ []; between = first_between (number n d) a tokens is refl; spelled = rate (number_taken n d q.0 (refused_ok a.line (number_of n d) q.0 q.1)) (leb-true 1 n g.0) })
rate_by_tokens a (sign s ∷ tokens) x is e = absurd (cc)
rate_by_tokens a (wrong ∷ tokens) x is e = absurd (cc)

pub rate_taken : Taken SpellsRate rate_at
unfolding rate_at
rate_taken a x e = rate_by_tokens a a.tokens x refl e

buffer_by_tokens : (a : Ahead) (tokens : List Token) (x : Option Pair × Ahead) → a.tokens ≡ tokens → buffer_or a tokens ≡ Ok x → Reads SpellsBuffer a x
buffer_by_tokens a [] x is e = absurd (cc)
buffer_by_tokens a (word w ∷ tokens) x is e =
    let g = guard_ok (bytes_eq w (codes "none")) (None, behind a) x (lacks 4 a) e in
    let none : w ≡ codes "none" = (bytes_eq-Decides w (codes "none")).0 g.0 in
    subst (Reads SpellsBuffer a) g.1
    (record { front = word (codes "none") ∷ []; between = first_between (word (codes "none")) a tokens (is ∙ ap (λ (v : List ℕ). word v ∷ tokens) none) refl; spelled = no_buffer })
buffer_by_tokens a (number n d ∷ tokens) x is e =
    let q = bind_ok (refused Question a.line (number_of n d)) (λ q. Ok (Some (pair_of q), behind a)) x e in
    subst (Reads SpellsBuffer a) (ok_is {E = Refusal} (Some (pair_of q.0), behind a) x q.2)
    (record { front = number n d ∷ []; between = first_between (number n d) a tokens is refl; spelled = buffer (number_taken n d q.0 (refused_ok a.line (number_of n d) q.0 q.1)) })
buffer_by_tokens a (sign s ∷ tokens) x is e = absurd (cc)
buffer_by_tokens a (wrong ∷ tokens) x is e = absurd (cc)

pub buffer_taken : Taken SpellsBuffer buffer_at
unfolding buffer_at
buffer_taken a x e = buffer_by_tokens a a.tokens x refl e

-- ---- conditions

pub condition_is_taken : Taken (SpellsCond Question) condition_at
unfolding condition_at
condition_is_taken a x e =
    let c = bind_ok (refused Question a.line (condition_by Question a.tokens)) (λ c. Ok (c.0, at a.line c.1)) x e in
    let t = condition_taken Question a.tokens c.0 (refused_ok a.line (condition_by Question a.tokens) c.0 c.1) in
    subst (Reads (SpellsCond Question) a) (ok_is {E = Refusal} (c.0.0, at a.line c.0.1) x c.2) (record { front = t.front; between = record { parts = t.parts; line = refl }; spelled = t.spelled })

-- ---- the line's end

pub nothing_taken : Taken SpellsNothing nothing_at
unfolding nothing_at
nothing_taken a x e = subst (Reads SpellsNothing a) (ok_is {E = Refusal} (tt, a) x e) (record { front = []; between = record { parts = refl; line = refl }; spelled = refl })

nothing_behind : (a : Ahead) (tokens : List Token) (x : Unit {0}) → done_or a tokens ≡ Ok x → tokens ≡ []
nothing_behind a [] x e = refl
nothing_behind a (t ∷ tokens) x e = absurd (cc)

pub done_taken : (a : Ahead) (x : Unit {0}) → done_at a ≡ Ok x → a.tokens ≡ []
unfolding done_at
done_taken a x e = nothing_behind a a.tokens x e
