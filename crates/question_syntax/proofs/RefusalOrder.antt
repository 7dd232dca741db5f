-- The lines are read as a walk over the kinds of lines that are wanted.
use Rattle.std.proofs.Common.{◌≡◌, ℕ, zero, suc, Bool, true, false, cond, Result, Ok, Err, List, [], ◌∷◌, refl, ap, ◌∙◌}
use Rattle.std.specs.Prelude.{codes}
use Rattle.text_lines.specs.Steps.{◌>>=◌}
use Rattle.whole.specs.declared.answers.Refusal.{Refusal}
use Rattle.source_text.specs.Shown.{Ahead}
use Rattle.condition_syntax.specs.Fronts.{says}
use Rattle.ctrl_syntax.specs.Rest.{Rest, behind, first_says, number_of_next}
use Rattle.ctrl_syntax.specs.Reading.{Part, Lines, many_within}
use Rattle.ctrl_syntax.proofs.SectionsAgain.{rest_of}
use Rattle.ctrl_syntax.proofs.Places.{Outcome, on, chained, many_onward, many_over, many_full}
use Rattle.ctrl_syntax.proofs.PartRefusals.{onto}
use Rattle.question_syntax.specs.Sections.{Wanted}
use Rattle.question_syntax.specs.Reading.{refusal, lacks, count_at, rate_at, buffer_at, condition_at, nothing_at, done_at, behind_title, titled_by, wanted_by, setting_by, assumes_by, nothing_or, nothing_left, sections_by}
use Rattle.question_syntax.specs.Refused.{Value, count, rate, buffer, condition, nothing, Kind, kind, setting_kinds, last_kinds}
use Rattle.question_syntax.proofs.ValueRefusals.{value_at, check}

-- ---- the walk

-- a walk from what is left of a text on, which has this end
abbrev pub Walk : Type 0
Walk = List Ahead → ℕ → Outcome

-- a line of this kind, for what is left behind it
abbrev pub line_at : Kind → List Ahead → ℕ → Result Rest Refusal
line_at k [] end = Err (refusal 11 end)
line_at k (a ∷ lines) end = cond (says k.title a.tokens) (check k.value (behind a) >>= λ x. Ok (rest_of lines end)) (Err (lacks 3 a))

-- lines of these kinds, and then what goes on behind them
abbrev pub walk : List Kind → Walk → Walk
walk [] onward lines end = onward lines end
walk (k ∷ ks) onward lines end = line_at k lines end >>= λ t. walk ks onward t.lines t.end

abbrev pub behind_end : Walk
behind_end lines end = nothing_or lines

abbrev pub behind_assumes : Walk
behind_assumes lines end = walk last_kinds behind_end lines end

abbrev pub assume_kind : Kind
assume_kind = kind (codes "assume") condition

-- so many assumptions at most, and then the last lines
abbrev pub assumes_walk : ℕ → Walk
assumes_walk zero lines end = cond (first_says (codes "assume") lines) (Err (refusal 9 (number_of_next lines end))) (behind_assumes lines end)
assumes_walk (suc room) lines end = cond (first_says (codes "assume") lines) (line_at assume_kind lines end >>= λ t. assumes_walk room t.lines t.end) (behind_assumes lines end)

-- ---- one line

same_bind : {A B E : Type 0} (r : Result A E) (f g : A → Result B E) → ((x : A) → f x ≡ g x) → (r >>= f) ≡ (r >>= g)
same_bind (Ok x) f g same = same x
same_bind (Err fault) f g same = refl

-- the value of a line, of which the place behind it is kept
abbrev pub valued : {X : Type 0} → Rest → Part X → Lines X
valued t read = read >>= λ x. done_at x.1 >>= λ done. Ok (x.0, t)

done_walks : {X : Type 0} (t : Rest) (go : Rest → Outcome) (x : X) (d : Outcome) → on (d >>= λ done. Ok (x, t)) go ≡ (d >>= λ done. Ok t) >>= go
done_walks t go x (Ok done) = refl
done_walks t go x (Err fault) = refl

value_walks : {X : Type 0} (t : Rest) (go : Rest → Outcome) (read : Part X) → on (valued t read) go ≡ ((onto read >>= done_at) >>= λ x. Ok t) >>= go
value_walks t go (Ok x) = done_walks t go x.0 (done_at x.1)
value_walks t go (Err fault) = refl

titled_lines_walk : {X : Type 0} (title : List ℕ) (read : Ahead → Part X) (v : Value) → ((a : Ahead) → onto (read a) ≡ value_at v a) → (lines : List Ahead) (end : ℕ) (go : Rest → Outcome)
    → on (titled_by title read (rest_of lines end)) go ≡ line_at (kind title v) lines end >>= go
unfolding titled_by behind_title
titled_lines_walk title read v same [] end go = refl
titled_lines_walk {X} title read v same (a ∷ lines) end go = by (says title a.tokens)
  where
    t : Rest
    t = rest_of lines end

    from_title : Ahead × Rest → Lines X
    from_title x = valued x.1 (read x.0)

    by : (b : Bool) → on (cond b (Ok (behind a, t)) (Err (lacks 3 a)) >>= from_title) go ≡ cond b (check v (behind a) >>= λ x. Ok t) (Err (lacks 3 a)) >>= go
    by true = value_walks t go (read (behind a)) ∙ ap (λ (r : Result Ahead Refusal). ((r >>= done_at) >>= λ x. Ok t) >>= go) (same (behind a))
    by false = refl

titled_walks : {X : Type 0} (title : List ℕ) (read : Ahead → Part X) (v : Value) → ((a : Ahead) → onto (read a) ≡ value_at v a) → (s : Rest) (go : Rest → Outcome)
    → on (titled_by title read s) go ≡ line_at (kind title v) s.lines s.end >>= go
titled_walks title read v same s go = titled_lines_walk title read v same s.lines s.end go

-- a line, and what is read behind it
then_line : {X Y : Type 0} (title : List ℕ) (read : Ahead → Part X) (v : Value) → ((a : Ahead) → onto (read a) ≡ value_at v a) → (s : Rest) (f : X × Rest → Lines Y) (go next : Rest → Outcome)
    → ((x : X × Rest) → on (f x) go ≡ next x.1) → on (titled_by title read s >>= f) go ≡ line_at (kind title v) s.lines s.end >>= next
then_line title read v same s f go next further = chained (titled_by title read s) f (λ y. go y.1) (λ x. next x.1) further ∙ titled_walks title read v same s next

wanted_walks : (title : List ℕ) (s : Rest) (go : Rest → Outcome) → on (wanted_by title s) go ≡ line_at (kind title condition) s.lines s.end >>= go
unfolding wanted_by
wanted_walks title s go = then_line title condition_at condition (λ a. refl) s _ go go (λ c. refl)

-- ---- the setting

setting_walks : (s : Rest) (go : Rest → Outcome) → on (setting_by s) go ≡ walk setting_kinds (λ lines end. go (rest_of lines end)) s.lines s.end
unfolding setting_by
setting_walks s go =
    then_line (codes "flows") (count_at 1 4) (count 1 4) (λ a. refl) s _ go _ (λ fl.
    then_line (codes "steps") (count_at 1 32) (count 1 32) (λ a. refl) fl.1 _ go _ (λ st.
    then_line (codes "rate") rate_at rate (λ a. refl) st.1 _ go _ (λ ra.
    then_line (codes "jitter") (count_at 0 8) (count 0 8) (λ a. refl) ra.1 _ go _ (λ ji.
    then_line (codes "rtt") (count_at 1 8) (count 1 8) (λ a. refl) ji.1 _ go _ (λ rt.
    then_line (codes "buffer") buffer_at buffer (λ a. refl) rt.1 _ go _ (λ bu.
    then_line (codes "budget") (count_at 1 16777216) (count 1 16777216) (λ a. refl) bu.1 _ go go (λ bd. refl)))))))

-- ---- the conditions

abbrev from_end : Rest → Outcome
from_end t = nothing_left t

abbrev from_require : Rest → Outcome
from_require t = on (titled_by (codes "end") nothing_at t) from_end

abbrev from_assumes : Rest → Outcome
from_assumes t = on (wanted_by (codes "require") t) from_require

abbrev from_setting : Rest → Outcome
from_setting t = on (assumes_by t) from_assumes

end_walks : (t : Rest) → from_end t ≡ behind_end t.lines t.end
unfolding nothing_left
end_walks t = refl

last_walks : (t : Rest) → from_assumes t ≡ behind_assumes t.lines t.end
last_walks t =
    wanted_walks (codes "require") t from_require
    ∙ same_bind (line_at (kind (codes "require") condition) t.lines t.end) from_require (λ u. line_at (kind (codes "end") nothing) u.lines u.end >>= λ w. behind_end w.lines w.end)
    (λ u. titled_walks (codes "end") nothing_at nothing (λ a. refl) u from_end ∙ same_bind (line_at (kind (codes "end") nothing) u.lines u.end) from_end (λ w. behind_end w.lines w.end) end_walks)

abbrev assume_by : Rest → Lines Wanted
assume_by t = wanted_by (codes "assume") t

many_walk : (room : ℕ) (t : Rest) → on (many_within (refusal 9) (codes "assume") assume_by room t) from_assumes ≡ assumes_walk room t.lines t.end
many_walk zero t = by (first_says (codes "assume") t.lines) refl
  where
    by : (b : Bool) → first_says (codes "assume") t.lines ≡ b
        → on (many_within (refusal 9) (codes "assume") assume_by 0 t) from_assumes ≡ cond b (Err (refusal 9 (number_of_next t.lines t.end))) (behind_assumes t.lines t.end)
    by true named = many_full (refusal 9) (codes "assume") assume_by t from_assumes named
    by false absent = many_over (refusal 9) (codes "assume") assume_by 0 t from_assumes absent ∙ last_walks t
many_walk (suc room) t = by (first_says (codes "assume") t.lines) refl (λ u. many_walk room u)
  where
    by : (b : Bool) → first_says (codes "assume") t.lines ≡ b
        → ((u : Rest) → on (many_within (refusal 9) (codes "assume") assume_by room u) from_assumes ≡ assumes_walk room u.lines u.end)
        → on (many_within (refusal 9) (codes "assume") assume_by (suc room) t) from_assumes
        ≡ cond b (line_at assume_kind t.lines t.end >>= λ u. assumes_walk room u.lines u.end) (behind_assumes t.lines t.end)
    by true named further =
        many_onward (refusal 9) (codes "assume") assume_by room t from_assumes named
        ∙ wanted_walks (codes "assume") t (λ u. on (many_within (refusal 9) (codes "assume") assume_by room u) from_assumes)
        ∙ same_bind (line_at assume_kind t.lines t.end) (λ u. on (many_within (refusal 9) (codes "assume") assume_by room u) from_assumes) (λ u. assumes_walk room u.lines u.end) further
    by false absent further = many_over (refusal 9) (codes "assume") assume_by (suc room) t from_assumes absent ∙ last_walks t

assumes_walks : (t : Rest) → from_setting t ≡ assumes_walk 16 t.lines t.end
assumes_walks t = many_walk 16 t

-- ---- the whole

walk_same : (ks : List Kind) (f g : Walk) → ((lines : List Ahead) (end : ℕ) → f lines end ≡ g lines end) → (lines : List Ahead) (end : ℕ) → walk ks f lines end ≡ walk ks g lines end
walk_same [] f g same lines end = same lines end
walk_same (k ∷ ks) f g same lines end = same_bind (line_at k lines end) (λ t. walk ks f t.lines t.end) (λ t. walk ks g t.lines t.end) (λ t. walk_same ks f g same t.lines t.end)

-- dropping a value
abbrev pub drop : {X : Type 0} → Result X Refusal → Outcome
drop read = read >>= λ x. Ok tt

last_dropped : {X : Type 0} (x : X) (r : Outcome) → drop (r >>= λ done. Ok x) ≡ r
last_dropped x (Ok done) = refl
last_dropped x (Err fault) = refl

sections_dropped : (s : Rest) → drop (sections_by s) ≡ on (setting_by s) from_setting
unfolding sections_by
sections_dropped s =
    chained (setting_by s) _ _ _ (λ se.
    chained (assumes_by se.1) _ _ _ (λ ass.
    chained (wanted_by (codes "require") ass.1) _ _ _ (λ re.
    chained (titled_by (codes "end") nothing_at re.1) _ _ _ (λ la.
    last_dropped (record { setting = se.0.setting; rate_line = se.0.rate_line; buffer_line = se.0.buffer_line; assumes = ass.0; require = re.0 }) (nothing_left la.1)))))

-- the lines behind the header, without their values
pub sections_walk : (s : Rest) → drop (sections_by s) ≡ walk setting_kinds (assumes_walk 16) s.lines s.end
sections_walk s =
    sections_dropped s ∙ setting_walks s from_setting
    ∙ walk_same setting_kinds (λ lines end. from_setting (rest_of lines end)) (assumes_walk 16) (λ lines end. assumes_walks (rest_of lines end)) s.lines s.end
