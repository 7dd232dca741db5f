-- Canonical names: what they stand for, and the conditions that they stand in.
use Rattle.std.proofs.Common.{◌≡◌, ℕ, zero, suc, ◌≤◌, Bool, true, false, cond, ◌⊎◌, inl, inr, Option, Some, None, List, ◌∷◌, map, refl, sym, ap, subst, ◌∙◌, arith}
use Rattle.std.specs.Prelude.{codes, nat_eq, slice_get, unwrap_or}
use Rattle.std.specs.Option.{option_map}
use Rattle.std.proofs.lemmas.Grind.{common_steps}
use Rattle.path_server.specs.declared.settings.Setting.{Setting}
use Rattle.condition_syntax.specs.Trees as written
use Rattle.condition_syntax.specs.declared.expressions.Name.{Name}
use Rattle.condition_syntax.specs.declared.expressions.ETerm.{ETerm}
use Rattle.ctrl_types.specs.declared.controllers.State.{State}
use Rattle.question_text.specs.declared.conditions.Of.{Of}
use Rattle.question_text.specs.declared.conditions.Of.TheVariants.{One, Credit, W, X}
use Rattle.question_text.specs.declared.conditions.QTerm.{QTerm}
use Rattle.question_text.specs.declared.names.Count.{Count}
use Rattle.question_text.specs.declared.names.Count.TheVariants.{Arrived, Served, Lost}
use Rattle.question_text.specs.Conditions.{Condition}
use Rattle.question_text.specs.NamedValues.{StandsFor, credit, waste, all_counted, counted, only_state, own_state, entry_of, flow_written, name_of, of_named, of_written, own_flow_written, state_named, state_text, term_written, lin_written, text_of}
use Rattle.question_text.specs.Texts.{condition_written}
use Rattle.question_text.proofs.MeaningLaws as meaning
use Rattle.question_text.proofs.MeaningLaws.{AreFound, Means}
use Rattle.question_text.proofs.NameLaws.{count_word, counted_word, name_again, name_taken, same_text, word_counted}
use Rattle.question_text.proofs.QuestionLimits.{named_at}
use Rattle.question_text.proofs.Respelling.{cond_by, term_by, without_flow}

abbrev name : List ℕ → Option ℕ → Option ℕ → Name
name w f t = record { text = w; flow = f; step = t }

-- a name by its parts
name_is : (x : Name) (w : List ℕ) (f t : Option ℕ) → x.text ≡ w → x.flow ≡ f → x.step ≡ t → name w f t ≡ x
name_is x w f t one two three =
    ap (λ (v : List ℕ). name v f t) (sym one) ∙ ap (λ (g : Option ℕ). name x.text g t) (sym two) ∙ ap (name x.text x.flow) (sym three)

module _ (states : List State) (s : Setting) where
  -- what is named so, and names the same
  pub record IsCanonical (x : Name) (of : Of) : Type 0 where
    pub made : Name
    pub is : name_of states s of ≡ Some made
    pub short : (made ≡ x) ⊎ (made ≡ without_flow x)
    pub same : of_named states s made ≡ Some of

  entry_name : (count : Count) (f t : ℕ) → name_of states s (entry_of count f t) ≡ Some (name (count_word count) (flow_written f) (Some t))
  unfolding name_of count_word
  entry_name Arrived f t = refl
  entry_name Served f t = refl
  entry_name Lost f t = refl

  flow_is_written : (f : ℕ) → 1 ≤ f → flow_written f ≡ Some f
  flow_is_written zero from = absurd (omega arith)
  flow_is_written (suc f) from = refl

  state_text_is : (w : List ℕ) (j : ℕ) → state_named states w ≡ Some j → state_text states j ≡ w
  unfolding state_text
  state_text_is w j e =
      let here = named_at states w j e in
      let at : j ≡ here.place = here.at ∙ omega arith in
      ap (λ (k : ℕ). text_of (slice_get states k)) at ∙ ap text_of here.is ∙ same_text here.value.name w here.meets

  waste_name : (t : ℕ) → name_of states s (W t) ≡ Some (name (codes "W") None (Some t))
  unfolding name_of
  waste_name t = refl

  credit_name : name_of states s Credit ≡ Some (name (codes "credit") None None)
  unfolding name_of
  credit_name = refl

  state_name : (j f t : ℕ) (w : List ℕ) (g : Option ℕ) → state_text states j ≡ w → own_flow_written s f ≡ g → name_of states s (X j f t) ≡ Some (name w g (Some t))
  unfolding name_of
  state_name j f t w g text flow =
      ap (λ (v : List ℕ). Some (name v (own_flow_written s f) (Some t))) text ∙ ap (λ (h : Option ℕ). Some (name w h (Some t))) flow

  unwritten : (f : ℕ) → s.flows ≡ 1 → own_flow_written s f ≡ None
  unfolding own_flow_written
  unwritten f only = ap (λ (n : ℕ). cond (nat_eq n 1) None (Some f)) only

  several : (f : ℕ) → nat_eq s.flows 1 ≡ false → own_flow_written s f ≡ Some f
  unfolding own_flow_written
  several f p = ap (λ (b : Bool). cond b None (Some f)) p

  without_is : (x : Name) (w : List ℕ) (t : Option ℕ) → x.text ≡ w → x.step ≡ t → name w None t ≡ without_flow x
  without_is x w t text step = ap (λ (v : List ℕ). name v None t) (sym text) ∙ ap (name x.text None) (sym step)

  canonical : (x : Name) (of : Of) → StandsFor states s x of → IsCanonical x of
  canonical x of (credit text flow step) = record {
    made = name (codes "credit") None None;
    is = credit_name;
    short = inl (name_is x (codes "credit") None None text flow step);
    same = name_again states s (name (codes "credit") None None) Credit (credit refl refl refl);
  }
  canonical x of (waste {t} text flow step to) = record {
    made = name (codes "W") None (Some t);
    is = waste_name t;
    short = inl (name_is x (codes "W") None (Some t) text flow step);
    same = name_again states s (name (codes "W") None (Some t)) (W t) (waste refl refl refl to);
  }
  canonical x of (all_counted {count} {t} text flow step to) = record {
    made = name (count_word count) None (Some t);
    is = entry_name count 0 t;
    short = inl (name_is x (count_word count) None (Some t) (counted_word x.text count text) flow step);
    same = name_again states s (name (count_word count) None (Some t)) (entry_of count 0 t) (all_counted (word_counted count) refl refl to);
  }
  canonical x of (counted {count} {f} {t} text flow within step to) = record {
    made = name (count_word count) (Some f) (Some t);
    is = entry_name count f t ∙ ap (λ (g : Option ℕ). Some (name (count_word count) g (Some t))) (flow_is_written f within.from);
    short = inl (name_is x (count_word count) (Some f) (Some t) (counted_word x.text count text) flow step);
    same = name_again states s (name (count_word count) (Some f) (Some t)) (entry_of count f t) (counted (word_counted count) refl within refl to);
  }
  canonical x of (only_state {j} {t} own named flow only step to) = record {
    made = name x.text None (Some t);
    is = state_name j 1 t x.text None (state_text_is x.text j named) (unwritten 1 only);
    short = inl (name_is x x.text None (Some t) refl flow step);
    same = name_again states s (name x.text None (Some t)) (X j 1 t) (only_state own named refl only refl to);
  }
  canonical x of (own_state {j} {f} {t} own named flow within step to) = by (nat_eq s.flows 1) refl
    where
      from : 1 ≤ f
      from = within.from

      upto : f ≤ s.flows
      upto = within.to

      by : (b : Bool) → nat_eq s.flows 1 ≡ b → IsCanonical x (X j f t)
      by true p =
          let only : s.flows ≡ 1 = grind (arith, common_steps) in
          let first : 1 ≡ f = omega (arith, from, upto, only) in
          record {
            made = name x.text None (Some t);
            is = state_name j f t x.text None (state_text_is x.text j named) (unwritten f only);
            short = inr (without_is x x.text (Some t) refl step);
            same = subst (λ (n : ℕ). of_named states s (name x.text None (Some t)) ≡ Some (X j n t)) first
                (name_again states s (name x.text None (Some t)) (X j 1 t) (only_state own named refl only refl to));
          }
      by false p = record {
        made = name x.text (Some f) (Some t);
        is = state_name j f t x.text (Some f) (state_text_is x.text j named) (several f p);
        short = inl (name_is x x.text (Some f) (Some t) refl flow step);
        same = name_again states s (name x.text (Some f) (Some t)) (X j f t) (own_state own named refl within refl to);
      }

  -- the canonical name of what the name stands for
  abbrev named_for : Name → Option Of → Name
  named_for x None = x
  named_for x (Some of) = unwrap_or (name_of states s of) x

  pub canon : Name → Name
  canon x = named_for x (of_named states s x)

  canon_is : (x : Name) (of : Of) → of_named states s x ≡ Some of → IsCanonical x of
  canon_is x of e = canonical x of (name_taken states s x of e)

  pub canon_short : (x : Name) → (canon x ≡ x) ⊎ (canon x ≡ without_flow x)
  unfolding canon
  canon_short x = by (of_named states s x) refl
    where
      by : (o : Option Of) → of_named states s x ≡ o → (named_for x o ≡ x) ⊎ (named_for x o ≡ without_flow x)
      by None e = inl refl
      by (Some of) e =
          let is = canon_is x of e in
          let made : unwrap_or (name_of states s of) x ≡ is.made = ap (λ (o : Option Name). unwrap_or o x) is.is in
          elim is.short [ inl same ↦ inl (made ∙ same) | inr fewer ↦ inr (made ∙ fewer) ]

  canon_made : (x : Name) (of : Of) → of_named states s x ≡ Some of → name_of states s of ≡ Some (canon x)
  unfolding canon
  canon_made x of e =
      let is = canon_is x of e in
      let made : named_for x (of_named states s x) ≡ is.made = ap (named_for x) e ∙ ap (λ (o : Option Name). unwrap_or o x) is.is in
      is.is ∙ ap (λ (y : Name). Some y) (sym made)

  canon_same : (x : Name) (of : Of) → of_named states s x ≡ Some of → of_named states s (canon x) ≡ Some of
  unfolding canon
  canon_same x of e =
      let is = canon_is x of e in
      let made : named_for x (of_named states s x) ≡ is.made = ap (named_for x) e ∙ ap (λ (o : Option Name). unwrap_or o x) is.is in
      ap (of_named states s) made ∙ is.same

  -- ---- terms

  no_name : name_of states s One ≡ None
  unfolding name_of
  no_name = refl

  written_made : (x : Option Name) (of : Of) → of_written states s x ≡ Some of → name_of states s of ≡ option_map canon x
  unfolding of_written
  written_made None of e = let same : One ≡ of = cc in ap (name_of states s) (sym same) ∙ no_name
  written_made (Some x) of e = canon_made x of e

  written_same : (x : Option Name) (of : Of) → of_written states s x ≡ Some of → of_written states s (option_map canon x) ≡ Some of
  unfolding of_written
  written_same None of e = e
  written_same (Some x) of e = canon_same x of e

  terms_written : {terms : List ETerm} {found : List QTerm} → AreFound states s terms found → map (term_written states s) found ≡ map (term_by canon canon_short) terms
  unfolding term_written
  terms_written meaning.none = refl
  terms_written (meaning.one_more {t} {terms} {found} of is rest) =
      ap (λ (x : Option Name). (record { coef = t.coef; name = x }) ∷ map (term_written states s) found) (written_made t.name of is)
      ∙ ap (λ (ts : List ETerm). term_by canon canon_short t ∷ ts) (terms_written rest)

  terms_same : {terms : List ETerm} {found : List QTerm} → AreFound states s terms found → AreFound states s (map (term_by canon canon_short) terms) found
  terms_same meaning.none = meaning.none
  terms_same (meaning.one_more {t} of is rest) = meaning.one_more of (written_same t.name of is) (terms_same rest)

  -- ---- conditions

  pub condition_is_written : {c : written.Condition} {d : Condition} → Means states s c d → condition_written states s d ≡ cond_by canon canon_short c
  unfolding condition_written lin_written
  condition_is_written meaning.always = refl
  condition_is_written meaning.never = refl
  condition_is_written (meaning.comparison {left} {right} {x} {y} rel lefts rights) =
      ap (λ (ts : List ETerm). written.comparison (record { terms = ts }) rel (lin_written states s y)) (terms_written lefts)
      ∙ ap (λ (ts : List ETerm). written.comparison (record { terms = map (term_by canon canon_short) left.terms }) rel (record { terms = ts })) (terms_written rights)
  condition_is_written (meaning.opposite d) = ap written.opposite (condition_is_written d)
  condition_is_written meaning.end_of_all = refl
  condition_is_written (meaning.all_of {c} {cs} {d} {ds} m ms) =
      ap (λ (x : written.Condition). written.all_of x (condition_written states s ds)) (condition_is_written m) ∙ ap (written.all_of (cond_by canon canon_short c)) (condition_is_written ms)
  condition_is_written meaning.end_of_any = refl
  condition_is_written (meaning.any_of {c} {cs} {d} {ds} m ms) =
      ap (λ (x : written.Condition). written.any_of x (condition_written states s ds)) (condition_is_written m) ∙ ap (written.any_of (cond_by canon canon_short c)) (condition_is_written ms)

  pub means_same : {c : written.Condition} {d : Condition} → Means states s c d → Means states s (cond_by canon canon_short c) d
  means_same meaning.always = meaning.always
  means_same meaning.never = meaning.never
  means_same (meaning.comparison rel lefts rights) = meaning.comparison rel (terms_same lefts) (terms_same rights)
  means_same (meaning.opposite d) = meaning.opposite (means_same d)
  means_same meaning.end_of_all = meaning.end_of_all
  means_same (meaning.all_of m ms) = meaning.all_of (means_same m) (means_same ms)
  means_same meaning.end_of_any = meaning.end_of_any
  means_same (meaning.any_of m ms) = meaning.any_of (means_same m) (means_same ms)
