-- The fields that calls of `next` have given, one after the other.
use Rattle.std.proofs.Common.{◌≡◌, ℕ, List, [], ◌∷◌, sym, ap, ◌∙◌, subst}
use Rattle.std.specs.Iterator.{Yields}
use Rattle.fields.specs.declared.iter.Fields.{Fields}
use Rattle.fields.specs.declared.span.Span.{Span}
use Rattle.fields.specs.FieldSteps.{StepsTo}
use Rattle.fields.specs.Spans.{Next, NoMore, InTurn, reached}

-- the text stays, the fields follow each other from an offset on, and the next is looked for where the last ends
pub record Gone (text : List ℕ) (from : ℕ) (fs : List Span) (t : Fields) : Type 0 where
  pub text_is : t.text.now ≡ text
  pub turn : InTurn text from fs
  pub here : t.from ≡ reached from fs

pub gone : (text : List ℕ) (s t : Fields) (fs : List Span) → s.text.now ≡ text → Yields StepsTo s fs t → Gone text s.from fs t
gone text s t [] e same =
    record { text_is = subst (λ (u : Fields). u.text.now ≡ text) same e; turn = tt; here = ap (λ (u : Fields). u.from) (sym same) }
gone text s t (f ∷ fs) e (j, step, more) =
    let rest = gone text j t fs (step.2 ∙ e) more in
    record {
      text_is = rest.text_is;
      turn = (subst (λ (xs : List ℕ). Next xs s.from f) e step.0, subst (λ (n : ℕ). InTurn text n fs) step.1 rest.turn);
      here = rest.here ∙ ap (λ (n : ℕ). reached n fs) step.1;
    }

module _ {text : List ℕ} {from : ℕ} {fs : List Span} {t : Fields} (given : Gone text from fs t) where
  pub next_given : (f : Span) → Next t.text.now t.from f → Next text (reached from fs) f
  next_given f n = rw (← given.text_is, ← given.here) n

  pub none_given : NoMore t.text.now t.from → NoMore text (reached from fs)
  none_given n = rw (← given.text_is, ← given.here) n

-- the same from the start of the text, for a loop over the fields that `of` made
pub gone_all : (text : List ℕ) (made s t : Fields) (fs : List Span) → (made.text.now ≡ text) × (made.from ≡ 0) → s ≡ made → Yields StepsTo s fs t → Gone text 0 fs t
gone_all text made s t fs new same yields =
    subst (λ (n : ℕ). Gone text n fs t) (ap (λ (u : Fields). u.from) same ∙ new.1) (gone text s t fs (subst (λ (u : Fields). u.text.now ≡ text) (sym same) new.0) yields)
