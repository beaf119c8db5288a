-- Fields read one after the other.
use Rattle.std.proofs.Common.{◌≡◌, ℕ, List, [], ◌∷◌, ◌++◌}
use Rattle.fields.specs.declared.span.Span.{Span}
use Rattle.fields.specs.Numbers.{Word}
use Rattle.fields.specs.Reading.{Words, values_of, Values, FirstBad}
use Rattle.fields.specs.Spans.{Next, InTurn, FieldsOf, reached, bytes_of}
use Rattle.fields.proofs.Sole.{begins, sole}

pub in_turn_push : (text : List ℕ) (from : ℕ) (fs : List Span) (f : Span) → InTurn text from fs → Next text (reached from fs) f → InTurn text from (fs ++ f ∷ [])
in_turn_push text from [] f t n = (n, tt)
in_turn_push text from (g ∷ fs) f t n = (t.0, in_turn_push text g.end fs f t.1 n)

pub first_bad : (text : List ℕ) (fs : List Span) (f : Span) → InTurn text 0 fs → Next text (reached 0 fs) f → Words text fs → (Word (bytes_of text f) → ⊥) → FirstBad text f
first_bad text fs f turn next words bad =
    record {
      before = fs;
      turn = turn;
      next = next;
      begins = λ gs h. begins text (fs ++ f ∷ []) gs (in_turn_push text 0 fs f turn next) h;
      words = words;
      bad = bad;
    }

pub read_all : (text : List ℕ) (fs : List Span) (vs : List ℕ) → FieldsOf text fs → Words text fs → vs ≡ values_of text fs → Values text vs
read_all text fs vs all words same = record { fields = fs; all = all; sole = λ gs. sole text fs gs all; words = words; same = same }
