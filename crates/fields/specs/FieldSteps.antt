-- Going through the fields of a text.
use Rattle.std.specs.Prelude.{◌≡◌, Some, None, Option}
use Rattle.fields.specs.declared.iter.Fields.{Fields}
use Rattle.fields.specs.declared.span.Span.{Span}
use Rattle.fields.specs.Spans.{Next, NoMore}

-- One call of `next`: it gives the field that comes next and goes on where that ends, or none is left and it stays.
abbrev pub StepsTo : Fields → Option Span → Fields → Type 0
StepsTo s None t = NoMore s.text.now s.from × (t.from ≡ s.from) × (t.text.now ≡ s.text.now)
StepsTo s (Some f) t = Next s.text.now s.from f × (t.from ≡ f.end) × (t.text.now ≡ s.text.now)
