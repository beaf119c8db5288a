-- The layouts of rows: a line for each kind, with what its words a, b and c stand for.
use Rattle.std.specs.Prelude.{ℕ, Option}
use Rattle.std.specs.Option.{option_map}
use Rattle.rows.specs.declared.kind.Kind.{Kind}
use Rattle.rows.specs.declared.kind.Kind.TheVariants as kind
use Rattle.rows.specs.declared.row.Sort.TheVariants.{Integer, Boolean, Command}
use Rattle.rows.specs.Rows.{kind_of}
use Rattle.loading.specs.declared.layout.Field.{Field}
use Rattle.loading.specs.declared.layout.Field.TheVariants.{Unused, Number, Location, Operator, Relation, Truth, Part}
use Rattle.loading.specs.declared.layout.Layout.{Layout}

abbrev pub laid : Field → Field → Field → Layout
laid a b c = record { a = a; b = b; c = c }

abbrev pub layout_for : Kind → Layout
layout_for kind.Number = laid Number Unused Unused
layout_for kind.Contents = laid Location Unused Unused
layout_for kind.Arithmetic = laid Operator (Part Integer) (Part Integer)
layout_for kind.Truth = laid Truth Unused Unused
layout_for kind.Comparison = laid Relation (Part Integer) (Part Integer)
layout_for kind.Not = laid (Part Boolean) Unused Unused
layout_for kind.And = laid (Part Boolean) (Part Boolean) Unused
layout_for kind.Skip = laid Unused Unused Unused
layout_for kind.Assignment = laid Location (Part Integer) Unused
layout_for kind.Sequence = laid (Part Command) (Part Command) Unused
layout_for kind.Choice = laid (Part Boolean) (Part Command) (Part Command)
layout_for kind.Loop = laid (Part Boolean) (Part Command) Unused

-- the layout of the kind of that number, where there is such a kind
abbrev pub layout_of : ℕ → Option Layout
layout_of kind = option_map layout_for (kind_of kind)
