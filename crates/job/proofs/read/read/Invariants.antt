-- Wherever the lines that are left lead, the whole text leads there.
use Rattle.std.proofs.Common.{◌≡◌, ℕ}
use Rattle.std.specs.Iterator.Adapters.{enumerate_source, enumerate_count}
use Rattle.std.specs.Slice.Iter.{split_inclusive_rest}
use Rattle.job.specs.declared.bad_line.BadLine.{BadLine}
use Rattle.job.specs.Drafts.{State, state_of, empty}
use Rattle.job.specs.Reading.{Leads, Breaks}
use Rattle.job.proofs.read.read.Given as goal

abbrev pub invariant-loop-before : goal.invariant-loop-before
invariant-loop-before l =
    let rest = split_inclusive_rest (enumerate_source l.before-iterator) in
    record {
      counted : enumerate_count l.before-iterator ≡ l.number;
      leads : (m : ℕ) (t : State) → Leads l.number rest (state_of l.draft) m t → Leads 0 l.text empty m t;
      breaks : (e : BadLine) → Breaks l.number rest (state_of l.draft) e → Breaks 0 l.text empty e;
    }
