-- How the run of a loaded program ends: the rules derive cells or a fault in time, or it comes to its limit.
use Rattle.std.proofs.Common.{◌≡◌, ℕ, ◌<◌, ◌≤◌, List, [], refl, arith as linear}
use Rattle.rows.specs.declared.row.Sort.TheVariants.{Command}
use Rattle.rows.specs.Rows.{row_at, last_row}
use Rattle.loading.specs.Questions.{Loaded}
use Rattle.semantics.specs.declared.fault.Fault.{Fault}
use Rattle.semantics.specs.Cells.{Cells}
use Rattle.semantics.specs.Rules.{Executes, Faults}
use Rattle.semantics.specs.Machine.{Configuration, conf, cells_of}
use Rattle.semantics.specs.Traces.{Goes, stay, HoldsUp, Reaches, reaches, RefusesWithin}
use Rattle.semantics.specs.Agreement.{control_need_at, results_need_at}
use Rattle.semantics.specs.WholeRuns.{program_over}
use Rattle.semantics.proofs.Shape.{meets}
use Rattle.semantics.proofs.Sound.{counted, does}
use Rattle.semantics.proofs.Fail.{fails_within}
use Rattle.semantics.proofs.Ways.{ends, faults, pends, ways}
use Rattle.semantics.proofs.WholeRuns.{program_stands}
use Rattle.runs.specs.declared.end.Stop.TheVariants as stop
use Rattle.runs.specs.declared.end.End.{End}
use Rattle.runs.specs.declared.end.End.TheVariants.{Finished, Stopped, Limit}
use Rattle.runs.specs.Promise.{ExecutesWithin, FaultsBelow}
use Rattle.runs.proofs.Courses.{busy, Final, finished, exhausted, faulted}

-- the program's needs: the room that its trace takes
abbrev pub K : List ℕ → ℕ
K table = control_need_at table (last_row table)

abbrev pub H : List ℕ → ℕ
H table = results_need_at table (last_row table)

module _ (table : List ℕ) (m : Cells) (limit : ℕ) where
  -- what the rules say of a run that ends so, with that count and those cells
  abbrev pub Told : End → ℕ → Cells → Type 0
  Told Finished n m' = ExecutesWithin table m limit m' n
  Told (Stopped stop.Stuck) n m' = ⊥
  Told (Stopped (stop.Fault f)) n m' = FaultsBelow table m limit f m' n
  Told Limit n m' = n ≡ limit

  -- the run ends so, and the rules say so
  pub record Fate (e : End) (N : ℕ) (m' : Cells) : Type 0 where
    pub last : Configuration
    pub trace : Goes (row_at table) 1 (K table) (H table) (program_over table m) N last
    pub within : N ≤ limit
    pub final : Final (row_at table) limit (H table) e N last
    pub cells : cells_of last ≡ m'
    pub told : Told e N m'

  abbrev pub SomeFate : Type 0
  SomeFate = (e : End) × (N : ℕ) × (m' : Cells) × Fate e N m'

  module _ (loaded : Loaded table) where
    pub finishing : {m' : Cells} {n : ℕ} → Executes (row_at table) m (last_row table) m' n → n ≤ limit → Fate Finished n m'
    finishing {m'} d le = record {
      last = conf [] [] m';
      trace = counted (row_at table) (omega linear) (does (row_at table) (control_need_at table) (results_need_at table) (meets table loaded) d
          1 (K table) (H table) [] [] (omega linear) (omega linear) (omega linear) (stay (omega linear)));
      within = le;
      final = finished (refl, refl);
      cells = refl;
      told = (d, le);
    }

    pub faulting : {f : Fault} {m' : Cells} {n : ℕ} → Faults (row_at table) m (last_row table) f m' n → n < limit → Fate (Stopped (stop.Fault f)) n m'
    faulting {f} {m'} {n} d lt =
        from (fails_within (row_at table) (control_need_at table) (results_need_at table) (meets table loaded) d
        1 (K table) (H table) [] [] (omega linear) (omega linear) (omega linear))
      where
        from : Reaches (row_at table) 1 (K table) (H table) (RefusesWithin (row_at table) 1 (H table) f m') (program_over table m) n → Fate (Stopped (stop.Fault f)) n m'
        from (reaches {t} g z) = record { last = t; trace = g; within = omega linear; final = faulted z.0 z.3 lt; cells = z.1; told = (d, lt) }

    pub some_fate : SomeFate
    some_fate = elim (ways (row_at table) (control_need_at table) (results_need_at table) (meets table loaded)
        limit (last_row table) Command (program_stands table loaded) m) [
          | ends i d le ↦ (Finished, i, d.0, finishing d.1 le)
          | faults {f} {m'} {i} d lt ↦ (Stopped (stop.Fault f), i, m', faulting d lt)
          | pends w ↦ from (w 1 (K table) (H table) [] [] (omega linear) (omega linear) (omega linear))
        ]
      where
        from : Reaches (row_at table) 1 (K table) (H table) (HoldsUp 1) (program_over table m) limit → SomeFate
        from (reaches {t} g up) =
            (Limit, limit, cells_of t, record { last = t; trace = g; within = omega linear; final = exhausted (busy t up) refl; cells = refl; told = refl })
