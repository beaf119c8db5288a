-- Each case is worked and fits its board, so its line is the one that it claims.
use Rattle.std.proofs.Common.{◌≡◌, ℕ, zero, suc, ◌+◌, ◌≤◌, Bool, true, false, cond, eqb, List, [], ◌∷◌, take, Some, None, Option, sym, refl, ap, ◌∙◌, subst, subst₂, arith as linear}
use Rattle.rows.specs.Rows.{last_row, sort_at}
use Rattle.loading.specs.Stacks.{needs_at, needs_below}
use Rattle.semantics.specs.Cells.{Cells}
use Rattle.semantics.specs.Cuts.{largest_slice}
use Rattle.semantics.specs.Agreement.{control_need_at, results_need_at}
use Rattle.semantics.specs.Worked.{Case, cells_with, Worked, Each}
use Rattle.semantics.specs.Casebook.{twelve_runs}
use Rattle.semantics.proofs.Deciding.{both, so, le?, the}
use Rattle.semantics.proofs.Worked.{runs_end_as_stated}
use Rattle.runs.specs.Ends.{end_number, end_row}
use Rattle.runs.specs.Histories.{largest_limit, Admits}
use Rattle.machine.specs.declared.run.Ended.{Ended}
use Rattle.worked.specs.declared.line.Line.{Line}
use Rattle.worked.specs.declared.setup.Setup.{Setup}
use Rattle.worked.specs.Claimed.{EndsAsClaimed, Poses}
use Rattle.worked.specs.Setups.{numbered, cases, case_of, held, SetsUp, FitsBoard, SetUp}
use Rattle.worked.specs.Lines.{line_for, claimed_line}

-- ---- what holds of each case holds of the one with a number

module _ (P : Case → Type 0) where
  first_ones : (i : ℕ) (cs : List Case) → Each P cs → Each P (take i cs)
  first_ones zero cs ps = tt
  first_ones (suc i) [] ps = tt
  first_ones (suc i) (c ∷ cs) ps = (ps.0, first_ones i cs ps.1)

  here_or : (d c : Case) (o : Option Case) (b : Bool) → P d → (o ≡ Some c → P c) → cond b (Some d) o ≡ Some c → P c
  here_or d c o true p f e = let same : d ≡ c = cc in subst P same p
  here_or d c o false p f e = f e

  there : (i : ℕ) (cs : List Case) → Each P cs → (n : ℕ) (c : Case) → numbered i cs n ≡ Some c → P c
  there i [] ps n c e = absurd (let z : ◌≡◌ {A = ℕ} 0 1 = cc in omega linear)
  there i (d ∷ cs) ps n c e = here_or d c (numbered (i + 1) cs n) (eqb n i) ps.0 (there (i + 1) cs ps.1 n c) e

-- ---- the places and the limits

abbrev fits? : (c : Case) → Option (FitsBoard c)
fits? c =
    so (λ z. record {
      admitted = record { from = z.0.0; to = z.0.1; control = z.1.0.0; results = z.1.0.1 };
      short = z.1.1;
    })
    (both (both (le? 1 c.limit) (le? c.limit largest_limit))
    (both (both (le? (control_need_at c.table (last_row c.table)) 8) (le? (results_need_at c.table (last_row c.table)) 8))
    (le? c.limit largest_slice)))

abbrev all_fit? : (cs : List Case) → Option (Each FitsBoard cs)
all_fit? [] = Some tt
all_fit? (c ∷ cs) = both (fits? c) (all_fit? cs)

all_fit : Each FitsBoard cases
unfolding sort_at needs_at needs_below
all_fit = the (all_fit? cases) tt

all_worked : Each Worked cases
all_worked = first_ones Worked 12 twelve_runs runs_end_as_stated.0

-- a run of a setup of the case, over cells that are the case's
pub posed : (c : Case) (s : Setup) (m : Cells) → SetsUp c s → ((l : ℕ) → m l ≡ cells_with (held s.start.now) l) → FitsBoard c → Poses c s.words.now 8 8 s.limit m
posed c s m x same f =
    record {
      table = x.table;
      limited = x.limit;
      cells = λ l. same l ∙ ap (λ hs. cells_with hs l) x.start;
      admitted = subst₂ (λ t n. Admits t 8 8 n) (sym x.table) (sym x.limit) f.admitted;
      short = subst (λ n. n ≤ largest_slice) (sym x.limit) f.short;
    }

-- ---- the line

-- a run that ended, as a line
abbrev pub line_of : ℕ → Option Ended → Option Line
line_of n None = None
line_of n (Some e) = Some (record { number = n; end = end_number e.end; row = end_row e.end; count = e.count })

told : (n : ℕ) (c : Case) (r : Option Ended) → EndsAsClaimed c r → line_of n r ≡ line_for n (Some c)
told n c None q = absurd q.1
told n c (Some e) q = let w = q.1 in cc (w.end, w.row, w.count)

module _ (n : ℕ) (s : Setup) (r : Option Ended) (runs : (c : Case) → Worked c → SetsUp c s → FitsBoard c → EndsAsClaimed c r) where
  by_case : (o : Option Case) → case_of n ≡ o → SetUp o (Some s) → line_of n r ≡ line_for n o
  by_case None e x = absurd x
  by_case (Some c) e x = told n c r (runs c (there Worked 1 cases all_worked n c e) x (there FitsBoard 1 cases all_fit n c e))

  pub as_claimed : SetUp (case_of n) (Some s) → line_of n r ≡ claimed_line n
  as_claimed = by_case (case_of n) refl
