-- One transition of the whole machine, as the code looks for it. What it comes to is what the machine's rules say; see Tried.
use Rattle.std.specs.Prelude.{◌≡◌, ℕ, drop, Some, None, Option, Result}
use Rattle.rows.specs.declared.row.Row.{Row}
use Rattle.rows.specs.declared.row.Row.TheVariants as row
use Rattle.stack.specs.Contents.{contents, first}
use Rattle.semantics.specs.declared.item.Control.{Control}
use Rattle.semantics.specs.declared.item.Control.TheVariants.{Whole, Finish}
use Rattle.semantics.specs.Cells.{Cells, asked, written}
use Rattle.semantics.specs.Machine.{Configuration, conf}
use Rattle.runs.specs.declared.end.Stop.{Stop}
use Rattle.runs.specs.declared.end.Stop.TheVariants as stop
use Rattle.transition.specs.declared.machine.Machine.{Machine}
use Rattle.transition.specs.Found.{number_for}
use Rattle.transition.specs.Exchanges.{Stacks, Room, Outcome, went, stopped, found, unless_refused, whole_of, finish_of, room, Did}

module _ {S : Type 0} where
  -- the configuration of a machine, for whose store these cells are
  abbrev pub configuration : (S → Cells) → Machine S → Configuration
  configuration cells m = conf (contents m.stacks.control) (contents m.stacks.results) (cells m.store.now)

  -- what no call changes: the places of both stacks, which store is lent, and what that rests on
  pub record Keeps {G : Type 0} (rests : S → G) (m m' : Machine S) : Type 0 where
    pub places : room m'.stacks ≡ room m.stacks
    pub lent : m'.store.ghost_name ≡ m.store.ghost_name
    pub ground : rests m'.store.now ≡ rests m.store.now

  -- the machine m has become m' as the outcome says
  pub record Stepped {G : Type 0} (cells : S → Cells) (rests : S → G) (o : Outcome Configuration) (m m' : Machine S) (r : Result (Unit {0}) Stop) : Type 0 where
    pub did : Did o (room m.stacks) (room m'.stacks) (configuration cells m) (configuration cells m') r
    pub lent : m'.store.ghost_name ≡ m.store.ghost_name
    pub ground : rests m'.store.now ≡ rests m.store.now

abbrev pub over : Cells → Stacks → Configuration
over m s = conf s.control s.results m

-- a transition that leaves the cells alone
abbrev pub lifted : Cells → Outcome Stacks → Outcome Configuration
lifted m (went s) = went (over m s)
lifted m (stopped e) = stopped e

abbrev pub assignment_of : ℕ → ℕ → Cells → Stacks → Outcome Configuration
assignment_of p l m s =
    found (number_for l s.results) (λ n.
    unless_refused p (asked m l n) (λ _.
    went (conf (drop 1 s.control) (drop 2 s.results) (written m l n))))

-- where the row puts a number
abbrev pub target_of : Row → Option ℕ
target_of (row.Number n) = None
target_of (row.Contents l) = None
target_of (row.Arithmetic o x y) = None
target_of (row.Truth t) = None
target_of (row.Comparison o x y) = None
target_of (row.Not x) = None
target_of (row.And x y) = None
target_of row.Skip = None
target_of (row.Assignment l x) = Some l
target_of (row.Sequence x y) = None
target_of (row.Choice b x y) = None
target_of (row.Loop b x) = None

abbrev pub operated : Room → ℕ → Cells → Row → Stacks → Option ℕ → Outcome Configuration
operated k p m w s (Some l) = assignment_of p l m s
operated k p m w s None = lifted m (finish_of k p w s)

abbrev pub finish_all_of : Room → ℕ → Cells → Row → Stacks → Outcome Configuration
finish_all_of k p m w s = operated k p m w s (target_of w)

abbrev pub at_top : Room → (ℕ → Option Row) → Cells → Stacks → Option Control → Outcome Configuration
at_top k rows m s None = stopped stop.Stuck
at_top k rows m s (Some (Whole p)) = found (rows p) (λ w. lifted m (whole_of k m p w s))
at_top k rows m s (Some (Finish p)) = found (rows p) (λ w. finish_all_of k p m w s)

abbrev pub step_of : Room → (ℕ → Option Row) → Cells → Stacks → Outcome Configuration
step_of k rows m s = at_top k rows m s (first s.control)
