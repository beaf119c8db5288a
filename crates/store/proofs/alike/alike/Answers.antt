use Rattle.std.proofs.Common.{◌≡◌, Decides, arith, rules}
use Rattle.cells.specs.Cells.{EqualCells}
use Rattle.cells.proofs.Equality.{cell_Decides}
use Rattle.cells.proofs.Laws.{equal_cells}
use Rattle.store.proofs.Searches.{inclusive_counts, all_decides}
use Rattle.store.proofs.alike.alike.Goals as goal

pub returns : goal.returns
returns g c =
    let s = g.S.Store in
    let one = c.args.one.now in
    let other = c.args.other.now in
    let run = c.all.ensures.runs in
    let counts = inclusive_counts run.0 0 256 run.1 c.new.ensures.exhausted c.new.ensures.start (omega arith) in
    let told = all_decides run.0 0 256 counts _ _ (λ x b q k. search rules) (λ k. s.cells one k ≡ s.cells other k) (λ k b q. search (rules, cell_Decides)) c.all.result run.2 in
    let decides : Decides c.all.result (EqualCells (s.cells one) (s.cells other)) = (λ yes k. told.0 yes k (omega arith), λ equal. told.1 (λ k _. equal k)) in
    record {
      decides = decides;
      same = λ yes. equal_cells (s.cells one) (s.cells other) (s.bounded one) (s.bounded other) (decides.0 yes);
    }
