use Rattle.std.proofs.Common.{sym, subst₂}
use Rattle.rows.specs.Rows.{row_at}
use Rattle.table.specs.Places.{table_of}
use Rattle.table.proofs.Held.{held}
use Rattle.stack.specs.Contents.{contents, places}
use Rattle.stack.proofs.Room.{bounded}
use Rattle.runs.specs.Tries.{Tried}
use Rattle.transition.specs.Exchanges.{room}
use Rattle.transition.specs.Steps.{configuration}
use Rattle.transition.proofs.Simulated.{simulated}
use Rattle.transition.proofs.Tries.{tries}
use Rattle.transition.proofs.machine.Machine.step.Goals as goal

pub returns : goal.returns
returns g c =
    let before = c.args.self.now in
    let control = before.stacks.control in
    let results = before.stacks.results in
    let table = table_of c.args.program.now in
    let cells = g.S.Store.cells in
    let did = c.attempt.ensures.did in
    let told =
    subst₂ (Tried (row_at table) (places control) (places results) (configuration cells before)) (sym did.answers) (sym did.leaves)
    (tries (row_at table) (room before.stacks) (cells before.store.now) (contents control) (contents results) (bounded control) (bounded results)) in
    record {
      tries = told;
      simp = simulated table (held c.args.program.now) (places control) (places results) _ _ _ told;
      keeps = record { places = did.keeps; lent = c.attempt.ensures.lent; ground = c.attempt.ensures.ground };
    }
