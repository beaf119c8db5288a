use Rattle.std.proofs.Common.{rules}
use Rattle.sheet.proofs.SheetLemmas.{set_writes}
use Rattle.sheet.proofs.sheet.SheetStore.put.Goals as goal

pub returns-clause-writes : goal.returns-clause-writes
returns-clause-writes c = search (rules, set_writes)
