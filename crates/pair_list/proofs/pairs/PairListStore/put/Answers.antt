use Rattle.std.proofs.Common.{rules}
use Rattle.pair_list.proofs.PairLemmas.{set_writes, set_spares}
use Rattle.pair_list.proofs.pairs.PairListStore.put.Goals as goal

pub returns-clause-writes : goal.returns-clause-writes
returns-clause-writes c = search (rules, set_writes)

pub returns-clause-spares : goal.returns-clause-spares
returns-clause-spares c = search (rules, set_spares)
