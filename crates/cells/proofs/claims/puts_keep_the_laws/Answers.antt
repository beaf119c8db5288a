use Rattle.cells.proofs.Laws.{answer_refused, refused_all, fault_location}
use Rattle.cells.proofs.claims.puts_keep_the_laws.Goals as goal

pub returns-clause-refused : goal.returns-clause-refused
returns-clause-refused c = λ cells l n f e. (refused_all cells l n (answer_refused (cells l) l n f e), fault_location (cells l) l n f e)
