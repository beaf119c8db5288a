use Rattle.stack.proofs.Drops.{rest_past}
use Rattle.stack.proofs.stack.Stack.pop.Goals as goal

pub returns-clause-contents : goal.returns-clause-contents
returns-clause-contents g c = rest_past c.args.self.now.top c.args.self.now.items.now
