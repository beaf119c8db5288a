use Rattle.std.proofs.Common.{◌∷◌, ◌<◌, ap, ◌∙◌, length-set, arith}
use Rattle.stack.proofs.Laid.{laid, one_left, room_left}
use Rattle.stack.proofs.stack.Stack.lay.Goals as goal

pub loop-item-preserved : goal.loop-item-preserved
loop-item-preserved g c =
    let inv = c.loop-item.invariant in
    let x = c.in-Some.item.now in
    let items = c.loop-item.self.items.now in
    let left = one_left _ _ c.next.new.self.iter.rest.now inv.1.0 x inv.1.1 c.in-Some.ensures.steps in
    let room : 0 < c.loop-item.self.top =
    room_left _ c.next.new.self.iter.rest.now inv.1.0 _ items c.loop-item.self.top x left inv.1.2 c.loop-item.self.within (omega (arith, c.requires, inv.0)) in
    (length-set _ _ _ ∙ inv.0, (x ∷ inv.1.0, left, laid items c.loop-item.self.top x room c.loop-item.self.within ∙ ap (λ l. x ∷ l) inv.1.2))
