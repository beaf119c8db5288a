use Rattle.std.proofs.Common.{◌≡◌, ◌<◌, [], ◌∷◌, sym, ap, ◌∙◌, append-nil, length-set, arith, refl, rules}
use Rattle.semantics.specs.Worked.{cells_with}
use Rattle.sheet.specs.Sheets.{sound}
use Rattle.worked.specs.Setups.{held}
use Rattle.worked.proofs.Cells.{plain, one_more, one_left, all_done}
use Rattle.worked.proofs.start.records_with.Goals as goal

pub loop-holding-init : goal.loop-holding-init
loop-holding-init c =
    let all : c.args.start.now ≡ c.into_iter-holding-iterator.result.iter.rest.now = search rules in
    (refl, ([], all ∙ sym (append-nil c.into_iter-holding-iterator.result.iter.rest.now), plain c.from-records.result (c.from-records.ensures.1 ∙ ap sound c.widest.ensures)))

pub loop-holding-preserved : goal.loop-holding-preserved
loop-holding-preserved c =
    let inv = c.loop-holding.invariant in
    let h = c.in-Some.holding.now in
    let small : h.location < 256 = omega arith in (
      length-set _ _ _ ∙ inv.0,
      (
        h ∷ inv.1.0,
        one_left c.args.start.now c.loop-holding.holding-iterator.iter.rest.now c.next.new.self.iter.rest.now inv.1.0 h inv.1.1 c.in-Some.ensures.steps,
        one_more inv.1.0 h c.loop-holding.records c.record.result inv.0 small c.record.ensures inv.1.2,
      ),
    )

pub returns : goal.returns
returns c =
    let inv = c.loop-holding.invariant in
    let all = all_done c.args.start.now c.loop-holding.holding-iterator.iter.rest.now inv.1.0 inv.1.1 c.in-None.ensures.steps.0 in
    λ k. inv.1.2 k ∙ ap (λ hs. cells_with (held hs) k) (sym all)
