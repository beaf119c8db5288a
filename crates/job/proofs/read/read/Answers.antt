use Rattle.std.proofs.Common.{subst, ◌+◌, ◌≡◌, arith, rules}
use Rattle.std.proofs.lemmas.Grind.{common_steps}
use Rattle.std.proofs.lemmas.Result.{MatchResult-weaker}
use Rattle.std.specs.Iterator.Adapters.{enumerate_source}
use Rattle.std.specs.Slice.Iter.{split_inclusive_rest}
use Rattle.job.proofs.Pieces.{first_of}
use Rattle.job_line.specs.declared.wrong.Wrong.{Wrong}
use Rattle.job.specs.Drafts.{State, state_of, empty, TakesIn, RefusesLineOf}
use Rattle.job.specs.Reading.{Leads, Breaks, Stops}
use Rattle.job.specs.Reading.Leads.{ended, goes_on}
use Rattle.job.specs.Reading.Breaks.{here, later}
use Rattle.job.specs.Reading.Stops.{breaks, unfinished}
use Rattle.job.proofs.Soundness.{stays_sound, empty_sound, sound_job}
use Rattle.job.proofs.read.read.Goals as goal

pub returns-in_err-map_err-clause-told : goal.returns-in_err-map_err-clause-told
returns-in_err-map_err-clause-told c =
    let step = c.in-Some.ensures.steps.0 in
    let line = first_of _ _ step c.strip_suffix.ensures.cases c.unwrap_or-line.ensures (λ a r q k. search rules) in
    let number = c.loop-before.number + 1 in
    let breaks_here : (e : Wrong) → RefusesLineOf number c.unwrap_or-line.result.now (state_of c.loop-before.draft) e →
    Stops c.args.text.now (record { line = number; wrong = e }) =
    λ e refuses. breaks (c.loop-before.invariant.breaks _ (here _ _ step.2 line refuses)) in
    grind (arith, common_steps, breaks_here)

pub loop-before-preserved : goal.loop-before-preserved
loop-before-preserved c =
    let step = c.in-Some.ensures.steps.0 in
    let line = first_of _ _ step c.strip_suffix.ensures.cases c.unwrap_or-line.ensures (λ a r q k. search rules) in
    let takes : TakesIn (c.loop-before.number + 1) c.unwrap_or-line.result.now (state_of c.loop-before.draft) (state_of c.read_line.new.self) = grind (arith, common_steps) in
    let same : c.in-Some.before ≡ c.loop-before.number = grind (arith, common_steps) in
    let rest = split_inclusive_rest (enumerate_source c.next.new.self) in
    let state = state_of c.read_line.new.self in
    record {
      counted = grind (arith, common_steps);
      leads = λ m t h. c.loop-before.invariant.leads m t (goes_on _ _ _ step.2 line takes (subst (λ n. Leads (n + 1) rest state m t) same h));
      breaks = λ e h. c.loop-before.invariant.breaks e (later _ _ _ step.2 line takes (subst (λ n. Breaks (n + 1) rest state e) same h));
    }

-- the text has led to what the draft says
led : (c : goal.After-finish) → Leads 0 c.args.text.now empty c.loop-before.number (state_of c.loop-before.draft)
led c = grind (arith, common_steps, ended)

pub returns-clause-told : goal.returns-clause-told
returns-clause-told c =
    let n = c.loop-before.number in
    let s : State = state_of c.loop-before.draft in
    let leads = led c in
    MatchResult-weaker c.finish.result c.finish.ensures (λ j so. record { lines = n; state = s; leads = leads; finishes = so }) (λ e so. unfinished n s leads so)

pub returns-clause-sound : goal.returns-clause-sound
returns-clause-sound c =
    let s : State = state_of c.loop-before.draft in
    let leads = led c in
    MatchResult-weaker c.finish.result c.finish.ensures (λ j so. sound_job s j so (stays_sound 0 c.loop-before.number c.args.text.now empty s leads empty_sound)) (λ e so. tt)
