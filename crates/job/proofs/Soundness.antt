-- What the lines say can be relied on.
use Rattle.std.proofs.Common.{ℕ, zero, suc, ◌+◌, List, replicate, vec_items, sym, ◌∙◌, subst, length-set}
use lib.ListN.{length-replicate}
use Rattle.std.proofs.ByRecursion.{All-set, All-push}
use Rattle.std.specs.List.{AllByRecursion}
use Rattle.cells.specs.declared.cell.Cell.{Cell}
use Rattle.cells.specs.declared.cell.Cell.TheVariants.{Unknown, Known}
use Rattle.job_line.specs.declared.board_line.BoardLine.{BoardLine}
use Rattle.job_line.specs.declared.line.JobLine.{JobLine}
use Rattle.job_line.specs.declared.line.Keyword.{Keyword}
use Rattle.job_line.specs.CellLines.{Lawful}
use Rattle.job_line.specs.Lines.{SaysAfter, Says}
use Rattle.job_line.specs.Lines.Says.{nothing, headed}
use Rattle.job.specs.Drafts.{State, empty, Adds, TakesIn}
use Rattle.job.specs.declared.job.Job.{Job}
use Rattle.job.specs.Finishes.{Finishes}
use Rattle.job.specs.Reading.{Leads, LawfulCell, FewPlaces, SoundParts, Sound}
use Rattle.job.specs.Reading.Leads.{ended, goes_on}

-- what a line says can be relied on
abbrev Good : JobLine → Type 0
Good JobLine.Nothing = Unit {0}
Good (JobLine.Limit n) = Unit {0}
Good (JobLine.Table v) = Unit {0}
Good (JobLine.Cell l c) = Lawful c
Good (JobLine.Board b) = FewPlaces b

good_after : (line : ℕ) (k : Keyword) (ws : List (List ℕ)) (j : JobLine) → SaysAfter line k ws j → Good j
good_after line k ws JobLine.Nothing so = tt
good_after line k ws (JobLine.Limit n) so = tt
good_after line k ws (JobLine.Table v) so = tt
good_after line k ws (JobLine.Cell l c) so = so.1.lawful
good_after line k ws (JobLine.Board b) so = (so.1.control.2, so.1.results.2)

good : (line : ℕ) (ws : List (List ℕ)) (j : JobLine) → Says line ws j → Good j
good line ws j nothing = tt
good line ws j (headed {ws = rest} w k is so) = good_after line k rest j so

abbrev SoundState : State → Type 0
SoundState s = SoundParts s.cells s.boards

added : (j : JobLine) (s t : State) → Good j → Adds s j t → SoundState s → SoundState t
added JobLine.Nothing s t g is so = subst SoundState (sym is) so
added (JobLine.Limit n) s t g adds so = subst SoundState (sym adds.1) so
added (JobLine.Table v) s t g is so = subst SoundState (sym is) so
added (JobLine.Cell l c) s t g adds so =
    subst SoundState (sym adds.1) (
    record {
      locations = length-set s.cells l (Known c) ∙ so.locations;
      lawful = All-set LawfulCell s.cells l (Known c) g so.lawful;
      few_places = so.few_places;
    }
    )
added (JobLine.Board b) s t g is so =
    subst SoundState (sym is) (record { locations = so.locations; lawful = so.lawful; few_places = All-push FewPlaces s.boards b so.few_places g })

taken_in : (n : ℕ) (line : List ℕ) (s t : State) → TakesIn n line s t → SoundState s → SoundState t
taken_in n line s t took so = added took.says s t (good n took.said.words took.says took.said.said) took.adds so

pub stays_sound : (n m : ℕ) (text : List ℕ) (s t : State) → Leads n text s m t → SoundState s → SoundState t
stays_sound n m text s t ended so = so
stays_sound n m text s t (goes_on line rest u some first took more) so = stays_sound (n + 1) m rest u t more (taken_in (n + 1) line s u took so)

all_unknown : (k : ℕ) → AllByRecursion LawfulCell (replicate k Unknown)
all_unknown zero = tt
all_unknown (suc k) = (tt, all_unknown k)

pub empty_sound : SoundState empty
empty_sound = record { locations = length-replicate 256 Unknown; lawful = all_unknown 256; few_places = tt }

pub sound_job : (s : State) (j : Job) → Finishes s j → SoundState s → Sound j
sound_job s j f so =
    subst (λ (cells : List Cell). SoundParts cells (vec_items j.boards)) (sym f.cells)
    (subst (λ (boards : List BoardLine). SoundParts s.cells boards) (sym f.boards) so)
