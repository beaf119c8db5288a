-- What no call changes stays over any number of calls.
use Rattle.std.proofs.Common.{refl, ◌∙◌}
use Rattle.transition.specs.declared.machine.Machine.{Machine}
use Rattle.transition.specs.Steps.{Keeps}

module _ {S G : Type 0} {rests : S → G} where
  pub unchanged : {m : Machine S} → Keeps rests m m
  unchanged = record { places = refl; lent = refl; ground = refl }

  pub then_kept : {m m' m'' : Machine S} → Keeps rests m m' → Keeps rests m' m'' → Keeps rests m m''
  then_kept a b = record { places = b.places ∙ a.places; lent = b.lent ∙ a.lent; ground = b.ground ∙ a.ground }
