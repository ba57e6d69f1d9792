-- What each modifier does with what it takes off the stack.
use Rattle.formats.specs.declared.record.Modifier.{Modifier}
use Rattle.formats.specs.declared.record.Modifier.TheVariants.{Dip, Gap, On, By, Both, Bracket, Fork, Unlisted}
use Rattle.modifiers.specs.declared.begin.Manner.{Manner}
use Rattle.modifiers.specs.declared.begin.Manner.TheVariants.{Drops, Copies, Holds}

abbrev pub manner_of : Modifier → Manner
manner_of Dip = Holds
manner_of Gap = Drops
manner_of On = Holds
manner_of By = Copies
manner_of Both = Holds
manner_of Bracket = Holds
manner_of Fork = Holds
manner_of Unlisted = Holds
