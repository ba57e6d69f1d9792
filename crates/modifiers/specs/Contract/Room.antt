-- Reading in an arena with fewer places than there may be: as many entries are held from the start as there are places fewer.
use Rattle.std.specs.Prelude.{ℕ, Bool, false, eqb}
use Rattle.limits.specs.declared.Refusal.{Refusal}
use Rattle.limits.specs.declared.Refusal.TheVariants.{NoRoom}
use Rattle.limits.specs.Refusals.{refusal_no}
use Rattle.formats.specs.Tree as tree
use Rattle.stack.specs.State.{Walked, went, stopped}
use Rattle.modifiers.specs.Modifiers.{run_all}
use Rattle.modifiers.specs.Reading.{Read, done, refused_at, ended, runners, start}

abbrev pub is_no_room : Refusal → Bool
is_no_room q = eqb (refusal_no q) (refusal_no NoRoom)

-- refused with 12
abbrev pub is_full : Walked → Bool
is_full (went st) = false
is_full (stopped q at b) = is_no_room q

abbrev pub is_full_read : Read → Bool
is_full_read (done s c b k) = false
is_full_read (refused_at q at b) = is_no_room q

-- a list read with h entries held from the start
unfoldable pub read_held : ℕ → tree.Nodes → Read
read_held h ns = ended (run_all (runners 0 ns) h start)
