-- What reading a list costs: how many records it runs where no refusal is met. A record is a step each time it runs, and so is a body.
use Rattle.std.specs.Prelude.{ℕ, suc, ◌+◌, ◌*◌, min, cond, List, eqb, Ok, Err, Result}
use Rattle.limits.specs.Refusals.{refusal_no}
use Rattle.formats.specs.declared.record.Record.{Record}
use Rattle.formats.specs.declared.record.Modifier.{Modifier}
use Rattle.formats.specs.declared.record.Modifier.TheVariants.{Dip, Gap, On, By, Both, Bracket, Fork, Unlisted}
use Rattle.formats.specs.Names.{kind_of, modifier_of}
use Rattle.formats.specs.Rules.{verdict, Verdict}
use Rattle.formats.specs.Tree.{Nodes, end, rec, count, parse}
use Rattle.modifiers.specs.declared.Inside.{Inside}
use Rattle.modifiers.specs.declared.Inside.TheVariants as inside
use Rattle.modifiers.specs.Reading.{inside_of}
use Rattle.limits.specs.declared.Refusal.{Refusal}
use Rattle.reading.specs.declared.cost.CostNumbers.{CostNumbers}

-- so often, where there are as many bodies as the modifier asks for; with another number it is refused before a body runs
abbrev pub where_asked : ℕ → ℕ → ℕ → ℕ
where_asked asked times n = cond (eqb n asked) times 0

-- how often a modifier runs each of its n bodies
abbrev pub times_of : Modifier → ℕ → ℕ
times_of Dip n = where_asked 1 1 n
times_of Gap n = where_asked 1 1 n
times_of On n = where_asked 1 1 n
times_of By n = where_asked 1 1 n
times_of Both n = where_asked 1 2 n
times_of Bracket n = where_asked 2 1 n
times_of Fork n = 1
times_of Unlisted n = 0

-- how often a record runs what is inside it
abbrev pub inside_times : Inside → Record → Nodes → ℕ
inside_times inside.Nothing r ns = 0
inside_times inside.Nodes r ns = 1
inside_times inside.Bodies r ns = times_of (modifier_of r.code) (count ns)

-- the record itself, and what is inside it, which costs so much, as often as it runs
abbrev pub own_cost : Record → Nodes → ℕ → ℕ
own_cost r ns inner = suc (inside_times (inside_of (kind_of r.kind)) r ns * inner)

unfoldable pub cost_of : Nodes → ℕ
cost_of end = 0
cost_of (rec r ns ms) = own_cost r ns (cost_of ns) + cost_of ms

-- ---- of a list of bytes

-- the most that 64 bits hold, which is told for every number above it too
abbrev pub most_steps : ℕ
most_steps = 18446744073709551615

-- 11 and 13 come first, over the whole list
abbrev pub judged : Verdict → Nodes → Result ℕ Refusal
judged (Err q) ns = Err q
judged (Ok tt) ns = Ok (min most_steps (cost_of ns))

unfoldable pub cost_list : List ℕ → Result ℕ Refusal
cost_list l = judged (verdict l) (parse l)

-- number, place and steps; everything is at place 0, and a refusal has no steps
abbrev pub cost_numbers : Result ℕ Refusal → CostNumbers
cost_numbers (Ok n) = record { number = 0; place = 0; steps = n }
cost_numbers (Err q) = record { number = refusal_no q; place = 0; steps = 0 }
