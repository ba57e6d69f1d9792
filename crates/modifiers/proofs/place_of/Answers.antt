-- A record stands at each place that the loop comes to, and the next one behind it.
use Rattle.std.proofs.Common.{◌*◌, ◌≤◌, ◌<◌, length, sym, arith}
use Rattle.formats.specs.Tree.{next_of}
use Rattle.modifiers.proofs.Runs.{place-zero, place-on, next-is}
use Rattle.modifiers.proofs.place_of.Goals as goal
use Rattle.modifiers.proofs.place_of.Goals.{In-loop-j}

-- a record is there
there : (c : In-loop-j) → (c.loop-j.at < c.args.to) × (24 * c.args.to ≤ length c.args.list.now) × (next_of c.args.list.now c.loop-j.at ≤ c.args.to) × (c.args.to ≤ 2048)
there c = rw c.loop-j.invariant (place-on c.args.list.now c.args.from c.args.to c.loop-j._j c.requires.0 (omega arith))

pub loop-j-init : goal.loop-j-init
loop-j-init c = sym (place-zero c.args.list.now c.args.from)

pub record_at-r-requires : goal.record_at-r-requires
record_at-r-requires c = omega (arith, there c)

pub overflow_add-at : goal.overflow_add-at
overflow_add-at c = omega (arith, there (goal.at.overflow_add-at c).In-loop-j)

pub overflow_add-at-in-loop-j : goal.overflow_add-at-in-loop-j
overflow_add-at-in-loop-j c = omega (arith, there (goal.at.overflow_add-at-in-loop-j c).In-loop-j)

pub loop-j-preserved : goal.loop-j-preserved
loop-j-preserved c = next-is c.args.list.now c.args.from c.loop-j.at c.loop-j._j c.record_at-r.result c.loop-j.invariant c.record_at-r.ensures.0
