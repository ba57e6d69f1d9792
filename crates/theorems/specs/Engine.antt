-- The engine is the run: what `value` gives of a sum at x is what `run` gives of the list that is written for it, but for the place, the steps and the peak.
use Rattle.std.specs.Prelude.{ℕ, ◌*◌, ◌≤◌, ◌≡◌, false, List, T, Float, take, Ok, Err, Result}
use Rattle.std.specs.Float.Ieee.Scale.{finite}
use Rattle.limits.specs.Limits.{record_bytes, sum_entries, sum_levels}
use Rattle.limits.specs.declared.Refusal.{Refusal}
use Rattle.limits.specs.declared.Refusal.TheVariants.{NeedsMath, OutputRoom}
use Rattle.sums.specs.Tree.Sums.{Sum, size}
use Rattle.sums.specs.Tree.Good.{Good}
use Rattle.formats.specs.Tree.{records_in}
use Rattle.writing.specs.Draft.Writing.{Written, wrote, refused}
use Rattle.writing.specs.ToNodes.{to_nodes}
use Rattle.running.specs.Running as run
use Rattle.running.specs.Running.{run_nodes, run_list, RunAnswer}
use Rattle.values.specs.ValueOf.{value_of, ValueOfBytes}
use Rattle.algebra.specs.declared.answer.Answer.TheVariants as given
use Rattle.algebra.specs.Answer.Making as making
use Rattle.algebra.specs.Answer.Making.{OfBytes}

-- ---- of a sum

-- what a run gives, without its place, its steps and its peak
abbrev pub unplaced : RunAnswer → Result Float Refusal
unplaced (Ok ran-to) = Ok ran-to.value
unplaced (Err ran-to) = Err ran-to.why

-- the run of a list that was written; else the refusal to write it
abbrev pub ran : Written → Float → Result Float Refusal
ran (wrote ns) x = unplaced (run_nodes ns x)
ran (refused q) x = Err q

-- of a good sum at a finite x, unless it is refused with 14
abbrev pub EngineIsRun : Type 0
EngineIsRun = (s : Sum) (x : Float) → Good sum_levels s → size s ≤ sum_entries → T (finite x) → (value_of s x ≡ Err NeedsMath → ⊥) → value_of s x ≡ ran (to_nodes false s) x

-- ---- over bytes

-- `value` of a sum's bytes, at any x and unless it refuses with 14, is `write` of them with the flag 0, and then `run`.
-- Where write wrote m records, value gives what run gives of their bytes. What write refuses, but for want of room, value refuses.
pub record ValueComposes : Type 0 where
  pub runs : (l out out' : List ℕ) (x : Float) (m : ℕ) (r : Result Float Refusal) → (r ≡ Err NeedsMath → ⊥) → ValueOfBytes l x r
      → OfBytes records_in (making.write false) l out out' (given.Done m) → r ≡ unplaced (run_list (take (record_bytes * m) out') x)
  pub refuses : (l out out' : List ℕ) (x : Float) (q : Refusal) (at : ℕ) (r : Result Float Refusal) → (q ≡ OutputRoom → ⊥) → (r ≡ Err NeedsMath → ⊥) → ValueOfBytes l x r
      → OfBytes records_in (making.write false) l out out' (given.Refused q at) → r ≡ Err q
