-- What is written for each term of a sum of powers, with either flag: the laws that the writer counts its records by. Assumes nothing.
use Prim.Native.Nat.{ℕ}
use mathlib.Core.Path.{◌≡◌}
use mathlib.Core.Bool.{Bool, true, false, not, ◌&&◌, ◌||◌, and-false}
use lib.Ieee.{Float}
use Rattle.numbers.specs.Signs.{zero64}
use Rattle.numbers.specs.declared.complex.Complex.{Complex}
use Rattle.numbers.specs.Complex.Arith as complex
use Rattle.sums.specs.Tree.Kinds as kinds
use Rattle.sums.specs.Tree.Sums.{Sum, and}
use Rattle.formats.specs.declared.record.Record.{Record}
use Rattle.formats.specs.declared.record.Primitive.TheVariants as prim
use Rattle.formats.specs.Tree.{Nodes, end}
use Rattle.writing.specs.Draft.Writing.{push, does, append, one, two, Written, wrote, and_then, number, number_record, can_write}
use Rattle.writing.proofs.draft.Laws.{append-end, append-join}
use Rattle.writing.specs.ToNodes.{Form, constant, root, bare, square, power, form, is_bare, is_constant, is_empty, before, write_power, times_coef, plus, write}

-- the coefficient's record and Mul, unless it is 1
abbrev pub tail : Bool → Record → Nodes
tail true r = end
tail false r = two r (does prim.Mul)

-- the records of one term, by the arm of the match that its power takes; r pushes the coefficient
abbrev pub piece : Form → Float → Record → Bool → Nodes
piece constant p r unit = append (two (push zero64) (does prim.Mul)) (two r (does prim.Add))
piece root p r unit = append (one (does prim.Sqrt)) (tail unit r)
piece bare p r unit = tail unit r
piece square p r unit = append (two (does prim.Dup) (does prim.Mul)) (tail unit r)
piece power p r unit = append (two (push p) (does prim.Pow)) (tail unit r)

module _ (flag : Bool) (c : Complex) (f : Nodes → Written) (e : can_write flag c ≡ true) where
  number_is : (ns : Nodes) → number flag c ns ≡ wrote (append ns (one (number_record flag c)))
  number_is ns = rw e

  tail-is : (unit : Bool) (ns : Nodes) → and_then (times_coef (not unit && true) flag c ns) f ≡ f (append ns (tail unit (number_record flag c)))
  unfolding append
  tail-is true ns = rw (append-end ns)
  tail-is false ns = rw (number_is ns, append-join ns)

  piece_is : (m : Form) (unit : Bool) (p : Float) (ns : Nodes)
      → and_then (write_power m p flag c ns) (λ ms. and_then (times_coef (not unit && not (is_constant m)) flag c ms) f) ≡ f (append ns (piece m p (number_record flag c) unit))
  unfolding append
  piece_is constant unit p ns = rw (number_is (append ns (two (push zero64) (does prim.Mul))), and-false (not unit), append-join ns, append-join ns)
  piece_is root unit p ns = rw (← append-join ns) (tail-is unit (append ns (one (does prim.Sqrt))))
  piece_is bare unit p ns = tail-is unit ns
  piece_is square unit p ns = rw (← append-join ns) (tail-is unit (append ns (two (does prim.Dup) (does prim.Mul))))
  piece_is power unit p ns = rw (← append-join ns) (tail-is unit (append ns (two (push p) (does prim.Pow))))

module _ (flag : Bool) (p : Float) (i : Sum) (c : Complex) (r : Sum) (id : Bool) (ns : Nodes) where
  -- a zero coefficient is passed over
  pub write-zero : (k : ℕ) → complex.same c complex.zero ≡ true → write flag (and k p i c r) id ns ≡ write flag r id ns
  unfolding write
  write-zero k e = rw e

  -- a term is written after what stands before it
  pub write-term : complex.same c complex.zero ≡ false → can_write flag c ≡ true
      → write flag (and kinds.X p i c r) id ns
      ≡ write flag r (id || is_bare (form p)) (plus (not id && is_empty ns) (append (before (not id && is_empty ns) ns) (piece (form p) p (number_record flag c) (complex.same c complex.one))))
  unfolding write
  write-term z e =
      rw z (piece_is flag c (λ m. write flag r (id || is_bare (form p)) (plus (not id && is_empty ns) m)) e (form p) (complex.same c complex.one) p (before (not id && is_empty ns) ns))
