-- What the runner does with each kind of record, and what a primitive leaves of the numbers that it takes.
use Rattle.formats.specs.declared.record.Kind.{Kind}
use Rattle.std.specs.Prelude.{ℕ, zero, suc, Bool, true, false, List, [], ◌∷◌, Float, Option, Some, None, Result, Ok, Err}
use Rattle.std.specs.Float.{binary64}
use Rattle.std.specs.Float.Ieee.{of_bits, lt, neg}
use Rattle.std.specs.Float.Ieee.Scale.{finite}
use Rattle.numbers.specs.Signs.{zero64, one64}
use Rattle.numbers.specs.Ops.{◌⊕◌, ◌⊖◌, ◌⊗◌, ◌⊘◌}
use Rattle.numbers.specs.Numbers.{small_whole}
use Rattle.numbers.specs.Radical.Root.{root}
use Rattle.limits.specs.declared.Refusal.{Refusal}
use Rattle.limits.specs.declared.Refusal.TheVariants.{TooManyVariables, NotSupported, NonScalar, NonReal, NeedsMath, NotFinite}
use Rattle.formats.specs.declared.record.Record.{Record}
use Rattle.formats.specs.declared.record.Kind.TheVariants as kind
use Rattle.formats.specs.declared.record.Primitive.{Primitive}
use Rattle.formats.specs.declared.record.Primitive.TheVariants as prim
use Rattle.formats.specs.Names.{primitive_of}
use Rattle.running.specs.declared.Left.{Left}
use Rattle.running.specs.declared.Left.TheVariants.{Nothing, One, Two, Three}
use Rattle.running.specs.declared.Single.{Single}
use Rattle.running.specs.declared.Single.TheVariants as single
use Rattle.running.specs.declared.Pair.{Pair}
use Rattle.running.specs.declared.Pair.TheVariants as pair
use Rattle.running.specs.declared.Work.{Work}
use Rattle.running.specs.declared.Work.TheVariants.{OfOne, OfTwo}
use Rattle.running.specs.declared.Deed.{Deed}
use Rattle.running.specs.declared.Deed.TheVariants.{Pushes, Works}
use Rattle.running.specs.declared.Way.{Way}
use Rattle.running.specs.declared.Way.TheVariants.{Acts, Runs, Modifies}

-- ---- powers

-- p multiplied by b, n times, from the left
unfoldable pub times : ℕ → Float → Float → Float
times zero b p = p
times (suc n) b p = times n b (p ⊗ b)

-- a whole exponent from 0 to highest_power: 0 gives 1 for every base, as IEEE 754 has it for pown
abbrev pub power_of : Float → Option ℕ → Result Left Refusal
power_of b (Some zero) = Ok (One one64)
power_of b (Some (suc n)) = Ok (One (times n b b))
power_of b None = Err NeedsMath

unfoldable pub power : Float → Float → Result Left Refusal
power b a = power_of b (small_whole a)

-- ---- square roots

-- whether a is below zero: then it has none
abbrev pub root_unless : Bool → Float → Result Left Refusal
root_unless true a = Err NeedsMath
root_unless false a = Ok (One (root a))

-- -0 isn't below zero
unfoldable pub square_root : Float → Result Left Refusal
square_root a = root_unless (lt a zero64) a

-- ---- primitives

-- a primitive takes the top number, or the top and the one below it, or is refused with nothing taken
abbrev pub work_of : Primitive → Result Work Refusal
work_of prim.Identity = Ok (OfOne single.Identity)
work_of prim.Pop = Ok (OfOne single.Pop)
work_of prim.Dup = Ok (OfOne single.Dup)
work_of prim.Flip = Ok (OfTwo pair.Flip)
work_of prim.Neg = Ok (OfOne single.Neg)
work_of prim.Not = Ok (OfOne single.Not)
work_of prim.Sqrt = Ok (OfOne single.Sqrt)
work_of prim.Add = Ok (OfTwo pair.Add)
work_of prim.Sub = Ok (OfTwo pair.Sub)
work_of prim.Mul = Ok (OfTwo pair.Mul)
work_of prim.Div = Ok (OfTwo pair.Div)
work_of prim.Pow = Ok (OfTwo pair.Pow)
work_of prim.Exp = Err NeedsMath
work_of prim.Sin = Err NeedsMath
work_of prim.Cos = Err NeedsMath
work_of prim.Reciprocal = Ok (OfOne single.Reciprocal)
work_of prim.Complex = Err NonReal
work_of prim.Max = Err NeedsMath
work_of prim.SinH = Err NeedsMath
work_of prim.CosH = Err NeedsMath
work_of prim.Exp2 = Err NeedsMath
work_of prim.Exp10 = Err NeedsMath
work_of prim.Log = Err NeedsMath
work_of prim.Ln = Err NeedsMath
work_of prim.Log2 = Err NeedsMath
work_of prim.Log10 = Err NeedsMath
work_of prim.Over = Ok (OfTwo pair.Over)
work_of prim.Root = Err NeedsMath
work_of prim.Unlisted = Err NotSupported

-- what is left of a, which was on top, named from the top
abbrev pub of_one : Single → Float → Result Left Refusal
of_one single.Identity a = Ok (One a)
of_one single.Pop a = Ok Nothing
of_one single.Dup a = Ok (Two a a)
of_one single.Neg a = Ok (One (neg a))
of_one single.Not a = Ok (One (one64 ⊖ a))
of_one single.Sqrt a = square_root a
of_one single.Reciprocal a = Ok (One (one64 ⊘ a))

-- of a, which was on top, and b below it
abbrev pub of_two : Pair → Float → Float → Result Left Refusal
of_two pair.Flip a b = Ok (Two b a)
of_two pair.Add a b = Ok (One (b ⊕ a))
of_two pair.Sub a b = Ok (One (b ⊖ a))
of_two pair.Mul a b = Ok (One (b ⊗ a))
of_two pair.Div a b = Ok (One (b ⊘ a))
of_two pair.Pow a b = power b a
of_two pair.Over a b = Ok (Three b a b)

-- ---- the stack, its top first

-- the stack after a record's own step, or its refusal
pub data Act : Type 0 where
  went : List Float → Act
  stop : Refusal → Act

-- a number pushed or formed is finite, else 15
abbrev pub if_finite : Bool → Float → List Float → Act
if_finite true v s = went (v ∷ s)
if_finite false v s = stop NotFinite

unfoldable pub leave : Result Left Refusal → List Float → Act
leave (Ok Nothing) s = went s
leave (Ok (One v)) s = if_finite (finite v) v s
leave (Ok (Two a b)) s = went (a ∷ b ∷ s)
leave (Ok (Three a b c)) s = went (a ∷ b ∷ c ∷ s)
leave (Err q) s = stop q

-- a pop that finds nothing is 1
unfoldable pub apply : Result Work Refusal → List Float → Act
apply (Ok (OfOne o)) [] = stop TooManyVariables
apply (Ok (OfOne o)) (a ∷ s) = leave (of_one o a) s
apply (Ok (OfTwo o)) [] = stop TooManyVariables
apply (Ok (OfTwo o)) (a ∷ []) = stop TooManyVariables
apply (Ok (OfTwo o)) (a ∷ b ∷ s) = leave (of_two o a b) s
apply (Err q) s = stop q

-- ---- kinds of record

-- a record acts by itself, or runs what is inside it, or is a modifier
abbrev pub way_of : Option Kind → Result Way Refusal
way_of (Some kind.RealPush) = Ok (Acts Pushes)
way_of (Some kind.ComplexPush) = Err NonReal
way_of (Some kind.ArrayPush) = Err NonScalar
way_of (Some kind.OtherPush) = Err NonReal
way_of (Some kind.Primitive) = Ok (Acts Works)
way_of (Some kind.Modifier) = Ok Modifies
way_of (Some kind.Body) = Ok Runs
way_of (Some kind.Run) = Ok Runs
way_of (Some kind.CustomInverse) = Err NotSupported
way_of (Some kind.Obverse) = Err NotSupported
way_of (Some kind.NoNormal) = Err NotSupported
way_of (Some kind.UnderMarker) = Err NotSupported
way_of (Some kind.AnythingElse) = Err NotSupported
way_of None = Err NotSupported

unfoldable pub act : Deed → Record → List Float → Act
act Pushes r s = leave (Ok (One (of_bits binary64 r.re))) s
act Works r s = apply (work_of (primitive_of r.code)) s
