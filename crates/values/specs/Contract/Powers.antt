-- A sum of nothing but powers of x, met straight in its bytes.
use Rattle.std.specs.Prelude.{ℕ, ◌+◌, ◌*◌, ◌≡◌, true, List, length, Float, Option, Some, Result}
use Rattle.std.specs.Float.{binary64}
use Rattle.std.specs.Float.Ieee.{of_bits}
use Rattle.std.specs.Float.Ieee.Scale.{finite}
use Rattle.limits.specs.Limits.{entry_bytes, sum_levels}
use Rattle.formats.specs.Bytes.{number}
use Rattle.cells.specs.declared.Entry.{Entry}
use Rattle.cells.specs.Bits.{decoded}
use Rattle.sums.specs.Tree.Sums.{Sum, size}
use Rattle.sums.specs.Tree.Good.{Good}
use Rattle.sums.specs.Entry.Encoding.{encode_sum}
use Rattle.sums.specs.Entry.Contract.Steps.{cell_at}
use Rattle.limits.specs.declared.Refusal.{Refusal}
use Rattle.values.specs.declared.Found.{Found}
use Rattle.values.specs.ValueOf.{ValueOfBytes}
use Rattle.values.specs.Contract.Findings.{Finds}

-- the entry that the bytes at place i stand for
abbrev pub entry_at : List ℕ → ℕ → Entry
entry_at l i = decoded (cell_at l i)

-- the bytes at place i are a power of x with nothing inside, and its numbers are finite
pub record PowerAt (l : List ℕ) (i : ℕ) : Type 0 where
  pub head : number 8 l (entry_bytes * i) ≡ 1
  pub num : finite (of_bits binary64 (number 8 l (entry_bytes * i + 8))) ≡ true
  pub re : finite (of_bits binary64 (number 8 l (entry_bytes * i + 16))) ≡ true
  pub im : finite (of_bits binary64 (number 8 l (entry_bytes * i + 24))) ≡ true

-- the first n entries are a good sum, every term of which was met; where there are no more, the bytes are that sum's
pub record AllMet (l : List ℕ) (n : ℕ) (x : Float) (f : Found) : Type 0 where
  pub s : Sum
  pub encodes : length l ≡ entry_bytes * n → encode_sum s ≡ l
  pub good : Good sum_levels s
  pub sized : size s ≡ n
  pub finds : Finds x s f

-- where powers were met they are the sum
abbrev pub FindsPowers : List ℕ → ℕ → Float → Option Found → Type 0
FindsPowers l n x r = (f : Found) → r ≡ Some f → AllMet l n x f

-- an answer is the value's
abbrev pub QuickOf : List ℕ → Float → Option (Result Float Refusal) → Type 0
QuickOf l x r = (a : Result Float Refusal) → r ≡ Some a → ValueOfBytes l x a
