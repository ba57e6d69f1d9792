-- An entry that is written comes back when it is read. Assumes nothing.
use mathlib.Core.Path.{◌≡◌}
use lib.Dec.{T}
use lib.Ieee.{binary64, fits}
use lib.Ieee.Bits.{of_bits-to_bits}
use Rattle.cells.specs.declared.Entry.{Entry}
use Rattle.cells.specs.Bits.{decoded, encoded}

-- every number of the entry is one of binary64
pub record Fitting (e : Entry) : Type 0 where
  pub num : T (fits binary64 e.num)
  pub re : T (fits binary64 e.coef.re)
  pub im : T (fits binary64 e.coef.im)

-- an entry that is written comes back when it is read
pub decoded-encoded : (e : Entry) → Fitting e → decoded (encoded e) ≡ e
decoded-encoded e f = rw (of_bits-to_bits binary64 e.num f.num, of_bits-to_bits binary64 e.coef.re f.re, of_bits-to_bits binary64 e.coef.im f.im)
