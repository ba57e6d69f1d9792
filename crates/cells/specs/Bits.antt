-- The five numbers that an entry is written as, and the entry that they stand for.
use Rattle.std.specs.Prelude.{ℕ, T}
use Rattle.std.specs.Float.{binary64}
use Rattle.std.specs.Float.Ieee.{of_bits, to_bits}
use Rattle.std.specs.Float.Ieee.Scale.{finite}
use Rattle.cells.specs.declared.Entry.{Entry}

-- five numbers
pub record Cell : Type 0 where
  pub kind : ℕ
  pub inside : ℕ
  pub num : ℕ
  pub re : ℕ
  pub im : ℕ

-- the entry that a cell stands for, and the cell that an entry is written as
abbrev pub decoded : Cell → Entry
decoded c = record { kind = c.kind; inside = c.inside; num = of_bits binary64 c.num; coef = record { re = of_bits binary64 c.re; im = of_bits binary64 c.im } }

abbrev pub encoded : Entry → Cell
encoded e = record { kind = e.kind; inside = e.inside; num = to_bits binary64 e.num; re = to_bits binary64 e.coef.re; im = to_bits binary64 e.coef.im }

-- every number of the entry is finite
pub record Plain (e : Entry) : Type 0 where
  pub num : T (finite e.num)
  pub re : T (finite e.coef.re)
  pub im : T (finite e.coef.im)
