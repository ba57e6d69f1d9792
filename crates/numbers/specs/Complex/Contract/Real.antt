-- A number whose imaginary part is +0 or -0.
use Rattle.numbers.specs.Signs.{Zero}
use Rattle.numbers.specs.declared.complex.Complex.{Complex}

abbrev pub Real : Complex → Type 0
Real c = Zero c.im
