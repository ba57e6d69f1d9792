-- What either writer makes, by its name in the code.
use Rattle.std.specs.Prelude.{Bool}
use Rattle.sums.specs.Tree.Sums.{Sum}
use Rattle.writing.specs.Draft.Writing.{Written}
use Rattle.writing.specs.ToNodes.{to_nodes}
use Rattle.writing.specs.Faithful.{faithful}
use Rattle.algebra.specs.declared.answer.Writer.{Writer}
use Rattle.algebra.specs.declared.answer.Writer.TheVariants.{AsRust, Faithful}
use Rattle.algebra.specs.Answer.Making.{Made, write, write_faithful, derive_and_write, derive_and_write_faithful, integrate_and_write, integrate_and_write_faithful}

abbrev pub list_by : Writer → Bool → Sum → Written
list_by AsRust = to_nodes
list_by Faithful = faithful

abbrev pub write_by : Writer → Bool → Sum → Made
write_by AsRust = write
write_by Faithful = write_faithful

abbrev pub derive_and_write_by : Writer → Bool → Sum → Made
derive_and_write_by AsRust = derive_and_write
derive_and_write_by Faithful = derive_and_write_faithful

abbrev pub integrate_and_write_by : Writer → Bool → Sum → Made
integrate_and_write_by AsRust = integrate_and_write
integrate_and_write_by Faithful = integrate_and_write_faithful
