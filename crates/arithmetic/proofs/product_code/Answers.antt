-- The rule of the table holds at all of its places, by one test that is computed.
use Rattle.std.proofs.Common.{refl}
use Rattle.arithmetic.specs.Outcomes.{product_code}
use Rattle.arithmetic.specs.declared.TheConstants.{PRODUCTS}
use Rattle.arithmetic.proofs.Table.{by-kinds}
use Rattle.arithmetic.proofs.product_code.Goals as goal

pub returns : goal.returns
returns c = by-kinds product_code PRODUCTS tt refl c.args.k c.args.l c.requires.0 c.requires.1 c.requires.2 c.requires.3
