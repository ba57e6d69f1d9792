-- Definitions to be computed with, in groups: to unfold a group is to unfold what its line names. Assumes nothing.
use lib.Ieee as ieee
use Rattle.numbers.specs.Numbers as numbers
use Rattle.formats.specs.Bytes as bytes
use Rattle.formats.specs.Tree as tree
use Rattle.formats.specs.Names as names
use Rattle.formats.specs.Rules as rules
use Rattle.sums.specs.Tree.Sums as sums
use Rattle.sums.specs.Entry.Encoding as encoding
use Rattle.sums.specs.Tree.Map as map
use Rattle.sums.specs.Tree.Order as order
use Rattle.sums.specs.Tree.Same as same
use Rattle.arithmetic.specs.Powers as powers
use Rattle.arithmetic.specs.Adding as adding
use Rattle.arithmetic.specs.Product as product
use Rattle.arithmetic.specs.Quotient as quotient
use Rattle.arithmetic.specs.Power as power
use Rattle.arithmetic.specs.Pairs as pairs
use Rattle.arithmetic.specs.Singles as singles
use Rattle.primitives.specs.Forms as forms
use Rattle.stack.specs.State as state
use Rattle.stack.specs.Steps as step
use Rattle.stack.specs.Stack as stack
use Rattle.modifiers.specs.Modifiers as modifiers
use Rattle.modifiers.specs.Reading as nodes
use Rattle.algebra.specs.Reading as lists
use Rattle.calculus.specs.Derivative as derivative
use Rattle.calculus.specs.Integral as integral
use Rattle.writing.specs.Draft.Writing as drafts
use Rattle.writing.specs.ToNodes as writer
use Rattle.inverse.specs.Inverse as inverse
use Rattle.numbers.specs.Radical.Root as radicals
use Rattle.running.specs.Primitives as acts
use Rattle.running.specs.Running as runs
use Rattle.algebra.specs.Answer.Making as answers
use Rattle.algebra.specs.Entries as entries

-- float arithmetic
unfoldable pub arithmetic : Unit {0}
unfolding ieee.neg ieee.add ieee.sub ieee.mul ieee.div ieee.round ieee.units ieee.odd ieee.sum ieee.span ieee.climb ieee.size ieee.of_int ieee.fits
arithmetic = tt

-- comparing floats, and floats as bits
unfoldable pub comparing : Unit {0}
unfolding ieee.lt ieee.eq ieee.le ieee.of_fields ieee.of_bits ieee.to_bits numbers.small_whole numbers.below_epsilon
comparing = tt

-- lists as bytes, and the rules that they keep
unfoldable pub list_bytes : Unit {0}
unfolding bytes.value bytes.bytes tree.size tree.height tree.count tree.encode_rec tree.encode tree.rec_of tree.grow tree.forest tree.parse
list_bytes = tt

unfoldable pub list_rules : Unit {0}
unfolding names.kind_of names.primitive_of names.modifier_of rules.fields_ok rules.ok_nodes rules.shape_of rules.verdict
list_rules = tt

-- sums, also as bytes
unfoldable pub sum_bytes : Unit {0}
unfolding sums.size sums.len sums.levels sums.flat encoding.encode_cell encoding.encode_sum
sum_bytes = tt

unfoldable pub maps : Unit {0}
unfolding map.coef_in map.put_in map.formed map.each_into map.lookup order.cmp_each same.same_sum powers.coef_at
maps = tt

-- the operations on sums
unfoldable pub products : Unit {0}
unfolding adding.neg_sum product.rowable product.mulable product.mul_into product.product quotient.all_divable quotient.quotient
products = tt

unfoldable pub raised : Unit {0}
unfolding power.raised power.rootable power.unit_coefs power.rooted power.pow power.log singles.as_constant singles.is_x singles.is_complex
raised = tt

-- reading a list
unfoldable pub steps : Unit {0}
unfolding state.taking state.lend step.primitive step.leaf_step stack.total stack.any_complex pairs.row_pairs pairs.pairs pairs.raised_pairs pairs.pow_pairs forms.pairs_of
steps = tt

unfoldable pub reading : Unit {0}
unfolding modifiers.run_all modifiers.forked modifiers.most modifiers.modifier nodes.step_of nodes.runners nodes.read_nodes lists.read_list
reading = tt

-- derivative and integral
unfoldable pub calculus : Unit {0}
unfolding derivative.prime_from derivative.derive_into derivative.derive integral.integrate_into integral.integrate
calculus = tt

-- writing a list, and undoing one
unfoldable pub writing : Unit {0}
unfolding drafts.append writer.form writer.write inverse.spell inverse.coef_of inverse.others inverse.of_others inverse.inverse
writing = tt

-- running a list
unfoldable pub acting : Unit {0}
unfolding radicals.root acts.times acts.power acts.square_root acts.leave acts.apply acts.act runs.runs runs.modified runs.run_one runs.run_nodes runs.run_list
acting = tt

-- what the entries answer
unfoldable pub answering : Unit {0}
unfolding answers.derive answers.integrate answers.write answers.invert answers.derive_and_write answers.integrate_and_write entries.derivative entries.integral entries.inverse
answering = tt
