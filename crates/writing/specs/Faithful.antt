-- The second writer: the Rust's loop with one change. A function's argument is written by the same loop started afresh, with nothing met and an empty list, and then appended.
use Rattle.std.specs.Prelude.{Bool, false, eqb}
use Rattle.numbers.specs.Complex.Arith as complex
use Rattle.sums.specs.Tree.Kinds as kinds
use Rattle.sums.specs.Tree.Sums.{Sum, none, and}
use Rattle.formats.specs.Tree.{Nodes, end}
use Rattle.writing.specs.Draft.Writing.{append, Written, wrote, and_then}
use Rattle.writing.specs.ToNodes.{form, close, turn}

-- what was written apart goes behind the list so far
abbrev pub behind : Written → Nodes → Written
behind w ns = and_then w (λ ms. wrote (append ns ms))

-- the sum, the flag, `identity`, and the list so far
unfoldable pub write_faithful : Bool → Sum → Bool → Nodes → Written
write_faithful flag none identity ns = wrote (close identity ns)
write_faithful flag (and k p i c r) identity ns =
    turn (complex.same c complex.zero) (eqb k kinds.X) (form p) k p c flag (λ ms. behind (write_faithful flag i false end) ms) (λ id ms. write_faithful flag r id ms) identity ns

abbrev pub faithful : Bool → Sum → Written
faithful flag s = write_faithful flag s false end
