-- The stores are those of the record's bytes, one part after the other. Assumes nothing.
use mathlib.Core.Path.{◌≡◌, ap, ◌∙◌}
use mathlib.Core.List.{List}
use Prim.Native.Nat.{ℕ, ◌+◌, ◌*◌}
use native.Mathlib.Omega.{arith}
use lib.Seq.{sets}
use Rattle.formats.specs.Bytes.{bytes}
use Rattle.formats.specs.Tree.{rec_at, encode_rec}
use Rattle.formats.specs.Rules.{Fields}
use Rattle.formats.proofs.record.Codes.{stores-record, put-read}
use Rattle.formats.proofs.record.put_record.Goals as goal

pub returns : goal.returns
returns c =
    let a = c.args in
    let f : Fields a.r = omega arith in
    let stored : c.put_eight-2.new.out ≡ sets a.out.now (24 * a.i) (encode_rec a.r) =
    c.put_eight-2.ensures
    ∙ ap (λ (l : List ℕ). sets l (24 * a.i + 16) (bytes 8 a.r.im))
    (c.put_eight.ensures ∙ ap (λ (l : List ℕ). sets l (24 * a.i + 8) (bytes 8 a.r.re))
    c.put_four.ensures)
    ∙ stores-record a.out.now (24 * a.i) a.r in
    record { stored = stored; back = ap (λ (l : List ℕ). rec_at l a.i) stored ∙ put-read a.out.now a.i a.r f (omega arith) }
