-- `sums::bytes::put_cell` meets its contract: the stores are those of the entry's bytes, one part after the other.
use Rattle.std.proofs.Common.{◌*◌, rules}
use Rattle.limits.specs.Limits.{entry_bytes}
use Rattle.sums.proofs.entry.Codes.{stored}
use Rattle.sums.proofs.bytes.put_cell.Goals as goal

pub returns : goal.returns
returns c =
    let a = c.args in
    record {
      bytes =
          stored _ _ _ _ _ _ (entry_bytes * a.j) record { kind = a.kind; inside = a.inside; num = a.num; re = a.re; im = a.im } (search rules)
          c.put_four.ensures c.put_four-2.ensures c.put_eight.ensures c.put_eight-2.ensures c.put_eight-3.ensures;
      num = c.ranges.num.fits;
      re = c.ranges.re.fits;
      im = c.ranges.im.fits;
    }
