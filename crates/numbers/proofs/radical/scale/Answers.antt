-- Without a field the digits are moved up; with one they have their leading digit. Assumes nothing.
use Prim.Native.Nat.{ℕ, ◌*◌, ◌/◌, ◌^◌, ◌<◌}
use mathlib.Core.Path.{sym, subst}
use native.Mathlib.Omega.{arith}
use Rattle.numbers.specs.Radical.Contract.Steps.{Scales}
use Rattle.numbers.proofs.radical.Scaling.{units-none, units-some}
use Rattle.numbers.proofs.radical.scale.Goals as goal

pub returns-then-field-eq0 : goal.returns-then-field-eq0
returns-then-field-eq0 c = subst (λ (n : ℕ). Scales c.moved_up.result (n * 2 ^ 1074)) (sym (units-none _ c.if-field-eq0.true)) c.moved_up.ensures

pub returns : goal.returns
returns c =
    let b = c.args.bits in
    let pre = c.requires in
    let some : 0 < b / 2 ^ 52 = omega (arith, c.if-field-eq0.false) in
    record {
      least = omega arith;
      most = omega arith;
      is = units-some b _ some (omega arith);
      low = omega (arith, some);
      high = omega (arith, pre.1);
    }
