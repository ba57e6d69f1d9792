-- The test of one cell by itself. Assumes nothing.
use Prim.Native.Nat.{ℕ, ◌-◌, ◌<◌, ◌^◌}
use native.Mathlib.Omega.{arith}
use mathlib.Core.Path.{◌≡◌, refl, sym, ap, ◌∙◌}
use mathlib.Core.Bool.{Bool, true, false, ◌&&◌, ◌||◌, beq, true≢false}
use mathlib.Core.Logic.{◌↔◌}
use lib.Dec.{leb, eqb}
use lib.IntN.{pos}
use lib.Ieee.{fin, binary64, of_bits}
use lib.Ieee.Bits.{is_true}
use lib.Ieee.Scale.{finite}
use borrow.Author.Tests.{leb-true, le-leb, eqb-true, eq-eqb}
use Rattle.numbers.proofs.Bools.{T_of}
use Rattle.cells.specs.Contract.Book.{Book, Cell, cell, word, at}
use Rattle.sums.specs.Tree.Kinds.{has_number}
use Rattle.sums.specs.Contract.Fine.{head_ok, Fine}
use Rattle.numbers.proofs.Bits.{zero_bits, bits-zero}

-- both of two tests pass
both : (a b : Bool) → a && b ≡ true → (a ≡ true) × (b ≡ true)
both true b e = (refl, e)
both false b e = absurd (true≢false (sym e))

four : (a b c d : Bool) → (a && b && c && d ≡ true) ↔ ((a ≡ true) × (b ≡ true) × (c ≡ true) × (d ≡ true))
four a b c d = (
  λ t. let u = both (a && b && c) d t in let v = both (a && b) c u.0 in let w = both a b v.0 in (w.0, w.1, v.1, u.1),
  λ z. rw (z.0, z.1, z.2, z.3),
)

-- the number rule: a kind without a number has +0
number-rule : (k b : ℕ) → b < 2 ^ 64 → (eqb k 1 || eqb k 3 || eqb b 0 ≡ true) ↔ (has_number k ≡ false → of_bits binary64 b ≡ fin false 0 (pos 0))
number-rule k b h = go (has_number k)
  where
    go : (o : Bool) → (o || eqb b 0 ≡ true) ↔ (o ≡ false → of_bits binary64 b ≡ fin false 0 (pos 0))
    go true = (λ e z. absurd (true≢false z), λ z. refl)
    go false = (λ e z. ap (of_bits binary64) (eqb-true b 0 e) ∙ zero_bits, λ z. eq-eqb b 0 (bits-zero b h (z refl)))

same-rule : (a b : Bool) → (beq a b ≡ true) ↔ (a ≡ b)
same-rule true true = (λ e. refl, λ e. refl)
same-rule true false = (λ e. sym e, λ e. sym e)
same-rule false true = (λ e. e, λ e. e)
same-rule false false = (λ e. refl, λ e. refl)

-- a cell passes every test exactly where it is fine; x, y, z and h are what the tests of its numbers and of its kind said
module _ (b : Book) (k e : ℕ) (below : k < e) (bounded : word (cell b k) 0 < 2 ^ 64) where
  abbrev c : Cell
  c = cell b k

  abbrev u : Bool
  u = leb c.inside (e - k - 1)

  rules : (head_ok c.kind c.inside (word c 0) ≡ true)
      ↔ ((leb 1 c.kind ≡ true) × (leb c.kind 8 ≡ true) × (eqb c.kind 1 || eqb c.kind 3 || eqb (word c 0) 0 ≡ true) × (beq (eqb c.inside 0) (eqb c.kind 1) ≡ true))
  rules = four (leb 1 c.kind) (leb c.kind 8) (eqb c.kind 1 || eqb c.kind 3 || eqb (word c 0) 0) (beq (eqb c.inside 0) (eqb c.kind 1))

  there : finite (at b k).num ≡ true → finite (at b k).coef.re ≡ true → finite (at b k).coef.im ≡ true → head_ok c.kind c.inside (word c 0) ≡ true → u ≡ true → Fine b k e
  there x y z h w =
      let r = rules.0 h in
      record {
        plain = record { num = T_of x; re = T_of y; im = T_of z };
        least = leb-true 1 c.kind r.0;
        most = leb-true c.kind 8 r.1;
        none_else = (number-rule c.kind (word c 0) bounded).0 r.2;
        inside = (same-rule (eqb c.inside 0) (eqb c.kind 1)).0 r.3;
        within = omega (arith, leb-true c.inside (e - k - 1) w);
      }

  pub fine-tests : (x y z h : Bool) → x ≡ finite (at b k).num → y ≡ finite (at b k).coef.re → z ≡ finite (at b k).coef.im → h ≡ head_ok c.kind c.inside (word c 0)
      → (x && y && z && h && u ≡ true) ↔ Fine b k e
  fine-tests x y z h p q r s = (
    λ t. let l = both (x && y && z && h) u t in let f = (four x y z h).0 l.0 in there (sym p ∙ f.0) (sym q ∙ f.1) (sym r ∙ f.2) (sym s ∙ f.3) l.1,
    λ f.
        let head = rules.1 (
          le-leb 1 c.kind f.least,
          le-leb c.kind 8 f.most,
          (number-rule c.kind (word c 0) bounded).1 f.none_else,
          (same-rule (eqb c.inside 0) (eqb c.kind 1)).1 f.inside,
        ) in
        let all = (four x y z h).1 (p ∙ is_true _ f.plain.num, q ∙ is_true _ f.plain.re, r ∙ is_true _ f.plain.im, s ∙ head) in
        rw (all, le-leb c.inside (e - k - 1) (omega (arith, f.within))),
  )
