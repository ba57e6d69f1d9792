-- The integral of one entry, as the code's branches have it, and the x that is stored over. Assumes nothing.
use Prim.Native.Nat.{ℕ, ◌+◌, ◌≤◌, ◌<◌}
use native.Mathlib.Omega.{arith}
use mathlib.Core.Path.{◌≡◌, refl, sym, ap, ◌∙◌}
use mathlib.Core.Bool.{Bool, true, false, ◌&&◌, cond}
use lib.Dec.{eqb}
use lib.Ieee.{Float, binary64, eq}
use lib.Ieee.Bits.{of_bits-fits}
use borrow.Author.Tests.{ne_eqb, eqb-false}
use Rattle.numbers.specs.Constants.{euler}
use Rattle.numbers.specs.Ops.{◌⊕◌}
use Rattle.numbers.specs.Signs.{zero64, one64}
use Rattle.numbers.specs.declared.complex.Complex.{Complex}
use Rattle.numbers.specs.Complex.Arith as complex
use Rattle.cells.specs.declared.Entry.{Entry}
use Rattle.cells.specs.Contract.Book.{Book, Room}
use Rattle.cells.specs.Contract.Moves.{Put, Kept}
use Rattle.cells.proofs.Laws.{room-less, room-same, put-at}
use Rattle.limits.specs.declared.Refusal.TheVariants.{TooComplex}
use Rattle.sums.specs.declared.tree.Merge.TheVariants.{Store}
use Rattle.sums.specs.Tree.Kinds as kinds
use Rattle.sums.specs.Tree.Sums.{Sum, none, and, size, entry}
use Rattle.sums.specs.Tree.Same.{same_sum}
use Rattle.sums.specs.Tree.Good.{Good}
use Rattle.sums.specs.Tree.Map.{refused, unless, formed}
use Rattle.arithmetic.specs.Singles.{is_x}
use Rattle.arithmetic.proofs.Steps.{differ}
use Rattle.arithmetic.proofs.Agree.{x-size}
use Rattle.calculus.specs.Integral.{x, stored, integrate_x, integrate_by, integrate_into}
use Rattle.calculus.specs.Contract.Turned.{turned_kind}
use Rattle.calculus.proofs.Good.{x-is-good}
use Rattle.sums.specs.Contract.Heads.{GoodHead}
use Rattle.sums.specs.Contract.Lies.{At}
use Rattle.sums.proofs.order.Walk.{empty, lies-above}
use Rattle.calculus.specs.Contract.Into.{XBehind, turned_coef}

-- ---- x

-- the entry that is laid
abbrev pub x-entry : Entry
x-entry = entry kinds.X 0 one64 complex.one

pub x-laid : {b b' : Book} (w : ℕ) → Room b (w + (64 + 64)) → Put b b' (w + 64) x-entry → XBehind b' w
unfolding At size
x-laid w r p =
    record {
      laid = (put-at p (record { num = of_bits-fits binary64 0x3ff0000000000000; re = of_bits-fits binary64 0x3ff0000000000000; im = of_bits-fits binary64 0 }), tt, tt);
      good = x-is-good.good;
      ends = refl;
      room = room-less {n = w + (64 + 64)} (omega arith) (room-same p.long r);
    }

-- it stays where only the result is written
pub x-stays : {b b' : Book} (w : ℕ) → Kept b b' w (w + 64) → XBehind b w → XBehind b' w
x-stays w k l = lies-above (w + 64) (w + 64 + 1) 4 x k (omega arith) l

-- == says that a good sum is x where it is one term, and that x
never : (a : Bool) → a && false ≡ false
never true = refl
never false = refl

keep : (a : Bool) → a && true && true ≡ a
keep true = refl
keep false = refl

pub x-same : (s : Sum) → Good 4 s → is_x s ≡ same_sum s x
unfolding is_x same_sum Good
x-same none g = refl
x-same (and k p i c none) g = go (eqb k kinds.X) refl
  where
    go : (a : Bool) → eqb k kinds.X ≡ a → a && eq p one64 ≡ a && eq p one64 && same_sum i none && true
    go true h = sym (rw (empty i (x-size k p i c g.0 h)) (keep (eq p one64)))
    go false h = refl
x-same (and k p i c (and l q j d r)) g = sym (never (eqb k kinds.X && eq p one64 && same_sum i none))

-- ---- powers of x

pub log-head : (c : Complex) {b : Float} → GoodHead (entry kinds.Log 1 b c)
log-head c = record { least = omega arith; most = omega arith; none_else = λ z. differ z; inside = refl }

module _ (e : Entry) (s : Sum) where
  -- the power plus 1 is 0
  pub log-stored : {b : Float} → eq (e.num ⊕ one64) zero64 ≡ true → b ≡ euler → stored kinds.Log b e.coef s ≡ integrate_x e s
  log-stored h q = rw (q, h)

  -- it isn't
  pub power-stored : {c : Complex} → eq (e.num ⊕ one64) zero64 ≡ false → c ≡ complex.over_real e.coef (e.num ⊕ one64) → formed Store (entry kinds.X 0 (e.num ⊕ one64) c) none s ≡ integrate_x e s
  power-stored h q = rw (q, h)

-- ---- an entry by its kind

module _ (e : Entry) (t s : Sum) where
  -- 1 over a sum, a logarithm and E to a power
  pub integrate-not : (e.kind ≡ kinds.X → ⊥) → e.kind < kinds.Sin → integrate_into e t s ≡ refused TooComplex
  unfolding integrate_into
  integrate-not h l =
      let other : (k : ℕ) → kinds.Sin ≤ k → eqb e.kind k ≡ false = λ k h. ne_eqb e.kind k (λ z. omega arith) in
      rw (ne_eqb e.kind kinds.X h, other kinds.Sin (omega arith), other kinds.Cos (omega arith), other kinds.SinH (omega arith), other kinds.CosH (omega arith))

  -- sin, cos, sinh and cosh
  wave-is : kinds.Sin ≤ e.kind → e.kind ≤ kinds.CosH → integrate_into e t s ≡ integrate_by (turned_kind e.kind) (turned_coef e.kind e.coef) t s
  unfolding integrate_into
  wave-is lo hi =
      rw (ne_eqb e.kind kinds.X (λ z. omega arith))
      (go (eqb e.kind kinds.Sin) (eqb e.kind kinds.Cos) (eqb e.kind kinds.SinH) (eqb e.kind kinds.CosH) refl refl refl refl)
    where
      go : (a b c d : Bool) → eqb e.kind kinds.Sin ≡ a → eqb e.kind kinds.Cos ≡ b → eqb e.kind kinds.SinH ≡ c → eqb e.kind kinds.CosH ≡ d
          → cond a (integrate_by kinds.Cos (complex.negated e.coef) t s) (cond b (integrate_by kinds.Sin e.coef t s)
          (cond c (integrate_by kinds.CosH e.coef t s) (cond d (integrate_by kinds.SinH e.coef t s) (refused TooComplex))))
          ≡ integrate_by (cond a kinds.Cos (cond b kinds.Sin (cond c kinds.CosH kinds.SinH))) (cond a (complex.negated e.coef) e.coef) t s
      go true b c d pa pb pc pd = refl
      go false true c d pa pb pc pd = refl
      go false false true d pa pb pc pd = refl
      go false false false true pa pb pc pd = refl
      go false false false false pa pb pc pd =
          absurd (omega (arith, eqb-false e.kind kinds.Sin pa, eqb-false e.kind kinds.Cos pb, eqb-false e.kind kinds.SinH pc, eqb-false e.kind kinds.CosH pd))

  module _ (lo : kinds.Sin ≤ e.kind) (hi : e.kind ≤ kinds.CosH) {v : Bool} (is : v ≡ is_x t) (good : Good 4 t) where
    -- of what == does not say is x
    pub wave-not : v ≡ false → integrate_into e t s ≡ refused TooComplex
    wave-not h = wave-is lo hi ∙ ap (λ (b : Bool). unless b TooComplex (stored (turned_kind e.kind) zero64 (turned_coef e.kind e.coef) s)) (sym (x-same t good) ∙ sym is ∙ h)

    -- of what it says is
    pub wave-stored : {k : ℕ} {c : Complex} → v ≡ true → k ≡ turned_kind e.kind → c ≡ turned_coef e.kind e.coef → stored k zero64 c s ≡ integrate_into e t s
    wave-stored h ek ec =
        rw (ek, ec) (sym (wave-is lo hi ∙ ap (λ (b : Bool). unless b TooComplex (stored (turned_kind e.kind) zero64 (turned_coef e.kind e.coef) s)) (sym (x-same t good) ∙ sym is ∙ h)))
