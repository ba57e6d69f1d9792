-- One entry and its bytes: what was written is read, and what was read is written. Assumes nothing.
use mathlib.Core.Path.{◌≡◌, refl, ap, ap₂, ◌∙◌, sym}
use mathlib.Core.Bool.{true, ◌&&◌}
use mathlib.Core.List.{List, [], ◌∷◌, ◌++◌}
use Prim.Native.Nat.{ℕ, ◌+◌, ◌*◌, ◌/◌, ◌%◌, ◌≤◌, ◌<◌}
use native.Mathlib.Omega.{arith}
use native.Mathlib.Nat.{add-zero}
use lib.Dec.{ltb}
use lib.Ieee.{Float, binary64, fits}
use lib.Ieee.Bits.{to_bits-lt, to_bits-of_bits}
use lib.Ieee.Fits.{and_r}
use lib.Ieee.Scale.{finite}
use lib.ListN.{length, get_or, drop, length-append}
use lib.Seq.{drop-drop, get_or-drop, sets}
use borrow.Author.Tests.{ltb-true, lt-ltb}
use Rattle.numbers.specs.declared.complex.Complex.{Complex}
use Rattle.cells.specs.Bits.{Cell, decoded, encoded, Plain}
use Rattle.cells.proofs.Bits.{Fitting}
use Rattle.numbers.proofs.Bits.{no_nan}
use Rattle.sums.specs.Tree.Sums.{Sum, size, entry}
use Rattle.sums.specs.Tree.Good.{GoodEntry}
use Rattle.formats.specs.Bytes.{value, bytes, part, number, Bytes}
use Rattle.formats.proofs.record.Bytes.{length-bytes, value-bytes, part_join, part-four, number-four, bytes-number, number-below, sets-append}
use Rattle.formats.proofs.record.Shapes.{and_left, and_right}
use Rattle.sums.specs.Entry.Encoding.{encode_cell}
use Rattle.sums.specs.Entry.Contract.Steps.{clean_at, cell_at}

pub length-cell : (c : Cell) → length (encode_cell c) ≡ 32
unfolding encode_cell bytes
length-cell c = refl

-- the floats' bits are those of binary64
pub record Bits (c : Cell) : Type 0 where
  pub num : c.num < 18446744073709551616
  pub re : c.re < 18446744073709551616
  pub im : c.im < 18446744073709551616

-- every number is one that its bytes hold, and the count is below 64
pub record Small (c : Cell) : Type 0 where
  pub kind : c.kind < 256
  pub inside : c.inside < 64
  pub bits : Bits c

-- ---- what was written is read

-- the cell that a list of bytes begins with
unfoldable pub cell_of : List ℕ → Cell
cell_of l = record { kind = get_or l 0 0; inside = get_or l 4 0; num = number 8 l 8; re = number 8 l 16; im = number 8 l 24 }

pub cell-drop : (l : List ℕ) (i : ℕ) → cell_at l i ≡ cell_of (drop (32 * i) l)
unfolding cell_of
cell-drop l i = simp (get_or-drop, drop-drop, add-zero)

clean_drop : (l : List ℕ) (i : ℕ) → clean_at l i ≡ (ltb (number 4 (drop (32 * i) l) 0) 256 && ltb (number 4 (drop (32 * i) l) 4) 64)
clean_drop l i = simp (drop-drop, add-zero)

cell-is : (c : Cell) (i x y z : ℕ) → i ≡ c.inside → x ≡ c.num → y ≡ c.re → z ≡ c.im → ◌≡◌ {A = Cell} record { kind = c.kind; inside = i; num = x; re = y; im = z } c
cell-is c i x y z p q r s = rw (p, q, r, s)

cell-here : (c : Cell) (q : List ℕ) → Small c → cell_of (encode_cell c ++ q) ≡ c
unfolding cell_of encode_cell bytes
cell-here c q s =
    cell-is c (c.inside % 256) (value (bytes 8 c.num)) (value (bytes 8 c.re)) (value (bytes 8 c.im))
    (omega arith)
    (value-bytes 8 c.num s.bits.num)
    (value-bytes 8 c.re s.bits.re)
    (value-bytes 8 c.im s.bits.im)

value-alone : (v : ℕ) → v < 256 → value (v ∷ 0 ∷ 0 ∷ 0 ∷ []) < 256
unfolding value
value-alone v h = omega arith

clean-here : (c : Cell) (q : List ℕ) → Small c → (ltb (number 4 (encode_cell c ++ q) 0) 256 && ltb (number 4 (encode_cell c ++ q) 4) 64) ≡ true
unfolding encode_cell bytes
clean-here c q s =
    let k : value (c.kind ∷ 0 ∷ 0 ∷ 0 ∷ []) < 256 = value-alone c.kind s.kind in
    let n : value (bytes 4 c.inside) < 64 = rw (value-bytes 4 c.inside (omega arith)) s.inside in
    rw (lt-ltb (value (c.kind ∷ 0 ∷ 0 ∷ 0 ∷ [])) 256 k, lt-ltb (value (bytes 4 c.inside)) 64 n)

module _ (l : List ℕ) (i : ℕ) (c : Cell) (q : List ℕ) (e : drop (32 * i) l ≡ encode_cell c ++ q) (s : Small c) where
  pub cell-read : cell_at l i ≡ c
  cell-read = cell-drop l i ∙ ap cell_of e ∙ cell-here c q s

  pub clean-read : clean_at l i ≡ true
  clean-read = clean_drop l i ∙ ap (λ (m : List ℕ). ltb (number 4 m 0) 256 && ltb (number 4 m 4) 64) e ∙ clean-here c q s

-- ---- what was read is written

byte-alone : (v : ℕ) → v < 256 → bytes 4 v ≡ v ∷ 0 ∷ 0 ∷ 0 ∷ []
unfolding bytes
byte-alone v h =
    let a : v % 256 ≡ v = omega arith in
    let z : v / 256 ≡ 0 = omega arith in
    rw (a, z)

part-alone : (l : List ℕ) (at : ℕ) → at + 4 ≤ length l → number 4 l at < 256 → part at 4 l ≡ get_or l at 0 ∷ 0 ∷ 0 ∷ 0 ∷ []
part-alone l at h s =
    let e = number-four l at h in
    let x : get_or l (at + 1) 0 ≡ 0 = omega arith in
    let y : get_or l (at + 2) 0 ≡ 0 = omega arith in
    let z : get_or l (at + 3) 0 ≡ 0 = omega arith in
    part-four l at h ∙ rw (x, y, z)

pub part-join' : (l : List ℕ) (at m at' n k : ℕ) → at + m ≡ at' → m + n ≡ k → part at m l ++ part at' n l ≡ part at k l
part-join' l at m at' n k p q = rw (← p, ← q) (part_join at m n l)

pub cell-part : (l : List ℕ) → Bytes l → (i : ℕ) → 32 * i + 32 ≤ length l → clean_at l i ≡ true → encode_cell (cell_at l i) ≡ part (32 * i) 32 l
unfolding encode_cell
cell-part l b i h c =
    let m : ℕ = 32 * i in
    let k = ltb-true (number 4 l m) 256 (and_left (ltb (number 4 l m) 256) (ltb (number 4 l (m + 4)) 64) c) in
    let n = ltb-true (number 4 l (m + 4)) 64 (and_right (ltb (number 4 l m) 256) (ltb (number 4 l (m + 4)) 64) c) in
    let e = number-four l (m + 4) (omega arith) in
    ap₂ ◌++◌ (sym (part-alone l m (omega arith) k))
    (ap₂ ◌++◌
    (ap₂ ◌++◌
    (ap₂ ◌++◌ (byte-alone (get_or l (m + 4) 0) (omega arith) ∙ sym (part-alone l (m + 4) (omega arith) (omega arith))) (bytes-number 8 l b (m + 8) (omega arith))
    ∙ part-join' l (m + 4) 4 (m + 8) 8 12 (omega arith) refl)
    (bytes-number 8 l b (m + 16) (omega arith))
    ∙ part-join' l (m + 4) 12 (m + 16) 8 20 (omega arith) refl)
    (bytes-number 8 l b (m + 24) (omega arith))
    ∙ part-join' l (m + 4) 20 (m + 24) 8 28 (omega arith) refl)
    ∙ part-join' l m 4 (m + 4) 28 32 refl refl

pub bits_at : (l : List ℕ) → Bytes l → (i : ℕ) → 32 * i + 32 ≤ length l → Bits (cell_at l i)
bits_at l b i h =
    record { num = number-below 8 l b (32 * i + 8) (omega arith); re = number-below 8 l b (32 * i + 16) (omega arith); im = number-below 8 l b (32 * i + 24) (omega arith) }

-- ---- a cell that is stored

sets_then : (l q s : List ℕ) (at at' : ℕ) → at + length l ≡ at' → sets s at (l ++ q) ≡ sets (sets s at l) at' q
sets_then l q s at at' e = sets-append l q s at ∙ ap (λ (k : ℕ). sets (sets s at l) k q) e

-- one part after the other
pub stored : (s₀ s₁ s₂ s₃ s₄ s₅ : List ℕ) (m : ℕ) (c : Cell) → c.kind < 256
    → s₁ ≡ sets s₀ m (bytes 4 c.kind)
    → s₂ ≡ sets s₁ (m + 4) (bytes 4 c.inside)
    → s₃ ≡ sets s₂ (m + 8) (bytes 8 c.num)
    → s₄ ≡ sets s₃ (m + 16) (bytes 8 c.re)
    → s₅ ≡ sets s₄ (m + 24) (bytes 8 c.im)
    → s₅ ≡ sets s₀ m (encode_cell c)
unfolding encode_cell
stored s₀ s₁ s₂ s₃ s₄ s₅ m c h e₁ e₂ e₃ e₄ e₅ =
    let k : List ℕ = c.kind ∷ 0 ∷ 0 ∷ 0 ∷ [] in
    let i : List ℕ = bytes 4 c.inside in
    let n : List ℕ = bytes 8 c.num in
    let x : List ℕ = bytes 8 c.re in
    let y : List ℕ = bytes 8 c.im in
    let d : length (i ++ n ++ x) ≡ 20 = simp (length-append, length-bytes) in
    let f : length (i ++ n) ≡ 12 = simp (length-append, length-bytes) in
    let f₁ : s₁ ≡ sets s₀ m k = e₁ ∙ ap (sets s₀ m) (byte-alone c.kind h) in
    sym
    (sets_then k (i ++ n ++ x ++ y) s₀ m (m + 4) refl
    ∙ rw (← f₁)
    (sets_then (i ++ n ++ x) y s₁ (m + 4) (m + 24) (omega arith)
    ∙ rw (sets_then (i ++ n) x s₁ (m + 4) (m + 16) (omega arith), sets_then i n s₁ (m + 4) (m + 8) (omega (arith, length-bytes 4 c.inside)), ← e₂, ← e₃, ← e₄, ← e₅)))

-- ---- entries

-- the bits of finite numbers are those that were read
pub encoded-decoded : (c : Cell) → Bits c → Plain (decoded c) → encoded (decoded c) ≡ c
encoded-decoded c b p =
    rw
    (to_bits-of_bits binary64 c.num b.num (no_nan _ p.num), to_bits-of_bits binary64 c.re b.re (no_nan _ p.re), to_bits-of_bits binary64 c.im b.im (no_nan _ p.im))

module _ {k : ℕ} {p : Float} {i : Sum} {c : Complex} (g : GoodEntry k p i c) where
  pub good-fitting : Fitting (entry k (size i) p c)
  good-fitting = record {
    num = and_r (finite p) (fits binary64 p) g.number;
    re = and_r (finite c.re) (fits binary64 c.re) g.re;
    im = and_r (finite c.im)
        (fits binary64 c.im) g.im;
  }

  pub good-small : size i < 64 → Small (encoded (entry k (size i) p c))
  good-small h =
      let f = good-fitting in
      record { kind = omega (arith, g.most); inside = h; bits = record { num = to_bits-lt binary64 p f.num; re = to_bits-lt binary64 c.re f.re; im = to_bits-lt binary64 c.im f.im } }
