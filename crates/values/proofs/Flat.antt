-- Sums of nothing but powers of x, one entry after the other: that they are good, and whose bytes they are. Assumes nothing.
use Prim.Native.Nat.{ℕ, zero, suc, ◌+◌, ◌*◌, ◌≤◌, ◌<◌}
use native.Mathlib.Omega.{arith}
use mathlib.Core.Path.{◌≡◌, refl, sym, ap, subst, ◌∙◌}
use mathlib.Core.Bool.{Bool, true, ◌&&◌, true≢false}
use mathlib.Core.List.{List}
use borrow.Author.Tests.{eqb-true}
use lib.Dec.{T, eqb}
use lib.ListN.{length, get_or}
use lib.Seq.{take_all}
use lib.Ieee.{Float, binary64, fits, lt, of_bits}
use lib.Ieee.Bits.{of_bits-fits}
use lib.Ieee.Fits.{and_i}
use lib.Ieee.Scale.{finite}
use Rattle.numbers.proofs.Bools.{T_of}
use Rattle.numbers.specs.Complex.Arith as complex
use Rattle.numbers.specs.Order.{cmp_num, and_then}
use Rattle.std.specs.declared.cmp.Ordering.TheVariants.{Less, Equal}
use Rattle.numbers.proofs.Order.{cmp-less, then_equal}
use Rattle.formats.specs.Bytes.{Bytes, number}
use Rattle.formats.proofs.record.Bytes.{number-four, number-eight}
use Rattle.formats.proofs.record.Shapes.{and_left, and_right}
use Rattle.cells.specs.declared.Entry.{Entry}
use Rattle.sums.specs.Tree.Kinds.{X, has_number}
use Rattle.sums.specs.Tree.Sums.{Sum, none, and, size, len, entry}
use Rattle.sums.specs.Tree.Order.{cmp_each, cmp_term}
use Rattle.sums.specs.Tree.Good.{is_number, GoodEntry, Before, Good}
use Rattle.sums.specs.Contract.Lies.{At}
use Rattle.sums.specs.Entry.Encoding.{encode_sum}
use Rattle.sums.specs.Entry.Contract.Steps.{clean_at, cell_at}
use Rattle.sums.proofs.entry.Codes.{bits_at}
use Rattle.sums.proofs.bytes.Laws.{cell_bytes, cells-part, encode-laid}
use Rattle.values.specs.Contract.Powers.{entry_at, PowerAt}

-- m entries from place i on, with nothing inside
unfoldable pub flat : (ℕ → Entry) → ℕ → ℕ → Sum
flat f i zero = none
flat f i (suc m) = and (f i).kind (f i).num none (f i).coef (flat f (i + 1) m)

pub flat-size : (f : ℕ → Entry) (i m : ℕ) → size (flat f i m) ≡ m
unfolding flat size
flat-size f i zero = refl
flat-size f i (suc m) = omega (arith, flat-size f (i + 1) m)

-- a power of x with nothing inside
pub record IsPower (e : Entry) : Type 0 where
  pub kind : e.kind ≡ X
  pub inside : e.inside ≡ 0
  pub num : T (is_number e.num)
  pub re : T (is_number e.coef.re)
  pub im : T (is_number e.coef.im)

flat-at : (f : ℕ → Entry) (i m : ℕ) → ((j : ℕ) → i ≤ j → j < i + m → IsPower (f j)) → At f i (flat f i m)
unfolding flat At size
flat-at f i zero h = tt
flat-at f i (suc m) h =
    let here : i + 1 ≡ i + 1 + 0 = omega arith in
    let e : Entry = f i in (
      ap (λ (n : ℕ). entry e.kind n e.num e.coef) (h i (omega arith) (omega arith)).inside,
      tt,
      subst (λ (k : ℕ). At f k (flat f (i + 1) m)) here (flat-at f (i + 1) m (λ j p q. h j (omega arith) (omega arith))),
    )

-- ---- that they are good

entry-good : (e : Entry) → IsPower e → GoodEntry e.kind e.num none e.coef
entry-good e h =
    let has : has_number e.kind ≡ true = ap has_number h.kind in
    let kind = h.kind in
    record {
      least = omega arith;
      most = omega arith;
      number = h.num;
      none_else = λ n. absurd (true≢false (sym has ∙ n));
      re = h.re;
      im = h.im;
      inside = sym (ap (λ (k : ℕ). eqb k X) h.kind);
    }

-- a power comes before a higher one
before-next : (k l : ℕ) (p q : Float) → k ≡ X → l ≡ X → lt p q ≡ true → cmp_term (entry k (size none) p complex.zero) none (entry l (size none) q complex.zero) none ≡ Less
unfolding cmp_each len size
before-next k l p q ek el h = rw (ek, el) (then_equal (cmp_num p q) ∙ (cmp-less p q).1 h)

before-flat : (f : ℕ → Entry) (i m : ℕ) → ((j : ℕ) → i ≤ j → j < i + suc m → IsPower (f j))
    → ((j : ℕ) → i ≤ j → j + 1 < i + suc m → lt (f j).num (f (j + 1)).num ≡ true)
    → Before (f i).kind (f i).num none (flat f (i + 1) m)
unfolding flat
before-flat f i zero h up = tt
before-flat f i (suc m) h up =
    before-next (f i).kind (f (i + 1)).kind (f i).num (f (i + 1)).num (h i (omega arith) (omega arith)).kind (h (i + 1) (omega arith) (omega arith)).kind (up i (omega arith) (omega arith))

pub flat_good : (f : ℕ → Entry) (left i m : ℕ) → ((j : ℕ) → i ≤ j → j < i + m → IsPower (f j))
    → ((j : ℕ) → i ≤ j → j + 1 < i + m → lt (f j).num (f (j + 1)).num ≡ true)
    → Good (suc left) (flat f i m)
unfolding flat Good
flat_good f left i zero h up = tt
flat_good f left i (suc m) h up = (
  entry-good (f i) (h i (omega arith) (omega arith)),
  tt,
  before-flat f i m h up,
  flat_good f left (i + 1) m (λ j p q. h j (omega arith) (omega arith)) (λ j p q. up j (omega arith) (omega arith)),
)

-- ---- whose bytes they are

module _ (l : List ℕ) (bs : Bytes l) (i : ℕ) (room : 32 * i + 32 ≤ length l) (p : PowerAt l i) where
  -- the first word, as two halves and byte by byte
  first-half : number 4 l (32 * i) ≡ 1
  first-half = omega (arith, p.head, number-eight l (32 * i) (omega arith))

  second-half : number 4 l (32 * i + 4) ≡ 0
  second-half = omega (arith, p.head, number-eight l (32 * i) (omega arith))

  number_of : (b : ℕ) → finite (of_bits binary64 b) ≡ true → T (is_number (of_bits binary64 b))
  number_of b h = and_i (finite (of_bits binary64 b)) (fits binary64 (of_bits binary64 b)) (T_of h) (of_bits-fits binary64 b)

  pub power-entry : IsPower (entry_at l i)
  power-entry = record {
    kind = omega (arith, first-half, number-four l (32 * i) (omega arith));
    inside = omega (arith, second-half, number-four l (32 * i + 4) (omega arith));
    num = number_of (number 8 l (32 * i + 8)) p.num;
    re = number_of (number 8 l (32 * i + 16)) p.re;
    im = number_of (number 8 l (32 * i + 24)) p.im;
  }

  power-clean : clean_at l i ≡ true
  power-clean = rw (first-half, second-half) refl

  -- the entry that its words make
  pub power-is : {n r m : ℕ} → n ≡ number 8 l (32 * i + 8) → r ≡ number 8 l (32 * i + 16) → m ≡ number 8 l (32 * i + 24)
      → entry X 0 (of_bits binary64 n) record { re = of_bits binary64 r; im = of_bits binary64 m } ≡ entry_at l i
  power-is en er em =
      let e : Entry = entry_at l i in
      let c = e.coef in
      rw (en, er, em) (ap (λ (k : ℕ). entry k 0 e.num c) (sym power-entry.kind) ∙ ap (λ (j : ℕ). entry e.kind j e.num c) (sym power-entry.inside))

-- what four words tell
pub power-told : (l : List ℕ) (i : ℕ) {h n r m : ℕ} {a b c : Bool} → h ≡ number 8 l (32 * i) → n ≡ number 8 l (32 * i + 8)
    → r ≡ number 8 l (32 * i + 16) → m ≡ number 8 l (32 * i + 24)
    → a ≡ finite (of_bits binary64 n) → b ≡ finite (of_bits binary64 r) → c ≡ finite (of_bits binary64 m) → (eqb h 1 && (a && b && c)) ≡ true → PowerAt l i
power-told l i {h} {n} {r} {m} {a} {b} {c} eh en er em fn fr fm t =
    let plain = and_right (eqb h 1) (a && b && c) t in
    let both = and_left (a && b) c plain in
    let is_finite : ℕ → Bool = λ w. finite (of_bits binary64 w) in
    record {
      head = sym eh ∙ eqb-true h 1 (and_left (eqb h 1) (a && b && c) t);
      num = ap is_finite (sym en) ∙ sym fn ∙ and_left a b both;
      re = ap is_finite (sym er) ∙ sym fr ∙ and_right a b both;
      im = ap is_finite (sym em) ∙ sym fm ∙ and_right (a && b) c plain;
    }

-- the bytes are n powers, each above the one before it
module _ (l : List ℕ) (n : ℕ) (bs : Bytes l) (room : 32 * n ≤ length l) (all : (j : ℕ) → j < n → PowerAt l j)
    (up : (j : ℕ) → j + 1 < n → lt (entry_at l j).num (entry_at l (j + 1)).num ≡ true) where
  each : (j : ℕ) → 0 ≤ j → j < 0 + n → IsPower (entry_at l j)
  each j p q = power-entry l bs j (omega arith) (all j (omega arith))

  pub powers-good : Good 4 (flat (entry_at l) 0 n)
  powers-good = flat_good (entry_at l) 3 0 n each (λ j p q. up j (omega arith))

  pub powers-encode : length l ≡ 32 * n → encode_sum (flat (entry_at l) 0 n) ≡ l
  powers-encode long =
      let s = flat (entry_at l) 0 n in
      let sized : size s ≡ n = flat-size (entry_at l) 0 n in
      encode-laid (cell_at l) 4 0 s (λ j u v. bits_at l bs j (omega arith)) (flat-at (entry_at l) 0 n each) powers-good
      ∙ ap (cell_bytes (cell_at l) 0) sized
      ∙ cells-part l bs 0 n (omega arith) (λ j u v. power-clean l bs j (omega arith) (all j (omega arith)))
      ∙ take_all (32 * n) l (omega arith)
