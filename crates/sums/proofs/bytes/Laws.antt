-- Sums and their bytes: how many there are, that they are bytes, and that no two good sums have the same. What lies in cells is what was encoded, and
-- what is encoded is what lies in cells. Assumes nothing.
use mathlib.Core.Path.{◌≡◌, refl, ap, ap₂, ◌∙◌, sym, subst}
use mathlib.Core.Bool.{true}
use mathlib.Core.Logic.{⊎_elim}
use mathlib.Core.List.{List, [], ◌∷◌, ◌++◌, append_assoc, append-nil}
use Prim.Native.Nat.{ℕ, zero, suc, ◌+◌, ◌-◌, ◌*◌, ◌/◌, ◌≤◌, ◌<◌}
use native.Mathlib.Omega.{arith}
use native.Mathlib.Nat.{eq-or-lt_of_le}
use native.Mathlib.Decide.{dec_le, ℕ_discrete}
use lib.Ieee.{Float}
use lib.ListN.{length, drop, length-append}
use lib.Seq.{drop-drop, drop-append_seam, sets}
use Rattle.numbers.specs.declared.complex.Complex.{Complex}
use Rattle.cells.specs.declared.Entry.{Entry}
use Rattle.cells.specs.Bits.{Cell, decoded, encoded, Plain}
use Rattle.cells.proofs.Bits.{decoded-encoded}
use Rattle.cells.specs.Contract.Book as book
use Rattle.cells.specs.Contract.Book.{Book, cell}
use Rattle.sums.specs.Tree.Sums.{Sum, none, and, size, entry}
use Rattle.sums.specs.Tree.Good.{Good}
use Rattle.sums.specs.Contract.Lies.{At, Lies}
use Rattle.sums.proofs.order.Walk.{plain_of}
use Rattle.formats.specs.Bytes.{bytes, part, Bytes}
use Rattle.formats.proofs.record.Bytes.{sets-append}
use Rattle.sums.specs.Entry.Encoding.{encode_cell, encode_entry, encode_sum}
use Rattle.sums.specs.Entry.Contract.Steps.{clean_at, cell_at}
use Rattle.sums.specs.Contract.Steps.{five}
use Rattle.sums.proofs.entry.Codes.{length-cell, Bits, cell-read, clean-read, cell-part, part-join', encoded-decoded, good-fitting, good-small}

-- a cell of a book stands for the entry that its five numbers do, and an entry's cell has the entry's bytes
pub same-entry : (c : book.Cell) → decoded (five c) ≡ book.decoded c
same-entry c = refl

pub same_bytes : (x : Entry) → encode_cell (five (book.encoded x)) ≡ encode_entry x
same_bytes x = refl

encode-and : (k : ℕ) (p : Float) (t : Sum) (c : Complex) (r : Sum) → encode_sum (and k p t c r) ≡ encode_entry (entry k (size t) p c) ++ (encode_sum t ++ encode_sum r)
unfolding encode_sum
encode-and k p t c r = append_assoc (encode_entry (entry k (size t) p c)) (encode_sum t) (encode_sum r)

pub length-sum : (s : Sum) → length (encode_sum s) ≡ 32 * size s
unfolding encode_sum size
length-sum none = refl
length-sum (and k p t c r) = ap length (encode-and k p t c r) ∙ simp (length-append, length-cell) (omega (arith, length-sum t, length-sum r))

-- ---- every byte is one

bytes-append : (l m : List ℕ) → Bytes l → Bytes m → Bytes (l ++ m)
bytes-append [] m b d i = d i
bytes-append (x ∷ l) m b d zero = b 0
bytes-append (x ∷ l) m b d (suc i) = bytes-append l m (λ j. b (suc j)) d i

bytes-bytes : (n v : ℕ) → Bytes (bytes n v)
unfolding bytes
bytes-bytes zero v i = omega arith
bytes-bytes (suc n) v zero = omega arith
bytes-bytes (suc n) v (suc i) = bytes-bytes n (v / 256) i

bytes-none : Bytes []
bytes-none i = omega arith

bytes_one : (x : ℕ) (l : List ℕ) → x < 256 → Bytes l → Bytes (x ∷ l)
bytes_one x l h b zero = h
bytes_one x l h b (suc i) = b i

bytes-cell : (c : Cell) → c.kind < 256 → Bytes (encode_cell c)
unfolding encode_cell
bytes-cell c h =
    let i : List ℕ = bytes 4 c.inside in
    let n : List ℕ = bytes 8 c.num in
    let r : List ℕ = bytes 8 c.re in
    let m : List ℕ = bytes 8 c.im in
    let two : Bytes (i ++ n) = bytes-append i n (bytes-bytes 4 c.inside) (bytes-bytes 8 c.num) in
    let three : Bytes (i ++ n ++ r) = bytes-append (i ++ n) r two (bytes-bytes 8 c.re) in
    let numbers : Bytes (i ++ n ++ r ++ m) = bytes-append (i ++ n ++ r) m three (bytes-bytes 8 c.im) in
    let z : 0 < 256 = omega arith in
    bytes_one c.kind (0 ∷ 0 ∷ 0 ∷ (i ++ n ++ r ++ m)) h (bytes_one 0 (0 ∷ 0 ∷ (i ++ n ++ r ++ m)) z (bytes_one 0 (0 ∷ (i ++ n ++ r ++ m)) z (bytes_one 0 (i ++ n ++ r ++ m) z numbers)))

pub bytes-sum : (left : ℕ) (s : Sum) → Good left s → Bytes (encode_sum s)
unfolding encode_sum Good
bytes-sum left none g = bytes-none
bytes-sum zero (and k p t c r) g = absurd g
bytes-sum (suc left) (and k p t c r) g =
    let x = encode_entry (entry k (size t) p c) in
    let head = bytes-cell (encoded (entry k (size t) p c)) (omega (arith, g.0.most)) in
    bytes-append (x ++ encode_sum t) (encode_sum r) (bytes-append x (encode_sum t) head (bytes-sum left t g.1)) (bytes-sum (suc left) r g.3)

-- ---- the bytes of n cells from i on

-- the five numbers at each place of a book
abbrev pub fives : Book → ℕ → Cell
fives b k = five (cell b k)

unfoldable pub cell_bytes : (ℕ → Cell) → ℕ → ℕ → List ℕ
cell_bytes f i zero = []
cell_bytes f i (suc n) = encode_cell (f i) ++ cell_bytes f (i + 1) n

pub length-cells : (f : ℕ → Cell) (i n : ℕ) → length (cell_bytes f i n) ≡ 32 * n
unfolding cell_bytes
length-cells f i zero = refl
length-cells f i (suc n) = simp (length-append, length-cell) (omega (arith, length-cells f (i + 1) n))

cells-join : (f : ℕ → Cell) (i m n : ℕ) → cell_bytes f i (m + n) ≡ cell_bytes f i m ++ cell_bytes f (i + m) n
unfolding cell_bytes
cells-join f i zero n =
    let p : i ≡ i + 0 = omega arith in
    let q : 0 + n ≡ n = omega arith in
    ap₂ (cell_bytes f) p q
cells-join f i (suc m) n =
    let e : suc m + n ≡ suc (m + n) = omega arith in
    let d : i + 1 + m ≡ i + suc m = omega arith in
    ap (cell_bytes f i) e
    ∙ ap (λ (q : List ℕ). encode_cell (f i) ++ q) (cells-join f (i + 1) m n ∙ ap (λ (a : ℕ). cell_bytes f (i + 1) m ++ cell_bytes f a n) d)
    ∙ sym (append_assoc (encode_cell (f i)) (cell_bytes f (i + 1) m) (cell_bytes f (i + suc m) n))

cells-one : (f : ℕ → Cell) (i : ℕ) → cell_bytes f i 1 ≡ encode_cell (f i)
unfolding cell_bytes
cells-one f i = append-nil (encode_cell (f i))

-- one more at the end
pub cells-more : (f : ℕ → Cell) (i n : ℕ) → cell_bytes f i (n + 1) ≡ cell_bytes f i n ++ encode_cell (f (i + n))
cells-more f i n = cells-join f i n 1 ∙ ap (λ (q : List ℕ). cell_bytes f i n ++ q) (cells-one f (i + n))

pub cells_same : (f g : ℕ → Cell) (i n : ℕ) → ((j : ℕ) → i ≤ j → j < i + n → f j ≡ g j) → cell_bytes f i n ≡ cell_bytes g i n
unfolding cell_bytes
cells_same f g i zero h = refl
cells_same f g i (suc n) h = ap₂ ◌++◌ (ap encode_cell (h i (omega arith) (omega arith))) (cells_same f g (i + 1) n (λ j p q. h j (omega arith) (omega arith)))

-- clean entries that were read are the bytes
pub cells-part : (l : List ℕ) → Bytes l → (i n : ℕ) → 32 * (i + n) ≤ length l → ((j : ℕ) → i ≤ j → j < i + n → clean_at l j ≡ true) → cell_bytes (cell_at l) i n ≡ part (32 * i) (32 * n) l
unfolding cell_bytes
cells-part l b i zero h c = refl
cells-part l b i (suc n) h c =
    ap₂ ◌++◌ (cell-part l b i (omega arith) (c i (omega arith) (omega arith))) (cells-part l b (i + 1) n (omega arith) (λ j p q. c j (omega arith) (omega arith)))
    ∙ part-join' l (32 * i) 32 (32 * (i + 1)) (32 * n) (32 * suc n) (omega arith) (omega arith)

-- ---- what lies in cells, encoded

pub encode-laid : (f : ℕ → Cell) (left i : ℕ) (s : Sum) → ((j : ℕ) → i ≤ j → j < i + size s → Bits (f j)) → At (λ j. decoded (f j)) i s → Good left s → encode_sum s ≡ cell_bytes f i (size s)
unfolding At Good size encode_sum cell_bytes
encode-laid f left i none b a g = refl
encode-laid f zero i (and k p t c r) b a g = absurd g
encode-laid f (suc left) i (and k p t c r) b a g =
    let q = plain_of (size t) g.0 in
    let plain : Plain (decoded (f i)) = subst Plain (sym a.0) record { num = q.num; re = q.re; im = q.im } in
    let here : encoded (entry k (size t) p c) ≡ f i = ap encoded (sym a.0) ∙ encoded-decoded (f i) (b i (omega arith) (omega arith)) plain in
    let inner = encode-laid f left (i + 1) t (λ j u v. b j (omega arith) (omega arith)) a.1 g.1 in
    let rest = encode-laid f (suc left) (i + 1 + size t) r (λ j u v. b j (omega arith) (omega arith)) a.2 g.3 in
    encode-and k p t c r
    ∙ ap₂ ◌++◌ (ap encode_cell here)
    (ap₂ ◌++◌ inner rest
    ∙ sym (cells-join f (i + 1) (size t) (size r)))

-- ---- cells written one after the other

pub put-none : (f : ℕ → Cell) (i : ℕ) (s : List ℕ) → s ≡ sets s 0 (cell_bytes f i 0)
unfolding cell_bytes
put-none f i s = refl

pub put-more : (f : ℕ → Cell) (i j : ℕ) (s₀ s s' : List ℕ) → s ≡ sets s₀ 0 (cell_bytes f i j) → s' ≡ sets s (32 * j) (encode_cell (f (i + j))) → s' ≡ sets s₀ 0 (cell_bytes f i (j + 1))
put-more f i j s₀ s s' p q =
    let e : 0 + length (cell_bytes f i j) ≡ 32 * j = omega (arith, length-cells f i j) in
    q ∙ rw (p, cells-more f i j, sets-append (cell_bytes f i j) (encode_cell (f (i + j))) s₀ 0, e)

-- the words of the cells passed are below 2^64
pub bits_none : (f : ℕ → Cell) (i k : ℕ) → k < 0 → Bits (f (i + k))
bits_none f i k h = absurd (omega arith)

pub bits-more : (f : ℕ → Cell) (i j : ℕ) → ((k : ℕ) → k < j → Bits (f (i + k))) → Bits (f (i + j)) → (k : ℕ) → k < j + 1 → Bits (f (i + k))
bits-more f i j all next k h = elim (ℕ_discrete k j) [ yes e ↦ rw e next | no e ↦ all k (omega (arith, e)) ]

-- the sum that lies there is written
pub put_all : (b : Book) (i n j left : ℕ) (s₀ s : List ℕ) → s ≡ sets s₀ 0 (cell_bytes (fives b) i j) → j ≤ n → n ≤ j → ((k : ℕ) → k < j → Bits (fives b (i + k)))
    → (u : Sum) → Lies b i (i + n) left u → s ≡ sets s₀ 0 (encode_sum u)
put_all b i n j left s₀ s p lo hi bits u w =
    let ends = w.ends in
    let e : j ≡ size u = omega arith in
    let all : (k : ℕ) → i ≤ k → k < i + size u → Bits (fives b k) = λ k x y. subst (λ (a : ℕ). Bits (fives b a)) (omega arith) (bits (k - i) (omega arith)) in
    p ∙ ap (sets s₀ 0) (ap (cell_bytes (fives b) i) e ∙ sym (encode-laid (fives b) left i u all w.laid w.good))

-- ---- what was encoded, read

drop-next : (l m q : List ℕ) (a b : ℕ) → drop a l ≡ m ++ q → a + length m ≡ b → drop b l ≡ q
drop-next l m q a b e h = ap (λ (k : ℕ). drop k l) (sym h) ∙ sym (drop-drop (length m) a l) ∙ ap (drop (length m)) e ∙ drop-append_seam m q

-- an entry that is encoded from place i on, its inside, and the rest
record Parts (l : List ℕ) (i : ℕ) (k : ℕ) (p : Float) (t : Sum) (c : Complex) (r : Sum) (q : List ℕ) : Type 0 where
  here : drop (32 * i) l ≡ encode_entry (entry k (size t) p c) ++ (encode_sum t ++ (encode_sum r ++ q))
  inner : drop (32 * (i + 1)) l ≡ encode_sum t ++ (encode_sum r ++ q)
  rest : drop (32 * (i + 1 + size t)) l ≡ encode_sum r ++ q

parts : (l : List ℕ) (i k : ℕ) (p : Float) (t : Sum) (c : Complex) (r : Sum) (q : List ℕ) → drop (32 * i) l ≡ encode_sum (and k p t c r) ++ q → Parts l i k p t c r q
parts l i k p t c r q h =
    let x = encoded (entry k (size t) p c) in
    let after = ap (λ (m : List ℕ). encode_cell x ++ m) (append_assoc (encode_sum t) (encode_sum r) q) in
    let e = h ∙ ap (λ (m : List ℕ). m ++ q) (encode-and k p t c r) ∙ append_assoc (encode_cell x) (encode_sum t ++ encode_sum r) q ∙ after in
    let d = drop-next l (encode_cell x) (encode_sum t ++ (encode_sum r ++ q)) (32 * i) (32 * (i + 1)) e (omega (arith, length-cell x)) in
    record { here = e; inner = d; rest = drop-next l (encode_sum t) (encode_sum r ++ q) (32 * (i + 1)) (32 * (i + 1 + size t)) d (omega (arith, length-sum t)) }

pub laid_of : (l : List ℕ) (left i : ℕ) (s : Sum) (q : List ℕ) → drop (32 * i) l ≡ encode_sum s ++ q → Good left s → size s ≤ 64 → At (λ j. decoded (cell_at l j)) i s
unfolding At Good size
laid_of l left i none q h g n = tt
laid_of l zero i (and k p t c r) q h g n = absurd g
laid_of l (suc left) i (and k p t c r) q h g n =
    let s = parts l i k p t c r q h in
    let x = entry k (size t) p c in (
      ap decoded (cell-read l i (encoded x) (encode_sum t ++ (encode_sum r ++ q)) s.here (good-small g.0 (omega arith))) ∙ decoded-encoded x (good-fitting g.0),
      laid_of l left (i + 1) t (encode_sum r ++ q) s.inner g.1 (omega arith),
      laid_of l (suc left) (i + 1 + size t) r q s.rest g.3 (omega arith),
    )

pub clean_of : (l : List ℕ) (left i : ℕ) (s : Sum) (q : List ℕ) → drop (32 * i) l ≡ encode_sum s ++ q → Good left s → size s ≤ 64 → (j : ℕ) → i ≤ j → j < i + size s → clean_at l j ≡ true
unfolding Good size
clean_of l left i none q h g n j lo hi = absurd (omega arith)
clean_of l zero i (and k p t c r) q h g n j lo hi = absurd g
clean_of l (suc left) i (and k p t c r) q h g n j lo hi =
    let s = parts l i k p t c r q h in
    ⊎_elim (λ e. subst (λ (j : ℕ). clean_at l j ≡ true) e (clean-read l i (encoded (entry k (size t) p c)) (encode_sum t ++ (encode_sum r ++ q)) s.here (good-small g.0 (omega arith))))
    (λ m.
    elim (dec_le (i + 1 + size t) j) [
      | yes u ↦ clean_of l (suc left) (i + 1 + size t) r q s.rest g.3 (omega arith) j u (omega arith)
      | no u ↦ clean_of l left (i + 1) t (encode_sum r ++ q) s.inner g.1 (omega arith) j (omega arith) (omega arith)
    ])
    (eq-or-lt_of_le lo)

-- ---- no two sums

-- the entries tell the sum, where they tell how many it has
pub at-unique : (f : ℕ → Entry) (i : ℕ) (s t : Sum) → At f i s → At f i t → size s ≡ size t → s ≡ t
unfolding At size
at-unique f i none none a b e = refl
at-unique f i none (and k p j c r) a b e = absurd (omega arith)
at-unique f i (and k p j c r) none a b e = absurd (omega arith)
at-unique f i (and k p j c r) (and k' p' j' c' r') a b e =
    let x : entry k (size j) p c ≡ entry k' (size j') p' c' = sym a.0 ∙ b.0 in
    let n : size j ≡ size j' = ap (λ (y : Entry). y.inside) x in
    let inner : j ≡ j' = at-unique f (i + 1) j j' a.1 b.1 n in
    let rest : r ≡ r' = at-unique f (i + 1 + size j) r r' a.2 (rw n b.2) (omega arith) in
    let kind : k ≡ k' = ap (λ (y : Entry). y.kind) x in
    let num : p ≡ p' = ap (λ (y : Entry). y.num) x in
    let coef : c ≡ c' = ap (λ (y : Entry). y.coef) x in
    cc

pub encode-unique : (m n : ℕ) (s t : Sum) → Good m s → Good n t → size s ≤ 64 → encode_sum s ≡ encode_sum t → s ≡ t
encode-unique m n s t g h few e =
    let l = encode_sum s in
    let same : size s ≡ size t = omega (arith, length-sum s, length-sum t, ap length e) in
    at-unique (λ j. decoded (cell_at l j)) 0 s t (laid_of l m 0 s [] (sym (append-nil l)) g few) (laid_of l n 0 t [] (e ∙ sym (append-nil (encode_sum t))) h (omega arith)) same
