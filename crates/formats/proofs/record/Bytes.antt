-- Numbers and their bytes, and parts of lists. Assumes nothing.
use mathlib.Core.Path.{◌≡◌, refl, ap, ap₂, ◌∙◌, sym}
use mathlib.Core.List.{List, [], ◌∷◌, ◌++◌, append_assoc}
use Prim.Native.Nat.{ℕ, zero, suc, ◌+◌, ◌*◌, ◌/◌, ◌%◌, ◌^◌, ◌≤◌, ◌<◌}
use native.Mathlib.Omega.{arith}
use native.Mathlib.Nat.{add-zero, pow-succ'}
use lib.ListN.{length, get_or, set, take, drop, length-take, length-drop, length-append}
use lib.Seq.{take-add, drop-drop, get_or-drop, drop-cons, take_at, drop_at, sets, sets-eq, length-take-le}
use borrow.Rule.Slice.PartMut.{put_mid}
use Rattle.std.specs.Int.{w32, w64, to_le_bytes}
use Rattle.formats.specs.Bytes.{value, bytes, part, number, Bytes}

-- ---- parts

pub length_part : {A : Type 0} (at n : ℕ) (s : List A) → at + n ≤ length s → length (part at n s) ≡ n
length_part at n s h = simp (length-take, length-drop) (omega arith)

-- two parts side by side
pub part_join : {A : Type 0} (at m n : ℕ) (s : List A) → part at m s ++ part (at + m) n s ≡ part at (m + n) s
part_join at m n s = rw (take-add, drop-drop)

pub part_bytes : (at n : ℕ) (s : List ℕ) → Bytes s → Bytes (part at n s)
part_bytes at zero s b i = omega arith
part_bytes at (suc n) s b i = within (drop at s) (suc n) (λ j. rw get_or-drop (b (at + j))) i
  where
    within : (l : List ℕ) (m : ℕ) → Bytes l → Bytes (take m l)
    within l zero c i = omega arith
    within [] (suc m) c i = omega arith
    within (x ∷ l) (suc m) c zero = c 0
    within (x ∷ l) (suc m) c (suc i) = within l m (λ j. c (suc j)) i

-- ---- numbers

pub length-bytes : (n v : ℕ) → length (bytes n v) ≡ n
unfolding bytes
length-bytes zero v = refl
length-bytes (suc n) v = ap suc (length-bytes n (v / 256))

-- what was written is read
pub value-bytes : (n v : ℕ) → v < 256 ^ n → value (bytes n v) ≡ v
unfolding value bytes
value-bytes zero v h = omega arith
value-bytes (suc n) v h =
    let k : v < 256 * 256 ^ n = rw pow-succ' at h in
    rw (value-bytes n (v / 256) (omega arith)) (omega arith)

-- what was read is written
pub bytes-value : (l : List ℕ) → Bytes l → bytes (length l) (value l) ≡ l
unfolding value bytes
bytes-value [] b = refl
bytes-value (x ∷ l) b =
    let h : x < 256 = b 0 in
    ap₂ ◌∷◌ (omega arith) (ap (bytes (length l)) (omega arith) ∙ bytes-value l (λ i. b (suc i)))

pub value-below : (l : List ℕ) → Bytes l → value l < 256 ^ length l
unfolding value
value-below [] b = omega arith
value-below (x ∷ l) b = rw pow-succ' (omega (arith, b 0, value-below l (λ i. b (suc i))))

module _ (n : ℕ) (s : List ℕ) (b : Bytes s) (at : ℕ) (h : at + n ≤ length s) where
  pub bytes-number : bytes n (number n s at) ≡ part at n s
  bytes-number = rw (length_part at n s h) at (bytes-value (part at n s) (part_bytes at n s b))

  pub number-below : number n s at < 256 ^ n
  number-below = rw (length_part at n s h) at (value-below (part at n s) (part_bytes at n s b))

-- ---- four bytes and eight, one by one

part-cons : (at n : ℕ) (s : List ℕ) → at < length s → part at (suc n) s ≡ get_or s at 0 ∷ part (suc at) n s
part-cons at n s h = ap (take (suc n)) (drop-cons s at 0 h)

pub part-four : (s : List ℕ) (at : ℕ) → at + 4 ≤ length s → part at 4 s ≡ get_or s at 0 ∷ get_or s (at + 1) 0 ∷ get_or s (at + 2) 0 ∷ get_or s (at + 3) 0 ∷ []
part-four s at h =
    let p : at + 1 ≡ suc at = omega arith in
    let q : at + 2 ≡ suc (suc at) = omega arith in
    let r : at + 3 ≡ suc (suc (suc at)) = omega arith in
    part-cons at 3 s (omega arith)
    ∙ ap (◌∷◌ (get_or s at 0)) (part-cons (suc at) 2 s (omega arith)
    ∙ ap (◌∷◌ (get_or s (suc at) 0)) (part-cons (suc (suc at)) 1 s (omega arith)
    ∙ ap (◌∷◌ (get_or s (suc (suc at)) 0)) (part-cons (suc (suc (suc at))) 0 s (omega arith))))
    ∙ rw (p, q, r)

pub number-four : (s : List ℕ) (at : ℕ) → at + 4 ≤ length s → number 4 s at ≡ get_or s at 0 + 256 * get_or s (at + 1) 0 + 65536 * get_or s (at + 2) 0 + 16777216 * get_or s (at + 3) 0
unfolding value
number-four s at h = ap value (part-four s at h) ∙ omega arith

pub number-eight : (s : List ℕ) (at : ℕ) → at + 8 ≤ length s → number 8 s at ≡ number 4 s at + 4294967296 * number 4 s (at + 4)
unfolding value
number-eight s at h =
    let e = ap value (sym (part_join at 4 4 s) ∙ ap (λ (l : List ℕ). l ++ part (at + 4) 4 s) (part-four s at (omega arith))) in
    e ∙ omega (arith, number-four s at (omega arith))

pub number-by-eight : (s : List ℕ) (at : ℕ) → at + 8 ≤ length s
    → number 8 s at
    ≡ get_or s at 0
    + 256 * get_or s (at + 1) 0
    + 65536 * get_or s (at + 2) 0
    + 16777216 * get_or s (at + 3) 0
    + 4294967296 * get_or s (at + 4) 0
    + 1099511627776 * get_or s (at + 5) 0
    + 281474976710656 * get_or s (at + 6) 0
    + 72057594037927936 * get_or s (at + 7) 0
number-by-eight s at h =
    let p : at + 4 + 1 ≡ at + 5 = omega arith in
    let q : at + 4 + 2 ≡ at + 6 = omega arith in
    let r : at + 4 + 3 ≡ at + 7 = omega arith in
    omega (arith, number-eight s at h, number-four s at (omega arith), rw (p, q, r) at (number-four s (at + 4) (omega arith)))

pub bytes-eight : (v : ℕ) → bytes 8 v ≡ bytes 4 v ++ bytes 4 (v / 4294967296)
unfolding bytes
bytes-eight v = ap (λ (u : ℕ). bytes 4 v ++ bytes 4 u) (omega arith)

-- std's bytes of a number are these
pub bytes-le-four : (v : ℕ) → to_le_bytes w32 (v % 4294967296) ≡ bytes 4 v
unfolding bytes
bytes-le-four v =
    let a : v % 4294967296 % 256 ≡ v % 256 = omega arith in
    let b : v % 4294967296 / 256 % 256 ≡ v / 256 % 256 = omega arith in
    let c : v % 4294967296 / 65536 % 256 ≡ v / 256 / 256 % 256 = omega arith in
    let d : v % 4294967296 / 16777216 % 256 ≡ v / 256 / 256 / 256 % 256 = omega arith in
    cc

pub bytes-le-eight : (v : ℕ) → to_le_bytes w64 v ≡ bytes 8 v
unfolding bytes
bytes-le-eight v =
    let b : v / 65536 ≡ v / 256 / 256 = omega arith in
    let c : v / 16777216 ≡ v / 256 / 256 / 256 = omega arith in
    let d : v / 4294967296 ≡ v / 256 / 256 / 256 / 256 = omega arith in
    let e : v / 1099511627776 ≡ v / 256 / 256 / 256 / 256 / 256 = omega arith in
    let f : v / 281474976710656 ≡ v / 256 / 256 / 256 / 256 / 256 / 256 = omega arith in
    let g : v / 72057594037927936 ≡ v / 256 / 256 / 256 / 256 / 256 / 256 / 256 = omega arith in
    cc

-- ---- stores

pub sets-four : (s : List ℕ) (at a b c d : ℕ) → sets s at (a ∷ b ∷ c ∷ d ∷ []) ≡ set (set (set (set s at a) (at + 1) b) (at + 2) c) (at + 3) d
sets-four s at a b c d =
    let p : at + 1 ≡ suc at = omega arith in
    let q : at + 2 ≡ suc (suc at) = omega arith in
    let r : at + 3 ≡ suc (suc (suc at)) = omega arith in
    rw (p, q, r)

-- a part that is written over by as many elements
pub put_mid-sets : (s l m : List ℕ) (at k : ℕ) → at + k ≤ length s → length m ≡ k → l ≡ m → put_mid at k s l ≡ sets s at m
put_mid-sets s l m at k h n e = ap (put_mid at k s) e ∙ rw (drop-drop, ← n) (sym (sets-eq m s at (omega arith) ∙ append_assoc (take at s) m (drop (at + length m) s)))

pub sets-append : (l m s : List ℕ) (at : ℕ) → sets s at (l ++ m) ≡ sets (sets s at l) (at + length l) m
sets-append [] m s at = rw add-zero
sets-append (x ∷ l) m s at =
    let e : at + suc (length l) ≡ suc at + length l = omega arith in
    sets-append l m (set s at x) (suc at) ∙ rw e

pub sets-eight : (s : List ℕ) (at v : ℕ) → sets (sets s at (bytes 4 v)) (at + 4) (bytes 4 (v / 4294967296)) ≡ sets s at (bytes 8 v)
sets-eight s at v =
    ap (λ (k : ℕ). sets (sets s at (bytes 4 v)) (at + k) (bytes 4 (v / 4294967296))) (sym (length-bytes 4 v))
    ∙ sym (ap (sets s at) (bytes-eight v) ∙ sets-append (bytes 4 v) (bytes 4 (v / 4294967296)) s at)

-- what was stored is there
pub part-sets : (l s : List ℕ) (at : ℕ) → at + length l ≤ length s → drop at (sets s at l) ≡ l ++ drop (at + length l) s
part-sets l s at h =
    ap (drop at) (sets-eq l s at h ∙ append_assoc (take at s) l (drop (at + length l) s))
    ∙ drop_at (take at s) (l ++ drop (at + length l) s) at (length-take-le at s (omega arith))

-- with what stands before it, and what stands after it is as it was
pub take-sets : (l s : List ℕ) (at : ℕ) → at + length l ≤ length s → take (at + length l) (sets s at l) ≡ take at s ++ l
take-sets l s at h =
    ap (take (at + length l)) (sets-eq l s at h)
    ∙ take_at (take at s ++ l) (drop (at + length l) s) (at + length l) (simp length-append (omega (arith, length-take-le at s (omega arith))))

pub drop-sets : (l s : List ℕ) (at : ℕ) → at + length l ≤ length s → drop (at + length l) (sets s at l) ≡ drop (at + length l) s
drop-sets l s at h =
    ap (drop (at + length l)) (sets-eq l s at h)
    ∙ drop_at (take at s ++ l) (drop (at + length l) s) (at + length l) (simp length-append (omega (arith, length-take-le at s (omega arith))))
