-- Trees and their bytes: what is parsed is what was encoded, and what is encoded again is what was parsed. Assumes nothing.
use mathlib.Core.Path.{◌≡◌, refl, ap, ap₂, ◌∙◌, sym}
use mathlib.Core.Logic.{⊎_elim}
use mathlib.Core.List.{List, [], ◌∷◌, ◌++◌, append_assoc}
use Prim.Native.Nat.{ℕ, zero, suc, ◌+◌, ◌-◌, ◌*◌, ◌≤◌, ◌<◌}
use native.Mathlib.Omega.{arith}
use native.Mathlib.Nat.{add-zero}
use lib.ListN.{length, get_or, set, take, drop, length-append, length-drop}
use lib.Seq.{drop-drop, get_or-drop, drop_at, sets, length-sets}
use Rattle.formats.specs.Bytes.{number, bytes, value, part, Bytes}
use Rattle.formats.specs.Tree.{Nodes, end, rec, size, rec_of, rec_at, next_of, next_at, forest, encode_rec, encode, Written}
use Rattle.formats.specs.Rules.{Fields, AllFields}
use Rattle.formats.proofs.record.Bytes.{length-bytes, value-bytes, part_join, part-four, bytes-number, number-below, sets-four, sets-append, part-sets, take-sets, drop-sets}
use Rattle.formats.proofs.record.Forest.{below, forest-none, forest-more}
use Rattle.formats.proofs.record.Fit.{Fit, fit_next, fit-inside, fit-after, forest-split}
use Rattle.formats.specs.declared.record.Record.{Record}

-- ---- a record

pub rec-fields : (s : List ℕ) (i : ℕ)
    → rec_at s i
    ≡ record {
      kind = get_or s (24 * i) 0;
      code = get_or s (24 * i + 1) 0;
      args = get_or s (24 * i + 2) 0;
      blank = get_or s (24 * i + 3) 0;
      inside = number 4 s (24 * i + 4);
      re = number 8 s (24 * i + 8);
      im = number 8 s (24 * i + 16);
    }
unfolding rec_of
rec-fields s i = simp (get_or-drop, drop-drop, add-zero)

pub length-rec : (r : Record) → length (encode_rec r) ≡ 24
unfolding encode_rec bytes
length-rec r = refl

numbers-back : (r : Record) (i x y : ℕ) → i ≡ r.inside → x ≡ r.re → y ≡ r.im
    → ◌≡◌ {A = Record} record { kind = r.kind; code = r.code; args = r.args; blank = r.blank; inside = i; re = x; im = y } r
numbers-back r i x y p q s = rw (p, q, s)

-- what was written is read
rec-here : (r : Record) (q : List ℕ) → Fields r → rec_of (encode_rec r ++ q) ≡ r
unfolding rec_of encode_rec bytes
rec-here r q f =
    numbers-back r (value (bytes 4 r.inside)) (value (bytes 8 r.re)) (value (bytes 8 r.im))
    (value-bytes 4 r.inside f.inside)
    (value-bytes 8 r.re f.re)
    (value-bytes 8 r.im f.im)

rec-read : (p : List ℕ) (r : Record) (q : List ℕ) (a : ℕ) → length p ≡ 24 * a → Fields r → rec_at (p ++ (encode_rec r ++ q)) a ≡ r
rec-read p r q a h f = ap rec_of (drop_at p (encode_rec r ++ q) (24 * a) h) ∙ rec-here r q f

-- what was read is written
part-join' : (s : List ℕ) (at m at' n k : ℕ) → at + m ≡ at' → m + n ≡ k → part at m s ++ part at' n s ≡ part at k s
part-join' s at m at' n k p q = rw (← p, ← q) (part_join at m n s)

rec-bytes : (l : List ℕ) → Bytes l → 24 ≤ length l → encode_rec (rec_of l) ≡ take 24 l
unfolding encode_rec rec_of
rec-bytes l b h =
    ap₂ ◌++◌ (sym (part-four l 0 (omega arith))) (ap₂ ◌++◌ (ap₂ ◌++◌ (bytes-number 4 l b 4 (omega arith)) (bytes-number 8 l b 8 (omega arith))) (bytes-number 8 l b 16 (omega arith)))
    ∙ ap (λ (m : List ℕ). part 0 4 l ++ (m ++ part 16 8 l)) (part_join 4 4 8 l)
    ∙ ap (λ (m : List ℕ). part 0 4 l ++ m) (part_join 4 12 8 l)
    ∙ part_join 0 4 20 l

bytes_drop : (m : ℕ) (s : List ℕ) → Bytes s → Bytes (drop m s)
bytes_drop m s b i = rw get_or-drop (b (m + i))

rec-part : (s : List ℕ) → Bytes s → (a : ℕ) → 24 * a + 24 ≤ length s → encode_rec (rec_at s a) ≡ part (24 * a) 24 s
rec-part s b a h = rec-bytes (drop (24 * a) s) (bytes_drop (24 * a) s b) (rw length-drop (omega arith))

pub fields_at : (s : List ℕ) → Bytes s → (a : ℕ) → 24 * a + 24 ≤ length s → Fields (rec_at s a)
fields_at s b a h =
    rw (rec-fields s a)
    record {
      kind = b (24 * a);
      code = b (24 * a + 1);
      args = b (24 * a + 2);
      blank = b (24 * a + 3);
      inside = number-below 4 s b (24 * a + 4) (omega arith);
      re = number-below 8 s b (24 * a + 8) (omega arith);
      im = number-below 8 s b (24 * a + 16) (omega arith);
    }

-- ---- a record that is stored

sets_then : (l q s : List ℕ) (at at' : ℕ) → at + length l ≡ at' → sets s at (l ++ q) ≡ sets (sets s at l) at' q
sets_then l q s at at' e = sets-append l q s at ∙ ap (λ (k : ℕ). sets (sets s at l) k q) e

pub stores-record : (s : List ℕ) (m : ℕ) (r : Record)
    → sets (sets (sets (set (set (set (set s m r.kind) (m + 1) r.code) (m + 2) r.args) (m + 3) r.blank) (m + 4) (bytes 4 r.inside)) (m + 8) (bytes 8 r.re)) (m + 16) (bytes 8 r.im)
    ≡ sets s m (encode_rec r)
unfolding encode_rec
stores-record s m r =
    let h : List ℕ = r.kind ∷ r.code ∷ r.args ∷ r.blank ∷ [] in
    let i : List ℕ = bytes 4 r.inside in
    let x : List ℕ = bytes 8 r.re in
    let y : List ℕ = bytes 8 r.im in
    let k : length (i ++ x) ≡ 12 = simp (length-append, length-bytes) in
    sym
    (sets_then h (i ++ x ++ y) s m (m + 4) refl
    ∙ sets_then (i ++ x) y (sets s m h) (m + 4) (m + 16) (omega arith)
    ∙ ap (λ (l : List ℕ). sets l (m + 16) y) (sets_then i x (sets s m h) (m + 4) (m + 8) (omega (arith, length-bytes 4 r.inside)) ∙ ap (λ (l : List ℕ). sets (sets l (m + 4) i) (m + 8) x)
    (sets-four s m r.kind r.code r.args r.blank)))

pub put-read : (s : List ℕ) (i : ℕ) (r : Record) → Fields r → 24 * i + 24 ≤ length s → rec_at (sets s (24 * i) (encode_rec r)) i ≡ r
put-read s i r f h = ap rec_of (part-sets (encode_rec r) s (24 * i) (omega (arith, length-rec r))) ∙ rec-here r (drop (24 * i + length (encode_rec r)) s) f

-- what a written record leaves: the bytes before it and its own, the bytes after it, and the length
module _ {s s' : List ℕ} {i : ℕ} {r : Record} (w : Written s s' i r) (h : 24 * i + 24 ≤ length s) where
  pub written-take : take (24 * i + 24) s' ≡ take (24 * i) s ++ encode_rec r
  written-take = rw w.stored (rw (length-rec r) at (take-sets (encode_rec r) s (24 * i) (omega (arith, length-rec r))))

  pub written-drop : drop (24 * i + 24) s' ≡ drop (24 * i + 24) s
  written-drop = rw w.stored (rw (length-rec r) at (drop-sets (encode_rec r) s (24 * i) (omega (arith, length-rec r))))

  pub written-long : length s' ≡ length s
  written-long = rw w.stored (length-sets s (24 * i) (encode_rec r))

-- ---- trees

encode-node : (r : Record) (ns ms : Nodes) → encode (rec r ns ms) ≡ encode_rec r ++ (encode ns ++ encode ms)
unfolding encode
encode-node r ns ms = append_assoc (encode_rec r) (encode ns) (encode ms)

pub length-encode : (t : Nodes) → length (encode t) ≡ 24 * size t
unfolding encode size
length-encode end = refl
length-encode (rec r ns ms) = ap length (encode-node r ns ms) ∙ simp (length-append, length-rec) (omega (arith, length-encode ns, length-encode ms))

-- what was parsed, encoded again
encode-none : (s : List ℕ) (a e : ℕ) → e ≤ a → encode (forest s a e) ≡ part (24 * a) (24 * (e - a)) s
unfolding encode
encode-none s a e l = let q : 24 * (e - a) ≡ 0 = omega arith in rw (forest-none s a e l, q)

pub encode-forest : (s : List ℕ) → Bytes s → (k a e : ℕ) → e - a ≤ k → 24 * e ≤ length s → Fit (forest s a e) → encode (forest s a e) ≡ part (24 * a) (24 * (e - a)) s
encode-forest s b zero a e h m f = encode-none s a e (omega arith)
encode-forest s b (suc k) a e h m f =
    ⊎_elim
    (λ (g : a < e).
    let n : ℕ = next_of s a in
    let i = fit_next s a e g f in
    ap encode (forest-split s a e g i)
    ∙ encode-node (rec_at s a) (forest s (a + 1) n) (forest s n e)
    ∙ ap₂ ◌++◌ (rec-part s b a (omega arith))
    (ap₂ ◌++◌ (encode-forest s b k (a + 1) n (omega arith) (omega arith) (fit-inside s a e g f)) (encode-forest s b k n e (omega arith) m (fit-after s a e g f))
    ∙ part-join' s (24 * (a + 1)) (24 * (n - (a + 1))) (24 * n) (24 * (e - n)) (24 * (e - (a + 1))) (omega arith) (omega arith))
    ∙ part-join' s (24 * a) 24 (24 * (a + 1)) (24 * (e - (a + 1))) (24 * (e - a)) (omega arith) (omega arith))
    (encode-none s a e)
    (below a e)

-- what was encoded, parsed again
pub forest-encode : (t : Nodes) (a : ℕ) (p q : List ℕ) → length p ≡ 24 * a → AllFields t → Fit t → forest (p ++ (encode t ++ q)) a (a + size t) ≡ t
unfolding size AllFields Fit
forest-encode end a p q h f c = forest-none _ a (a + 0) (omega arith)
forest-encode (rec r ns ms) a p q h f c =
    let d : List ℕ = encode ms ++ q in
    let s : List ℕ = p ++ (encode_rec r ++ (encode ns ++ d)) in
    let n : ℕ = a + 1 + size ns in
    let e : ℕ = a + suc (size ns + size ms) in
    let r' : rec_at s a ≡ r = rec-read p r (encode ns ++ d) a h f.0 in
    let z : next_at s a e ≡ n = rw r' (omega (arith, c.0)) in
    let i : forest s (a + 1) n ≡ ns = rw (← append_assoc p (encode_rec r) (encode ns ++ d))
    (forest-encode ns (a + 1) (p ++ encode_rec r) d (simp (length-append, length-rec) (omega arith)) f.1 c.1) in
    let v : e ≡ n + size ms = omega arith in
    let j : forest s n e ≡ ms = rw (v, ← append_assoc (encode_rec r) (encode ns) d, ← append_assoc p (encode_rec r ++ encode ns) d)
    (forest-encode ms n (p ++ (encode_rec r ++ encode ns)) q (simp (length-append, length-rec, length-encode) (omega arith)) f.2 c.2) in
    ap (λ (l : List ℕ). forest (p ++ l) a e) (ap (λ (l : List ℕ). l ++ q) (encode-node r ns ms) ∙ simp append_assoc)
    ∙ forest-more s a e (omega arith)
    ∙ rw (z, r', i, j)

-- the records of a list of bytes have fields that fit
pub fields-forest : (s : List ℕ) → Bytes s → (k a e : ℕ) → e - a ≤ k → 24 * e ≤ length s → AllFields (forest s a e)
unfolding AllFields
fields-forest s b zero a e h m = rw (forest-none s a e (omega arith)) tt
fields-forest s b (suc k) a e h m =
    ⊎_elim
    (λ (g : a < e). rw (forest-more s a e g) (
      fields_at s b a (omega arith),
      fields-forest s b k (a + 1) (next_at s a e) (omega arith) (omega arith),
      fields-forest s b k (next_at s a e) e
          (omega arith) m,
    ))
    (λ (l : e ≤ a). rw (forest-none s a e l) tt)
    (below a e)
