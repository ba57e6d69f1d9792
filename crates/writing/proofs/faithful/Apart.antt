-- An argument that is written apart: moved down behind the list so far, it is appended to it. Assumes nothing.
use Prim.Native.Nat.{ℕ, ◌+◌, ◌-◌, ◌*◌, ◌≤◌, ◌<◌}
use native.Mathlib.Omega.{arith}
use native.Mathlib.Nat.{zero-add}
use mathlib.Core.Path.{◌≡◌, refl, sym, ap, subst, ◌∙◌}
use mathlib.Core.Bool.{Bool, false}
use mathlib.Core.List.{List, ◌++◌}
use lib.ListN.{length, get_or, take, drop, length-append, length-take, length-drop}
use borrow.Rule.Slice.PartMut.{mid_of, put_mid, same_len_mid}
use lib.Seq.{sets, sets-eq, length-sets, get_or-append-add, get_or-drop, take_at, drop-append-le, take-append-le, take-append-add, length-take-le}
use Rattle.cells.specs.Contract.Book.{Book}
use Rattle.limits.specs.declared.Refusal.{Refusal}
use Rattle.sums.specs.Tree.Sums as sums
use Rattle.sums.specs.Tree.Sums.{Sum}
use Rattle.sums.specs.Contract.Lies.{Lies, Held}
use Rattle.formats.specs.Bytes.{part}
use Rattle.formats.specs.Tree.{Nodes, end, size, encode}
use Rattle.formats.proofs.record.Bytes.{length_part, part-sets}
use Rattle.writing.specs.declared.draft.Draft.{Draft}
use Rattle.std.specs.Prelude.{Result, Ok, Err}
use Rattle.writing.specs.Draft.Writing.{append, Written, wrote, refused}
use Rattle.writing.specs.Draft.Contract.Lying.{Lying, SaidAs}
use Rattle.writing.specs.Draft.Contract.Growing.{Ready, GrownTo, Spoken}
use Rattle.writing.specs.Contract.Room.{Separate, First, AtFront}
use Rattle.writing.specs.Faithful.{behind, write_faithful}
use Rattle.writing.proofs.draft.Laws.{size-append, encode-append}
use Rattle.writing.proofs.draft.Lying.{fresh, part-take, some-lies}
use Rattle.writing.proofs.faithful.Size.{size-within}

-- bytes that are moved down are read where they were
pub unmoved : (b₀ b : List ℕ) (from j : ℕ) → from + j < length b₀ → b ≡ sets b₀ 0 (part from j b₀) → get_or b (from + j) 0 ≡ get_or b₀ (from + j) 0
unmoved b₀ b from j h e =
    let n : length (part from j b₀) ≡ j = length_part from j b₀ (omega arith) in
    let i : from + j ≡ length (part from j b₀) + from = omega arith in
    let front : sets b₀ 0 (part from j b₀) ≡ part from j b₀ ++ drop (length (part from j b₀)) b₀ =
    sets-eq (part from j b₀) b₀ 0 (omega arith) ∙ ap (λ (x : ℕ). part from j b₀ ++ drop x b₀) (zero-add (length (part from j b₀))) in
    ap (λ (l : List ℕ). get_or l (from + j) 0) (e ∙ front)
    ∙ ap (λ (x : ℕ). get_or (part from j b₀ ++ drop (length (part from j b₀)) b₀) x 0) i
    ∙ get_or-append-add (part from j b₀) (drop (length (part from j b₀)) b₀) from 0
    ∙ get_or-drop (length (part from j b₀)) b₀ from 0
    ∙ ap (λ (x : ℕ). get_or b₀ x 0) (sym i)

-- a list that is moved down lies at the front
module _ {b b' : List ℕ} {f : Draft} {ns : Nodes} (m : ℕ) (e : m + f.from ≡ f.end) (l : Lying b f ns) (p : b' ≡ sets b 0 (part (24 * f.from) (24 * m) b)) where
  count : m ≡ size ns
  count = omega (arith, l.ends)

  moved : part (24 * f.from) (24 * m) b ≡ encode ns
  moved = ap (λ (x : ℕ). part (24 * f.from) (24 * x) b) count ∙ l.bytes

  long-moved : length (part (24 * f.from) (24 * m) b) ≡ 24 * m
  long-moved = length_part (24 * f.from) (24 * m) b (omega (arith, l.ends, l.room))

  pub moved-lies : Lying b' record { from = 0; end = m } ns
  moved-lies =
      let xs = part (24 * f.from) (24 * m) b in
      let h = long-moved in
      let r = l.room in
      let q = l.ends in
      record {
        ends = omega (arith, count);
        room = omega (arith, ap length p, length-sets b 0 xs);
        bytes =
            ap (λ (k : ℕ). part 0 (24 * k) b') (sym count)
            ∙ ap (λ (z : List ℕ). take (24 * m) z) p
            ∙ ap (take (24 * m)) (part-sets xs b 0 (omega arith))
            ∙ ap (λ (k : ℕ). take k (xs ++ drop (0 + length xs) b)) (sym h)
            ∙ take_at xs (drop (0 + length xs) b) (length xs) refl
            ∙ moved;
      }

-- a list at the front of a part goes on with the list that ends where the part begins
module _ (post : List ℕ) {b p : List ℕ} {d : Draft} {ns ms : Nodes} (m : ℕ) (l : Lying b d ns) (a : Lying p record { from = 0; end = m } ms) where
  abbrev joined : List ℕ
  joined = take (24 * d.end) b ++ (p ++ post)

  long-front : length (take (24 * d.end) b) ≡ 24 * d.end
  long-front = length-take-le (24 * d.end) b l.room

  before-part : drop (24 * d.from) (take (24 * d.end) b) ≡ encode ns
  before-part =
      let e : 24 * d.end ≡ 24 * d.from + 24 * size ns = omega (arith, l.ends) in
      ap (λ (x : ℕ). drop (24 * d.from) (take x b)) e ∙ part-take (24 * d.from) (24 * size ns) b (omega (arith, l.ends, l.room)) ∙ l.bytes

  long-before : length (encode ns) ≡ 24 * size ns
  long-before = ap length (sym l.bytes) ∙ length_part (24 * d.from) (24 * size ns) b (omega (arith, l.ends, l.room))

  of_part : take (24 * size ms) (p ++ post) ≡ encode ms
  of_part = take-append-le (24 * size ms) p post (omega (arith, a.ends, a.room)) ∙ a.bytes

  pub joined-lies : Lying joined record { from = d.from; end = d.end + m } (append ns ms)
  joined-lies =
      let n = size-append ns ms in
      let k : 24 * size (append ns ms) ≡ length (encode ns) + 24 * size ms = omega (arith, long-before) in
      let f = long-front in
      record {
        ends = omega (arith, l.ends, a.ends);
        room = omega (arith, length-append (take (24 * d.end) b) (p ++ post), length-append p post, a.room);
        bytes =
            ap (λ (x : ℕ). take x (drop (24 * d.from) joined)) k
            ∙ ap (take (length (encode ns) + 24 * size ms)) (drop-append-le (24 * d.from) (take (24 * d.end) b) (p ++ post) (omega (arith, l.ends)))
            ∙ ap (λ (z : List ℕ). take (length (encode ns) + 24 * size ms) (z ++ (p ++ post))) before-part
            ∙ take-append-add (encode ns) (p ++ post) (24 * size ms)
            ∙ ap (λ (z : List ℕ). encode ns ++ z) of_part
            ∙ sym (encode-append ns ms);
      }

-- ---- an argument, written into the part behind the list so far

module _ {b b' p p' : List ℕ} {d : Draft} {s : Result Draft Refusal} {most : ℕ} (w : Written) (a : AtFront p p' s most w) (long : length b' ≡ length b) where
  pub argument-stop : (q : Refusal) → s ≡ Err q → Spoken b b' d (Err q) 0 most (λ ns. behind w ns)
  argument-stop q e = record { grown = tt; long = long; lies = λ ns l. stops w (subst (λ (t : Result Draft Refusal). SaidAs t p' w) e a.lies) ns }
    where
      stops : (v : Written) → SaidAs (Err q) p' v → (ns : Nodes) → SaidAs (Err q) b' (behind v ns)
      stops (wrote ms) h ns = absurd h
      stops (refused r) h ns = h

  pub argument-done : (f : Draft) (post : List ℕ) → s ≡ Ok f → b' ≡ take (24 * d.end) b ++ (p' ++ post)
      → Spoken b b' d (Ok record { from = d.from; end = d.end + f.end }) 0 most (λ ns. behind w ns)
  argument-done f post e is =
      let first = subst (λ (t : Result Draft Refusal). First t most) e a.first in
      record {
        grown = record { begins = omega arith; ends = omega (arith, first.1) };
        long = long;
        lies = λ ns l. goes w (subst (λ (t : Result Draft Refusal). SaidAs t p' w) e a.lies) first ns l;
      }
    where
      goes : (v : Written) → SaidAs (Ok f) p' v → First (Ok f) most → (ns : Nodes) → Lying b d ns
          → SaidAs (Ok record { from = d.from; end = d.end + f.end }) b' (behind v ns)
      goes (wrote ms) h g ns l =
          let at = subst (λ (x : ℕ). Lying p' record { from = x; end = f.end } ms) g.0 h in
          subst (λ (z : List ℕ). Lying z record { from = d.from; end = d.end + f.end } (append ns ms)) (sym is) (joined-lies post f.end l at)
      goes (refused r) h g ns l = absurd h

-- the part that begins at the draft's end, and the buffer once it is back
module _ (b : List ℕ) (at : ℕ) (h : at ≤ length b) where
  pub long-part : length (mid_of at (length b - at) b) ≡ length b - at
  long-part = simp (length-take, length-drop) (omega arith)

  pub long-back : (p : List ℕ) → length p ≡ length (mid_of at (length b - at) b) → length (put_mid at (length b - at) b p) ≡ length b
  long-back p e = same_len_mid at (length b - at) b p e

pub separate : {b : List ℕ} {d : Draft} (n left : ℕ) → n ≤ 64 → Ready b d 0 (10 * n + 2 + 128 * (left + 1)) → Separate (mid_of (24 * d.end) (length b - 24 * d.end) b) n left
separate {b} {d} n left few r =
    let h = long-part b (24 * d.end) (omega (arith, r.after)) in
    record { few = few; after = omega (arith, r.after); most = omega (arith, r.few) }

-- ---- a sum, written into a buffer of its own

module _ {b b₁ : List ℕ} {s : Result Draft Refusal} (n : ℕ) (flag : Bool) (t : Sum) (few : sums.size t ≡ n) (room : 24 * 128 ≤ length b)
    (k : Spoken b b₁ record { from = 128; end = 128 } s (2 * n) (10 * n + 2) (λ ns. write_faithful flag t false ns)) where
  abbrev w : Written
  w = write_faithful flag t false end

  whole : SaidAs s b₁ w
  whole = k.lies end (fresh b 128 room)

  pub front-lies : (f : Draft) → s ≡ Ok f → (ns : Nodes) × Lying b₁ f ns
  front-lies f e = some-lies s e w whole

  pub front_ends : (f : Draft) → s ≡ Ok f → f.end ≤ 128 + (10 * n + 2)
  front_ends f e = let g = subst (λ (z : Result Draft Refusal). GrownTo record { from = 128; end = 128 } z (2 * n) (10 * n + 2)) e k.grown in g.ends

  pub front-stop : (q : Refusal) → s ≡ Err q → AtFront b b₁ (Err q) (10 * n + 2) w
  front-stop q e = record { long = k.long; first = tt; lies = subst (λ (z : Result Draft Refusal). SaidAs z b₁ w) e whole }

  pub front-done : {b₂ : List ℕ} (f : Draft) (m : ℕ) → s ≡ Ok f → m + f.from ≡ f.end → b₂ ≡ sets b₁ 0 (part (24 * f.from) (24 * m) b₁)
      → AtFront b b₂ (Ok record { from = 0; end = m }) (10 * n + 2) w
  front-done {b₂} f m e h p = go w refl (subst (λ (z : Result Draft Refusal). SaidAs z b₁ w) e whole)
    where
      go : (v : Written) → w ≡ v → SaidAs (Ok f) b₁ v → AtFront b b₂ (Ok record { from = 0; end = m }) (10 * n + 2) w
      go (wrote ms) i l =
          record {
            long = ap length p ∙ length-sets b₁ 0 (part (24 * f.from) (24 * m) b₁) ∙ k.long;
            first = (refl, omega (arith, size-within flag t ms i, l.ends));
            lies = subst (λ (v : Written). SaidAs (Ok record { from = 0; end = m }) b₂ v) (sym i) (moved-lies m h l p);
          }
      go (refused q) i l = absurd l

-- the same of a sum that is held: what was written lies in the buffer, and is no longer than it may be
module _ {b b₁ : List ℕ} {a : Book} {i left : ℕ} {s : Result Draft Refusal} (n : ℕ) (flag : Bool) (r : Separate b n left) (h : Held a i (i + n) left)
    (k : (t : Sum) → Lies a i (i + n) left t → Spoken b b₁ record { from = 128; end = 128 } s (2 * n) (10 * n + 2) (λ ns. write_faithful flag t false ns)) where
  pub held-within : {f : Draft} → s ≡ Ok f → (f.from ≤ f.end) × (f.end ≤ 128 + (10 * n + 2)) × (24 * f.end ≤ length b₁)
  held-within {f} e =
      let few : sums.size h.0 ≡ n = omega (arith, h.1.ends) in
      let room : 24 * 128 ≤ length b = omega (arith, r.after) in
      let l = (front-lies n flag h.0 few room (k h.0 h.1) f e).1 in
      (omega (arith, l.ends), front_ends n flag h.0 few room (k h.0 h.1) f e, l.room)
