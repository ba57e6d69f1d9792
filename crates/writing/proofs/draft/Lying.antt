-- A list that lies in a buffer: nothing at first, with a record after it, in the body of an On, and copied out. Assumes nothing.
use mathlib.Core.Path.{◌≡◌, refl, ap, ◌∙◌, sym, subst}
use mathlib.Core.Bool.{Bool, true, false, cond}
use mathlib.Core.List.{List, [], ◌∷◌, ◌++◌}
use Prim.Native.Nat.{ℕ, ◌+◌, ◌*◌, ◌≤◌, ◌<◌}
use native.Mathlib.Omega.{arith}
use native.Mathlib.Numerals.{add-one}
use native.Mathlib.Nat.{zero-add}
use borrow.Author.Tests.{le-leb, lt-leb}
use lib.ListN.{length, take, drop, get_or, set, length-append, length-drop}
use lib.Seq.{take-add, drop_at, drop-append-le, take-append-add, take-suc, get_or-drop, length-take-le, sets, sets-eq}
use Rattle.formats.specs.declared.record.Record.{Record}
use Rattle.formats.specs.Bytes.{part}
use Rattle.formats.specs.Tree.{Nodes, end, size, encode_rec, encode, records_in, Written}
use Rattle.formats.proofs.record.Bytes.{length_part, sets-append, part-sets}
use Rattle.formats.proofs.record.Codes.{length-rec, written-take, written-long}
use Rattle.writing.specs.declared.draft.Draft.{Draft}
use Rattle.std.specs.Prelude.{Result, Ok, Err}
use Rattle.writing.specs.Draft.Writing.{on, body, append, one, wrapped, wrote, refused}
use Rattle.writing.specs.Draft.Writing as writing
use Rattle.writing.specs.Draft.Contract.Lying.{Lying, SaidAs, room_for, Answered}
use Rattle.limits.specs.declared.Refusal.{Refusal}
use Rattle.limits.specs.declared.Refusal.TheVariants.{OutputRoom}
use Rattle.writing.proofs.draft.Laws.{size-said, size-wrapped, encode-said, encode-wrapped}

-- nothing lies at any place
pub fresh : (b : List ℕ) (k : ℕ) → 24 * k ≤ length b → Lying b record { from = k; end = k } end
unfolding size encode
fresh b k h = record { ends = omega arith; room = h; bytes = refl }

-- ---- a record after the last

pub part-take : (at n : ℕ) (l : List ℕ) → at ≤ length l → drop at (take (at + n) l) ≡ part at n l
part-take at n l h = ap (drop at) (take-add at n l) ∙ drop_at (take at l) (part at n l) at (length-take-le at l h)

-- the part up to a written record, and the record
part-written : {s s' : List ℕ} {i : ℕ} {r : Record} → Written s s' i r → 24 * i + 24 ≤ length s → (at n : ℕ) → at + n ≡ 24 * i → part at (n + 24) s' ≡ part at n s ++ encode_rec r
part-written {s} {s'} {i} {r} w h at n e =
    let k : at + (n + 24) ≡ 24 * i + 24 = omega arith in
    let m : length (take (24 * i) s) ≡ 24 * i = length-take-le (24 * i) s (omega arith) in
    sym (part-take at (n + 24) s' (omega (arith, written-long w h)))
    ∙ ap (λ (x : ℕ). drop at (take x s')) k
    ∙ ap (drop at) (written-take w h)
    ∙ drop-append-le at (take (24 * i) s) (encode_rec r) (omega arith)
    ∙ ap (λ (x : ℕ). drop at (take x s) ++ encode_rec r) (sym e)
    ∙ ap (λ (l : List ℕ). l ++ encode_rec r) (part-take at n s (omega arith))

pub said-lies : {b b' : List ℕ} (d : Draft) {r : Record} (ns : Nodes) → Written b b' d.end r → 24 * d.end + 24 ≤ length b → Lying b d ns
    → Lying b' record { from = d.from; end = d.end + 1 } (append ns (one r))
said-lies {b} {b'} d {r} ns w h l =
    let n : size (append ns (one r)) ≡ size ns + 1 = size-said ns r in
    let k : 24 * size (append ns (one r)) ≡ 24 * size ns + 24 = omega arith in
    record {
      ends = omega (arith, l.ends);
      room = omega (arith, written-long w h);
      bytes = ap (λ (x : ℕ). part (24 * d.from) x b') k ∙ part-written w h (24 * d.from) (24 * size ns) (omega (arith, l.ends)) ∙ ap (λ (q : List ℕ). q ++ encode_rec r) l.bytes ∙ sym
          (encode-said ns r);
    }

-- ---- On and its body in front

-- two records stored side by side, and what follows them
two-written : {s s' s'' : List ℕ} {i : ℕ} {o y : Record} → Written s s' i o → Written s' s'' (i + 1) y → 24 * i + 48 ≤ length s → (n : ℕ)
    → part (24 * i) (48 + n) s'' ≡ encode_rec o ++ encode_rec y ++ part (24 * i + 48) n s
two-written {s} {s'} {s''} {i} {o} {y} v w h n =
    let a : List ℕ = encode_rec o ++ encode_rec y in
    let k : length a ≡ 48 = simp (length-append, length-rec) in
    let j : 24 * (i + 1) ≡ 24 * i + length (encode_rec o) = omega (arith, length-rec o) in
    let both : s'' ≡ sets s (24 * i) a = w.stored ∙ ap (λ (l : List ℕ). sets l (24 * (i + 1)) (encode_rec y)) v.stored ∙ ap
    (λ (x : ℕ). sets (sets s (24 * i) (encode_rec o)) x (encode_rec y)) j ∙ sym (sets-append (encode_rec o) (encode_rec y) s (24 * i)) in
    ap (part (24 * i) (48 + n)) both
    ∙ ap (take (48 + n)) (part-sets a s (24 * i) (omega arith))
    ∙ ap (λ (x : ℕ). take (x + n) (a ++ drop (24 * i + length a) s)) (sym k)
    ∙ take-append-add a (drop (24 * i + length a) s) n
    ∙ ap (λ (x : ℕ). a ++ take n (drop (24 * i + x) s)) k

pub wrapped-lies : {b b' b'' : List ℕ} (d : Draft) (i n : ℕ) (ns : Nodes) → i + 2 ≡ d.from → n + d.from ≡ d.end → Written b b' i (on (n + 1)) → Written b' b'' (i + 1) (body n)
    → Lying b d ns → Lying b'' record { from = i; end = d.end } (wrapped ns)
wrapped-lies {b} {b'} {b''} d i n ns e f v w l =
    let s : size (wrapped ns) ≡ size ns + 2 = size-wrapped ns in
    let m : n ≡ size ns = omega (arith, l.ends) in
    let k : 24 * size (wrapped ns) ≡ 48 + 24 * size ns = omega arith in
    let at : 24 * i + 48 ≡ 24 * d.from = omega arith in
    let h : 24 * i + 48 ≤ length b = omega (arith, l.room, l.ends) in
    let long : length b'' ≡ length b = written-long w (omega (arith, written-long v (omega arith))) ∙ written-long v (omega arith) in
    record {
      ends = omega (arith, l.ends);
      room = omega (arith, l.room);
      bytes =
          ap (λ (x : ℕ). part (24 * i) x b'') k
          ∙ two-written v w h (24 * size ns)
          ∙ ap (λ (x : ℕ). encode_rec (on (n + 1)) ++ encode_rec (body n) ++ part x (24 * size ns) b) at
          ∙ ap (λ (x : List ℕ). encode_rec (on (n + 1)) ++ encode_rec (body n) ++ x) l.bytes
          ∙ ap (λ (x : ℕ). encode_rec (on (x + 1)) ++ encode_rec (body x) ++ encode ns) m
          ∙ sym (encode-wrapped ns);
    }

-- ---- copied out

-- n elements of s from a place on, over the first n of l
pub sets-range : (s l : List ℕ) (at n k : ℕ) → k ≡ n → at + n ≤ length s → n ≤ length l → sets l 0 (part at n s) ≡ take k (drop at s) ++ drop n l
sets-range s l at n k e h o =
    let m : length (part at n s) ≡ n = length_part at n s h in
    sets-eq (part at n s) l 0 (omega arith)
    ∙ ap (λ (x : ℕ). part at n s ++ drop x l) (zero-add (length (part at n s)) ∙ m)
    ∙ ap (λ (x : ℕ). take x (drop at s) ++ drop n l) (sym e)

pub copy_more : (b out₀ out : List ℕ) (from j : ℕ) → from + j < length b → out ≡ sets out₀ 0 (part from j b) → set out j (get_or b (from + j) 0) ≡ sets out₀ 0 (part from (j + 1) b)
copy_more b out₀ out from j h e =
    let n : length (part from j b) ≡ j = length_part from j b (omega arith) in
    let g : get_or (drop from b) j 0 ≡ get_or b (from + j) 0 = get_or-drop from b j 0 in
    let z : part from (j + 1) b ≡ part from j b ++ (get_or b (from + j) 0 ∷ []) = ap (λ (x : ℕ). take x (drop from b)) (add-one j) ∙ take-suc (drop from b) j 0 (rw length-drop (omega arith))
    ∙ ap (λ (x : ℕ). part from j b ++ (x ∷ [])) g in
    ap (λ (l : List ℕ). set l j (get_or b (from + j) 0)) e
    ∙ sym (ap (sets out₀ 0) z ∙ sets-append (part from j b) (get_or b (from + j) 0 ∷ []) out₀ 0 ∙ ap (λ (x : ℕ). set (sets out₀ 0 (part from j b)) x (get_or b (from + j) 0)) (omega arith))

pub copy-all : (b out₀ out : List ℕ) (from n j : ℕ) → out ≡ sets out₀ 0 (part from j b) → j ≡ n → out ≡ sets out₀ 0 (part from n b)
copy-all b out₀ out from n j e q = e ∙ ap (λ (x : ℕ). sets out₀ 0 (part from x b)) q

module _ {b : List ℕ} {d : Draft} {ns : Nodes} (l : Lying b d ns) (n : ℕ) (e : n + d.from ≡ d.end) (out : List ℕ) where
  length-is : n ≡ size ns
  length-is = omega (arith, l.ends)

  -- there is no room
  pub no_room : {c : ℕ} → c ≡ records_in out → c < n → Answered out out (Err OutputRoom) (wrote ns)
  no_room {c} q h =
      let f : room_for ns out ≡ false = lt-leb (size ns) (records_in out) (omega (arith, length-is)) in
      record {
        answer = sym (ap (λ (t : Bool). cond t (Ok (size ns)) (Err OutputRoom)) f);
        bytes = sym (ap (λ (t : Bool). cond t (sets out 0 (encode ns)) out) f);
      }

  -- there is
  pub handed : {c : ℕ} {out' : List ℕ} → c ≡ records_in out → n ≤ c → out' ≡ sets out 0 (part (24 * d.from) (24 * n) b) → Answered out out' (Ok n) (wrote ns)
  handed {c} {out'} q h p =
      let f : room_for ns out ≡ true = le-leb (size ns) (records_in out) (omega (arith, length-is)) in
      record {
        answer = ap Ok length-is ∙ sym (ap (λ (t : Bool). cond t (Ok (size ns)) (Err OutputRoom)) f);
        bytes =
            p
            ∙ ap (sets out 0) (ap (λ (x : ℕ). part (24 * d.from) (24 * x) b) length-is ∙ l.bytes)
            ∙ sym (ap (λ (t : Bool). cond t (sets out 0 (encode ns)) out) f);
      }

-- ---- what was said is answered

pub some-lies : {b : List ℕ} {d : Draft} (s : Result Draft Refusal) → s ≡ Ok d → (w : writing.Written) → SaidAs s b w → (ns : Nodes) × Lying b d ns
some-lies {b} {d} s e (wrote ns) l = (ns, subst (λ (t : Result Draft Refusal). SaidAs t b (wrote ns)) e l)
some-lies {b} {d} s e (refused q) l = absurd (subst (λ (t : Result Draft Refusal). SaidAs t b (refused q)) e l)

pub answer-done : {b out out' : List ℕ} {d : Draft} {r : Result ℕ Refusal} (s : Result Draft Refusal) → s ≡ Ok d → ((ns : Nodes) → Lying b d ns → Answered out out' r (wrote ns))
    → (w : writing.Written) → SaidAs s b w → Answered out out' r w
answer-done {b} s e h (wrote ns) l = h ns (subst (λ (t : Result Draft Refusal). SaidAs t b (wrote ns)) e l)
answer-done {b} s e h (refused q) l = absurd (subst (λ (t : Result Draft Refusal). SaidAs t b (refused q)) e l)

pub answer-refused : (b : List ℕ) {out : List ℕ} {q : Refusal} (s : Result Draft Refusal) → s ≡ Err q → (w : writing.Written) → SaidAs s b w → Answered out out (Err q) w
answer-refused b s e (wrote ns) l = absurd (subst (λ (t : Result Draft Refusal). SaidAs t b (wrote ns)) e l)
answer-refused b s e (refused o) l = record { answer = ap Err (subst (λ (t : Result Draft Refusal). SaidAs t b (refused o)) e l); bytes = refl }
