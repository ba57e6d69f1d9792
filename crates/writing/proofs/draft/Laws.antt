-- Lists of records joined and wrapped: their sizes and bytes. Assumes nothing.
use mathlib.Core.Path.{◌≡◌, refl, ap, ◌∙◌, sym}
use mathlib.Core.List.{List, [], ◌++◌, append_assoc, append-nil}
use Prim.Native.Nat.{ℕ, ◌+◌}
use native.Mathlib.Omega.{arith}
use Rattle.formats.specs.declared.record.Record.{Record}
use Rattle.formats.specs.Tree.{Nodes, end, rec, size, encode_rec, encode}
use Rattle.writing.specs.Draft.Writing.{on, body, append, one, two, wrapped}

pub append-end : (ns : Nodes) → append ns end ≡ ns
unfolding append
append-end end = refl
append-end (rec r ns ms) = ap (rec r ns) (append-end ms)

pub append-join : (a b c : Nodes) → append (append a b) c ≡ append a (append b c)
unfolding append
append-join end b c = refl
append-join (rec r ns ms) b c = ap (rec r ns) (append-join ms b c)

-- two records, one after the other
pub append-two : (ns : Nodes) (r q : Record) → append ns (two r q) ≡ append (append ns (one r)) (one q)
unfolding append
append-two ns r q = sym (append-join ns (one r) (one q))

pub append-three : (ns : Nodes) (r q p : Record) → append ns (rec r end (two q p)) ≡ append (append (append ns (one r)) (one q)) (one p)
unfolding append
append-three ns r q p = sym (append-join ns (one r) (two q p)) ∙ append-two (append ns (one r)) q p

-- ---- how many

pub size-append : (a b : Nodes) → size (append a b) ≡ size a + size b
unfolding append size
size-append end b = omega arith
size-append (rec r ns ms) b = omega (arith, size-append ms b)

pub size-one : (r : Record) → size (one r) ≡ 1
unfolding size
size-one r = refl

pub size-said : (ns : Nodes) (r : Record) → size (append ns (one r)) ≡ size ns + 1
size-said ns r = size-append ns (one r) ∙ ap (λ (k : ℕ). size ns + k) (size-one r)

pub size-wrapped : (ns : Nodes) → size (wrapped ns) ≡ size ns + 2
unfolding size
size-wrapped ns = omega arith

-- ---- bytes

pub encode-append : (a b : Nodes) → encode (append a b) ≡ encode a ++ encode b
unfolding append encode
encode-append end b = refl
encode-append (rec r ns ms) b = ap (λ (l : List ℕ). encode_rec r ++ encode ns ++ l) (encode-append ms b) ∙ sym (append_assoc (encode_rec r ++ encode ns) (encode ms) (encode b))

pub encode_one : (r : Record) → encode (one r) ≡ encode_rec r
unfolding encode
encode_one r = append-nil (encode_rec r ++ []) ∙ append-nil (encode_rec r)

pub encode-said : (ns : Nodes) (r : Record) → encode (append ns (one r)) ≡ encode ns ++ encode_rec r
encode-said ns r = encode-append ns (one r) ∙ ap (λ (l : List ℕ). encode ns ++ l) (encode_one r)

pub encode-wrapped : (ns : Nodes) → encode (wrapped ns) ≡ encode_rec (on (size ns + 1)) ++ encode_rec (body (size ns)) ++ encode ns
unfolding encode
encode-wrapped ns =
    let o : List ℕ = encode_rec (on (size ns + 1)) in
    let y : List ℕ = encode_rec (body (size ns)) in
    append-nil (o ++ (y ++ encode ns ++ []))
    ∙ ap (λ (l : List ℕ). o ++ l) (append-nil (y ++ encode ns))
    ∙ sym (append_assoc o y (encode ns))
