-- The verdict on a list of bytes: it is not BadRecord exactly where the bytes are those of well-formed trees, which are then the trees that `parse` gives;
-- and it is TooDeep exactly where those go too deep. So the verdict is settled, and no two well-formed trees have the same bytes. Assumes nothing.
use mathlib.Core.Path.{◌≡◌, refl, ap, ◌∙◌, sym}
use mathlib.Core.Bool.{Bool, true, false, ◌&&◌, cond}
use mathlib.Core.Logic.{◌↔◌}
use mathlib.Core.List.{List, [], append-nil}
use Prim.Native.Nat.{ℕ, ◌+◌, ◌-◌, ◌*◌, ◌/◌, ◌%◌, ◌≤◌, ◌<◌}
use native.Mathlib.Omega.{arith}
use lib.ListN.{length, take}
use lib.Dec.{leb, eqb}
use lib.Seq.{take-length}
use borrow.Author.Tests.{eqb-true, leb-true, leb-false, eq-eqb, le-leb, lt-leb}
use Rattle.std.specs.Prelude.{Some, None, Ok, Err}
use Rattle.formats.specs.Bytes.{Bytes}
use Rattle.formats.specs.Tree.{Nodes, size, height, forest, parse, encode}
use Rattle.formats.specs.Rules.{WellFormed, ok_nodes, shape_of, judge, verdict, Judged, Verdict}
use Rattle.formats.proofs.record.Forest.{size-forest}
use Rattle.formats.proofs.record.Shapes.{and_left, and_right}
use Rattle.formats.proofs.record.Fit.{ok-fit}
use Rattle.formats.proofs.record.Codes.{encode-forest, forest-encode, fields-forest, length-encode}
use Rattle.limits.specs.declared.Refusal.TheVariants.{BadRecord, TooDeep}

-- ---- from trees to bytes

pub parse-encode : (t : Nodes) → WellFormed t → parse (encode t) ≡ t
unfolding parse
parse-encode t w =
    let e : length (encode t) / 24 ≡ 0 + size t = omega (arith, length-encode t) in
    rw e (ap (λ (l : List ℕ). forest l 0 (0 + size t)) (sym (append-nil (encode t))) ∙ forest-encode t 0 [] [] refl w.fields (ok-fit false t w.ok))

pub verdict-encode : (t : Nodes) → WellFormed t → verdict (encode t) ≡ cond (leb (height t) 129) (Ok tt) (Err TooDeep)
unfolding verdict shape_of
verdict-encode t w =
    rw (parse-encode t w, w.ok, eq-eqb (length (encode t) % 24) 0 (omega (arith, length-encode t)), le-leb (length (encode t) / 24) 2048 (omega (arith, length-encode t, w.few)))

-- ---- from bytes to trees

-- whole records, few enough, and well-formed
abbrev pub Sound : List ℕ → Type 0
Sound s = ((eqb (length s % 24) 0 && leb (length s / 24) 2048) ≡ true) × (ok_nodes false (parse s) ≡ true)

by-rules : (w o : Bool) (h : ℕ) → (cond w (judge (cond o (Some h) None)) (Err BadRecord) ≡ Err BadRecord → ⊥) → (w ≡ true) × (o ≡ true)
by-rules true true h q = (refl, refl)
by-rules true false h q = absurd (q refl)
by-rules false o h q = absurd (q refl)

unless-rules : (w o : Bool) (h : ℕ) → ((w ≡ true) × (o ≡ true) → ⊥) → cond w (judge (cond o (Some h) None)) (Err BadRecord) ≡ Err BadRecord
unless-rules true true h q = absurd (q (refl, refl))
unless-rules true false h q = refl
unless-rules false o h q = refl

pub not-bad : (s : List ℕ) → (verdict s ≡ Err BadRecord → ⊥) → Sound s
unfolding verdict shape_of
not-bad s n = by-rules (eqb (length s % 24) 0 && leb (length s / 24) 2048) (ok_nodes false (parse s)) (height (parse s)) n

bad-unless : (s : List ℕ) → (Sound s → ⊥) → verdict s ≡ Err BadRecord
unfolding verdict shape_of
bad-unless s n = unless-rules (eqb (length s % 24) 0 && leb (length s / 24) 2048) (ok_nodes false (parse s)) (height (parse s)) n

module _ (s : List ℕ) (t : Sound s) where
  pub whole : length s ≡ 24 * (length s / 24)
  whole = omega (arith, eqb-true (length s % 24) 0 (and_left (eqb (length s % 24) 0) (leb (length s / 24) 2048) t.0))

  pub few : length s / 24 ≤ 2048
  few = leb-true (length s / 24) 2048 (and_right (eqb (length s % 24) 0) (leb (length s / 24) 2048) t.0)

  pub ok : ok_nodes false (forest s 0 (length s / 24)) ≡ true
  unfolding parse
  ok = t.1

  -- by how deep they go
  pub parsed : verdict s ≡ cond (leb (height (parse s)) 129) (Ok tt) (Err TooDeep)
  unfolding verdict shape_of
  parsed = rw (t.0, t.1)

  module _ (b : Bytes s) where
    pub encode-parse : encode (parse s) ≡ s
    unfolding parse
    encode-parse =
        let e : 24 * (length s / 24 - 0) ≡ length s = omega (arith, whole) in
        encode-forest s b (length s / 24) 0 (length s / 24) (omega arith) (omega (arith, whole)) (ok-fit false (forest s 0 (length s / 24)) ok)
        ∙ ap (λ (k : ℕ). take k s) e
        ∙ take-length s

    pub parse-formed : WellFormed (parse s)
    unfolding parse
    parse-formed =
        record {
          fields = fields-forest s b (length s / 24) 0 (length s / 24) (omega arith) (omega (arith, whole));
          ok = t.1;
          few = omega (arith, size-forest s 0 (length s / 24), few);
        }

-- ---- the two together

abbrev by_depth : Bool → Verdict
by_depth low = cond low (Ok tt) (Err TooDeep)

is-good : (h : Bool) → by_depth h ≡ Ok tt → h ≡ true
is-good true q = refl
is-good false q = let z : false ≡ true = cc in z

is-deep : (h : Bool) → by_depth h ≡ Err TooDeep → h ≡ false
is-deep true q = let z : true ≡ false = cc in z
is-deep false q = refl

never : {v : Verdict} → v ≡ Ok tt → v ≡ Err BadRecord → ⊥
never p q = let z : ◌≡◌ {A = ℕ} 0 1 = cc in omega arith

never-deep : {v : Verdict} → v ≡ Err TooDeep → v ≡ Err BadRecord → ⊥
never-deep p q = let z : ◌≡◌ {A = ℕ} 0 1 = cc in omega arith

not-both : (h : Bool) → by_depth h ≡ Err BadRecord → ⊥
not-both true q = never refl q
not-both false q = never-deep refl q

pub good-sound : (s : List ℕ) → verdict s ≡ Ok tt → Sound s
good-sound s q = not-bad s (never q)

pub good-height : (s : List ℕ) → verdict s ≡ Ok tt → height (forest s 0 (length s / 24)) ≤ 129
unfolding parse
good-height s q = leb-true (height (parse s)) 129 (is-good (leb (height (parse s)) 129) (sym (parsed s (good-sound s q)) ∙ q))

good-iff : (s : List ℕ) → Bytes s → (verdict s ≡ Ok tt) ↔ ((t : Nodes) × (encode t ≡ s) × WellFormed t × (height t ≤ 129))
unfolding parse
good-iff s b = (
  λ q. let t = good-sound s q in (parse s, encode-parse s t b, parse-formed s t b, good-height s q),
  λ w. ap verdict (sym w.1) ∙ verdict-encode w.0 w.2 ∙ rw (le-leb (height w.0) 129 w.3),
)

deep-iff : (s : List ℕ) → Bytes s → (verdict s ≡ Err TooDeep) ↔ ((t : Nodes) × (encode t ≡ s) × WellFormed t × (129 < height t))
deep-iff s b = (
  λ q. let t = not-bad s (never-deep q) in (parse s, encode-parse s t b, parse-formed s t b, leb-false (height (parse s)) 129 (is-deep (leb (height (parse s)) 129) (sym (parsed s t) ∙ q))),
  λ w. ap verdict (sym w.1) ∙ verdict-encode w.0 w.2 ∙ rw (lt-leb (height w.0) 129 w.3),
)

bad-iff : (s : List ℕ) → Bytes s → (verdict s ≡ Err BadRecord) ↔ ((t : Nodes) → encode t ≡ s → WellFormed t → ⊥)
bad-iff s b = (
  λ q t e w. not-both (leb (height t) 129) (sym (verdict-encode t w) ∙ ap verdict e ∙ q),
  λ f. bad-unless s (λ t. f (parse s) (encode-parse s t b) (parse-formed s t b)),
)

pub settled : (s : List ℕ) → Bytes s → Judged s (verdict s)
settled s b = record { good = good-iff s b; deep = deep-iff s b; bad = bad-iff s b }

-- a good list is the bytes of the nodes that it parses to, and of no others
pub parse-unique : (t u : Nodes) → WellFormed t → WellFormed u → encode t ≡ encode u → t ≡ u
parse-unique t u v w e = sym (parse-encode t v) ∙ ap parse e ∙ parse-encode u w
