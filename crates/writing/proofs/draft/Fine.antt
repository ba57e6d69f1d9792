-- What is written keeps the rules of records: each record that is said does, and lists stay fine one after the other and in the body of an On.
-- Assumes nothing.
use Prim.Native.Nat.{ℕ, ◌+◌, ◌≤◌, ◌<◌, suc, max}
use mathlib.Core.Path.{◌≡◌, refl, ◌∙◌}
use mathlib.Core.Bool.{Bool, true, false, ◌&&◌, beq}
use native.Mathlib.Omega.{arith}
use lib.Dec.{T, eqb}
use lib.Ieee.{Float, binary64, fits}
use lib.Ieee.Bits.{to_bits-lt}
use borrow.Author.Tests.{eq-eqb, le-leb}
use Rattle.std.specs.Prelude.{Ok}
use Rattle.numbers.specs.declared.complex.Complex.{Complex}
use Rattle.formats.specs.declared.record.Record.{Record}
use Rattle.formats.specs.declared.record.Kind.TheVariants as kind
use Rattle.formats.specs.declared.record.Primitive.{Primitive}
use Rattle.formats.specs.declared.record.Primitive.TheVariants as prim
use Rattle.formats.specs.Names.{primitive_no, kind_of}
use Rattle.formats.specs.Tree.{Nodes, end, rec, size, height, encode}
use Rattle.formats.specs.Rules.{fields_ok, is_a, Fields, ok_nodes, AllFields, verdict}
use Rattle.formats.proofs.record.Theorem.{verdict-encode}
use Rattle.writing.specs.Draft.Writing.{push, push_pair, does, append, one, two, wrapped, number_record}
use Rattle.writing.proofs.draft.Laws.{size-append}

-- ---- records with nothing inside

pub record Plain (r : Record) : Type 0 where
  pub fields : Fields r
  pub ok : fields_ok r ≡ true
  pub body : is_a r kind.Body ≡ false
  pub inside : r.inside ≡ 0

below-256 : (p : Primitive) → primitive_no p < 256
below-256 prim.Identity = omega arith
below-256 prim.Pop = omega arith
below-256 prim.Dup = omega arith
below-256 prim.Flip = omega arith
below-256 prim.Neg = omega arith
below-256 prim.Not = omega arith
below-256 prim.Sqrt = omega arith
below-256 prim.Add = omega arith
below-256 prim.Sub = omega arith
below-256 prim.Mul = omega arith
below-256 prim.Div = omega arith
below-256 prim.Pow = omega arith
below-256 prim.Exp = omega arith
below-256 prim.Sin = omega arith
below-256 prim.Cos = omega arith
below-256 prim.Reciprocal = omega arith
below-256 prim.Complex = omega arith
below-256 prim.Max = omega arith
below-256 prim.SinH = omega arith
below-256 prim.CosH = omega arith
below-256 prim.Exp2 = omega arith
below-256 prim.Exp10 = omega arith
below-256 prim.Log = omega arith
below-256 prim.Ln = omega arith
below-256 prim.Log2 = omega arith
below-256 prim.Log10 = omega arith
below-256 prim.Over = omega arith
below-256 prim.Root = omega arith
below-256 prim.Unlisted = omega arith

pub plain-does : (p : Primitive) → Plain (does p)
unfolding fields_ok kind_of
plain-does p =
    record {
      fields = record { kind = omega arith; code = below-256 p; args = omega arith; blank = omega arith; inside = omega arith; re = omega arith; im = omega arith };
      ok = refl;
      body = refl;
      inside = refl;
    }

pub plain_push : (x : Float) → T (fits binary64 x) → Plain (push x)
unfolding fields_ok kind_of
plain_push x f =
    record {
      fields = record { kind = omega arith; code = omega arith; args = omega arith; blank = omega arith; inside = omega arith; re = to_bits-lt binary64 x f; im = omega arith };
      ok = refl;
      body = refl;
      inside = refl;
    }

pub plain-pair : (c : Complex) → T (fits binary64 c.re) → T (fits binary64 c.im) → Plain (push_pair c)
unfolding fields_ok kind_of
plain-pair c f g =
    record {
      fields =
          record {
            kind = omega arith;
            code = omega arith;
            args = omega arith;
            blank = omega arith;
            inside = omega arith;
            re = to_bits-lt binary64 c.re f;
            im = to_bits-lt binary64 c.im g;
          };
      ok = refl;
      body = refl;
      inside = refl;
    }

pub plain-number : (flag : Bool) (c : Complex) → T (fits binary64 c.re) → T (fits binary64 c.im) → Plain (number_record flag c)
plain-number true c f g = plain-pair c f g
plain-number false c f g = plain_push c.re f

-- ---- lists

-- every record keeps the rules; there are at most n of them, at most h inside one another
pub record Fine (n h : ℕ) (ns : Nodes) : Type 0 where
  pub fields : AllFields ns
  pub ok : ok_nodes false ns ≡ true
  pub few : size ns ≤ n
  pub low : height ns ≤ h

pub fine_more : {n h : ℕ} (m k : ℕ) {ns : Nodes} → Fine n h ns → n ≤ m → h ≤ k → Fine m k ns
fine_more m k f a b = record { fields = f.fields; ok = f.ok; few = omega (arith, f.few); low = omega (arith, f.low) }

pub fine_end : (h : ℕ) → Fine 0 h end
unfolding size height ok_nodes AllFields
fine_end h = record { fields = tt; ok = refl; few = omega arith; low = omega arith }

pub fine-one : (h : ℕ) (r : Record) → 1 ≤ h → Plain r → Fine 1 h (one r)
unfolding size height ok_nodes AllFields
fine-one h r a p =
    record { fields = (p.fields, tt, tt); ok = rw (p.ok, p.body, p.inside); few = omega arith; low = omega arith }

fields-append : (a b : Nodes) → AllFields a → AllFields b → AllFields (append a b)
unfolding append AllFields
fields-append end b f g = g
fields-append (rec r ns ms) b f g = (f.0, f.1, fields-append ms b f.2 g)

and_assoc : (x y z : Bool) → (x && (y && z)) ≡ ((x && y) && z)
and_assoc true y z = refl
and_assoc false y z = refl

ok-append : (c : Bool) (a b : Nodes) → ok_nodes c (append a b) ≡ (ok_nodes c a && ok_nodes c b)
unfolding append ok_nodes
ok-append c end b = refl
ok-append c (rec r ns ms) b = rw (ok-append c ms b) (and_assoc (fields_ok r && beq (is_a r kind.Body) c && eqb r.inside (size ns) && ok_nodes (is_a r kind.Modifier) ns) (ok_nodes c ms)
    (ok_nodes c b))

height-append : (a b : Nodes) → height (append a b) ≡ max (height a) (height b)
unfolding append height
height-append end b = omega arith
height-append (rec r ns ms) b = rw (height-append ms b) (omega arith)

pub fine-append : {n m h : ℕ} (a b : Nodes) → Fine n h a → Fine m h b → Fine (n + m) h (append a b)
fine-append a b f g =
    record {
      fields = fields-append a b f.fields g.fields;
      ok = rw (ok-append false a b, f.ok, g.ok);
      few = omega (arith, size-append a b, f.few, g.few);
      low = omega (arith, height-append a b, f.low, g.low);
    }

pub fine-say : {n h : ℕ} (ns : Nodes) (r : Record) → Fine n h ns → 1 ≤ h → Plain r → Fine (n + 1) h (append ns (one r))
fine-say {n} {h} ns r f a p = fine-append ns (one r) f (fine-one h r a p)

pub fine-two : (h : ℕ) (r q : Record) → 1 ≤ h → Plain r → Plain q → Fine 2 h (two r q)
unfolding append
fine-two h r q a p o = fine-append (one r) (one q) (fine-one h r a p) (fine-one h q a o)

pub fine-wrapped : {n h : ℕ} (ns : Nodes) → n < 4294967295 → Fine n h ns → Fine (n + 2) (h + 2) (wrapped ns)
unfolding size height ok_nodes AllFields fields_ok kind_of
fine-wrapped {n} {h} ns a f =
    let e : size ns ≤ n = f.few in
    record {
      fields = (
        record { kind = omega arith; code = omega arith; args = omega arith; blank = omega arith; inside = omega arith; re = omega arith; im = omega arith },
        (
          record { kind = omega arith; code = omega arith; args = omega arith; blank = omega arith; inside = omega arith; re = omega arith; im = omega arith },
          f.fields,
          tt,
        ),
        tt,
      );
      ok = rw (eq-eqb (size ns) (size ns) refl, f.ok, eq-eqb (size ns + 1) (suc (size ns + 0)) (omega arith));
      few = omega arith;
      low = omega (arith, f.low);
    }

-- a list that is fine, and neither too long nor too deep, is good
pub fine-good : {n h : ℕ} (ns : Nodes) → n ≤ 2048 → h ≤ 129 → Fine n h ns → verdict (encode ns) ≡ Ok tt
fine-good ns a b f =
    verdict-encode ns (record { fields = f.fields; ok = f.ok; few = omega (arith, f.few) }) ∙ rw (le-leb (height ns) 129 (omega (arith, f.low)))
