-- The order of numbers by value, in which -0 is 0: `lt` is a strict order, total on finite numbers, and `cmp_num` is the order that it makes.
-- Then the laws of orders taken one after the other. Assumes nothing.
use Prim.Native.Nat.{ℕ, ◌+◌, ◌-◌, ◌*◌, ◌≤◌, ◌<◌}
use native.Mathlib.Nat.{mul-pos, mul_comm, mul_assoc, mul_left_comm}
use native.Mathlib.Omega.{arith}
use mathlib.Core.Path.{◌≡◌, refl, sym, ap, ap₂, subst, ◌∙◌}
use mathlib.Core.Logic.{◌↔◌, ◌⊎◌, inl, inr}
use mathlib.Core.Bool.{Bool, true, false, not, ◌&&◌, ◌||◌, cond, beq, and-true, true≢false}
use lib.Dec.{T, ltb, eqb, ltb→lt, lt→ltb, eqb→eq, not_T}
use lib.Ieee.{Float, nan, inf, fin, Format, up, down, below, level, lt, eq, fits}
use lib.Ieee.Exact.{HasValue}
use lib.Ieee.Fits.{down_pos, and_i, and_l, and_r, eq→eqb}
use lib.Ieee.Bits.{is_true, is_false}
use lib.Ieee.Positive.{num, den, den_pos}
use lib.Ieee.Scale.{finite}
use borrow.Author.Tests.{ltb-true, ltb-false, eqb-true, le-ltb, eq-eqb, ne_eqb}
use Rattle.std.specs.declared.cmp.Ordering.{Ordering}
use Rattle.std.specs.declared.cmp.Ordering.TheVariants.{Less, Equal, Greater}
use Rattle.numbers.specs.Order.{cmp_num, and_then, flipped}
use Rattle.numbers.specs.Signs.{sign, Zero}
use Rattle.numbers.proofs.Bools.{bool-ext, ltb-by, eqb-by, T_of, like, no_part}
use Rattle.numbers.proofs.Values.{own_value, value-scale, value-unique, eq-at, lt_at, beq-swap}

-- ---- finite numbers lie to one another as natural numbers do

-- ±a, counted from -b
abbrev rank : ℕ → Bool → ℕ → ℕ
rank b true a = b - a
rank b false a = b + a

below-rank : (b : ℕ) (s : Bool) (x : ℕ) (t : Bool) (y : ℕ) → x ≤ b → y ≤ b → below s x t y ≡ ltb (rank b s x) (rank b t y)
below-rank b false x false y h k = ltb-by x y (b + x) (b + y) (λ l. omega arith) (λ l. omega arith)
below-rank b false x true y h k = sym (le-ltb (b + x) (b - y) (omega arith))
below-rank b true x false y h k = ltb-by 0 (x + y) (b - x) (b + y) (λ l. omega arith) (λ l. omega arith)
below-rank b true x true y h k = ltb-by y x (b - x) (b - y) (λ l. omega arith) (λ l. omega arith)

-- x = y = 0, as one equation
both_zero : (x y p q : ℕ) → (x ≡ y → x ≡ 0 → p ≡ q) → (p ≡ q → (x ≡ y) × (x ≡ 0)) → eqb x y && eqb x 0 ≡ eqb p q
both_zero x y p q f g =
    bool-ext _ _ (λ t. eq→eqb (f (eqb→eq x y (and_l (eqb x y) (eqb x 0) t)) (eqb→eq x 0 (and_r (eqb x y) (eqb x 0) t))))
    (λ t. let h = g (eqb→eq p q t) in and_i (eqb x y) (eqb x 0) (eq→eqb h.0) (eq→eqb h.1))

level-rank : (b : ℕ) (s : Bool) (x : ℕ) (t : Bool) (y : ℕ) → x ≤ b → y ≤ b → level s x t y ≡ eqb (rank b s x) (rank b t y)
level-rank b false x false y h k = and-true (eqb x y) ∙ eqb-by x y (b + x) (b + y) (λ l. omega arith) (λ l. omega arith)
level-rank b false x true y h k = both_zero x y (b + x) (b - y) (λ l m. omega arith) (λ l. omega arith)
level-rank b true x false y h k = both_zero x y (b - x) (b + y) (λ l m. omega arith) (λ l. omega arith)
level-rank b true x true y h k = and-true (eqb x y) ∙ eqb-by x y (b - x) (b - y) (λ l. omega arith) (λ l. omega arith)

-- x and y lie to one another as a and b do
pub record Alike (x y : Float) (a b : ℕ) : Type 0 where
  pub less : lt x y ≡ ltb a b
  pub more : lt y x ≡ ltb b a
  pub same : eq x y ≡ eqb a b

alike : (d b : ℕ) (x y : Float) (s t : Bool) (m n : ℕ) → 0 < d → HasValue x s m d → HasValue y t n d → m ≤ b → n ≤ b → Alike x y (rank b s m) (rank b t n)
alike d b x y s t m n D v w h k = record {
  less = lt_at x y s t m n d v w D ∙ below-rank b s m t n h k;
  more = lt_at y x t s n m d w v D ∙ below-rank b t n s m k h;
  same = eq-at x y s t m n d v w D ∙ level-rank b s m t n h k;
}

-- three finite numbers lie to one another as three natural numbers do
pub ranks : (x y z : Float) → T (finite x) → T (finite y) → T (finite z) → (a : ℕ) × (b : ℕ) × (c : ℕ) × Alike x y a b × Alike y z b c × Alike x z a c
ranks x y z p q r =
    let d = den x * (den y * den z) in
    let D : 0 < d = mul-pos (den_pos x) (mul-pos (den_pos y) (den_pos z)) in
    let m = num x * (den y * den z) in
    let n = num y * (den x * den z) in
    let o = num z * (den x * den y) in
    let b = m + n + o in
    let u : HasValue x (sign x) m d = value-scale x (sign x) (num x) (den x) (den y * den z) (own_value x p) in
    let v : HasValue y (sign y) n d = subst (λ (k : ℕ). HasValue y (sign y) n k) (mul_left_comm (den y) (den x) (den z)) (value-scale y (sign y) (num y) (den y) (den x * den z) (own_value y q)) in
    let w : HasValue z (sign z) o d = subst (λ (k : ℕ). HasValue z (sign z) o k) (mul_comm (den z) (den x * den y) ∙ mul_assoc (den x) (den y) (den z))
    (value-scale z (sign z) (num z) (den z) (den x * den y) (own_value z r)) in
    (_, _, _, alike d b x y _ _ m n D u v (omega arith) (omega arith), alike d b y z _ _ n o D v w (omega arith) (omega arith), alike d b x z _ _ m o D u w (omega arith) (omega arith))

-- two finite numbers lie to one another as two natural numbers do
pub ranks₂ : (x y : Float) → T (finite x) → T (finite y) → (a : ℕ) × (b : ℕ) × Alike x y a b
ranks₂ x y p q = let r = ranks x y y p q q in (r.0, r.1, r.3)

-- ---- `lt`

-- exactly one of three tests passes
pub data OneOf : Bool → Bool → Bool → Type 0 where
  first : OneOf true false false
  second : OneOf false true false
  third : OneOf false false true

three : (a b : ℕ) → OneOf (ltb a b) (eqb a b) (ltb b a)
three a b = go (ltb a b) (ltb b a) refl refl
  where
    go : (p q : Bool) → ltb a b ≡ p → ltb b a ≡ q → OneOf p (eqb a b) q
    go true true h k = absurd (omega (arith, ltb-true a b h, ltb-true b a k))
    go true false h k = rw (ne_eqb a b (omega (arith, ltb-true a b h))) first
    go false true h k = rw (ne_eqb a b (omega (arith, ltb-true b a k))) third
    go false false h k = rw (eq-eqb a b (omega (arith, ltb-false a b h, ltb-false b a k))) second

-- nothing is below itself
pub lt-irreflexive : (x : Float) → lt x x ≡ false
unfolding lt
lt-irreflexive nan = refl
lt-irreflexive (inf true) = refl
lt-irreflexive (inf false) = refl
lt-irreflexive (fin true m e) = le-ltb (m * up e * down e) (m * up e * down e) (omega arith)
lt-irreflexive (fin false m e) = le-ltb (m * up e * down e) (m * up e * down e) (omega arith)

-- +∞ is below nothing
top : (y : Float) → T (lt (inf false) y) → ⊥
unfolding lt
top (inf t) p = p
top nan p = elim p [ ]
top (fin _ _ _) p = elim p [ ]

-- of two numbers only one is below the other
pub lt-asymmetric : (x y : Float) → lt x y ≡ true → lt y x ≡ false
unfolding lt
lt-asymmetric x y e = is_false (lt y x) (not_T (lt y x) (no x y (T_of e)))
  where
    no : (x y : Float) → T (lt x y) → T (lt y x) → ⊥
    no (inf true) (inf false) p q = q
    no (inf true) (fin t n d) p q = q
    no (inf false) y p q = top y p
    no (fin s m e) (inf false) p q = q
    no (fin s m e) (fin t n d) p q =
        let r = ranks₂ (fin s m e) (fin t n d) tt tt in
        omega (arith, ltb→lt r.0 r.1 (subst T r.2.less p), ltb→lt r.1 r.0 (subst T r.2.more q))
    no nan y p q = elim p [ ]
    no (inf true) nan p q = elim p [ ]
    no (inf true) (inf true) p q = elim p [ ]
    no (fin s m e) nan p q = elim p [ ]
    no (fin s m e) (inf true) p q = elim p [ ]

-- what is below a number that is below a third is below that
pub lt-transitive : (x y z : Float) → lt x y ≡ true → lt y z ≡ true → lt x z ≡ true
unfolding lt
lt-transitive x y z e g = is_true (lt x z) (go x y z (T_of e) (T_of g))
  where
    go : (x y z : Float) → T (lt x y) → T (lt y z) → T (lt x z)
    go (inf false) y z p q = absurd (top y p)
    go (inf true) (inf false) z p q = absurd (top z q)
    go (inf true) (fin t n d) (inf false) p q = tt
    go (inf true) (fin t n d) (fin u o g) p q = tt
    go (fin s m e) (inf false) z p q = absurd (top z q)
    go (fin s m e) (fin t n d) (inf false) p q = tt
    go (fin s m e) (fin t n d) (fin u o g) p q =
        let r = ranks (fin s m e) (fin t n d) (fin u o g) tt tt tt in
        subst T (sym r.5.less)
        (lt→ltb r.0 r.2 (omega (arith, ltb→lt r.0 r.1 (subst T r.3.less p), ltb→lt r.1 r.2 (subst T r.4.less q))))
    go nan y z p q = elim p [ ]
    go (inf true) nan z p q = elim p [ ]
    go (inf true) (inf true) z p q = elim p [ ]
    go (inf true) (fin t n d) nan p q = elim q [ ]
    go (inf true) (fin t n d) (inf true) p q = elim q [ ]
    go (fin s m e) nan z p q = elim p [ ]
    go (fin s m e) (inf true) z p q = elim p [ ]
    go (fin s m e) (fin t n d) nan p q = elim q [ ]
    go (fin s m e) (fin t n d) (inf true) p q = elim q [ ]

-- of two finite numbers one is below the other or they are equal, and only one of that holds
pub lt-total : (x y : Float) → T (finite x) → T (finite y) → OneOf (lt x y) (eq x y) (lt y x)
lt-total x y p q = let r = ranks₂ x y p q in rw (r.2.less, r.2.same, r.2.more) (three r.0 r.1)

-- ---- `eq`

-- finite numbers are equal where neither is below the other
pub eq-by-lt : (x y : Float) → T (finite x) → T (finite y) → eq x y ≡ not (lt x y || lt y x)
eq-by-lt x y p q = go (lt-total x y p q)
  where
    go : {l e g : Bool} → OneOf l e g → e ≡ not (l || g)
    go first = refl
    go second = refl
    go third = refl

level-swap : (s t : Bool) (a b : ℕ) → level s a t b ≡ level t b s a
level-swap s t a b =
    level-rank (a + b) s a t b (omega arith) (omega arith)
    ∙ (let p = rank (a + b) s a in let q = rank (a + b) t b in eqb-by p q q p sym sym)
    ∙ sym (level-rank (a + b) t b s a (omega arith) (omega arith))

-- equality goes both ways
pub eq-symmetric : (x y : Float) → eq x y ≡ eq y x
unfolding eq
eq-symmetric nan nan = refl
eq-symmetric nan (inf t) = refl
eq-symmetric nan (fin t n d) = refl
eq-symmetric (inf s) nan = refl
eq-symmetric (inf s) (inf t) = beq-swap s t
eq-symmetric (inf s) (fin t n d) = refl
eq-symmetric (fin s m e) nan = refl
eq-symmetric (fin s m e) (inf t) = refl
eq-symmetric (fin s m e) (fin t n d) = level-swap s t (m * up e * down d) (n * up d * down e)

equal-ranks : {x y : Float} {a b : ℕ} → Alike x y a b → eq x y ≡ true → a ≡ b
equal-ranks {a} {b} k e = eqb-true a b (sym k.same ∙ e)

-- equal numbers are equal to the same numbers
pub eq-transitive : (x y z : Float) → T (finite x) → T (finite y) → T (finite z) → eq x y ≡ true → eq x z ≡ eq y z
eq-transitive x y z p q r e = let k = ranks x y z p q r in k.5.same ∙ ap (λ (n : ℕ). eqb n k.2) (equal-ranks k.3 e) ∙ sym k.4.same

-- equal numbers are below the same numbers
pub lt-eq-left : (x y z : Float) → T (finite x) → T (finite y) → T (finite z) → eq x y ≡ true → lt x z ≡ lt y z
lt-eq-left x y z p q r e = let k = ranks x y z p q r in k.5.less ∙ ap (λ (n : ℕ). ltb n k.2) (equal-ranks k.3 e) ∙ sym k.4.less

-- the same numbers are below equal numbers
pub lt-eq-right : (x y z : Float) → T (finite x) → T (finite y) → T (finite z) → eq y z ≡ true → lt x y ≡ lt x z
lt-eq-right x y z p q r e = let k = ranks x y z p q r in k.3.less ∙ ap (ltb k.0) (equal-ranks k.4 e) ∙ sym k.5.less

-- equal numbers that fit are the same, or zeros
pub eq-same : (f : Format) (x y : Float) → T (fits f x) → T (fits f y) → eq x y ≡ true → (x ≡ y) ⊎ (Zero x × Zero y)
unfolding eq
eq-same f x y p q e = go x y p q (T_of e)
  where
    go : (x y : Float) → T (fits f x) → T (fits f y) → T (eq x y) → (x ≡ y) ⊎ (Zero x × Zero y)
    go (inf true) (inf true) p q t = inl refl
    go (inf false) (inf false) p q t = inl refl
    go (fin s m e) (fin t n d) p q h =
        let a = m * up e * down d in
        let b = n * up d * down e in
        let k = eqb→eq a b (and_l (eqb a b) (beq s t || eqb a 0) h) in
        elim (like s t (eqb a 0) (and_r (eqb a b) (beq s t || eqb a 0) h)) [
          | inl g ↦ inl (value-unique f (fin s m e) (fin t n d) s (m * up e) (down e) p q (refl, refl) (sym g, sym k) (down_pos e))
          | inr z ↦ let w = eqb→eq a 0 z in inr (no_part (m * up e) (down d) (down_pos d) w, no_part (n * up d) (down e) (down_pos e) (sym k ∙ w))
        ]
    go nan _ p q t = elim t [ ]
    go (inf false) nan p q t = elim t [ ]
    go (inf false) (inf true) p q t = elim t [ ]
    go (inf false) (fin _ n d) p q t = elim t [ ]
    go (inf true) nan p q t = elim t [ ]
    go (inf true) (inf false) p q t = elim t [ ]
    go (inf true) (fin _ n d) p q t = elim t [ ]
    go (fin s m e) nan p q h = elim h [ ]
    go (fin s m e) (inf _) p q h = elim h [ ]

-- ---- `cmp_num`

-- a number is equal to itself
pub cmp-self : (x : Float) → cmp_num x x ≡ Equal
cmp-self x = rw (lt-irreflexive x)

-- the order of two numbers, the other way round
pub cmp-flip : (x y : Float) → cmp_num y x ≡ flipped (cmp_num x y)
cmp-flip x y = go (lt x y) (lt y x) (lt-asymmetric x y)
  where
    go : (p q : Bool) → (p ≡ true → q ≡ false) → cond q Less (cond p Greater Equal) ≡ flipped (cond p Less (cond q Greater Equal))
    go true true h = absurd (true≢false (h refl))
    go true false h = refl
    go false true h = refl
    go false false h = refl

-- Less says that the first is below the second
pub cmp-less : (x y : Float) → (cmp_num x y ≡ Less) ↔ (lt x y ≡ true)
cmp-less x y = go (lt x y) (lt y x)
  where
    go : (p q : Bool) → (cond p Less (cond q Greater Equal) ≡ Less) ↔ (p ≡ true)
    go true q = (λ h. refl, λ h. refl)
    go false true = (λ h. cc, λ h. cc)
    go false false = (λ h. cc, λ h. cc)

-- Greater says that the second is below the first
pub cmp-greater : (x y : Float) → (cmp_num x y ≡ Greater) ↔ (lt y x ≡ true)
cmp-greater x y = (λ h. (cmp-less y x).0 (cmp-flip x y ∙ ap flipped h), λ h. cmp-flip y x ∙ ap flipped ((cmp-less y x).1 h))

-- Less is transitive
pub cmp-less-trans : (x y z : Float) → cmp_num x y ≡ Less → cmp_num y z ≡ Less → cmp_num x z ≡ Less
cmp-less-trans x y z p q = (cmp-less x z).1 (lt-transitive x y z ((cmp-less x y).0 p) ((cmp-less y z).0 q))

-- Equal says that the two are equal
pub cmp-equal-eq : (x y : Float) → T (finite x) → T (finite y) → (cmp_num x y ≡ Equal) ↔ (eq x y ≡ true)
cmp-equal-eq x y p q = go (lt-total x y p q)
  where
    go : {l e g : Bool} → OneOf l e g → (cond l Less (cond g Greater Equal) ≡ Equal) ↔ (e ≡ true)
    go first = (λ h. cc, λ h. cc)
    go second = (λ h. refl, λ h. refl)
    go third = (λ h. cc, λ h. cc)

-- equal numbers lie alike to any other
pub cmp-equal-left : (x y z : Float) → T (finite x) → T (finite y) → T (finite z) → cmp_num x y ≡ Equal → cmp_num x z ≡ cmp_num y z
cmp-equal-left x y z p q r h =
    let e = (cmp-equal-eq x y p q).0 h in
    ap₂ (λ (a b : Bool). cond a Less (cond b Greater Equal)) (lt-eq-left x y z p q r e) (lt-eq-right z x y r p q e)

-- any other lies alike to equal numbers
pub cmp-equal-right : (x y z : Float) → T (finite x) → T (finite y) → T (finite z) → cmp_num y z ≡ Equal → cmp_num x y ≡ cmp_num x z
cmp-equal-right x y z p q r h = cmp-flip y x ∙ ap flipped (cmp-equal-left y z x q r p h) ∙ sym (cmp-flip z x)

-- ---- orders, one after the other

-- flipped twice
pub flipped-flipped : (o : Ordering) → flipped (flipped o) ≡ o
flipped-flipped Less = refl
flipped-flipped Equal = refl
flipped-flipped Greater = refl

-- two orders flip together
pub flipped-then : (o p : Ordering) → flipped (and_then o p) ≡ and_then (flipped o) (flipped p)
flipped-then Less p = refl
flipped-then Equal p = refl
flipped-then Greater p = refl

-- three orders
pub then-assoc : (o p q : Ordering) → and_then (and_then o p) q ≡ and_then o (and_then p q)
then-assoc Less p q = refl
then-assoc Equal p q = refl
then-assoc Greater p q = refl

-- Equal after an order changes nothing
pub then_equal : (o : Ordering) → and_then o Equal ≡ o
then_equal Less = refl
then_equal Equal = refl
then_equal Greater = refl

-- two orders are Equal only where each is
pub then-equal-both : (o p : Ordering) → and_then o p ≡ Equal → (o ≡ Equal) × (p ≡ Equal)
then-equal-both Less p h = (h, cc)
then-equal-both Equal p h = (refl, h)
then-equal-both Greater p h = (h, cc)

-- how x lies to y, y to z and x to z, in an order
pub record Chain (xy yz xz : Ordering) : Type 0 where
  pub less : xy ≡ Less → yz ≡ Less → xz ≡ Less
  pub left : xy ≡ Equal → xz ≡ yz
  pub right : yz ≡ Equal → xz ≡ xy

-- finite numbers are in an order
pub cmp-chain : (x y z : Float) → T (finite x) → T (finite y) → T (finite z) → Chain (cmp_num x y) (cmp_num y z) (cmp_num x z)
cmp-chain x y z p q r = record {
  less = cmp-less-trans x y z;
  left = cmp-equal-left x y z p q r;
  right = λ h. sym (cmp-equal-right x y z p q r h);
}

-- an order, and then another, is an order
pub chain-then : {a b c a' b' c' : Ordering} → Chain a b c → Chain a' b' c' → Chain (and_then a a') (and_then b b') (and_then c c')
chain-then {a} {b} {c} {a'} {b'} {c'} k l = record {
  less = go a b k;
  left = λ h. let e = then-equal-both a a' h in ap₂ and_then (k.left e.0) (l.left e.1);
  right = λ h. let e = then-equal-both b b' h in ap₂ and_then (k.right e.0) (l.right e.1);
}
  where
    go : (a b : Ordering) → Chain a b c → and_then a a' ≡ Less → and_then b b' ≡ Less → and_then c c' ≡ Less
    go Less Less k h g = rw (k.less refl refl)
    go Less Equal k h g = rw (k.right refl)
    go Less Greater k h g = cc
    go Equal Less k h g = rw (k.left refl)
    go Equal Equal k h g = rw (k.left refl) (l.less h g)
    go Equal Greater k h g = cc
    go Greater b k h g = cc
