-- Which words each form of a sum is undone by, by the tests that lead to it. Assumes nothing.
use mathlib.Core.Path.{◌≡◌, refl, ap, ◌∙◌, sym}
use mathlib.Core.Bool.{Bool, true, false, ◌&&◌, cond}
use mathlib.Core.List.{List, [], ◌∷◌, ◌++◌}
use Rattle.numbers.specs.Constants.{half64, two64}
use Rattle.numbers.specs.declared.complex.Complex.{Complex}
use Rattle.numbers.specs.Complex.Arith as complex
use Rattle.numbers.specs.Signs.{one64}
use lib.Ieee.{Float, binary64, eq, neg, of_bits}
use Rattle.limits.specs.declared.Refusal.TheVariants.{TooComplex, NeedsMath}
use Rattle.formats.specs.declared.record.Primitive.TheVariants as prim
use Rattle.formats.specs.Tree.{end}
use Rattle.writing.specs.Draft.Writing.{refused}
use Rattle.inverse.specs.Inverse.{Word, num, act, spell, minus_four64, minus_one64, less_constant, over_factor, unpower, is_int, of_power, simple_quadratic, root, larger, full_quadratic, linear, of_constant, of_quadratic}
use Rattle.inverse.specs.Contract.Steps.{by_others}
use Rattle.inverse.specs.declared.Others.{Others}
use Rattle.inverse.specs.declared.Others.TheVariants.{Nothing, Power, TooMuch}

-- ---- kx^p + c

module _ (c : Complex) {t : Bool} (e : t ≡ complex.same c complex.zero) where
  pub keeps-all : t ≡ true → [] ≡ less_constant c []
  keeps-all h = rw (← e) (rw h refl)

  pub takes-away : t ≡ false → num c ∷ act prim.Sub ∷ [] ≡ less_constant c []
  takes-away h = rw (← e) (rw h refl)

module _ (k : Complex) {t : Bool} (e : t ≡ complex.same k complex.one) where
  pub one-fold : t ≡ true → [] ≡ over_factor k []
  one-fold h = rw (← e) (rw h refl)

  pub divides : t ≡ false → num k ∷ act prim.Div ∷ [] ≡ over_factor k []
  divides h = rw (← e) (rw h refl)

-- the literals -1.0 and -4.0
pub minus_one : neg one64 ≡ minus_one64
unfolding of_bits neg
minus_one = refl

abbrev pub four64 : Float
four64 = of_bits binary64 0x4010000000000000

minus-four : neg four64 ≡ minus_four64
unfolding of_bits neg
minus-four = refl

module _ (p : Float) where
  pub unpower-root : eq p half64 ≡ true → act prim.Dup ∷ act prim.Mul ∷ [] ≡ unpower p
  unpower-root h = rw h refl

  pub unpower-over : eq p half64 ≡ false → eq p (neg one64) ≡ true → act prim.Reciprocal ∷ [] ≡ unpower p
  unpower-over h g = rw h (rw (rw minus_one at g) refl)

  pub unpower-else : {z : Complex} → z ≡ complex.real p → eq p half64 ≡ false → eq p (neg one64) ≡ false → num z ∷ act prim.Root ∷ [] ≡ unpower p
  unpower-else e h g = rw h (rw (rw minus_one at g) (rw e refl))

-- the three parts, one after the other
pub power-parts : (c k : Complex) (p : Float) → less_constant c [] ++ (over_factor k [] ++ unpower p) ≡ less_constant c (over_factor k (unpower p))
power-parts c k p = first (complex.same c complex.zero) (complex.same k complex.one) (unpower p)
  where
    first : (s t : Bool) (ws : List Word) → cond s [] (num c ∷ act prim.Sub ∷ []) ++ (cond t [] (num k ∷ act prim.Div ∷ []) ++ ws) ≡ cond s (cond t ws (num k ∷ act prim.Div ∷ ws))
        (num c ∷ act prim.Sub ∷ cond t ws (num k ∷ act prim.Div ∷ ws))
    first true true ws = refl
    first true false ws = refl
    first false true ws = refl
    first false false ws = refl

module _ (flag : Bool) (k : Complex) (p : Float) (c : Complex) {t : Bool} (e : t ≡ is_int k) where
  pub power-known : t ≡ true → spell flag (less_constant c [] ++ (over_factor k [] ++ unpower p)) end ≡ of_power flag k p c
  power-known h = ap (λ (ws : List Word). spell flag ws end) (power-parts c k p) ∙ sym
      (ap (λ (b : Bool). cond b (spell flag (less_constant c (over_factor k (unpower p))) end) (refused NeedsMath)) (sym e ∙ h))

  pub power-unknown : t ≡ false → refused NeedsMath ≡ of_power flag k p c
  power-unknown h = sym (ap (λ (b : Bool). cond b (spell flag (less_constant c (over_factor k (unpower p))) end) (refused NeedsMath)) (sym e ∙ h))

-- ---- ax² + bx + c

pub root-words : (a b c : Complex) {u v : Complex} → u ≡ complex.times_real a (neg four64) → v ≡ complex.times b b
    → num c ∷ act prim.Flip ∷ act prim.Sub ∷ num u ∷ act prim.Mul ∷ num v ∷ act prim.Add ∷ act prim.Sqrt ∷ [] ≡ root a b c
root-words a b c {u} {v} e f =
    let d : u ≡ complex.times_real a minus_four64 = e ∙ ap (complex.times_real a) minus-four in
    rw (d, f)

pub full-words : (a b c : Complex) {u : Complex} → u ≡ complex.times_real a two64 → root a b c ++ (larger b ++ (num u ∷ act prim.Div ∷ [])) ≡ full_quadratic a b c
full-words a b c {u} e = rw e

module _ (b c : Complex) {t : Bool} (e : t ≡ complex.same c complex.zero) where
  pub linear-off : t ≡ false → num c ∷ act prim.Sub ∷ num b ∷ act prim.Div ∷ [] ≡ linear b c
  linear-off h = rw (← e) (rw h refl)

  module _ (h : t ≡ true) {u : Bool} (f : u ≡ complex.same b complex.one) where
    pub linear-one : u ≡ true → act prim.Identity ∷ [] ≡ linear b c
    linear-one g = rw (← e) (rw h (rw (← f) (rw g refl)))

    module _ (g : u ≡ false) {v : Bool} (k : v ≡ complex.abs_above_one b) where
      pub linear-above : v ≡ true → num b ∷ act prim.Div ∷ [] ≡ linear b c
      linear-above m = rw (← e) (rw h (rw (← f) (rw g (rw (← k) (rw m refl)))))

      pub linear-below : {z : Complex} → z ≡ complex.real_over one64 b → v ≡ false → num z ∷ act prim.Mul ∷ [] ≡ linear b c
      linear-below q m = ap (λ (x : Complex). num x ∷ act prim.Mul ∷ []) q ∙ rw (← e) (rw h (rw (← f) (rw g (rw (← k) (rw m refl)))))

module _ (flag : Bool) (a b c : Complex) {s t : Bool} (e : s ≡ complex.same a complex.zero) (f : t ≡ complex.same b complex.zero) where
  pub is-constant : s ≡ true → t ≡ true → of_constant c ≡ of_quadratic flag a b c
  is-constant h g = rw (← e) (rw h (rw (← f) (rw g refl)))

  pub is-linear : s ≡ true → t ≡ false → spell flag (linear b c) end ≡ of_quadratic flag a b c
  is-linear h g = rw (← e) (rw h (rw (← f) (rw g refl)))

  pub is-simple : s ≡ false → t ≡ true → spell flag (simple_quadratic a c) end ≡ of_quadratic flag a b c
  is-simple h g = rw (← e) (rw h (rw (← f) (rw g refl)))

  pub is-full : s ≡ false → t ≡ false → spell flag (full_quadratic a b c) end ≡ of_quadratic flag a b c
  is-full h g = rw (← e) (rw h (rw (← f) (rw g refl)))

-- ---- what there is besides

module _ (flag : Bool) (a b c : Complex) {o : Others} where
  pub others-none : o ≡ Nothing → of_quadratic flag a b c ≡ by_others flag a b c o
  others-none e = sym (ap (by_others flag a b c) e)

  pub others-many : o ≡ TooMuch → refused TooComplex ≡ by_others flag a b c o
  others-many e = sym (ap (by_others flag a b c) e)

  module _ {t s : Bool} (f : t ≡ complex.same b complex.zero) (e : s ≡ complex.same a complex.zero) {p : Float} {k : Complex} (n : o ≡ Power p k) where
    pub others-power : t && s ≡ true → of_power flag k p c ≡ by_others flag a b c o
    others-power h = sym (ap (by_others flag a b c) n ∙ ap (λ (u : Bool). cond u (of_power flag k p c) (refused TooComplex)) (rw (f, e) at h))

    pub others-beside : t && s ≡ false → refused TooComplex ≡ by_others flag a b c o
    others-beside h = sym (ap (by_others flag a b c) n ∙ ap (λ (u : Bool). cond u (of_power flag k p c) (refused TooComplex)) (rw (f, e) at h))
