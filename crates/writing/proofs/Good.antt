-- What a good sum is written as is a good list, by any writer of the form that both have. An entry adds at most ten records, and two levels unless it is the first. Assumes nothing.
use Prim.Native.Nat.{ℕ, zero, suc, ◌+◌, ◌-◌, ◌*◌, ◌≤◌, ◌<◌, max}
use mathlib.Core.Path.{◌≡◌, refl, sym, ◌∙◌, subst}
use mathlib.Core.Bool.{Bool, true, false, not, ◌&&◌, ◌||◌}
use native.Mathlib.Omega.{arith}
use lib.Dec.{T, eqb}
use lib.Ieee.{Float, binary64, fits}
use lib.Ieee.Bits.{of_bits-fits}
use lib.Ieee.Fits.{and_r}
use lib.Ieee.Scale.{finite}
use Rattle.std.specs.Prelude.{Ok}
use Rattle.numbers.specs.Signs.{zero64, one64}
use Rattle.numbers.specs.declared.complex.Complex.{Complex}
use Rattle.numbers.specs.Complex.Arith as complex
use Rattle.sums.specs.Tree.Kinds as kinds
use Rattle.sums.specs.Tree.Sums.{Sum, none, and, size}
use Rattle.sums.specs.Tree.Good.{Good}
use Rattle.arithmetic.specs.Singles.{GoodSum}
use Rattle.formats.specs.declared.record.Primitive.{Primitive}
use Rattle.formats.specs.declared.record.Primitive.TheVariants as prim
use Rattle.formats.specs.Names.{choose}
use Rattle.formats.specs.Tree.{Nodes, end, rec, height, encode}
use Rattle.formats.specs.Rules.{verdict}
use Rattle.writing.specs.Draft.Writing.{push, does, append, one, two, Written, wrote, refused, and_then, number, number_record, can_write, if_can}
use Rattle.writing.proofs.draft.Fine.{Fine, fine_more, fine_end, fine-one, fine-append, fine-two, fine-say, fine-wrapped, fine-good, plain-does, plain_push, plain-number}
use Rattle.writing.specs.ToNodes.{Form, constant, root, bare, square, power, form, is_bare, is_constant, is_empty, primitive_for, function_of, before, write_power, write_term, times_coef, plus, close, turn, write, to_nodes}

-- ---- what is written is written in parts

pub wrote-is : {a b : Nodes} → wrote a ≡ wrote b → a ≡ b
wrote-is h = cc

never : {A : Type 0} {a : Nodes} (w : Written) → w ≡ wrote a → (q : _) → w ≡ refused q → A
never w h q e = let z : ◌≡◌ {A = ℕ} 0 1 = cc in absurd (omega arith)

pub then-wrote : (w : Written) (f : Nodes → Written) (ns : Nodes) → and_then w f ≡ wrote ns → (ms : Nodes) × (w ≡ wrote ms) × (f ms ≡ wrote ns)
then-wrote (wrote ms) f ns h = (ms, refl, h)
then-wrote (refused q) f ns h = never (refused q) h q refl

pub if-wrote : (b : Bool) (w : Written) (ns : Nodes) → if_can b w ≡ wrote ns → w ≡ wrote ns
if-wrote true w ns h = h
if-wrote false w ns h = never (if_can false w) h _ refl

-- ---- the parts of a term

module _ (h : ℕ) (low : 1 ≤ h) where
  -- the numbers of a term fit
  module _ (p : Float) (c : Complex) (fp : T (fits binary64 p)) (fr : T (fits binary64 c.re)) (fi : T (fits binary64 c.im)) where
    number-fine : (flag : Bool) (n : ℕ) (ns ms : Nodes) → Fine n h ns → number flag c ns ≡ wrote ms → Fine (n + 1) h ms
    number-fine flag n ns ms f e =
        subst (Fine (n + 1) h) (wrote-is (if-wrote (can_write flag c) (wrote (append ns (one (number_record flag c)))) ms e))
        (fine-say ns (number_record flag c) f low (plain-number flag c fr fi))

    power-fine : (m : Form) (flag : Bool) (n : ℕ) (ns ms : Nodes) → Fine n h ns → write_power m p flag c ns ≡ wrote ms → Fine (n + 4) h ms
    power-fine constant flag n ns ms f e =
        let w = then-wrote (number flag c (append ns (two (push zero64) (does prim.Mul)))) (λ ls. wrote (append ls (one (does prim.Add)))) ms e in
        let g = fine-append ns (two (push zero64) (does prim.Mul)) f (fine-two h (push zero64) (does prim.Mul) low (plain_push zero64 (of_bits-fits binary64 0)) (plain-does prim.Mul)) in
        let k = number-fine flag (n + 2) (append ns (two (push zero64) (does prim.Mul))) w.0 g w.1 in
        subst (Fine (n + 4) h) (wrote-is w.2) (fine_more (n + 4) h (fine-say w.0 (does prim.Add) k low (plain-does prim.Add)) (omega arith) (omega arith))
    power-fine root flag n ns ms f e =
        subst (Fine (n + 4) h) (wrote-is e) (fine_more (n + 4) h (fine-say ns (does prim.Sqrt) f low (plain-does prim.Sqrt)) (omega arith) (omega arith))
    power-fine bare flag n ns ms f e = subst (Fine (n + 4) h) (wrote-is e) (fine_more (n + 4) h f (omega arith) (omega arith))
    power-fine square flag n ns ms f e =
        subst (Fine (n + 4) h) (wrote-is e)
        (fine_more (n + 4) h (fine-append ns (two (does prim.Dup) (does prim.Mul)) f (fine-two h (does prim.Dup) (does prim.Mul) low (plain-does prim.Dup) (plain-does prim.Mul)))
        (omega arith) (omega arith))
    power-fine power flag n ns ms f e =
        subst (Fine (n + 4) h) (wrote-is e)
        (fine_more (n + 4) h (fine-append ns (two (push p) (does prim.Pow)) f (fine-two h (push p) (does prim.Pow) low (plain_push p fp) (plain-does prim.Pow))) (omega arith) (omega arith))

    times-fine : (b flag : Bool) (n : ℕ) (ns ms : Nodes) → Fine n h ns → times_coef b flag c ns ≡ wrote ms → Fine (n + 2) h ms
    times-fine false flag n ns ms f e = subst (Fine (n + 2) h) (wrote-is e) (fine_more (n + 2) h f (omega arith) (omega arith))
    times-fine true flag n ns ms f e =
        let w = then-wrote (number flag c ns) (λ ls. wrote (append ls (one (does prim.Mul)))) ms e in
        subst (Fine (n + 2) h) (wrote-is w.2)
        (fine_more (n + 2) h (fine-say w.0 (does prim.Mul) (number-fine flag n ns w.0 f w.1) low (plain-does prim.Mul)) (omega arith) (omega arith))

    choose-fine : (b : Bool) (n : ℕ) (xs ys : Nodes) → Fine n h xs → Fine n h ys → Fine n h (choose b xs ys)
    choose-fine true n xs ys f g = f
    choose-fine false n xs ys f g = g

    one-fine : (r : Primitive) → Fine 3 h (one (does r))
    one-fine r = fine_more 3 h (fine-one h (does r) low (plain-does r)) (omega arith) (omega arith)

    function-fine : (k : ℕ) (unit : Bool) → Fine 3 h (function_of k p unit)
    unfolding append
    function-fine k unit =
        choose-fine (eqb k kinds.Div) 3 _ _
        (choose-fine unit 3 _ _ (one-fine prim.Reciprocal)
        (fine-append (one (push one64)) (two (does prim.Flip) (does prim.Div))
        (fine-one h (push one64) low (plain_push one64 (of_bits-fits binary64 0x3ff0000000000000))) (fine-two h (does prim.Flip) (does prim.Div) low (plain-does prim.Flip) (plain-does prim.Div))))
        (choose-fine (eqb k kinds.Log) 3 _ _ (fine_more 3 h (fine-two h (push p) (does prim.Log) low (plain_push p fp) (plain-does prim.Log)) (omega arith) (omega arith))
        (one-fine (primitive_for k)))

  plus-fine : (b : Bool) (n : ℕ) (ns : Nodes) → Fine n h ns → Fine (n + 1) h (plus b ns)
  plus-fine true n ns f = fine_more (n + 1) h f (omega arith) (omega arith)
  plus-fine false n ns f = fine-say ns (does prim.Add) f low (plain-does prim.Add)

  close-fine : (b : Bool) (n : ℕ) (ns : Nodes) → Fine n h ns → Fine (n + 2) h (close b ns)
  close-fine b n (rec r xs ys) f = fine_more (n + 2) h f (omega arith) (omega arith)
  close-fine true n end f = fine_more (n + 2) h (fine-one h (does prim.Identity) low (plain-does prim.Identity)) (omega arith) (omega arith)
  close-fine false n end f =
      fine_more (n + 2) h (fine-two h (push zero64) (does prim.Mul) low (plain_push zero64 (of_bits-fits binary64 0)) (plain-does prim.Mul)) (omega arith) (omega arith)

-- ---- the whole sum, by any writer

-- So many records at most stand one inside the other after d entries, insides counted: what the first writes lies in nothing, and each that follows sets what came before it two
-- levels down.
abbrev pub levels_after : ℕ → ℕ
levels_after d = 2 * d - 1

before-fine : (b : Bool) (n d : ℕ) (ns : Nodes) → n < 4294967295 → Fine n (levels_after d) ns → Fine (n + 2) (levels_after (d + 1)) (before b ns)
unfolding height
before-fine true n d ns a f = fine_more (n + 2) (levels_after (d + 1)) f (omega arith) (omega arith)
before-fine false n d end a f = fine_more (n + 2) (levels_after (d + 1)) (fine-one 1 (does prim.Dup) (omega arith) (plain-does prim.Dup)) (omega arith) (omega arith)
before-fine false n d (rec r xs ys) a f =
    let one-level : 1 ≤ levels_after d = omega (arith, f.low) in
    fine_more (n + 2) (levels_after (d + 1)) (fine-wrapped (rec r xs ys) a f) (omega arith) (omega arith)

-- writing m entries keeps lists fine, with so many records and levels more; so does writing an argument of m entries, which stands in an entry
abbrev pub Keeps : (Bool → Nodes → Written) → ℕ → Type 0
Keeps w m = (id : Bool) (n d : ℕ) (ns ms : Nodes) → n + 10 * m < 4294967295 → Fine n (levels_after d) ns → w id ns ≡ wrote ms → Fine (n + 10 * m + 2) (levels_after (max 1 (d + m))) ms

abbrev pub KeepsInside : (Nodes → Written) → ℕ → Type 0
KeepsInside w m = (n d : ℕ) (ns ms : Nodes) → n + 10 * m < 4294967295 → 1 ≤ d → Fine n (levels_after d) ns → w ns ≡ wrote ms → Fine (n + 10 * m + 2) (levels_after (d + m)) ms

module _ (flag : Bool) (k : ℕ) (p : Float) (c : Complex) (fp : T (fits binary64 p)) (fr : T (fits binary64 c.re)) (fi : T (fits binary64 c.im))
    (inside : Nodes → Written) (a : ℕ) (keeps-inside : KeepsInside inside a) (rest : Bool → Nodes → Written) (b : ℕ) (keeps-rest : Keeps rest b) where
  term-fine : (is_x : Bool) (n d : ℕ) (ns ms : Nodes) → n + 10 * a < 4294967295 → 1 ≤ d → Fine n (levels_after d) ns → write_term is_x (form p) k p c flag inside ns ≡ wrote ms
      → Fine (n + 10 * a + 5) (levels_after (d + a)) ms
  term-fine true n d ns ms few l f e =
      fine_more (n + 10 * a + 5) (levels_after (d + a)) (power-fine (levels_after d) (omega arith) p c fp fr fi (form p) flag n ns ms f e) (omega arith) (omega arith)
  term-fine false n d ns ms few l f e =
      let unit = complex.same c complex.one in
      let w = then-wrote (inside ns) (λ ls. wrote (append ls (function_of k p unit))) ms e in
      let g = keeps-inside n d ns w.0 few l f w.1 in
      subst (Fine (n + 10 * a + 5) (levels_after (d + a))) (wrote-is w.2)
      (fine_more (n + 10 * a + 5) (levels_after (d + a)) (fine-append w.0 (function_of k p unit) g (function-fine (levels_after (d + a)) (omega arith) p c fp fr fi k unit)) (omega arith)
      (omega arith))

  turn-fine : (zero is_x : Bool) → Keeps (turn zero is_x (form p) k p c flag inside rest) (1 + a + b)
  turn-fine true is_x id n d ns ms few f e =
      fine_more (n + 10 * (1 + a + b) + 2) (levels_after (max 1 (d + (1 + a + b)))) (keeps-rest id n d ns ms (omega arith) f e) (omega arith) (omega arith)
  turn-fine false is_x id n d ns ms few f e =
      let first = not id && is_empty ns in
      let times = not (complex.same c complex.one) && not (is_x && is_constant (form p)) in
      let met = id || (is_x && is_bare (form p)) in
      let after : Nodes → Written = λ ls. rest met (plus first ls) in
      let w = then-wrote (write_term is_x (form p) k p c flag inside (before first ns)) (λ ls. and_then (times_coef times flag c ls) after) ms e in
      let v = then-wrote (times_coef times flag c w.0) after ms w.2 in
      let h = levels_after (d + 1 + a) in
      let f₁ = before-fine first n d ns (omega arith) f in
      let f₂ = term-fine is_x (n + 2) (d + 1) (before first ns) w.0 (omega arith) (omega arith) f₁ w.1 in
      let f₃ = times-fine h (omega arith) p c fp fr fi times flag (n + 2 + 10 * a + 5) w.0 v.0 f₂ v.1 in
      let f₄ = plus-fine h (omega arith) first (n + 2 + 10 * a + 5 + 2) v.0 f₃ in
      fine_more (n + 10 * (1 + a + b) + 2) (levels_after (max 1 (d + (1 + a + b))))
      (keeps-rest met (n + 2 + 10 * a + 5 + 2 + 1) (d + 1 + a) (plus first v.0) ms (omega arith) f₄ v.2) (omega arith) (omega arith)

good-fits : (x : Float) → T (finite x && fits binary64 x) → T (fits binary64 x)
good-fits x t = and_r (finite x) (fits binary64 x) t

-- a writer: the turns of the Rust's loop, with a way to write arguments that keeps lists fine where the writer itself does
pub record Writer (flag : Bool) : Type 0 where
  pub writes : Sum → Bool → Nodes → Written
  pub argues : Sum → Nodes → Written
  pub at-end : (id : Bool) (ns : Nodes) → writes none id ns ≡ wrote (close id ns)
  pub at_entry : (k : ℕ) (p : Float) (i : Sum) (c : Complex) (r : Sum) (id : Bool) (ns : Nodes)
      → writes (and k p i c r) id ns ≡ turn (complex.same c complex.zero) (eqb k kinds.X) (form p) k p c flag (argues i) (writes r) id ns
  pub keeps-argument : (i : Sum) → Keeps (writes i) (size i) → KeepsInside (argues i) (size i)

keeps : {flag : Bool} (w : Writer flag) (left : ℕ) (s : Sum) → Good left s → Keeps (w.writes s) (size s)
unfolding Good size
keeps w left none g id n d ns ms few f e =
    let h = levels_after (max 1 (d + 0)) in
    let c = close-fine h (omega arith) id n ns (fine_more n h f (omega arith) (omega arith)) in
    subst (Fine (n + 0 + 2) h) (wrote-is (sym (w.at-end id ns) ∙ e)) (fine_more (n + 0 + 2) h c (omega arith) (omega arith))
keeps w zero (and k p i c r) g id n d ns ms few f e = absurd g
keeps {flag} w (suc left) (and k p i c r) g id n d ns ms few f e =
    fine_more (n + 10 * size (and k p i c r) + 2) (levels_after (max 1 (d + size (and k p i c r))))
    (turn-fine flag k p c (good-fits p g.0.number) (good-fits c.re g.0.re) (good-fits c.im g.0.im) (w.argues i) (size i)
    (w.keeps-argument i (keeps w left i g.1)) (w.writes r) (size r) (keeps w (suc left) r g.3) (complex.same c complex.zero) (eqb k kinds.X) id n d ns ms (omega arith) f
    (sym (w.at_entry k p i c r id ns) ∙ e)) (omega arith) (omega arith)

-- a good sum is written as at most 642 records, of which none lies inside more than 126 others
pub whole-fine : {flag : Bool} (w : Writer flag) (s : Sum) (ns : Nodes) → GoodSum s → w.writes s false end ≡ wrote ns → Fine 642 127 ns
whole-fine w s ns g e =
    fine_more 642 127 (keeps w 4 s g.good false 0 0 end ns (omega (arith, g.room)) (fine_end 0) e) (omega (arith, g.room)) (omega (arith, g.room))

-- ---- the first writer

first-writer : (flag : Bool) → Writer flag
unfolding write
first-writer flag = record {
  writes = λ s id ns. write flag s id ns;
  argues = λ s ns. write flag s false ns;
  at-end = λ id ns. refl;
  at_entry = λ k p i c r id ns. refl;
  keeps-argument = λ i k n d ns ms few l f e. fine_more (n + 10 * size i + 2) (levels_after (d + size i)) (k false n d ns ms few f e) (omega arith) (omega arith);
}

-- what a good sum is written as is a good list
pub written-good : (flag : Bool) (s : Sum) (ns : Nodes) → GoodSum s → to_nodes flag s ≡ wrote ns → verdict (encode ns) ≡ Ok tt
unfolding first-writer write
written-good flag s ns g e = fine-good ns (omega arith) (omega arith) (whole-fine (first-writer flag) s ns g e)
