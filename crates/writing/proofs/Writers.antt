-- The second writer beside the first: sums of powers are written as the same list, any sum is refused by both or by neither, and what either writes of a good sum is a good list.
-- Assumes nothing.
use Prim.Native.Nat.{ℕ, suc, ◌+◌, ◌*◌, ◌≤◌}
use mathlib.Core.Path.{◌≡◌, refl, sym, ap, ◌∙◌, subst}
use mathlib.Core.Bool.{Bool, true, false, not, ◌&&◌, ◌||◌, true≢false}
use mathlib.Core.List.{List}
use native.Mathlib.Omega.{arith}
use borrow.Author.Tests.{eq-eqb, eqb-true}
use lib.Dec.{eqb}
use lib.Ieee.{Float}
use Rattle.std.specs.Prelude.{Ok}
use Rattle.numbers.specs.Signs.{zero64}
use Rattle.numbers.specs.declared.complex.Complex.{Complex}
use Rattle.numbers.specs.Complex.Arith as complex
use Rattle.limits.specs.declared.Refusal.{Refusal}
use Rattle.limits.specs.declared.Refusal.TheVariants.{NotFinite}
use Rattle.sums.specs.Tree.Kinds as kinds
use Rattle.sums.specs.Tree.Sums.{Sum, none, and, size}
use Rattle.sums.specs.Contract.Place.{one_more, powers}
use Rattle.arithmetic.specs.Singles.{GoodSum}
use Rattle.formats.specs.declared.record.Primitive.TheVariants as prim
use Rattle.formats.specs.Tree.{Nodes, end, height, encode}
use Rattle.formats.specs.Rules.{verdict}
use Rattle.writing.specs.Draft.Writing.{push, does, append, one, two, Written, wrote, refused, and_then, number, number_record, can_write, if_can}
use Rattle.writing.specs.ToNodes.{Form, constant, root, bare, square, power, form, is_bare, is_constant, is_empty, function_of, before, write_power, write_term, times_coef, plus, turn, write, to_nodes}
use Rattle.writing.specs.Faithful.{behind, write_faithful, faithful}
use Rattle.writing.specs.Count.{Shape, Powers, nothing, zero, term}
use Rattle.writing.specs.Alike.{OfPowers, Alike, CountedAlike, RefusedAlike}
use Rattle.writing.proofs.Count.{record-count}
use Rattle.writing.proofs.Refusals.{only-15}
use Rattle.writing.proofs.draft.Fine.{Fine, fine_more, fine_end, fine-append, fine-good}
use Rattle.writing.proofs.Good.{wrote-is, then-wrote, levels_after, Keeps, KeepsInside, Writer, whole-fine}

-- ---- sums of powers

then_same : (w : Written) (f g : Nodes → Written) → ((ns : Nodes) → f ns ≡ g ns) → and_then w f ≡ and_then w g
then_same (wrote ns) f g h = h ns
then_same (refused q) f g h = refl

-- the argument isn't looked at where the term is a power of x
turn-same : (zero is_x : Bool) (m : Form) (k : ℕ) (p : Float) (c : Complex) (flag : Bool) (i j : Nodes → Written) (r u : Bool → Nodes → Written) (id : Bool) (ns : Nodes)
    → (zero ≡ false → is_x ≡ true) → ((id : Bool) (ms : Nodes) → r id ms ≡ u id ms) → turn zero is_x m k p c flag i r id ns ≡ turn zero is_x m k p c flag j u id ns
turn-same true is_x m k p c flag i j r u id ns h e = e id ns
turn-same false false m k p c flag i j r u id ns h e = absurd (true≢false (sym (h refl)))
turn-same false true m k p c flag i j r u id ns h e =
    let first = not id && is_empty ns in
    let times = not (complex.same c complex.one) && not (is_constant m) in
    let met = id || is_bare m in
    let go : (Bool → Nodes → Written) → Nodes → Written = λ w ls. w met (plus first ls) in
    then_same (write_power m p flag c (before first ns)) (λ ms. and_then (times_coef times flag c ms) (go r)) (λ ms. and_then (times_coef times flag c ms) (go u))
    (λ ms. then_same (times_coef times flag c ms) (go r) (go u) (λ ls. e met (plus first ls)))

write_same : (flag : Bool) (s : Sum) (id : Bool) (ns : Nodes) → OfPowers s → write_faithful flag s id ns ≡ write flag s id ns
unfolding OfPowers write_faithful write
write_same flag none id ns h = refl
write_same flag (and k p i c r) id ns h =
    turn-same (complex.same c complex.zero) (eqb k kinds.X) (form p) k p c flag (λ ms. behind (write_faithful flag i false end) ms) (λ ms. write flag i false ms)
    (λ id ms. write_faithful flag r id ms) (λ id ms. write flag r id ms) id ns (λ z. eq-eqb k kinds.X (h.0 z)) (λ id ms. write_same flag r id ms h.1)

pub alike : Alike
alike flag s h = write_same flag s false end h

of-powers : {flag : Bool} {s : Sum} {ts : List Shape} → Powers flag s ts → OfPowers s
unfolding OfPowers
of-powers nothing = tt
of-powers (zero e d) = ((λ f. absurd (true≢false (sym e ∙ f))), of-powers d)
of-powers (term z w d) = ((λ f. refl), of-powers d)

pub counted-alike : CountedAlike
counted-alike flag s ts d =
    let h = record-count d in
    record { list = h.list; written = alike flag s (of-powers d) ∙ h.written; counted = h.counted }

-- ---- refusals

-- both are lists, or both the same refusal
abbrev Agree : Written → Written → Type 0
Agree (wrote ns) (wrote ms) = Unit {0}
Agree (wrote ns) (refused q) = ⊥
Agree (refused q) (wrote ns) = ⊥
Agree (refused q) (refused o) = q ≡ o

then-agree : (w v : Written) (f g : Nodes → Written) → Agree w v → ((ns ms : Nodes) → Agree (f ns) (g ms)) → Agree (and_then w f) (and_then v g)
then-agree (wrote ns) (wrote ms) f g a h = h ns ms
then-agree (wrote ns) (refused q) f g a h = absurd a
then-agree (refused q) (wrote ns) f g a h = absurd a
then-agree (refused q) (refused o) f g a h = a

number-agree : (flag : Bool) (c : Complex) (ns ms : Nodes) → Agree (number flag c ns) (number flag c ms)
number-agree flag c ns ms = go (can_write flag c)
  where
    go : (b : Bool) → Agree (if_can b (wrote (append ns (one (number_record flag c))))) (if_can b (wrote (append ms (one (number_record flag c)))))
    go true = tt
    go false = refl

power-agree : (m : Form) (p : Float) (flag : Bool) (c : Complex) (ns ms : Nodes) → Agree (write_power m p flag c ns) (write_power m p flag c ms)
power-agree constant p flag c ns ms =
    let zeros = two (push zero64) (does prim.Mul) in
    let plused : Nodes → Written = λ ls. wrote (append ls (one (does prim.Add))) in
    then-agree (number flag c (append ns zeros)) (number flag c (append ms zeros)) plused plused (number-agree flag c (append ns zeros) (append ms zeros)) (λ ls ks. tt)
power-agree root p flag c ns ms = tt
power-agree bare p flag c ns ms = tt
power-agree square p flag c ns ms = tt
power-agree power p flag c ns ms = tt

times-agree : (b flag : Bool) (c : Complex) (ns ms : Nodes) → Agree (times_coef b flag c ns) (times_coef b flag c ms)
times-agree false flag c ns ms = tt
times-agree true flag c ns ms =
    let times : Nodes → Written = λ ls. wrote (append ls (one (does prim.Mul))) in
    then-agree (number flag c ns) (number flag c ms) times times (number-agree flag c ns ms) (λ ls ks. tt)

module _ (m : Form) (k : ℕ) (p : Float) (c : Complex) (flag : Bool) (i j : Nodes → Written) (inside : (ns ms : Nodes) → Agree (i ns) (j ms)) where
  term-agree : (is_x : Bool) (ns ms : Nodes) → Agree (write_term is_x m k p c flag i ns) (write_term is_x m k p c flag j ms)
  term-agree true ns ms = power-agree m p flag c ns ms
  term-agree false ns ms =
      let named : Nodes → Written = λ ls. wrote (append ls (function_of k p (complex.same c complex.one))) in
      then-agree (i ns) (j ms) named named (inside ns ms) (λ ls ks. tt)

  -- whatever x was met, and whatever was written so far
  turn_agree : (r u : Bool → Nodes → Written) → ((id met : Bool) (ns ms : Nodes) → Agree (r id ns) (u met ms)) → (zero is_x id met : Bool) (ns ms : Nodes)
      → Agree (turn zero is_x m k p c flag i r id ns) (turn zero is_x m k p c flag j u met ms)
  turn_agree r u rest true is_x id met ns ms = rest id met ns ms
  turn_agree r u rest false is_x id met ns ms =
      let times = not (complex.same c complex.one) && not (is_x && is_constant m) in
      let go : Bool → Bool → (Bool → Nodes → Written) → Nodes → Written = λ id first w ls. w (id || (is_x && is_bare m)) (plus first ls) in
      let f = not id && is_empty ns in
      let g = not met && is_empty ms in
      then-agree (write_term is_x m k p c flag i (before f ns)) (write_term is_x m k p c flag j (before g ms))
      (λ ls. and_then (times_coef times flag c ls) (go id f r)) (λ ls. and_then (times_coef times flag c ls) (go met g u)) (term-agree is_x (before f ns) (before g ms))
      (λ ls ks. then-agree (times_coef times flag c ls) (times_coef times flag c ks) (go id f r) (go met g u) (times-agree times flag c ls ks)
      (λ ls ks. rest (id || (is_x && is_bare m)) (met || (is_x && is_bare m)) (plus f ls) (plus g ks)))

behind-agree : (w v : Written) (ns : Nodes) → Agree w v → Agree (behind w ns) v
behind-agree (wrote ls) (wrote ms) ns a = tt
behind-agree (wrote ls) (refused q) ns a = absurd a
behind-agree (refused q) (wrote ms) ns a = absurd a
behind-agree (refused q) (refused o) ns a = a

write-agree : (flag : Bool) (s : Sum) (id met : Bool) (ns ms : Nodes) → Agree (write_faithful flag s id ns) (write flag s met ms)
unfolding write_faithful write
write-agree flag none id met ns ms = tt
write-agree flag (and k p i c r) id met ns ms =
    turn_agree (form p) k p c flag (λ ls. behind (write_faithful flag i false end) ls) (λ ls. write flag i false ls)
    (λ ls ks. behind-agree (write_faithful flag i false end) (write flag i false ks) ls (write-agree flag i false false end ks))
    (λ id ls. write_faithful flag r id ls) (λ id ls. write flag r id ls) (λ id met ls ks. write-agree flag r id met ls ks)
    (complex.same c complex.zero) (eqb k kinds.X) id met ns ms

refused-with : (w v : Written) (q : Refusal) → Agree w v → w ≡ refused q → v ≡ refused q
refused-with (wrote ns) (wrote ms) q a e = cc
refused-with (wrote ns) (refused o) q a e = absurd a
refused-with (refused r) (wrote ms) q a e = absurd a
refused-with (refused r) (refused o) q a e = cc

agree-back : (w v : Written) → Agree w v → Agree v w
agree-back (wrote ns) (wrote ms) a = tt
agree-back (wrote ns) (refused q) a = absurd a
agree-back (refused q) (wrote ns) a = absurd a
agree-back (refused q) (refused o) a = sym a

pub refused-alike : RefusedAlike
refused-alike flag s q =
    let a = write-agree flag s false false end end in
    (refused-with (faithful flag s) (to_nodes flag s) q a, refused-with (to_nodes flag s) (faithful flag s) q (agree-back (faithful flag s) (to_nodes flag s) a))

-- so the second writer too gives 15 and no other
pub faithful-15 : (flag : Bool) (s : Sum) (q : Refusal) → faithful flag s ≡ refused q → q ≡ NotFinite
faithful-15 flag s q h = only-15 flag s q ((refused-alike flag s q).0 h)

-- ---- good lists

-- an argument that was written apart
apart-fine : (w : Bool → Nodes → Written) (m : ℕ) → Keeps w m → KeepsInside (λ ns. behind (w false end) ns) m
apart-fine w m k n d ns ms few l f e =
    let h = levels_after (d + m) in
    let u = then-wrote (w false end) (λ ls. wrote (append ns ls)) ms e in
    let g = fine_more (10 * m + 2) h (k false 0 0 end u.0 (omega arith) (fine_end 0) u.1) (omega arith) (omega arith) in
    subst (Fine (n + 10 * m + 2) h) (wrote-is u.2) (fine_more (n + 10 * m + 2) h (fine-append ns u.0 (fine_more n h f (omega arith) (omega arith)) g) (omega arith) (omega arith))

second-writer : (flag : Bool) → Writer flag
unfolding write_faithful
second-writer flag = record {
  writes = λ s id ns. write_faithful flag s id ns;
  argues = λ s ns. behind (write_faithful flag s false end) ns;
  at-end = λ id ns. refl;
  at_entry = λ k p i c r id ns. refl;
  keeps-argument = λ i k. apart-fine (λ id ns. write_faithful flag i id ns) (size i) k;
}

-- what a good sum is written as is a good list
pub faithful-good : (flag : Bool) (s : Sum) (ns : Nodes) → GoodSum s → faithful flag s ≡ wrote ns → verdict (encode ns) ≡ Ok tt
unfolding second-writer write_faithful
faithful-good flag s ns g e = fine-good ns (omega arith) (omega arith) (whole-fine (second-writer flag) s ns g e)

-- no record of it lies inside more than 126 others
pub faithful-levels : (flag : Bool) (s : Sum) (ns : Nodes) → GoodSum s → faithful flag s ≡ wrote ns → height ns ≤ 127
unfolding second-writer write_faithful
faithful-levels flag s ns g e = (whole-fine (second-writer flag) s ns g e).low

-- ---- powers of x alone

none_first : (b : Bool) (n m : ℕ) → one_more b n ≡ suc m → b ≡ true
none_first true n m e = refl
none_first false n m e = absurd (omega (arith, e))

one-most : (b : Bool) (n m : ℕ) → n ≤ m → one_more b n ≤ suc m
one-most true n m h = omega arith
one-most false n m h = omega arith

most-powers : (s : Sum) → powers s ≤ size s
unfolding powers size
most-powers none = omega arith
most-powers (and l q j d r) = one-most (eqb l kinds.X) (powers r) (size j + size r) (omega (arith, most-powers r))

-- where as many powers stand first as the sum has cells, it has nothing else
pub all-powers : (s : Sum) → powers s ≡ size s → OfPowers s
unfolding OfPowers powers size
all-powers none e = tt
all-powers (and l q j d r) e =
    let x = none_first (eqb l kinds.X) (powers r) (size j + size r) e in
    let n : suc (powers r) ≡ suc (size j + size r) = ap (λ (b : Bool). one_more b (powers r)) (sym x) ∙ e in
    ((λ z. eqb-true l kinds.X x), all-powers r (omega (arith, most-powers r)))
