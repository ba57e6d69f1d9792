-- Turns of the writer's loop, one after the other: what is left of the sum decides. Assumes nothing.
use Prim.Native.Nat.{ℕ, ◌+◌, ◌-◌, ◌*◌, ◌≤◌, ◌<◌}
use native.Mathlib.Omega.{arith}
use mathlib.Core.Path.{◌≡◌, refl, sym, ap, subst, ◌∙◌}
use mathlib.Core.Bool.{Bool, true, false, not, ◌&&◌, ◌||◌}
use mathlib.Core.List.{List}
use borrow.Author.Tests.{eq-eqb, ne_eqb}
use lib.Dec.{T, eqb}
use lib.Ieee.{Float}
use lib.Ieee.Fits.{and_l}
use lib.Ieee.Scale.{finite}
use Rattle.numbers.specs.declared.complex.Complex.{Complex}
use Rattle.numbers.specs.Complex.Arith as complex
use Rattle.cells.specs.declared.Entry.{Entry}
use Rattle.cells.specs.Contract.Book.{Book, Room, Plain, at}
use Rattle.limits.specs.declared.Refusal.{Refusal}
use Rattle.sums.specs.Tree.Kinds as kinds
use Rattle.sums.specs.Tree.Sums.{Sum, none, and}
use Rattle.sums.specs.Contract.Lies.{Lies, Held}
use Rattle.sums.proofs.order.Walk.{Next, next, next-at, lies-none}
use Rattle.formats.specs.Tree.{Nodes}
use Rattle.writing.specs.declared.draft.Draft.{Draft}
use Rattle.std.specs.Prelude.{Result, Ok, Err}
use Rattle.writing.specs.Draft.Writing.{append, Written, wrote, refused, and_then}
use Rattle.writing.specs.Draft.Contract.Growing.{Ready, Drawn, Spoken}
use Rattle.writing.proofs.draft.Growing.{ready-less, ready-spoken, drawn-done, drawn-as, drawn-then, spoken-none, spoken-as, spoken-more, spoken-then, spoken-stop}
use Rattle.writing.specs.ToNodes.{Form, form, is_bare, is_constant, function_of, is_empty, before, write_power, write_term, times_coef, plus, close, turn, write}
use Rattle.writing.specs.Faithful.{write_faithful}
use Rattle.writing.specs.Contract.Turns.{is_x, meets_x, term_by, finished, entry_by, on_list, apart, Loop}
use Rattle.writing.proofs.Parts.{empty-draft, spoken-where}

-- ---- an entry, whose argument takes at most `most` + 2 places behind what was written

module _ (x : Entry) (flag : Bool) (inside : Nodes → Written) (most : ℕ) where
  abbrev n : ℕ
  n = x.inside

  abbrev Term : List ℕ → List ℕ → Draft → Result Draft Refusal → Type 0
  Term b b' d s = Spoken b b' d s (2 * n) (most + 5) (λ ns. term_by flag x inside ns)

  term-as : {b b' : List ℕ} {d : Draft} {s : Result Draft Refusal} (v : Bool) → is_x x ≡ v
      → Spoken b b' d s (2 * n) (most + 5) (λ ns. write_term v (form x.num) x.kind x.num x.coef flag inside ns) → Term b b' d s
  term-as v e k = spoken-as k (λ ns. term_by flag x inside ns) (λ ns. ap (λ (w : Bool). write_term w (form x.num) x.kind x.num x.coef flag inside ns) (sym e))

  -- a power of x
  pub term-power : {b b' : List ℕ} {d : Draft} {s : Result Draft Refusal} → x.kind ≡ kinds.X → Spoken b b' d s 0 4 (λ ns. write_power (form x.num) x.num flag x.coef ns) → Term b b' d s
  term-power e k = term-as true (eq-eqb x.kind kinds.X e) (spoken-more k (2 * n) (most + 5) (omega arith) (omega arith))

  -- a function, after its argument
  module _ {b b' : List ℕ} {d : Draft} {s : Result Draft Refusal} (e : x.kind ≡ kinds.X → ⊥) (k : Spoken b b' d s (2 * n) (most + 2) (λ ns. inside ns)) where
    abbrev unit : Bool
    unit = complex.same x.coef complex.one

    pub term-stop : (o : Refusal) → s ≡ Err o → Term b b' d (Err o)
    term-stop o h = term-as false (ne_eqb x.kind kinds.X e) (spoken-stop k o h (λ ms. wrote (append ms (function_of x.kind x.num unit))) (2 * n) (most + 5))

    pub term-function : {b'' : List ℕ} {q r : Draft} {u : Bool} → s ≡ Ok q → u ≡ unit
        → Drawn b' b'' q r 0 3 (λ ns. append ns (function_of x.kind x.num u)) → Term b b'' d (Ok r)
    term-function h m w =
        term-as false (ne_eqb x.kind kinds.X e)
        (spoken-more
        (spoken-then k h (drawn-done (drawn-as w (λ ns. append ns (function_of x.kind x.num unit)) (λ ns. ap (λ (z : Bool). append ns (function_of x.kind x.num z)) m))))
        (2 * n) (most + 5) (omega arith) (omega arith))

  -- ---- its whole turn

  module _ (id : Bool) where
    abbrev Turn : List ℕ → List ℕ → Draft → Result Draft Refusal → Type 0
    Turn b b' d s = Spoken b b' d s (2 * n + 2) (most + 9) (λ ns. entry_by flag id x inside ns)

    abbrev turn-of : Bool → Nodes → Written
    turn-of z ns = turn z (is_x x) (form x.num) x.kind x.num x.coef flag inside (λ i ms. wrote ms) id ns

    pub turn-zero : {b : List ℕ} {d : Draft} → complex.same x.coef complex.zero ≡ true → Turn b b d (Ok d)
    turn-zero e = spoken-as (spoken-more spoken-none (2 * n + 2) (most + 9) (omega arith) (omega arith)) (λ ns. entry_by flag id x inside ns) (λ ns. ap (λ (z : Bool). turn-of z ns) (sym e))

    module _ {b b₁ b₂ : List ℕ} {d q : Draft} {s : Result Draft Refusal} {first : Bool} (e : complex.same x.coef complex.zero ≡ false) (f : first ≡ (not id && eqb d.from d.end))
        (u : Drawn b b₁ d q 2 1 (λ ns. before first ns)) (k : Term b₁ b₂ q s) where
      as-turn : {b' : List ℕ} {r : Result Draft Refusal}
          → Spoken b b' d r (2 * n + 2) (most + 9) (λ ns. and_then (term_by flag x inside (before first ns)) (λ ms. finished flag first x ms)) → Turn b b' d r
      as-turn w =
          spoken-where w (λ ns. entry_by flag id x inside ns)
          (λ ns l.
          ap (λ (v : Bool). and_then (term_by flag x inside (before v ns)) (λ ms. finished flag v x ms)) (f ∙ ap (λ (v : Bool). not id && v) (sym (empty-draft d ns l)))
          ∙ ap (λ (z : Bool). turn-of z ns) (sym e))

      pub turn-stop : (o : Refusal) → s ≡ Err o → Turn b b₂ d (Err o)
      turn-stop o h = as-turn (spoken-more (drawn-then u (spoken-stop k o h (λ ms. finished flag first x ms) 0 0)) (2 * n + 2) (most + 9) (omega arith) (omega arith))

      pub turn_more : {b₃ : List ℕ} {p : Draft} {r : Result Draft Refusal} → s ≡ Ok p → Spoken b₂ b₃ p r 0 3 (λ ns. finished flag first x ns) → Turn b b₃ d r
      turn_more h w = as-turn (spoken-more (drawn-then u (spoken-then k h w)) (2 * n + 2) (most + 9) (omega arith) (omega arith))

-- ---- the definition, a turn at a time

or-false : (b : Bool) → (b || false) ≡ b
or-false true = refl
or-false false = refl

then-join : (w : Written) (f g : Nodes → Written) → and_then w (λ ms. and_then (f ms) g) ≡ and_then (and_then w f) g
then-join (wrote ms) f g = refl
then-join (refused q) f g = refl

module _ (isx : Bool) (m : Form) (k : ℕ) (p : Float) (c : Complex) (flag : Bool) (inside : Nodes → Written) (rest : Bool → Nodes → Written) where
  turn-then : (z id : Bool) (ns : Nodes) → turn z isx m k p c flag inside rest id ns ≡ and_then (turn z isx m k p c flag inside (λ i ms. wrote ms) id ns)
      (λ ms. rest (id || (not z && (isx && is_bare m))) ms)
  turn-then true id ns = ap (λ (i : Bool). rest i ns) (sym (or-false id))
  turn-then false id ns =
      let first = not id && is_empty ns in
      let times = not (complex.same c complex.one) && not (isx && is_constant m) in
      let after : Nodes → Written = λ ms. rest (id || (isx && is_bare m)) ms in
      let coef : Nodes → Written = λ ms. and_then (times_coef times flag c ms) (λ ls. wrote (plus first ls)) in
      ap (λ (g : Nodes → Written). and_then (write_term isx m k p c flag inside (before first ns)) g) (λ i ms. then-join (times_coef times flag c ms) (λ ls. wrote (plus first ls)) after i)
      ∙ then-join (write_term isx m k p c flag inside (before first ns)) coef after

-- the two writers
module _ (flag : Bool) where
  pub rust-nothing : (id : Bool) (ns : Nodes) → write flag none id ns ≡ wrote (close id ns)
  unfolding write
  rust-nothing id ns = refl

  pub rust-entry : (k : ℕ) (p : Float) (i : Sum) (c : Complex) (r : Sum) (id : Bool) (ns : Nodes)
      → write flag (and k p i c r) id ns ≡ turn (complex.same c complex.zero) (eqb k kinds.X) (form p) k p c flag (λ ms. on_list flag i ms) (λ j ms. write flag r j ms) id ns
  unfolding write
  rust-entry k p i c r id ns = refl

  pub faithful-nothing : (id : Bool) (ns : Nodes) → write_faithful flag none id ns ≡ wrote (close id ns)
  unfolding write_faithful
  faithful-nothing id ns = refl

  pub faithful-entry : (k : ℕ) (p : Float) (i : Sum) (c : Complex) (r : Sum) (id : Bool) (ns : Nodes)
      → write_faithful flag (and k p i c r) id ns ≡ turn (complex.same c complex.zero) (eqb k kinds.X) (form p) k p c flag (λ ms. apart flag i ms) (λ j ms. write_faithful flag r j ms) id ns
  unfolding write_faithful
  faithful-entry k p i c r id ns = refl

abbrev pub rust-loop : Bool → Loop
rust-loop flag = record {
  flag = flag;
  whole = λ s id ns. write flag s id ns;
  inside = on_list flag;
  nothing = rust-nothing flag;
  entry = rust-entry flag;
  places = λ n. 9 * n;
  step = λ a n. omega arith;
  rises = λ a b h. omega arith;
}

abbrev pub faithful-loop : Bool → Loop
faithful-loop flag = record {
  flag = flag;
  whole = λ s id ns. write_faithful flag s id ns;
  inside = apart flag;
  nothing = faithful-nothing flag;
  entry = faithful-entry flag;
  places = λ n. 10 * n;
  step = λ a n. omega arith;
  rises = λ a b h. omega arith;
}

module _ (W : Loop) (x : Entry) (i r : Sum) where
  next-turn : (id : Bool) (ns : Nodes) → W.whole (and x.kind x.num i x.coef r) id ns ≡ and_then (entry_by W.flag id x (W.inside i) ns) (λ ms. W.whole r (id || meets_x x) ms)
  next-turn id ns =
      W.entry x.kind x.num i x.coef r id ns
      ∙ turn-then (is_x x) (form x.num) x.kind x.num x.coef W.flag (λ ms. W.inside i ms) (λ j ms. W.whole r j ms) (complex.same x.coef complex.zero) id ns

-- ---- the loop

-- the entries of s before place q were written: the draft was d₀ in b₀, and is d in b
pub record Left (b₀ b : List ℕ) (d₀ d : Draft) (a : Book) (j q e left : ℕ) (W : Loop) (id : Bool) (s : Sum) : Type 0 where
  pub rest : Sum
  pub lies : Lies a q e left rest
  pub passed : ℕ
  pub here : j + passed ≡ q
  pub so_far : Nodes → Written
  pub spoken : Spoken b₀ b d₀ (Ok d) (2 * passed) (W.places passed) so_far
  pub same : (ns : Nodes) → W.whole s false ns ≡ and_then (so_far ns) (λ ms. W.whole rest id ms)

pub outset : {b : List ℕ} {d : Draft} {a : Book} {j e left : ℕ} {W : Loop} {s : Sum} → Lies a j e left s → Left b b d d a j j e left W false s
outset {W = W} {s = s} l =
    record { rest = s; lies = l; passed = 0; here = omega arith; so_far = λ ns. wrote ns; spoken = spoken-more spoken-none 0 (W.places 0) (omega arith) (omega arith); same = λ ns. refl }

module _ {b₀ b : List ℕ} {d₀ d : Draft} {a : Book} {j q left : ℕ} {W : Loop} {id : Bool} {s : Sum} (m : ℕ) (w : Left b₀ b d₀ d a j q (j + m) left W id s) where
  -- the next entry, which was read
  module _ (x : Entry) (h : x ≡ at a q) (g : q < j + m) where
    pub first : Next a q (j + m) left w.rest x
    first = next a q (j + m) left w.rest x h w.lies g

    -- its power or base is finite
    pub number-finite : T (finite x.num)
    number-finite = and_l (finite x.num) _ first.first.entry-good.number

    -- the entry has the room that it may take, and what was there beside it
    pub turn-ready : (more : ℕ) → Ready b₀ d₀ (2 * m) (W.places m + 2 + more) → Ready b d (2 * x.inside + 2) (W.places x.inside + 9 + more)
    turn-ready more r =
        let i = first.within in
        let p = w.here in
        let s = W.step w.passed x.inside in
        let t = W.rises (w.passed + 1 + x.inside) m (omega arith) in
        ready-spoken r w.spoken refl (2 * x.inside + 2) (W.places x.inside + 9 + more) (omega arith) (omega arith)

    module _ {b' : List ℕ} {o : Result Draft Refusal} (f : (t : Sum) → Lies a (q + 1) (q + 1 + x.inside) (left - 1) t → Spoken b b' d o (2 * x.inside + 2) (W.places x.inside + 9)
        (λ ns. entry_by W.flag id x (W.inside t) ns)) where
      abbrev now-written : Nodes → Written
      now-written ns = and_then (w.so_far ns) (λ ms. entry_by W.flag id x (W.inside first.inner) ms)

      now-spoken : Spoken b₀ b' d₀ o (2 * w.passed + (2 * x.inside + 2)) (W.places w.passed + (W.places x.inside + 9)) now-written
      now-spoken = spoken-then w.spoken refl (f first.inner first.lies-inner)

      now-same : (ns : Nodes) → W.whole s false ns ≡ and_then (now-written ns) (λ ms. W.whole first.rest (id || meets_x x) ms)
      now-same ns =
          w.same ns
          ∙ ap (λ (u : Sum). and_then (w.so_far ns) (λ ms. W.whole u id ms)) first.is
          ∙ ap (λ (u : Nodes → Written). and_then (w.so_far ns) u) (λ i ms. next-turn W x first.inner first.rest id ms i)
          ∙ then-join (w.so_far ns) (λ ms. entry_by W.flag id x (W.inside first.inner) ms) (λ ms. W.whole first.rest (id || meets_x x) ms)

      pub left-stop : (z : Refusal) → o ≡ Err z → Spoken b₀ b' d₀ (Err z) (2 * m) (W.places m + 2) (λ ns. W.whole s false ns)
      left-stop z e = spoken-as (spoken-stop now-spoken z e (λ ms. W.whole first.rest (id || meets_x x) ms) (2 * m) (W.places m + 2)) (λ ns. W.whole s false ns) (λ ns. sym (now-same ns))

      pub left-more : {d' : Draft} {v : Bool} → o ≡ Ok d' → v ≡ meets_x x → Left b₀ b' d₀ d' a j (q + 1 + x.inside) (j + m) left W (id || v) s
      left-more {d'} {v} e k =
          record {
            rest = first.rest;
            lies = first.lies-rest;
            passed = w.passed + 1 + x.inside;
            here = omega (arith, w.here);
            so_far = now-written;
            spoken = spoken-more (subst (λ (z : Result Draft Refusal). Spoken b₀ b' d₀ z (2 * w.passed + (2 * x.inside + 2)) (W.places w.passed + (W.places x.inside + 9)) now-written) e now-spoken)
                (2 * (w.passed + 1 + x.inside)) (W.places (w.passed + 1 + x.inside)) (omega arith) (W.step w.passed x.inside);
            same = λ ns. now-same ns ∙ ap (λ (z : Bool). and_then (now-written ns) (λ ms. W.whole first.rest (id || z) ms)) (sym k);
          }

  -- nothing is left
  module _ (g : j + m ≤ q) where
    all-passed : w.passed ≤ m
    all-passed = omega (arith, w.here, w.lies.ends)

    pub close-ready : Ready b₀ d₀ (2 * m) (W.places m + 2) → Ready b d 0 2
    close-ready r = let p = W.rises w.passed m all-passed in
        let f = all-passed in ready-spoken r w.spoken refl 0 2 (omega arith) (omega arith)

    pub left_end : {b' : List ℕ} {r : Draft} → Drawn b b' d r 0 2 (λ ns. close id ns) → Spoken b₀ b' d₀ (Ok r) (2 * m) (W.places m + 2) (λ ns. W.whole s false ns)
    left_end k =
        let p = W.rises w.passed m all-passed in
        let f = all-passed in
        spoken-as (spoken-more (spoken-then w.spoken refl (drawn-done k)) (2 * m) (W.places m + 2) (omega arith) (omega arith)) (λ ns. W.whole s false ns)
        (λ ns. sym (w.same ns ∙ ap (λ (u : Sum). and_then (w.so_far ns) (λ ms. W.whole u id ms)) (lies-none a q (j + m) left w.rest w.lies g) ∙ ap
        (λ (u : Nodes → Written). and_then (w.so_far ns) u) (λ i ms. W.nothing id ms i)))

-- ---- the loop over a sum that is held, whichever of the two writers it is

module _ {b₀ b : List ℕ} {d₀ d : Draft} {a : Book} {j q left : ℕ} {W : Loop} {id : Bool} (m : ℕ) (h : Held a j (j + m) left)
    (w : (s : Sum) → Lies a j (j + m) left s → Left b₀ b d₀ d a j q (j + m) left W id s) where
  held-left : Left b₀ b d₀ d a j q (j + m) left W id h.0
  held-left = w h.0 h.1

  module _ (g : q < j + m) where
    -- the next entry can be read
    pub held-readable : Room a (q + 1) × Plain (at a q)
    held-readable = let n = next-at a q (j + m) left held-left.rest held-left.lies g in (n.readable, n.first.plain)

    module _ (x : Entry) (e : x ≡ at a q) where
      held-first : Next a q (j + m) left held-left.rest x
      held-first = first m held-left x e g

      pub held-finite : T (finite x.num)
      held-finite = number-finite m held-left x e g

      -- there is a level left for its inside
      pub held-deep : 1 ≤ left
      held-deep = held-first.first.deep

      -- it has fewer cells inside than the sum has
      pub held-few : x.inside ≤ m
      held-few = let p = held-first.within in let o = held-left.here in omega arith

      -- what its turn asks
      pub held-turn : (more back : ℕ) → Ready b₀ d₀ (2 * m) (W.places m + 2 + more) → back ≤ W.places x.inside + 9 + more
          → Held a (q + 1) (q + 1 + x.inside) (left - 1) × Ready b d (2 * x.inside + 2) back
      held-turn more back r o = ((held-first.inner, held-first.lies-inner), ready-less (turn-ready m held-left x e g more r) (omega arith) o)

  -- what closing asks, where nothing is left
  pub held-close : j + m ≤ q → Ready b₀ d₀ (2 * m) (W.places m + 2) → Ready b d 0 2
  held-close g r = close-ready m held-left g r
