-- The whole list, term by term: what is written for a formula, and the sum that comes of reading it. Assumes nothing.
use Prim.Native.Nat.{ℕ, suc, ◌+◌, ◌≤◌}
use mathlib.Core.Path.{◌≡◌, refl, sym, ap, ◌∙◌, subst}
use mathlib.Core.Bool.{Bool, true, false, not, ◌&&◌, ◌||◌, cond, and-false}
use mathlib.Core.List.{List, [], ◌∷◌, ◌++◌, append_assoc, append-nil}
use native.Mathlib.Omega.{arith}
use lib.Dec.{T}
use lib.ListN.{length, length-append}
use lib.Ieee.{eq}
use lib.Ieee.Scale.{finite}
use Rattle.numbers.specs.Signs.{zero64}
use Rattle.numbers.proofs.Bools.{T_of}
use Rattle.numbers.specs.declared.complex.Complex.{Complex}
use Rattle.numbers.specs.Complex.Arith as complex
use Rattle.sums.specs.Tree.Kinds.{X}
use Rattle.sums.specs.Tree.Sums.{Sum, none, and, size}
use Rattle.sums.specs.Tree.Map.{sum}
use Rattle.arithmetic.specs.Adding.{add_sums}
use Rattle.formats.specs.declared.record.Record.{Record}
use Rattle.formats.specs.declared.record.Primitive.TheVariants as prim
use Rattle.formats.specs.Tree as tree
use Rattle.formats.specs.Tree.{Nodes, end, rec}
use Rattle.stack.specs.Stack.{total}
use Rattle.stack.specs.State.{Walked, went, stopped, is_handled}
use Rattle.modifiers.specs.Modifiers.{run_all}
use Rattle.modifiers.specs.Reading.{runners, read_nodes, done}
use Rattle.writing.specs.Draft.Writing.{push, does, on, body, append, one, two, wrapped, wrote, number_record, can_write}
use Rattle.theorems.proofs.Speed.Listed.{small-zero}
use Rattle.theorems.proofs.Speed.Terms.{can-write}
use Rattle.writing.specs.ToNodes.{Form, form, is_bare, write}
use Rattle.theorems.proofs.Speed.Steps.{number-finite}
use Rattle.theorems.specs.Readback.Terms as specs
use Rattle.theorems.specs.Readback.Terms.{Term, wrote_pair, nought_x, extra_of}
use Rattle.theorems.proofs.readback.Written.{piece, write-zero, write-term}
use Rattle.theorems.proofs.readback.Steps.{x, state, Makes, makes-more, makes_both, makes-over, makes-on, makes-dup, makes-add, makes-identity, or-false}
use Rattle.theorems.proofs.readback.Pieces.{Fair, TermMade, piece-reads, makes-nought}
use Rattle.theorems.proofs.readback.Came as came
use Rattle.theorems.proofs.readback.Came.{Below, Finite, finite-next, Came, came-size, extra_in, added, first-came}
use Rattle.theorems.proofs.readback.Terms.{Nice, TermsListed, nothing, zero-entry, term-entry, TermsRise, AllOver, all-over-none, all-over-next}

-- ---- one term more

-- what came before in an On, the term's records, and Add
makes-join : {N P : Nodes} {u v w : Sum} {k : ℕ} {p q : Bool} → 68 ≤ k → size u ≤ 64 → size w ≤ 64 → Makes N (x ∷ []) (u ∷ []) k p
    → Makes P (x ∷ []) (v ∷ []) 4 q → add_sums u v ≡ sum w
    → Makes (append (append (wrapped N) P) (one (does prim.Add))) (x ∷ []) (w ∷ []) (suc k) (p || q)
makes-join {u = u} {v} {w} {k} {p} {q} low few few' n t e =
    rw (or-false (p || q)) at (makes_both (makes_both (makes-on (omega arith) n) (makes-more (suc k) (omega arith) (makes-over u t))) (makes-more (suc k) (omega arith) (makes-add v u w e)))

-- the same where only x came before
makes-join-x : {P : Nodes} {v w : Sum} {q : Bool} → size w ≤ 64 → Makes P (x ∷ []) (v ∷ []) 4 q → add_sums x v ≡ sum w
    → Makes (append (append (one (does prim.Dup)) P) (one (does prim.Add))) (x ∷ []) (w ∷ []) 70 q
unfolding size
makes-join-x {v = v} {w} {q} few t e =
    rw (or-false q) at (makes_both (makes_both (makes-more 70 (omega arith) (makes-dup x)) (makes-more 70 (omega arith) (makes-over x t))) (makes-more 70 (omega arith) (makes-add v x w e)))

-- ---- the flag

-- whether a term's coefficient is written
abbrev writes : Term → Bool
writes t = eq t.power zero64 || not (complex.same t.coef complex.one)

writes-next : (flag : Bool) (ds : List Term) (t : Term) → ((flag && wrote_pair ds) || (flag && writes t)) ≡ (flag && wrote_pair (ds ++ t ∷ []))
unfolding wrote_pair
writes-next false ds t = refl
writes-next true ds t = sym (go ds)
  where
    or-join : (a b c : Bool) → (a || (b || c)) ≡ ((a || b) || c)
    or-join true b c = refl
    or-join false b c = refl

    go : (ds : List Term) → wrote_pair (ds ++ t ∷ []) ≡ wrote_pair ds || writes t
    go [] = or-false (writes t)
    go (d ∷ ds) = ap (λ (b : Bool). writes d || b) (go ds) ∙ or-join (writes d) (wrote_pair ds) (writes t)

-- ---- all of them

-- a coefficient of the formula can be written, with either flag
pub fair-written : (flag : Bool) (c : Complex) → Fair c → can_write flag c ≡ true
fair-written true c g = rw (number-finite c.re g.re, number-finite c.im g.im)
fair-written false c g = can-write c g.re (small-zero c.im g.real)

-- s, written after the list so far, makes a list; all the terms ts come of reading it
pub record Whole (flag : Bool) (s : Sum) (id : Bool) (ns : Nodes) (ts : List Term) : Type 0 where
  pub list : Nodes
  pub written : write flag s id ns ≡ wrote list
  pub to : Sum
  pub came : Came (extra_in ts) ts to
  pub reads : Makes list (x ∷ []) (to ∷ []) (70 + length ts) (flag && wrote_pair ts)

came-few : {b : Bool} {ts : List Term} {u : Sum} → Came b ts u → length ts ≤ 63 → size u ≤ 64
came-few {b} {ts} c few = go b (came-size c)
  where
    go : (b : Bool) {n : ℕ} → n ≡ length ts + cond b 1 0 → n ≤ 64
    go true e = omega arith
    go false e = omega arith

-- what is on top, and the flag
abbrev first_of : List Sum → Sum
first_of [] = none
first_of (u ∷ us) = u

abbrev top_of : Walked → Sum
top_of (went st) = first_of st.stack
top_of (stopped q at b) = none

abbrev flag_of : Walked → Bool
flag_of (went st) = st.complex
flag_of (stopped q at b) = false

-- a piece of no records leaves x as it is
end-made : {v : Sum} {k : ℕ} {p : Bool} → k ≤ 1024 → Makes end (x ∷ []) (v ∷ []) k p → (x ≡ v) × (p ≡ false)
unfolding run_all runners total
end-made {v} {k} {p} few g = let e = (g.run [] 0 0 (0, 0) false (omega arith)).1 in (ap top_of e, sym (ap flag_of e))

module _ (flag : Bool) where
  more : {s : Sum} {rs : List Term} → TermsListed s rs → (ds : List Term) → Finite ds → AllOver ds rs → TermsRise rs → length ds + length rs ≤ 63
      → (id : Bool) (a : Record) (i m : Nodes) (u : Sum)
      → Came (extra_in ds) ds u → Makes (rec a i m) (x ∷ []) (u ∷ []) (70 + length ds) (flag && wrote_pair ds) → Whole flag s id (rec a i m) (ds ++ rs)
  unfolding write append AllOver TermsRise
  more nothing ds fs o up few id a i m u c r = rw (append-nil ds) (record { list = rec a i m; written = refl; to = u; came = c; reads = r })
  more (zero-entry {k} {p} {j} {c = d} {r = s} z t) ds fs o up few id a i m u c r =
      let h = more t ds fs o up few id a i m u c r in
      record { list = h.list; written = write-zero flag p j d s id (rec a i m) k z ∙ h.written; to = h.to; came = h.came; reads = h.reads }
  more (term-entry {p} {j} {c = d} {r = s} {ts = rs} z n t) ds fs o up few id a i m u c r =
      let T' = specs.term p d in
      let P = piece-reads flag p d n.number n.coef n.small in
      let A = added T' n.number n.coef ds fs o.0 (omega arith) u P.is c in
      let L = length-append ds (T' ∷ []) in
      let N = append (piece (form p) p (number_record flag d) (complex.same d complex.one)) (one (does prim.Add)) in
      let J = makes-join (omega arith) (came-few c (omega arith)) (came-few A.came (omega arith)) r P.reads A.is in
      let h =
      more t (ds ++ T' ∷ []) (finite-next ds T' fs (T_of (number-finite p n.number))) (all-over-next ds T' rs o.1 up.0) up.1 (omega arith)
      (id || is_bare (form p)) (on (tree.size (rec a i m) + 1)) (rec (body (tree.size (rec a i m))) (rec a i m) end) N A.to A.came
      (makes-more (70 + length (ds ++ T' ∷ [])) (omega arith) (rw (writes-next flag ds T') at J)) in
      subst (λ (l : List Term). Whole flag (and X p j d s) id (rec a i m) l) (append_assoc ds (T' ∷ []) rs)
      (record {
        list = h.list;
        written = ◌∙◌ {c = wrote h.list} (rw (and-false (not id)) at (write-term flag p j d s id (rec a i m) z (fair-written flag d n.coef))) h.written;
        to = h.to;
        came = h.came;
        reads = h.reads;
      })

  -- only x was met, and nothing written for it
  only : {s : Sum} {rs : List Term} → TermsListed s rs → (t : Term) → T (finite t.power) → AllOver (t ∷ []) rs → TermsRise rs → 1 + length rs ≤ 63
      → Came (extra_in (t ∷ [])) (t ∷ []) x
      → (flag && wrote_pair (t ∷ [])) ≡ false → Whole flag s true end (t ∷ rs)
  unfolding write append AllOver TermsRise Finite size
  only nothing t f o up few c w = record { list = one (does prim.Identity); written = refl; to = x; came = c; reads = rw w (makes-more (70 + length (t ∷ [])) (omega arith) (makes-identity x)) }
  only (zero-entry {k} {p} {j} {c = d} {r = s} z l) t f o up few c w =
      let h = only l t f o up few c w in
      record { list = h.list; written = write-zero flag p j d s true end k z ∙ h.written; to = h.to; came = h.came; reads = h.reads }
  only (term-entry {p} {j} {c = d} {r = s} {ts = rs} z n l) t f o up few c w =
      let T' = specs.term p d in
      let P = piece-reads flag p d n.number n.coef n.small in
      let A = added T' n.number n.coef (t ∷ []) (f, tt) o.0 (omega arith) x P.is c in
      let N = append (piece (form p) p (number_record flag d) (complex.same d complex.one)) (one (does prim.Add)) in
      let J = makes-join-x (came-few A.came (omega arith)) P.reads A.is in
      let e : (flag && writes T') ≡ (flag && wrote_pair (t ∷ T' ∷ [])) = ap (λ (b : Bool). b || (flag && writes T')) (sym w) ∙ writes-next flag (t ∷ []) T' in
      let h =
      more l (t ∷ T' ∷ []) (f, (T_of (number-finite p n.number), tt)) (all-over-next (t ∷ []) T' rs o.1 up.0) up.1 (omega arith)
      true (does prim.Dup) end N A.to A.came (makes-more (70 + length (t ∷ T' ∷ [])) (omega arith) (rw e at J)) in
      record {
        list = h.list;
        written = ◌∙◌ {c = wrote h.list} (write-term flag p j d s true end z (fair-written flag d n.coef)) h.written;
        to = h.to;
        came = h.came;
        reads = h.reads;
      }

  -- the first term: x by itself, or something that is written
  first : {s : Sum} {rs : List Term} (m : Form) (unit : Bool) (t : Term) (r : Record) (v : Sum) → TermsListed s rs → Nice t → TermMade t v
      → AllOver (t ∷ []) rs → TermsRise rs → 1 + length rs ≤ 63
      → Makes (piece m t.power r unit) (x ∷ []) (v ∷ []) 4 (flag && wrote_pair (t ∷ [])) → Whole flag s (is_bare m) (piece m t.power r unit) (t ∷ rs)
  unfolding append Finite
  first {s} {rs} m unit t r v l n c o up few g = go m unit g
    where
      f : T (finite t.power)
      f = T_of (number-finite t.power n.number)

      by : (id : Bool) (a : Record) (i k : Nodes) → Makes (rec a i k) (x ∷ []) (v ∷ []) 4 (flag && wrote_pair (t ∷ [])) → Whole flag s id (rec a i k) (t ∷ rs)
      by id a i k h = more l (t ∷ []) (f, tt) o up few id a i k v (first-came t v f c) (makes-more (70 + length (t ∷ [])) (omega arith) h)

      go : (m : Form) (unit : Bool) → Makes (piece m t.power r unit) (x ∷ []) (v ∷ []) 4 (flag && wrote_pair (t ∷ [])) → Whole flag s (is_bare m) (piece m t.power r unit) (t ∷ rs)
      go Form.constant unit h = by false _ _ _ h
      go Form.root unit h = by false _ _ _ h
      go Form.bare false h = by true _ _ _ h
      go Form.bare true h = let e = end-made (omega arith) h in only l t f o up few (subst (λ (w : Sum). Came (extra_in (t ∷ [])) (t ∷ []) w) (sym e.0) (first-came t v f c)) e.1
      go Form.square unit h = by false _ _ _ h
      go Form.power unit h = by false _ _ _ h

-- ---- the list of a formula

-- s is written, and the terms ts come of reading it, and 0·x where it is said
pub record All (flag : Bool) (s : Sum) (ts : List Term) : Type 0 where
  pub list : Nodes
  pub written : write flag s false end ≡ wrote list
  pub to : Sum
  pub there : Bool
  pub came : Came there ts to
  pub extra : cond there nought_x none ≡ extra_of ts
  pub reads : Makes list (x ∷ []) (to ∷ []) 1024 (flag && wrote_pair ts)

pub all_read : (flag : Bool) {s : Sum} {ts : List Term} → TermsListed s ts → TermsRise ts → length ts ≤ 63 → All flag s ts
unfolding write append TermsRise Below wrote_pair
all_read flag nothing up few =
    record {
      list = two (push zero64) (does prim.Mul);
      written = refl;
      to = nought_x;
      there = true;
      came = came.extra tt came.nothing;
      extra = refl;
      reads = rw (and-false flag) (makes-more 1024 (omega arith) makes-nought);
    }
all_read flag (zero-entry {k} {p} {j} {c = d} {r = s} z l) up few =
    let h = all_read flag l up few in
    record { list = h.list; written = write-zero flag p j d s false end k z ∙ h.written; to = h.to; there = h.there; came = h.came; extra = h.extra; reads = h.reads }
all_read flag (term-entry {p} {j} {c = d} {r = s} {ts} z n l) up few =
    let t = specs.term p d in
    let P = piece-reads flag p d n.number n.coef n.small in
    let h =
    first flag (form p) (complex.same d complex.one) t (number_record flag d) P.made l n P.is (all-over-next [] t ts (all-over-none ts) up.0) up.1 (omega arith)
    (rw (← or-false (writes t)) at P.reads) in
    record {
      list = h.list;
      written = write-term flag p j d s false end z (fair-written flag d n.coef) ∙ h.written;
      to = h.to;
      there = extra_in (t ∷ ts);
      came = h.came;
      extra = refl;
      reads = makes-more 1024 (omega arith) h.reads;
    }

-- what is read of it
pub read-list : {N : Nodes} {u : Sum} {p : Bool} → Makes N (x ∷ []) (u ∷ []) 1024 p → (h : Bool) × (k : ℕ) × (read_nodes N ≡ done u p h k)
unfolding read_nodes total
read-list {N} {u} {p} g = let e = g.run [] 0 0 (0, 0) false (omega arith) in (is_handled (state (u ∷ []) e.0 p), e.0.1, rw e.1)
