-- Steps of writing, one after the other: what one leaves is what the next asks, and together they are one step. Assumes nothing.
use mathlib.Core.Path.{◌≡◌, refl, ap, ◌∙◌, sym, subst}
use mathlib.Core.Bool.{Bool, true, false}
use mathlib.Core.List.{List}
use Prim.Native.Nat.{ℕ, ◌+◌, ◌*◌, ◌≤◌}
use native.Mathlib.Omega.{arith}
use lib.ListN.{length}
use Rattle.numbers.specs.declared.complex.Complex.{Complex}
use Rattle.formats.specs.declared.record.Record.{Record}
use Rattle.formats.specs.Tree.{Nodes, end}
use Rattle.formats.specs.Tree as tree
use Rattle.formats.proofs.record.Codes.{written-long}
use Rattle.limits.specs.declared.Refusal.{Refusal}
use Rattle.limits.specs.declared.Refusal.TheVariants.{NotFinite}
use Rattle.writing.specs.declared.draft.Draft.{Draft}
use Rattle.std.specs.Prelude.{Result, Ok, Err}
use Rattle.writing.specs.Draft.Writing.{on, body, append, one, wrapped, Written, wrote, refused, and_then, number_record, can_write, if_can, number}
use Rattle.writing.specs.Draft.Contract.Lying.{Lying, SaidAs}
use Rattle.writing.specs.Draft.Contract.Growing.{Ready, Grown, Drawn, GrownTo, Spoken}
use Rattle.writing.proofs.draft.Lying.{fresh, said-lies, wrapped-lies}

-- ---- what the next step asks

-- an empty draft at place k
pub ready-fresh : {b : List ℕ} (k : ℕ) {front back : ℕ} → front ≤ k → 24 * (k + back) ≤ length b → k + back ≤ 2048 → Ready b record { from = k; end = k } front back
ready-fresh {b} k f r m = record { nodes = end; lies = fresh b k (omega arith); before = f; after = r; few = m }

pub ready-less : {b : List ℕ} {d : Draft} {f r f' r' : ℕ} → Ready b d f r → f' ≤ f → r' ≤ r → Ready b d f' r'
ready-less w p q = record { nodes = w.nodes; lies = w.lies; before = omega (arith, w.before); after = omega (arith, w.after); few = omega (arith, w.few) }

module _ {b b' : List ℕ} {d q : Draft} {F R f r : ℕ} (w : Ready b d F R) where
  grown-ready : Grown d q f r → length b' ≡ length b → (ns : Nodes) → Lying b' q ns → (f' r' : ℕ) → f + f' ≤ F → r + r' ≤ R → Ready b' q f' r'
  grown-ready g n ns l f' r' x y =
      record { nodes = ns; lies = l; before = omega (arith, w.before, g.begins); after = omega (arith, w.after, g.ends); few = omega (arith, w.few, g.ends) }

  pub ready-drawn : {h : Nodes → Nodes} → Drawn b b' d q f r h → (f' r' : ℕ) → f + f' ≤ F → r + r' ≤ R → Ready b' q f' r'
  ready-drawn {h} s f' r' x y = grown-ready s.grown s.long (h w.nodes) (s.lies w.nodes w.lies) f' r' x y

  pub ready-spoken : {s : Result Draft Refusal} {h : Nodes → Written} → Spoken b b' d s f r h → s ≡ Ok q → (f' r' : ℕ) → f + f' ≤ F → r + r' ≤ R → Ready b' q f' r'
  ready-spoken {s} {h} k e f' r' x y =
      let g : Grown d q f r = subst (λ (t : Result Draft Refusal). GrownTo d t f r) e k.grown in
      let l : (ns : Nodes) × Lying b' q ns = some (h w.nodes) (subst (λ (t : Result Draft Refusal). SaidAs t b' (h w.nodes)) e (k.lies w.nodes w.lies)) in
      grown-ready g k.long l.0 l.1 f' r' x y
    where
      some : (v : Written) → SaidAs (Ok q) b' v → (ns : Nodes) × Lying b' q ns
      some (wrote ns) l = (ns, l)
      some (refused o) l = absurd l

-- ---- together

grown-then : {d q p : Draft} {f r f' r' : ℕ} → Grown d q f r → Grown q p f' r' → Grown d p (f + f') (r + r')
grown-then g h = record { begins = omega (arith, g.begins, h.begins); ends = omega (arith, g.ends, h.ends) }

grown-more : {d q : Draft} {f r f' r' : ℕ} → f ≤ f' → r ≤ r' → Grown d q f r → Grown d q f' r'
grown-more x y g = record { begins = omega (arith, g.begins); ends = omega (arith, g.ends) }

grown_to-then : {d q : Draft} {f r : ℕ} (f' r' : ℕ) (s : Result Draft Refusal) → Grown d q f r → GrownTo q s f' r' → GrownTo d s (f + f') (r + r')
grown_to-then f' r' (Ok p) g h = grown-then g h
grown_to-then f' r' (Err o) g h = tt

grown_to-more : (d : Draft) (f r : ℕ) {f' r' : ℕ} (s : Result Draft Refusal) → f ≤ f' → r ≤ r' → GrownTo d s f r → GrownTo d s f' r'
grown_to-more d f r (Ok p) x y g = grown-more x y g
grown_to-more d f r (Err o) x y g = tt

-- a step that nothing refuses
pub drawn-done : {b b' : List ℕ} {d q : Draft} {f r : ℕ} {h : Nodes → Nodes} → Drawn b b' d q f r h → Spoken b b' d (Ok q) f r (λ ns. wrote (h ns))
drawn-done s = record { grown = s.grown; long = s.long; lies = s.lies }

-- nothing is written
pub drawn-none : {b : List ℕ} {d : Draft} → Drawn b b d d 0 0 (λ ns. ns)
drawn-none = record { grown = record { begins = omega arith; ends = omega arith }; long = refl; lies = λ ns l. l }

pub spoken-none : {b : List ℕ} {d : Draft} → Spoken b b d (Ok d) 0 0 (λ ns. wrote ns)
spoken-none = drawn-done drawn-none

-- a refusal out of hand
pub spoken-refused : {b : List ℕ} {d : Draft} (o : Refusal) {f r : ℕ} → Spoken b b d (Err o) f r (λ ns. refused o)
spoken-refused o = record { grown = tt; long = refl; lies = λ ns l. refl }

pub spoken-more : {b b' : List ℕ} {d : Draft} {s : Result Draft Refusal} {f r : ℕ} {h : Nodes → Written} → Spoken b b' d s f r h → (f' r' : ℕ) → f ≤ f' → r ≤ r' → Spoken b b' d s f' r' h
spoken-more {d = d} {s = s} {f = f} {r = r} k f' r' x y = record { grown = grown_to-more d f r s x y k.grown; long = k.long; lies = k.lies }

-- another way to say what is written
pub spoken-as : {b b' : List ℕ} {d : Draft} {s : Result Draft Refusal} {f r : ℕ} {h : Nodes → Written}
    → Spoken b b' d s f r h → (g : Nodes → Written) → ((ns : Nodes) → h ns ≡ g ns) → Spoken b b' d s f r g
spoken-as {b' = b'} {s = s} k g e = record { grown = k.grown; long = k.long; lies = λ ns l. subst (SaidAs s b') (e ns) (k.lies ns l) }

pub drawn-as : {b b' : List ℕ} {d q : Draft} {f r : ℕ} {h : Nodes → Nodes} → Drawn b b' d q f r h → (g : Nodes → Nodes) → ((ns : Nodes) → h ns ≡ g ns) → Drawn b b' d q f r g
drawn-as {b' = b'} {q = q} k g e = record { grown = k.grown; long = k.long; lies = λ ns l. subst (Lying b' q) (e ns) (k.lies ns l) }

module _ {b b' b'' : List ℕ} {d q : Draft} {f r f' r' : ℕ} where
  pub drawn-drawn : {p : Draft} {h g : Nodes → Nodes} → Drawn b b' d q f r h → Drawn b' b'' q p f' r' g → Drawn b b'' d p (f + f') (r + r') (λ ns. g (h ns))
  drawn-drawn {h = h} s t = record { grown = grown-then s.grown t.grown; long = t.long ∙ s.long; lies = λ ns l. t.lies (h ns) (s.lies ns l) }

  pub drawn-then : {s : Result Draft Refusal} {h : Nodes → Nodes} {g : Nodes → Written} → Drawn b b' d q f r h → Spoken b' b'' q s f' r' g → Spoken b b'' d s (f + f') (r + r') (λ ns. g (h ns))
  drawn-then {s = s} {h = h} u t = record { grown = grown_to-then f' r' s u.grown t.grown; long = t.long ∙ u.long; lies = λ ns l. t.lies (h ns) (u.lies ns l) }

  pub spoken-then : {s t : Result Draft Refusal} {h g : Nodes → Written} → Spoken b b' d s f r h → s ≡ Ok q → Spoken b' b'' q t f' r' g → Spoken b b'' d t (f + f') (r + r') (λ ns. and_then (h ns) g)
  spoken-then {s} {t} {h} {g} k e u =
      record {
        grown = grown_to-then f' r' t (subst (λ (x : Result Draft Refusal). GrownTo d x f r) e k.grown) u.grown;
        long = u.long ∙ k.long;
        lies = λ ns l. on-with (h ns) (subst (λ (x : Result Draft Refusal). SaidAs x b' (h ns)) e (k.lies ns l));
      }
    where
      on-with : (v : Written) → SaidAs (Ok q) b' v → SaidAs t b'' (and_then v g)
      on-with (wrote ns) l = u.lies ns l
      on-with (refused o) l = absurd l

-- a refusal ends it
pub spoken-stop : {b b' : List ℕ} {d : Draft} {s : Result Draft Refusal} {f r : ℕ} {h : Nodes → Written} → Spoken b b' d s f r h → (o : Refusal) → s ≡ Err o → (g : Nodes → Written) (f' r' : ℕ)
    → Spoken b b' d (Err o) f' r' (λ ns. and_then (h ns) g)
spoken-stop {b} {b'} {d} {s} {f} {r} {h} k o e g f' r' =
    record { grown = tt; long = k.long; lies = λ ns l. stop (h ns) (subst (λ (x : Result Draft Refusal). SaidAs x b' (h ns)) e (k.lies ns l)) }
  where
    stop : (v : Written) → SaidAs (Err o) b' v → SaidAs (Err o) b' (and_then v g)
    stop (wrote ns) l = absurd l
    stop (refused x) l = l

-- ---- what each function leaves

pub said-drawn : {b b' : List ℕ} (d : Draft) {x : Record} → Ready b d 0 1 → tree.Written b b' d.end x → Drawn b b' d record { from = d.from; end = d.end + 1 } 0 1 (λ ns. append ns (one x))
said-drawn {b} d w p =
    let h : 24 * d.end + 24 ≤ length b = omega (arith, w.after) in
    record { grown = record { begins = omega arith; ends = omega arith }; long = written-long p h; lies = λ ns l. said-lies d ns p h l }

pub wrapped-drawn : {b b' b'' : List ℕ} (d : Draft) (i n : ℕ) → Ready b d 2 0 → i + 2 ≡ d.from → n + d.from ≡ d.end → {o y : Record} → o ≡ on (n + 1) → y ≡ body n → tree.Written b b' i o
    → tree.Written b' b'' (i + 1) y → Drawn b b'' d record { from = i; end = d.end } 2 0 (λ ns. wrapped ns)
wrapped-drawn {b} {b'} {b''} d i n w e f {o} {y} s t p q =
    let h : 24 * i + 48 ≤ length b = omega (arith, w.after, w.lies.ends) in
    let m : length b' ≡ length b = written-long p (omega arith) in
    record {
      grown = record { begins = omega arith; ends = omega arith };
      long = written-long q (omega arith) ∙ m;
      lies = λ ns l. wrapped-lies d i n ns e f (subst (tree.Written b b' i) s p) (subst (tree.Written b' b'' (i + 1)) t q) l;
    }

module _ (flag : Bool) (c : Complex) where
  pub number-done : {b b' : List ℕ} {d q : Draft} → can_write flag c ≡ true → {x : Record} → x ≡ number_record flag c → Drawn b b' d q 0 1 (λ ns. append ns (one x))
      → Spoken b b' d (Ok q) 0 1 (λ ns. number flag c ns)
  number-done h {x} e s =
      spoken-as (drawn-done s) (λ ns. number flag c ns) (λ ns. ap (λ (y : Record). wrote (append ns (one y))) e ∙ sym (ap (λ (t : Bool). if_can t (wrote (append ns (one (number_record flag c))))) h))

  pub number-refused : {b : List ℕ} {d : Draft} → can_write flag c ≡ false → Spoken b b d (Err NotFinite) 0 1 (λ ns. number flag c ns)
  number-refused h = spoken-as (spoken-refused NotFinite) (λ ns. number flag c ns) (λ ns. sym (ap (λ (t : Bool). if_can t (wrote (append ns (one (number_record flag c))))) h))
