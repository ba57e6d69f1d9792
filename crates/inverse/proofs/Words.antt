-- Words said one after the other: what one leaves is what the next asks, and together they are one list of words. Assumes nothing.
use mathlib.Core.Path.{◌≡◌, refl, ◌∙◌, sym, subst}
use mathlib.Core.Bool.{Bool}
use mathlib.Core.List.{List, [], ◌∷◌, ◌++◌}
use Prim.Native.Nat.{ℕ, ◌+◌, ◌≤◌}
use native.Mathlib.Omega.{arith}
use lib.ListN.{length}
use Rattle.numbers.specs.declared.complex.Complex.{Complex}
use Rattle.limits.specs.declared.Refusal.{Refusal}
use Rattle.formats.specs.declared.record.Primitive.{Primitive}
use Rattle.formats.specs.Tree.{Nodes, end}
use Rattle.writing.specs.declared.draft.Draft.{Draft}
use Rattle.std.specs.Prelude.{Result, Ok, Err}
use Rattle.writing.specs.Draft.Writing.{does, append, one, Written, wrote, refused, and_then, number}
use Rattle.writing.specs.Draft.Contract.Lying.{SaidAs}
use Rattle.writing.specs.Draft.Contract.Growing.{Ready, Drawn, Spoken}
use Rattle.writing.proofs.draft.Lying.{fresh}
use Rattle.writing.proofs.draft.Growing.{ready-fresh, ready-less, ready-drawn, ready-spoken}
use Rattle.inverse.specs.Inverse.{Word, num, act, spell}
use Rattle.inverse.specs.Contract.Steps.{ReadyTo, Spelt, Told}

-- ---- what comes of writing, and what follows

then-nothing : (w : Written) → and_then w (λ ns. wrote ns) ≡ w
then-nothing (wrote ns) = refl
then-nothing (refused q) = refl

then_same : (w : Written) (f g : Nodes → Written) → ((ns : Nodes) → f ns ≡ g ns) → and_then w f ≡ and_then w g
then_same (wrote ns) f g e = e ns
then_same (refused q) f g e = refl

then-join : (w : Written) (f g : Nodes → Written) → and_then (and_then w f) g ≡ and_then w (λ ns. and_then (f ns) g)
then-join (wrote ns) f g = refl
then-join (refused q) f g = refl

pub spell-join : (flag : Bool) (ws vs : List Word) (ns : Nodes) → spell flag (ws ++ vs) ns ≡ and_then (spell flag ws ns) (λ ms. spell flag vs ms)
unfolding spell
spell-join flag [] vs ns = refl
spell-join flag (num c ∷ ws) vs ns =
    then_same (number flag c ns) (λ ms. spell flag (ws ++ vs) ms) (λ ms. and_then (spell flag ws ms) (λ ls. spell flag vs ls)) (λ ms. spell-join flag ws vs ms)
    ∙ sym (then-join (number flag c ns) (λ ms. spell flag ws ms) (λ ls. spell flag vs ls))
spell-join flag (act p ∷ ws) vs ns = spell-join flag ws vs (append ns (one (does p)))

-- ---- room for the words that follow

pub ready_of : {b : List ℕ} {d : Draft} (n : ℕ) (s : Result Draft Refusal) → s ≡ Ok d → ReadyTo b s n → Ready b d 0 n
ready_of {b} n s e r = subst (λ (t : Result Draft Refusal). ReadyTo b t n) e r

pub less-ready : (b : List ℕ) (s : Result Draft Refusal) (m n : ℕ) → m ≤ n → ReadyTo b s n → ReadyTo b s m
less-ready b (Ok d) m n h r = ready-less r (omega arith) h
less-ready b (Err q) m n h r = tt

ready-as : (b : List ℕ) (s : Result Draft Refusal) (m n : ℕ) → m ≡ n → ReadyTo b s m → ReadyTo b s n
ready-as b s m n e r = subst (ReadyTo b s) e r

-- ---- lists of words

pub spelt-none : {b : List ℕ} {s : Result Draft Refusal} (n : ℕ) {flag : Bool} → Spelt b b s s n flag []
unfolding spell
spelt-none {b} {s} n {flag} =
    record {
      ready = λ more r. less-ready b s more (n + more) (omega arith) r;
      long = refl;
      lies = λ w l. subst (SaidAs s b) (sym (then-nothing w)) l;
    }

pub spelt-join : {b b' b'' : List ℕ} {s t r : Result Draft Refusal} {m n : ℕ} {flag : Bool} {ws vs : List Word}
    → Spelt b b' s t m flag ws → Spelt b' b'' t r n flag vs → Spelt b b'' s r (m + n) flag (ws ++ vs)
spelt-join {b} {b'} {b''} {s} {t} {r} {m} {n} {flag} {ws} {vs} u v =
    record {
      ready = λ more x. v.ready more (u.ready (n + more) (ready-as b s (m + n + more) (m + (n + more)) (omega arith) x));
      long = v.long ∙ u.long;
      lies = λ w l. subst (SaidAs r b'') (then-join w (λ ns. spell flag ws ns) (λ ms. spell flag vs ms) ∙ then_same w (λ ns. and_then (spell flag ws ns) (λ ms. spell flag vs ms))
          (λ ns. spell flag (ws ++ vs) ns) (λ ns. sym (spell-join flag ws vs ns))) (v.lies (and_then w (λ ns. spell flag ws ns)) (u.lies w l));
    }

pub spelt-as : {b b' : List ℕ} {s r : Result Draft Refusal} {m : ℕ} {flag : Bool} {ws : List Word} → Spelt b b' s r m flag ws → (n : ℕ) → m ≤ n → (vs : List Word) → ws ≡ vs → Spelt b b' s r n flag vs
spelt-as {b} {b'} {s} {r} {m} {flag} {ws} u n h vs e =
    record {
      ready = λ more x. u.ready more (less-ready b s (m + more) (n + more) (omega arith) x);
      long = u.long;
      lies = λ w l. subst (λ (x : List Word). SaidAs r b' (and_then w (λ ns. spell flag x ns))) e (u.lies w l);
    }

-- nothing follows a refusal
pub spelt-refused : {b : List ℕ} {q : Refusal} (s : Result Draft Refusal) → s ≡ Err q → {n : ℕ} {flag : Bool} {ws : List Word} → Spelt b b s (Err q) n flag ws
spelt-refused {b} {q} s e {n} {flag} {ws} =
    record {
      ready = λ more r. tt;
      long = refl;
      lies = λ w l. stop w (subst (λ (t : Result Draft Refusal). SaidAs t b w) e l);
    }
  where
    stop : (w : Written) → SaidAs (Err q) b w → SaidAs (Err q) b (and_then w (λ ns. spell flag ws ns))
    stop (wrote ns) l = absurd l
    stop (refused o) l = l

-- ---- one word

pub spelt-number : {b b' : List ℕ} {d : Draft} {r : Result Draft Refusal} {flag : Bool} {c : Complex} (s : Result Draft Refusal) → s ≡ Ok d
    → Spoken b b' d r 0 1 (λ ns. number flag c ns) → Spelt b b' s r 1 flag (num c ∷ [])
unfolding spell
spelt-number {b} {b'} {d} {r} {flag} {c} s e k =
    record {
      ready = λ more x. on r refl more (ready_of (1 + more) s e x);
      long = k.long;
      lies = λ w l. go w (subst (λ (t : Result Draft Refusal). SaidAs t b w) e l);
    }
  where
    on : (t : Result Draft Refusal) → r ≡ t → (more : ℕ) → Ready b d 0 (1 + more) → ReadyTo b' t more
    on (Ok q) z more x = ready-spoken x k z 0 more (omega arith) (omega arith)
    on (Err o) z more x = tt

    go : (w : Written) → SaidAs (Ok d) b w → SaidAs r b' (and_then w (λ ns. spell flag (num c ∷ []) ns))
    go (wrote ns) l = subst (SaidAs r b') (sym (then-nothing (number flag c ns))) (k.lies ns l)
    go (refused o) l = absurd l

pub spelt-act : {b b' : List ℕ} {d q : Draft} {p : Primitive} (s : Result Draft Refusal) → s ≡ Ok d → Drawn b b' d q 0 1 (λ ns. append ns (one (does p))) → (flag : Bool)
    → Spelt b b' s (Ok q) 1 flag (act p ∷ [])
unfolding spell
spelt-act {b} {b'} {d} {q} {p} s e k flag =
    record {
      ready = λ more x. ready-drawn (ready_of (1 + more) s e x) k 0 more (omega arith) (omega arith);
      long = k.long;
      lies = λ w l. go w (subst (λ (t : Result Draft Refusal). SaidAs t b w) e l);
    }
  where
    go : (w : Written) → SaidAs (Ok d) b w → SaidAs (Ok q) b' (and_then w (λ ns. spell flag (act p ∷ []) ns))
    go (wrote ns) l = k.lies ns l
    go (refused o) l = absurd l

-- ---- whole lists

abbrev pub nothing : Result Draft Refusal
nothing = Ok record { from = 0; end = 0 }

pub start-ready : (b : List ℕ) (s : Result Draft Refusal) → s ≡ nothing → (n : ℕ) → n ≤ 18 → 432 ≤ length b → ReadyTo b s n
start-ready b s e n m h = subst (λ (t : Result Draft Refusal). ReadyTo b t n) (sym e) (ready-fresh 0 (omega arith) (omega arith) (omega arith))

pub told : {b b' : List ℕ} {s r : Result Draft Refusal} {n : ℕ} {flag : Bool} {ws : List Word} → Spelt b b' s r n flag ws → s ≡ nothing → Told b b' r (spell flag ws end)
told {b} u e = record { long = u.long; lies = u.lies (wrote end) (subst (λ (t : Result Draft Refusal). SaidAs t b (wrote end)) (sym e) (fresh b 0 (omega arith))) }

pub told-as : {b b' : List ℕ} {r : Result Draft Refusal} {w : Written} → Told b b' r w → (v : Written) → w ≡ v → Told b b' r v
told-as {b} {b'} {r} t v e = record { long = t.long; lies = subst (SaidAs r b') e t.lies }

pub told-refused : {b : List ℕ} (q : Refusal) → Told b b (Err q) (refused q)
told-refused q = record { long = refl; lies = refl }
