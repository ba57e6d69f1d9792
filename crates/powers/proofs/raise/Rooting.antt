-- A sum that is made its root cell by cell: what is known on the way. Assumes nothing.
use Prim.Native.Nat.{ℕ, ◌+◌, ◌≤◌, ◌<◌}
use native.Mathlib.Omega.{arith}
use native.Mathlib.Nat.{eq-or-lt_of_le}
use mathlib.Core.Path.{◌≡◌, refl, sym, ap, subst, ◌∙◌}
use mathlib.Core.Bool.{true, false}
use mathlib.Core.Logic.{◌⊎◌, ⊎_elim}
use lib.Dec.{eqb}
use lib.Ieee.{Float, binary64}
use lib.Ieee.Scale.{finite}
use lib.Ieee.Bits.{of_bits-fits}
use lib.Ieee.Fits.{mul-fits, cond-fits}
use Rattle.numbers.specs.Ops.{◌⊗◌}
use Rattle.numbers.specs.Signs.{zero64}
use Rattle.numbers.proofs.Bools.{T_of}
use Rattle.cells.specs.declared.Entry.{Entry}
use Rattle.cells.specs.Contract.Book.{Book, cell, at, Room, Plain}
use Rattle.cells.specs.Contract.Moves.{SameRoom, Kept, Put, Copied}
use Rattle.cells.proofs.Laws.{Fitting, put-at, at-kept, room-less, room-same, same-room-refl, same-room-trans}
use Rattle.limits.specs.declared.Refusal.TheVariants.{PowerNotFinite}
use Rattle.sums.specs.Tree.Kinds.{X}
use Rattle.sums.specs.Tree.Sums.{Sum}
use Rattle.arithmetic.specs.Power.{rooted}
use Rattle.std.specs.Prelude.{Ok, Err}
use Rattle.sums.specs.Contract.Lies.{Agrees}
use Rattle.sums.proofs.order.Walk.{plain_at, lies-copied}
use Rattle.powers.specs.Raise.Contract.Roots.{Rooting, root_entry}
use Rattle.powers.proofs.raise.Roots.{root-laid, Spot, root-spot, root-finite, root-fits, one-is-finite}

-- the cells of b from p up to k have become their roots in b', whose powers are finite; the others are as they were
pub record Halfway (e : Float) (b b' : Book) (p k : ℕ) : Type 0 where
  pub begun : p ≤ k
  pub below : (j : ℕ) → j < p → cell b' j ≡ cell b j
  pub done : (j : ℕ) → p ≤ j → j < k → (at b' j ≡ root_entry e (at b j)) × (finite (at b' j).num ≡ true)
  pub to-do : (j : ℕ) → k ≤ j → cell b' j ≡ cell b j
  pub long : SameRoom b b'

pub halfway-start : (e : Float) (b : Book) (p : ℕ) → Halfway e b b p p
halfway-start e b p = record { begun = omega arith; below = λ j h. refl; done = λ j g h. absurd (omega arith); to-do = λ j h. refl; long = same-room-refl b }

module _ {e : Float} (fe : finite e ≡ true) {b b' : Book} {p k n : ℕ} {s : Sum} (R : Rooting b p n s) (H : Halfway e b b' p k) where
  -- every cell was made its root
  pub root-done : p + n ≤ k → Agrees (Ok n) b' p (rooted e s)
  root-done h =
      let few = R.few in
      let ends = R.lies.ends in
      let w = root-laid e (T_of fe) (at b) (at b') p 4 s (omega arith) (omega arith) R.lies.laid R.lies.good R.single R.units (λ j lo hi. H.done j lo (omega arith)) in
      let sized = w.sized in
      rw w.is (few, record { laid = w.laid; good = w.good; ends = omega arith; room = room-same H.long R.lies.room })

  module _ (q : k < p + n) where
    -- the next cell can be read
    pub root-reads : Room b' (k + 1) × Plain (at b' k)
    root-reads =
        let ends = R.lies.ends in
        let begun = H.begun in (
          room-same H.long (room-less {n = p + n} (omega arith) R.lies.room),
          rw (at-kept b b' k (H.to-do k (omega arith))) (plain_at (at b) p 4 s R.lies.laid R.lies.good k (omega arith) (omega arith)),
        )

    module _ {x y : Entry} (ey : y ≡ at b' k) (ex : x ≡ root_entry e y) where
      is : x ≡ root_entry e (at b k)
      is = ex ∙ ap (root_entry e) (ey ∙ at-kept b b' k (H.to-do k (omega arith)))

      spot : Spot e (at b k) s
      spot = let ends = R.lies.ends in let begun = H.begun in root-spot e (T_of fe) (at b) p 4 s R.lies.laid R.lies.good R.single R.units k (omega arith) (omega arith)

      -- its root's power isn't finite
      pub root-stops : finite x.num ≡ false → Agrees (Err PowerNotFinite) b' p (rooted e s)
      root-stops h = rw (spot.stops (ap (λ (u : Entry). finite u.num) (sym is) ∙ h)) refl

      module _ (h : finite x.num ≡ true) where
        -- its root can be written
        pub root-writes : Room b' (k + 1) × Plain x
        root-writes = (root-reads.0, record { num = T_of h; re = rw is (T_of one-is-finite); im = rw is (root-finite (at b k).coef e (T_of fe) spot.unit) })

        fitting : Fitting x
        fitting =
            rw is (record {
              num = cond-fits binary64 (eqb (at b k).kind X) ((at b k).num ⊗ e) zero64 (mul-fits binary64 (at b k).num e) (of_bits-fits binary64 0);
              re = of_bits-fits binary64 0x3ff0000000000000;
              im = root-fits (at b k).coef e;
            })

        -- and then there is one more
        pub root-more : {b'' : Book} → Put b' b'' k x → Halfway e b b'' p (k + 1)
        root-more {b''} put =
            let here = put-at put fitting in
            let begun = H.begun in
            record {
              begun = omega arith;
              below = λ j h. put.else j (λ q. omega arith) ∙ H.below j h;
              done = λ j ge lo.
                  ⊎_elim (λ z. subst (λ (u : ℕ). (at b'' u ≡ root_entry e (at b u)) × (finite (at b'' u).num ≡ true)) (sym z) (here ∙ is, ap (λ (u : Entry). finite u.num) here ∙ h))
                  (λ z. let w = H.done j ge z in let kept = at-kept b' b'' j (put.else j (λ q. omega arith)) in (kept ∙ w.0, ap (λ (u : Entry). finite u.num) kept ∙ w.1))
                  (eq_or_lt j (omega arith));
              to-do = λ j hi. put.else j (λ q. omega arith) ∙ H.to-do j (omega arith);
              long = same-room-trans H.long put.long;
            }
          where
            eq_or_lt : (j : ℕ) → j ≤ k → (j ≡ k) ⊎ (j < k)
            eq_or_lt j h = eq-or-lt_of_le h

-- a sum that was copied
pub rooting-copied : {g b b' : Book} {i n p : ℕ} {s : Sum} → Copied g b b' i n p → Room b (p + n) → Rooting g i n s → Rooting b' p n s
rooting-copied c room r = record { lies = lies-copied c room r.lies; few = r.few; single = r.single; units = r.units }

-- nothing but the sum's cells was written
pub halfway-kept : {e : Float} {b b' : Book} {p k : ℕ} (n : ℕ) → Halfway e b b' p k → k ≤ p + n → Kept b b' p (p + n)
halfway-kept n H h = record { below = H.below; above = λ j g. H.to-do j (omega arith); long = H.long }
