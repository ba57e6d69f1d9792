-- Laws of the start and the end of reading: x lies in the first cell of the stack, and one sum must be left. Assumes nothing.
use Prim.Native.Nat.{ℕ, ◌+◌, ◌-◌, ◌≤◌, ◌<◌, min}
use native.Mathlib.Omega.{arith}
use native.Mathlib.Nat.{eq-or-lt_of_le}
use mathlib.Core.Path.{◌≡◌, refl, sym}
use mathlib.Core.Logic.{⊎_elim}
use mathlib.Core.Bool.{Bool, false, ◌||◌}
use mathlib.Core.List.{List, [], ◌∷◌}
use lib.Dec.{T, leb}
use lib.Ieee.{binary64, of_bits, fits}
use lib.Ieee.Bits.{of_bits-fits}
use lib.Ieee.Fits.{and_i}
use lib.Ieee.Scale.{finite}
use lib.ListN.{get_or, set, length-set}
use lib.Seq.{get_or-set_same}
use Rattle.std.specs.Prelude.{Ok}
use Rattle.numbers.specs.Signs.{zero64, one64}
use Rattle.numbers.specs.Complex.Arith as complex
use Rattle.cells.specs.declared.Entry.{Entry}
use Rattle.cells.specs.Contract.Book.{Book, Room, Plain}
use Rattle.cells.specs.Contract.Moves.{Put}
use Rattle.cells.proofs.Laws.{Fitting, put-at, room-less, room-same}
use Rattle.limits.specs.declared.Refusal.{Refusal}
use Rattle.limits.specs.declared.Refusal.TheVariants.{NoOutput, TooManyOutputs}
use Rattle.formats.specs.Tree.{parse, records_in}
use Rattle.formats.specs.Rules.{verdict}
use Rattle.formats.specs.Contract.Walk.{Stretch}
use Rattle.formats.proofs.record.Walk.{whole-stretch}
use Rattle.sums.specs.Tree.Kinds as kinds
use Rattle.sums.specs.Tree.Sums.{Sum, none, size, entry}
use Rattle.arithmetic.specs.Singles.{GoodSum, single}
use Rattle.arithmetic.proofs.Goodness.{good-x_to}
use Rattle.sums.specs.Contract.Lies.{At, Lies}
use Rattle.stack.specs.Contract.Arena.{Arena, of, Space}
use Rattle.stack.specs.Stack.{total, any_complex}
use Rattle.stack.specs.Contract.Stacked.{Stacked, no_sum, on_top, Sized, sizes_of}
use Rattle.stack.proofs.slots.Laws.{space-same, stacked-one, stacked-two, stacked-some, stacked-le, stacked-end, stacked-size, stacked-total}
use Rattle.stack.specs.State.{State, Walked, is_handled, went, stopped, most_pairs}
use Rattle.stack.specs.Contract.Agree.{Stands, Ready, Agree, Does}
use Rattle.stack.specs.declared.state.AlgebraEnv.{AlgebraEnv}
use Rattle.stack.specs.declared.state.Ran.TheVariants.{Went, Stopped}
use Rattle.modifiers.specs.Reading.{start, ended, last_of}
use Rattle.modifiers.specs.Contract.Room.{read_held}
use Rattle.modifiers.specs.Contract.Walks.{walk_of}
use Rattle.reading.specs.declared.env.AlgebraData.{AlgebraData}
use Rattle.reading.specs.declared.env.AlgebraData.TheVariants as answer
use Rattle.reading.specs.Contract.Data.{Reaches, DataAs}

-- ---- the start

abbrev pub x : Entry
x = entry kinds.X 0 one64 complex.one

one-finite : T (finite one64)
unfolding of_bits
one-finite = tt

zero-finite : T (finite zero64)
unfolding of_bits
zero-finite = tt

pub x-plain : Plain x
x-plain = record { num = one-finite; re = one-finite; im = zero-finite }

x-good : GoodSum (single kinds.X one64 none complex.one)
x-good =
    let one = and_i (finite one64) (fits binary64 one64) one-finite (of_bits-fits binary64 0x3ff0000000000000) in
    good-x_to one64 complex.one one one (and_i (finite zero64) (fits binary64 zero64) zero-finite (of_bits-fits binary64 0))

x-lies : {b b' : Book} → Put b b' 128 x → Room b' 129 → Lies b' 128 129 4 (single kinds.X one64 none complex.one)
unfolding At size
x-lies p r =
    let f : Fitting x = record { num = of_bits-fits binary64 0x3ff0000000000000; re = of_bits-fits binary64 0x3ff0000000000000; im = of_bits-fits binary64 0 } in
    record { laid = (put-at p f, tt, tt); good = x-good.good; ends = refl; room = r }

-- nothing but x is on the stack
abbrev x-alone : AlgebraEnv
x-alone = record { used = 129; handled = 0; complex = false; pairs = 0 }

-- x stands in the arena
x-stands : {b b' : Book} {z : List ℕ} (top : ℕ) → 128 < top → Put b b' 128 x → Space (of b' z) top → get_or z 128 0 ≡ 1 → Stands (of b' z) top x-alone start
unfolding size
x-stands {b} {b'} {z} top some p s q =
    record {
      stack = on_top (record { lies = x-lies p (room-less {n = top} (omega arith) s.cells); good = x-good; told = q }) no_sum;
      below = omega arith;
      handled = refl;
      complex = refl;
      pairs = refl;
    }

-- and it is ready
pub x-ready : {b b' : Book} (z : List ℕ) (top : ℕ) → Reaches (of b z) top → Put b b' 128 x
    → Ready (of b' (set z 128 1)) top x-alone × Stands (of b' (set z 128 1)) top x-alone start
x-ready {b} {b'} z top r p =
    let s = r.space in
    let some = r.some in
    let y : Space (of b' (set z 128 1)) top = record { cells = room-same p.long s.cells; sizes = omega (arith, length-set z 128 1, s.sizes) } in
    let t = x-stands top some p y (get_or-set_same z 128 1 0 (omega (arith, s.sizes))) in
    (record { space = y; within = r.most; some = (start, t) }, t)

-- ---- the end

-- what an answer says whether it counts as handled
pub handled-is : {a : Arena} {v : ℕ} {env : AlgebraEnv} {st : State} {c : Bool} → Stands a v env st → ((ss : List Sum) → Stacked a 128 env.used ss → c ≡ any_complex ss)
    → leb 2 env.handled || c ≡ is_handled st
handled-is s f = rw s.handled (rw (f _ s.stack) refl)

-- the stack is empty
pub last_none : {a : Arena} {u : ℕ} (b : Book) {h : Bool} (st : State) (ss : List Sum) → Stacked a 128 u ss → u ≡ 128 → h ≡ is_handled st → DataAs (answer.Refused NoOutput 0 h) b (last_of st ss)
last_none b st ss k e q = rw (stacked-end k (omega arith)) (record { refusal = refl; place = refl; handled = q })

-- the size that is told of the top sum
abbrev pub Told : Arena → ℕ → ℕ → Type 0
Told a u n = (m : ℕ) (ns : List ℕ) → Sized a.sizes 128 u (m ∷ ns) → n ≡ m

-- several are on it
pub last-many : {a : Arena} {u n : ℕ} (b : Book) {h : Bool} (st : State) (ss : List Sum) → Stacked a 128 u ss → 128 < u → Told a u n → (128 + n ≡ u → ⊥) → h ≡ is_handled st
    → DataAs (answer.Refused TooManyOutputs 0 h) b (last_of st ss)
unfolding total
last-many b st [] k l t e q = absurd (omega (arith, stacked-total k))
last-many b st (s ∷ []) k l t e q = absurd (e (let is = t _ _ (stacked-size k) in omega (arith, stacked-total k)))
last-many b st (s ∷ r ∷ ss) k l t e q = record { refusal = refl; place = refl; handled = q }

lies_at : {b : Book} {i j e n : ℕ} {s : Sum} → Lies b i e 4 s → i ≡ j → e ≡ n → Lies b j n 4 s
lies_at l p q = rw (← p) (rw (← q) l)

-- one is on it, and lies behind the working places
pub last_one : {a : Arena} {u n k : ℕ} {h c : Bool} (st : State) (ss : List Sum) → Stacked a 128 u ss → 128 < u → Told a u n → 128 + n ≡ u → c ≡ st.complex → h ≡ is_handled st
    → k ≡ min most_pairs st.pairs → DataAs (answer.Sum n c h k) a.cells (last_of st ss)
unfolding total
last_one st [] k l t e p q m = absurd (omega (arith, stacked-total k))
last_one {a} {u} {n} st (s ∷ []) k l t e p q m =
    let o = stacked-one (t (size s) (sizes_of []) (stacked-size k)) k in
    (record { lies = lies_at {j = 128} {n = 128 + n} o.lies (omega (arith, e)) (omega (arith, e)); good = o.good }, p, q, m)
last_one st (s ∷ r ∷ ss) k l t e p q m =
    let o = stacked-two (t (size s) (sizes_of (r ∷ ss)) (stacked-size k)) refl k in
    absurd (omega (arith, stacked-total k, o.1.some, o.0.is))

-- the top sum is not large
pub top-few : {a : Arena} {v n : ℕ} {env : AlgebraEnv} → Ready a v env → 128 < env.used → Told a env.used n → n ≤ 64
top-few y l t =
    let w = stacked-some y.some.1.stack l in
    let o = stacked-one (t (size w.0) (sizes_of w.1) (stacked-size w.3)) w.3 in
    o.few

-- where the stack isn't empty it ends above where it begins
pub some-used : {a : Arena} {v : ℕ} {env : AlgebraEnv} → Ready a v env → (env.used ≡ 128 → ⊥) → 128 < env.used
some-used y filled = ⊎_elim (λ e. absurd (filled (sym e))) (λ l. l) (eq-or-lt_of_le (stacked-le y.some.1.stack))

-- ---- the whole

-- all records of a good list
pub all-records : (s : List ℕ) {n : ℕ} → n ≡ records_in s → verdict s ≡ Ok tt → Stretch s 0 n false 129
all-records s e g = rw e (whole-stretch s g)

module _ {a b : Arena} {v : ℕ} {env : AlgebraEnv} (s : List ℕ) {n : ℕ} (all : n ≡ records_in s) (h : Stands a v env start) where
  -- reading refuses
  pub read-stop : {q : Refusal} {at : ℕ} {z : Bool} (w : Book) → Does a b v env (Stopped q at z) (λ st. walk_of s 0 n (1152 - v) st) → DataAs (answer.Refused q at z) w (read_held (1152 - v) (parse s))
  unfolding read_held parse
  read-stop {q} {at} {z} w d = rw (← all) (go (walk_of s 0 n (1152 - v) start) (d.agrees start h))
    where
      go : (x : Walked) → Agree (Stopped q at z) b v x → DataAs (answer.Refused q at z) w (ended x)
      go (went st) e = absurd e
      go (stopped q' at' z') e = e

  module _ {e : AlgebraEnv} (d : Does a b v env (Went e) (λ st. walk_of s 0 n (1152 - v) st)) where
    pub read-ready : Ready a v env → Ready b v e
    read-ready y = record { space = space-same d.kept.long y.space; within = y.within; some = go (walk_of s 0 n (1152 - v) start) (d.agrees start h) }
      where
        go : (x : Walked) → Agree (Went e) b v x → (st : State) × Stands b v e st
        go (went st) k = (st, k)
        go (stopped q' at' z') k = absurd k

    -- reading comes to its end
    pub read-went : (r : AlgebraData) (w : Book) → ((v : ℕ) (st : State) → Stands b v e st → DataAs r w (ended (went st))) → DataAs r w (read_held (1152 - v) (parse s))
    unfolding read_held parse
    read-went r w f = rw (← all) (go (walk_of s 0 n (1152 - v) start) (d.agrees start h))
      where
        go : (x : Walked) → Agree (Went e) b v x → DataAs r w (ended x)
        go (went st) k = f v st k
        go (stopped q' at' z') k = absurd k
