-- Laws of what reading gave. Assumes nothing.
use Prim.Native.Nat.{ℕ, ◌+◌, ◌≤◌, min}
use native.Mathlib.Omega.{arith}
use mathlib.Core.Path.{◌≡◌, refl, subst}
use mathlib.Core.Bool.{Bool, false}
use mathlib.Core.List.{List}
use Rattle.std.specs.Prelude.{Ok, Err}
use Rattle.cells.specs.Contract.Book.{Book, Room}
use Rattle.limits.specs.declared.Refusal.{Refusal}
use Rattle.sums.specs.Tree.Sums.{Sum}
use Rattle.sums.specs.Contract.Lies.{Lies}
use Rattle.cells.specs.Contract.Moves.{over}
use Rattle.cells.proofs.Laws.{room-less}
use Rattle.arithmetic.specs.Add.Contract.Operands.{Source}
use Rattle.formats.specs.Rules as rules
use Rattle.formats.specs.Tree.{parse}
use Rattle.stack.specs.State.{most_pairs}
use Rattle.modifiers.specs.Reading.{Read, done, refused_at}
use Rattle.modifiers.specs.Contract.Room.{read_held}
use Rattle.reading.specs.declared.env.AlgebraData.{AlgebraData}
use Rattle.reading.specs.declared.env.AlgebraData.TheVariants as gave
use Rattle.reading.specs.Contract.Data.{DataAs}
use Rattle.algebra.specs.Contract.Lists.{list_held}

-- the list is refused as it stands
pub list-refused : (h : ℕ) (l : List ℕ) (b : Book) {q : Refusal} → rules.verdict l ≡ Err q → DataAs (gave.Refused q 0 false) b (list_held h l)
unfolding list_held
list-refused h l b e = rw e (record { refusal = refl; place = refl; handled = refl })

-- the list keeps the rules
pub list-good : (h : ℕ) (l : List ℕ) → rules.verdict l ≡ Ok tt → list_held h l ≡ read_held h (parse l)
unfolding list_held
list-good h l e = rw e refl

-- a refusal
pub gave-refused : {q : Refusal} {at : ℕ} {h : Bool} (x : Read) (d : AlgebraData) (b : Book) → d ≡ gave.Refused q at h → DataAs d b x → x ≡ refused_at q at h
gave-refused {q} {at} {h} x d b e g = go x (subst (λ y. DataAs y b x) e g)
  where
    go : (x : Read) → DataAs (gave.Refused q at h) b x → x ≡ refused_at q at h
    go (done s c k m) g = absurd g
    go (refused_at p i k) g = rw (g.refusal, g.place, g.handled) refl

-- a sum, which lies in n cells behind the working places, and the pairs, which are told as k
pub record SumRead (x : Read) (b : Book) (n : ℕ) (c h : Bool) (k : ℕ) : Type 0 where
  pub s : Sum
  pub pairs : ℕ
  pub is : x ≡ done s c h pairs
  pub told : k ≡ min most_pairs pairs
  pub lies : Lies b 128 (128 + n) 4 s
  pub few : n ≤ 64

pub gave-sum : {n : ℕ} {c h : Bool} {k : ℕ} (x : Read) (d : AlgebraData) (b : Book) → d ≡ gave.Sum n c h k → DataAs d b x → SumRead x b n c h k
gave-sum {n} {c} {h} {k} x d b e g = go x (subst (λ y. DataAs y b x) e g)
  where
    go : (x : Read) → DataAs (gave.Sum n c h k) b x → SumRead x b n c h k
    go (done s i j m) g =
        record { s = s; pairs = m; is = rw (g.1, g.2) refl; told = g.3; lies = g.0.lies; few = omega (arith, g.0.lies.ends, g.0.good.room) }
    go (refused_at q at j) g = absurd g

-- it is apart from the working places
pub gave-source : {n : ℕ} {c h : Bool} {k : ℕ} (x : Read) (d : AlgebraData) (b : Book) → d ≡ gave.Sum n c h k → DataAs d b x → Source b 128 n 0 × Room b (0 + (64 + 64))
gave-source x d b e g =
    let w = gave-sum x d b e g in
    (record { few = w.few; held = (w.s, w.lies); apart = over (omega arith) }, room-less (omega arith) w.lies.room)
