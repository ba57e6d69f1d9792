-- The parts of a turn of the writer's loop, over an entry as the code holds it and the sum t inside it.
use Rattle.std.specs.Prelude.{ℕ, ◌+◌, ◌≤◌, ◌≡◌, Bool, false, not, ◌&&◌, eqb, Float}
use Rattle.numbers.specs.declared.complex.Complex.{Complex}
use Rattle.numbers.specs.Complex.Arith as complex
use Rattle.cells.specs.declared.Entry.{Entry}
use Rattle.sums.specs.Tree.Kinds as kinds
use Rattle.sums.specs.Tree.Sums.{Sum, none, and}
use Rattle.formats.specs.Tree.{Nodes, end}
use Rattle.writing.specs.Draft.Writing.{Written, wrote, and_then}
use Rattle.writing.specs.ToNodes.{form, is_bare, is_constant, write_term, times_coef, plus, close, turn, write}
use Rattle.writing.specs.Faithful.{behind, write_faithful}

abbrev pub is_x : Entry → Bool
is_x x = eqb x.kind kinds.X

-- the entry is x, which is then met and needs no record
abbrev pub meets_x : Entry → Bool
meets_x x = not (complex.same x.coef complex.zero) && (is_x x && is_bare (form x.num))

-- its coefficient is written after it
abbrev pub with_coef : Entry → Bool
with_coef x = not (complex.same x.coef complex.one) && not (is_x x && is_constant (form x.num))

-- its term, where `inside` writes an argument
abbrev pub term_by : Bool → Entry → (Nodes → Written) → Nodes → Written
term_by flag x inside ns = write_term (is_x x) (form x.num) x.kind x.num x.coef flag inside ns

-- what follows the term: its coefficient, and the sum with what was before it
abbrev pub finished : Bool → Bool → Entry → Nodes → Written
finished flag first x ns = and_then (times_coef (with_coef x) flag x.coef ns) (λ ms. wrote (plus first ms))

-- the whole turn, up to the turns that follow
abbrev pub entry_by : Bool → Bool → Entry → (Nodes → Written) → Nodes → Written
entry_by flag identity x inside ns =
    turn (complex.same x.coef complex.zero) (is_x x) (form x.num) x.kind x.num x.coef flag inside (λ id ms. wrote ms) identity ns

-- how the two writers write the sum t as an argument: after the list so far, or apart and then behind it
abbrev pub on_list : Bool → Sum → Nodes → Written
on_list flag t ms = write flag t false ms

abbrev pub apart : Bool → Sum → Nodes → Written
apart flag t ms = behind (write_faithful flag t false end) ms

-- a writer's loop: what it makes of nothing, and of an entry; and how many places at most so many entries take behind what was written
pub record Loop : Type 0 where
  pub flag : Bool
  pub whole : Sum → Bool → Nodes → Written
  pub inside : Sum → Nodes → Written
  pub nothing : (id : Bool) (ns : Nodes) → whole none id ns ≡ wrote (close id ns)
  pub entry : (k : ℕ) (p : Float) (i : Sum) (c : Complex) (r : Sum) (id : Bool) (ns : Nodes)
      → whole (and k p i c r) id ns ≡ turn (complex.same c complex.zero) (eqb k kinds.X) (form p) k p c flag (λ ms. inside i ms) (λ j ms. whole r j ms) id ns
  pub places : ℕ → ℕ
  pub step : (a n : ℕ) → places a + (places n + 9) ≤ places (a + 1 + n)
  pub rises : (a b : ℕ) → a ≤ b → places a ≤ places b
