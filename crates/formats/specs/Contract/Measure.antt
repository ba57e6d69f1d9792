-- The steps by which a list is judged, named for the contracts of the functions that take them.
use Rattle.std.specs.Prelude.{◌≡◌, Bool, true, false, ◌&&◌, List, ℕ, ◌+◌, ◌≤◌, ◌<◌, leb}
use Rattle.std.specs.Bool.{beq}
use Rattle.formats.specs.Tree.{forest, height, rec_at, next_of}
use Rattle.formats.specs.Rules.{is_a, fields_ok, ok_nodes}
use Rattle.formats.specs.declared.record.Kind.TheVariants.{Modifier, Body}
use Rattle.formats.specs.declared.record.Record.{Record}

-- whether a record may stand at a place of a stretch that ends at `to`, of bodies or of others
unfoldable pub may_stand : Record → ℕ → ℕ → Bool → Bool
may_stand r at to bodies = fields_ok r && beq (is_a r Body) bodies && leb (at + 1 + r.inside) to

-- what is inside each record from a up to e is well-formed
abbrev pub OkInside : List ℕ → ℕ → ℕ → Type 0
OkInside s a e = (j : ℕ) → a ≤ j → j < e → ok_nodes (is_a (rec_at s j) Modifier) (forest s (j + 1) (next_of s j)) ≡ true

-- a record that keeps the rules wherever no bodies stand, and holds nothing
pub record Simple (r : Record) : Type 0 where
  pub fields : fields_ok r ≡ true
  pub body : is_a r Body ≡ false
  pub inside : r.inside ≡ 0

-- the records from a up to e are well-formed, bodies where b says so, and at most `levels` stand one inside the other
pub record Low (s : List ℕ) (a e : ℕ) (b : Bool) (levels : ℕ) : Type 0 where
  pub ok : ok_nodes b (forest s a e) ≡ true
  pub low : height (forest s a e) ≤ levels
