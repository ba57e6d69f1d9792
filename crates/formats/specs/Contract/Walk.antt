-- What a function that walks a stretch of records by index asks of it.
use Rattle.std.specs.Prelude.{◌≡◌, Bool, true, List, ℕ, ◌*◌, ◌≤◌, length}
use Rattle.limits.specs.Limits.{list_records, record_bytes}
use Rattle.formats.specs.Tree.{forest, height}
use Rattle.formats.specs.Rules.{ok_nodes}

-- the records from a up to e are well-formed, bodies where b says so, and at most `levels` stand one inside the other
pub record Stretch (s : List ℕ) (a e : ℕ) (b : Bool) (levels : ℕ) : Type 0 where
  pub order : a ≤ e
  pub room : record_bytes * e ≤ length s
  pub few : e ≤ list_records
  pub ok : ok_nodes b (forest s a e) ≡ true
  pub low : height (forest s a e) ≤ levels

abbrev pub Walkable : List ℕ → ℕ → ℕ → Type 0
Walkable s a e = (b : Bool) × (levels : ℕ) × Stretch s a e b levels
