-- The entries that make a list of a list.
use Rattle.std.specs.Prelude.{Bool, true, false, cond, List, ℕ, leb}
use Rattle.limits.specs.Limits.{last_replaced}
use Rattle.limits.specs.declared.Refusal.{Refusal}
use Rattle.limits.specs.declared.Refusal.TheVariants.{NotHandled}
use Rattle.limits.specs.Refusals.{refusal_no}
use Rattle.sums.specs.Tree.Sums.{Sum}
use Rattle.modifiers.specs.Reading as reading
use Rattle.modifiers.specs.Reading.{Read, done}
use Rattle.algebra.specs.Answer.Making.{Made, refused_at, invert, derive_and_write, integrate_and_write, derive_and_write_faithful, integrate_and_write_faithful}
use Rattle.algebra.specs.Reading.{read_list}

-- what was read goes on with its complex flag
abbrev pub after_read : Read → (Bool → Sum → Made) → Made
after_read (done s c h k) f = f c s
after_read (reading.refused_at q at h) f = refused_at q at

unfoldable pub derivative : List ℕ → Made
derivative l = after_read (read_list l) derive_and_write

unfoldable pub integral : List ℕ → Made
integral l = after_read (read_list l) integrate_and_write

-- the same with the second writer
unfoldable pub derivative_faithful : List ℕ → Made
derivative_faithful l = after_read (read_list l) derive_and_write_faithful

unfoldable pub integral_faithful : List ℕ → Made
integral_faithful l = after_read (read_list l) integrate_and_write_faithful

-- 10, at place 0, where what was read doesn't count as handled: it replaces 1 to 9, never a number above them
abbrev pub unhandled : Refusal → ℕ → Made
unhandled q at = cond (leb (refusal_no q) last_replaced) (refused_at NotHandled 0) (refused_at q at)

abbrev pub inverse_of : Read → Made
inverse_of (done s c true k) = invert c s
inverse_of (done s c false k) = refused_at NotHandled 0
inverse_of (reading.refused_at q at true) = refused_at q at
inverse_of (reading.refused_at q at false) = unhandled q at

unfoldable pub inverse : List ℕ → Made
inverse l = inverse_of (read_list l)
