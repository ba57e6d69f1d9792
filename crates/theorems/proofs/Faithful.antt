-- The entries with the second writer make what their namesakes make of sums and formulas of powers, and demand 3 holds of them. Assumes nothing.
use Prim.Native.Nat.{ℕ}
use mathlib.Core.Path.{◌≡◌, refl, sym, ap, subst, ◌∙◌}
use mathlib.Core.Bool.{Bool, true, false, true≢false}
use mathlib.Core.List.{List}
use Rattle.sums.specs.Tree.Sums.{Sum}
use Rattle.sums.specs.Tree.Map.{Outcome, sum}
use Rattle.formats.specs.Tree.{records_in}
use Rattle.modifiers.specs.Reading.{Read, done}
use Rattle.calculus.specs.Derivative.{derive}
use Rattle.calculus.specs.Integral.{integrate}
use Rattle.writing.specs.Alike.{OfPowers}
use Rattle.writing.proofs.Writers.{alike}
use Rattle.algebra.specs.Answer.Making.{Made, of_list, of_outcome, write, write_faithful, derive_and_write, integrate_and_write, derive_and_write_faithful, integrate_and_write_faithful, Gives}
use Rattle.algebra.specs.Reading.{read_list}
use Rattle.algebra.specs.Entries.{after_read, derivative, integral, derivative_faithful, integral_faithful}
use Rattle.algebra.specs.Replies.{of_answer}
use Rattle.uplink.specs.Told.{with_count}
use Rattle.values.specs.Value.{Power}
use Rattle.theorems.specs.Terms.{nothing, zero_term, term, Terms}
use Rattle.theorems.specs.Faithful.{SameAsRust, FaithfulSpeed, FaithfulSpeedTold}
use Rattle.theorems.proofs.Demand3.{demand-3}
use Rattle.theorems.proofs.Functions.{runs-told}

-- ---- the same bytes

write_same : (c : Bool) (s : Sum) → OfPowers s → write_faithful c s ≡ write c s
unfolding write_faithful write
write_same c s h = ap of_list (alike c s h)

-- of a list: g derives or integrates
whole_same : (g : Sum → Outcome) (x : Read) (s d : Sum) (c h : Bool) (k : ℕ) → x ≡ done s c h k → g s ≡ sum d → OfPowers d
    → after_read x (λ f t. of_outcome (g t) (λ u. write_faithful f u)) ≡ after_read x (λ f t. of_outcome (g t) (λ u. write f u))
whole_same g x s d c h k e i p =
    ap (λ (r : Read). after_read r (λ f t. of_outcome (g t) (λ u. write_faithful f u))) e
    ∙ ap (λ (o : Outcome). of_outcome o (λ u. write_faithful c u)) i
    ∙ write_same c d p
    ∙ sym (ap (λ (r : Read). after_read r (λ f t. of_outcome (g t) (λ u. write f u))) e ∙ ap (λ (o : Outcome). of_outcome o (λ u. write c u)) i)

derivative-same : (l : List ℕ) (s d : Sum) (c h : Bool) (k : ℕ) → read_list l ≡ done s c h k → derive s ≡ sum d → OfPowers d → derivative_faithful l ≡ derivative l
unfolding derivative_faithful derivative derive_and_write_faithful derive_and_write
derivative-same l s d c h k e i p = whole_same derive (read_list l) s d c h k e i p

integral-same : (l : List ℕ) (s d : Sum) (c h : Bool) (k : ℕ) → read_list l ≡ done s c h k → integrate s ≡ sum d → OfPowers d → integral_faithful l ≡ integral l
unfolding integral_faithful integral integrate_and_write_faithful integrate_and_write
integral-same l s d c h k e i p = whole_same integrate (read_list l) s d c h k e i p

pub same-as-rust : SameAsRust
same-as-rust = record { write = write_same; derivative = derivative-same; integral = integral-same }

-- ---- demand 3

of-terms : {s : Sum} {ts : List Power} → Terms s ts → OfPowers s
unfolding OfPowers
of-terms nothing = tt
of-terms (zero_term z t) = ((λ f. absurd (true≢false (sym z ∙ f))), of-terms t)
of-terms (term z w t) = ((λ f. refl), of-terms t)

pub faithful-speed : FaithfulSpeed
faithful-speed l ts f out out' r room g =
    let same = derivative-same l f.s f.d false f.handled f.pairs f.read f.derived (of-terms f.terms) in
    (demand-3 l ts f).writes out out' r room (subst (λ (m : Made). Gives records_in m out out' r) same g)

pub faithful-speed-told : FaithfulSpeedTold
faithful-speed-told l ts f out out' number answer room t =
    let s = faithful-speed l ts f out out' t.promised.0 room t.promised.2 in
    let e = t.promised.1 ∙ ap of_answer s.0 in
    (t.returned ∙ ap (λ z. z.number) e, t.told ∙ ap with_count e, runs-told s.1)
