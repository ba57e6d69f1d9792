-- Meeting the outermost terms of a sum in turn. Assumes nothing.
use Prim.Native.Nat.{ℕ, ◌+◌, ◌<◌, ◌≤◌}
use mathlib.Core.Path.{◌≡◌, refl, sym, ap, subst, ◌∙◌}
use mathlib.Core.Bool.{Bool, true, false, ◌&&◌, ◌||◌}
use lib.Ieee.{Float}
use Rattle.numbers.specs.Numbers.{small_whole}
use Rattle.numbers.specs.Complex.Arith as complex
use Rattle.numbers.proofs.Bools.{and-true}
use Rattle.cells.specs.declared.Entry.{Entry}
use Rattle.cells.specs.Contract.Book.{Book, at}
use Rattle.sums.specs.Tree.Sums.{Sum, none, and}
use Rattle.sums.specs.Contract.Lies.{Lies}
use Rattle.sums.proofs.order.Walk.{next, lies-none}
use Rattle.values.specs.declared.Found.{Found}
use Rattle.values.specs.Value.{value}
use Rattle.values.specs.ValueOf.{is_zero, is_power, all_powers, all_real, powers_of}
use Rattle.values.specs.Contract.Findings.{onward, Starts, Takes, Finds}

and_assoc : (a b c : Bool) → a && (b && c) ≡ a && b && c
and_assoc true b c = refl
and_assoc false b c = refl

-- ---- over trees

-- what is said of the whole sum is what was found and what is said of the rest
pub record Goes (x : Float) (f : Found) (s rest : Sum) : Type 0 where
  pub powers : all_powers s ≡ f.whole && all_powers rest
  pub reals : all_real s ≡ f.real && all_real rest
  pub sums : value x (powers_of s) ≡ onward x f.any f.sum (powers_of rest)

module _ {x : Float} {f : Found} {s : Sum} where
  -- nothing was met yet
  pub goes-start : Starts x f → Goes x f s s
  goes-start h = record { powers = rw h.tests.0 refl; reals = rw h.tests.1 refl; sums = rw h.none_yet refl }

  -- one entry more
  pub goes-next : {r : Found} (e : Entry) (inner rest : Sum) → Takes x f e r → Goes x f s (and e.kind e.num inner e.coef rest) → Goes x r s rest
  unfolding all_powers all_real powers_of
  goes-next e inner rest t w =
      let c = e.coef in
      record {
        powers = w.powers ∙ and_assoc f.whole (is_zero c || is_power e.kind (small_whole e.num)) (all_powers rest) ∙ ap (λ (z : Bool). z && all_powers rest) (sym t.powers);
        reals = w.reals ∙ and_assoc f.real (is_zero c || complex.is_real c) (all_real rest) ∙ ap (λ (z : Bool). z && all_real rest) (sym t.reals);
        sums = w.sums ∙ t.sums (powers_of rest);
      }

  -- nothing is left
  pub goes_end : Goes x f s none → Finds x s f
  unfolding all_powers all_real powers_of
  goes_end w = record { powers = sym (w.powers ∙ and-true f.whole); reals = sym (w.reals ∙ and-true f.real); sums = sym w.sums }

-- ---- in a book

-- from place i on there is a rest of the sum
pub record Rest (b : Book) (n : ℕ) (x : Float) (f : Found) (i : ℕ) (s : Sum) : Type 0 where
  pub rest : Sum
  pub lies : Lies b i n 4 rest
  pub goes : Goes x f s rest

module _ {b : Book} {n : ℕ} {x : Float} {f : Found} {i : ℕ} {s : Sum} where
  -- one entry more
  pub rest-next : {r : Found} (e : Entry) → e ≡ at b i → Takes x f e r → i < n → Rest b n x f i s → Rest b n x r (i + 1 + e.inside) s
  rest-next e q t h w =
      let m = next b i n 4 w.rest e q w.lies h in
      record { rest = m.rest; lies = m.lies-rest; goes = goes-next e m.inner m.rest t (subst (Goes x f s) m.is w.goes) }

  -- nothing is left
  pub rest_end : n ≤ i → Rest b n x f i s → Finds x s f
  rest_end h w = goes_end (subst (Goes x f s) (lies-none b i n 4 w.rest w.lies h) w.goes)
