-- Each turn multiplies the product so far by the base, and counts the pairs of their outermost terms.
use Rattle.std.proofs.Common.{◌≡◌, suc, ◌+◌, ◌*◌, ◌-◌, ◌≤◌, refl, ap₂, ◌∙◌, arith, rules}
use native.Mathlib.Nat.{mul_comm}
use borrow.Author.Tests.{eqb-true}
use Rattle.cells.specs.Contract.Book.{seen, at}
use Rattle.cells.specs.Contract.Moves.{Kept}
use Rattle.cells.proofs.Laws.{insides-one, room-same, kept_refl, kept_trans}
use Rattle.sums.specs.Tree.Sums.{Sum, len}
use Rattle.sums.specs.Contract.Lies.{Lies}
use Rattle.arithmetic.specs.Add.Contract.Operands.{Source}
use Rattle.arithmetic.proofs.Pairs.{len-most, product-most}
use Rattle.arithmetic.proofs.add.Lying.{clear, lies-clear}
use Rattle.powers.proofs.raise.Pairs.{counted-agrees, counted_is}
use Rattle.powers.proofs.raise.Turns.{turn_two, turn-kept, turn-room, turn-base, source-kept, first, So-far, so-far-start, turn-so-far, turn-next, last-place, so_far_more, so-far-stops, so-far-done, so-far-counted}
use Rattle.powers.proofs.raise.multiply.Goals as goal
use Rattle.powers.proofs.raise.multiply.Goals.{At-loop-turn, After-outermost, After-mul, In-Ok}

-- the base, as it lies now
source : (c : At-loop-turn) → Source (seen c.loop-turn.book) c.args.i c.args.n c.args.w
source c = source-kept c.loop-turn.invariant.kept c.requires.2

base : (c : At-loop-turn) (s : Sum) → Lies (seen c.args.book.now) c.args.i (c.args.i + c.args.n) 4 s → Lies (seen c.loop-turn.book) c.args.i (c.args.i + c.args.n) 4 s
base c s l = lies-clear c.loop-turn.invariant.kept (clear c.requires.2.apart) l

-- how many terms it has
terms : (c : At-loop-turn) (s : Sum) → Lies (seen c.args.book.now) c.args.i (c.args.i + c.args.n) 4 s → c.count-terms.result ≡ len s
terms c s l = (rw (insides-one c.cells.ensures) at c.count-terms.ensures) (at (seen c.args.book.now)) s (λ j. refl) l.laid (let e = l.ends in omega arith)

-- and how many the product so far has, which is flat where the base is
terms-now : (c : After-outermost) (s : Sum) (z : Lies (seen c.args.book.now) c.args.i (c.args.i + c.args.n) 4 s) → c.outermost.result ≡ len (c.loop-turn.invariant.so_far s z).acc
terms-now c s z =
    let F = c.loop-turn.invariant.so_far s z in
    let ends = F.made.ends in
    let t = terms (goal.at.After-outermost c).At-loop-turn s z in
    (rw (insides-one c.cells-in-loop-turn.ensures) at c.outermost.ensures) (at (seen c.loop-turn.book)) F.acc (λ j. refl) F.made.laid (omega arith)
    (λ e. F.flat (omega (arith, t, eqb-true c.count-terms.result c.args.n e, z.ends)))

-- at most 64 with at most 64
few-pairs : (c : After-outermost) → c.count-terms.result * c.outermost.result ≤ 4096
few-pairs c =
    let held = c.requires.2.held in
    let F = c.loop-turn.invariant.so_far held.0 held.1 in
    let t = terms (goal.at.After-outermost c).At-loop-turn held.0 held.1 in
    product-most (omega (arith, t, len-most held.0, held.1.ends, c.requires.2.few)) (omega (arith, terms-now c held.0 held.1, len-most F.acc, F.made.ends, c.loop-turn.invariant.few))

kept : (c : After-mul) → Kept (seen c.args.book.now) (seen c.mul.new.book) c.args.w (c.args.w + (64 + 64))
kept c = kept_trans c.loop-turn.invariant.kept (turn-kept (turn_two (c.args.times - c.loop-turn.turn) c.turn_place-p.ensures) c.mul.ensures.kept)

-- the product so far, with its pairs, after a turn
next : (c : In-Ok) (s : Sum) → Lies (seen c.args.book.now) c.args.i (c.args.i + c.args.n) 4 s
    → (c.in-Ok.m ≤ 64) × So-far (seen c.mul.new.book) c.turn_place-p.result c.in-Ok.m (c.args.times - (c.loop-turn.turn + 1)) c.args.times
    (c.loop-turn.pairs + c.count-terms.result * c.outermost.result) s
next c s ls =
    let G = c.loop-turn.invariant.so_far s ls in
    let d = (goal.at.In-Ok c).At-loop-turn in
    let o = (goal.at.In-Ok c).After-outermost in
    so_far_more (seen c.mul.new.book) c.turn_place-p.result (omega arith) G c.mul.result (c.mul.ensures.of_two G.acc s G.made (base d s ls)) _ _
    c.in-Ok.is (mul_comm c.count-terms.result c.outermost.result ∙ ap₂ ◌*◌ (terms-now o s ls) (terms d s ls))

pub loop-turn-init : goal.loop-turn-init
loop-turn-init c = record {
  few = c.requires.2.few;
  place = first (omega arith);
  kept = kept_refl (seen c.args.book.now) c.args.w (c.args.w + (64 + 64));
  low = omega arith;
  so_far = λ s ls. so-far-start (omega arith) ls;
  same = search rules;
}

pub overflow_mul-more : goal.overflow_mul-more
overflow_mul-more c = omega (arith, few-pairs (goal.at.overflow_mul-more c).After-outermost)

pub mul-requires : goal.mul-requires
mul-requires c =
    let d = (goal.at.mul-requires c).At-loop-turn in
    let held = c.requires.2.held in
    let two = turn_two (c.args.times - c.loop-turn.turn) c.turn_place-p.ensures in (
      turn-so-far (source d) c.loop-turn.invariant.few c.loop-turn.invariant.place (c.loop-turn.invariant.so_far held.0 held.1) c.turn_place-p.ensures,
      turn-base two (source d),
      turn-room two (room-same c.loop-turn.invariant.kept.long c.requires.3),
    )

pub returns-in-Err-clause-of_one : goal.returns-in-Err-clause-of_one
returns-in-Err-clause-of_one c s ls =
    let d = (goal.at.returns-in-Err-clause-of_one c).At-loop-turn in
    let G = c.loop-turn.invariant.so_far s ls in
    let more : c.args.times - c.loop-turn.turn ≡ suc (c.args.times - (c.loop-turn.turn + 1)) = omega arith in
    counted-agrees _ c.args.w _ _ c.counted.ensures
    (so-far-stops (seen c.mul.new.book) c.turn_place-p.result more G c.mul.result (c.mul.ensures.of_two G.acc s G.made (base d s ls)) c.args.w _ c.in-Err.is)

pub overflow_add-pairs : goal.overflow_add-pairs
overflow_add-pairs c = omega (arith, c.loop-turn.invariant.low, few-pairs (goal.at.overflow_add-pairs c).After-outermost, c.requires.1)

pub loop-turn-preserved : goal.loop-turn-preserved
loop-turn-preserved c =
    let g = goal.at.loop-turn-preserved c in
    let held = c.requires.2.held in
    let more : c.args.times - c.loop-turn.turn ≡ suc (c.args.times - (c.loop-turn.turn + 1)) = omega arith in
    record {
      few = (next g.In-Ok held.0 held.1).0;
      place = turn-next more c.turn_place-p.ensures;
      kept = kept g.After-mul;
      low = omega (arith, c.loop-turn.invariant.low, few-pairs g.After-outermost);
      so_far = λ s ls. (next g.In-Ok s ls).1;
      same = search rules;
    }

pub returns-clause-of_one : goal.returns-clause-of_one
returns-clause-of_one c s ls =
    let known = c.loop-turn.invariant in
    let none : c.args.times - c.loop-turn.turn ≡ 0 = omega (arith, c.loop-turn-test.false) in
    counted-agrees _ c.args.w _ _ c.counted-2.ensures (so-far-done known.few none (last-place c.requires.0 none known.place) (known.so_far s ls))

pub returns-clause-of_one_2 : goal.returns-clause-of_one_2
returns-clause-of_one_2 c s ls =
    let none : c.args.times - c.loop-turn.turn ≡ 0 = omega (arith, c.loop-turn-test.false) in
    counted_is c.counted-2.ensures (so-far-counted none (c.loop-turn.invariant.so_far s ls))
