-- The two sums on top are taken off, and what is formed of them put on.
use Rattle.std.proofs.Common.{◌+◌, ◌-◌, [], ◌∷◌, subst, arith}
use Rattle.cells.specs.Contract.Book.{seen}
use Rattle.cells.specs.Contract.Moves.{over}
use Rattle.cells.proofs.Laws.{room-less}
use Rattle.sums.specs.Tree.Sums.{Sum}
use Rattle.powers.specs.Raise.Contract.Pairs.{Counted}
use Rattle.formats.specs.declared.record.Primitive.{Primitive}
use Rattle.formats.specs.Names.{primitive_of}
use Rattle.primitives.specs.Forms.{of_two, pairs_of}
use Rattle.sums.specs.Contract.Lies.{Lies, Agrees}
use Rattle.stack.specs.Contract.Arena.{slots, of}
use Rattle.stack.specs.Contract.Blocks.{Outside}
use Rattle.stack.specs.Contract.Parts.{Tops}
use Rattle.stack.proofs.state.Laws.{tops-one, tops-two, Pair, pair, ready-popped}
use Rattle.stack.proofs.state.Forming.{filled, push-paired}
use Rattle.stack.proofs.one_operand.Table.{of-two-good}
use Rattle.stack.proofs.one_operand.Working.{kept-outside, ready-working}
use Rattle.stack.proofs.one_operand.Leaving.{two_formed}
use Rattle.stack.proofs.two_operands.form_pair.Goals as goal
use Rattle.stack.proofs.two_operands.form_pair.Goals.{After-top_size-low, After-form_two-f}

tops : (c : After-top_size-low) → Tops (slots c.args.arena.now) c.args.used (c.args.n ∷ c.top_size-low.result ∷ [])
tops c = tops-two c.requires.1 (tops-one {a = slots c.args.arena.now} c.requires.2 (rw c.sizes.ensures at c.top_size-low.ensures))

both : (c : After-top_size-low) → Pair (slots c.args.arena.now) c.args.used c.args.n c.top_size-low.result c.requires.3.some.0.stack
both c = pair (tops c) c.requires.3.some.1.stack

worked : (c : After-form_two-f) → Outside (slots c.args.arena.now) (of (seen c.form_two-f.new.book) c.args.arena.now.sizes.now) 0 128
worked c = kept-outside c.args.arena.now.sizes.now c.form_two-f.ensures.kept

formed : (c : After-form_two-f) (t s : Sum)
    → (let low = c.top_size-low.result in let up = c.args.used - c.args.n in let down = up - low in Lies (seen c.args.arena.now.book) down (down + low) 4 t
    → Lies (seen c.args.arena.now.book) up (up + c.args.n) 4 s → Agrees c.form_two-f.result.formed (seen c.form_two-f.new.book) 0 (of_two (primitive_of c.args.code) t s)
    × Counted c.form_two-f.result (pairs_of (primitive_of c.args.code) t s))
formed c t s lt ls =
    subst (λ (p : Primitive). Agrees c.form_two-f.result.formed (seen c.form_two-f.new.book) 0 (of_two p t s) × Counted c.form_two-f.result (pairs_of p t s))
    c.primitive_of-p.ensures (c.form_two-f.ensures.of_two t s lt ls, c.form_two-f.ensures.of_two_2 t s lt ls)

pub overflow_sub-down : goal.overflow_sub-down
overflow_sub-down c = let e = (both (goal.at.overflow_sub-down c).After-top_size-low).second.ends in omega arith

pub form_two-f-requires : goal.form_two-f-requires
form_two-f-requires c =
    let x = both (goal.at.form_two-f-requires c).After-top_size-low in
    let first = x.first in
    let second = x.second in
    let below = c.requires.3.some.1.below in (
      second.some,
      first.some,
      record { few = second.few; held = (x.t, second.lies); apart = over second.low },
      record { few = first.few; held = (x.s, first.lies); apart = over first.low },
      room-less {n = c.args.v} (omega arith) c.requires.3.space.cells,
    )

pub push_formed-put-requires : goal.push_formed-put-requires
push_formed-put-requires c =
    let d = (goal.at.push_formed-put-requires c).After-form_two-f in
    let x = both (goal.at.push_formed-put-requires c).After-top_size-low in
    let p = primitive_of c.args.code in
    let agrees = (formed d x.t x.s x.second.lies x.first.lies).0 in (
      filled c.form_two-f.result.formed (seen c.form_two-f.new.book) (of_two p x.t x.s) (λ r e. of-two-good p x.second.good x.first.good e) agrees,
      ready-working (worked d) (ready-popped c.requires.3 x.second.rest (omega arith)),
    )

pub returns-clause-applies : goal.returns-clause-applies
returns-clause-applies c at complex pairs =
    let put = c.push_formed-put in
    let d = (goal.at.returns-clause-applies c).After-form_two-f in
    let p = primitive_of c.args.code in
    rw c.more_pairs.ensures
    (two_formed at (1152 - c.args.v) p c.requires.0 c.requires.3 (tops (goal.at.returns-clause-applies c).After-top_size-low) (worked d)
    (λ s t ls gs lt gt.
    let told = formed d t s lt ls in
    push-paired at (1152 - c.args.v) put.result c.form_two-f.result.formed (seen c.form_two-f.new.book) (of_two p t s) told.0 told.1
    (put.ensures.agrees (of_two p t s) at told.0 complex pairs)))
