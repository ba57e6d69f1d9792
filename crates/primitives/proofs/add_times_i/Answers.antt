-- i lies at w, the product is formed behind it, and then the sum at w.
use Rattle.std.proofs.Common.{ℕ, ◌+◌, ap, arith}
use Rattle.std.proofs.lemmas.Result.{err_from_is_err_and}
use Rattle.numbers.specs.Complex.Arith.{imaginary}
use Rattle.cells.specs.Contract.Book.{Book, seen}
use Rattle.cells.specs.Contract.Moves.{Kept, under, over}
use Rattle.cells.proofs.Laws.{room-less, room-same, kept_trans, kept-wider, put-kept}
use Rattle.sums.specs.Tree.Sums.{Sum}
use Rattle.sums.specs.Tree.Map.{Outcome, and_then_sum}
use Rattle.arithmetic.specs.Singles.{constant}
use Rattle.arithmetic.specs.Adding.{add_sums}
use Rattle.arithmetic.specs.Product.{product}
use Rattle.sums.specs.Contract.Lies.{Lies, Agrees}
use Rattle.arithmetic.specs.Add.Contract.Operands.{Source}
use Rattle.arithmetic.proofs.add.Lying.{clear, lies-clear, agreed-done, agreed-refused, agree-refused}
use Rattle.arithmetic.proofs.add.Places.{kept-working, room-result, room-working, result-operand, working-operand}
use Rattle.primitives.proofs.Constants.{constant-lies, imaginary-finite, imaginary-fits}
use Rattle.primitives.proofs.add_times_i.Goals as goal
use Rattle.primitives.proofs.add_times_i.Goals.{After-store, After-mul}

kept : (c : After-store) → Kept (seen c.args.book.now) (seen c.store.new.self) c.args.w (c.args.w + (64 + 64))
kept c = kept-wider (omega arith) (omega arith) (put-kept c.store.ensures.put)

still : {b b' : Book} {i n w : ℕ} → Kept b b' w (w + (64 + 64)) → Source b i n w → Source b' i n w
still k s = record { few = s.few; held = (s.held.0, lies-clear k (clear s.apart) s.held.1); apart = s.apart }

laid : (c : After-store) → Lies (seen c.store.new.self) c.args.w (c.args.w + 1) 4 (constant imaginary)
laid c = constant-lies imaginary imaginary-finite c.args.w (room-less {n = c.args.w + (64 + 64)} (omega arith) c.requires.2) imaginary-fits c.store.ensures.put

kept-both : (c : After-mul) → Kept (seen c.args.book.now) (seen c.mul.new.book) c.args.w (c.args.w + (64 + 64))
kept-both c = kept_trans (kept (goal.at.After-mul c).After-store) (kept-working c.mul.ensures.kept)

-- what was answered of the product
told : (c : After-mul) (a : Sum) → Lies (seen c.args.book.now) c.args.j (c.args.j + c.args.m) 4 a
    → Agrees c.mul.result (seen c.mul.new.book) (c.args.w + 64) (product a (constant imaginary))
told c a la =
    let d = (goal.at.After-mul c).After-store in
    c.mul.ensures.of_two a (constant imaginary) (lies-clear (kept d) (clear c.requires.1.apart) la) (laid d)

pub mul-requires : goal.mul-requires
mul-requires c =
    let d = (goal.at.mul-requires c).After-store in (
      working-operand (still (kept d) c.requires.1),
      record { few = omega arith; held = (constant imaginary, laid d); apart = under (omega arith) },
      room-working c.args.w (room-same (kept d).long c.requires.2),
    )

pub returns-in_err-k-clause-of_two : goal.returns-in_err-k-clause-of_two
returns-in_err-k-clause-of_two c b a lb la =
    let d = (goal.at.returns-in_err-k-clause-of_two c).After-mul in
    let e = agreed-refused (seen c.mul.new.book) (c.args.w + 64) _ c.mul.result _ (told d a la) c.in_err-k.was in
    let p = err_from_is_err_and c.from_residual.result c.from_residual.ensures.1 in
    rw (p.1, p.2) (agree-refused (seen c.mul.new.book) c.args.w _ _ (ap (λ (u : Outcome). and_then_sum u (add_sums b)) e))

pub expr_add-requires : goal.expr_add-requires
expr_add-requires c =
    let d = (goal.at.expr_add-requires c).After-mul in
    let held = c.requires.1.held in
    let f = agreed-done (seen c.mul.new.book) _ _ c.mul.result _ (told d held.0 held.1) c.in_ok-k.was in (
      result-operand (still (kept-both d) c.requires.0),
      record { few = f.few; held = (f.s, f.lies); apart = over (omega arith) },
      room-result c.args.w (room-same (kept-both d).long c.requires.2),
    )

pub returns-clause-of_two : goal.returns-clause-of_two
returns-clause-of_two c b a lb la =
    let d = (goal.at.returns-clause-of_two c).After-mul in
    let f = agreed-done (seen c.mul.new.book) _ _ c.mul.result _ (told d a la) c.in_ok-k.was in
    rw f.is (c.expr_add.ensures.of_two b f.s (lies-clear (kept-both d) (clear c.requires.0.apart) lb) f.lies)
