-- 18: where it comes from, that integrate, both writes, run and cost never answer it, and that each other entry does. Assumes nothing.
use Prim.Native.Nat.{ℕ, ◌≤◌}
use native.Mathlib.Omega.{arith}
use mathlib.Core.Path.{◌≡◌, refl, sym, ap, subst, ◌∙◌}
use mathlib.Core.Bool.{Bool, true, false, cond, true≢false}
use mathlib.Core.List.{List, [], ◌∷◌}
use mathlib.Core.Logic.{◌⊎◌, inl, inr}
use lib.Dec.{leb}
use lib.Ieee.{fits, of_bits}
use Rattle.numbers.specs.Signs.{zero64}
use Rattle.numbers.specs.Complex.Arith as complex
use Rattle.limits.specs.declared.Refusal.{Refusal}
use Rattle.limits.specs.declared.Refusal.TheVariants.{BadRecord, TooDeep, OutputRoom, PowerNotFinite}
use Rattle.limits.specs.Refusals.{refusal_no}
use Rattle.limits.proofs.Refusals.{same_number}
use Rattle.sums.specs.Tree.Kinds.{X, Div}
use Rattle.sums.specs.Tree.Sums.{Sum, none, and, size}
use Rattle.sums.specs.Tree.Good.{Good}
use Rattle.sums.specs.Tree.Map.{Outcome, sum, refused}
use Rattle.sums.proofs.tree.Overflow.{overflows, overflowed}
use Rattle.std.specs.Prelude.{Result, Ok, Err}
use Rattle.sums.specs.Entry.Encoding.{entries_in, encode_sum}
use Rattle.sums.specs.Entry.Taking.{Weighed}
use Rattle.sums.proofs.bytes.Laws.{encode-unique}
use Rattle.sums.proofs.bytes.Theorem.{weighed-good, only}
use Rattle.formats.specs.Tree.{records_in}
use Rattle.formats.specs.declared.record.Primitive.TheVariants.{Dup, Mul, Pow}
use Rattle.writing.specs.Draft.Writing.{push, does}
use Rattle.writing.specs.ToNodes.{to_nodes}
use Rattle.writing.specs.Faithful.{faithful}
use Rattle.writing.proofs.Refusals.{only-15}
use Rattle.writing.proofs.Writers.{faithful-15}
use Rattle.running.specs.Running.{run_list, numbers_of}
use Rattle.running.proofs.Refusals.{run-number}
use Rattle.values.specs.ValueOf.{value_numbers}
use Rattle.values.proofs.Taking.{value-number}
use Rattle.reading.specs.Cost.Cost.{cost_list, cost_numbers}
use Rattle.reading.proofs.cost.Theorem.{cost-number}
use Rattle.calculus.specs.Integral as integrals
use Rattle.calculus.proofs.Overflow.{derive-overflow, integrate-quiet}
use Rattle.modifiers.specs.Reading as bodies
use Rattle.algebra.specs.declared.answer.Answer.{Answer}
use Rattle.algebra.specs.declared.answer.Answer.TheVariants as given
use Rattle.algebra.specs.Answer.Making as making
use Rattle.algebra.specs.Answer.Making.{Made, made, refused_at, of_outcome, of_sum, answered, answer_numbers, Gives, OfBytes}
use Rattle.algebra.proofs.answer.Giving.{gives-refusal}
use Rattle.algebra.proofs.answer.Told.{refused-same, not_made, list-refused}
use Rattle.algebra.specs.declared.ReadAnswer.TheVariants as answer
use Rattle.algebra.specs.Reading as readings
use Rattle.algebra.specs.Reading.{read_list, answer_of}
use Rattle.algebra.specs.Entries as lists
use Rattle.algebra.specs.Entries.{after_read, inverse_of}
use Rattle.algebra.specs.Replies
use Rattle.algebra.specs.Replies.{Reply, of_read, of_answer}
use Rattle.theorems.specs.Cases.{bytes_of}
use Rattle.theorems.specs.Composing.{ReadGives}
use Rattle.theorems.specs.PowerOverflow.{OfPowers, OfCalculus, OnlyThese, EachOfThese, OnlyTheseFunctions, e308, minus_e308, table, Examples}
use Rattle.theorems.proofs.Computing.{arithmetic, comparing, list_bytes, list_rules, sum_bytes, maps, products, raised, steps, reading, calculus}

-- ---- where it comes from

pub of-powers : OfPowers
of-powers m x t s = (overflowed m x t s, λ h. overflows m x t s h.0 h.1)

pub of-calculus : OfCalculus
of-calculus = record {
  derived = λ s g h. let o = derive-overflow s g h in record { number = o.0; inside = o.1; coefficient = o.2; has = o.3; square = o.4 };
  integrated = integrate-quiet;
}

-- ---- no other entry

-- what was made is answered with 18 only where it is refused so
made-overflows : (m : Made) (room : ℕ) → (answer_numbers (answered m room)).number ≡ 18 → (at : ℕ) × (m ≡ refused_at PowerNotFinite at)
made-overflows (refused_at q at) room n = (at, ap (λ p. refused_at p at) (same_number q PowerNotFinite n))
made-overflows (made k bytes) room n = absurd (go (leb k room) n)
  where
    go : (b : Bool) → (answer_numbers (cond b (given.Done k) (given.Refused OutputRoom 0))).number ≡ 18 → ⊥
    go true n = omega arith
    go false n = omega arith

-- so too of a sum that is handed over, which is itself refused with 11 or 13 alone
bytes-overflow : {room : List ℕ → ℕ} {f : Sum → Made} {l out out' : List ℕ} {a : Answer} → OfBytes room f l out out' a
    → ((s : Sum) (at : ℕ) → Good 4 s → f s ≡ refused_at PowerNotFinite at → ⊥)
    → (answer_numbers a).number ≡ 18 → ⊥
bytes-overflow {room} {f} {l} {out} {out'} {a} p k n = go p.weight refl
  where
    from : (m : Made) → Gives room m out out' a → (at : ℕ) × (m ≡ refused_at PowerNotFinite at)
    from m g = made-overflows m (room out) (ap (λ b. (answer_numbers b).number) (sym g.answered) ∙ n)

    weighed : (q : Refusal) → q ≡ PowerNotFinite → (q ≡ TooDeep) ⊎ (q ≡ BadRecord) → ⊥
    weighed q e (inl d) = let z : ◌≡◌ {A = ℕ} 18 13 = ap refusal_no (sym e ∙ d) in omega arith
    weighed q e (inr d) = let z : ◌≡◌ {A = ℕ} 18 11 = ap refusal_no (sym e ∙ d) in omega arith

    go : (t : Result ℕ Refusal) → p.weight ≡ t → ⊥
    go (Err q) e = weighed q (refused-same (from (refused_at q 0) (p.refuses q e)).1).0 (only l q (subst (Weighed l) e p.weighed))
    go (Ok c) e =
        let s = (p.weighed.good c).0 e in
        let o = from (f s.0) (p.takes c e s.0 s.1 s.3) in
        k s.0 o.0 s.3 o.1

integrate-never : (s : Sum) (at : ℕ) → Good 4 s → making.integrate s ≡ refused_at PowerNotFinite at → ⊥
unfolding making.integrate
integrate-never s at g h = integrate-quiet s g (outcome (integrals.integrate s) h)
  where
    outcome : (o : Outcome) → of_outcome o of_sum ≡ refused_at PowerNotFinite at → o ≡ refused PowerNotFinite
    outcome (sum u) e = absurd (not_made (sym e))
    outcome (refused q) e = ap refused (refused-same e).0

write-never : (c : Bool) (s : Sum) (at : ℕ) → making.write c s ≡ refused_at PowerNotFinite at → ⊥
unfolding making.write
write-never c s at h = let z : ◌≡◌ {A = ℕ} 18 15 = ap refusal_no (only-15 c s PowerNotFinite (list-refused (to_nodes c s) h)) in omega arith

faithful-never : (c : Bool) (s : Sum) (at : ℕ) → making.write_faithful c s ≡ refused_at PowerNotFinite at → ⊥
unfolding making.write_faithful
faithful-never c s at h = let z : ◌≡◌ {A = ℕ} 18 15 = ap refusal_no (faithful-15 c s PowerNotFinite (list-refused (faithful c s) h)) in omega arith

-- a reply's number is its answer's
bytes-never : {room : List ℕ → ℕ} {f : Sum → Made} {l out out' : List ℕ} {a : Answer} {r : Reply} → r ≡ of_answer a → OfBytes room f l out out' a
    → ((s : Sum) (at : ℕ) → Good 4 s → f s ≡ refused_at PowerNotFinite at → ⊥) → r.number ≡ 18 → ⊥
bytes-never e p k n = bytes-overflow p k (ap (λ z. z.number) (sym e) ∙ n)

pub only-these : OnlyThese
only-these Replies.read l out out' r p n = tt
only-these Replies.derive l out out' r p n = tt
only-these Replies.integrate l out out' r p n = bytes-never p.1 p.2 integrate-never n
only-these (Replies.write c) l out out' r p n = bytes-never p.1 p.2 (λ s at g. write-never c s at) n
only-these Replies.derivative l out out' r p n = tt
only-these Replies.integral l out out' r p n = tt
only-these (Replies.write_faithful c) l out out' r p n = bytes-never p.1 p.2 (λ s at g. faithful-never c s at) n
only-these Replies.derivative_faithful l out out' r p n = tt
only-these Replies.integral_faithful l out out' r p n = tt
only-these Replies.inverse l out out' r p n = tt
only-these (Replies.run x) l out out' r p n = absurd (let z : 18 ≡ (numbers_of (run_list l x)).number = sym n ∙ ap (λ z. z.number) p.0 in omega (arith, run-number l x))
only-these Replies.cost l out out' r p n = absurd (let z : 18 ≡ (cost_numbers (cost_list l)).number = sym n ∙ ap (λ z. z.number) p.0 in omega (arith, cost-number l))
only-these (Replies.value x) l out out' r p n = absurd (let z : 18 ≡ (value_numbers p.0).number = sym n ∙ ap (λ z. z.number) p.1 in omega (arith, value-number p.2))

pub only-these-functions : OnlyTheseFunctions
only-these-functions = record {
  tells = λ e shown l out out' no answer t n. only-these e l out out' t.reply t.promised (sym t.returned ∙ n);
  values = λ e shown l no v answer t n. only-these e l [] [] t.reply t.promised (sym t.returned ∙ n);
}

-- ---- each of them

-- x to the -1e308, squared
abbrev squared : List ℕ
squared = bytes_of (push minus_e308 ∷ does Pow ∷ does Dup ∷ does Mul ∷ [])

squared-read : read_list squared ≡ bodies.refused_at PowerNotFinite 3 false
unfolding arithmetic comparing list_bytes list_rules sum_bytes maps products raised steps reading
squared-read = refl

-- 1 over x to the 1e308, whose derivative has the square of that
abbrev quotient : Sum
quotient = and Div zero64 (and X e308 none complex.one none) complex.one none

quotient-good : Good 4 quotient
unfolding Good fits of_bits
quotient-good = (
  record { least = omega arith; most = omega arith; number = tt; none_else = λ e. refl; re = tt; im = tt; inside = refl },
  (record { least = omega arith; most = omega arith; number = tt; none_else = λ e. absurd (true≢false e); re = tt; im = tt; inside = refl }, tt, tt, tt),
  tt,
  tt,
)

quotient-small : (1 ≤ size quotient) × (size quotient ≤ 64)
unfolding size
quotient-small = (omega arith, omega arith)

derived : making.derive quotient ≡ refused_at PowerNotFinite 0
unfolding arithmetic comparing sum_bytes maps products calculus making.derive
derived = refl

derive-told : OfBytes entries_in making.derive (encode_sum quotient) [] [] (given.Refused PowerNotFinite 0)
derive-told = record {
  weight = Ok (size quotient);
  weighed = weighed-good quotient quotient-good quotient-small.0 quotient-small.1;
  refuses = λ q e. absurd (not-both e);
  takes = λ n e s b g.
      let is : quotient ≡ s = encode-unique 4 4 quotient s quotient-good g quotient-small.1 (sym b) in
      subst (λ m. Gives entries_in m [] [] (given.Refused PowerNotFinite 0)) (sym derived ∙ ap making.derive is) (gives-refusal entries_in PowerNotFinite 0 []);
}
  where
    not-both : {n : ℕ} {q : Refusal} → Ok n ≡ Err q → ⊥
    not-both e = let z : ◌≡◌ {A = ℕ} 0 1 = cc in omega arith

-- what is made of a list that is refused while it is read
refusing : (m : Made) → m ≡ refused_at PowerNotFinite 3 → (a : Answer) × (of_answer (given.Refused PowerNotFinite 3) ≡ of_answer a) × Gives records_in m [] [] a
refusing m e = (given.Refused PowerNotFinite 3, refl, subst (λ k. Gives records_in k [] [] (given.Refused PowerNotFinite 3)) (sym e) (gives-refusal records_in PowerNotFinite 3 []))

squared-derived : lists.derivative squared ≡ refused_at PowerNotFinite 3
unfolding lists.derivative
squared-derived = ap (λ x. after_read x making.derive_and_write) squared-read

squared-integrated : lists.integral squared ≡ refused_at PowerNotFinite 3
unfolding lists.integral
squared-integrated = ap (λ x. after_read x making.integrate_and_write) squared-read

squared-derived-faithful : lists.derivative_faithful squared ≡ refused_at PowerNotFinite 3
unfolding lists.derivative_faithful
squared-derived-faithful = ap (λ x. after_read x making.derive_and_write_faithful) squared-read

squared-integrated-faithful : lists.integral_faithful squared ≡ refused_at PowerNotFinite 3
unfolding lists.integral_faithful
squared-integrated-faithful = ap (λ x. after_read x making.integrate_and_write_faithful) squared-read

squared-inverted : lists.inverse squared ≡ refused_at PowerNotFinite 3
unfolding lists.inverse
squared-inverted = ap inverse_of squared-read

pub each-of-these : EachOfThese
each-of-these Replies.read t =
    let told : ReadGives (read_list squared) [] [] (answer.Refused PowerNotFinite 3) =
    record { answered = ap (λ x. answer_of x []) (sym squared-read); written = ap (λ x. readings.bytes_of x []) (sym squared-read) } in
    (squared, of_read (answer.Refused PowerNotFinite 3), (answer.Refused PowerNotFinite 3, refl, told), refl)
each-of-these Replies.derive t = (encode_sum quotient, of_answer (given.Refused PowerNotFinite 0), (given.Refused PowerNotFinite 0, refl, derive-told), refl)
each-of-these Replies.derivative t = (squared, of_answer (given.Refused PowerNotFinite 3), refusing (lists.derivative squared) squared-derived, refl)
each-of-these Replies.integral t = (squared, of_answer (given.Refused PowerNotFinite 3), refusing (lists.integral squared) squared-integrated, refl)
each-of-these Replies.inverse t = (squared, of_answer (given.Refused PowerNotFinite 3), refusing (lists.inverse squared) squared-inverted, refl)
each-of-these Replies.derivative_faithful t = (squared, of_answer (given.Refused PowerNotFinite 3), refusing (lists.derivative_faithful squared) squared-derived-faithful, refl)
each-of-these Replies.integral_faithful t = (squared, of_answer (given.Refused PowerNotFinite 3), refusing (lists.integral_faithful squared) squared-integrated-faithful, refl)
each-of-these Replies.integrate t = absurd t
each-of-these (Replies.write_faithful c) t = absurd t
each-of-these (Replies.write c) t = absurd t
each-of-these (Replies.run x) t = absurd t
each-of-these (Replies.value x) t = absurd t
each-of-these Replies.cost t = elim t [ ]

-- ---- some lists

pub examples : Examples
unfolding table arithmetic comparing list_bytes list_rules sum_bytes maps products raised steps reading
examples = refl
