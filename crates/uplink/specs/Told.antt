-- What a C function tells of an entry's answer.
use Rattle.std.specs.Prelude.{ℕ, ◌≡◌, cond, List, [], ◌∷◌, Float}
use Rattle.algebra.specs.Replies.{Entry, Reply, Promised}
use Rattle.algebra.specs.Replies as entry

-- what stands in `answer`
abbrev pub with_count : Reply → List ℕ
with_count r = r.place ∷ r.count ∷ []

abbrev pub with_pairs : Reply → List ℕ
with_pairs r = r.place ∷ r.count ∷ cond r.flag 1 0 ∷ r.pairs ∷ []

abbrev pub with_steps : Reply → List ℕ
with_steps r = r.place ∷ r.steps ∷ r.peak ∷ []

abbrev pub with_cost : Reply → List ℕ
with_cost r = r.place ∷ r.steps ∷ []

-- the entry's promise allows a reply, whose number is returned and whose place and counts stand in `answer`
pub record Told (e : Entry) (shown : Reply → List ℕ) (l out out' : List ℕ) (number : ℕ) (answer : List ℕ) : Type 0 where
  pub reply : Reply
  pub promised : Promised e l out out' reply
  pub returned : number ≡ reply.number
  pub told : answer ≡ shown reply

-- run and value have no output; the value stands apart
pub record Valued (e : Entry) (shown : Reply → List ℕ) (l : List ℕ) (number : ℕ) (value : Float) (answer : List ℕ) : Type 0 where
  pub reply : Reply
  pub promised : Promised e l [] [] reply
  pub returned : number ≡ reply.number
  pub valued : value ≡ reply.value
  pub told : answer ≡ shown reply

abbrev pub Ran : Float → List ℕ → ℕ → Float → List ℕ → Type 0
Ran x l number v answer = Valued (entry.run x) with_steps l number v answer
