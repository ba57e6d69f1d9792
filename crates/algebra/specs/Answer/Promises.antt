-- What an entry promises: its answer, and every byte of the output lent to it, past what is written and on a refusal too.
use Rattle.std.specs.Prelude.{ℕ, ◌≡◌, List}

-- the answer is r, and the bytes are now out'; `answer` and `bytes` say what they must be, of the bytes as they were
pub record Promise {A : Type 0} (answer : List ℕ → A) (bytes : List ℕ → List ℕ) (out out' : List ℕ) (r : A) : Type 0 where
  pub answered : r ≡ answer out
  pub written : out' ≡ bytes out
