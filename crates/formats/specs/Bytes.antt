-- Numbers as bytes, the lowest first.
use Rattle.std.specs.Prelude.{ℕ, zero, suc, ◌+◌, ◌*◌, ◌/◌, ◌%◌, ◌<◌, List, [], ◌∷◌, take, drop, get_or}

-- the number that a list of bytes stands for
unfoldable pub value : List ℕ → ℕ
value [] = 0
value (b ∷ l) = b + 256 * value l

-- the n bytes of a number
unfoldable pub bytes : ℕ → ℕ → List ℕ
bytes zero v = []
bytes (suc n) v = v % 256 ∷ bytes n (v / 256)

-- the n elements of a list from a place on
abbrev pub part : {A : Type 0} → ℕ → ℕ → List A → List A
part at n s = take n (drop at s)

-- the number in the n bytes from a place on
abbrev pub number : ℕ → List ℕ → ℕ → ℕ
number n s at = value (part at n s)

-- every element is a byte
abbrev pub Bytes : List ℕ → Type 0
Bytes s = (i : ℕ) → get_or s i 0 < 256
