-- Document 01's limits by name, as the code's constants have them.
use Rattle.std.specs.Prelude.{ℕ, suc}

-- a sum, insides counted
abbrev pub sum_entries : ℕ
sum_entries = 64

-- how many others an entry of a sum may be inside, and so how many may lie one inside the other
abbrev pub entry_inside : ℕ
entry_inside = 3

abbrev pub sum_levels : ℕ
sum_levels = suc entry_inside

-- on the stack and held, while a list is read
abbrev pub stack_entries : ℕ
stack_entries = 1024

-- a list that is handed over
abbrev pub list_records : ℕ
list_records = 2048

-- how many others a node of a list may be inside, and so how many may lie one inside the other
abbrev pub node_inside : ℕ
node_inside = 128

abbrev pub list_levels : ℕ
list_levels = suc node_inside

-- a node record and a sum entry as bytes
abbrev pub record_bytes : ℕ
record_bytes = 24

abbrev pub entry_bytes : ℕ
entry_bytes = 32

-- the highest whole power of a sum or a number that is worked out
abbrev pub highest_power : ℕ
highest_power = 64

-- on the runner's stack and held
abbrev pub run_values : ℕ
run_values = 256

-- how many primitives have to be handled for a list to be undone, where no sum on the stack is complex
abbrev pub handled_needed : ℕ
handled_needed = 2

-- where a list to be undone doesn't count as handled, the refusals of reading up to this number become 10
abbrev pub last_replaced : ℕ
last_replaced = 9
