-- The refusals' numbers, as document 01's table gives them.
use Rattle.std.specs.Prelude.{ℕ}
use Rattle.limits.specs.declared.Refusal.{Refusal}
use Rattle.limits.specs.declared.Refusal.TheVariants.{TooManyVariables, NotSupported, NoOutput, TooManyOutputs, NonScalar, NonReal, TooComplex, InterpreterBug, NoInverse, NotHandled, BadRecord, NoRoom, TooDeep, NeedsMath, NotFinite, BigPower, OutputRoom, PowerNotFinite}

abbrev pub refusal_no : Refusal → ℕ
refusal_no TooManyVariables = 1
refusal_no NotSupported = 2
refusal_no NoOutput = 3
refusal_no TooManyOutputs = 4
refusal_no NonScalar = 5
refusal_no NonReal = 6
refusal_no TooComplex = 7
refusal_no InterpreterBug = 8
refusal_no NoInverse = 9
refusal_no NotHandled = 10
refusal_no BadRecord = 11
refusal_no NoRoom = 12
refusal_no TooDeep = 13
refusal_no NeedsMath = 14
refusal_no NotFinite = 15
refusal_no BigPower = 16
refusal_no OutputRoom = 17
refusal_no PowerNotFinite = 18

-- the last number of the table
abbrev pub last_number : ℕ
last_number = 18
