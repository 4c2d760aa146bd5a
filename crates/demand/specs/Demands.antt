-- The two demands (01, "The two demands"; 02, M-101). `x / p` is division rounded down.
--   ceil x a        == x / a rounded up, for a from 1
--   called hs l     == A(l), the work that handlers hs are called for within l ticks
--   taken a l       == of l ticks, those that go to work of which a x has been called for by the end of tick x
--   handled hs l    == f(l), the ticks of those l that handlers hs take: taken of called
--   left hs l       == A(l) - f(l), the work of handlers hs left over at the end of l ticks (02, M-106)
--   within l d p    == how many jobs, a period p apart from the first tick on, have their deadline, d ticks later, within l ticks
--   due ts l        == D(l), the work of tasks ts that is due within l ticks
--   margin ts hs l  == l - f(l) - D(l), a signed number
--   Passes ts hs l, Fails ts hs l   an interval of l ticks has room for both demands, has not
use Rattle.std.specs.Prelude.{List, ℕ, zero, suc, ◌+◌, ◌-◌, ◌*◌, ◌/◌, ◌≤◌, ◌<◌, ltb, ℤ, pos, negsuc, ◌-ℤ◌}
use Rattle.demand.specs.Rows.{Row, total}
use Rattle.demand.specs.Tests.{pick}

abbrev pub ceil : ℕ → ℕ → ℕ
ceil x a = (x + (a - 1)) / a

-- what one handler is called for within l ticks
abbrev pub called_by : ℕ → Row → ℕ
called_by l r = r.cost * ceil l r.period

unfoldable pub called : List Row → ℕ → ℕ
called hs l = total (called_by l) hs

-- one tick: f + 1 if f is below the work called for, else f
unfoldable pub grow : ℕ → ℕ → ℕ
grow f a = pick (ltb f a) (f + 1) f

unfoldable pub taken : (ℕ → ℕ) → ℕ → ℕ
taken a zero = 0
taken a (suc l) = grow (taken a l) (a (suc l))

unfoldable pub handled : List Row → ℕ → ℕ
handled hs l = taken (called hs) l

unfoldable pub left : List Row → ℕ → ℕ
left hs l = called hs l - handled hs l

-- with l at least the deadline, one more than (l - d) / p
abbrev pub within : ℕ → ℕ → ℕ → ℕ
within l d p = pick (ltb l d) 0 ((l - d) / p + 1)

-- what one task has due within l ticks
abbrev pub due_by : ℕ → Row → ℕ
due_by l r = r.cost * within l r.deadline r.period

unfoldable pub due : List Row → ℕ → ℕ
due ts l = total (due_by l) ts

unfoldable pub margin : List Row → List Row → ℕ → ℤ
margin ts hs l = pos l -ℤ pos (handled hs l) -ℤ pos (due ts l)

abbrev pub Passes : List Row → List Row → ℕ → Type 0
Passes ts hs l = handled hs l + due ts l ≤ l

abbrev pub Fails : List Row → List Row → ℕ → Type 0
Fails ts hs l = l < handled hs l + due ts l

-- a signed number below 0
abbrev pub Negative : ℤ → Type 0
Negative (pos n) = ⊥
Negative (negsuc n) = Unit
