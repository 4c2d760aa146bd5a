-- Rows at work (01, "One tick of the scheduler"): what every schedule has to do with, ours and any other.
--   Live                   == a row at work: its next legal arrival, the deadline of its last job and the work that it is owed
--   due_of x                == the deadline of the last job of task x
--   period_of x             == the period of row x, by which fixed priorities go (02, M-103)
--   idle rs                == rows at work that are owed nothing and may arrive at once
--   arrive t w x           == row x after an arrival of w at tick t; arrive_all for each row its own number
--   owed_all xs             == all work owed
--   left n x               == row x with n left to do
--   OnTime t ts            no task is owed work at its deadline t
use Rattle.std.specs.Prelude.{List, [], ◌∷◌, ◌≡◌, ℕ, zero, suc, ◌+◌}
use Rattle.demand.specs.Rows.{Row}

pub record Live : Type 0 where
  pub row : Row
  pub next : ℕ
  pub due : ℕ
  pub owed : ℕ

abbrev pub due_of : Live → ℕ
due_of x = x.due

abbrev pub period_of : Live → ℕ
period_of x = x.row.period

unfoldable pub idle : List Row → List Live
idle [] = []
idle (r ∷ rs) = record { row = r; next = 0; due = 0; owed = 0 } ∷ idle rs

-- ---- arrivals

abbrev pub arrive : ℕ → ℕ → Live → Live
arrive t zero x = x
arrive t (suc w) x = record { row = x.row; next = t + x.row.period; due = t + x.row.deadline; owed = x.owed + suc w }

-- Rows without a number have no arrival.
unfoldable pub arrive_all : ℕ → List ℕ → List Live → List Live
arrive_all t [] xs = xs
arrive_all t (w ∷ ws) [] = []
arrive_all t (w ∷ ws) (x ∷ xs) = arrive t w x ∷ arrive_all t ws xs

-- ---- work owed

unfoldable pub owed_all : List Live → ℕ
owed_all [] = 0
owed_all (x ∷ xs) = x.owed + owed_all xs

abbrev pub left : ℕ → Live → Live
left n x = record { row = x.row; next = x.next; due = x.due; owed = n }

abbrev pub OnTime : ℕ → List Live → Type 0
OnTime t [] = Unit
OnTime t (x ∷ xs) = (due_of x ≡ t → x.owed ≡ 0) × OnTime t xs
