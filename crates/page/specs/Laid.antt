-- Bytes laid over a page, all of them or none.
--   room m at n        == from place `at` on a page of m bytes has room for n
--   end_of m at n       == where they end, `at` where there is no room
--   laid page at bs    == the page with the bytes bs from place `at` on, as it is where there is no room
use Rattle.std.specs.Prelude.{Bool, ◌&&◌, List, ℕ, ◌+◌, ◌-◌, leb, length}
use Rattle.std.proofs.Math.Seq.{paste}
use Rattle.demand.specs.Tests.{pick}

abbrev pub room : ℕ → ℕ → ℕ → Bool
room m at n = leb at m && leb n (m - at)

unfoldable pub end_of : ℕ → ℕ → ℕ → ℕ
end_of m at n = pick (room m at n) (at + n) at

unfoldable pub laid : List ℕ → ℕ → List ℕ → List ℕ
laid page at bs = pick (room (length page) at (length bs)) (paste page at bs (length bs)) page
