-- The span as it is said (02, M-110: numbers as in 01, but up to 10 digits): in decimal, with no leading zero.
--   span_limit         == the first number of more than 10 digits: above every H, so that it is refused by 17
--   span_said bs       == the span that the bytes bs say, span_limit where they are no number
--   SpansRead         a span in decimal is read as that span
use Rattle.std.specs.Prelude.{List, ◌≡◌, ℕ, ◌<◌}
use Rattle.text.specs.Numbers.{decimal}
use Rattle.text.specs.Spelled.{spelled}

abbrev pub span_limit : ℕ
span_limit = 10000000000

abbrev pub span_said : List ℕ → ℕ
span_said bs = spelled span_limit bs

abbrev pub SpansRead : Type 0
SpansRead = (n : ℕ) → n < span_limit → span_said (decimal n) ≡ n
