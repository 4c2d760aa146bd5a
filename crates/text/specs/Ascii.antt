-- Bytes of a quoted text.
--   ascii s   == the codes of the characters of s: for ASCII, its bytes
--   crlf      == the end of a line
use Rattle.std.specs.Prelude.{List, [], ◌∷◌, ℕ}
use Prim.Native.Char.{code}
use Prim.Native.String.{String}
use Prim.Native.String as string

abbrev pub ascii : String → List ℕ
ascii string.[] = []
ascii (string.◌∷◌ c s) = code c ∷ ascii s

abbrev pub crlf : List ℕ
crlf = 13 ∷ 10 ∷ []
