-- Text in a fixed space: its bytes, one behind the other.
--   text_most        == the most bytes of a text
--   put_of text b    == one byte more, where there is room
--   puts_of text bs  == the bytes bs more
use Rattle.std.specs.Prelude.{List, [], ◌∷◌, ◌++◌, ℕ, ltb, length}
use Rattle.demand.specs.Tests.{pick}

abbrev pub text_most : ℕ
text_most = 224

unfoldable pub put_of : List ℕ → ℕ → List ℕ
put_of text b = pick (ltb (length text) text_most) (text ++ (b ∷ [])) text

unfoldable pub puts_of : List ℕ → List ℕ → List ℕ
puts_of text [] = text
puts_of text (b ∷ bs) = puts_of (put_of text b) bs
