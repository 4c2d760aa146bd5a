-- Case 9 in full (01, "File and printed line"; 02, M-101): what is read and what is printed.
--   case_nine        == the file: rows `task,2,5`, `task,4,8`, `handler,1,4`
--   case_nine_four    == the same table under the header of four columns, each deadline equal to its period
--   case_nine_sheet   == the two lines that 01 prints for it
--   Prints bs ls    the sheet's promise allows the lines ls for the file bs and nothing else
--   CaseNinePrints  both files print those lines
use Rattle.std.specs.Prelude.{List, ◌++◌, ◌≡◌, ℕ, None}
use Rattle.sheet.specs.Whole.{SheetSays}
use Rattle.sheet.specs.declared.Output.{Output}
use Rattle.text.specs.Ascii.{ascii, crlf}

abbrev pub case_nine : List ℕ
case_nine =
    ascii "kind,cost,period" ++ crlf
    ++ ascii "task,2,5" ++ crlf
    ++ ascii "task,4,8" ++ crlf
    ++ ascii "handler,1,4" ++ crlf

abbrev pub case_nine_four : List ℕ
case_nine_four =
    ascii "kind,cost,period,deadline" ++ crlf
    ++ ascii "task,2,5,5" ++ crlf
    ++ ascii "task,4,8,8" ++ crlf
    ++ ascii "handler,1,4," ++ crlf

abbrev pub case_nine_sheet : List ℕ
case_nine_sheet = ascii "verdict,code,interval,handler,task,load,left,tested" ++ crlf ++ ascii "misses,0,10,3,8,1150000,0,3" ++ crlf

abbrev pub Prints : List ℕ → List ℕ → Type 0
Prints bs ls = (out : Output) → SheetSays bs out → out ≡ record { text = ls; refusal = None }

abbrev pub CaseNinePrints : Type 0
CaseNinePrints = Prints case_nine case_nine_sheet × Prints case_nine_four case_nine_sheet
